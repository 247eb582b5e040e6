-- The lines of the entries are written one after the other: after so many turns those of the first so many stand on the page.
use Rattle.texts.specs.Entries.{entry_line}
use Rattle.texts.proofs.Putting.{Putting}
use Rattle.texts.proofs.entry.put_entries.Given as goal

abbrev pub invariant-loop-entry : goal.invariant-loop-entry
invariant-loop-entry l = Putting (entry_line l.name) l.initial.pen l.entries l.pen l.entry-index
