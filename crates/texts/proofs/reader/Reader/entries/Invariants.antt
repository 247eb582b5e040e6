-- The lines read so far are the first entries, and the rest of the text is left.
use mathlib.Core.Path.{◌≡◌}
use mathlib.Core.Option.{some}
use lib.ListN.{take}
use Rattle.texts.specs.Layout.{several}
use Rattle.texts.specs.Entries.{entry_line}
use Rattle.texts.proofs.reader.Reader.entries.Given as goal

abbrev pub invariant-loop-entry : goal.invariant-loop-entry
invariant-loop-entry l = several (entry_line l.name) l.entry-index l.initial.self ≡ some (take l.entry-index l.entry-items, l.self)
