-- The lines of the entries are written one after the other: after so many turns those of the first so many stand on the page.
use Rattle.std.proofs.Common.{arith, []}
use Rattle.texts.specs.declared.entry.Entry.{Entry}
use Rattle.texts.proofs.Steps.{both}
use Rattle.texts.proofs.Putting.{putting-none, putting-legal, putting-room, putting-more, putting-done}
use Rattle.texts.proofs.entry.put_entries.Goals as goal

-- A place past the end, as the checker has it.
abbrev blank : Entry
blank = record { code = record { digits = []; len = 0 }; number = 0 }

pub loop-entry-init : goal.loop-entry-init
loop-entry-init c = putting-none c.requires.0 c.requires.1

pub put_entry-requires : goal.put_entry-requires
put_entry-requires c =
    ((both _ _ (putting-legal blank c.loop-entry.invariant c.loop-entry-test.true)).0, putting-room blank c.loop-entry.invariant c.loop-entry-test.true)

pub loop-entry-preserved : goal.loop-entry-preserved
loop-entry-preserved c = putting-more blank c.loop-entry.invariant c.loop-entry-test.true c.put_entry.ensures

pub returns : goal.returns
returns c = putting-done blank c.loop-entry.invariant (omega arith)
