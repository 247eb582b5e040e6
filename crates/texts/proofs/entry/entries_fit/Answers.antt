-- All of the first n are entries that a line can carry, and all of the others are zero.
use Rattle.std.proofs.Common.{rules, ◌≡◌, take}
use Rattle.texts.specs.Bytes.{all_of}
use Rattle.texts.specs.Entries.{is_entry, zero_entry, no_entry}
use Rattle.texts.proofs.Values.{all_is, skip, stop}
use Rattle.texts.proofs.entry.entries_fit.Goals as goal

pub returns-then-all : goal.returns-then-all
returns-then-all c =
    let used : c.all.result ≡ all_of is_entry (take c.args.n c.args.entries.now) = all_is is_entry _ no_entry _ (search rules) (search rules) in
    skip _ _ _ (search rules) (all_is zero_entry _ no_entry _ (search rules) (search rules))

pub returns-else-all : goal.returns-else-all
returns-else-all c = stop _ _ _ (all_is is_entry _ no_entry _ (search rules) (search rules)) c.if-all.false
