-- The lines read so far are the first entries, and the rest of the text is left.
use mathlib.Core.Path.{refl}
use native.Mathlib.Omega.{arith}
use lib.ListN.{replicate}
use lib.Seq.{length-take-le}
use Rattle.texts.specs.Bounds.{most_shops}
use Rattle.texts.specs.Layout.{several}
use Rattle.texts.specs.Entries.{no_entry, zero_entry, entry_line}
use Rattle.texts.proofs.Reading.{several-set, group-missing, group-there}
use Rattle.texts.proofs.reader.Reader.entries.Goals as goal

pub loop-entry-init : goal.loop-entry-init
unfolding several
loop-entry-init c = refl

pub returns-in_err-entry : goal.returns-in_err-entry
returns-in_err-entry c =
    let size = length-take-le c.args.n (replicate most_shops c.none-entries.result) c.requires in
    rw c.from_residual.ensures (group-missing (entry_line _) _ _ _ _ c.loop-entry.invariant most_shops no_entry zero_entry _ (omega (arith, size)) c.in_err-entry.ensures)

pub loop-entry-preserved : goal.loop-entry-preserved
loop-entry-preserved c = several-set (entry_line _) _ _ _ _ c.loop-entry.invariant _ _ (omega arith) c.in_ok-entry.ensures

pub returns : goal.returns
returns c =
    let size = length-take-le c.args.n (replicate most_shops c.none-entries.result) c.requires in
    group-there (entry_line _) _ _ _ _ c.loop-entry.invariant most_shops no_entry c.none-entries.result zero_entry c.args.n c.none-entries.ensures c.requires (omega (arith, size)) (omega (arith, size))
