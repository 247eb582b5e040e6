-- The positions are asked one after the other: those from the index on decide whether they rise, until one does not or none is left.
use Rattle.replica.proofs.Checked.{Risen}
use Rattle.replica.proofs.checks.PlacedSlip.deps_rise.Given as goal

abbrev pub invariant-loop-at : goal.invariant-loop-at
invariant-loop-at l = Risen l.fn.self.payer l.at-items l.least l.at-index
