-- The positions are asked one after the other: those from the index on decide whether they rise, until one does not or none is left.
use native.Mathlib.Omega.{arith}
use Rattle.replica.proofs.Checked.{placed, place-most, risen-none, risen-low, risen-payer, risen-more, risen-done, rises}
use Rattle.replica.proofs.checks.PlacedSlip.deps_rise.Goals as goal
use Rattle.replica.proofs.checks.PlacedSlip.deps_rise.Goals.{then-at-least-via-then-at-least, then-at-least-via-else-at-least+then-at-self}

pub loop-at-init : goal.loop-at-init
loop-at-init c = risen-none _ _

pub loop-at-preserved : goal.loop-at-preserved
loop-at-preserved c = risen-more c.loop-at.invariant c.loop-at-test.true c.if-at-least.false c.if-at-self.false

pub returns-then-at-least : goal.returns-then-at-least
returns-then-at-least c = rises c.args.self.now (elim c.then-at-least.branch [
  | then-at-least-via-then-at-least w ↦ risen-low c.loop-at.invariant c.loop-at-test.true w.if-at-least.true
  | then-at-least-via-else-at-least+then-at-self w ↦ risen-payer c.loop-at.invariant c.loop-at-test.true w.if-at-least.false w.if-at-self.true
])

pub overflow_add-least : goal.overflow_add-least
overflow_add-least c = omega (arith, place-most (placed c.args.self.now) c.loop-at.at-index c.loop-at-test.true)

pub returns : goal.returns
returns c = rises c.args.self.now (risen-done c.loop-at.invariant c.loop-at-test.false)
