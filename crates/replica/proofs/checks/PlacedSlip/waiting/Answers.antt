-- From the last dependency to the first each number goes to its shop's place: after the turns those of the dependencies from `i` on stand there.
use Prim.Native.Nat.{◌-◌}
use native.Mathlib.Omega.{arith}
use Rattle.replica.proofs.Checked.{asked-none, asked-more, asked-done, placed_below}
use Rattle.replica.proofs.checks.PlacedSlip.waiting.Goals as goal

pub loop-i-init : goal.loop-i-init
loop-i-init c = asked-none c.args.self.now

pub offset_bounds-needs-self : goal.offset_bounds-needs-self
offset_bounds-needs-self c = omega (arith, placed_below c.args.self.now c.requires (c.loop-i.i - 1) (omega arith))

pub bounds-needs-self : goal.bounds-needs-self
bounds-needs-self c = placed_below c.args.self.now c.requires (c.loop-i.i - 1) (omega arith)

pub loop-i-preserved : goal.loop-i-preserved
loop-i-preserved c = asked-more c.args.self.now c.requires c.loop-i.invariant (c.loop-i.i - 1) _ (omega arith)

pub returns : goal.returns
returns c = asked-done c.args.self.now c.requires c.loop-i.invariant c.loop-i-test.false
