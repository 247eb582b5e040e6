-- The codes are looked up one after the other: after i turns the positions of the first i dependencies stand in their places.
use native.Mathlib.Omega.{arith}
use lib.ListN.{length-take}
use Rattle.replica.proofs.Checked.{few-deps, filled_none, filled_more, places-are}
use Rattle.replica.proofs.checks.PlacedSlip.new.Goals as goal

pub shared_ref_as_front-dep-items : goal.shared_ref_as_front-dep-items
shared_ref_as_front-dep-items c = omega (arith, few-deps c.args.slip.now c.requires.slip)

pub loop-i-init : goal.loop-i-init
loop-i-init c =
    filled_none _ 0 16 _ (omega (arith, few-deps c.args.slip.now c.requires.slip, length-take c.args.slip.now.count c.args.slip.now.deps))

pub loop-i-preserved : goal.loop-i-preserved
loop-i-preserved c = filled_more c.loop-i.invariant c.loop-i-test.true _ _ c.position.ensures

pub invariant_of-result-clause-few_deps : goal.invariant_of-result-clause-few_deps
invariant_of-result-clause-few_deps c = few-deps c.args.slip.now c.requires.slip

pub invariant_of-result-clause-dep_places : goal.invariant_of-result-clause-dep_places
invariant_of-result-clause-dep_places c = places-are _ _ c.requires.slip c.loop-i.invariant c.loop-i-test.false
