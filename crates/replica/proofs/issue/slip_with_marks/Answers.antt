-- The dependencies on the shops before i stand in the slip's first places, zeros after them.
use mathlib.Core.Path.{ap}
use Prim.Native.Nat.{◌<◌}
use native.Mathlib.Omega.{arith}
use borrow.Author.Rules.{rules}
use Rattle.texts.specs.declared.slip.Slip.{Slip}
use Rattle.texts.proofs.Values.{length-mapped}
use Rattle.replica.proofs.Issuing.{marked-none, marked-skip, marked-room, marked_more, slip-marked}
use Rattle.replica.proofs.issue.slip_with_marks.Goals as goal
use Rattle.replica.proofs.issue.slip_with_marks.Goals.{then-shop-ne0, else-shop-ne0}

pub loop-i-init : goal.loop-i-init
loop-i-init c = marked-none _ _ _ (search (length-mapped, rules)) (search (length-mapped, rules)) c.requires c.none-slip.ensures

pub offset_bounds-slip-slip : goal.offset_bounds-slip-slip
offset_bounds-slip-slip c = let room : c.loop-i.slip.count < 16 = search (marked-room, rules) in omega arith

pub bounds-slip-slip : goal.bounds-slip-slip
bounds-slip-slip c = search (marked-room, rules)

pub overflow_add-slip : goal.overflow_add-slip
overflow_add-slip c = let room : c.loop-i.slip.count < 16 = search (marked-room, rules) in omega arith

pub loop-i-preserved : goal.loop-i-preserved
loop-i-preserved c = elim c.if-shop-ne0.branch [
  | then-shop-ne0 w ↦ marked_more c.loop-i.invariant c.loop-i-test.true w.if-shop-ne0.true _ _ (ap (λ (s : Slip). s.deps) w.slip-is) (ap (λ (s : Slip). s.count) w.slip-is)
  | else-shop-ne0 w ↦ marked-skip c.loop-i.invariant c.loop-i-test.true w.if-shop-ne0.false _ _ (ap (λ (s : Slip). s.deps) w.slip-is) (ap (λ (s : Slip). s.count) w.slip-is)
]

pub returns : goal.returns
returns c = search (slip-marked, rules)
