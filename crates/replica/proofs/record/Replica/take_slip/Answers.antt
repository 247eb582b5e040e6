-- The slip is refused by its checks, by its number or by a full line; or it goes last in its payer's line and the state is settled.
use Prim.Native.Nat.{◌<◌}
use native.Mathlib.Omega.{arith}
use borrow.Author.Rules.{rules}
use Rattle.replica.proofs.Taking.{register_of, payer-place, placed-answer, placed-waiting, shop-clear, check-refused, number-refused, full-refused, late-done, payer-sixteen, taken-fits, entered-lawful-so, entered-is}
use Rattle.replica.proofs.record.Replica.take_slip.Goals as goal

pub new-placed-requires : goal.new-placed-requires
new-placed-requires c = record { register = search (register_of, rules); slip = search rules }

pub returns-in-Err : goal.returns-in-Err
returns-in-Err c = check-refused _ _ _ _ _ (search (placed-answer, rules)) c.refused.ensures

pub offset_bounds-self-payer : goal.offset_bounds-self-payer
offset_bounds-self-payer c = let place : c.new-placed.result.payer < 16 = search (payer-sixteen, placed-answer, payer-place, rules) in omega arith

pub bounds-self-payer : goal.bounds-self-payer
bounds-self-payer c = search (payer-sixteen, placed-answer, payer-place, rules)

pub offset_bounds-self-payer-2 : goal.offset_bounds-self-payer-2
offset_bounds-self-payer-2 c = let place : c.new-placed.result.payer < 16 = search (payer-sixteen, placed-answer, payer-place, rules) in omega arith

pub bounds-self-payer-2 : goal.bounds-self-payer-2
bounds-self-payer-2 c = search (payer-sixteen, placed-answer, payer-place, rules)

pub overflow_add-self : goal.overflow_add-self
overflow_add-self c = search (taken-fits, placed-answer, payer-place, rules)

pub returns-then-slip-self : goal.returns-then-slip-self
returns-then-slip-self c = number-refused _ _ _ (search (placed-answer, rules)) c.new-placed.result.payer _ (search (placed-answer, payer-place, rules)) (search rules) c.refused-then-slip-self.ensures

pub returns-then-self-payer-ge-WAITING : goal.returns-then-self-payer-ge-WAITING
returns-then-self-payer-ge-WAITING c = full-refused _ _ _ (search (placed-answer, rules)) c.new-placed.result.payer (search (placed-answer, payer-place, rules)) (search rules) _ (search rules) c.refused-then-self-payer-ge-WAITING.ensures

-- The slip is accepted: it goes last in its payer's line,
-- and the state that is settled is the one with the slip there.
pub waiting-waiting-requires : goal.waiting-waiting-requires
waiting-waiting-requires c = search (shop-clear, rules)

pub offset_bounds-self-payer-3 : goal.offset_bounds-self-payer-3
offset_bounds-self-payer-3 c = let place : c.new-placed.result.payer < 16 = search (payer-sixteen, placed-answer, payer-place, rules) in omega arith

pub bounds-self-payer-3 : goal.bounds-self-payer-3
bounds-self-payer-3 c = search (payer-sixteen, placed-answer, payer-place, rules)

pub offset_bounds-self-payer-4 : goal.offset_bounds-self-payer-4
offset_bounds-self-payer-4 c = let place : c.new-placed.result.payer < 16 = search (payer-sixteen, placed-answer, payer-place, rules) in omega arith

pub bounds-self-payer-4 : goal.bounds-self-payer-4
bounds-self-payer-4 c = search (payer-sixteen, placed-answer, payer-place, rules)

pub settle-requires : goal.settle-requires
settle-requires c = (search (entered-lawful-so, entered-is, placed-answer, placed-waiting, payer-place, rules), search rules)

pub returns : goal.returns
returns c = late-done _ _ _ (search (placed-answer, rules)) c.new-placed.result.payer (search (placed-answer, payer-place, rules)) (search rules) _ _ _ (search rules) (search (entered-is, placed-answer, placed-waiting, payer-place, rules)) c.settle.ensures.outcome c.settle.ensures.bytes
