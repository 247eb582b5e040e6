-- The refusals are the first row that applies; else the own shop's next slip, which is legal, stands in the buffer, and the marks are 0.
use Prim.Native.Nat.{◌≤◌}
use native.Mathlib.Omega.{arith}
use borrow.Author.Rules.{rules}
use Rattle.replica.proofs.Issuing.{is_lawful, own-applied, few-marks, issue-state, issue-room, issue-answered, issue-done}
use Rattle.replica.proofs.record.Replica.issue.Goals as goal

pub returns-then-not-lawful : goal.returns-then-not-lawful
returns-then-not-lawful c = issue-state _ _ _ _ _ c.lawful.ensures c.if-not-lawful.true-raw _ c.refused.ensures

pub returns-then-buffer-lt-SLIP_ROOM : goal.returns-then-buffer-lt-SLIP_ROOM
returns-then-buffer-lt-SLIP_ROOM c = issue-room _ _ _ _ (search (is_lawful, rules)) (search rules) _ c.refused-then-buffer-lt-SLIP_ROOM.ensures

pub own_now-own-requires : goal.own_now-own-requires
own_now-own-requires c = search (is_lawful, rules)

pub returns-in-Err : goal.returns-in-Err
returns-in-Err c = issue-answered _ _ _ _ (search (is_lawful, rules)) (search rules) _ c.own_now-own.ensures _ c.from_bytes-code.ensures _ _ c.in-Err.ensures c.refused-in-Err.ensures

pub overflow_add-number : goal.overflow_add-number
overflow_add-number c =
    let fits : c.own_now-own.result.shop.applied ≤ 999999 = search (own-applied, is_lawful, rules) in
    omega arith

pub slip_with_marks-slip-requires : goal.slip_with_marks-slip-requires
slip_with_marks-slip-requires c = search (few-marks, is_lawful, rules)

pub returns : goal.returns
returns c = issue-done _ _ _ _ (search (is_lawful, rules)) (search rules) _ c.own_now-own.ensures _ c.from_bytes-code.ensures (search rules) _ c.slip_with_marks-slip.ensures _ _ _ c.write_slip-answer.ensures.answer c.write_slip-answer.ensures.bytes (search rules)
