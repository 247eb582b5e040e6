-- The state, the room and the text are asked in this order; then what is left decides.
use borrow.Author.Rules.{rules}
use Rattle.replica.proofs.Issuing.{is_lawful}
use Rattle.replica.proofs.Taking.{state-refused, room-refused, form-refused, slip-is-legal, take-late}
use Rattle.replica.proofs.record.Replica.take.Goals as goal

pub returns-then-not-lawful : goal.returns-then-not-lawful
returns-then-not-lawful c = state-refused _ _ _ _ _ c.lawful.ensures c.if-not-lawful.true-raw c.refused.ensures

pub returns-then-list-lt-LIST_ROOM : goal.returns-then-list-lt-LIST_ROOM
returns-then-list-lt-LIST_ROOM c = room-refused _ _ _ _ c.lawful.ensures c.if-not-lawful.false-raw _ (search rules) c.refused-then-list-lt-LIST_ROOM.ensures

pub returns-in-Err : goal.returns-in-Err
returns-in-Err c = form-refused _ _ _ _ c.lawful.ensures c.if-not-lawful.false-raw (search rules) _ _ c.in-Err.ensures c.refused-in-Err.ensures

pub take_slip-requires : goal.take_slip-requires
take_slip-requires c = (search (is_lawful, rules), slip-is-legal _ _ c.in-Ok.ensures, search rules)

pub returns-in-Ok : goal.returns-in-Ok
returns-in-Ok c = take-late _ _ _ _ c.lawful.ensures c.if-not-lawful.false-raw (search rules) _ c.in-Ok.ensures _ _ c.take_slip.ensures.outcome c.take_slip.ensures.bytes
