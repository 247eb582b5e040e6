-- The six parts of a slip are written one after the other: the six writes are the slip's text.
use Rattle.std.proofs.Common.{arith, rules}
use Rattle.texts.specs.Slip.{slip_layout}
use Rattle.texts.proofs.Legal.{slip-legal}
use Rattle.texts.proofs.Writing.{room-front, room_back, writes_then}
use Rattle.texts.proofs.slip.put_slip.Goals as goal

-- what is left to be written has room after each part that was
pub put_code_line-requires : goal.put_code_line-requires
unfolding slip_layout
put_code_line-requires c = ((slip-legal c.args.s c.requires.0).payer, room-front _ c.requires.1)

pub put_number_line-requires : goal.put_number_line-requires
unfolding slip_layout
put_number_line-requires c = room-front _ (room_back c.requires.1 c.put_code_line.ensures.wrote)

pub put_code_line-requires-2 : goal.put_code_line-requires-2
unfolding slip_layout
put_code_line-requires-2 c =
    ((slip-legal c.args.s c.requires.0).payee, room-front _ (room_back (room_back c.requires.1 c.put_code_line.ensures.wrote) c.put_number_line.ensures.wrote))

pub put_number_line-requires-2 : goal.put_number_line-requires-2
unfolding slip_layout
put_number_line-requires-2 c =
    room-front _ (room_back (room_back (room_back c.requires.1 c.put_code_line.ensures.wrote) c.put_number_line.ensures.wrote) c.put_code_line-2.ensures.wrote)

pub overflow_cast-s : goal.overflow_cast-s
overflow_cast-s c = omega (arith, (slip-legal c.args.s c.requires.0).count)

pub put_number_line-requires-3 : goal.put_number_line-requires-3
unfolding slip_layout
put_number_line-requires-3 c =
    room-front _
    (room_back (room_back (room_back (room_back c.requires.1 c.put_code_line.ensures.wrote) c.put_number_line.ensures.wrote) c.put_code_line-2.ensures.wrote)
    c.put_number_line-2.ensures.wrote)

pub shared_ref_as_front-put_entries : goal.shared_ref_as_front-put_entries
shared_ref_as_front-put_entries c = omega (arith, (slip-legal c.args.s c.requires.0).count)

pub put_entries-requires : goal.put_entries-requires
unfolding slip_layout
put_entries-requires c = (
  (slip-legal c.args.s c.requires.0).used,
  room_back
      (room_back (room_back (room_back (room_back c.requires.1 c.put_code_line.ensures.wrote) c.put_number_line.ensures.wrote) c.put_code_line-2.ensures.wrote)
      c.put_number_line-2.ensures.wrote)
      c.put_number_line-3.ensures.wrote,
)

pub returns : goal.returns
unfolding slip_layout
returns c =
    let written = writes_then c.put_code_line.ensures
    (writes_then c.put_number_line.ensures
    (writes_then c.put_code_line-2.ensures
    (writes_then c.put_number_line-2.ensures
    (writes_then c.put_number_line-3.ensures c.put_entries.ensures)))) in
    let there = written.wrote in
    search rules
