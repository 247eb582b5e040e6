-- The number of shops, their lines and the own code are written one after the other: the three writes are the register's text.
use Rattle.std.proofs.Common.{arith, rules}
use Rattle.texts.specs.Register.{register_layout}
use Rattle.texts.proofs.Legal.{register-fits}
use Rattle.texts.proofs.Writing.{room-front, room_back, writes_then}
use Rattle.texts.proofs.register.put_register.Goals as goal

pub overflow_cast-r : goal.overflow_cast-r
overflow_cast-r c = omega (arith, (register-fits c.args.r c.requires.0).most)

pub put_number_line-requires : goal.put_number_line-requires
unfolding register_layout
put_number_line-requires c = room-front _ (room-front _ c.requires.1)

pub shared_ref_as_front-put_entries : goal.shared_ref_as_front-put_entries
shared_ref_as_front-put_entries c = omega (arith, (register-fits c.args.r c.requires.0).most)

pub put_entries-requires : goal.put_entries-requires
unfolding register_layout
put_entries-requires c = ((register-fits c.args.r c.requires.0).used, room_back (room-front _ c.requires.1) c.put_number_line.ensures.wrote)

pub put_code_line-requires : goal.put_code_line-requires
unfolding register_layout
put_code_line-requires c =
    ((register-fits c.args.r c.requires.0).own_code, room_back c.requires.1 (writes_then c.put_number_line.ensures c.put_entries.ensures).wrote)

pub returns : goal.returns
unfolding register_layout
returns c =
    let written = writes_then (writes_then c.put_number_line.ensures c.put_entries.ensures) c.put_code_line.ensures in
    let there = written.wrote in
    search rules
