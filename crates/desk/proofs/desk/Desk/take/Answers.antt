-- The bytes that are kept are the text, the count is small, there is room for the lines, and the desk is as `takes` has it.
use Rattle.std.proofs.Common.{arith}
use Rattle.desk.proofs.Feeding.{slip-room, takes-is, takes-said, count-fits}
use Rattle.desk.proofs.desk.Desk.take.Goals as goal

pub overflow_cast-applied : goal.overflow_cast-applied
overflow_cast-applied c = omega (arith, count-fits _ _ _ _ _ c.take-reply.ensures.outcome c.unwrap_or-applied.ensures)

pub put_slip-requires : goal.put_slip-requires
put_slip-requires c = slip-room _ _ _ _ _ c.requires.1

pub returns : goal.returns
returns c =
    record {
      desk = takes-is c.args.self.now _ c.chunk.ensures c.take-reply.result c.take-reply.ensures.outcome;
      page = takes-said c.args.self.now _ c.chunk.ensures c.take-reply.result c.take-reply.ensures.outcome _ _ c.number_of.ensures c.unwrap_or-applied.ensures c.put_slip.ensures;
    }
