-- The first chunk is the register, the others are slips.
use Rattle.desk.proofs.Feeding.{ends-slip, ends-register, renamed}
use Rattle.desk.proofs.desk.Desk.close_chunk.Goals as goal

pub returns-then-self : goal.returns-then-self
returns-then-self c =
    let said = renamed (ends-slip c.args.self.now c.if-self.true) (c.take.ensures.desk, c.take.ensures.page) in
    record { desk = said.0; page = said.1 }

pub returns-else-self : goal.returns-else-self
returns-else-self c =
    let said = renamed (ends-register c.args.self.now c.if-self.false) (c.open.ensures.desk, c.open.ensures.page) in
    record { desk = said.0; page = said.1 }
