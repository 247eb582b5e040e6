-- The bytes that are kept are the text, there is room for the line, and the desk is as `opens` has it.
use Rattle.desk.proofs.Feeding.{register-room, opens-is, opens-said}
use Rattle.desk.proofs.desk.Desk.open.Goals as goal

pub put_register-requires : goal.put_register-requires
put_register-requires c = register-room _ _ _ c.requires

pub returns : goal.returns
returns c =
    let text = c.open-answer in
    record {
      desk = opens-is c.args.self.now _ c.chunk.ensures text.result text.ensures _ _ _ c.unwrap_or-self.ensures c.none.ensures c.is_err-self.ensures.value;
      page = opens-said c.args.self.now _ c.chunk.ensures text.result text.ensures _ c.number_of.ensures c.put_register.ensures;
    }
