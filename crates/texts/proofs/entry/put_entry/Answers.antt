-- The key with its code and then the six digits: the two writes are one.
use Rattle.texts.proofs.Writing.{writes_then}
use Rattle.texts.proofs.entry.put_entry.Goals as goal

pub returns : goal.returns
returns c = writes_then c.put_code_line.ensures c.put_closed_number.ensures
