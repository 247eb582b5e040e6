-- The digits and then the end of the line: the two writes are one.
use Rattle.texts.proofs.Writing.{writes_then}
use Rattle.texts.proofs.pen.Pen.put_closed_number.Goals as goal

pub returns : goal.returns
returns c = writes_then c.put_number.ensures c.put_word.ensures
