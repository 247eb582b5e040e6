-- The key and then the number with the end of its line: the two writes are one.
use Rattle.texts.proofs.Writing.{writes_then}
use Rattle.texts.proofs.pen.Pen.put_number_line.Goals as goal

pub returns : goal.returns
returns c = writes_then c.put_word.ensures c.put_closed_number.ensures
