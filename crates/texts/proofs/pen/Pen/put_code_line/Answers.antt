-- The key, the code's digits and the byte that closes them: the three writes are one.
use Rattle.texts.proofs.Writing.{writes_then}
use Rattle.texts.proofs.pen.Pen.put_code_line.Goals as goal

pub returns : goal.returns
returns c = writes_then c.put_word.ensures (writes_then c.put_word-2.ensures c.put_word-3.ensures)
