-- The key, the value and the end of the line: the three puts are one.
use Rattle.desk.proofs.Reporting.{prints_then}
use Rattle.desk.proofs.report.Printer.put_line.Goals as goal

pub returns : goal.returns
returns c = prints_then c.put_word.ensures (prints_then c.put_word-2.ensures c.put_word-3.ensures)
