-- The running number, the lines of the answer, the count: the three puts are one.
use Rattle.desk.proofs.Reporting.{prints_then}
use Rattle.desk.proofs.report.Printer.put_slip.Goals as goal

pub returns : goal.returns
returns c = prints_then c.put_number.ensures (prints_then c.put_answer.ensures c.put_number-2.ensures)
