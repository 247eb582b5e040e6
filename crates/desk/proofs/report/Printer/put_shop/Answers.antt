-- The line of the code, then those of the numbers: the two are one.
use Rattle.desk.proofs.Reporting.{prints_then}
use Rattle.desk.proofs.report.Printer.put_shop.Goals as goal

pub returns : goal.returns
returns c = prints_then c.put_line.ensures c.put_numbers.ensures
