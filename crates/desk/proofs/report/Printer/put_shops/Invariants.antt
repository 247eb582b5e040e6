-- The shops one after the other: before each turn the first of them are printed.
use Rattle.desk.proofs.Reporting.{Printing}
use Rattle.desk.proofs.report.Printer.put_shops.Given as goal

abbrev pub invariant-loop-i : goal.invariant-loop-i
invariant-loop-i l = Printing l.replica l.initial.self l.self l.i
