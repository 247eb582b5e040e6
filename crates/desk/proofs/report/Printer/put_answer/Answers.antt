-- The number, then the line of the name: the name in the table is the `why` of the answer.
use Rattle.std.proofs.Common.{ap, ◌++◌}
use Rattle.texts.specs.Bytes.{bytes}
use Rattle.texts.proofs.Table.{name-spelled}
use Rattle.desk.proofs.Reporting.{prints_then, prints_as}
use Rattle.desk.proofs.report.Printer.put_answer.Goals as goal

pub returns : goal.returns
returns c =
    let named = ap (λ w. bytes "why=" ++ (w ++ bytes "\n")) (name-spelled _ _ c.why-name.ensures) in
    prints_then c.put_number.ensures (prints_as named c.put_line.ensures)
