-- A chunk that no empty line ended ends here; where there is none nothing is left.
use Rattle.std.proofs.Common.{arith, sym}
use Rattle.desk.proofs.Steps.{last_none, last-ends}
use Rattle.desk.proofs.Reporting.{prints_as, prints_nothing}
use Rattle.desk.proofs.Feeding.{renamed}
use Rattle.desk.proofs.desk.Desk.close_last.Goals as goal

pub returns-then-is_unended : goal.returns-then-is_unended
returns-then-is_unended c =
    let said = renamed (last-ends c.args.self.now (sym c.if-is_unended.ensures)) (c.close_chunk.ensures.desk, c.close_chunk.ensures.page) in
    record { desk = said.0; page = said.1 }

pub returns-else-is_unended : goal.returns-else-is_unended
returns-else-is_unended c =
    let none = last_none c.args.self.now (sym c.if-is_unended.ensures) in
    record { desk = none.0; page = prints_as none.1 (prints_nothing _ (omega arith)) }
