-- The shops one after the other: before each turn the first of them are printed.
use Rattle.std.proofs.Common.{arith}
use Rattle.desk.proofs.Reporting.{printing-none, printing-room, printing-code, printing-waits, printing-more, printing-done}
use Rattle.desk.proofs.report.Printer.put_shops.Goals as goal

pub loop-i-init : goal.loop-i-init
loop-i-init c = printing-none _ _ c.requires.0 c.requires.1

pub overflow_cast-waits : goal.overflow_cast-waits
overflow_cast-waits c = omega (arith, printing-waits c.loop-i.invariant c.loop-i-test.true)

pub put_shop-requires : goal.put_shop-requires
put_shop-requires c = (printing-code c.loop-i.invariant c.loop-i-test.true, printing-room c.loop-i.invariant c.loop-i-test.true)

pub loop-i-preserved : goal.loop-i-preserved
loop-i-preserved c = printing-more c.loop-i.invariant c.loop-i-test.true c.put_shop.ensures

pub returns : goal.returns
returns c = printing-done c.loop-i.invariant c.loop-i-test.false
