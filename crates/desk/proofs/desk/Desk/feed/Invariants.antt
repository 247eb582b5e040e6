-- The bytes one after the other: before each turn the first of them are fed, and what was said is printed.
use Rattle.desk.proofs.Feeding.{Feeding}
use Rattle.desk.proofs.desk.Desk.feed.Given as goal

abbrev pub invariant-loop-b : goal.invariant-loop-b
invariant-loop-b l = Feeding l.initial.self l.b-items l.initial.printer l.printer l.self l.b-index
