-- Before each scan some slips have been applied and the rest is still to be settled; a scan finds the first ready slip or that there is none.
use Rattle.replica.specs.Settle.{waits}
use Rattle.replica.proofs.Going.{Scanning, Going}
use Rattle.replica.proofs.record.Replica.settle.Given as goal

abbrev pub invariant-loop-at : goal.invariant-loop-at
invariant-loop-at l = Scanning l.fn.list l.fn.self l.n l.own_at l.list l.initial.self l.self l.done l.at

abbrev pub invariant-settle : goal.invariant-settle
invariant-settle l = Going l.fn.list l.fn.self l.n l.own_at l.list l.self l.done

abbrev pub decreases-settle : goal.decreases-settle
decreases-settle l = waits l.self
