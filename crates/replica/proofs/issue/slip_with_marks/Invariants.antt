-- The dependencies on the shops before i stand in the slip's first places, zeros after them.
use Rattle.replica.proofs.Issuing.{Marked}
use Rattle.replica.proofs.issue.slip_with_marks.Given as goal

abbrev pub invariant-loop-i : goal.invariant-loop-i
invariant-loop-i l = Marked l.fn.register.shops l.fn.shops l.slip.deps l.slip.count l.i
