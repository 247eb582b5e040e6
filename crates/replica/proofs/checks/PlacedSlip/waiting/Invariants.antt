-- From the last dependency to the first each number goes to its shop's place: after the turns those of the dependencies from `i` on stand there.
use Rattle.replica.proofs.Checked.{Asked}
use Rattle.replica.proofs.checks.PlacedSlip.waiting.Given as goal

abbrev pub invariant-loop-i : goal.invariant-loop-i
invariant-loop-i l = Asked l.fn.self.register.now l.fn.self.slip.now l.needs l.i
