-- A number or an amount of 0 decides; else the dependencies do.
use borrow.Author.Rules.{rules}
use Rattle.replica.proofs.Checked.{zero_number, zero-amount, zero_rest}
use Rattle.replica.proofs.checks.PlacedSlip.has_zero.Goals as goal
use Rattle.replica.proofs.checks.PlacedSlip.has_zero.Goals.{then-slip-eq0, else-slip-eq0}

pub returns-then-slip-eq0-2 : goal.returns-then-slip-eq0-2
returns-then-slip-eq0-2 c = elim c.if-slip-eq0.branch [
  | then-slip-eq0 w ↦ search (zero_number, rules)
  | else-slip-eq0 w ↦ search (zero-amount, rules)
]

pub returns-else-slip-eq0-2 : goal.returns-else-slip-eq0-2
returns-else-slip-eq0-2 c = elim c.if-slip-eq0.branch [
  | then-slip-eq0 w ↦ search rules
  | else-slip-eq0 w ↦ zero_rest _ w.if-slip-eq0.false (search rules) _ (search rules)
]
