-- The payer, the payee and the dependencies are listed where their positions are below the number of shops.
use borrow.Author.Rules.{rules}
use Rattle.replica.proofs.Checked.{payer-unlisted, payee-unlisted, deps-listed}
use Rattle.replica.proofs.checks.PlacedSlip.is_listed.Goals as goal
use Rattle.replica.proofs.checks.PlacedSlip.is_listed.Goals.{then-self-shops, else-self-shops}

pub returns-then-self-shops-2 : goal.returns-then-self-shops-2
returns-then-self-shops-2 c = elim c.if-self-shops.branch [
  | then-self-shops w ↦ deps-listed c.args.self.now w.if-self-shops.true (search rules) _ (search rules)
  | else-self-shops w ↦ search rules
]

pub returns-else-self-shops-2 : goal.returns-else-self-shops-2
returns-else-self-shops-2 c = elim c.if-self-shops.branch [
  | then-self-shops w ↦ search (payee-unlisted, rules)
  | else-self-shops w ↦ search (payer-unlisted, rules)
]
