-- The four tests, in their order.
use mathlib.Core.Path.{◌∙◌}
use native.Mathlib.Omega.{arith}
use borrow.Author.Rules.{rules}
use Rattle.replica.proofs.Steps.{few-applied, ready-none, ready-number, ready-short, ready-needs}
use Rattle.replica.proofs.record.Replica.is_ready.Goals as goal
use Rattle.replica.proofs.record.Replica.is_ready.Goals.{then-line-gt0, else-line-gt0, then-slip-shop, else-slip-shop}

pub shared_ref_as_front-shops : goal.shared_ref_as_front-shops
shared_ref_as_front-shops c = (few-applied c.args.self.now c.args.at c.requires).1

pub overflow_add-shop : goal.overflow_add-shop
overflow_add-shop c = omega (arith, few-applied c.args.self.now c.args.at c.requires)

pub returns-then-slip-shop-2 : goal.returns-then-slip-shop-2
returns-then-slip-shop-2 c = elim c.if-slip-shop.branch [
  | then-slip-shop w ↦ elim c.if-line-gt0.branch [
    | then-line-gt0 u ↦ ready-needs c.args.self.now c.args.at u.if-line-gt0.true (search rules) (search rules) c.requires.0 _ c.needs_applied.ensures
    | else-line-gt0 u ↦ search rules
  ]
  | else-slip-shop w ↦ search rules
]

pub returns-else-slip-shop-2 : goal.returns-else-slip-shop-2
returns-else-slip-shop-2 c = c.if-slip-shop-2.false ∙ (elim c.if-slip-shop.branch [
  | then-slip-shop w ↦ elim c.if-line-gt0.branch [
    | then-line-gt0 u ↦ ready-short c.args.self.now c.args.at u.if-line-gt0.true (search rules) (search rules)
    | else-line-gt0 u ↦ search rules
  ]
  | else-slip-shop w ↦ elim c.if-line-gt0.branch [
    | then-line-gt0 u ↦ ready-number c.args.self.now c.args.at u.if-line-gt0.true (search rules)
    | else-line-gt0 u ↦ search (ready-none, rules)
  ]
])
