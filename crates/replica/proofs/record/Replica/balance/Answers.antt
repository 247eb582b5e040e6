-- The first of its two rows that applies; where none does, the code is listed, and its position is a place of the shops.
use Prim.Native.Nat.{◌<◌}
use native.Mathlib.Omega.{arith}
use borrow.Author.Rules.{rules}
use Rattle.replica.proofs.Issuing.{is_lawful, balance-state, balance-shop, balance-place, balance-done}
use Rattle.replica.proofs.record.Replica.balance.Goals as goal

pub returns-then-not-lawful : goal.returns-then-not-lawful
returns-then-not-lawful c = search (balance-state, rules)

pub offset_bounds-self-at : goal.offset_bounds-self-at
offset_bounds-self-at c = let room : c.position-at.result < 16 = search (balance-place, is_lawful, rules) in omega arith

pub bounds-self-at : goal.bounds-self-at
bounds-self-at c = search (balance-place, is_lawful, rules)

pub returns : goal.returns
returns c = search (balance-done, is_lawful, rules)

pub returns-then-not-lists : goal.returns-then-not-lists
returns-then-not-lists c = search (balance-shop, is_lawful, rules)
