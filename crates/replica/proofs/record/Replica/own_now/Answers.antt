-- A lawful register lists its own shop, so its position is a place of the arrays.
use mathlib.Core.Path.{refl, ap}
use Prim.Native.Nat.{◌<◌}
use native.Mathlib.Omega.{arith}
use borrow.Author.Rules.{rules}
use Rattle.replica.specs.Record.{shop_at, line_at}
use Rattle.replica.proofs.Issuing.{own-place}
use Rattle.replica.proofs.record.Replica.own_now.Goals as goal

pub offset_bounds-self-at : goal.offset_bounds-self-at
offset_bounds-self-at c = let room : c.position-at.result < 16 = search (own-place, rules) in omega arith

pub bounds-self-at : goal.bounds-self-at
bounds-self-at c = search (own-place, rules)

pub offset_bounds-self-at-2 : goal.offset_bounds-self-at-2
offset_bounds-self-at-2 c = let room : c.position-at.result < 16 = search (own-place, rules) in omega arith

pub bounds-self-at-2 : goal.bounds-self-at-2
bounds-self-at-2 c = search (own-place, rules)

pub returns : goal.returns
returns c =
    (ap (shop_at c.args.self.now) c.position-at.ensures, ap (λ p. (line_at c.args.self.now p).count) c.position-at.ensures, refl)
