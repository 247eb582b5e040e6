-- The most that the balances of a lawful state come to: 16 times 999,999.
use mathlib.Core.Path.{◌≡◌}
use mathlib.Core.Bool.{true}
use Prim.Native.Nat.{ℕ, zero, suc, ◌*◌, ◌≤◌, ◌<◌}
use native.Mathlib.Nat.{suc-mul}
use native.Mathlib.Omega.{arith}
use Rattle.texts.specs.Register.{opening}
use Rattle.texts.proofs.Legal.{opening-most, register-legal}
use Rattle.replica.specs.declared.record.Replica.{Replica}
use Rattle.replica.specs.Record.{listed_at, shop_count, shop_at, sum_to}
use Rattle.replica.specs.State.{lawful, SumAtMost}
use Rattle.replica.proofs.Sums.{sum-ge}
use Rattle.replica.proofs.Parts.{parts}

-- a sum of numbers of which none is above m
pub sum-most : (m n : ℕ) (f : ℕ → ℕ) → ((q : ℕ) → q < n → f q ≤ m) → sum_to n f ≤ n * m
unfolding sum_to
sum-most m zero f h = omega arith
sum-most m (suc n) f h = let e = suc-mul n m in omega (arith, sum-most m n f (λ q l. h q (omega arith)), h n (omega arith))

pub sum-at-most : SumAtMost
sum-at-most self e =
    let P = parts self e in
    let R = register-legal self.register P.register in
    omega (arith, P.sums, R.fits.most, sum-most 999999 (shop_count self) (λ p. opening (listed_at self.register p)) (λ p h. opening-most self.register R.fits p h _))

-- so no balance is above it
pub balance-most : (self : Replica) → lawful self ≡ true → (p : ℕ) → p < shop_count self → (shop_at self p).balance ≤ 15999984
balance-most self e p h = omega (arith, sum-ge (shop_count self) (λ q. (shop_at self q).balance) p h, sum-at-most self e)
