-- The steps of settling in the small: a slip that is ready, the shops when it is applied.
use mathlib.Core.Path.{◌≡◌, refl, sym, ap, ap₂, ◌∙◌, subst}
use mathlib.Core.Bool.{Bool, true, false, ◌&&◌}
use mathlib.Core.List.{List}
use Prim.Native.Nat.{ℕ, ◌+◌, ◌≤◌, ◌<◌}
use native.Mathlib.Omega.{arith}
use lib.Dec.{leb, ltb, eqb}
use lib.ListN.{length, take, get_or, set}
use lib.Seq.{length-take-le, get_or-take}
use borrow.Author.Tests.{eq-eqb, ne_eqb, le-leb, lt-leb, leb-true, lt-ltb, le-ltb}
use Rattle.std.specs.Bool.{IsTrue, MatchBool}
use Rattle.std.specs.Prelude.{◌↔◌}
use Rattle.std.specs.List.{AllWithin, HoldsAt, zip}
use Rattle.std.proofs.lemmas.Slice.Zip.{length-zip, get_or-zip}
use Rattle.std.proofs.lemmas.Bool.Decides.{same_from_decides}
use Rattle.replica.specs.declared.record.Shop.{Shop}
use Rattle.replica.specs.declared.record.Waiting.{Waiting}
use Rattle.replica.specs.declared.record.Line.{Line}
use Rattle.replica.specs.declared.record.Replica.{Replica}
use Rattle.replica.specs.Record.{no_shop, shop_count, own, shop_at, line_at}
use Rattle.replica.specs.Settle.{first_waiting, ready_a, ready_b, ready_c, ready, paying, paid, apply, without_first}
use Rattle.replica.specs.State.{lawful}
use Rattle.texts.proofs.Legal.{register-legal}
use Rattle.replica.proofs.Parts.{parts}
use Rattle.replica.proofs.Sums.{every-at, at_every}

-- ---- a slip that is ready

-- what each shop has applied covers what is asked of it
abbrev pub Covers : List Shop → List ℕ → Type 0
Covers shops needs = (r : ℕ) → r < length shops → get_or needs r 0 ≤ (get_or shops r no_shop).applied

-- what the chain over both answers
pub covers-all : (shops : List Shop) (needs : List ℕ) (r : Bool) → length shops ≤ length needs
    → MatchBool r (AllWithin (λ (p : Shop × ℕ). p.1 ≤ p.0.applied) (zip shops needs) 0 (length (zip shops needs))) ((k : ℕ) × (k < length (zip shops needs)) × HoldsAt (λ (p : Shop × ℕ). p.0.applied < p.1) (zip shops needs) k)
    → IsTrue r ↔ Covers shops needs
covers-all shops needs true l h =
    (λ e r k. subst (λ (x : Shop × ℕ). x.1 ≤ x.0.applied) (get_or-zip shops needs r (no_shop, 0) k (omega arith)) (h r (no_shop, 0) (omega arith) (omega (arith, length-zip shops needs))), λ c. refl)
covers-all shops needs false l h =
    let k : h.0 < length shops = omega (arith, h.1, length-zip shops needs) in
    let m = subst (λ (x : Shop × ℕ). x.0.applied < x.1) (get_or-zip shops needs h.0 (no_shop, 0) k (omega arith)) (h.2 (no_shop, 0)) in
    (λ e. absurd (cc), λ c. absurd (omega (arith, c h.0 k, m)))

module _ (self : Replica) (p : ℕ) where
  abbrev w : Waiting
  w = first_waiting self p

  abbrev asked : List ℕ
  asked = w.needs

  abbrev needed : ℕ → Bool
  needed r = leb (get_or asked r 0) (shop_at self r).applied

  -- the number, the balance and the dependencies, where a slip waits
  ready-tests : {a b c d : Bool} → ltb 0 (line_at self p).count ≡ a → ready_a self p ≡ b → ready_b self p ≡ c → ready_c self p ≡ d → a && (b && (c && d)) ≡ ready self p
  unfolding ready
  ready-tests ea eb ec ed = sym (ap₂ (λ x y. x && y) ea (ap₂ (λ x y. x && y) eb (ap₂ (λ x y. x && y) ec ed)))

  -- nothing waits there
  pub ready-none : (line_at self p).count ≡ 0 → false ≡ ready self p
  ready-none h = ready-tests (le-ltb 0 _ (omega arith)) refl refl refl

  module _ (some : 0 < (line_at self p).count) where
    -- its number is not the next
    pub ready-number : (w.number ≡ (shop_at self p).applied + 1 → ⊥) → false ≡ ready self p
    ready-number h = ready-tests (lt-ltb 0 _ some) (ne_eqb _ _ h) refl refl

    module _ (next : w.number ≡ (shop_at self p).applied + 1) where
      -- it is not covered
      pub ready-short : (shop_at self p).balance < w.amount → false ≡ ready self p
      ready-short h = ready-tests (lt-ltb 0 _ some) (eq-eqb _ _ next) (lt-leb _ _ h) refl

      -- its dependencies decide
      pub ready-needs : w.amount ≤ (shop_at self p).balance → lawful self ≡ true
          → (t : Bool) → IsTrue t ↔ Covers (take (shop_count self) self.shops) asked → t ≡ ready self p
      ready-needs funds law t e =
          same_from_decides t (ready_c self p) e (apart, covered)
          ∙ ready-tests (lt-ltb 0 _ some) (eq-eqb _ _ next) (le-leb _ _ funds) refl
        where
          front : List Shop
          front = take (shop_count self) self.shops

          size : length front ≡ shop_count self
          size =
              let P = parts self law in
              length-take-le (shop_count self) self.shops (omega (arith, P.shop_places, (register-legal self.register P.register).fits.most))

          at : (k : ℕ) → k < shop_count self → get_or front k no_shop ≡ shop_at self k
          at k h = get_or-take (shop_count self) self.shops k no_shop h

          apart : ready_c self p ≡ true → Covers front asked
          apart c k h =
              let l : k < shop_count self = omega (arith, size) in
              omega (arith, leb-true _ _ (every-at (shop_count self) needed c k l), ap (λ (x : Shop). x.applied) (at k l))

          covered : Covers front asked → ready_c self p ≡ true
          covered c = at_every (shop_count self) needed (λ k l. le-leb _ _ (omega (arith, c k (omega (arith, size)), ap (λ (x : Shop). x.applied) (at k l))))

-- a lawful state has so many shops, and has applied so many slips
pub few-applied : (self : Replica) (p : ℕ) → (lawful self ≡ true) × (p < shop_count self) → ((shop_at self p).applied ≤ 999999) × (shop_count self ≤ 16)
few-applied self p (law, h) =
    let P = parts self law in
    let L = P.lined p h in
    (omega (arith, L.taken, L.most), (register-legal self.register P.register).fits.most)

-- ---- the shops when it is applied

pub applied-is : (self : Replica) (at p : ℕ) (from to : Shop) (line : Line) → at ≡ own self
    → from ≡ paying (eqb (first_waiting self p).payee at) (first_waiting self p).number (first_waiting self p).amount (shop_at self p)
    → to ≡ paid (first_waiting self p).amount (get_or (set self.shops p from) (first_waiting self p).payee no_shop)
    → line ≡ without_first (line_at self p)
    → ◌≡◌ {A = Replica} (record { register = self.register; issued = self.issued; shops = set (set self.shops p from) (first_waiting self p).payee to; lines = set self.lines p line }) (apply self p)
unfolding apply
applied-is self at p from to line o a b l =
    let w = first_waiting self p in
    let f : from ≡ paying (eqb w.payee (own self)) w.number w.amount (shop_at self p) = a ∙ ap (λ k. paying (eqb w.payee k) w.number w.amount (shop_at self p)) o in
    let shops = ap₂ (λ (xs : List Shop) (s : Shop). set xs w.payee s) (ap (set self.shops p) f) (b ∙ ap (λ (xs : List Shop). paid w.amount (get_or xs w.payee no_shop)) (ap (set self.shops p) f)) in
    λ i. record { register = self.register; issued = self.issued; shops = shops i; lines = set self.lines p (l i) }
