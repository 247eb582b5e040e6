-- "Stop when no shop has a ready slip": settling leaves nothing ready; it applies as many slips as it lists, each of them once.
use mathlib.Core.Path.{◌≡◌, refl, sym, ap, ◌∙◌}
use mathlib.Core.Logic.{◌≢◌}
use mathlib.Core.Bool.{Bool, true, false, ◌&&◌}
use mathlib.Core.Option.{Option, none, some}
use mathlib.Core.List.{List, [], ◌∷◌}
use Prim.Native.Nat.{ℕ, zero, suc, ◌+◌, ◌≤◌, ◌<◌}
use native.Mathlib.Omega.{arith}
use lib.ListN.{length, get_or, set, length-set}
use lib.Seq.{get_or-set_same, get_or-set_other}
use lib.Dec.{ltb, eqb}
use borrow.Author.Tests.{ltb-true, le-ltb}
use Rattle.texts.proofs.Steps.{both}
use Rattle.replica.specs.declared.record.Shop.{Shop}
use Rattle.replica.specs.declared.record.Line.{Line}
use Rattle.replica.specs.declared.record.Replica.{Replica}
use Rattle.replica.specs.Record.{shop_count, own, shop_at, line_at, adjust, no_shop, sum_to}
use Rattle.replica.specs.Settle.{ready, apply, scan, first_ready, settle, order, waits, settled, applying, without_first, ready_a, ready_b, ready_c, first_waiting, paying, paid}
use Rattle.replica.proofs.Sums.{either, sum-ge, sum_more}

-- the arrays have a place for each shop
pub record Sized (self : Replica) : Type 0 where
  pub lines : shop_count self ≤ length self.lines
  pub shops : shop_count self ≤ length self.shops

pub apply-sized : (self : Replica) (p : ℕ) → Sized self → Sized (apply self p)
unfolding apply
apply-sized self p s = record { lines = simp length-set s.lines; shops = simp length-set s.shops }

pub ready-some : (self : Replica) (p : ℕ) → ready self p ≡ true → 0 < (line_at self p).count
unfolding ready
ready-some self p e = ltb-true 0 _ (both (ltb 0 (line_at self p).count) (ready_a self p && (ready_b self p && ready_c self p)) e).0

pub none-ready : (self : Replica) (p : ℕ) → (line_at self p).count ≡ 0 → ready self p ≡ false
unfolding ready
none-ready self p e = rw (le-ltb 0 (line_at self p).count (omega arith))

pub waits-ge : (self : Replica) (p : ℕ) → p < shop_count self → (line_at self p).count ≤ waits self
unfolding waits
waits-ge self p l = sum-ge (shop_count self) (λ q. (line_at self q).count) p l

-- ---- what applying changes

pub line_other : (self : Replica) (p q : ℕ) → q ≢ p → line_at (apply self p) q ≡ line_at self q
unfolding apply
line_other self p q d = get_or-set_other self.lines p q _ _ d

pub line_first : (self : Replica) (p : ℕ) → p < length self.lines → line_at (apply self p) p ≡ without_first (line_at self p)
unfolding apply
line_first self p h = get_or-set_same self.lines p _ _ h

pub apply-count : (self : Replica) (p : ℕ) → shop_count (apply self p) ≡ shop_count self
unfolding apply
apply-count self p = refl

-- past the lines' end nothing waits
in_lines : (l : List Line) (p : ℕ) → 0 < (get_or l p (record { count = 0; slips = [] })).count → p < length l
in_lines [] p h = absurd (omega arith)
in_lines (x ∷ l) zero h = omega arith
in_lines (x ∷ l) (suc p) h = omega (arith, in_lines l p h)

pub fewer : (self : Replica) (p : ℕ) → p < shop_count self → ready self p ≡ true → waits self ≡ waits (apply self p) + 1
unfolding waits
fewer self p h e =
    let c = apply-count self p in
    let k = ready-some self p e in
    let l = ap (λ (x : Line). x.count) (line_first self p (in_lines self.lines p k)) in
    sum_more (shop_count self) (λ q. (line_at self q).count) (λ q. (line_at (apply self p) q).count) p 1 h (omega arith) (λ q d. ap (λ (x : Line). x.count) (sym (line_other self p q d)))
    ∙ ap (λ (n : ℕ). sum_to n (λ q. (line_at (apply self p) q).count) + 1) (sym c)

-- ---- the rise in applied numbers

set_keeps : (f : Shop → ℕ) (l : List Shop) (i : ℕ) (y : Shop) (q : ℕ) → f y ≡ f (get_or l i no_shop) → f (get_or (set l i y) q no_shop) ≡ f (get_or l q no_shop)
set_keeps f [] i y q e = refl
set_keeps f (x ∷ l) zero y zero e = e
set_keeps f (x ∷ l) zero y (suc q) e = refl
set_keeps f (x ∷ l) (suc i) y zero e = refl
set_keeps f (x ∷ l) (suc i) y (suc q) e = set_keeps f l i y q e

unfoldable pub done : Replica → ℕ
done self = sum_to (shop_count self) (λ p. (shop_at self p).applied)

pub rises : (self : Replica) (p : ℕ) → Sized self → p < shop_count self → done (apply self p) ≡ done self + 1
unfolding done apply
rises self p s h =
    let w = first_waiting self p in
    let f : Shop → Shop = paying (eqb w.payee (own self)) w.number w.amount in
    let l = adjust f p self.shops in
    let k : (q : ℕ) → (get_or (adjust (paid w.amount) w.payee l) q no_shop).applied ≡ (get_or l q no_shop).applied =
    λ q. set_keeps (λ x. x.applied) l w.payee (paid w.amount (get_or l w.payee no_shop)) q refl in
    sum_more (shop_count self) (λ q. (shop_at (apply self p) q).applied) (λ q. (shop_at self q).applied) p 1 h
    (k p ∙ ap (λ (x : Shop). x.applied) (get_or-set_same self.shops p (f (shop_at self p)) no_shop (omega (arith, s.shops))))
    (λ q d. k q ∙ ap (λ (x : Shop). x.applied) (get_or-set_other self.shops p q (f (shop_at self p)) no_shop d))

-- ---- looking for the first ready shop

pub scan-some : (self : Replica) (k p q : ℕ) → scan self k p ≡ some q → (q < p + k) × (ready self q ≡ true)
unfolding scan
scan-some self zero p q e = let z : ◌≡◌ {A = ℕ} 0 1 = cc in absurd (omega arith)
scan-some self (suc k) p q e = go (ready self p) refl (λ f. scan-some self k (suc p) q f)
  where
    go : (v : Bool) → ready self p ≡ v → (scan self k (suc p) ≡ some q → (q < suc p + k) × (ready self q ≡ true)) → (q < p + suc k) × (ready self q ≡ true)
    go true i ih =
        let f : some p ≡ some q = rw (i, scan) at e in
        let j : p ≡ q = cc in
        rw (← j) (omega arith, i)
    go false i ih =
        let f : scan self k (suc p) ≡ some q = rw (i, scan) at e in
        (omega (arith, (ih f).0), (ih f).1)

pub scan-none : (self : Replica) (k p : ℕ) → scan self k p ≡ none → (q : ℕ) → p ≤ q → q < p + k → ready self q ≡ false
unfolding scan
scan-none self zero p e q a b = absurd (omega arith)
scan-none self (suc k) p e q a b = go (ready self p) refl (λ f l. scan-none self k (suc p) f q l (omega arith))
  where
    go : (v : Bool) → ready self p ≡ v → (scan self k (suc p) ≡ none → suc p ≤ q → ready self q ≡ false) → ready self q ≡ false
    go true i ih =
        let f : some p ≡ none = rw (i, scan) at e in
        cc
    go false i ih =
        let f : scan self k (suc p) ≡ none = rw (i, scan) at e in
        either q p (λ j. rw j i) (λ j. ih f (omega arith))

-- ---- settling. L is kept by applying a ready slip.

pub record Settled (L : Replica → Type 0) (self end : Replica) (list : List ℕ) : Type 0 where
  pub kept : L end
  pub count : shop_count end ≡ shop_count self
  pub quiet : (p : ℕ) → p < shop_count end → ready end p ≡ false
  -- "how many slips were applied": so many fewer wait, and the applied numbers have risen by so much
  pub fewer : waits self ≡ waits end + length list
  pub rise : done end ≡ done self + length list

module _ (L : Replica → Type 0) (sized : (self : Replica) → L self → Sized self)
    (keeps : (self : Replica) (p : ℕ) → L self → p < shop_count self → ready self p ≡ true → L (apply self p)) where
  pub settle-quiet : (k : ℕ) (self : Replica) → L self → waits self ≤ k → Settled L self (settle k self) (order k self)
  unfolding settle order
  settle-quiet zero self h w = record {
    kept = h;
    count = refl;
    quiet = λ p l. none-ready self p (omega (arith, waits-ge self p l));
    fewer = omega arith;
    rise = omega arith;
  }
  settle-quiet (suc k) self h w = go (first_ready self) refl (λ x y z. settle-quiet k x y z)
    where
      go : (o : Option ℕ) → first_ready self ≡ o → ((x : Replica) → L x → waits x ≤ k → Settled L x (settle k x) (order k x))
          → Settled L self (settle (suc k) self) (order (suc k) self)
      go none e ih = rw (e, settle, order) record {
        kept = h;
        count = refl;
        quiet = λ p l. scan-none self (shop_count self) 0 e p (omega arith) (omega arith);
        fewer = omega arith;
        rise = omega arith;
      }
      go (some p) e ih =
          let found : (p < 0 + shop_count self) × (ready self p ≡ true) = scan-some self (shop_count self) 0 p e in
          let l : p < shop_count self = omega arith in
          let one = fewer self p l found.1 in
          let s = ih (apply self p) (keeps self p h l found.1) (omega arith) in
          rw (e, settle, order) record {
            kept = s.kept;
            count = s.count ∙ apply-count self p;
            quiet = s.quiet;
            fewer = omega (arith, s.fewer);
            rise = omega (arith, s.rise, rises self p (sized self h) l);
          }

-- settling leaves nothing ready, whatever the state
pub quiet : (self : Replica) → Sized self → Settled Sized self (settled self) (applying self)
quiet self s = settle-quiet Sized (λ _ h. h) (λ x p h _ _. apply-sized x p h) (waits self) self s (omega arith)
