-- Slips applied in any order: two ready ones may change places, so whichever order it was, the end is settling's.
use mathlib.Core.Path.{◌≡◌, refl, sym, ap, ◌∙◌, subst}
use mathlib.Core.Logic.{◌≢◌}
use mathlib.Core.Bool.{true, false≢true}
use mathlib.Core.List.{List, [], ◌∷◌}
use Prim.Native.Nat.{ℕ, zero, suc, ◌≤◌, ◌<◌}
use native.Mathlib.Omega.{arith}
use lib.ListN.{get_or, set}
use lib.Dec.{eqb}
use Rattle.replica.specs.declared.record.Shop.{Shop}
use Rattle.replica.specs.declared.record.Waiting.{Waiting}
use Rattle.replica.specs.declared.record.Line.{Line}
use Rattle.replica.specs.declared.record.Replica.{Replica}
use Rattle.replica.specs.Record.{no_shop, shop_count, own, adjust}
use Rattle.replica.specs.State.{lawful}
use Rattle.replica.specs.Settle.{first_waiting, ready, paying, paid, without_first, apply, NoneReady, Settles, stop, step}
use Rattle.replica.specs.Promises.{Applies, none, next, AnyOrderEndsSo}
use Rattle.replica.proofs.Sums.{either}
use Rattle.replica.proofs.Quiet.{line_other, apply-count}
use Rattle.replica.proofs.Settling.{settles-so}
use Rattle.replica.proofs.Shops.{adjust-other}
use Rattle.replica.proofs.Applied.{ready-funds, at_place, apply-lawful}
use Rattle.replica.proofs.Fronts.{apply-keeps}

-- ---- two changes of a list change places

module _ {A : Type 0} (z : A) where
  abbrev changed : (A → A) → ℕ → List A → List A
  changed f i l = set l i (f (get_or l i z))

  -- at two places always, at one place if they may there
  swap : (f g : A → A) (i j : ℕ) (l : List A) → (i ≡ j → f (g (get_or l i z)) ≡ g (f (get_or l i z)))
      → changed f i (changed g j l) ≡ changed g j (changed f i l)
  swap f g i j [] h = refl
  swap f g zero zero (x ∷ l) h = ap (λ (y : A). y ∷ l) (h refl)
  swap f g zero (suc j) (x ∷ l) h = refl
  swap f g (suc i) zero (x ∷ l) h = refl
  swap f g (suc i) (suc j) (x ∷ l) h = ap (λ (m : List A). x ∷ m) (swap f g i j l (λ e. h (ap suc e)))

-- ---- two ready slips of different shops change places

-- "The amount leaves the payer and goes to the payee": the shops' numbers after slip w of the shop at p; o is the own shop.
abbrev moved : ℕ → Waiting → ℕ → List Shop → List Shop
moved o w p ss = adjust (paid w.amount) w.payee (adjust (paying (eqb w.payee o) w.number w.amount) p ss)

module _ (o : ℕ) (v w : Waiting) (p q : ℕ) (ss : List Shop) (d : p ≢ q)
    (enough : v.amount ≤ (get_or ss p no_shop).balance) (enough' : w.amount ≤ (get_or ss q no_shop).balance) where
  abbrev pay : Waiting → Shop → Shop
  pay x = paying (eqb x.payee o) x.number x.amount

  abbrev get : Waiting → Shop → Shop
  get x = paid x.amount

  -- paying and being paid, where there is enough before
  covered : (x y : Waiting) (s : Shop) → x.amount ≤ s.balance → pay x (get y s) ≡ get y (pay x s)
  covered x y s h =
      let b : (pay x (get y s)).balance ≡ (get y (pay x s)).balance = omega arith in
      λ i. record { balance = b i; taken = s.taken; applied = (pay x s).applied; mark = (pay x s).mark }

  both-paid : (x y : Waiting) (s : Shop) → get x (get y s) ≡ get y (get x s)
  both-paid x y s =
      let b : (get x (get y s)).balance ≡ (get y (get x s)).balance = omega arith in
      λ i. record { balance = b i; taken = s.taken; applied = s.applied; mark = s.mark }

  moved-swap : moved o v p (moved o w q ss) ≡ moved o w q (moved o v p ss)
  moved-swap =
      let a = v.payee in
      let b = w.payee in
      let l = adjust (pay w) q ss in
      let m = adjust (pay v) p ss in
      let at_p = ap (λ (s : Shop). s.balance) (adjust-other (pay w) q p ss d) in
      let at-q = ap (λ (s : Shop). s.balance) (adjust-other (pay v) p q ss (λ e. d (sym e))) in
      ap (adjust (get v) a) (swap no_shop (pay v) (get w) p b l (λ _. covered v w (get_or l p no_shop) (omega arith)))
      ∙ swap no_shop (get v) (get w) a b (adjust (pay v) p l) (λ _. both-paid v w (get_or (adjust (pay v) p l) a no_shop))
      ∙ ap (λ (x : List Shop). adjust (get w) b (adjust (get v) a x)) (swap no_shop (pay v) (pay w) p q ss (λ e. absurd (d e)))
      ∙ ap (adjust (get w) b) (sym (swap no_shop (pay w) (get v) q a m (λ _. covered w v (get_or m q no_shop) (omega arith))))

first-other : (self : Replica) (p q : ℕ) → q ≢ p → first_waiting (apply self p) q ≡ first_waiting self q
first-other self p q d = ap (λ (x : Line). at_place x 0) (line_other self p q d)

apply-swap : (self : Replica) (p q : ℕ) → p ≢ q → ready self p ≡ true → ready self q ≡ true → apply (apply self q) p ≡ apply (apply self p) q
unfolding apply
apply-swap self p q d e r =
    let o = own self in
    let v = first_waiting self p in
    let w = first_waiting self q in
    let ss = self.shops in
    let shops : (apply (apply self q) p).shops ≡ (apply (apply self p) q).shops =
    ap (λ (x : Waiting). moved o x p (moved o w q ss)) (first-other self q p d)
    ∙ moved-swap o v w p q ss d (ready-funds self p e) (ready-funds self q r)
    ∙ ap (λ (x : Waiting). moved o x q (moved o v p ss)) (sym (first-other self p q (λ j. d (sym j)))) in
    let lines = swap (record { count = 0; slips = [] }) without_first without_first p q self.lines (λ j. absurd (d j)) in
    λ i. record { register = self.register; issued = self.issued; shops = shops i; lines = lines i }

-- ---- a ready slip that is applied at some time may be applied at once

sooner : {self end : Replica} {list : List ℕ} → Applies self list end → lawful self ≡ true → NoneReady end (shop_count end)
    → (p : ℕ) → p < shop_count self → ready self p ≡ true → (rest : List ℕ) × Applies (apply self p) rest end
sooner none l N p h e = absurd (false≢true (sym (N p h) ∙ e))
sooner (next {self} {end} {p = q} {list} k r more) l N p h e =
    let ih : ready (apply self q) p ≡ true → (rest : List ℕ) × Applies (apply (apply self q) p) rest end =
    sooner more (apply-lawful self q l k r) N p (omega (arith, apply-count self q)) in
    either p q
    (λ j. (list, subst (λ (i : ℕ). Applies (apply self i) list end) (sym j) more))
    (λ d.
    let s = ih (apply-keeps self l p e q k d r) in
    let then : Applies (apply (apply self p) q) s.0 end = subst (λ (x : Replica). Applies x s.0 end) (apply-swap self p q d e r) s.1 in
    (q ∷ s.0, next (omega (arith, apply-count self p)) (apply-keeps self l q r p h (λ j. d (sym j)) e) then))

-- ---- so the end is settling's

ends_so : {self end end' : Replica} {list list' : List ℕ} → Settles self list end → lawful self ≡ true
    → Applies self list' end' → NoneReady end' (shop_count end') → end' ≡ end
ends_so (stop M) l none N = refl
ends_so (stop M) l (next {p = p} h e more) N = absurd (false≢true (sym (M p h) ∙ e))
ends_so (step {self} {p = p} h M e more) l s N = ends_so more (apply-lawful self p l h e) (sooner s l N p h e).1 N

pub any-order-ends-so : AnyOrderEndsSo
any-order-ends-so self end list l s N = ends_so (settles-so self) l s N
