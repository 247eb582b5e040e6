-- What a call leaves of the front of a shop's line, and so of its being ready.
use mathlib.Core.Path.{◌≡◌, refl, sym, ap, ◌∙◌}
use mathlib.Core.Logic.{◌≢◌}
use mathlib.Core.Bool.{true}
use mathlib.Core.List.{List}
use Prim.Native.Nat.{ℕ, ◌+◌, ◌≤◌, ◌<◌}
use native.Mathlib.Omega.{arith}
use lib.ListN.{get_or}
use lib.Dec.{leb, ltb}
use borrow.Author.Tests.{eqb-true, leb-true, eq-eqb, le-leb, lt-ltb}
use Rattle.texts.proofs.Steps.{both, and}
use Rattle.replica.specs.declared.record.Shop.{Shop}
use Rattle.replica.specs.declared.record.Waiting.{Waiting}
use Rattle.replica.specs.declared.record.Line.{Line}
use Rattle.replica.specs.declared.record.Replica.{Replica}
use Rattle.replica.specs.Record.{shop_count, shop_at, line_at}
use Rattle.replica.specs.Checks.{passes}
use Rattle.replica.specs.State.{lawful}
use Rattle.replica.specs.Settle.{first_waiting, ready_a, ready_b, ready_c, ready, apply}
use Rattle.replica.specs.Take.{slip_from, payer_of, take_answer, took_one, entered}
use Rattle.replica.specs.Issue.{issuing}
use Rattle.replica.specs.Lasting.{SameFront}
use Rattle.replica.proofs.Sums.{either, every-at, at_every}
use Rattle.replica.proofs.Quiet.{ready-some, line_other, apply-count}
use Rattle.replica.proofs.Parts.{Parts, parts}
use Rattle.replica.proofs.Shops.{is-out}
use Rattle.replica.proofs.Applied.{ready-funds, at_place, passed-of, payer, payee, other, same}
use Rattle.replica.proofs.Taken as took
use Rattle.replica.proofs.Taken.{accepted}
use Rattle.replica.proofs.Issued.{cleared}

-- ---- the front of a line is kept

-- a slip waits for the shop at p, the one that was first before, and nothing was applied for the shop
pub record FrontKept (self then : Replica) (p : ℕ) : Type 0 where
  pub some : 0 < (line_at then p).count
  pub front : SameFront self then p

-- another shop's slip is applied
pub apply-front : (self : Replica) (q : ℕ) → Parts self → q < shop_count self → ready self q ≡ true → (p : ℕ) → p ≢ q → 0 < (line_at self p).count → FrontKept self (apply self q) p
apply-front self q P h e p d s =
    let j = line_other self q p d in
    record {
      some = omega (arith, ap (λ (x : Line). x.count) j);
      front = record { applied = (same self q P h e p d).1; first = ap (λ (x : Line). at_place x 0) j };
    }

-- a slip, anybody's, is put last in its line: what that leaves alone of a shop's numbers,
pub enter-alone : (self : Replica) (text list : List ℕ) → take_answer self text list ≡ 0 → (f : Shop → ℕ) → ((x : Shop) → f (took_one x) ≡ f x)
    → (p : ℕ) → f (shop_at (entered self (slip_from text)) p) ≡ f (shop_at self p)
enter-alone self text list e f k p =
    let A = accepted self text list e in
    let ok : passes self.register A.slip ≡ true = A.passes in
    rw A.given (took.alone self A.slip (parts self A.lawful) (passed-of self.register A.slip ok) ok A.number A.room f k p)

-- and the front
pub enter-front : (self : Replica) (text list : List ℕ) → take_answer self text list ≡ 0 → (p : ℕ) → 0 < (line_at self p).count → FrontKept self (entered self (slip_from text)) p
enter-front self text list e p s =
    let A = accepted self text list e in
    let x = A.slip in
    let ok : passes self.register x ≡ true = A.passes in
    let P = parts self A.lawful in
    let Q = passed-of self.register x ok in
    let a : (shop_at (entered self x) p).applied ≡ (shop_at self p).applied = rw A.given at (enter-alone self text list e (λ (y : Shop). y.applied) (λ _. refl) p) in
    rw A.given
    (either p (payer_of self x)
    (λ j.
    let here : 0 < (line_at self (payer_of self x)).count = rw j at s in
    let l = took.line-payer self x P Q ok A.number A.room in
    record {
      some = rw j (omega (arith, ap (λ (y : Line). y.count) l));
      front = record { applied = a; first = rw j (took.old self x P Q ok A.number A.room 0 here) };
    })
    (λ d.
    let l = took.line_other self x P Q ok A.number A.room p d in
    record { some = omega (arith, ap (λ (y : Line). y.count) l); front = record { applied = a; first = ap (λ (y : Line). at_place y 0) l } }))

-- a slip is issued
pub issue-front : (self : Replica) (p : ℕ) → 0 < (line_at self p).count → FrontKept self (issuing self) p
unfolding issuing
issue-front self p s = record { some = s; front = record { applied = ap (λ (x : Shop). x.applied) (cleared self p); first = refl } }

-- ---- ready stays ready

pub ready-number : (self : Replica) (p : ℕ) → ready self p ≡ true → (first_waiting self p).number ≡ (shop_at self p).applied + 1
unfolding ready
ready-number self p e = eqb-true _ _ (both (ready_a self p) _ (both (ltb 0 (line_at self p).count) _ e).1).0

pub ready-needs : (self : Replica) (p : ℕ) → ready self p ≡ true → (r : ℕ) → r < shop_count self → get_or (first_waiting self p).needs r 0 ≤ (shop_at self r).applied
unfolding ready
ready-needs self p e r h =
    let a = both (ltb 0 (line_at self p).count) _ e in
    let b = both (ready_a self p) _ a.1 in
    let c = both (ready_b self p) (ready_c self p) b.1 in
    leb-true _ _ (every-at (shop_count self) (λ r. leb (get_or (first_waiting self p).needs r 0) (shop_at self r).applied) c.1 r h)

-- where the front is kept, the shop has no less credit and no shop's applied number is lower
ready-kept : (self then : Replica) (p : ℕ) → shop_count then ≡ shop_count self → FrontKept self then p → (shop_at self p).balance ≤ (shop_at then p).balance
    → ((r : ℕ) → (shop_at self r).applied ≤ (shop_at then r).applied) → ready self p ≡ true → ready then p ≡ true
unfolding ready
ready-kept self then p n F b a e =
    let w = F.front.first in
    and _ _ (lt-ltb 0 _ F.some)
    (and _ _ (eq-eqb _ _ (ap (λ (x : Waiting). x.number) w ∙ ready-number self p e ∙ ap (λ (k : ℕ). k + 1) (sym F.front.applied)))
    (and _ _ (le-leb (first_waiting then p).amount _ (omega (arith, ap (λ (x : Waiting). x.amount) w, ready-funds self p e)))
    (at_every (shop_count then) (λ r. leb (get_or (first_waiting then p).needs r 0) (shop_at then r).applied)
    (λ r h. le-leb (get_or (first_waiting then p).needs r 0) _ (omega (arith, ap (λ (x : Waiting). get_or x.needs r 0) w, ready-needs self p e r (omega arith), a r))))))

module _ (self : Replica) (q : ℕ) (P : Parts self) (h : q < shop_count self) (e : ready self q ≡ true) where
  -- applying takes credit from the payer alone
  no_less : (p : ℕ) → p ≢ q → (shop_at self p).balance ≤ (shop_at (apply self q) p).balance
  no_less p d = either p (first_waiting self q).payee
      (λ j. rw j (omega (arith, ap (λ (s : Shop). s.balance) (payee self q P h e))))
      (λ j. omega (arith, ap (λ (s : Shop). s.balance) (is-out self q (other self q P h e) p d j)))

  pub one_more_lem : (p : ℕ) → p ≡ q → (shop_at (apply self q) p).applied ≡ (shop_at self p).applied + 1
  one_more_lem p j = rw j (ap (λ (s : Shop). s.applied) (payer self q P h e))

  no_lower : (r : ℕ) → (shop_at self r).applied ≤ (shop_at (apply self q) r).applied
  no_lower r = either r q (λ j. omega (arith, one_more_lem r j)) (λ d. omega (arith, (same self q P h e r d).1))

pub apply-keeps : (self : Replica) → lawful self ≡ true → (p : ℕ) → ready self p ≡ true → (q : ℕ) → q < shop_count self → p ≢ q → ready self q ≡ true → ready (apply self q) p ≡ true
apply-keeps self l p e q h d r =
    let P = parts self l in
    ready-kept self (apply self q) p (apply-count self q) (apply-front self q P h r p d (ready-some self p e)) (no_less self q P h r p d) (no_lower self q P h r) e

pub enter-keeps : (self : Replica) → (p : ℕ) → ready self p ≡ true → (text list : List ℕ) → take_answer self text list ≡ 0 → ready (entered self (slip_from text)) p ≡ true
enter-keeps self p e text list a =
    ready-kept self (entered self (slip_from text)) p (unfold entered in refl) (enter-front self text list a p (ready-some self p e))
    (omega (arith, enter-alone self text list a (λ (y : Shop). y.balance) (λ _. refl) p))
    (λ r. omega (arith, enter-alone self text list a (λ (y : Shop). y.applied) (λ _. refl) r))
    e

pub issue-keeps : (self : Replica) (p : ℕ) → ready self p ≡ true → ready (issuing self) p ≡ true
issue-keeps self p e =
    ready-kept self (issuing self) p (unfold issuing in refl) (issue-front self p (ready-some self p e))
    (omega (arith, ap (λ (x : Shop). x.balance) (cleared self p)))
    (λ r. omega (arith, ap (λ (x : Shop). x.applied) (cleared self r)))
    e
