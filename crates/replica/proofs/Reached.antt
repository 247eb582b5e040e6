-- What holds of every state that calls on an opened replica reach, with the slips that it took in and applied; entering a slip and settling
-- keep it (opening, issuing and whole calls: proofs/Runs).
use mathlib.Core.Path.{◌≡◌, refl, sym, ap, ◌∙◌, subst}
use mathlib.Core.Logic.{◌≢◌}
use mathlib.Core.Bool.{true, false, false≢true}
use mathlib.Core.List.{List, [], ◌∷◌, ◌++◌, append_assoc, append-nil}
use Prim.Native.Nat.{ℕ, ◌+◌, ◌-◌, ◌<◌}
use native.Mathlib.Omega.{arith}
use lib.ListN.{length, length-append}
use borrow.Author.Tests.{eq-eqb, ne_eqb}
use Rattle.texts.specs.declared.slip.Slip.{Slip}
use Rattle.texts.proofs.Legal.{register-legal}
use Rattle.replica.specs.declared.record.Shop.{Shop}
use Rattle.replica.specs.declared.record.Line.{Line}
use Rattle.replica.specs.declared.record.Replica.{Replica}
use Rattle.replica.specs.Record.{shop_count, shop_at, line_at}
use Rattle.replica.specs.Slips.{slip_of, slip_at, firsts, waiting_slips}
use Rattle.replica.specs.Checks.{passes}
use Rattle.replica.specs.Settle.{first_waiting, ready, apply, Settles, stop, step}
use Rattle.replica.specs.Take.{payer_of, entered}
use Rattle.replica.specs.Calls.{Lines, noted, applied_along}
use Rattle.replica.proofs.Sums.{either}
use Rattle.replica.proofs.Only.{only, only_self, only-other, firsts_same, firsts-some, firsts-last}
use Rattle.replica.proofs.Orders.{Settled, Least, least-grow, least_step, got-step, spent-step}
use Rattle.replica.proofs.Credit.{costs, brings, trade_of, costs-amount, brings-payee, brings-others, Counted, enabled, ready_of}
use Rattle.replica.proofs.Parts.{Parts, parts, whole}
use Rattle.replica.proofs.OneToOne.{Passed, one-to-one}
use Rattle.replica.proofs.Shops.{is-out}
use Rattle.replica.proofs.Quiet.{line_other}
use Rattle.replica.proofs.Applied.{ready-funds, at_place, apply-lawful, next, payer, payee, same, below, other, some, line-payer}
use Rattle.replica.proofs.Taken as took

-- ---- one slip more

pub noted_here : (p : ℕ) (x : Slip) (s : Lines) → noted p x s p ≡ s p ++ (x ∷ [])
unfolding noted
noted_here p x s = rw (eq-eqb p p refl, noted)

pub noted-there : (p : ℕ) (x : Slip) (s : Lines) (q : ℕ) → q ≢ p → noted p x s q ≡ s q
unfolding noted
noted-there p x s q d = rw (ne_eqb q p d, noted)

noted-prefix : (p : ℕ) (x : Slip) (t : Lines) (q : ℕ) → (r : List Slip) × (t q ++ r ≡ noted p x t q)
noted-prefix p x t q = either q p
    (λ j. (x ∷ [], subst (λ (i : ℕ). t i ++ (x ∷ []) ≡ noted p x t i) (sym j) (sym (noted_here p x t))))
    (λ j. ([], append-nil (t q) ∙ sym (noted-there p x t q j)))

-- ---- t was taken in, s is applied, and the rest waits

pub record Inv (self : Replica) (t s : Lines) : Type 0 where
  pub counted : Counted self s
  pub line : (p : ℕ) → p < shop_count self → s p ++ waiting_slips self p ≡ t p
  pub least : Least (trade_of self) t s

-- applying moves the amount
module _ (self : Replica) (p : ℕ) (P : Parts self) (h : p < shop_count self) (e : ready self p ≡ true) where
  abbrev x : Slip
  x = slip_at self p 0

  abbrev Moves : ℕ → Type 0
  Moves q = (shop_at (apply self p) q).balance + only p (costs 0 x) q ≡ (shop_at self q).balance + brings self.register.shops q 0 x

  pub moves : (q : ℕ) → q < shop_count self → Moves q
  moves q l =
      let w = first_waiting self p in
      let r = self.register in
      let R = register-legal r P.register in
      let c = costs-amount r w in
      let f = ready-funds self p e in
      let to = below self p P h e in
      let pays : (shop_at (apply self p) p).balance ≡ (shop_at self p).balance - w.amount = ap (λ (s : Shop). s.balance) (payer self p P h e) in
      let is-paid : (shop_at (apply self p) w.payee).balance ≡ (shop_at self w.payee).balance + w.amount = ap (λ (s : Shop). s.balance) (payee self p P h e) in
      let here : Moves p = omega (arith, only_self p (costs 0 x) p refl, brings-others r w R to p h (other self p P h e)) in
      let there : w.payee ≢ p → Moves w.payee = λ d. omega (arith, only-other p (costs 0 x) w.payee d, brings-payee r w) in
      either q p
      (λ j. subst Moves (sym j) here)
      (λ d. either q w.payee
      (λ j. subst Moves (sym j) (there (λ k. d (j ∙ k))))
      (λ j. omega (arith, ap (λ (s : Shop). s.balance) (is-out self p (other self p P h e) q d j), only-other p (costs 0 x) q d, brings-others r w R to q l j)))

  -- the first slip leaves the line
  pub queue-less : x ∷ waiting_slips (apply self p) p ≡ waiting_slips self p
  unfolding apply
  queue-less =
      let n = (line_at self p).count in
      let some = some self p P h e in
      let c : (line_at (apply self p) p).count ≡ n - 1 = ap (λ (x : Line). x.count) (line-payer self p P h e) in
      ap (λ (l : List Slip). x ∷ l)
      (ap (λ (k : ℕ). firsts k (slip_at (apply self p) p)) c
      ∙ firsts_same (n - 1) (slip_at (apply self p) p) (λ k. slip_at self p (k + 1)) (λ k l. ap (slip_of self.register) (next self p P h e k (omega arith))))
      ∙ sym (firsts-some n (slip_at self p) some)

  pub queue-same : (q : ℕ) → q ≢ p → waiting_slips (apply self p) q ≡ waiting_slips self q
  unfolding apply
  queue-same q d = ap (λ (x : Line). firsts x.count (λ k. slip_of self.register (at_place x k))) (line_other self p q d)

pub apply-inv : (self : Replica) (t s : Lines) (p : ℕ) → Inv self t s → p < shop_count self → ready self p ≡ true → Inv (apply self p) t (noted p (slip_at self p 0) s)
unfolding apply
apply-inv self t s p I h e =
    let x = slip_at self p 0 in
    let s' = noted p x s in
    let C = I.counted in
    let P = parts self C.lawful in
    let en = enabled self s C p h t (I.line p h) e in
    record {
      counted = record {
        lawful = apply-lawful self p C.lawful h e;
        applied = λ q l. either q p
            (λ j. subst (λ (i : ℕ). length (s' i) ≡ (shop_at (apply self p) i).applied) (sym j)
            (ap length (noted_here p x s) ∙ length-append (s p) (x ∷ []) ∙ ap (λ (k : ℕ). k + 1) (C.applied p h) ∙ sym (ap (λ (a : Shop). a.applied) (payer self p P h e))))
            (λ j. ap length (noted-there p x s q j) ∙ C.applied q l ∙ sym (same self p P h e q j).1);
        holds = λ q l. omega (
          arith,
          C.holds q l,
          moves self p P h e q l,
          spent-step (trade_of self) s s' p x (noted_here p x s) (noted-there p x s) q 0,
          got-step (trade_of self) s s' p x (noted_here p x s) (noted-there p x s) h q 0,
        );
      };
      line = λ q l. either q p
          (λ j. subst (λ (i : ℕ). s' i ++ waiting_slips (apply self p) i ≡ t i) (sym j)
          (ap (λ (z : List Slip). z ++ waiting_slips (apply self p) p) (noted_here p x s) ∙ append_assoc (s p) (x ∷ []) (waiting_slips (apply self p) p) ∙ ap (λ (z : List Slip). s p ++ z) (queue-less self p P h e) ∙ I.line p h))
          (λ j. ap (λ (z : List Slip). z ++ waiting_slips (apply self p) q) (noted-there p x s q j) ∙ ap (λ (z : List Slip). s q ++ z) (queue-same self p P h e q j) ∙ I.line q l);
      least = least_step (trade_of self) t s s' p x I.least en (noted_here p x s) (noted-there p x s);
    }

-- ---- settling

pub record Rest (self : Replica) (t s : Lines) : Type 0 where
  pub inv : Inv self t s
  pub quiet : (p : ℕ) → p < shop_count self → ready self p ≡ false

pub settled-rest : {self end : Replica} {list : List ℕ} → Settles self list end → (t s : Lines) → Inv self t s → Rest end t (applied_along self list s)
unfolding applied_along
settled-rest (stop N) t s I = record { inv = I; quiet = N }
settled-rest (step {self} {end} {p} h N r more) t s I = settled-rest more t (noted p (slip_at self p 0) s) (apply-inv self t s p I h r)

-- at rest, nothing more may be applied
pub rest-settled : (self : Replica) (t s : Lines) → Rest self t s → Settled (trade_of self) t s
unfolding Settled
rest-settled self t s R p x en =
    let I = R.inv in
    false≢true (sym (R.quiet p en.inside) ∙ ready_of self s I.counted p en.inside t x (I.line p en.inside) en)

-- ---- entering

module _ (self : Replica) (x : Slip) (P : Parts self) (Q : Passed self.register x) (ok : passes self.register x ≡ true)
    (number : x.number ≡ (shop_at self (payer_of self x)).taken + 1) (room : (line_at self (payer_of self x)).count < 8) where
  pub queue-more : waiting_slips (entered self x) (payer_of self x) ≡ waiting_slips self (payer_of self x) ++ (x ∷ [])
  unfolding entered
  queue-more =
      let r = self.register in
      let p = payer_of self x in
      let n = (line_at self p).count in
      ap (λ (l : Line). firsts l.count (slip_at (entered self x) p)) (took.line-payer self x P Q ok number room)
      ∙ firsts-last n (slip_at (entered self x) p)
      ∙ ap (λ (l : List Slip). l ++ (slip_at (entered self x) p n ∷ [])) (firsts_same n (slip_at (entered self x) p) (slip_at self p) (λ k l. ap (slip_of r) (took.old self x P Q ok number room k l)))
      ∙ ap (λ (y : Slip). waiting_slips self p ++ (y ∷ [])) (ap (slip_of r) (took.last self x P Q ok number room n refl) ∙ one-to-one r x (register-legal r P.register) Q)

  pub queue-others : (q : ℕ) → q ≢ payer_of self x → waiting_slips (entered self x) q ≡ waiting_slips self q
  unfolding entered
  queue-others q d = ap (λ (l : Line). firsts l.count (λ k. slip_of self.register (at_place l k))) (took.line_other self x P Q ok number room q d)

  pub enter-inv : (t s : Lines) → Inv self t s → Inv (entered self x) (noted (payer_of self x) x t) s
  unfolding entered
  enter-inv t s I =
      let p = payer_of self x in
      let C = I.counted in
      let here = took.h self x P Q ok number room in
      record {
        counted = record {
          lawful = whole (entered self x) (took.entered-parts self x P Q ok number room);
          applied = λ q l. C.applied q l ∙ sym (took.alone self x P Q ok number room (λ a. a.applied) (λ _. refl) q);
          holds = λ q l. omega (arith, C.holds q l, took.alone self x P Q ok number room (λ a. a.balance) (λ _. refl) q);
        };
        line = λ q l. either q p
            (λ j. subst (λ (i : ℕ). s i ++ waiting_slips (entered self x) i ≡ noted p x t i) (sym j)
            (ap (λ (z : List Slip). s p ++ z) queue-more ∙ sym (append_assoc (s p) (waiting_slips self p) (x ∷ [])) ∙ ap (λ (z : List Slip). z ++ (x ∷ [])) (I.line p here) ∙ sym (noted_here p x t)))
            (λ j. ap (λ (z : List Slip). s q ++ z) (queue-others q j) ∙ I.line q l ∙ sym (noted-there p x t q j));
        least = least-grow (trade_of self) t (noted p x t) s (λ q l. noted-prefix p x t q) I.least;
      }
