-- What the slips that a run takes in cost their payers at most: 999,999 each.
use mathlib.Core.Path.{◌≡◌, refl, sym, subst}
use mathlib.Core.List.{List, [], ◌∷◌, ◌++◌}
use mathlib.Core.Bool.{true}
use Prim.Native.Nat.{ℕ, zero, suc, ◌+◌, ◌*◌, ◌≤◌}
use native.Mathlib.Omega.{arith}
use lib.ListN.{length, length-append}
use Rattle.texts.specs.declared.slip.Slip.{Slip}
use Rattle.texts.proofs.Legal.{slip-legal}
use Rattle.replica.specs.declared.record.Replica.{Replica}
use Rattle.replica.specs.Checks.{passes}
use Rattle.replica.specs.Take.{slip_from, payer_of, take_answer}
use Rattle.replica.specs.Calls.{Call, take, issue, balance, after, Lines, no_slips, noted, took_in, taken_from, taken_in}
use Rattle.replica.specs.Demand.{paid_by}
use Rattle.replica.proofs.Sums.{either}
use Rattle.replica.proofs.Orders.{total-append}
use Rattle.replica.proofs.Credit.{costs, paid-total}
use Rattle.replica.proofs.Applied.{passed-of}
use Rattle.replica.proofs.Taken.{accepted}
use Rattle.replica.proofs.Reached.{noted_here, noted-there}
use Rattle.replica.proofs.Runs.{took-noted, took-none}

pub paid-append : (l m : List Slip) → paid_by (l ++ m) ≡ paid_by l + paid_by m
paid-append l m = omega (arith, paid-total (l ++ m), paid-total l, paid-total m, total-append (costs 0) l m)

-- these slips cost 999,999 each at most, taken together
abbrev AtMost : List Slip → Type 0
AtMost l = paid_by l ≤ length l * 999999

last-most : (l : List Slip) (x : Slip) → x.amount ≤ 999999 → AtMost l → AtMost (l ++ (x ∷ []))
unfolding paid_by
last-most l x h f = omega (arith, paid-append l (x ∷ []), length-append l (x ∷ []))

noted-most : (t : Lines) (q : ℕ) (x : Slip) → x.amount ≤ 999999 → ((p : ℕ) → AtMost (t p)) → (p : ℕ) → AtMost (noted q x t p)
noted-most t q x h f p = either p q
    (λ j. subst (λ (i : ℕ). AtMost (noted q x t i)) (sym j) (rw (noted_here q x t) (last-most (t q) x h (f q))))
    (λ d. rw (noted-there q x t p d) (f p))

amount-most : (self : Replica) (text list : List ℕ) → take_answer self text list ≡ 0 → (slip_from text).amount ≤ 999999
amount-most self text list e =
    let A = accepted self text list e in
    let q : passes self.register A.slip ≡ true = A.passes in
    rw A.given (slip-legal A.slip (passed-of self.register A.slip q).legal).amount

call-most : (self : Replica) (c : Call) (t : Lines) → ((p : ℕ) → AtMost (t p)) → (p : ℕ) → AtMost (took_in self c t p)
call-most self (take text list) t f p = go (take_answer self text list) refl
  where
    go : (n : ℕ) → take_answer self text list ≡ n → AtMost (took_in self (take text list) t p)
    go zero e = rw (took-noted self text list t e) (noted-most t (payer_of self (slip_from text)) (slip_from text) (amount-most self text list e) f p)
    go (suc n) e = rw (took-none self text list t n e) (f p)
call-most self (issue payee amount buffer) t f p = unfold took_in in f p
call-most self (balance code) t f p = unfold took_in in f p

run-most : (self : Replica) (cs : List Call) (t : Lines) → ((p : ℕ) → AtMost (t p)) → (p : ℕ) → AtMost (taken_from t self cs p)
unfolding taken_from
run-most self [] t f p = f p
run-most self (c ∷ cs) t f p = run-most (after self c) cs (took_in self c t) (call-most self c t f) p

pub taken-most : (self : Replica) (cs : List Call) (p : ℕ) → paid_by (taken_in self cs p) ≤ length (taken_in self cs p) * 999999
unfolding paid_by
taken-most self cs = run-most self cs no_slips (λ _. omega arith)
