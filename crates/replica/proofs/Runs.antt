-- Opening, every call and so every run of calls keep what Reached says, with nothing ready; the register stays as it was opened.
use mathlib.Core.Path.{◌≡◌, refl, sym, ap, ap₂, ◌∙◌}
use mathlib.Core.Bool.{Bool, true, ◌&&◌}
use mathlib.Core.List.{List, [], ◌∷◌}
use Prim.Native.Nat.{ℕ, zero, suc, ◌+◌, ◌<◌}
use native.Mathlib.Omega.{arith}
use lib.ListN.{get_or}
use lib.Dec.{leb, ltb, eqb}
use Rattle.texts.specs.Register.{register_answer, register_read}
use Rattle.texts.specs.declared.register.Register.{Register}
use Rattle.texts.proofs.Legal.{register-legal, read-legal}
use Rattle.replica.specs.declared.record.Shop.{Shop}
use Rattle.replica.specs.declared.record.Line.{Line}
use Rattle.replica.specs.declared.record.Replica.{Replica}
use Rattle.replica.specs.Record.{shop_count, shop_at, line_at}
use Rattle.replica.specs.Slips.{slip_at, firsts}
use Rattle.replica.specs.Checks.{passes}
use Rattle.replica.specs.Settle.{first_waiting, ready, apply, applying}
use Rattle.replica.specs.Open.{fresh, opened}
use Rattle.replica.specs.Take.{slip_from, payer_of, take_answer, entered, taken}
use Rattle.replica.specs.Issue.{issue_answer, issuing, issued}
use Rattle.replica.specs.Calls.{Call, take, issue, balance, call, after, end, Lines, no_slips, noted, took_in, applied, applied_along, taken_from, applied_from}
use Rattle.replica.specs.Lasting.{StepsKeep}
use Rattle.replica.proofs.Only.{every-same, sum-zero}
use Rattle.replica.proofs.Keeping.{took-settled, took-same, issued-issuing, issued-same, call-keeps, calls-keep}
use Rattle.replica.proofs.Orders.{total, got, spent, least_start}
use Rattle.replica.proofs.Credit.{stock, trade_of}
use Rattle.replica.proofs.Reached.{Inv, Rest, enter-inv, settled-rest}
use Rattle.replica.proofs.Parts.{parts, whole}
use Rattle.replica.proofs.Quiet.{none-ready}
use Rattle.replica.proofs.Settling.{settles-so}
use Rattle.replica.proofs.Opened.{fresh-shop, fresh-line, fresh-lawful}
use Rattle.replica.proofs.Applied.{passed-of}
use Rattle.replica.proofs.Taken.{accepted}
use Rattle.replica.proofs.Issued.{cleared, free, issuing-parts, asked-same}
use Rattle.replica.proofs.Promises.{take-answered}

-- ---- opening

fresh-rest : (r : Register) → register_answer r ≡ 0 → Rest (fresh r) no_slips no_slips
unfolding fresh firsts spent got total stock
fresh-rest r e =
    record {
      inv = record {
        counted = record {
          lawful = fresh-lawful r e;
          applied = λ p h. sym (ap (λ (s : Shop). s.applied) (fresh-shop r p));
          holds = λ p h. omega (arith, ap (λ (s : Shop). s.balance) (fresh-shop r p), sum-zero r.count (λ q. 0) (λ q. refl));
        };
        line = λ p h. ap (λ (k : ℕ). firsts k (slip_at (fresh r) p)) (none p h);
        least = least_start (trade_of (fresh r)) no_slips no_slips (λ q. refl);
      };
      quiet = λ p h. none-ready (fresh r) p (none p h);
    }
  where
    none : (p : ℕ) → p < r.count → (line_at (fresh r) p).count ≡ 0
    none p h = ap (λ (l : Line). l.count) (fresh-line r p (omega (arith, (register-legal r e).fits.most)))

pub opened-rest : (text : List ℕ) → (opened text).answer ≡ 0 → Rest (opened text).replica no_slips no_slips
unfolding opened
opened-rest text e = go (register_read text).answer refl
  where
    go : (n : ℕ) → (register_read text).answer ≡ n → Rest (opened text).replica no_slips no_slips
    go zero i = let O = read-legal text i in rw (i, opened) (fresh-rest (register_read text).register (ap register_answer O.given ∙ O.legal))
    go (suc n) i = let z : suc n ≡ 0 = rw (i, opened) at e in absurd (omega arith)

-- ---- issuing

issued-ready : (self : Replica) (p : ℕ) → ready (issuing self) p ≡ ready self p
unfolding ready issuing
issued-ready self p =
    let w = first_waiting self p in
    let n = (line_at self p).count in
    let c = every-same (shop_count self) (λ r. leb (get_or w.needs r 0) (shop_at (issuing self) r).applied) (λ r. leb (get_or w.needs r 0) (shop_at self r).applied)
    (λ r _. ap (λ (s : Shop). leb (get_or w.needs r 0) s.applied) (cleared self r)) in
    ap₂ (λ (s : Shop) (b : Bool). ltb 0 n && (eqb w.number (s.applied + 1) && (leb w.amount s.balance && b))) (cleared self p) c

issue-rest : (self : Replica) (t s : Lines) (payee : List ℕ) (amount : ℕ) (buffer : List ℕ) → issue_answer self payee amount buffer ≡ 0 → Rest self t s → Rest (issuing self) t s
unfolding issuing
issue-rest self t s payee amount buffer e R =
    let I = R.inv in
    let C = I.counted in
    let F = free self payee amount buffer e in
    record {
      inv = record {
        counted = record {
          lawful = whole (issuing self) (issuing-parts self (parts self F.lawful) F.not_used_up);
          applied = λ p h. C.applied p h ∙ sym (ap (λ (x : Shop). x.applied) (cleared self p));
          holds = λ p h. omega (arith, C.holds p h, ap (λ (x : Shop). x.balance) (cleared self p));
        };
        line = I.line;
        least = I.least;
      };
      quiet = λ p h. issued-ready self p ∙ R.quiet p h;
    }

-- ---- taking

take_rest : (self : Replica) (text list : List ℕ) (t s : Lines) → take_answer self text list ≡ 0 → Inv self t s → Inv (entered self (slip_from text)) (noted (payer_of self (slip_from text)) (slip_from text) t) s
take_rest self text list t s e I =
    let A = accepted self text list e in
    let q : passes self.register A.slip ≡ true = A.passes in
    rw A.given (enter-inv self A.slip (parts self A.lawful) (passed-of self.register A.slip q) q A.number A.room t s I)

-- ---- a call

module _ (self : Replica) (text list : List ℕ) (lines : Lines) where
  -- what is noted of a slip that was taken in, and of one that was refused
  pub took-noted : take_answer self text list ≡ 0 → took_in self (take text list) lines ≡ noted (payer_of self (slip_from text)) (slip_from text) lines
  unfolding took_in
  took-noted e = let a : (taken self text list).answer ≡ 0 = take-answered self text list ∙ e in rw (a, took_in)

  pub took-none : (n : ℕ) → take_answer self text list ≡ suc n → took_in self (take text list) lines ≡ lines
  unfolding took_in
  took-none n e = let a : (taken self text list).answer ≡ suc n = take-answered self text list ∙ e in rw (a, took_in)

  pub applied-along : take_answer self text list ≡ 0 → applied self (take text list) lines ≡ applied_along (entered self (slip_from text)) (applying (entered self (slip_from text))) lines
  unfolding applied
  applied-along e = let a : (taken self text list).answer ≡ 0 = take-answered self text list ∙ e in rw (a, applied)

  pub applied-none : (n : ℕ) → take_answer self text list ≡ suc n → applied self (take text list) lines ≡ lines
  unfolding applied
  applied-none n e = let a : (taken self text list).answer ≡ suc n = take-answered self text list ∙ e in rw (a, applied)

pub call-rest : (self : Replica) (c : Call) (t s : Lines) → Rest self t s → Rest (after self c) (took_in self c t) (applied self c s)
unfolding call
call-rest self (take text list) t s R = go (take_answer self text list) refl
  where
    go : (n : ℕ) → take_answer self text list ≡ n → Rest (taken self text list).replica (took_in self (take text list) t) (applied self (take text list) s)
    go zero e =
        rw (took-settled self text list e, took-noted self text list t e, applied-along self text list s e)
        (settled-rest (settles-so (entered self (slip_from text))) _ s (take_rest self text list t s e R.inv))
    go (suc n) e = rw (took-same self text list n e, took-none self text list t n e, applied-none self text list s n e) R
call-rest self (issue payee amount buffer) t s R = unfold took_in applied in go (issue_answer self payee amount buffer) refl
  where
    go : (n : ℕ) → issue_answer self payee amount buffer ≡ n → Rest (issued self payee amount buffer).replica t s
    go zero e = rw (issued-issuing self payee amount buffer e) (issue-rest self t s payee amount buffer e R)
    go (suc n) e = rw (issued-same self payee amount buffer n e) R
call-rest self (balance code) t s R = unfold took_in applied in rw (asked-same self code) R

-- calls leave the register as it was
register-kept : (r : Register) → StepsKeep (λ x. x.register ≡ r)
register-kept r = record {
  entering = λ self text list e h. unfold entered in h;
  applying = λ self p l e h. unfold apply in h;
  writing = λ self payee amount buffer e h. unfold issuing in h;
}

pub call-register : (self : Replica) (c : Call) → (after self c).register ≡ self.register
call-register self c = call-keeps (register-kept self.register) self c refl

-- ---- a run

pub run-rest : (self : Replica) (cs : List Call) (t s : Lines) → Rest self t s → Rest (end self cs) (taken_from t self cs) (applied_from s self cs)
unfolding end taken_from applied_from
run-rest self [] t s R = R
run-rest self (c ∷ cs) t s R = run-rest (after self c) cs (took_in self c t) (applied self c s) (call-rest self c t s R)

pub run-register : (self : Replica) (cs : List Call) → (end self cs).register ≡ self.register
run-register self = calls-keep _ (register-kept self.register) self refl
