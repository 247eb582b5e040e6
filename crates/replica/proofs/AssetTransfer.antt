-- What a terminal applied is a legal history of the asset transfer type: each statement of specs/AssetTransfer.
use mathlib.Core.Path.{◌≡◌, refl, sym, ap, ◌∙◌, subst}
use mathlib.Core.Bool.{Bool, true, false}
use mathlib.Core.List.{List, [], ◌∷◌, ◌++◌, map, append_assoc, append-nil}
use Prim.Native.Nat.{ℕ, zero, suc, ◌<◌}
use native.Mathlib.Omega.{arith}
use lib.Dec.{eqb}
use borrow.Author.Tests.{eq-eqb, ne_eqb}
use Rattle.texts.specs.Code.{code_of}
use Rattle.texts.specs.Register.{opening, register_read, position}
use Rattle.texts.specs.declared.register.Register.{Register}
use Rattle.texts.specs.declared.slip.Slip.{Slip}
use Rattle.replica.specs.declared.record.Shop.{Shop}
use Rattle.replica.specs.declared.record.Waiting.{Waiting}
use Rattle.replica.specs.declared.record.Replica.{Replica}
use Rattle.replica.specs.Record.{listed_at, shop_count, shop_at}
use Rattle.replica.specs.Slips.{waiting_of, slip_at}
use Rattle.replica.specs.State.{lawful}
use Rattle.replica.specs.Settle.{first_waiting, ready, apply, Settles, stop, step, applying}
use Rattle.replica.specs.Open.{fresh, opened}
use Rattle.replica.specs.Take.{slip_from, take_answer, entered, taken}
use Rattle.replica.specs.Issue.{issue_answer, issued}
use Rattle.replica.specs.Balance.{asked}
use Rattle.replica.specs.Calls.{Call, take, issue, balance, call, after, end, Lines, no_slips, noted, applied_along, applied, applied_from}
use Rattle.replica.specs.Demand.{start, now}
use Rattle.replica.specs.AssetTransfer.{Same, transfer, read, said, told, Step, succeeds, reads, Legal, nothing, next, Owns, Applied, along, in_call, in_calls, of_shop, transferred, balances_of, AppliedIsLegal, AppliedByShop, AskingIsReading}
use Rattle.replica.proofs.Sums.{either}
use Rattle.replica.proofs.Parts.{parts}
use Rattle.replica.proofs.Back.{map-append, waiting-held}
use Rattle.replica.proofs.Shops.{is-out}
use Rattle.replica.proofs.Applied.{ready-funds, some, below, other, payer, payee, apply-lawful}
use Rattle.replica.proofs.Settling.{settles-so}
use Rattle.replica.proofs.Opened.{fresh-shop, opened-lawful}
use Rattle.replica.proofs.Taken.{entered-alone, entered-lawful, taken-lawful}
use Rattle.replica.proofs.Issued.{cleared, issued-lawful, asked-same, asked-told}
use Rattle.replica.proofs.Promises.{take-answered}
use Rattle.replica.proofs.Keeping.{took-settled, took-same, issued-issuing, issued-same}
use Rattle.replica.proofs.Runs.{applied-along, applied-none, call-register, run-register}
use Rattle.replica.proofs.Histories.{legal-from, legal-append}

-- ---- what a take applied

module _ (self : Replica) (text list : List ℕ) where
  took-along : take_answer self text list ≡ 0 → in_call self (take text list) ≡ along (entered self (slip_from text)) (applying (entered self (slip_from text)))
  unfolding in_call
  took-along e = let a : (taken self text list).answer ≡ 0 = take-answered self text list ∙ e in rw (a, in_call)

  took-nothing : (n : ℕ) → take_answer self text list ≡ suc n → in_call self (take text list) ≡ []
  unfolding in_call
  took-nothing n e = let a : (taken self text list).answer ≡ suc n = take-answered self text list ∙ e in rw (a, in_call)

-- ---- legal

-- applying the first slip in the line of p, as a transfer of x by p, out of account a to b
abbrev Moves : ℕ → Replica → ℕ → ℕ → ℕ → ℕ → Type 0
Moves n self p a b x = Step n Owns (balances_of self) p (transfer a b x) (balances_of (apply self p)) (said true)

applies : (r : Register) (self : Replica) (p : ℕ) → self.register ≡ r → lawful self ≡ true → p < shop_count self → ready self p ≡ true
    → let s = slip_at self p 0 in
    Moves r.count self p (position r s.payer) (position r s.payee) s.amount
unfolding waiting_of
applies r self p same l h e =
    let P = parts self l in
    let s = slip_at self p 0 in
    let w = first_waiting self p in
    let n = shop_count self in
    let there = some self p P h e in
    let moves : Moves n self p p w.payee w.amount =
    succeeds h (below self p P h e) refl (ready-funds self p e)
    (ap (λ (x : Shop). x.balance) (payer self p P h e))
    (ap (λ (x : Shop). x.balance) (payee self p P h e))
    (λ c _ d j. ap (λ (x : Shop). x.balance) (is-out self p (other self p P h e) c d j)) in
    let paid-by-shop : Moves n self p w.payer w.payee w.amount = subst (λ (a : ℕ). Moves n self p a w.payee w.amount) (sym ((P.lined p h).payers 0 there)) moves in
    let of-slip = subst (λ (x : Waiting). Moves n self p x.payer x.payee x.amount) (sym (waiting-held self l p 0 h there)) paid-by-shop in
    subst (λ (x : Register). Moves x.count self p (position x s.payer) (position x s.payee) s.amount) same of-slip

-- a call gives back a lawful state
call-lawful : (self : Replica) (c : Call) → lawful self ≡ true → lawful (after self c) ≡ true
unfolding call
call-lawful self (take text list) l = taken-lawful self text list l
call-lawful self (issue payee amount buffer) l = issued-lawful self payee amount buffer l
call-lawful self (balance code) l = ap lawful (asked-same self code) ∙ l

module _ (r : Register) where
  abbrev History : Replica → List Applied → Replica → Type 0
  History self list end = Legal r.count Owns (balances_of self) (map (transferred r.count r) list) (balances_of end)

  settles-legal : {self end : Replica} {list : List ℕ} → Settles self list end → lawful self ≡ true → self.register ≡ r → History self (along self list) end
  unfolding along
  settles-legal (stop N) l e = nothing (λ c _. refl)
  settles-legal (step {self} {end} {p} h N t more) l e =
      next (applies r self p e l h t) (settles-legal more (apply-lawful self p l h t) (unfold apply in e))

  -- entering leaves the balances as they were
  enters : (self : Replica) (text list : List ℕ) → take_answer self text list ≡ 0 → Same r.count (balances_of self) (balances_of (entered self (slip_from text)))
  enters self text list e c _ = entered-alone self text list e (λ x. x.balance) (λ _. refl) c

  call-legal : (self : Replica) (c : Call) → lawful self ≡ true → self.register ≡ r → History self (in_call self c) (after self c)
  unfolding call
  call-legal self (take text list) l e = go (take_answer self text list) refl
    where
      go : (n : ℕ) → take_answer self text list ≡ n → History self (in_call self (take text list)) (taken self text list).replica
      go zero a =
          rw (took-settled self text list a, took-along self text list a)
          (legal-from r.count Owns (enters self text list a) (settles-legal (settles-so (entered self (slip_from text))) (entered-lawful self text list a) (unfold entered in e)))
      go (suc n) a = rw (took-same self text list n a, took-nothing self text list n a) (nothing (λ c _. refl))
  call-legal self (issue payee amount buffer) l e = unfold in_call in nothing (λ c _. go (issue_answer self payee amount buffer) refl c)
    where
      go : (n : ℕ) → issue_answer self payee amount buffer ≡ n → (c : ℕ) → (shop_at (issued self payee amount buffer).replica c).balance ≡ (shop_at self c).balance
      go zero a c = ap (λ (x : Replica). (shop_at x c).balance) (issued-issuing self payee amount buffer a) ∙ ap (λ (x : Shop). x.balance) (cleared self c)
      go (suc n) a c = ap (λ (x : Replica). (shop_at x c).balance) (issued-same self payee amount buffer n a)
  call-legal self (balance code) l e = unfold in_call in nothing (λ c _. ap (λ (x : Replica). (shop_at x c).balance) (asked-same self code))

  run-legal : (self : Replica) (cs : List Call) → lawful self ≡ true → self.register ≡ r → History self (in_calls self cs) (end self cs)
  unfolding in_calls end
  run-legal self [] l e = nothing (λ c _. refl)
  run-legal self (c ∷ cs) l e =
      rw (map-append (transferred r.count r) (in_call self c) (in_calls (after self c) cs))
      (legal-append r.count Owns (call-legal self c l e) (run-legal (after self c) cs (call-lawful self c l) (call-register self c ∙ e)))

-- the balances of an opened record are the openings
opens : (text : List ℕ) → (opened text).answer ≡ 0 → (p : ℕ) → (shop_at (opened text).replica p).balance ≡ opening (listed_at (opened text).replica.register p)
unfolding opened
opens text e p = go (register_read text).answer refl
  where
    go : (n : ℕ) → (register_read text).answer ≡ n → (shop_at (opened text).replica p).balance ≡ opening (listed_at (opened text).replica.register p)
    go zero i = let r = (register_read text).register in rw (i, opened) (unfold fresh in ap (λ (x : Shop). x.balance) (fresh-shop r p))
    go (suc n) i = let z : suc n ≡ 0 = rw (i, opened) at e in absurd (omega arith)

pub applied-is-legal : AppliedIsLegal
applied-is-legal t =
    let r = (start t).register in
    legal-from r.count Owns (λ p _. opens t.text t.opens p) (run-legal r (start t) t.calls (opened-lawful t.text t.opens) refl)

-- ---- shop by shop

of-append : (p : ℕ) (l m : List Applied) → of_shop p (l ++ m) ≡ of_shop p l ++ of_shop p m
unfolding of_shop
of-append p [] m = refl
of-append p (a ∷ l) m = go (eqb a.payer p) refl (of-append p l m)
  where
    go : (v : Bool) → eqb a.payer p ≡ v → of_shop p (l ++ m) ≡ of_shop p l ++ of_shop p m → of_shop p (a ∷ (l ++ m)) ≡ of_shop p (a ∷ l) ++ of_shop p m
    go true e ih = rw (e, of_shop) (ap (λ (x : List Slip). a.slip ∷ x) ih)
    go false e ih = rw (e, of_shop) ih

-- one slip more
of-noted : (p q : ℕ) (s : Slip) (lines : Lines) (l : List Applied) → noted q s lines p ++ of_shop p l ≡ lines p ++ of_shop p (record { payer = q; slip = s } ∷ l)
unfolding noted of_shop
of-noted p q s lines l = either p q
    (λ j. rw (eq-eqb p q j, eq-eqb q p (sym j), noted, of_shop) (append_assoc (lines p) (s ∷ []) (of_shop p l)))
    (λ j. rw (ne_eqb p q j, ne_eqb q p (λ i. j (sym i)), noted, of_shop))

of-along : (p : ℕ) (self : Replica) (list : List ℕ) (lines : Lines) → applied_along self list lines p ≡ lines p ++ of_shop p (along self list)
unfolding applied_along along
of-along p self [] lines = unfold of_shop in sym (append-nil (lines p))
of-along p self (q ∷ list) lines = of-along p (apply self q) list (noted q (slip_at self q 0) lines) ∙ of-noted p q (slip_at self q 0) lines (along (apply self q) list)

of-call : (p : ℕ) (self : Replica) (c : Call) (lines : Lines) → applied self c lines p ≡ lines p ++ of_shop p (in_call self c)
of-call p self (take text list) lines = go (take_answer self text list) refl
  where
    go : (n : ℕ) → take_answer self text list ≡ n → applied self (take text list) lines p ≡ lines p ++ of_shop p (in_call self (take text list))
    go zero e =
        rw (applied-along self text list lines e, took-along self text list e)
        (of-along p (entered self (slip_from text)) (applying (entered self (slip_from text))) lines)
    go (suc n) e = rw (applied-none self text list lines n e, took-nothing self text list n e) (unfold of_shop in sym (append-nil (lines p)))
of-call p self (issue _ amount buffer) lines = unfold applied in_call of_shop in sym (append-nil (lines p))
of-call p self (balance code) lines = unfold applied in_call of_shop in sym (append-nil (lines p))

of-run : (p : ℕ) (self : Replica) (cs : List Call) (lines : Lines) → applied_from lines self cs p ≡ lines p ++ of_shop p (in_calls self cs)
unfolding applied_from in_calls
of-run p self [] lines = unfold of_shop in sym (append-nil (lines p))
of-run p self (c ∷ cs) lines =
    let l = in_call self c in
    let m = in_calls (after self c) cs in
    of-run p (after self c) cs (applied self c lines)
    ∙ ap (λ (x : List Slip). x ++ of_shop p m) (of-call p self c lines)
    ∙ append_assoc (lines p) (of_shop p l) (of_shop p m)
    ∙ ap (λ (x : List Slip). lines p ++ x) (sym (of-append p l m))

pub applied-by-shop : AppliedByShop
applied-by-shop t p _ = sym (of-run p (start t) t.calls no_slips)

-- ---- asking

abbrev Reads : ℕ → Replica → ℕ → ℕ → ℕ → Type 0
Reads n self asker a x = Step n Owns (balances_of self) asker (read a) (balances_of self) (told x)

asked-reads : (r : Register) (self : Replica) (code : List ℕ) (asker : ℕ) → self.register ≡ r → (asked self code).answer ≡ 0
    → Reads r.count self asker (position r (code_of code)) (asked self code).balance
asked-reads r self code asker same e =
    let T = asked-told self code e in
    let one = subst (Reads (shop_count self) self asker (position self.register (code_of code))) (sym T.balance) (reads T.inside (λ c _. refl)) in
    subst (λ (x : Register). Reads x.count self asker (position x (code_of code)) (asked self code).balance) same one

pub asking-is-reading : AskingIsReading
asking-is-reading t code asker e = asked-reads (start t).register (now t) code asker (run-register (start t) t.calls) e
