-- The promises on the steps, from what each step changes.
use mathlib.Core.Path.{◌≡◌, refl, sym, ap, ap₂, ◌∙◌, subst}
use mathlib.Core.Bool.{true, false, not}
use mathlib.Core.List.{List, [], ◌∷◌}
use Prim.Native.Nat.{ℕ, zero, suc, ◌+◌, ◌≤◌, ◌<◌}
use native.Mathlib.Omega.{arith}
use lib.ListN.{length, drop}
use borrow.Author.Tests.{eq-eqb, ne_eqb}
use Rattle.texts.specs.Answers.{answer_of, Row, state}
use Rattle.texts.specs.Written.{over}
use Rattle.texts.specs.Register.{register_read}
use Rattle.texts.specs.Register.{RegisterRead}
use Rattle.texts.specs.declared.slip.Slip.{Slip}
use Rattle.texts.specs.Slip.{SlipRead}
use Rattle.texts.proofs.Values.{fails}
use Rattle.texts.proofs.ReadingTexts.{register-alike, slip-alike}
use lib.Seq.{take-append_seam}
use Rattle.texts.proofs.Firsts.{applies}
use Rattle.texts.proofs.Legal.{register-legal}
use Rattle.texts.proofs.Promises.{empty-text-refused}
use Rattle.replica.specs.declared.record.Shop.{Shop}
use Rattle.replica.specs.declared.record.Replica.{Replica}
use Rattle.replica.specs.Bounds.{list_room}
use Rattle.replica.specs.Record.{no_replica, shop_count, shop_at, sum_to}
use Rattle.replica.specs.State.{lawful}
use Rattle.replica.specs.Settle.{ready, apply, Settles, stop, step, settled, applying}
use Rattle.replica.specs.Open.{fresh, opened}
use Rattle.replica.specs.Take.{slip_from, take_rows, take_answer, entered, taken, taken_list}
use Rattle.replica.specs.Issue.{issue_answer, issued, issued_buffer, issue_rows}
use Rattle.replica.specs.Promises.{SettlesToTheEnd, times, RisesAsListed, CountAtMost, OpensLawful, TakesLawful, IssuesLawful, AsksSame, TakeRefusalKeeps, IssueRefusalKeeps, Alike, OneToSixAlike, SevenAlike, SlipsComeBack, WaitingComesBack, RefusedGivesZeros, ZerosUnlawful, EmptyRegisterRefused, SameRegisterOpensAlike, SameSlipTakenAlike, TakeOrder, IssueOrder, BalanceOrder, TakeCounts}
use Rattle.replica.proofs.Sums.{either, sum_same, sum_more}
use Rattle.replica.specs.Outcome.{did, refused, Outcome}
use Rattle.replica.specs.Balance.{balance_rows, asked}
use Rattle.replica.specs.Calls.{take, issue, balance, call, ZerosRefused}
use Rattle.replica.proofs.Quiet.{apply-count}
use Rattle.replica.proofs.Settling.{settles-so}
use Rattle.replica.proofs.Parts.{parts}
use Rattle.replica.proofs.OneToOne.{one-to-one}
use Rattle.replica.proofs.Back.{waiting-held}
use Rattle.replica.proofs.Applied.{passed-of, payer, same, apply-lawful}
use Rattle.replica.proofs.Opened.{opened-lawful}
use Rattle.replica.proofs.Taken.{entered-lawful, taken-settled, taken-lawful, entered-alone}
use Rattle.replica.proofs.Going.{waits-most}
use Rattle.replica.proofs.Issued.{issued-lawful, asked-same}
use Rattle.replica.proofs.Answered.{outcome_if, bytes_if, answer-if, kept_if}
use Rattle.replica.proofs.Refusals.{answers-to-six, answer-seven}

-- ---- the orders of the refusals

pub take-order : TakeOrder
unfolding take_rows
take-order self text list = refl

pub issue-order : IssueOrder
unfolding issue_rows
issue-order self payee amount buffer = refl

pub balance-order : BalanceOrder
unfolding balance_rows
balance-order self code = refl

-- ---- settling

-- settling keeps the number of shops, and ends where none is ready
ends : {self end : Replica} {list : List ℕ} → Settles self list end → (shop_count end ≡ shop_count self) × ((p : ℕ) → p < shop_count end → ready end p ≡ false)
ends (stop N) = (refl, N)
ends (step {self} {end} {p} l N r t) = let k = ends t in (k.0 ∙ apply-count self p, k.1)

pub settles-to-the-end : SettlesToTheEnd
settles-to-the-end self p h = let k = ends (settles-so self) in k.1 p (omega (arith, k.0))

-- the position itself, and another one
times-here : (q : ℕ) (list : List ℕ) → times q (q ∷ list) ≡ suc (times q list)
unfolding times
times-here q list = rw (eq-eqb q q refl, times)

times-there : (p q : ℕ) (list : List ℕ) → (p ≡ q → ⊥) → times q (p ∷ list) ≡ times q list
unfolding times
times-there p q list h = rw (ne_eqb p q h, times)

no-times : (q : ℕ) → times q [] ≡ 0
unfolding times
no-times q = refl

pub rises : {self end : Replica} {list : List ℕ} → Settles self list end → lawful self ≡ true → (q : ℕ) → (shop_at end q).applied ≡ (shop_at self q).applied + times q list
rises (stop N) l q = omega (arith, no-times q)
rises (step {self} {end} {p} {list} h N r t) l q =
    let P = parts self l in
    let ih = rises t (apply-lawful self p l h r) q in
    either q p
    (λ j.
    let a : (shop_at (apply self p) q).applied ≡ (shop_at self q).applied + 1 =
    subst (λ (i : ℕ). (shop_at (apply self p) i).applied ≡ (shop_at self i).applied + 1) (sym j) (ap (λ (s : Shop). s.applied) (payer self p P h r)) in
    let b : times q (p ∷ list) ≡ suc (times q list) = ap (λ i. times q (i ∷ list)) (sym j) ∙ times-here q list in
    omega arith)
    (λ j.
    let a = (same self p P h r q j).1 in
    let b = times-there p q list (λ i. j (sym i)) in
    omega arith)

pub rises-as-listed : RisesAsListed
rises-as-listed self l q h = rises (settles-so self) l q

-- as many slips are applied as then wait no more
pub count-at-most : CountAtMost
unfolding taken
count-at-most self text list =
    go (take_answer self text list) (λ e. omega (arith, (taken-settled self text list e).fewer, waits-most next (entered-lawful self text list e)))
  where
    next : Replica
    next = entered self (slip_from text)

    go : (n : ℕ) → (n ≡ 0 → length (applying next) ≤ list_room) → (outcome_if (did (length (applying next)) (settled next)) self n).count ≤ list_room
    go zero h = h refl
    go (suc n) h = omega arith

-- the applied numbers of n shops, added up, rise by as many as are listed
abbrev applied_over : ℕ → Replica → ℕ
applied_over n self = sum_to n (λ q. (shop_at self q).applied)

rises-in-all : {self end : Replica} {list : List ℕ} → Settles self list end → lawful self ≡ true
    → (n : ℕ) → shop_count self ≡ n → applied_over n end ≡ applied_over n self + length list
rises-in-all (stop N) l n c = omega arith
rises-in-all (step {self} {end} {p} {list} h N r t) l n c =
    let P = parts self l in
    let ih = rises-in-all t (apply-lawful self p l h r) n (apply-count self p ∙ c) in
    let one : applied_over n (apply self p) ≡ applied_over n self + 1 =
    sum_more n _ _ p 1 (omega arith) (ap (λ (s : Shop). s.applied) (payer self p P h r)) (λ q d. (same self p P h r q d).1) in
    omega arith

-- ---- what a take applied

pub take-answered : (self : Replica) (text list : List ℕ) → (taken self text list).answer ≡ take_answer self text list
unfolding taken
take-answered self text list = answer-if _ self refl (take_answer self text list)

pub take-counts : TakeCounts
unfolding taken taken_list
take-counts self text list e =
    let z : take_answer self text list ≡ 0 = sym (take-answered self text list) ∙ e in
    let x = entered self (slip_from text) in
    let n = shop_count self in
    let l = entered-lawful self text list z in
    let alone = entered-alone self text list z (λ s. s.applied) (λ _. refl) in
    let front = take-append_seam (applying x) (drop (length (applying x)) list) in
    let before : applied_over n x ≡ applied_over n self = sum_same n _ _ (λ q _. alone q) in
    rw (z, taken, taken_list) record {
      each = λ q h. rises (settles-so x) l q ∙ ap₂ (λ (k : ℕ) (f : List ℕ). k + times q f) (alone q) (sym front);
      all = rises-in-all (settles-so x) l n (unfold entered in refl) ∙ ap (λ (k : ℕ). k + length (applying x)) before;
    }

-- ---- the state rule is kept

pub opens-lawful : OpensLawful
opens-lawful = opened-lawful

pub takes-lawful : TakesLawful
takes-lawful = taken-lawful

pub issues-lawful : IssuesLawful
issues-lawful = issued-lawful

pub asks-same : AsksSame
asks-same = asked-same

-- ---- a refused register

pub open-answered : (text : List ℕ) → (opened text).answer ≡ (register_read text).answer
unfolding opened
open-answered text = answer-if _ no_replica refl (register_read text).answer

pub refused-gives-zeros : RefusedGivesZeros
unfolding opened
refused-gives-zeros text h = (kept_if _ no_replica [] [] (register_read text).answer (λ e. h (open-answered text ∙ e))).state

pub zeros-unlawful : ZerosUnlawful
zeros-unlawful = sym (fails (lawful no_replica) (λ e. omega (arith, (register-legal no_replica.register (parts no_replica e).register).fits.some)))

pub empty-register-refused : EmptyRegisterRefused
empty-register-refused = open-answered [] ∙ empty-text-refused.0

-- ---- what a text carries

pub same-register-opens-alike : SameRegisterOpensAlike
unfolding opened
same-register-opens-alike s t e = ap (λ (x : RegisterRead). outcome_if (did 0 (fresh x.register)) no_replica x.answer) (register-alike s t e)

pub same-slip-taken-alike : SameSlipTakenAlike
unfolding taken taken_list take_rows
same-slip-taken-alike self s t list e =
    let read : slip_from s ≡ slip_from t = ap (λ (x : SlipRead). x.slip) (slip-alike s t e) in
    let rows : take_rows self s list ≡ take_rows self t list = rw (e, read) in (
      ap₂ (λ (x : Slip) rows. outcome_if (did (length (applying (entered self x))) (settled (entered self x))) self (answer_of rows)) read rows,
      ap₂ (λ (x : Slip) rows. bytes_if (over (applying (entered self x)) list) list (answer_of rows)) read rows,
    )

-- ---- refusals

pub take-refusal-keeps : TakeRefusalKeeps
unfolding taken taken_list
take-refusal-keeps self text list h = kept_if _ self _ list (take_answer self text list) (λ e. h (take-answered self text list ∙ e))

pub issue-answered : (self : Replica) (payee : List ℕ) (amount : ℕ) (buffer : List ℕ) → (issued self payee amount buffer).answer ≡ issue_answer self payee amount buffer
unfolding issued
issue-answered self payee amount buffer = answer-if _ self refl (issue_answer self payee amount buffer)

pub issue-refusal-keeps : IssueRefusalKeeps
unfolding issued issued_buffer
issue-refusal-keeps self payee amount buffer h = kept_if _ self _ buffer (issue_answer self payee amount buffer) (λ e. h (issue-answered self payee amount buffer ∙ e))

-- the record of zeros breaks the state rule: no shop is in its register
with-13 : (o : Outcome) (rows : List Row) → outcome_if o no_replica (answer_of ((state, not (lawful no_replica)) ∷ rows)) ≡ refused 13 no_replica
with-13 o rows = ap (outcome_if o no_replica) (applies state (not (lawful no_replica)) rows (ap not zeros-unlawful))

pub zeros-refused : ZerosRefused
unfolding call taken take_rows issued issue_rows asked balance_rows
zeros-refused (take text list) = with-13 _ _
zeros-refused (issue payee amount buffer) = with-13 _ _
zeros-refused (balance code) = with-13 _ _

-- ---- who can refuse whom

alike-back : {a b : Replica} {text xs ys : List ℕ} → Alike a b text xs ys → Alike b a text ys xs
alike-back A = record { lawful_a = A.lawful_b; lawful_b = A.lawful_a; room_a = A.room_b; room_b = A.room_a; register = sym A.register; taken = sym A.taken }

one_way : (a b : Replica) (text xs ys : List ℕ) → Alike a b text xs ys → (k : ℕ) → 1 ≤ k → k ≤ 6 → (taken a text xs).answer ≡ k → (taken b text ys).answer ≡ k
one_way a b text xs ys A k l h e =
    take-answered b text ys
    ∙ answers-to-six a b text xs ys A.lawful_a A.lawful_b A.room_a A.room_b A.register A.taken k (λ z. omega arith) h (sym (take-answered a text xs) ∙ e)

pub one-to-six-alike : OneToSixAlike
one-to-six-alike a b text xs ys A k l h = (one_way a b text xs ys A k l h, one_way b a text ys xs (alike-back A) k l h)

pub seven-alike : SevenAlike
seven-alike a b text xs ys A w =
    take-answered a text xs
    ∙ answer-seven a b text xs ys A.lawful_a A.lawful_b A.room_a A.room_b A.register A.taken w
    ∙ sym (take-answered b text ys)

-- ---- one for one

pub slips-come-back : SlipsComeBack
slips-come-back self s l e = one-to-one self.register s (register-legal self.register (parts self l).register) (passed-of self.register s e)

pub waiting-comes-back : WaitingComesBack
waiting-comes-back = waiting-held
