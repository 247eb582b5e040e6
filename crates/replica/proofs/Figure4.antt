-- A terminal is a process of figure 4: each statement of specs/Algorithm.
use mathlib.Core.Path.{◌≡◌, refl, sym, ap, ◌∙◌, subst}
use mathlib.Core.Logic.{◌⊎◌, inl, inr}
use mathlib.Core.Bool.{Bool, true, false, not, ◌||◌}
use mathlib.Core.List.{List, [], ◌∷◌, map}
use Prim.Native.Nat.{ℕ, ◌+◌, ◌≤◌, ◌<◌}
use native.Mathlib.Omega.{arith}
use lib.ListN.{length, drop, get_or, replicate, length-map, get_or-map}
use lib.Dec.{leb, ltb, eqb}
use borrow.Author.Tests.{ltb-true, eq-eqb, le-leb, lt-ltb}
use Rattle.texts.specs.Answers.{Meaning, number_of, Row, answer_of}
use Rattle.texts.specs.Bytes.{all_of}
use Rattle.texts.specs.Code.{same_code, code_of}
use Rattle.texts.specs.Register.{position, listed}
use Rattle.texts.proofs.Steps.{and, all-zeros, zeros-all}
use Rattle.texts.proofs.Firsts.{applies as gives, passes-by, no_rows}
use Rattle.texts.proofs.Legal.{register-legal}
use Rattle.replica.specs.declared.record.Shop.{Shop}
use Rattle.replica.specs.declared.record.Waiting.{Waiting}
use Rattle.replica.specs.declared.record.Replica.{Replica}
use Rattle.replica.specs.Record.{no_shop, shop_count, own, shop_at, line_at}
use Rattle.replica.specs.Slips.{waiting_of, slip_of}
use Rattle.replica.specs.Checks.{passes}
use Rattle.replica.specs.State.{zero_shop, lawful}
use Rattle.replica.specs.Settle.{first_waiting, ready}
use Rattle.replica.specs.Take.{payer_of}
use Rattle.replica.specs.Issue.{own_shop, busy?, issue_rows, issued_slip}
use Rattle.replica.specs.Demand.{start}
use Rattle.replica.specs.Lasting.{StepsKeep}
use Rattle.replica.specs.Algorithm.{Transfer, OneOf, Has, Named, Stands, Locals, initially, Valid, InHistoryOf, InSomeHistory, last_of, message_of, first_of}
use Rattle.replica.specs.Algorithm.{Moment, opens, takes, applies, issues, openings}
use Rattle.replica.specs.Algorithm.{RunsAsFigure4, RecordFollows, TakingDelivers, ReadyIsValid, OnlyFirstIsValid, ReadyIsValidAsPrinted, IssueIsTransfer, ShortIsFalse, BalanceIsRead, FirstSlipsStand}
use Rattle.replica.proofs.Sums.{either, at_every}
use Rattle.replica.proofs.Parts.{Parts, parts}
use Rattle.replica.proofs.Opened.{map-drop, map-replicate}
use Rattle.replica.proofs.Back.{waiting-back}
use Rattle.replica.proofs.Applied.{passed-of, ready-funds}
use Rattle.replica.proofs.Taken as took
use Rattle.replica.proofs.Taken.{accepted}
use Rattle.replica.proofs.Issued.{free, asked-told}
use Rattle.replica.proofs.IssuedSlip.{zero-shop}
use Rattle.replica.proofs.Keeping.{calls-keep}
use Rattle.replica.proofs.Fronts.{ready-number, ready-needs}
use Rattle.replica.proofs.Transfers.{Known, last_has}
use Rattle.replica.proofs.Moments.{own_below_lem, needs-at, first_transfer, first-transfer, first-needs, kept}

-- ---- every call keeps to it

abbrev At : Replica → Type 0
At self = (l : Locals) × Moment self l

steps-at : StepsKeep At
steps-at = record {
  entering = λ self text list e (l, M). (_, takes M text list e);
  applying = λ self p h r (l, M). (_, applies M p h r);
  writing = λ self payee amount buffer e (l, M). (_, issues M payee amount buffer e);
}

pub runs-as-figure4 : RunsAsFigure4
runs-as-figure4 t = calls-keep At steps-at (start t) (initially, opens t.text t.opens) t.calls

pub record-follows : RecordFollows
record-follows self l M = (kept M).follows

pub taking-delivers : TakingDelivers
taking-delivers self l M text list e =
    let A = accepted self text list e in
    let x = A.slip in
    let ok : passes self.register x ≡ true = A.passes in
    let inside = took.h self x (parts self A.lawful) (passed-of self.register x ok) ok A.number A.room in
    rw A.given (A.number ∙ ap (λ (n : ℕ). n + 1) ((kept M).follows.rec (payer_of self x) inside))

-- ---- ready is Valid

module _ (self : Replica) (l : Locals) (M : Moment self l) (q : ℕ) (h : q < shop_count self) (one : 0 < (line_at self q).count)
    (H : Named) (S : Stands (shop_count self) (first_of self q).needs H) where
  abbrev n : ℕ
  n = shop_count self

  abbrev ValidOf : Transfer → Type 0
  ValidOf t = Valid (openings self) l (InSomeHistory n l) q t H

  abbrev same-transfer : (first_of self q).t ≡ first_transfer self q
  same-transfer = first-transfer self (kept M).lawful q h one

  abbrev needs : (r : ℕ) → r < n → (first_of self q).needs r ≡ get_or (first_waiting self q).needs r 0
  needs = first-needs self (kept M).lawful q h one

  ready-valid : ready self q ≡ true → ValidOf (first_of self q).t
  ready-valid e =
      let F = (kept M).follows in
      subst ValidOf (sym same-transfer) record {
        line32 = refl;
        line33 = ready-number self q e ∙ ap (λ (k : ℕ). k + 1) (F.seq q h);
        line34 = omega (arith, ready-funds self q e, F.balance q h);
        line35 = λ r k i.
            let inside = S.inside r k i in
            let upto = S.upto r k i in
            (r, inside, (kept M).recorded.has r k inside upto.0 (omega (arith, needs r inside, ready-needs self q e r inside, F.seq r inside)));
      }

  valid-ready : ValidOf (first_of self q).t → ready self q ≡ true
  unfolding ready
  valid-ready given =
      let F = (kept M).follows in
      let w = first_waiting self q in
      let v = subst ValidOf same-transfer given in
      and _ _ (lt-ltb 0 _ one)
      (and _ _ (eq-eqb _ _ (v.line33 ∙ ap (λ (k : ℕ). k + 1) (sym (F.seq q h))))
      (and _ _ (le-leb w.amount (shop_at self q).balance (omega (arith, v.line34, F.balance q h)))
      (at_every n (λ r. leb (get_or w.needs r 0) (shop_at self r).applied) (λ r k. le-leb (get_or w.needs r 0) (shop_at self r).applied (met v r k)))))
    where
      met : ValidOf (first_transfer self q) → (r : ℕ) → r < n → get_or (first_waiting self q).needs r 0 ≤ (shop_at self r).applied
      met v r k = either ((first_of self q).needs r) 0
          (λ z. omega (arith, needs r k))
          (λ d.
          let some : 1 ≤ (first_of self q).needs r = omega arith in
          let (a, inside, (t, o, c, s)) = v.line35 r ((first_of self q).needs r) (S.last r k some) in
          omega (arith, needs r k, ((kept M).recorded.known a inside t o).upto, ap l.seq c, (kept M).follows.seq r k))

pub ready-is-valid : ReadyIsValid
ready-is-valid self l M q h one H S = (ready-valid self l M q h one H S, valid-ready self l M q h one H S)

-- a slip behind the first has a later number than applied + 1
pub only-first-is-valid : OnlyFirstIsValid
unfolding slip_of
only-first-is-valid self l M q k h behind inside known H v =
    omega (arith, v.line33, ((parts self (kept M).lawful).lined q h).numbers k inside, (kept M).follows.seq q h)

-- where all that h names pays q, it is in the history of q if it is in any
pub ready-is-valid-as-printed : ReadyIsValidAsPrinted
ready-is-valid-as-printed self l M q h one H S pays =
    let (to, from) = ready-is-valid self l M q h one H S in (
      λ e. let v = to e in record { line32 = v.line32; line33 = v.line33; line34 = v.line34; line35 = λ r k i. own-history r k i (v.line35 r k i) },
      λ v. from record { line32 = v.line32; line33 = v.line33; line34 = v.line34; line35 = λ r k i. (q, h, v.line35 r k i) },
    )
  where
    own-history : (r k : ℕ) → H r k → InSomeHistory (shop_count self) l r k → InHistoryOf l q r k
    own-history r k i (a, inside, (t, o, c, s)) =
        let K = (kept M).recorded.known a inside t o in
        let to_q : t.d ≡ q = pays r k i t (subst (λ (x : ℕ). OneOf t (l.hist x)) c K.in_payer) c s in
        (t, subst (λ (x : ℕ). OneOf t (l.hist x)) to_q K.in_payee, c, s)

-- ---- issue is transfer

-- the marks are one number per shop
marks-back : (self : Replica) (P : Parts self) (payee : List ℕ) (amount r : ℕ) → get_or (waiting_of self.register (issued_slip self payee amount)).needs r 0 ≡ (shop_at self r).mark
unfolding waiting_of slip_of issued_slip
marks-back self P payee amount r =
    let R = register-legal self.register P.register in
    let inside = own_below_lem self P in
    let n = shop_count self in
    let mark : Shop → ℕ = λ s. s.mark in
    let marks = map mark self.shops in
    let w : Waiting = record { payer = own self; number = 0; payee = own self; amount = 0; needs = marks } in
    let unused = drop n self.shops in
    let zeros : drop n marks ≡ replicate (length unused) 0 =
    map-drop mark n self.shops ∙ ap (map mark) (all-zeros no_shop zero_shop zero-shop unused P.shop_rest) ∙ map-replicate mark (length unused) no_shop in
    let back = waiting-back self.register R w inside inside (length-map self.shops mark ∙ P.shop_places) (ap (all_of (eqb 0)) zeros ∙ zeros-all 0 (eqb 0) refl (length unused)) in
    ap (λ (x : Waiting). get_or x.needs r 0) back ∙ get_or-map mark self.shops r no_shop

-- what deps has, both its parties have
in-deps : (self : Replica) (l : Locals) → Moment self l → (t : Transfer) → OneOf t l.deps → Known (shop_count self) l.seq l.hist t
in-deps self l M t o = let K = kept M in K.recorded.known (own self) (own_below_lem self (parts self K.lawful)) t (K.recorded.kept t o).in_own

pub issue-is-transfer : IssueIsTransfer
unfolding issued_slip
issue-is-transfer self l M payee amount buffer e =
    let K = kept M in
    let F = K.follows in
    let P = parts self K.lawful in
    let inside = own_below_lem self P in
    let known = in-deps self l M in
    record {
      line10 = omega (arith, (free self payee amount buffer e).enough, F.balance (own self) inside);
      union = λ t o. (K.recorded.kept t o).in_own;
      sent = ap (λ (k : ℕ). record { c = own self; d = position self.register (code_of payee); y = amount; s = k + 1 }) (F.seq (own self) inside);
      named = named;
      stands = record {
        inside = λ r k (t, o, c, _). omega (arith, (known t o).payer);
        upto = λ r k (t, o, c, j). (omega (arith, (known t o).some), omega (arith, (K.recorded.kept t o).upto, ap (last_of l.deps) c, named r (omega (arith, (known t o).payer))));
        last = λ r h some. subst (Has l.deps r) (sym (named r h)) (last_has l.deps r (omega (arith, named r h)));
      };
      pays_own = λ r k (t, o, c, j) u i cu su.
          let lt : r < shop_count self = omega (arith, (known t o).payer) in
          let same : t ≡ u = K.recorded.single (own self) r inside lt t u (K.recorded.kept t o).in_own i (c ∙ sym cu) (j ∙ sym su) in
          ap (λ (x : Transfer). x.d) (sym same) ∙ (K.recorded.kept t o).to_own;
    }
  where
    named : (r : ℕ) → r < shop_count self → (message_of self.register (issued_slip self payee amount)).needs r ≡ last_of l.deps r
    named r h =
        let P = parts self (kept M).lawful in
        needs-at self P (issued_slip self payee amount) r h ∙ marks-back self P payee amount r ∙ (kept M).follows.marks r h

-- a row with another number did not give the answer
other_row : (m : Meaning) (t : Bool) (rows : List Row) (n : ℕ) → (number_of m ≡ n → ⊥) → answer_of ((m, t) ∷ rows) ≡ n → answer_of rows ≡ n
other_row m true rows n d e = absurd (d (sym (gives m true rows refl) ∙ e))
other_row m false rows n d e = sym (passes-by m false rows refl) ∙ e

last_row : (m : Meaning) (t : Bool) (n : ℕ) → 0 < n → answer_of ((m, t) ∷ []) ≡ n → t ≡ true
last_row m true n h e = refl
last_row m false n h e = absurd (omega (arith, passes-by m false [] refl, no_rows))

pub short-is-false : ShortIsFalse
unfolding issue_rows
short-is-false self l M payee amount buffer e covers =
    let r = self.register in
    let c13 = other_row Meaning.state (not (lawful self)) _ 9 (λ z. omega arith) e in
    let c11 = other_row Meaning.room (ltb (length buffer) 366) _ 9 (λ z. omega arith) c13 in
    let c2 = other_row Meaning.shop (not (listed r (code_of payee))) _ 9 (λ z. omega arith) c11 in
    let c3 = other_row Meaning.oneself (same_code (code_of payee) r.own) _ 9 (λ z. omega arith) c2 in
    let c4 = other_row Meaning.range (eqb amount 0 || ltb 999999 amount) _ 9 (λ z. omega arith) c3 in
    let c8 = other_row Meaning.busy (busy? self) _ 9 (λ z. omega arith) c4 in
    let c10 = other_row Meaning.usedup (eqb (own_shop self).applied 999999) _ 9 (λ z. omega arith) c8 in
    let less = ltb-true (own_shop self).balance amount (last_row Meaning.short _ 9 (omega arith) c10) in
    let K = kept M in
    omega (arith, K.follows.balance (own self) (own_below_lem self (parts self K.lawful)))

-- ---- asking a balance is read

pub balance-is-read : BalanceIsRead
balance-is-read self l M code e =
    let T = asked-told self code e in
    let a = position self.register (code_of code) in
    record { line15 = omega (arith, T.balance, (kept M).follows.balance a T.inside); union = λ t o party. in-history t o a party }
  where
    in-history : (t : Transfer) → OneOf t l.deps → (a : ℕ) → (t.c ≡ a) ⊎ (t.d ≡ a) → OneOf t (l.hist a)
    in-history t o a (inl c) = subst (λ (x : ℕ). OneOf t (l.hist x)) c (in-deps self l M t o).in_payer
    in-history t o a (inr d) = subst (λ (x : ℕ). OneOf t (l.hist x)) d (in-deps self l M t o).in_payee

pub first-slips-stand : FirstSlipsStand
first-slips-stand shops most = record { inside = λ r k h. h.0; upto = λ r k h. (h.1, h.2); last = λ r l m. (l, m, omega arith) }
