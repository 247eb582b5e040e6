-- Taking in a slip: what each refusal and the acceptance come to, in the order of the table.
use mathlib.Core.Path.{◌≡◌, refl, sym, ap, ap₂, ◌∙◌, subst}
use mathlib.Core.Bool.{Bool, true, false, not}
use mathlib.Core.List.{List, [], ◌∷◌}
use Prim.Native.Nat.{ℕ, ◌+◌, ◌^◌, ◌≤◌, ◌<◌}
use native.Mathlib.Omega.{arith}
use lib.Dec.{leb}
use lib.ListN.{length, set}
use borrow.Author.Tests.{lt-ltb, le-ltb, le-leb, lt-leb, eq-eqb, ne_eqb, not-false}
use Rattle.std.proofs.Common.{Ok, Err}
use Rattle.texts.specs.Bytes.{found}
use Rattle.texts.specs.Answers.{form, range, shop, oneself, deps, number, full, room, state, answer_of, refusal_number}
use Rattle.texts.specs.Register.{register_answer, position}
use Rattle.texts.specs.Slip.{SlipRead, slip_layout, slip_in, slip_said, slip_read}
use Rattle.texts.specs.Written.{over}
use Rattle.texts.specs.declared.answers.Refusal.{Refusal}
use Rattle.texts.specs.declared.answers.Refusal.TheVariants.{Number, Full, Room, State}
use Rattle.texts.specs.declared.register.Register.{Register}
use Rattle.texts.specs.declared.slip.Slip.{Slip}
use Rattle.texts.proofs.Refusals.{not-done}
use Rattle.texts.proofs.Steps.{both}
use Rattle.texts.proofs.Firsts.{first-zero, zero-first, no_rows, applies, passes-by, given-before}
use Rattle.texts.proofs.LawsTexts.{slip-only}
use Rattle.texts.proofs.Legal.{register-legal}
use Rattle.texts.proofs.Payees.{slip-carried, slip-form, slip-missing}
use Rattle.replica.specs.declared.checks.PlacedSlip.{PlacedSlip}
use Rattle.replica.specs.declared.record.Shop.{Shop}
use Rattle.replica.specs.declared.record.Waiting.{Waiting}
use Rattle.replica.specs.declared.record.Line.{Line}
use Rattle.replica.specs.declared.record.Replica.{Replica}
use Rattle.replica.specs.declared.reply.Reply.{Reply}
use Rattle.replica.specs.Record.{shop_count, shop_at, line_at}
use Rattle.replica.specs.Slips.{waiting_of}
use Rattle.replica.specs.Checks.{range?, shop?, self?, deps?, check_rows, passes}
use Rattle.replica.specs.State.{lawful}
use Rattle.replica.specs.Settle.{settled, applying}
use Rattle.replica.specs.Outcome.{Outcome, refused, did, count_said, turned_away}
use Rattle.replica.specs.Take.{slip_from, payer_of, number?, full?, take_rows, take_answer, with_last, took_one, entered, taken, taken_list}
use Rattle.replica.specs.Inside.{late_rows, took_slip, took_list}
use Rattle.replica.proofs.Parts.{parts, whole}
use Rattle.replica.proofs.OneToOne.{below}
use Rattle.replica.proofs.Applied.{passed-of}
use Rattle.replica.proofs.Taken.{entered-parts}
use Rattle.replica.proofs.Answered.{Gives, outcome_if, bytes_if, refused-if, bytes-if}

-- a lawful state's register is legal
pub register_of : (self : Replica) → lawful self ≡ true → register_answer self.register ≡ 0
register_of self law = (parts self law).register

-- a slip that was placed in the replica's register: its checks and what it becomes
module _ (self : Replica) (s : Slip) (p : PlacedSlip) (at : p.register.now ≡ self.register) (is : p.slip.now ≡ s) where
  pub payer-place : p.payer ≡ payer_of self s
  payer-place = p.payer_place ∙ ap₂ (λ (r : Register) (x : Slip). position r x.payer) at is

  pub placed-answer : {n : ℕ} → n ≡ answer_of (check_rows p.register.now p.slip.now) → n ≡ answer_of (check_rows self.register s)
  placed-answer e = e ∙ ap₂ (λ (r : Register) (x : Slip). answer_of (check_rows r x)) at is

  pub placed-waiting : {w : Waiting} → w ≡ waiting_of p.register.now p.slip.now → w ≡ waiting_of self.register s
  placed-waiting e = e ∙ ap₂ waiting_of at is

-- the checks 4, 2, 3 and 5 let the slip pass
record Clear (r : Register) (s : Slip) : Type 0 where
  four : range? s ≡ false
  two : shop? r s ≡ false
  three : self? s ≡ false
  five : deps? r s ≡ false

clear : (r : Register) (s : Slip) → answer_of (check_rows r s) ≡ 0 → Clear r s
clear r s e =
    let c4 = first-zero range (range? s) _ (omega arith) e in
    let c2 = first-zero shop (shop? r s) _ (omega arith) c4.1 in
    let c3 = first-zero oneself (self? s) _ (omega arith) c2.1 in
    let c5 = first-zero deps (deps? r s) _ (omega arith) c3.1 in
    record { four = c4.0; two = c2.0; three = c3.0; five = c5.0 }

pub shop-clear : (r : Register) (s : Slip) → 0 ≡ answer_of (check_rows r s) → shop? r s ≡ false
shop-clear r s e = (clear r s (sym e)).two

-- a slip that passes all: the checks by value
passes-all : (r : Register) (s : Slip) → slip_layout.legal s ≡ true → Clear r s → passes r s ≡ true
unfolding passes
passes-all r s l C =
    eq-eqb _ 0
    (zero-first form _ _ (ap not l)
    (zero-first range _ _ C.four (zero-first shop _ _ C.two (zero-first oneself _ _ C.three (zero-first deps _ _ C.five no_rows)))))

-- ---- what is left to ask once the slip was read

abbrev outcome_at : Replica → Slip → ℕ → Outcome
outcome_at self s = outcome_if (did (length (applying (entered self s))) (settled (entered self s))) self

abbrev list_at : Replica → Slip → List ℕ → ℕ → List ℕ
list_at self s list = bytes_if (over (applying (entered self s)) list) list

module _ (self : Replica) (s : Slip) (list : List ℕ) where
  late-refused : (n : ℕ) (o : Outcome) → answer_of (late_rows self s) ≡ n → (n ≡ 0 → ⊥) → o ≡ refused n self → Gives o (took_slip self s) list (took_list self s list)
  unfolding took_slip took_list
  late-refused n o e h r = record { outcome = r ∙ refused-if _ self n h ∙ ap (outcome_at self s) (sym e); bytes = bytes-if _ list n h ∙ ap (list_at self s list) (sym e) }

  -- the checks of the slip refuse it
  pub check-refused : (refusal : Refusal) (o : Reply ℕ) → refusal_number refusal ≡ answer_of (check_rows self.register s) → o ≡ turned_away refusal self → Gives (count_said o) (took_slip self s) list (took_list self s list)
  check-refused refusal o e r = let h = not-done refusal in late-refused _ _ (given-before (check_rows self.register s) _ _ (sym e) h) h (ap count_said r)

  module _ (e : 0 ≡ answer_of (check_rows self.register s)) where
    late : answer_of (late_rows self s) ≡ answer_of ((number, number? self s) ∷ (full, full? self s) ∷ [])
    late =
        let C = clear self.register s (sym e) in
        passes-by range _ _ C.four ∙ passes-by shop _ _ C.two ∙ passes-by oneself _ _ C.three ∙ passes-by deps _ _ C.five

    -- its number is not the next
    pub number-refused : (p : ℕ) (o : Reply ℕ) → p ≡ payer_of self s → (s.number ≡ (shop_at self p).taken + 1 → ⊥) → o ≡ turned_away Number self → Gives (count_said o) (took_slip self s) list (took_list self s list)
    number-refused p o at h r =
        late-refused 6 (count_said o) (late ∙ applies number _ _ (ap not (ne_eqb s.number ((shop_at self (payer_of self s)).taken + 1) (λ i. h (i ∙ ap (λ q. (shop_at self q).taken + 1) (sym at)))))) (λ i. omega arith) (ap count_said r)

    module _ (p : ℕ) (at : p ≡ payer_of self s) (next : s.number ≡ (shop_at self p).taken + 1) where
      not-six : number? self s ≡ false
      not-six = ap not (eq-eqb s.number ((shop_at self (payer_of self s)).taken + 1) (next ∙ ap (λ q. (shop_at self q).taken + 1) at))

      -- eight wait
      pub full-refused : (o : Reply ℕ) → 8 ≤ (line_at self p).count → o ≡ turned_away Full self → Gives (count_said o) (took_slip self s) list (took_list self s list)
      full-refused o h r =
          late-refused 7 (count_said o) (late ∙ passes-by number _ _ not-six ∙ applies full _ _ (ap (λ q. leb 8 (line_at self q).count) (sym at) ∙ le-leb 8 (line_at self p).count h)) (λ i. omega arith) (ap count_said r)

      -- accepted
      pub late-done : (next : Replica) (o : Reply ℕ) (after : List ℕ) → (line_at self p).count < 8 → next ≡ entered self s
          → count_said o ≡ did (length (applying next)) (settled next) → after ≡ over (applying next) list → Gives (count_said o) (took_slip self s) after (took_list self s list)
      unfolding took_slip took_list
      late-done next o after h i r b =
          let a : answer_of (late_rows self s) ≡ 0 = late ∙ passes-by number _ _ not-six ∙ passes-by full _ _ (ap (λ q. leb 8 (line_at self q).count) (sym at) ∙ lt-leb 8 (line_at self p).count h) ∙ no_rows in
          record {
            outcome = r ∙ ap (λ (x : Replica). did (length (applying x)) (settled x)) i ∙ ap (outcome_at self s) (sym a);
            bytes = b ∙ ap (λ (x : Replica). over (applying x) list) i ∙ ap (list_at self s list) (sym a);
          }

-- ---- the slip in its payer's line

module _ (self : Replica) (s : Slip) (law : lawful self ≡ true) (legal : slip_layout.legal s ≡ true) (e : 0 ≡ answer_of (check_rows self.register s)) where
  pub payer-below : payer_of self s < shop_count self
  unfolding shop?
  payer-below =
      let R = register-legal self.register (parts self law).register in
      below self.register s.payer R (both _ _ (not-false _ (shop-clear self.register s e))).0

  module _ (p : ℕ) (at : p ≡ payer_of self s) where
    pub payer-sixteen : p < 16
    payer-sixteen = omega (arith, payer-below, (register-legal self.register (parts self law).register).fits.most)

    pub taken-fits : (shop_at self p).taken + 1 < 2 ^ 32
    taken-fits = subst (λ (q : ℕ). (shop_at self q).taken + 1 < 2 ^ 32) (sym at) (omega (arith, ((parts self law).lined (payer_of self s) payer-below).most))

    pub entered-lawful-so : (next : Replica) → next ≡ entered self s → s.number ≡ (shop_at self p).taken + 1 → (line_at self p).count < 8 → lawful next ≡ true
    entered-lawful-so next i m h =
        let C = clear self.register s (sym e) in
        let ok = passes-all self.register s legal C in
        ap lawful i
        ∙ whole (entered self s)
        (entered-parts self s (parts self law) (passed-of self.register s ok) ok (m ∙ ap (λ q. (shop_at self q).taken + 1) at) (subst (λ (q : ℕ). (line_at self q).count < 8) at h))

-- entering, as the code does it
pub entered-is : (self : Replica) (s : Slip) (p : ℕ) (w : Waiting) (line : Line) → p ≡ payer_of self s → s.number ≡ (shop_at self p).taken + 1 → w ≡ waiting_of self.register s
    → line ≡ with_last (line_at self p) w
    → ◌≡◌ {A = Replica} (record {
      register = self.register;
      issued = self.issued;
      shops = set self.shops p (record { balance = (shop_at self p).balance; taken = s.number; applied = (shop_at self p).applied; mark = (shop_at self p).mark });
      lines = set self.lines p line;
    }) (entered self s)
unfolding entered
entered-is self s p w line i m a b =
    ap₂ (λ (shops : List Shop) (lines : List Line). record { register = self.register; issued = self.issued; shops = shops; lines = lines })
    (ap (λ k. set self.shops p (record { balance = (shop_at self p).balance; taken = k; applied = (shop_at self p).applied; mark = (shop_at self p).mark })) m
    ∙ ap (λ q. set self.shops q (took_one (shop_at self q))) i)
    (ap (set self.lines p) (b ∙ ap (with_last (line_at self p)) a) ∙ ap (λ q. set self.lines q (with_last (line_at self q) (waiting_of self.register s))) i)

-- ---- take: 13, 11 and 1 first

-- a slip that was read fits its layout
pub slip-is-legal : (text : List ℕ) (s : Slip) → slip_said (Ok s) ≡ slip_read text → slip_layout.legal s ≡ true
slip-is-legal text s read = (slip-only text s (slip-carried text _ read refl)).0

module _ (self : Replica) (text list : List ℕ) where
  take-refused : (n : ℕ) (o : Outcome) → take_answer self text list ≡ n → (n ≡ 0 → ⊥) → o ≡ refused n self → Gives o (taken self text list) list (taken_list self text list)
  unfolding taken taken_list
  take-refused n o e h r =
      let s = slip_from text in
      record { outcome = r ∙ refused-if _ self n h ∙ ap (outcome_at self s) (sym e); bytes = bytes-if _ list n h ∙ ap (list_at self s list) (sym e) }

  pub state-refused : (t : Bool) (o : Reply ℕ) → t ≡ lawful self → not t ≡ true → o ≡ turned_away State self → Gives (count_said o) (taken self text list) list (taken_list self text list)
  unfolding take_rows
  state-refused t o e h r = take-refused 13 _ (applies state _ _ (ap not (sym e) ∙ h)) (λ i. omega arith) (ap count_said r)

  module _ (t : Bool) (e : t ≡ lawful self) (y : not t ≡ false) where
    pub room-refused : (o : Reply ℕ) → length list < 128 → o ≡ turned_away Room self → Gives (count_said o) (taken self text list) list (taken_list self text list)
    unfolding take_rows
    room-refused o h r = take-refused 11 _ (passes-by state _ _ (ap not (sym e) ∙ y) ∙ applies room _ _ (lt-ltb (length list) 128 h)) (λ i. omega arith) (ap count_said r)

    module _ (h : 128 ≤ length list) where
      opened_up : take_answer self text list ≡ answer_of ((form, not (found (slip_in text))) ∷ late_rows self (slip_from text))
      unfolding take_rows
      opened_up = passes-by state _ _ (ap not (sym e) ∙ y) ∙ passes-by room _ _ (le-ltb (length list) 128 h)

      -- the text carries no slip, which has the number 1
      pub form-refused : (refusal : Refusal) (o : Reply ℕ) → slip_said (Err refusal) ≡ slip_read text → o ≡ turned_away refusal self → Gives (count_said o) (taken self text list) list (taken_list self text list)
      form-refused refusal o read r =
          let i = slip-missing text _ read (not-done refusal) in
          let one : refusal_number refusal ≡ 1 = ap (λ (q : SlipRead). q.answer) read ∙ slip-form text i in
          take-refused 1 _ (opened_up ∙ applies form _ _ (ap (λ q. not (found q)) i)) (λ j. omega arith) (ap count_said r ∙ ap (λ k. refused k self) one)

      -- the slip was read: what is left decides
      pub take-late : (s : Slip) → slip_said (Ok s) ≡ slip_read text → (o : Reply ℕ) (after : List ℕ) → count_said o ≡ took_slip self s → after ≡ took_list self s list
          → Gives (count_said o) (taken self text list) after (taken_list self text list)
      unfolding taken taken_list took_slip took_list
      take-late s read o after r b =
          let i = slip-carried text _ read refl in
          let same : slip_from text ≡ s = ap (λ (q : SlipRead). q.slip) (sym read) in
          let a : take_answer self text list ≡ answer_of (late_rows self s) = opened_up ∙ passes-by form _ _ (ap (λ q. not (found q)) i) ∙ ap (λ q. answer_of (late_rows self q)) same in
          record { outcome = r ∙ ap₂ (λ (q : Slip) (k : ℕ). outcome_at self q k) (sym same) (sym a); bytes = b ∙ ap₂ (λ (q : Slip) (k : ℕ). list_at self q list k) (sym same) (sym a) }
