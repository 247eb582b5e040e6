-- Taking keeps the state rule.
use mathlib.Core.Path.{◌≡◌, refl, sym, ap, ◌∙◌, subst, subst₂}
use mathlib.Core.Logic.{◌≢◌}
use mathlib.Core.Bool.{Bool, true, false, not, false≢true}
use mathlib.Core.Option.{Option, none, some}
use mathlib.Core.List.{List, [], map}
use Prim.Native.Nat.{ℕ, zero, suc, ◌+◌, ◌-◌, ◌<◌}
use native.Mathlib.Omega.{arith}
use lib.ListN.{length, drop, length-set, length-map}
use lib.Seq.{get_or-set_same, get_or-set_other, drop-set-lt, drop-drop}
use lib.Dec.{ltb, eqb}
use borrow.Author.Tests.{eqb-true, eq-eqb, leb-false, not-false}
use Rattle.texts.specs.Bytes.{all_of, found}
use Rattle.texts.specs.Answers.{Meaning, answer_of}
use Rattle.texts.specs.Entries.{no_entry}
use Rattle.texts.specs.Slip.{slip_layout, slip_in, deps_of}
use Rattle.texts.specs.declared.entry.Entry.{Entry}
use Rattle.texts.specs.declared.register.Register.{Register}
use Rattle.texts.specs.declared.slip.Slip.{Slip}
use Rattle.texts.proofs.Steps.{and, zeros-all, all_set, all_drop}
use Rattle.texts.proofs.Firsts.{first-zero, zero-first, no_rows}
use Rattle.texts.proofs.LawsTexts.{slip-only}
use Rattle.texts.proofs.Payees.{slip-given}
use Rattle.texts.proofs.Legal.{slip-legal, RegisterLegal, register-legal}
use Rattle.replica.specs.declared.record.Shop.{Shop}
use Rattle.replica.specs.declared.record.Waiting.{Waiting}
use Rattle.replica.specs.declared.record.Line.{Line}
use Rattle.replica.specs.declared.record.Replica.{Replica}
use Rattle.replica.specs.Record.{shop_count, own, shop_at, line_at, waiting_at}
use Rattle.replica.specs.Slips.{number_for, waiting_of, slip_of}
use Rattle.replica.specs.Checks.{form?, range?, shop?, self?, deps?, slip_rows, passes}
use Rattle.replica.specs.State.{zero_from, zero_shop, zero_waiting, zero_line, lawful}
use Rattle.replica.specs.Settle.{waits, settled, applying}
use Rattle.replica.specs.Take.{slip_from, payer_of, number?, full?, take_rows, take_answer, with_last, took_one, entered, taken}
use Rattle.replica.proofs.Sums.{either, sum_same}
use Rattle.replica.proofs.Quiet.{Sized, Settled, settle-quiet}
use Rattle.replica.proofs.OneToOne.{Passed, for-zero, below, one-to-one}
use Rattle.replica.proofs.Parts.{Lined, Parts, parts, whole}
use Rattle.replica.proofs.Opened.{map-drop, map-replicate}
use Rattle.replica.proofs.Shops.{adjust-same, adjust-other}
use Rattle.replica.proofs.Applied.{passed-of, at_place, apply-lawful}

-- a waiting record has nothing in the places of shops that there are not
waiting-fits : (r : Register) (s : Slip) → RegisterLegal r → Passed r s → zero_from 16 (eqb 0) r.count (waiting_of r s).needs ≡ true
unfolding waiting_of
waiting-fits r s R P =
    let g : Entry → ℕ = λ l. number_for (deps_of s) l.code in
    let z : g no_entry ≡ 0 = for-zero (deps_of s) (slip-legal s P.legal).used in
    and _ _ (eq-eqb _ 16 (length-map r.shops g ∙ R.fits.places))
    (ap (all_of (eqb 0)) (map-drop g r.count r.shops ∙ ap (map g) R.fits.rest ∙ map-replicate g (16 - r.count) no_entry)
    ∙ zeros-all (g no_entry) (eqb 0) (ap (eqb 0) z) (16 - r.count))

module _ (self : Replica) (s : Slip) (P : Parts self) (Q : Passed self.register s) (ok : passes self.register s ≡ true)
    (number : s.number ≡ (shop_at self (payer_of self s)).taken + 1) (room : (line_at self (payer_of self s)).count < 8) where
  R : RegisterLegal self.register
  R = register-legal self.register P.register

  p : ℕ
  p = payer_of self s

  pub h : payer_of self s < shop_count self
  h = below self.register s.payer R Q.payer

  w : Waiting
  w = waiting_of self.register s

  pub line-payer : line_at (entered self s) (payer_of self s) ≡ with_last (line_at self (payer_of self s)) (waiting_of self.register s)
  unfolding entered
  line-payer = get_or-set_same self.lines (payer_of self s) _ _ (omega (arith, P.line_places, R.fits.most, h))

  pub line_other : (q : ℕ) → q ≢ payer_of self s → line_at (entered self s) q ≡ line_at self q
  unfolding entered
  line_other q d = get_or-set_other self.lines (payer_of self s) q _ _ d

  pub payer : shop_at (entered self s) (payer_of self s) ≡ took_one (shop_at self (payer_of self s))
  unfolding entered
  payer = adjust-same took_one (payer_of self s) self.shops (omega (arith, P.shop_places, R.fits.most, h))

  pub others : (q : ℕ) → q ≢ payer_of self s → shop_at (entered self s) q ≡ shop_at self q
  unfolding entered
  others q d = adjust-other took_one (payer_of self s) q self.shops d

  -- a number that entering leaves alone
  pub alone : (f : Shop → ℕ) → ((x : Shop) → f (took_one x) ≡ f x) → (q : ℕ) → f (shop_at (entered self s) q) ≡ f (shop_at self q)
  alone f k q = either q (payer_of self s)
      (λ j. subst (λ (x : ℕ). f (shop_at (entered self s) x) ≡ f (shop_at self x)) (sym j) (ap f payer ∙ k (shop_at self (payer_of self s))))
      (λ j. ap f (others q j))

  abbrev fits : Waiting → Bool
  fits x = zero_from 16 (eqb 0) (shop_count self) x.needs

  abbrev blank : Waiting
  blank = record { payer = 0; number = 0; payee = 0; amount = 0; needs = [] }

  pub last : (k : ℕ) → k ≡ (line_at self (payer_of self s)).count → waiting_at (entered self s) (payer_of self s) k ≡ waiting_of self.register s
  last k e =
      let L = P.lined (payer_of self s) h in
      let c = (line_at self (payer_of self s)).count in
      ap (waiting_at (entered self s) (payer_of self s)) e
      ∙ ap (λ (x : Line). at_place x c) line-payer
      ∙ get_or-set_same (line_at self (payer_of self s)).slips c (waiting_of self.register s) blank (omega (arith, L.places))

  pub old : (k : ℕ) → k < (line_at self (payer_of self s)).count → waiting_at (entered self s) (payer_of self s) k ≡ waiting_at self (payer_of self s) k
  old k l =
      let c = (line_at self (payer_of self s)).count in
      ap (λ (x : Line). at_place x k) line-payer ∙ get_or-set_other (line_at self (payer_of self s)).slips c k (waiting_of self.register s) blank (λ i. omega arith)

  -- what holds of the slip that entered and of those that waited holds of the line
  each : (T : ℕ → Waiting → Type 0) → T (line_at self (payer_of self s)).count (waiting_of self.register s)
      → ((k : ℕ) → k < (line_at self (payer_of self s)).count → T k (waiting_at self (payer_of self s) k))
      → (k : ℕ) → k < (line_at self (payer_of self s)).count + 1 → T k (waiting_at (entered self s) (payer_of self s) k)
  each T new before k l = either k (line_at self (payer_of self s)).count
      (λ j. subst₂ T (sym j) (sym (last k j)) new)
      (λ j. let u : k < (line_at self (payer_of self s)).count = omega arith in subst (T k) (sym (old k u)) (before k u))

  lined-payer : Lined (entered self s) (payer_of self s)
  unfolding entered
  lined-payer =
      let l = line_at self (payer_of self s) in
      let L = P.lined (payer_of self s) h in
      let c = ap (λ (x : Line). x.count) line-payer in
      let t = ap (λ (x : Shop). x.taken) payer in
      let m = (slip-legal s Q.legal).number in
      record {
        places = ap (λ (x : Line). length x.slips) line-payer ∙ simp length-set L.places;
        rest = ap (λ (x : Line). all_of zero_waiting (drop x.count x.slips)) line-payer
            ∙ ap (all_of zero_waiting) (drop-set-lt (l.count + 1) l.slips l.count (waiting_of self.register s) (omega arith) ∙ sym (drop-drop 1 l.count l.slips))
            ∙ all_drop zero_waiting 1 (drop l.count l.slips) L.rest;
        needs = ap (λ (x : Line). all_of fits x.slips) line-payer
            ∙ all_set fits l.slips l.count (waiting_of self.register s) L.needs (waiting-fits self.register s R Q);
        eight = omega arith;
        taken = t ∙ omega (arith, L.taken, ap (λ (x : Shop). x.applied) payer);
        most = omega arith;
        numbers = λ k q.
            each (λ i x. x.number ≡ (shop_at self (payer_of self s)).applied + 1 + i) new L.numbers k (omega arith)
            ∙ ap (λ (x : Shop). x.applied + 1 + k) (sym payer);
        payers = λ k q. each (λ _ x. x.payer ≡ payer_of self s) paid L.payers k (omega arith);
        pass = λ k q. each (λ _ x. passes self.register (slip_of self.register x) ≡ true) passing L.pass k (omega arith);
        mark = omega (arith, L.mark, ap (λ (x : Shop). x.mark) payer, ap (λ (x : Shop). x.applied) payer);
      }
    where
      new : (waiting_of self.register s).number ≡ (shop_at self (payer_of self s)).applied + 1 + (line_at self (payer_of self s)).count
      new = unfold waiting_of in omega (arith, (P.lined (payer_of self s) h).taken)

      paid : (waiting_of self.register s).payer ≡ payer_of self s
      paid = unfold waiting_of in refl

      passing : passes self.register (slip_of self.register (waiting_of self.register s)) ≡ true
      passing = ap (passes self.register) (one-to-one self.register s R Q) ∙ ok

  lined-other : (q : ℕ) → q < shop_count self → q ≢ payer_of self s → Lined (entered self s) q
  unfolding entered
  lined-other q l d =
      let L = P.lined q l in
      let j = line_other q d in
      let x = others q d in
      let c = ap (λ (x : Line). x.count) j in
      record {
        places = ap (λ (x : Line). length x.slips) j ∙ L.places;
        rest = ap (λ (x : Line). all_of zero_waiting (drop x.count x.slips)) j ∙ L.rest;
        needs = ap (λ (x : Line). all_of fits x.slips) j ∙ L.needs;
        eight = omega (arith, L.eight);
        taken = ap (λ (x : Shop). x.taken) x ∙ omega (arith, L.taken, ap (λ (x : Shop). x.applied) x);
        most = omega (arith, L.most, ap (λ (x : Shop). x.taken) x);
        numbers = λ k i. ap (λ (x : Line). (at_place x k).number) j ∙ L.numbers k (omega arith) ∙ ap (λ (x : Shop). x.applied + 1 + k) (sym x);
        payers = λ k i. ap (λ (x : Line). (at_place x k).payer) j ∙ L.payers k (omega arith);
        pass = λ k i. ap (λ (x : Line). passes self.register (slip_of self.register (at_place x k))) j ∙ L.pass k (omega arith);
        mark = omega (arith, L.mark, ap (λ (x : Shop). x.mark) x, ap (λ (x : Shop). x.applied) x);
      }

  pub entered-parts : Parts (entered self s)
  unfolding entered
  entered-parts =
      record {
        register = P.register;
        shop_places = simp length-set P.shop_places;
        shop_rest = ap (all_of zero_shop) (drop-set-lt (shop_count self) self.shops (payer_of self s) _ h) ∙ P.shop_rest;
        line_places = simp length-set P.line_places;
        line_rest = ap (all_of zero_line) (drop-set-lt (shop_count self) self.lines (payer_of self s) _ h) ∙ P.line_rest;
        sums = sum_same (shop_count self) (λ q. (shop_at (entered self s) q).balance) (λ q. (shop_at self q).balance) (λ q _. alone (λ x. x.balance) (λ _. refl) q) ∙ P.sums;
        lined = λ q l. either q (payer_of self s) (λ j. subst (λ (x : ℕ). Lined (entered self s) x) (sym j) lined-payer) (λ j. lined-other q l j);
        own_mark = alone (λ x. x.mark) (λ _. refl) (own self) ∙ P.own_mark;
        issued = P.issued;
        issued_own = omega (arith, P.issued_own, alone (λ x. x.applied) (λ _. refl) (own self));
      }

-- ---- an answer 0

pub record Accepted (self : Replica) (text list : List ℕ) : Type 0 where
  pub slip : Slip
  pub carried : slip_in text ≡ some slip
  pub given : slip_from text ≡ slip
  pub lawful : lawful self ≡ true
  pub passes : passes self.register slip ≡ true
  pub number : slip.number ≡ (shop_at self (payer_of self slip)).taken + 1
  pub room : (line_at self (payer_of self slip)).count < 8

-- no row of the table applies
record Free (self : Replica) (text list : List ℕ) : Type 0 where
  thirteen : not (lawful self) ≡ false
  one : not (found (slip_in text)) ≡ false
  four : range? (slip_from text) ≡ false
  two : shop? self.register (slip_from text) ≡ false
  three : self? (slip_from text) ≡ false
  five : deps? self.register (slip_from text) ≡ false
  six : number? self (slip_from text) ≡ false
  seven : full? self (slip_from text) ≡ false

free : (self : Replica) (text list : List ℕ) → take_answer self text list ≡ 0 → Free self text list
unfolding take_rows
free self text list e =
    let s = slip_from text in
    let c13 = first-zero Meaning.state (not (lawful self)) _ (omega arith) e in
    let c11 = first-zero Meaning.room (ltb (length list) 128) _ (omega arith) c13.1 in
    let c1 = first-zero Meaning.form (not (found (slip_in text))) _ (omega arith) c11.1 in
    let c4 = first-zero Meaning.range (range? s) _ (omega arith) c1.1 in
    let c2 = first-zero Meaning.shop (shop? self.register s) _ (omega arith) c4.1 in
    let c3 = first-zero Meaning.oneself (self? s) _ (omega arith) c2.1 in
    let c5 = first-zero Meaning.deps (deps? self.register s) _ (omega arith) c3.1 in
    let c6 = first-zero Meaning.number (number? self s) _ (omega arith) c5.1 in
    let c7 = first-zero Meaning.full (full? self s) _ (omega arith) c6.1 in
    record { thirteen = c13.0; one = c1.0; four = c4.0; two = c2.0; three = c3.0; five = c5.0; six = c6.0; seven = c7.0 }

pub accepted : (self : Replica) (text list : List ℕ) → take_answer self text list ≡ 0 → Accepted self text list
unfolding passes
accepted self text list e = go (free self text list e) (slip_in text) refl
  where
    go : Free self text list → (o : Option Slip) → slip_in text ≡ o → Accepted self text list
    go F none i = absurd (false≢true (sym F.one ∙ ap (λ x. not (found x)) i))
    go F (some t) i =
        let s = slip_from text in
        let g : s ≡ t = slip-given text t i in
        let f : form? s ≡ false = ap (λ x. not (slip_layout.legal x)) g ∙ ap not (slip-only text t i).0 in
        let z : answer_of (slip_rows self.register s) ≡ 0 =
        zero-first Meaning.form _ _ f (zero-first Meaning.range _ _ F.four (zero-first Meaning.shop _ _ F.two (zero-first Meaning.oneself _ _ F.three (zero-first Meaning.deps _ _ F.five no_rows)))) in
        record {
          slip = s;
          carried = i ∙ ap some (sym g);
          given = refl;
          lawful = not-false _ F.thirteen;
          passes = eq-eqb _ 0 z;
          number = eqb-true _ _ (not-false _ F.six);
          room = leb-false 8 _ F.seven;
        }

-- ---- take

sized_of : (self : Replica) → lawful self ≡ true → Sized self
sized_of self e =
    let P = parts self e in
    let R = register-legal self.register P.register in
    record { lines = omega (arith, P.line_places, R.fits.most); shops = omega (arith, P.shop_places, R.fits.most) }

pub entered-lawful : (self : Replica) (text list : List ℕ) → take_answer self text list ≡ 0 → lawful (entered self (slip_from text)) ≡ true
entered-lawful self text list e =
    let A = accepted self text list e in
    let q : passes self.register A.slip ≡ true = A.passes in
    rw A.given (whole (entered self A.slip) (entered-parts self A.slip (parts self A.lawful) (passed-of self.register A.slip q) q A.number A.room))

-- a number of the shops that entering an accepted slip leaves alone
pub entered-alone : (self : Replica) (text list : List ℕ) → take_answer self text list ≡ 0
    → (f : Shop → ℕ) → ((x : Shop) → f (took_one x) ≡ f x) → (q : ℕ) → f (shop_at (entered self (slip_from text)) q) ≡ f (shop_at self q)
entered-alone self text list e f k q =
    let A = accepted self text list e in
    let ok : passes self.register A.slip ≡ true = A.passes in
    rw A.given (alone self A.slip (parts self A.lawful) (passed-of self.register A.slip ok) ok A.number A.room f k q)

-- an accepted slip: the state that settling leaves is lawful, nothing in it is ready, and the count is how many fewer wait
pub taken-settled : (self : Replica) (text list : List ℕ) → take_answer self text list ≡ 0
    → Settled (λ x. lawful x ≡ true) (entered self (slip_from text)) (settled (entered self (slip_from text))) (applying (entered self (slip_from text)))
taken-settled self text list e =
    settle-quiet (λ x. lawful x ≡ true) sized_of apply-lawful (waits (entered self (slip_from text))) (entered self (slip_from text)) (entered-lawful self text list e) (omega arith)

-- take keeps the state rule
pub taken-lawful : (self : Replica) (text list : List ℕ) → lawful self ≡ true → lawful (taken self text list).replica ≡ true
unfolding taken
taken-lawful self text list l = go (take_answer self text list) refl
  where
    go : (n : ℕ) → take_answer self text list ≡ n → lawful (taken self text list).replica ≡ true
    go zero e = rw (e, taken) (taken-settled self text list e).kept
    go (suc n) e = rw (e, taken) l
