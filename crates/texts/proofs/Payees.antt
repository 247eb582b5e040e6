-- Where a payee's code stands in the register's text and in the slip's, and what reading the two answered.
use mathlib.Core.Path.{◌≡◌, refl, sym, ap, ap₂, ◌∙◌}
use mathlib.Core.Bool.{Bool, true, false, not, ◌&&◌, and-false}
use mathlib.Core.Option.{Option, none, some}
use mathlib.Core.List.{List, [], ◌∷◌, ◌++◌, append_assoc}
use Prim.Native.Nat.{ℕ, suc, ◌+◌, ◌*◌, ◌≤◌, ◌<◌}
use native.Mathlib.Omega.{arith}
use lib.ListN.{length, take, drop, get_or, length-append, length-take}
use lib.Seq.{get_or-take, take_at, drop-append_seam, take-take, length-take-le, split_at}
use lib.Dec.{eqb}
use borrow.Author.Tests.{eqb-true, eq-eqb, ne_eqb, ltb-true}
use Rattle.texts.specs.Bounds.{code_places}
use Rattle.texts.specs.Bytes.{bytes, found, or_zeros}
use Rattle.texts.specs.Layout.{joined}
use Rattle.texts.specs.Leaf.{digits}
use Rattle.texts.specs.Code.{is_code, spelled}
use Rattle.texts.specs.Lines.{six}
use Rattle.texts.specs.Entries.{no_entry, entry_line}
use Rattle.texts.specs.Answers.{first, answer_of, form}
use Rattle.texts.specs.Register.{shops_line, shop_line, own_line, register_layout, shops_of, position, listed, register_answer, register_read}
use Rattle.texts.specs.Slip.{no_slip, payer_line, slip_number_line, amount_line, deps_line, dep_line, slip_layout, slip_in, slip_read}
use Rattle.texts.specs.Payee.{before_shop, before_payee, in_register, start_in_register}
use Rattle.texts.specs.declared.code.Code.{Code}
use Rattle.texts.specs.declared.entry.Entry.{Entry}
use Rattle.texts.specs.declared.register.Register.{Register}
use Rattle.texts.specs.Register.{RegisterRead}
use Rattle.texts.specs.declared.slip.Slip.{Slip}
use Rattle.texts.specs.Slip.{SlipRead}
use Rattle.texts.proofs.Steps.{both, and}
use Rattle.texts.proofs.LawsLeaf.{digits-length}
use Rattle.texts.proofs.LawsGroup.{joined-append}
use Rattle.texts.proofs.LawsTexts.{register-only, slip-only}
use Rattle.texts.proofs.Legal.{SlipLegal, slip-legal, register-fits, shop-code, RegisterLegal, register-legal, read-legal, place_at, place-within, code-held, spelled-length}
use Rattle.texts.proofs.Putting.{joined-more}
use Rattle.texts.proofs.Reading.{none-if}

part_of : (before mid rest t : List ℕ) (n : ℕ) → length mid ≡ n → t ≡ before ++ (mid ++ rest) → take n (drop (length before) t) ≡ mid
part_of before mid rest t n l e =
    ap (λ x. take n (drop (length before) x)) e ∙ ap (take n) (drop-append_seam before (mid ++ rest)) ∙ take_at mid rest n l

-- ---- in the slip's text

in-slip : (text : List ℕ) (s : Slip) → slip_in text ≡ some s → (rest : List ℕ) × (text ≡ before_payee s ++ (spelled s.payee ++ rest))
unfolding slip_layout
in-slip text s e =
    let a = payer_line.text s.payer in
    let b = slip_number_line.text s.number in
    let k = bytes "payee=" in
    let m = spelled s.payee in
    let z = amount_line.text s.amount ++ (deps_line.text s.count ++ joined dep_line (take s.count s.deps)) in (
      10 ∷ z,
      (slip-only text s e).1
          ∙ ap (λ x. a ++ (b ++ (k ++ x))) (append_assoc m (10 ∷ []) z)
          ∙ sym (append_assoc a b (k ++ (m ++ (10 ∷ z))))
          ∙ sym (append_assoc (a ++ b) k (m ++ (10 ∷ z))),
    )

-- ---- in the register's text

in-register : (r : Register) (c : Code) → RegisterLegal r → listed r c ≡ true
    → (rest : List ℕ) × (register_layout.text r ≡ before_shop r (position r c) ++ (spelled c ++ rest))
unfolding register_layout joined
in-register r c R e =
    let us = shops_of r in
    let p = position r c in
    let l = ltb-true p (length us) e in
    let n = length-take-le r.count r.shops (omega (arith, R.fits.most, R.fits.places)) in
    let u = get_or us p no_entry in
    let at : u.code ≡ c = place_at us c no_entry l in
    let h = shops_line.text r.count in
    let k = bytes "shop=" in
    let x = joined shop_line (take p us) in
    let t = six.text u.number in
    let y = joined shop_line (drop (suc p) us) in
    let o = own_line.text r.own in
    let line : joined shop_line us ≡ x ++ (shop_line.text u ++ y) = ap (joined shop_line) (split_at us p no_entry l) ∙ joined-append shop_line (take p us) (u ∷ drop (suc p) us) in
    let front : x ≡ joined shop_line (take p r.shops) = ap (joined shop_line) (take-take p r.count r.shops (omega arith)) in
    let m = spelled u.code in
    let rest = (58 ∷ []) ++ (t ++ (y ++ o)) in
    let flat : (h ++ (x ++ (shop_line.text u ++ y))) ++ o ≡ ((h ++ x) ++ k) ++ (m ++ rest) = simp append_assoc in (
      rest,
      ap (λ w. (h ++ w) ++ o) line ∙ flat ∙ ap₂ (λ (w : List ℕ) (d : Code). ((h ++ w) ++ k) ++ (spelled d ++ rest)) front at,
    )

-- ---- where the parts start

-- the length of a line that has a code and six digits
entry_length : (name : List ℕ) (e : Entry) → is_code e.code ≡ true → length ((entry_line name).text e) ≡ length name + e.code.len + 8
entry_length name e h =
    let w = spelled e.code in
    let a = length-append (name ++ (w ++ (58 ∷ []))) (digits 6 e.number ++ (10 ∷ [])) in
    let b = length-append name (w ++ (58 ∷ [])) in
    let d = length-append w (58 ∷ []) in
    let f = length-append (digits 6 e.number) (10 ∷ []) in
    omega (arith, spelled-length e.code h, digits-length 6 e.number)

-- the first i shops' lines have been passed
pub record Started (shops : List Entry) (at i : ℕ) : Type 0 where
  pub passed : at ≡ 9 + length (joined shop_line (take i shops))
  pub small : at ≤ 9 + 21 * i

pub started_none : (shops : List Entry) → Started shops 9 0
unfolding joined
started_none shops = record { passed = refl; small = omega arith }

module _ (r : Register) (fits : register_layout.legal r ≡ true) (p : ℕ) (within : p ≤ r.count) where
  places : p ≤ length r.shops
  places = let R = register-fits r fits in omega (arith, R.most, R.places)

  -- the shop at i, of the first p
  module _ (i : ℕ) (h : i < length (take p r.shops)) (z : Entry) where
    abbrev shop : Entry
    shop = get_or (take p r.shops) i z

    pub below-p : i < p
    below-p = omega (arith, length-take-le p r.shops places)

    shop-is : shop ≡ get_or r.shops i z
    shop-is = get_or-take p r.shops i z below-p

    coded : is_code shop.code ≡ true
    coded = ap (λ (s : Entry). is_code s.code) shop-is ∙ shop-code r (register-fits r fits) i (omega (arith, below-p)) z

    pub shop-few : shop.code.len ≤ code_places
    shop-few = let c = shop.code in omega (arith, code-held c coded, eqb-true (length c.digits) code_places (both _ _ coded).0)

    pub started-more : {at : ℕ} → Started r.shops at i → Started r.shops (at + (5 + shop.code.len + 8)) (i + 1)
    started-more q =
        let lines = ap length (joined-more shop_line z r.shops i (omega (arith, below-p, places))) ∙ length-append (joined shop_line (take i r.shops)) (shop_line.text (get_or r.shops i z)) in
        let line = ap (λ (s : Entry). length (shop_line.text s)) (sym shop-is) ∙ entry_length (bytes "shop=") shop coded in
        let few = shop-few in
        record { passed = omega (arith, q.passed); small = omega (arith, q.small) }

pub started-done : (r : Register) {at i : ℕ} (p : ℕ) → i ≡ p → Started r.shops at i → at + 5 ≡ length (before_shop r p)
started-done r {at} p e q =
    let x = joined shop_line (take p r.shops) in
    let h = shops_line.text r.count in
    let a = length-append (h ++ x) (bytes "shop=") in
    let b = length-append h x in
    let c = length-append (digits 2 r.count) (10 ∷ []) in
    let f : at ≡ 9 + length x = q.passed ∙ ap (λ k. 9 + length (joined shop_line (take k r.shops))) e in
    omega (arith, digits-length 2 r.count)

-- before the payee's code: the payer's line, the number's line, the key
payee-start : (s : Slip) → is_code s.payer ≡ true → 6 + s.payer.len + 21 ≡ length (before_payee s)
payee-start s h =
    let w = spelled s.payer in
    let n = digits 6 s.number in
    let a = length-append (payer_line.text s.payer ++ slip_number_line.text s.number) (bytes "payee=") in
    let b = length-append (payer_line.text s.payer) (slip_number_line.text s.number) in
    let c = length-append w (10 ∷ []) in
    let d = length-append n (10 ∷ []) in
    omega (arith, spelled-length s.payer h, digits-length 6 s.number)

-- ---- what reading answered

pub slip-carried : (t : List ℕ) (x : SlipRead) → x ≡ slip_read t → x.answer ≡ 0 → slip_in t ≡ some x.slip
unfolding slip_read first
slip-carried t x e h = go (slip_in t) refl
  where
    go : (o : Option Slip) → slip_in t ≡ o → slip_in t ≡ some x.slip
    go none i = let z : x.answer ≡ 1 = ap (λ (y : SlipRead). y.answer) e ∙ ap (λ o. answer_of ((form, not (found o)) ∷ [])) i in absurd (omega arith)
    go (some s) i = i ∙ ap some (sym (ap (λ (y : SlipRead). y.slip) e ∙ ap (or_zeros no_slip) i))

pub slip-given : (t : List ℕ) (s : Slip) → slip_in t ≡ some s → (slip_read t).slip ≡ s
unfolding slip_read
slip-given t s i = ap (or_zeros no_slip) i

pub slip-form : (t : List ℕ) → slip_in t ≡ none → (slip_read t).answer ≡ 1
unfolding slip_read first
slip-form t i = ap (λ o. answer_of ((form, not (found o)) ∷ [])) i

pub slip-missing : (t : List ℕ) (x : SlipRead) → x ≡ slip_read t → (x.answer ≡ 0 → ⊥) → slip_in t ≡ none
unfolding slip_read first
slip-missing t x e h = none-if (slip_in t) (λ s i. h (ap (λ (y : SlipRead). y.answer) e ∙ ap (λ o. answer_of ((form, not (found o)) ∷ [])) i))

module _ (text : List ℕ) (x : RegisterRead) (e : x ≡ register_read text) where
  answer-is : (register_read text).answer ≡ x.answer
  answer-is = ap (λ (y : RegisterRead). y.answer) (sym e)

  register-is : (register_read text).register ≡ x.register
  register-is = ap (λ (y : RegisterRead). y.register) (sym e)

  pub read_fits : x.answer ≡ 0 → register_layout.legal x.register ≡ true
  read_fits h =
      let O = read-legal text (answer-is ∙ h) in
      ap register_layout.legal (sym register-is ∙ O.given) ∙ (register-only text O.register O.carried).0

  module _ (c : Code) where
    in_is : in_register text c ≡ eqb x.answer 0 && listed x.register c
    in_is = ap (λ (y : RegisterRead). eqb y.answer 0 && listed y.register c) (sym e)

    pub spot-there : (t : Bool) {p start : ℕ} → x.answer ≡ 0 → t ≡ listed x.register c → t ≡ true → p ≡ position x.register c → start ≡ length (before_shop x.register p)
        → (in_register text c ≡ true) × (start ≡ start_in_register text c)
    spot-there t h l y q s = (
      in_is ∙ and _ _ (eq-eqb x.answer 0 h) (sym l ∙ y),
      s ∙ ap (λ k. length (before_shop x.register k)) q ∙ ap (λ r. length (before_shop r (position r c))) (sym register-is),
    )

    pub spot-unlisted : (t : Bool) → t ≡ listed x.register c → t ≡ false → in_register text c ≡ false
    spot-unlisted t l n = in_is ∙ ap (λ b. eqb x.answer 0 && b) (sym l ∙ n) ∙ and-false (eqb x.answer 0)

    pub spot-refused : (x.answer ≡ 0 → ⊥) → in_register text c ≡ false
    spot-refused h = in_is ∙ ap (λ b. b && listed x.register c) (ne_eqb x.answer 0 h)

pub position-within : (r : Register) (c : Code) (p : ℕ) → p ≡ position r c → p ≤ r.count
position-within r c p e = omega (arith, place-within (shops_of r) c, length-take r.count r.shops)

-- ---- the two places where the payee's code stands

module _ (slip : List ℕ) (s : Slip) (e : slip_in slip ≡ some s) where
  legal : SlipLegal s
  legal = slip-legal s (slip-only slip s e).0

  len : length (spelled s.payee) ≡ s.payee.len
  len = spelled-length s.payee legal.payee

  -- the register lists the payee: the code stands there in its text
  module _ (register : List ℕ) (i : in_register register s.payee ≡ true) where
    in-text : (rest : List ℕ) × (register ≡ before_shop (register_read register).register (position (register_read register).register s.payee) ++ (spelled s.payee ++ rest))
    in-text =
        let k = both (eqb (register_read register).answer 0) _ i in
        let O = read-legal register (eqb-true _ 0 k.0) in
        let r = (register_read register).register in
        let R = register-legal r (ap register_answer O.given ∙ O.legal) in
        let f = in-register r s.payee R k.1 in
        (f.0, (register-only register O.register O.carried).1 ∙ ap register_layout.text (sym O.given) ∙ f.1)

    pub register-bytes : take s.payee.len (drop (start_in_register register s.payee) register) ≡ spelled s.payee
    register-bytes =
        let f = in-text in
        let r = (register_read register).register in
        part_of (before_shop r (position r s.payee)) (spelled s.payee) f.0 register s.payee.len len f.1

    pub register-room : start_in_register register s.payee + s.payee.len ≤ length register
    register-room =
        let f = in-text in
        let r = (register_read register).register in
        let b = before_shop r (position r s.payee) in
        omega (arith, ap length f.1 ∙ length-append b (spelled s.payee ++ f.0), length-append (spelled s.payee) f.0, len)

  -- the slip's text has it
  pub slip-bytes : take s.payee.len (drop (length (before_payee s)) slip) ≡ spelled s.payee
  slip-bytes = let f = in-slip slip s e in part_of (before_payee s) (spelled s.payee) f.0 slip s.payee.len len f.1

  pub slip-start : 6 + s.payer.len + 21 ≡ length (before_payee s)
  slip-start = payee-start s legal.payer

  pub slip-room : 6 + s.payer.len + 21 + s.payee.len ≤ length slip
  slip-room =
      let f = in-slip slip s e in
      omega (arith, slip-start, ap length f.1 ∙ length-append (before_payee s) (spelled s.payee ++ f.0), length-append (spelled s.payee) f.0, len)
