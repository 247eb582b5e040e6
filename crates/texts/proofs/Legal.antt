-- Legal registers and slips, taken apart; and positions of codes.
use mathlib.Core.Path.{◌≡◌, refl, sym, ap, ◌∙◌}
use mathlib.Core.Bool.{Bool, true, false, ◌&&◌, false≢true}
use mathlib.Core.Option.{Option, none, some}
use mathlib.Core.List.{List, [], ◌∷◌, ◌++◌}
use Prim.Native.Nat.{ℕ, zero, suc, ◌-◌, ◌≤◌, ◌<◌}
use native.Mathlib.Omega.{arith}
use lib.Dec.{eqb, leb}
use lib.ListN.{length, take, drop, get_or, replicate, length-drop, length-append, length-replicate}
use lib.Seq.{length-take-le, take_at, drop_at}
use borrow.Author.Tests.{eqb-true, eq-eqb, leb-true, le-leb, not-false, ne_eqb}
use Rattle.texts.specs.Bytes.{bytes, same_bytes, all_of, found, or_zeros}
use Rattle.texts.specs.Bounds.{code_places, most_shops, most, most_deps}
use Rattle.texts.specs.Code.{code, is_code, same_code, spelled, no_code}
use Rattle.texts.specs.Lines.{six}
use Rattle.texts.specs.Entries.{no_entry, zero_entry, entry_line}
use Rattle.texts.specs.Answers.{Meaning, answer_of}
use Rattle.texts.specs.Register.{no_register, shops_line, shop_line, shop_lines, opening, own_line, register_layout, register_in, place, twins, shops_of, listed, register_rows, register_answer, register_text_answer, register_read, among}
use Rattle.texts.specs.Slip.{payer_line, slip_number_line, payee_line, amount_line, deps_line, dep_line, slip_layout, deps_of}
use Rattle.texts.specs.declared.code.Code.{Code}
use Rattle.texts.specs.declared.entry.Entry.{Entry}
use Rattle.texts.specs.declared.register.Register.{Register}
use Rattle.texts.specs.declared.slip.Slip.{Slip}
use Rattle.texts.proofs.Steps.{both, and, upto, all_both, all-used-at, all-zeros, zeros-all, bytes_same, neither, within}
use Rattle.texts.proofs.Firsts.{first-zero}
use Rattle.texts.proofs.LawsTexts.{same_code_lem, zero_entry-is, register-only}

-- ---- codes

pub code_same : (c : Code) → same_code c c ≡ true
unfolding same_code
code_same c = and (eqb c.len c.len) _ (eq-eqb c.len c.len refl) (bytes_same c.digits)

-- a code has a digit at least, and no more than its places
pub code-some : (c : Code) → is_code c ≡ true → 1 ≤ c.len
code-some c e =
    let k = both (eqb (length c.digits) code_places) _ e in
    let l = both (leb 1 c.len && leb c.len code_places) _ k.1 in
    leb-true 1 c.len (both (leb 1 c.len) (leb c.len code_places) l.0).0

pub code-held : (c : Code) → is_code c ≡ true → c.len ≤ length c.digits
code-held c e =
    let k = both (eqb (length c.digits) code_places) _ e in
    let l = both (leb 1 c.len && leb c.len code_places) _ k.1 in
    omega (arith, eqb-true (length c.digits) code_places k.0, leb-true c.len code_places (both (leb 1 c.len) (leb c.len code_places) l.0).1)

-- the digits of a code fill its length
pub spelled-length : (c : Code) → is_code c ≡ true → length (spelled c) ≡ c.len
spelled-length c e = length-take-le c.len c.digits (code-held c e)

-- ---- an entry: its code is a code, and its number has no more than six digits

pub entry-legal : (name : List ℕ) (e : Entry) → (entry_line name).legal e ≡ true → (is_code e.code ≡ true) × (e.number ≤ most)
entry-legal name e h = let k = both (is_code e.code) (six.legal e.number) h in (k.0, upto 0 e.number most k.1)

pub legal-entry : (name : List ℕ) (e : Entry) → is_code e.code ≡ true → e.number ≤ most → (entry_line name).legal e ≡ true
legal-entry name e h k = and _ _ h (and _ _ (and _ _ (le-leb 0 e.number (omega arith)) (le-leb e.number most k)) refl)

-- ---- the slip

pub record SlipLegal (s : Slip) : Type 0 where
  pub payer : (code 10).legal s.payer ≡ true
  pub payee : (code 10).legal s.payee ≡ true
  pub number : s.number ≤ most
  pub amount : s.amount ≤ most
  pub count : s.count ≤ most_deps
  pub places : length s.deps ≡ most_shops
  pub used : all_of dep_line.legal (deps_of s) ≡ true
  pub rest : drop s.count s.deps ≡ replicate (most_shops - s.count) no_entry

pub slip-legal : (s : Slip) → slip_layout.legal s ≡ true → SlipLegal s
unfolding slip_layout
slip-legal s e =
    let a = both (payer_line.legal s.payer) _ e in
    let b = both (slip_number_line.legal s.number) _ a.1 in
    let c = both (payee_line.legal s.payee) _ b.1 in
    let d = both (amount_line.legal s.amount) _ c.1 in
    let f = both (deps_line.legal s.count) _ d.1 in
    let g = both (eqb (length s.deps) most_shops) _ f.1 in
    let h = both (all_of dep_line.legal (take s.count s.deps)) (all_of zero_entry (drop s.count s.deps)) g.1 in
    let l = eqb-true (length s.deps) most_shops g.0 in
    record {
      payer = a.0;
      payee = c.0;
      number = upto 0 s.number most b.0;
      amount = upto 0 s.amount most d.0;
      count = upto 0 s.count most_deps f.0;
      places = l;
      used = h.0;
      rest = all-zeros no_entry zero_entry zero_entry-is (drop s.count s.deps) h.1 ∙ ap (λ k. replicate k no_entry) (length-drop s.count s.deps ∙ ap (λ k. k - s.count) l);
    }

-- and put together
pub legal-slip : (payer : Code) (number : ℕ) (payee : Code) (amount : ℕ) (ds : List Entry) → (code 10).legal payer ≡ true → (code 10).legal payee ≡ true
    → number ≤ most → amount ≤ most → length ds ≤ most_deps → all_of dep_line.legal ds ≡ true
    → slip_layout.legal (record { payer = payer; number = number; payee = payee; amount = amount; count = length ds; deps = ds ++ replicate (most_shops - length ds) no_entry }) ≡ true
unfolding slip_layout same_code same_bytes
legal-slip payer number payee amount ds a b c d e f =
    let rest : List Entry = replicate (most_shops - length ds) no_entry in
    let l : length (ds ++ rest) ≡ most_shops = length-append ds rest ∙ omega (arith, length-replicate (most_shops - length ds) no_entry) in
    and _ _ a
    (and _ _ (within 0 number most true (omega arith) c)
    (and _ _ b
    (and _ _ (within 0 amount most true (omega arith) d)
    (and _ _ (within 0 (length ds) most_deps true (omega arith) e)
    (and _ _ (eq-eqb _ most_shops l)
    (and _ _ (ap (all_of dep_line.legal) (take_at ds rest (length ds) refl) ∙ f)
    (ap (all_of zero_entry) (drop_at ds rest (length ds) refl) ∙ zeros-all no_entry zero_entry refl (most_shops - length ds))))))))

-- ---- the register

-- what the layout's test says of a register
pub record RegisterFits (r : Register) : Type 0 where
  pub some : 1 ≤ r.count
  pub most : r.count ≤ most_shops
  pub places : length r.shops ≡ most_shops
  pub rest : drop r.count r.shops ≡ replicate (most_shops - r.count) no_entry
  pub used : all_of shop_line.legal (shops_of r) ≡ true
  pub own_code : is_code r.own ≡ true

pub register-fits : (r : Register) → register_layout.legal r ≡ true → RegisterFits r
unfolding register_layout
register-fits r e =
    let a = both (shops_line.legal r.count && (shop_lines r.count).legal r.shops) (own_line.legal r.own) e in
    let b = both (shops_line.legal r.count) _ a.0 in
    let c = both (leb 1 r.count && leb r.count most_shops) true b.0 in
    let d = both (leb 1 r.count) (leb r.count most_shops) c.0 in
    let g = both (eqb (length r.shops) most_shops) _ b.1 in
    let h = both (all_of shop_line.legal (take r.count r.shops)) (all_of zero_entry (drop r.count r.shops)) g.1 in
    let l = eqb-true (length r.shops) most_shops g.0 in
    record {
      some = leb-true 1 r.count d.0;
      most = leb-true r.count most_shops d.1;
      places = l;
      rest = all-zeros no_entry zero_entry zero_entry-is (drop r.count r.shops) h.1 ∙ ap (λ k. replicate k no_entry) (length-drop r.count r.shops ∙ ap (λ k. k - r.count) l);
      used = h.0;
      own_code = a.1;
    }

-- every shop in use has a code, and an opening of no more than six digits
module _ (r : Register) (R : RegisterFits r) (p : ℕ) (h : p < r.count) (z : Entry) where
  shop-fits : (is_code (get_or r.shops p z).code ≡ true) × (opening (get_or r.shops p z) ≤ most)
  shop-fits = entry-legal (bytes "shop=") (get_or r.shops p z) (all-used-at shop_line.legal r.shops z r.count p R.used (omega (arith, R.most, R.places)) h)

  pub shop-code : is_code (get_or r.shops p z).code ≡ true
  shop-code = shop-fits.0

  -- "Opening credit 0 to 999,999."
  pub opening-most : opening (get_or r.shops p z) ≤ most
  opening-most = shop-fits.1

-- a legal register fits, has no twins, and lists its own shop
pub record RegisterLegal (r : Register) : Type 0 where
  pub fits : RegisterFits r
  pub single : twins (shops_of r) ≡ false
  pub own : listed r r.own ≡ true

pub register-legal : (r : Register) → register_answer r ≡ 0 → RegisterLegal r
unfolding register_answer
register-legal r e =
    let one = first-zero Meaning.form _ _ (omega arith) e in
    let twelve = first-zero Meaning.twin _ _ (omega arith) one.1 in
    let two = first-zero Meaning.shop _ _ (omega arith) twelve.1 in
    record { fits = register-fits r (not-false _ one.0); single = twelve.0; own = not-false _ two.0 }

-- a register that was read is the one that the text carries, and is legal
pub record Opens (text : List ℕ) : Type 0 where
  pub register : Register
  pub carried : register_in text ≡ some register
  pub given : (register_read text).register ≡ register
  pub legal : register_answer register ≡ 0

pub read-legal : (text : List ℕ) → (register_read text).answer ≡ 0 → Opens text
unfolding register_read register_text_answer register_answer
read-legal text e = go (register_in text) refl
  where
    answer : Option Register → ℕ
    answer o = answer_of (register_rows (found o) (or_zeros no_register o))

    pick : ℕ → Register
    pick n = elim n [ zero ↦ or_zeros no_register (register_in text) | suc n ↦ no_register ]

    go : (o : Option Register) → register_in text ≡ o → Opens text
    go none i =
        let z : answer none ≡ 0 = ap answer (sym i) ∙ e in
        absurd (false≢true (sym (first-zero Meaning.form true _ (omega arith) z).0))
    go (some r) i = record {
      register = r;
      carried = i;
      given = ap pick e ∙ ap (or_zeros no_register) i;
      legal = ap (λ b. answer_of (register_rows b r)) (register-only text r i).0 ∙ ap answer (sym i) ∙ e;
    }

-- ---- positions

-- a code that is listed stands at its position
pub place_at : (shops : List Entry) (c : Code) (z : Entry) → place shops c < length shops → (get_or shops (place shops c) z).code ≡ c
unfolding place
place_at [] c z h = absurd (omega arith)
place_at (s ∷ shops) c z h = go (same_code s.code c) refl (place_at shops c z)
  where
    go : (t : Bool) → same_code s.code c ≡ t → (place shops c < length shops → (get_or shops (place shops c) z).code ≡ c)
        → (get_or (s ∷ shops) (place (s ∷ shops) c) z).code ≡ c
    go true e ih = rw (e, place) (same_code_lem s.code c e)
    go false e ih = let l : suc (place shops c) < suc (length shops) = rw (e, place) at h in rw (e, place) (ih (omega arith))

-- and no later one stands for it
pub place-head : (s : Entry) (shops : List Entry) (c : Code) → same_code s.code c ≡ true → place (s ∷ shops) c ≡ 0
unfolding place
place-head s shops c e = rw (e, place)

pub place-later : (s : Entry) (shops : List Entry) (c : Code) → same_code s.code c ≡ false → place (s ∷ shops) c ≡ suc (place shops c)
unfolding place
place-later s shops c e = rw (e, place)

pub place-within : (shops : List Entry) (c : Code) → place shops c ≤ length shops
unfolding place
place-within [] c = omega arith
place-within (s ∷ shops) c = go (same_code s.code c) refl (place-within shops c)
  where
    go : (t : Bool) → same_code s.code c ≡ t → place shops c ≤ length shops → place (s ∷ shops) c ≤ suc (length shops)
    go true e h = rw (e, place) (omega arith)
    go false e h = rw (e, place) (omega arith)

-- no twins: the first shop's code is not among the others, and there are none among those
pub single_more : (s : Entry) (shops : List Entry) → twins (s ∷ shops) ≡ false → (among shops s.code ≡ false) × (twins shops ≡ false)
unfolding twins
single_more s shops e = neither (among shops s.code) (twins shops) e

-- a code is not the code of zeros
pub code-not-zeros : (c : Code) → is_code c ≡ true → same_code c no_code ≡ false
unfolding same_code
code-not-zeros c e =
    let m = code-some c e in
    ap (λ b. b && same_bytes c.digits no_code.digits) (ne_eqb c.len 0 (λ i. omega arith))

pub zeros-not-code : (c : Code) → is_code c ≡ true → same_code no_code c ≡ false
unfolding same_code
zeros-not-code c e =
    let m = code-some c e in
    ap (λ b. b && same_bytes no_code.digits c.digits) (ne_eqb 0 c.len (λ i. omega arith))

-- which no shop has
pub zeros-unlisted : (shops : List Entry) → all_of shop_line.legal shops ≡ true → length shops ≤ place shops no_code
zeros-unlisted [] h = omega arith
zeros-unlisted (s ∷ shops) h =
    let k = all_both shop_line.legal s shops h in
    let e = code-not-zeros s.code (entry-legal (bytes "shop=") s k.0).0 in
    omega (arith, place-later s shops no_code e, zeros-unlisted shops k.1)
