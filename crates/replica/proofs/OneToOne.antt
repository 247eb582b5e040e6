-- A slip that passes checks 1, 4, 2, 3 and 5 comes back from its waiting record.
use mathlib.Core.Path.{◌≡◌, refl, sym, ap, ap₂, ◌∙◌, subst}
use mathlib.Core.Bool.{Bool, true, false, not}
use mathlib.Core.List.{List, [], ◌∷◌, ◌++◌, map}
use Prim.Native.Nat.{ℕ, zero, suc, ◌-◌, ◌≤◌, ◌<◌}
use native.Mathlib.Omega.{arith}
use lib.ListN.{length, drop, replicate, take-append-drop}
use lib.Seq.{get_or-take, length-take-le}
use lib.Dec.{eqb, leb, ltb}
use borrow.Author.Tests.{eqb-false, leb-true, ltb-true, ltb-false, not-false}
use Rattle.texts.specs.Bytes.{bytes, all_of}
use Rattle.texts.specs.Code.{no_code, same_code}
use Rattle.texts.specs.Answers.{Meaning, answer_of}
use Rattle.texts.specs.Entries.{no_entry}
use Rattle.texts.specs.Register.{place, among, twins, shops_of, position, listed}
use Rattle.texts.specs.Slip.{dep_line, slip_layout, deps_of}
use Rattle.texts.specs.declared.code.Code.{Code}
use Rattle.texts.specs.declared.entry.Entry.{Entry}
use Rattle.texts.specs.declared.register.Register.{Register}
use Rattle.texts.specs.declared.slip.Slip.{Slip}
use Rattle.texts.proofs.Steps.{both, neither, all_both}
use Rattle.texts.proofs.Firsts.{first-zero}
use Rattle.texts.proofs.LawsTexts.{same_code_lem}
use Rattle.texts.proofs.Legal.{zeros-not-code, entry-legal, slip-legal, RegisterLegal, place_at, place-head, place-later, single_more}
use Rattle.replica.specs.Record.{listed_at}
use Rattle.replica.specs.Slips.{number_for, waiting_of, deps_from, slip_with, slip_of}
use Rattle.replica.specs.Checks.{form?, range?, shop?, self?, rising, deps?, slip_rows}

-- ---- what passing says

pub record Passed (r : Register) (s : Slip) : Type 0 where
  pub legal : slip_layout.legal s ≡ true
  pub number : 0 < s.number
  pub amount : 0 < s.amount
  pub positive : all_of (λ (d : Entry). ltb 0 d.number) (deps_of s) ≡ true
  pub payer : listed r s.payer ≡ true
  pub payee : listed r s.payee ≡ true
  pub known : all_of (λ (d : Entry). listed r d.code) (deps_of s) ≡ true
  pub another : same_code s.payee s.payer ≡ false
  pub rises : rising r (position r s.payer) 0 (deps_of s) ≡ true

pub passed : (r : Register) (s : Slip) → answer_of (slip_rows r s) ≡ 0 → Passed r s
unfolding range? shop? deps?
passed r s e =
    let one = first-zero Meaning.form (form? s) _ (omega arith) e in
    let four = first-zero Meaning.range (range? s) _ (omega arith) one.1 in
    let two = first-zero Meaning.shop (shop? r s) _ (omega arith) four.1 in
    let three = first-zero Meaning.oneself (self? s) _ (omega arith) two.1 in
    let five = first-zero Meaning.deps (deps? r s) _ (omega arith) three.1 in
    let a = neither (eqb s.number 0) _ four.0 in
    let b = neither (eqb s.amount 0) _ a.1 in
    let c = both (listed r s.payer) _ (not-false _ two.0) in
    let d = both (listed r s.payee) _ c.1 in
    let n = eqb-false s.number 0 a.0 in
    let m = eqb-false s.amount 0 b.0 in
    record {
      legal = not-false _ one.0;
      number = positive s.number n;
      amount = positive s.amount m;
      positive = not-false _ b.1;
      payer = c.0;
      payee = d.0;
      known = d.1;
      another = three.0;
      rises = not-false _ five.0;
    }
  where
    positive : (n : ℕ) → (n ≡ 0 → ⊥) → 0 < n
    positive zero h = absurd (h refl)
    positive (suc n) h = omega arith

-- ---- dependencies in rising position, all of them listed

unfoldable pub Up : List Entry → ℕ → List Entry → Type 0
Up us least [] = Unit {0}
Up us least (d ∷ ds) = (least ≤ place us d.code) × (place us d.code < length us) × (0 < d.number) × Up us (suc (place us d.code)) ds

rising-up : (r : Register) (payer least : ℕ) (ds : List Entry) → length (shops_of r) ≡ r.count → rising r payer least ds ≡ true
    → all_of (λ (d : Entry). listed r d.code) ds ≡ true → all_of (λ (d : Entry). ltb 0 d.number) ds ≡ true → Up (shops_of r) least ds
unfolding rising Up
rising-up r payer least [] c e k p = tt
rising-up r payer least (d ∷ ds) c e k p =
    let x = position r d.code in
    let a = both (leb least x) _ e in
    let b = both (not (eqb x payer)) _ a.1 in
    let l = all_both (λ (d : Entry). listed r d.code) d ds k in
    let q = all_both (λ (d : Entry). ltb 0 d.number) d ds p in
    (leb-true least x a.0, ltb-true _ _ l.0, ltb-true 0 _ q.0, rising-up r payer (suc x) ds c b.1 l.1 q.1)

pub later : (u : Entry) (us : List Entry) (c : Code) (k : ℕ) → suc k ≤ place (u ∷ us) c → same_code u.code c ≡ false
later u us c k h = go (same_code u.code c) refl
  where
    go : (t : Bool) → same_code u.code c ≡ t → same_code u.code c ≡ false
    go true e = let z = place-head u us c e in absurd (omega arith)
    go false e = e

shift : (u : Entry) (us : List Entry) (k : ℕ) (ds : List Entry) → Up (u ∷ us) (suc k) ds → Up us k ds
unfolding Up
shift u us k [] h = tt
shift u us k (d ∷ ds) (a, b, c, t) =
    let e = place-later u us d.code (later u us d.code k a) in
    let t' = subst (λ (n : ℕ). Up (u ∷ us) (suc n) ds) e t in
    (omega arith, omega arith, c, shift u us (suc (place us d.code)) ds t')

for-none : (u : Entry) (us : List Entry) (k : ℕ) (ds : List Entry) → Up (u ∷ us) (suc k) ds → number_for ds u.code ≡ 0
unfolding Up number_for
for-none u us k [] h = refl
for-none u us k (d ∷ ds) (a, b, c, t) =
    let i = for-none u us (place (u ∷ us) d.code) ds t in
    rw (later u us d.code k a, number_for) i

pub past_all : (us : List Entry) (d : Entry) (ds : List Entry) → length us ≤ place us d.code
    → map (λ (l : Entry). number_for (d ∷ ds) l.code) us ≡ map (λ (l : Entry). number_for ds l.code) us
unfolding number_for
past_all [] d ds h = refl
past_all (u ∷ us) d ds h =
    let n = later u us d.code 0 (omega arith) in
    let e = place-later u us d.code n in
    let i = past_all us d ds (omega arith) in
    let j : number_for (d ∷ ds) u.code ≡ number_for ds u.code = rw (n, number_for) in
    ap₂ (λ x xs. x ∷ xs) j i

from_some : (l : Entry) (ls : List Entry) (n : ℕ) (ns : List ℕ) → 0 < n → deps_from (l ∷ ls) (n ∷ ns) ≡ record { code = l.code; number = n } ∷ deps_from ls ns
unfolding deps_from
from_some l ls zero ns h = absurd (omega arith)
from_some l ls (suc n) ns h = refl

pub from-none : (l : Entry) (ls : List Entry) (n : ℕ) (ns : List ℕ) → n ≡ 0 → deps_from (l ∷ ls) (n ∷ ns) ≡ deps_from ls ns
unfolding deps_from
from-none l ls n ns h = ap (λ k. deps_from (l ∷ ls) (k ∷ ns)) h

abbrev needs : List Entry → List Entry → List ℕ
needs ds us = map (λ (l : Entry). number_for ds l.code) us

deps-back : (us : List Entry) (ds : List Entry) → twins us ≡ false → Up us 0 ds → deps_from us (needs ds us) ≡ ds
unfolding Up
deps-back [] [] n h = unfold deps_from in refl
deps-back [] (d ∷ ds) n (a, b, c, t) = absurd (omega arith)
deps-back (u ∷ us) [] n h =
    from-none u us (number_for [] u.code) (needs [] us) (unfold number_for in refl) ∙ deps-back us [] (single_more u us n).1 tt
deps-back (u ∷ us) (d ∷ ds) n (a, b, c, t) =
    go (same_code u.code d.code) refl (λ x. deps-back us ds k.1 x) (λ x. deps-back us (d ∷ ds) k.1 x)
  where
    k : (among us u.code ≡ false) × (twins us ≡ false)
    k = single_more u us n

    go : (v : Bool) → same_code u.code d.code ≡ v → (Up us 0 ds → deps_from us (needs ds us) ≡ ds)
        → (Up us 0 (d ∷ ds) → deps_from us (needs (d ∷ ds) us) ≡ d ∷ ds) → deps_from (u ∷ us) (needs (d ∷ ds) (u ∷ us)) ≡ d ∷ ds
    go true e ih _ =
        let z = place-head u us d.code e in
        let w : u.code ≡ d.code = same_code_lem u.code d.code e in
        let f : number_for (d ∷ ds) u.code ≡ d.number = unfold number_for in rw (e, number_for) in
        let l : length us ≤ place us d.code = subst (λ (x : Code). length us ≤ place us x) w (ltb-false (place us u.code) (length us) k.0) in
        let t' = shift u us 0 ds (subst (λ (m : ℕ). Up (u ∷ us) (suc m) ds) z t) in
        ap₂ (λ x xs. deps_from (u ∷ us) (x ∷ xs)) f (past_all us d ds l)
        ∙ from_some u us d.number (needs ds us) c
        ∙ ap₂ (λ (x : Code) xs. record { code = x; number = d.number } ∷ xs) w (ih t')
    go false e _ ih =
        let z = place-later u us d.code e in
        let up : Up (u ∷ us) 1 (d ∷ ds) = (omega arith, b, c, t) in
        from-none u us (number_for (d ∷ ds) u.code) (needs (d ∷ ds) us) (for-none u us 0 (d ∷ ds) up) ∙ ih (shift u us 0 (d ∷ ds) up)

-- ---- unused places of the register give no dependency

pub for-zero : (ds : List Entry) → all_of dep_line.legal ds ≡ true → number_for ds no_code ≡ 0
unfolding number_for
for-zero [] h = refl
for-zero (d ∷ ds) h =
    let k = all_both dep_line.legal d ds h in
    let l = entry-legal (bytes "dep=") d k.0 in
    let i = for-zero ds k.1 in
    rw (zeros-not-code d.code l.0, number_for) i

from-zeros : (ds : List Entry) (k : ℕ) → number_for ds no_code ≡ 0 → deps_from (replicate k no_entry) (needs ds (replicate k no_entry)) ≡ []
unfolding deps_from
from-zeros ds zero e = refl
from-zeros ds (suc k) e = from-none no_entry (replicate k no_entry) _ _ e ∙ from-zeros ds k e

from-append : (ds : List Entry) (us zs : List Entry) → deps_from zs (needs ds zs) ≡ [] → deps_from (us ++ zs) (needs ds (us ++ zs)) ≡ deps_from us (needs ds us)
unfolding deps_from
from-append ds [] zs e = e
from-append ds (u ∷ us) zs e = go (number_for ds u.code) (from-append ds us zs e)
  where
    go : (n : ℕ) → deps_from (us ++ zs) (needs ds (us ++ zs)) ≡ deps_from us (needs ds us)
        → deps_from (u ∷ (us ++ zs)) (n ∷ needs ds (us ++ zs)) ≡ deps_from (u ∷ us) (n ∷ needs ds us)
    go zero i = i
    go (suc n) i = ap (λ xs. record { code = u.code; number = suc n } ∷ xs) i

-- ---- the whole slip

pub below : (r : Register) (c : Code) → RegisterLegal r → listed r c ≡ true → position r c < r.count
below r c R e = let l = length-take-le r.count r.shops (omega (arith, R.fits.most, R.fits.places)) in omega (arith, ltb-true (position r c) (length (shops_of r)) e)

pub code_at : (r : Register) (c : Code) → RegisterLegal r → listed r c ≡ true → (listed_at r (position r c)).code ≡ c
code_at r c R e =
    let z : Entry = record { code = record { digits = []; len = 0 }; number = 0 } in
    let h = below r c R e in
    ap (λ (l : Entry). l.code) (sym (get_or-take r.count r.shops (position r c) z h)) ∙ place_at (shops_of r) c z (ltb-true _ _ e)

pub deps-from : (r : Register) (s : Slip) → RegisterLegal r → Passed r s → deps_from r.shops (needs (deps_of s) r.shops) ≡ deps_of s
deps-from r s R P =
    let us = shops_of r in
    let zs = drop r.count r.shops in
    let S = slip-legal s P.legal in
    let ds = deps_of s in
    let z = for-zero ds S.used in
    let n : deps_from zs (needs ds zs) ≡ [] = rw R.fits.rest (from-zeros ds (16 - r.count) z) in
    let c = length-take-le r.count r.shops (omega (arith, R.fits.most, R.fits.places)) in
    ap (λ (l : List Entry). deps_from l (needs ds l)) (sym (take-append-drop r.count r.shops))
    ∙ from-append ds us zs n
    ∙ deps-back us ds R.single (rising-up r (position r s.payer) 0 ds c P.rises P.known P.positive)

pub one-to-one : (r : Register) (s : Slip) → RegisterLegal r → Passed r s → slip_of r (waiting_of r s) ≡ s
unfolding slip_of waiting_of
one-to-one r s R P =
    let S = slip-legal s P.legal in
    let c : length (deps_of s) ≡ s.count = length-take-le s.count s.deps (omega (arith, S.count, S.places)) in
    let d = deps-from r s R P in
    let rest : deps_of s ++ replicate (16 - s.count) no_entry ≡ s.deps = ap (λ x. deps_of s ++ x) (sym S.rest) ∙ take-append-drop s.count s.deps in
    ap (λ ds. slip_with (listed_at r (position r s.payer)).code s.number (listed_at r (position r s.payee)).code s.amount ds) d
    ∙ (λ i. record {
      payer = code_at r s.payer R P.payer i;
      number = s.number;
      payee = code_at r s.payee R P.payee i;
      amount = s.amount;
      count = c i;
      deps = (ap (λ (k : ℕ). deps_of s ++ replicate (16 - k) no_entry) c ∙ rest) i;
    })
