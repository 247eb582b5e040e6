-- What the tests and loops over a slip's dependencies come to: the checks of a slip, and the waiting slip. What opening answers.
use mathlib.Core.Path.{◌≡◌, refl, sym, ap, ap₂, ◌∙◌, subst}
use mathlib.Core.Bool.{Bool, true, false, not, ◌&&◌, ◌||◌, not-not}
use mathlib.Core.List.{List, [], ◌∷◌, ◌++◌, map}
use Prim.Native.Nat.{ℕ, zero, suc, ◌+◌, ◌-◌, ◌≤◌, ◌<◌}
use native.Mathlib.Omega.{arith}
use native.Mathlib.Numerals.{add-one}
use lib.ListN.{length, take, drop, get_or, set, replicate, length-map, length-take, take-append-drop, drop_of_length-le, get_or-append}
use lib.Seq.{take-suc, take_all, take_at, length-take-le, get_or-take, set_at, set-append_left, append_snoc}
use lib.Dec.{leb, ltb, eqb}
use Rattle.std.specs.Bool.{IsTrue, Decides}
use Rattle.std.specs.Prelude.{◌↔◌}
use Rattle.std.specs.List.{All, Any}
use Rattle.std.proofs.lemmas.Bool.Decides.{Decides-ltb}
use borrow.Author.Tests.{ltb-true, ltb-false, lt-ltb, le-ltb, le-leb, lt-leb, eq-eqb, ne_eqb, not-true, not-false}
use Rattle.texts.specs.Bytes.{all_of}
use Rattle.texts.specs.Code.{no_code, same_code}
use Rattle.std.proofs.Common.{Result, Ok, Err}
use Rattle.std.specs.Result.{IsErrAnd}
use Rattle.texts.specs.Answers.{Meaning, answer_of, refusal_number}
use Rattle.texts.specs.Entries.{no_entry}
use Rattle.texts.specs.Register.{RegisterRead, register_said, place, among, twins, shops_of, position, listed, register_read}
use Rattle.texts.specs.Slip.{dep_line, slip_layout, deps_of}
use Rattle.texts.specs.declared.answers.Refusal.{Refusal}
use Rattle.texts.specs.declared.code.Code.{Code}
use Rattle.texts.specs.declared.entry.Entry.{Entry}
use Rattle.texts.specs.declared.register.Register.{Register}
use Rattle.texts.specs.declared.slip.Slip.{Slip}
use Rattle.texts.proofs.Steps.{both, all_both, all_map, all-used-at, all_drop}
use Rattle.texts.proofs.Refusals.{not-done, handed-on}
use Rattle.texts.proofs.Firsts.{no_rows, applies, passes-by}
use Rattle.texts.proofs.Values.{left-of, all-decided, any-decided}
use Rattle.texts.proofs.LawsTexts.{same_code_lem}
use Rattle.texts.proofs.Legal.{SlipLegal, slip-legal, RegisterLegal, register-legal, place-head, place-later, single_more, place-within}
use Rattle.replica.specs.declared.checks.PlacedSlip.{PlacedSlip}
use Rattle.replica.specs.declared.record.Replica.{Replica}
use Rattle.replica.specs.Record.{no_replica}
use Rattle.replica.specs.Slips.{number_for, waiting_of}
use Rattle.replica.specs.Checks.{range?, shop?, self?, rising, deps?, check_rows}
use Rattle.replica.specs.Outcome.{refused, did, open_said}
use Rattle.replica.specs.Open.{fresh, opened}
use Rattle.replica.specs.Inside.{dep_places}
use Rattle.replica.proofs.OneToOne.{past_all, for-zero, below}
use Rattle.replica.proofs.Opened.{map-replicate}
use Rattle.replica.proofs.Back.{map-append}

-- ---- an array filled from its first place on

-- the first i of the places are made of the first i of xs, the others are z
pub record Filled {A B : Type 0} (f : A → B) (z : B) (size : ℕ) (xs : List A) (out : List B) (i : ℕ) : Type 0 where
  pub within : i ≤ length xs
  pub few : length xs ≤ size
  pub holds : out ≡ map f (take i xs) ++ replicate (size - i) z

-- no place is filled yet
pub filled_none : {A B : Type 0} (f : A → B) (z : B) (size : ℕ) (xs : List A) → length xs ≤ size → Filled f z size xs (replicate size z) 0
filled_none f z size xs h =
    let e : size ≡ size - 0 = omega arith in
    record { within = omega arith; few = h; holds = ap (λ k. replicate k z) e }

module _ {A B : Type 0} {f : A → B} {z : B} {size : ℕ} {xs : List A} {out : List B} {i : ℕ} (p : Filled f z size xs out i) where
  -- one more place
  pub filled_more : i < length xs → (d : A) (b : B) → b ≡ f (get_or xs i d) → Filled f z size xs (set out i b) (i + 1)
  filled_more h d b e =
      let rest : List B = replicate (size - (i + 1)) z in
      let front : length (map f (take i xs)) ≡ i = length-map (take i xs) f ∙ length-take-le i xs p.within in
      let next : size - i ≡ suc (size - (i + 1)) = omega (arith, p.few) in
      let more : take (i + 1) xs ≡ take i xs ++ (get_or xs i d ∷ []) = rw (add-one) (take-suc xs i d h) in
      record {
        within = omega arith;
        few = p.few;
        holds =
            ap (λ l. set l i b) (p.holds ∙ ap (λ m. map f (take i xs) ++ replicate m z) next)
            ∙ set_at (map f (take i xs)) z rest b i front
            ∙ ap (λ x. map f (take i xs) ++ (x ∷ rest)) e
            ∙ sym (ap (λ l. l ++ rest) (ap (map f) more ∙ map-append f (take i xs) (get_or xs i d ∷ [])) ∙ append_snoc (map f (take i xs)) (f (get_or xs i d)) rest);
      }

  -- all of xs are in their places
  pub filled-done : length xs ≤ i → out ≡ map f xs ++ replicate (size - length xs) z
  filled-done h =
      let e : i ≡ length xs = omega (arith, p.within) in
      p.holds ∙ ap₂ (λ l k. map f l ++ replicate (size - k) z) (take_all i xs h) e

-- ---- what is left of the first n

-- the place at i of the first n, and those after it
rest_of : {A : Type 0} (xs : List A) (n i : ℕ) (z : A) → n ≤ length xs → i < n → drop i (take n xs) ≡ get_or xs i z ∷ drop (i + 1) (take n xs)
rest_of xs n i z l h =
    left-of (take n xs) i z (omega (arith, length-take-le n xs l)) ∙ ap (λ x. x ∷ drop (i + 1) (take n xs)) (get_or-take n xs i z h)

-- none is left
no-rest : {A : Type 0} (xs : List A) (n i : ℕ) → n ≤ length xs → n ≤ i → drop i (take n xs) ≡ []
no-rest xs n i l h = let k : length (take n xs) ≤ i = omega (arith, length-take-le n xs l) in drop_of_length-le (take n xs) k

-- ---- the positions of a slip's codes

abbrev at : Register → Entry → ℕ
at r d = position r d.code

-- what a list's place holds, when each is made of another's
pub map_at : {A B : Type 0} (f : A → B) (xs : List A) (i : ℕ) (a : A) (b : B) → i < length xs → get_or (map f xs) i b ≡ f (get_or xs i a)
map_at f [] i a b h = absurd (omega arith)
map_at f (x ∷ xs) zero a b h = refl
map_at f (x ∷ xs) (suc i) a b h = map_at f xs i a b (omega arith)

-- what is known of a slip under a register, and of where its dependencies stand there
pub record Placed (r : Register) (s : Slip) (qs : List ℕ) : Type 0 where
  pub register : RegisterLegal r
  pub slip : SlipLegal s
  pub deps : qs ≡ dep_places r s

-- so it is by the struct
pub placed : (p : PlacedSlip) → Placed p.register.now p.slip.now p.deps
placed p = record { register = register-legal p.register.now p.legal_register; slip = slip-legal p.slip.now p.legal_slip; deps = p.dep_places }

module _ {r : Register} {s : Slip} {qs : List ℕ} (k : Placed r s qs) where
  -- so many dependencies are in use
  in-use : length (deps_of s) ≡ s.count
  in-use = length-take-le s.count s.deps (omega (arith, k.slip.count, k.slip.places))

  -- the places in use are the positions of the dependencies in use
  used-places : take s.count qs ≡ map (at r) (deps_of s)
  unfolding dep_places
  used-places =
      ap (take s.count) k.deps
      ∙ take_at (map (at r) (deps_of s)) (replicate (16 - s.count) 0) s.count (length-map (deps_of s) (at r) ∙ in-use)

  -- each of them holds the position of its dependency
  pub place_of : (i : ℕ) (z : Entry) → i < s.count → get_or qs i 0 ≡ at r (get_or s.deps i z)
  unfolding dep_places
  place_of i z h =
      ap (λ xs. get_or xs i 0) k.deps
      ∙ get_or-append (map (at r) (deps_of s)) (replicate (16 - s.count) 0) 0 i (omega (arith, length-map (deps_of s) (at r), in-use))
      ∙ map_at (at r) (deps_of s) i z 0 (omega (arith, in-use))
      ∙ ap (at r) (get_or-take s.count s.deps i z h)

  -- which is at most sixteen
  pub place-most : (i : ℕ) → i < length (take s.count qs) → get_or (take s.count qs) i 0 ≤ 16
  place-most i h =
      let z : Entry = record { code = no_code; number = 0 } in
      let n : length (take s.count qs) ≡ length (deps_of s) = ap length used-places ∙ length-map (deps_of s) (at r) in
      omega (arith, ap (λ xs. get_or xs i 0) used-places, map_at (at r) (deps_of s) i z 0 (omega (arith, n)), place-within (shops_of r) (get_or (deps_of s) i z).code, length-take r.count r.shops, k.register.fits.places)

-- a legal slip has at most fifteen dependencies
pub few-deps : (s : Slip) → slip_layout.legal s ≡ true → s.count ≤ 15
few-deps s legal = (slip-legal s legal).count

-- all are looked up
pub places-are : (r : Register) (s : Slip) → slip_layout.legal s ≡ true → {deps : List ℕ} {i : ℕ} → Filled (at r) 0 16 (deps_of s) deps i → length (deps_of s) ≤ i → deps ≡ dep_places r s
unfolding dep_places
places-are r s l p h =
    let S = slip-legal s l in
    filled-done p h ∙ ap (λ k. map (at r) (deps_of s) ++ replicate (16 - k) 0) (length-take-le s.count s.deps (omega (arith, S.count, S.places)))

-- ---- the range check

-- a dependency's number is 0, or not
zero-decides : (d : Entry) → Decides (not (ltb 0 d.number)) (d.number ≡ 0)
zero-decides d = (λ e. omega (arith, ltb-false 0 d.number (not-true _ e)), λ e. ap not (le-ltb 0 d.number (omega arith)))

-- the slip's number is 0
pub zero_number : (s : Slip) → s.number ≡ 0 → true ≡ range? s
unfolding range?
zero_number s e = sym (ap (λ b. b || (eqb s.amount 0 || not (all_of (λ (d : Entry). ltb 0 d.number) (deps_of s)))) (eq-eqb _ 0 e))

-- the amount is 0
pub zero-amount : (s : Slip) → (s.number ≡ 0 → ⊥) → s.amount ≡ 0 → true ≡ range? s
unfolding range?
zero-amount s n e = sym (ap₂ (λ a b. a || (b || not (all_of (λ (d : Entry). ltb 0 d.number) (deps_of s)))) (ne_eqb _ 0 n) (eq-eqb _ 0 e))

-- neither is: the dependencies decide
pub zero_rest : (s : Slip) → (s.number ≡ 0 → ⊥) → (s.amount ≡ 0 → ⊥) → (t : Bool) → IsTrue t ↔ Any (λ (d : Entry). d.number ≡ 0) (deps_of s) → t ≡ range? s
unfolding range?
zero_rest s n m t e =
    any-decided (λ (d : Entry). ltb 0 d.number) (λ d. d.number ≡ 0) zero-decides no_entry (deps_of s) t e
    ∙ sym (ap₂ (λ a b. a || (b || not (all_of (λ (d : Entry). ltb 0 d.number) (deps_of s)))) (ne_eqb _ 0 n) (ne_eqb _ 0 m))

-- ---- the shop check

module _ (p : PlacedSlip) where
  abbrev shops : ℕ
  shops = p.register.now.count

  -- the three tests: of the payer's position, of the payee's, and of the others'
  listed-tests : {a b t : Bool} → ltb p.payer shops ≡ a → ltb p.payee shops ≡ b → t ≡ all_of (λ q. ltb q shops) (take p.slip.now.count p.deps)
      → a && (b && t) ≡ not (shop? p.register.now p.slip.now)
  unfolding shop?
  listed-tests {a} {b} {t} ea eb et =
      let r : Register = p.register.now in
      let s : Slip = p.slip.now in
      let k = placed p in
      let size : r.count ≡ length (shops_of r) = sym (length-take-le r.count r.shops (omega (arith, k.register.fits.most, k.register.fits.places))) in
      let payer : a ≡ listed r s.payer = sym ea ∙ ap₂ ltb p.payer_place size in
      let payee : b ≡ listed r s.payee = sym eb ∙ ap₂ ltb p.payee_place size in
      let deps : t ≡ all_of (λ (d : Entry). listed r d.code) (deps_of s) =
      et
      ∙ ap₂ (λ (l : List ℕ) n. all_of (λ q. ltb q n) l) (used-places k) size
      ∙ all_map (at r) (λ q. ltb q (length (shops_of r))) (deps_of s)
      in
      ap₂ (λ x y. x && y) payer (ap₂ (λ x y. x && y) payee deps) ∙ sym (not-not _)

  -- the payer is not listed
  pub payer-unlisted : shops ≤ p.payer → false ≡ not (shop? p.register.now p.slip.now)
  payer-unlisted h = listed-tests (le-ltb _ _ h) refl refl

  -- the payee is not
  pub payee-unlisted : p.payer < shops → shops ≤ p.payee → false ≡ not (shop? p.register.now p.slip.now)
  payee-unlisted g h = listed-tests (lt-ltb _ _ g) (le-ltb _ _ h) refl

  -- both are: the dependencies decide
  pub deps-listed : p.payer < shops → p.payee < shops → (t : Bool) → IsTrue t ↔ All (λ q. q < shops) (take p.slip.now.count p.deps) → t ≡ not (shop? p.register.now p.slip.now)
  deps-listed g h t e =
      listed-tests (lt-ltb _ _ g) (lt-ltb _ _ h) (all-decided (λ q. ltb q shops) (λ q. q < shops) (λ q. Decides-ltb q shops) (take p.slip.now.count p.deps) t e)

-- ---- the dependencies' order

-- positions that rise from `least` on, and none is the payer's
unfoldable pub risen : ℕ → ℕ → List ℕ → Bool
risen payer least [] = true
risen payer least (q ∷ qs) = leb least q && (not (eqb q payer) && risen payer (suc q) qs)

-- so do the positions of dependencies
risen-is : (r : Register) (payer least : ℕ) (ds : List Entry) → risen payer least (map (at r) ds) ≡ rising r payer least ds
unfolding risen rising
risen-is r payer least [] = refl
risen-is r payer least (d ∷ ds) = ap (λ b. leb least (at r d) && (not (eqb (at r d) payer) && b)) (risen-is r payer (suc (at r d)) ds)

-- the positions before i rise to below `least`: those from i on decide
pub record Risen (payer : ℕ) (qs : List ℕ) (least i : ℕ) : Type 0 where
  pub left : risen payer 0 qs ≡ risen payer least (drop i qs)

-- no position is asked yet
pub risen-none : (payer : ℕ) (qs : List ℕ) → Risen payer qs 0 0
risen-none payer qs = record { left = refl }

module _ {payer : ℕ} {qs : List ℕ} {least i : ℕ} (p : Risen payer qs least i) where
  module _ (h : i < length qs) where
    -- the position at i, and those after it
    risen-at : (a b : Bool) → leb least (get_or qs i 0) ≡ a → eqb (get_or qs i 0) payer ≡ b
        → risen payer 0 qs ≡ a && (not b && risen payer (suc (get_or qs i 0)) (drop (i + 1) qs))
    unfolding risen
    risen-at a b ea eb =
        p.left ∙ ap (risen payer least) (left-of qs i 0 h)
        ∙ ap₂ (λ x y. x && (not y && risen payer (suc (get_or qs i 0)) (drop (i + 1) qs))) ea eb

    -- it does not rise
    pub risen-low : get_or qs i 0 < least → risen payer 0 qs ≡ false
    risen-low l = risen-at false _ (lt-leb least (get_or qs i 0) l) refl

    -- it is the payer's
    pub risen-payer : least ≤ get_or qs i 0 → get_or qs i 0 ≡ payer → risen payer 0 qs ≡ false
    risen-payer l e = risen-at true true (le-leb least (get_or qs i 0) l) (eq-eqb (get_or qs i 0) payer e)

    -- neither: one more
    pub risen-more : least ≤ get_or qs i 0 → (get_or qs i 0 ≡ payer → ⊥) → Risen payer qs (get_or qs i 0 + 1) (i + 1)
    risen-more l e = record {
      left = risen-at true false (le-leb least (get_or qs i 0) l) (ne_eqb (get_or qs i 0) payer e) ∙ ap (λ m. risen payer m (drop (i + 1) qs)) (sym (add-one (get_or qs i 0)));
    }

  -- no position is left
  pub risen-done : length qs ≤ i → risen payer 0 qs ≡ true
  unfolding risen
  risen-done h = p.left ∙ ap (risen payer least) (drop_of_length-le qs h)

-- what the positions come to, the dependencies do
pub rises : (p : PlacedSlip) {t : Bool} → risen p.payer 0 (take p.slip.now.count p.deps) ≡ t → t ≡ rising p.register.now p.payer 0 (deps_of p.slip.now)
rises p h = sym h ∙ ap (risen p.payer 0) (used-places (placed p)) ∙ risen-is p.register.now p.payer 0 (deps_of p.slip.now)

-- ---- the checks of a slip, in their order, from the tests that the code makes

-- z: a zero
module _ (r : Register) (s : Slip) (z : Bool) (ez : z ≡ range? s) where
  pub answer-range : z ≡ true → 4 ≡ answer_of (check_rows r s)
  answer-range y = sym (applies Meaning.range _ _ (sym ez ∙ y))

  -- l: all listed
  module _ (nz : z ≡ false) (l : Bool) (el : l ≡ not (shop? r s)) where
    pub answer-shop : not l ≡ true → 2 ≡ answer_of (check_rows r s)
    answer-shop y = sym (passes-by Meaning.range _ _ (sym ez ∙ nz) ∙ applies Meaning.shop _ _ (not-false _ (sym el ∙ not-true l y)))

    -- m: the payee is the payer
    module _ (nl : not l ≡ false) (m : Bool) (em : m ≡ self? s) where
      -- the rows before the last two do not apply
      later_rows : (n : ℕ) → n ≡ answer_of ((Meaning.oneself, self? s) ∷ (Meaning.deps, deps? r s) ∷ []) → n ≡ answer_of (check_rows r s)
      later_rows n h = h ∙ sym (passes-by Meaning.range _ _ (sym ez ∙ nz) ∙ passes-by Meaning.shop _ _ (not-true _ (sym el ∙ not-false l nl)))

      pub answer-self : m ≡ true → 3 ≡ answer_of (check_rows r s)
      answer-self y = later_rows 3 (sym (applies Meaning.oneself _ _ (sym em ∙ y)))

      -- d: the dependencies rise
      module _ (nm : m ≡ false) (d : Bool) (payer : ℕ) (e : payer ≡ position r s.payer) (ed : d ≡ rising r payer 0 (deps_of s)) where
        -- from the payer's position
        rises-from : d ≡ rising r (position r s.payer) 0 (deps_of s)
        rises-from = ed ∙ ap (λ q. rising r q 0 (deps_of s)) e

        pub answer-fine : d ≡ true → 0 ≡ answer_of (check_rows r s)
        unfolding deps?
        answer-fine y = later_rows 0 (sym (passes-by Meaning.oneself _ _ (sym em ∙ nm) ∙ passes-by Meaning.deps _ _ (ap not (sym rises-from ∙ y)) ∙ no_rows))

        pub answer-deps : d ≡ false → 5 ≡ answer_of (check_rows r s)
        unfolding deps?
        answer-deps y = later_rows 5 (sym (passes-by Meaning.oneself _ _ (sym em ∙ nm) ∙ applies Meaning.deps _ _ (ap not (sym rises-from ∙ y))))

-- ---- the numbers of a waiting slip

abbrev needs : List Entry → List Entry → List ℕ
needs ds us = map (λ (l : Entry). number_for ds l.code) us

-- one dependency more: its number goes to its shop's place
set-number : (us : List Entry) (d : Entry) (ds : List Entry) → twins us ≡ false → place us d.code < length us
    → set (needs ds us) (place us d.code) d.number ≡ needs (d ∷ ds) us
set-number [] d ds t h = absurd (omega arith)
set-number (u ∷ us) d ds t h = go (same_code u.code d.code) refl (set-number us d ds k.1)
  where
    k : (among us u.code ≡ false) × (twins us ≡ false)
    k = single_more u us t

    go : (v : Bool) → same_code u.code d.code ≡ v
        → (place us d.code < length us → set (needs ds us) (place us d.code) d.number ≡ needs (d ∷ ds) us)
        → set (needs ds (u ∷ us)) (place (u ∷ us) d.code) d.number ≡ needs (d ∷ ds) (u ∷ us)
    go true e ih =
        let w : u.code ≡ d.code = same_code_lem u.code d.code e in
        let l : length us ≤ place us d.code = subst (λ (x : Code). length us ≤ place us x) w (ltb-false (place us u.code) (length us) k.0) in
        let f : number_for (d ∷ ds) u.code ≡ d.number = unfold number_for in rw (e, number_for) in
        ap (λ i. set (needs ds (u ∷ us)) i d.number) (place-head u us d.code e)
        ∙ ap₂ (λ x xs. x ∷ xs) (sym f) (sym (past_all us d ds l))
    go false e ih =
        let q = place-later u us d.code e in
        let f : number_for (d ∷ ds) u.code ≡ number_for ds u.code = unfold number_for in rw (e, number_for) in
        ap (λ i. set (needs ds (u ∷ us)) i d.number) q
        ∙ ap₂ (λ x xs. x ∷ xs) (sym f) (ih (omega (arith, q, h)))

-- in the places that the register does not use stand zeros
module _ (r : Register) (R : RegisterLegal r) where
  all-needs : (ds : List Entry) → all_of dep_line.legal ds ≡ true → needs ds r.shops ≡ needs ds (shops_of r) ++ replicate (16 - r.count) 0
  all-needs ds legal =
      let f : Entry → ℕ = λ l. number_for ds l.code in
      ap (map f) (sym (take-append-drop r.count r.shops) ∙ ap (λ x. shops_of r ++ x) R.fits.rest)
      ∙ map-append f (shops_of r) (replicate (16 - r.count) no_entry)
      ∙ ap (λ x. needs ds (shops_of r) ++ x) (map-replicate f (16 - r.count) no_entry ∙ ap (replicate (16 - r.count)) (for-zero ds legal))

  -- one dependency more
  needs-more : (d : Entry) (ds : List Entry) → all_of dep_line.legal (d ∷ ds) ≡ true → listed r d.code ≡ true
      → set (needs ds r.shops) (at r d) d.number ≡ needs (d ∷ ds) r.shops
  needs-more d ds legal known =
      let k = all_both dep_line.legal d ds legal in
      let l = ltb-true (at r d) (length (shops_of r)) known in
      let rest : List ℕ = replicate (16 - r.count) 0 in
      ap (λ ns. set ns (at r d) d.number) (all-needs ds k.1)
      ∙ set-append_left (needs ds (shops_of r)) rest (at r d) d.number (omega (arith, l, length-map (shops_of r) (λ (l : Entry). number_for ds l.code)))
      ∙ ap (λ ns. ns ++ rest) (set-number (shops_of r) d ds R.single l)
      ∙ sym (all-needs (d ∷ ds) legal)

  -- no dependency
  needs-none : needs [] r.shops ≡ replicate 16 0
  needs-none = unfold number_for in go r.shops ∙ ap (λ n. replicate n 0) R.fits.places
    where
      go : (us : List Entry) → map {B = ℕ} (λ (l : Entry). 0) us ≡ replicate (length us) 0
      go [] = refl
      go (u ∷ us) = ap (λ ns. 0 ∷ ns) (go us)

-- a slip that passes the shop check: its dependencies are listed
known_at : (r : Register) (s : Slip) → shop? r s ≡ false → (j : ℕ) (z : Entry) → s.count ≤ length s.deps → j < s.count → listed r (get_or s.deps j z).code ≡ true
unfolding shop?
known_at r s e j z l h =
    let a = both (listed r s.payer) _ (not-false _ e) in
    let b = both (listed r s.payee) _ a.1 in
    all-used-at (λ (d : Entry). listed r d.code) s.deps z s.count j b.1 l h

-- the numbers of the dependencies from i on stand in their shops' places
pub record Asked (r : Register) (s : Slip) (ns : List ℕ) (i : ℕ) : Type 0 where
  pub within : i ≤ s.count
  pub holds : ns ≡ needs (drop i (deps_of s)) r.shops

module _ (p : PlacedSlip) where
  abbrev s : Slip
  s = p.slip.now

  abbrev r : Register
  r = p.register.now

  -- all are left
  pub asked-none : Asked r s (replicate 16 0) s.count
  asked-none =
      let k = placed p in
      record {
        within = omega arith;
        holds = sym (ap (λ ds. needs ds r.shops) (no-rest s.deps s.count s.count (omega (arith, k.slip.count, k.slip.places)) (omega arith)) ∙ needs-none r k.register);
      }

  module _ (known : shop? r s ≡ false) where
    -- each dependency has a place among the sixteen
    pub placed_below : (j : ℕ) → j < s.count → get_or p.deps j 0 < 16
    placed_below j h =
        let k = placed p in
        let spot = place_of k j no_entry h in
        omega (arith, spot, below r (get_or s.deps j no_entry).code k.register (known_at r s known j no_entry (omega (arith, k.slip.count, k.slip.places)) h), k.register.fits.most)

    module _ {ns : List ℕ} {i : ℕ} (a : Asked r s ns i) where
      -- the one before, j, goes to its place
      pub asked-more : (j : ℕ) (z : Entry) → j + 1 ≡ i → Asked r s (set ns (get_or p.deps j 0) (get_or s.deps j z).number) j
      asked-more j z e = record {
        within = omega (arith, a.within);
        holds =
            let k = placed p in
            let d : Entry = get_or s.deps j z in
            let h : j < s.count = omega (arith, a.within) in
            let l : s.count ≤ length s.deps = omega (arith, k.slip.count, k.slip.places) in
            let rest : List Entry = drop (j + 1) (deps_of s) in
            let q : drop j (deps_of s) ≡ d ∷ rest = rest_of s.deps s.count j z l h in
            let legal : all_of dep_line.legal (d ∷ rest) ≡ true = ap (all_of dep_line.legal) (sym q) ∙ all_drop dep_line.legal j (deps_of s) k.slip.used in
            ap₂ (λ x y. set x y d.number) (a.holds ∙ ap (λ n. needs (drop n (deps_of s)) r.shops) (sym e)) (place_of k j z h)
            ∙ needs-more r k.register d rest legal (known_at r s known j z l h)
            ∙ ap (λ ds. needs ds r.shops) (sym q);
      }

    -- none is left: the waiting slip
    pub asked-done : {ns : List ℕ} {i : ℕ} → Asked r s ns i → i ≤ 0
        → record { payer = p.payer; number = s.number; payee = p.payee; amount = s.amount; needs = ns } ≡ waiting_of r s
    unfolding waiting_of
    asked-done {i = i} a h =
        let e : i ≡ 0 = omega arith in
        λ j. record {
          payer = p.payer_place j;
          number = s.number;
          payee = p.payee_place j;
          amount = s.amount;
          needs = (a.holds ∙ ap (λ n. needs (drop n (deps_of s)) r.shops) e) j;
        }

-- ---- opening

-- the register was read
pub open-fine : (text : List ℕ) (r : Register) → register_said (Ok r) ≡ register_read text → (x : Replica) → x ≡ fresh r → did 0 x ≡ opened text
unfolding opened
open-fine text r e x f =
    let n : (register_read text).answer ≡ 0 = ap (λ (q : RegisterRead). q.answer) (sym e) in
    rw (n, opened) (ap (did 0) (f ∙ ap (λ (q : RegisterRead). fresh q.register) e))

-- it was refused
pub open-refused : (text : List ℕ) (o : Result Replica Refusal) (refusal : Refusal) → IsErrAnd o (λ x. x ≡ refusal) → register_said (Err refusal) ≡ register_read text → open_said o ≡ opened text
unfolding opened
open-refused text o refusal is e = ap open_said (handed-on o is) ∙ go (refusal_number refusal) refl
  where
    go : (n : ℕ) → refusal_number refusal ≡ n → refused (refusal_number refusal) no_replica ≡ opened text
    go zero i = absurd (not-done refusal i)
    go (suc n) i =
        let m : (register_read text).answer ≡ suc n = ap (λ (q : RegisterRead). q.answer) (sym e) ∙ i in
        rw (m, opened) (ap (λ k. refused k no_replica) i)
