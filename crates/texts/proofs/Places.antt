-- Positions of codes, and equal codes, among shops; the answer to a register.
use mathlib.Core.Path.{◌≡◌, refl, sym, ap, ◌∙◌}
use mathlib.Core.Bool.{Bool, true, false, not, ◌||◌}
use mathlib.Core.List.{List, [], ◌∷◌}
use Prim.Native.Nat.{ℕ, ◌+◌, ◌-◌, ◌≤◌, ◌<◌}
use native.Mathlib.Omega.{arith}
use native.Mathlib.Decide.{dec_lt}
use lib.ListN.{length, take, drop, get_or, length-drop, drop_of_length-le}
use lib.Seq.{take_all}
use lib.Dec.{ltb}
use borrow.Author.Tests.{lt-ltb, le-ltb}
use Rattle.std.specs.List.{AllWithin, HoldsAt}
use Rattle.std.specs.Option.{MatchOption, unwrap_or}
use Rattle.std.specs.Prelude.{Option}
use Rattle.std.proofs.lemmas.Iterator.{index_from_first}
use Rattle.std.proofs.lemmas.List.Recursion.{or_is}
use Rattle.texts.specs.Code.{same_code}
use Rattle.texts.specs.Register.{place, among, twins, shops_of, listed, shops_rows, register_layout, register_answer}
use Rattle.texts.specs.Answers.{Meaning, answer_of}
use Rattle.texts.specs.declared.code.Code.{Code}
use Rattle.texts.specs.declared.entry.Entry.{Entry}
use Rattle.texts.specs.declared.register.Register.{Register}
use Rattle.texts.proofs.Legal.{place-head, place-later}
use Rattle.texts.proofs.Values.{left-of, eq_code, eq_same}
use Rattle.texts.proofs.Firsts.{no_rows, applies, passes-by}

-- two numbers stand as two others do, if the one is below the other in both pairs or in neither
same-order : (a b c d : ℕ) → (a < b → c < d) → (c < d → a < b) → ltb a b ≡ ltb c d
same-order a b c d f g = elim (dec_lt a b) [
  | yes h ↦ lt-ltb a b h ∙ sym (lt-ltb c d (f h))
  | no h ↦ le-ltb a b (omega arith) ∙ sym (le-ltb c d (not-below h))
]
  where
    not-below : (a < b → ⊥) → d ≤ c
    not-below h = elim (dec_lt c d) [ yes k ↦ absurd (h (g k)) | no k ↦ omega arith ]

-- ---- looking for a code, as the derived test of two codes finds it

module _ (c : Code) where
  abbrev pub has-code : Entry → Bool
  has-code s = eq_code s.code c

  -- a first shop and others
  among_step : (s : Entry) (shops : List Entry) → among (s ∷ shops) c ≡ has-code s || among shops c
  among_step s shops = go (same_code s.code c) refl
    where
      go : (t : Bool) → same_code s.code c ≡ t → among (s ∷ shops) c ≡ has-code s || among shops c
      go true e = rw (eq_same s.code c, e) (lt-ltb _ _ (omega (arith, place-head s shops c e)))
      go false e =
          let l = place-later s shops c e in
          rw (eq_same s.code c, e) (same-order (place (s ∷ shops) c) (length (s ∷ shops)) (place shops c) (length shops) (λ k. omega arith) (λ k. omega arith))

  -- where there are no shops
  no_place : place [] c ≡ 0
  unfolding place
  no_place = refl

  -- the place is the position of the first shop that has the code, or past the last where none has it
  pub place_is : (shops : List Entry) (r : Option ℕ)
      → MatchOption r (AllWithin (λ s. has-code s ≡ false) shops 0 (length shops)) (λ i. (i < length shops) × HoldsAt (λ s. has-code s ≡ true) shops i × AllWithin (λ s. has-code s ≡ false) shops 0 i)
      → place shops c ≡ unwrap_or r (length shops)
  place_is = index_from_first (λ xs. place xs c) (λ s. has-code s ≡ true) (λ s. has-code s ≡ false) no_place
      (λ s xs h. place-head s xs c (sym (eq_same s.code c) ∙ h)) (λ s xs h. let l = place-later s xs c (sym (eq_same s.code c) ∙ h) in omega arith)

  -- what `any` answered is whether the code is there
  pub among_is : (shops : List Entry) (z : Entry) (t : Bool) → (t ≡ true → (i : ℕ) × (i < length shops) × (has-code (get_or shops i z) ≡ true))
      → (t ≡ false → (i : ℕ) → i < length shops → has-code (get_or shops i z) ≡ false) → t ≡ among shops c
  among_is = or_is (λ xs. among xs c) has-code (le-ltb _ _ (omega arith)) among_step

-- ---- looking for equal codes

-- no shop before i has its code again after it: the shops from i on decide
pub record Single (shops : List Entry) (i : ℕ) : Type 0 where
  pub left : twins shops ≡ twins (drop i shops)

-- no shop is asked yet
pub single-none : (shops : List Entry) → Single shops 0
single-none shops = record { left = refl }

-- where there are no shops
no-twins : twins [] ≡ false
unfolding twins
no-twins = refl

module _ {shops : List Entry} {i : ℕ} (s : Single shops i) where
  -- its code is sought among all that stand after it
  module _ (z : Entry) (h : i < length shops) (t : Bool) (e : t ≡ among (take (length shops - (i + 1)) (drop (i + 1) shops)) (get_or shops i z).code) where
    -- the shop at i, and those after it
    after : twins shops ≡ t || twins (drop (i + 1) shops)
    unfolding twins
    after =
        let later = drop (i + 1) shops in
        let all : take (length shops - (i + 1)) later ≡ later = take_all (length shops - (i + 1)) later (omega (arith, length-drop (i + 1) shops)) in
        s.left ∙ ap twins (left-of shops i z h) ∙ ap (λ b. b || twins later) (sym (e ∙ ap (λ l. among l (get_or shops i z).code) all))

    -- it stands there no more: one more shop
    pub single_more : t ≡ false → Single shops (i + 1)
    single_more y = record { left = after ∙ ap (λ b. b || twins (drop (i + 1) shops)) y }

    -- it stands there
    pub single-twin : t ≡ true → true ≡ twins shops
    single-twin y = sym (after ∙ ap (λ b. b || twins (drop (i + 1) shops)) y)

  -- no shop is left
  pub single-done : length shops ≤ i → false ≡ twins shops
  single-done h = sym (s.left ∙ ap twins (drop_of_length-le shops h) ∙ no-twins)

-- ---- the answer to a register

-- the rows after the first, from the tests that the code makes: t, equal codes among its shops, and l, its own code listed
module _ (r : Register) (t : Bool) (twins-is : t ≡ twins (shops_of r)) where
  -- equal codes: 12
  pub shops-twin : t ≡ true → 12 ≡ answer_of (shops_rows r)
  shops-twin y = sym (applies Meaning.twin _ _ (sym twins-is ∙ y))

  module _ (no : t ≡ false) (l : Bool) (d : l ≡ listed r r.own) where
    -- none, and the own code is listed: 0
    pub shops-fine : l ≡ true → 0 ≡ answer_of (shops_rows r)
    shops-fine y = sym (passes-by Meaning.twin _ _ (sym twins-is ∙ no) ∙ passes-by Meaning.shop _ _ (ap not (sym d ∙ y)) ∙ no_rows)

    -- none, and it is not listed: 2
    pub own-not-listed : l ≡ false → 2 ≡ answer_of (shops_rows r)
    own-not-listed y = sym (passes-by Meaning.twin _ _ (sym twins-is ∙ no) ∙ applies Meaning.shop _ _ (ap not (sym d ∙ y)))

-- the answer, from the test that it has a text
module _ (r : Register) (f : Bool) (e : f ≡ register_layout.legal r) where
  -- it has one: the other rows decide
  pub answer-shops : f ≡ true → (n : ℕ) → n ≡ answer_of (shops_rows r) → n ≡ register_answer r
  unfolding register_answer
  answer-shops y n h = h ∙ sym (passes-by Meaning.form _ _ (ap not (sym e ∙ y)))

  -- it has none: 1
  pub answer-form : f ≡ false → 1 ≡ register_answer r
  unfolding register_answer
  answer-form y = sym (applies Meaning.form _ _ (ap not (sym e ∙ y)))
