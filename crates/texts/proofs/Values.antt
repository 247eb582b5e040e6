-- What the tests of values come to: the places of an array one after the other, codes, entries, registers and slips.
use mathlib.Core.Path.{◌≡◌, refl, sym, ap, ◌∙◌, subst}
use mathlib.Core.Bool.{Bool, true, false, not, ◌&&◌, ◌||◌, and_comm, and-true, false≢true}
use mathlib.Core.List.{List, [], ◌∷◌, ◌++◌, map}
use Prim.Native.Nat.{ℕ, zero, suc, ◌+◌, ◌-◌, ◌≤◌, ◌<◌}
use native.Mathlib.Omega.{arith}
use native.Mathlib.Numerals.{add-one}
use lib.ListN.{length, take, drop, get_or, replicate, length-map}
use lib.Seq.{drop-cons, take_at, take-length, length-take-le}
use lib.Dec.{leb, eqb, eqb-suc-zero, eqb-zero-suc}
use borrow.Author.Tests.{leb-true, eq-eqb, ne_eqb}
use lib.Pointwise.{pointwise}
use Rattle.std.specs.Bool.{IsTrue, Decides}
use Rattle.std.specs.Prelude.{◌↔◌}
use Rattle.std.specs.List.{All, Any}
use Rattle.std.proofs.lemmas.List.{get_or_default}
use Rattle.std.proofs.lemmas.List.Recursion.{and_is}
use Rattle.std.proofs.lemmas.Bool.Decides.{same_from_decides, Decides-like, Decides-by_and, Decides-by_or}
use Rattle.texts.specs.Bounds.{most, most_deps, most_shops, code_places}
use Rattle.texts.specs.Bytes.{same_bytes, all_of}
use Rattle.texts.specs.Leaf.{digit, run}
use Rattle.texts.specs.Code.{no_code, is_code, same_code, spelled, code_of}
use Rattle.texts.specs.Entries.{no_entry, is_entry, zero_entry}
use Rattle.texts.specs.Register.{shops_line, shop_lines, register_layout}
use Rattle.texts.specs.Slip.{slip_layout}
use Rattle.texts.specs.Inside.{Held}
use Rattle.texts.specs.declared.code.Code.{Code}
use Rattle.texts.specs.declared.entry.Entry.{Entry}
use Rattle.texts.specs.declared.register.Register.{Register}
use Rattle.texts.specs.declared.slip.Slip.{Slip}
use Rattle.texts.proofs.Steps.{both, below, within}
use Rattle.texts.proofs.LawsLeaf.{run_only}
use Rattle.texts.proofs.Legal.{SlipLegal, slip-legal, RegisterFits, register-fits}

-- ---- tests

-- a test that cannot pass fails
pub fails : (t : Bool) → (t ≡ true → ⊥) → false ≡ t
fails true h = absurd (h refl)
fails false h = refl

-- a test before another that passes
pub skip : (a b t : Bool) → a ≡ true → t ≡ b → t ≡ a && b
skip a b t h e = e ∙ sym (ap (λ x. x && b) h)

-- a test that fails, and another after it
pub stop : (a b t : Bool) → t ≡ a → t ≡ false → t ≡ a && b
stop a b t e h = h ∙ sym (ap (λ x. x && b) (sym e ∙ h))

-- a test that fails and passes
pub clash : (t u : Bool) → t ≡ u → t ≡ false → u ≡ true → ⊥
clash t u e n y = false≢true (sym n ∙ e ∙ y)

-- a number is zero, either way round
pub zero_test : (n : ℕ) → eqb n 0 ≡ eqb 0 n
zero_test zero = refl
zero_test (suc n) = eqb-suc-zero n ∙ sym (eqb-zero-suc n)

-- the length of an array of structs, as the checker knows it: of what it makes of each
pub length-mapped : {A B : Type 0} (f : A → B) (xs : List A) (n : ℕ) → length (map f xs) ≡ n → length xs ≡ n
length-mapped f xs n e = sym (length-map xs f) ∙ e

-- what `all` answered of a slice is whether the test passes at every one of it
pub all_is : {A : Type 0} (test : A → Bool) (xs : List A) (z : A) (t : Bool) → (t ≡ true → (i : ℕ) → i < length xs → test (get_or xs i z) ≡ true)
    → (t ≡ false → (i : ℕ) × (i < length xs) × (test (get_or xs i z) ≡ false)) → t ≡ all_of test xs
unfolding all_of
all_is test = and_is (all_of test) test refl (λ _ _. refl)

-- the same of a test for zero, which the program writes the other way round
pub zeros_are : {t : Bool} (xs : List ℕ) → (t ≡ true → (i : ℕ) → i < length xs → eqb (get_or xs i 0) 0 ≡ true)
    → (t ≡ false → (i : ℕ) × (i < length xs) × (eqb (get_or xs i 0) 0 ≡ false)) → t ≡ all_of (eqb 0) xs
zeros_are {t} xs y n = all_is (eqb 0) xs 0 t (λ h i l. sym (zero_test (get_or xs i 0)) ∙ y h i l) (λ h. let w = n h in (w.0, w.1, sym (zero_test (get_or xs w.0 0)) ∙ w.2))

-- what `all` and `any` answered, as a test of each
module _ {A : Type 0} (test : A → Bool) (P : A → Type 0) where
  pub all-decided : ((x : A) → Decides (test x) (P x)) → (xs : List A) (r : Bool) → IsTrue r ↔ All P xs → r ≡ all_of test xs
  unfolding all_of
  all-decided each xs r h = same_from_decides r (all_of test xs) h (Decides-by_and test P (all_of test) each refl (λ _ _. refl) xs)

  pub any-decided : ((x : A) → Decides (not (test x)) (P x)) → A → (xs : List A) (r : Bool) → IsTrue r ↔ Any P xs → r ≡ not (all_of test xs)
  unfolding all_of
  any-decided each z xs r h =
      same_from_decides r (not (all_of test xs)) h
      (Decides-like (not (all_of test xs))
      (λ e. (e.0, get_or xs e.0 z, e.1, get_or_default xs e.0 (get_or xs e.0 z) z e.1, e.2 z))
      (λ a. (a.0, a.2, λ d. subst P (sym (get_or_default xs a.0 d a.1 a.2 ∙ a.3)) a.4))
      (Decides-by_or (λ x. not (test x)) P (λ l. not (all_of test l)) each refl (λ x l. not-both (test x) (all_of test l)) xs))
    where
      -- both do not pass where one does not
      not-both : (a b : Bool) → not (a && b) ≡ (not a || not b)
      not-both true b = refl
      not-both false b = refl

-- ---- one more place

-- what is left of a list from a place on: what stands there, and what is left after it
pub left-of : {A : Type 0} (xs : List A) (i : ℕ) (z : A) → i < length xs → drop i xs ≡ get_or xs i z ∷ drop (i + 1) xs
left-of xs i z h = rw (add-one, drop-cons xs i z)

-- ---- codes

-- the derived test of two codes: the digits and then the length
same_bytes_is : (xs ys : List ℕ) → pointwise eqb xs ys ≡ same_bytes xs ys
unfolding same_bytes
same_bytes_is [] [] = refl
same_bytes_is [] (y ∷ ys) = refl
same_bytes_is (x ∷ xs) [] = refl
same_bytes_is (x ∷ xs) (y ∷ ys) = ap (λ t. eqb x y && t) (same_bytes_is xs ys)

abbrev pub eq_code : Code → Code → Bool
eq_code a b = pointwise eqb a.digits b.digits && eqb a.len b.len

pub eq_same : (a b : Code) → eq_code a b ≡ same_code a b
unfolding same_code
eq_same a b = and_comm (pointwise eqb a.digits b.digits) (eqb a.len b.len) ∙ ap (λ t. eqb a.len b.len && t) (same_bytes_is a.digits b.digits)

-- of one length, the digits decide
pub same-digits : (a b : Code) → a.len ≡ b.len → pointwise eqb a.digits b.digits ≡ same_code a b
unfolding same_code
same-digits a b e = skip _ _ _ (eq-eqb _ _ e) (same_bytes_is a.digits b.digits)

-- of two lengths, they are not the same
pub other-length : (a b : Code) → (a.len ≡ b.len → ⊥) → eqb a.len b.len ≡ same_code a b
unfolding same_code
other-length a b n = ne_eqb _ _ n ∙ sym (ap (λ t. t && same_bytes a.digits b.digits) (ne_eqb _ _ n))

-- a code's places are eight, and it counts one to eight digits: its places decide
pub code-rest : (c : Code) → length c.digits ≡ code_places → 1 ≤ c.len → c.len ≤ code_places
    → (t : Bool) → t ≡ all_of digit (take c.len c.digits) && all_of (eqb 0) (drop c.len c.digits) → t ≡ is_code c
code-rest c places some few t e = skip _ _ t (eq-eqb _ _ places) (e ∙ sym (within 1 c.len code_places _ some few))

-- ---- a code from bytes

-- the test that bytes are a code, and what is made of its outcome
abbrev spells : List ℕ → Bool
spells s = (leb 1 (length s) && leb (length s) code_places) && all_of digit s

abbrev made : List ℕ → Bool → Code
made s t = elim t [ true ↦ record { digits = s ++ replicate (code_places - length s) 0; len = length s } | false ↦ no_code ]

-- the code, from the test
code-of : (s : List ℕ) (t : Bool) → spells s ≡ t → code_of s ≡ made s t
unfolding code_of
code-of s t e = ap (made s) e

-- a code made from bytes is those bytes
pub code-keeps : (s : List ℕ) → is_code (code_of s) ≡ true → spelled (code_of s) ≡ s
code-keeps s h = go (spells s) refl
  where
    go : (t : Bool) → spells s ≡ t → spelled (code_of s) ≡ s
    go true e = ap spelled (code-of s true e) ∙ take_at s (replicate (code_places - length s) 0) (length s) refl
    go false e = absurd (false≢true (ap is_code (sym (code-of s false e)) ∙ h))

-- bytes that are all digits, no more than wanted, are their own run
run-all : (n : ℕ) (s : List ℕ) → length s ≤ n → all_of digit s ≡ true → run n s ≡ (s, [])
unfolding run all_of
run-all zero [] h e = refl
run-all zero (b ∷ s) h e = absurd (omega arith)
run-all (suc n) [] h e = refl
run-all (suc n) (b ∷ s) h e =
    let k = both (digit b) (all_of digit s) e in
    let i = run-all n s (omega arith) k.1 in
    rw (k.0, run, i)

module _ (s : List ℕ) (c : Code) (q : Held s c) where
  -- c holds all the bytes: it is their code
  pub held_all : c.len ≡ length s → c ≡ code_of s
  held_all e = whole ∙ go (length s) refl
    where
      kept : Code
      kept = record { digits = s ++ replicate (code_places - length s) 0; len = length s }

      taken : take c.len s ≡ s
      taken = ap (λ n. take n s) e ∙ take-length s

      whole : c ≡ kept
      whole = (λ i. record { digits = (q.digits ∙ ap (λ l. l ++ replicate (code_places - c.len) 0) taken) i; len = c.len }) ∙ ap (λ n. record { digits = s ++ replicate (code_places - n) 0; len = n }) e

      all : all_of digit s ≡ true
      all = ap (all_of digit) (sym (ap (λ (p : List ℕ × List ℕ). p.0) q.front ∙ taken)) ∙ (run_only code_places s).all

      empty : (t : List ℕ) → length t ≡ 0 → record { digits = t ++ replicate (code_places - length t) 0; len = length t } ≡ no_code
      empty [] n = refl
      empty (b ∷ t) n = absurd (omega arith)

      go : (n : ℕ) → length s ≡ n → kept ≡ code_of s
      go zero n = empty s n ∙ sym (code-of s false (below 1 (length s) code_places (all_of digit s) (omega arith)))
      go (suc m) n = sym (code-of s true (within 1 (length s) code_places (all_of digit s) (omega arith) (omega (arith, q.fits)) ∙ all))

  -- it does not: they are no code
  pub held-part : (c.len ≡ length s → ⊥) → (none : Code) → none ≡ no_code → none ≡ code_of s
  held-part h none e = e ∙ sym (code-of s false (sym (fails (spells s) no)))
    where
      no : spells s ≡ true → ⊥
      no t =
          let k = both (leb 1 (length s) && leb (length s) code_places) (all_of digit s) t in
          let l = leb-true (length s) code_places (both (leb 1 (length s)) _ k.0).1 in
          let r : take c.len s ≡ s = ap (λ (p : List ℕ × List ℕ). p.0) (sym q.front ∙ run-all code_places s l k.1) in
          h (sym (length-take-le c.len s q.in-t) ∙ ap length r)

-- ---- entries

-- the derived test of an entry and the one of zeros
pub eq_zero_entry : (e z : Entry) → z ≡ no_entry → eq_code e.code z.code && eqb e.number z.number ≡ zero_entry e
eq_zero_entry e z h = ap (λ (u : Entry). eq_code e.code u.code && eqb e.number u.number) h ∙ ap (λ t. t && eqb e.number 0) (eq_same e.code no_code)

-- ---- registers and slips

-- a slip that some part keeps from being legal
pub slip-not : (s : Slip) → (SlipLegal s → ⊥) → false ≡ slip_layout.legal s
slip-not s h = fails (slip_layout.legal s) (λ e. h (slip-legal s e))

-- the dependencies decide, where the rest of the slip is legal
pub slip-rest : (s : Slip) → length s.deps ≡ most_shops → is_code s.payer ≡ true → is_code s.payee ≡ true → s.number ≤ most → s.amount ≤ most → s.count ≤ most_deps
    → (t : Bool) → t ≡ all_of is_entry (take s.count s.deps) && all_of zero_entry (drop s.count s.deps) → t ≡ slip_layout.legal s
unfolding slip_layout
slip-rest s places payer payee number amount count t e =
    skip _ _ t payer
    (skip _ _ t (within 0 s.number most true (omega arith) number)
    (skip _ _ t payee
    (skip _ _ t (within 0 s.amount most true (omega arith) amount)
    (skip _ _ t (within 0 s.count most_deps true (omega arith) count)
    (skip _ _ t (eq-eqb (length s.deps) most_shops places) e)))))

-- a register that some part keeps from having a text
pub register-not : (r : Register) → (RegisterFits r → ⊥) → false ≡ register_layout.legal r
register-not r h = fails (register_layout.legal r) (λ e. h (register-fits r e))

-- the shops decide, where the rest of the register is legal
pub register-rest : (r : Register) → length r.shops ≡ most_shops → 1 ≤ r.count → r.count ≤ most_shops → is_code r.own ≡ true
    → (t : Bool) → t ≡ all_of is_entry (take r.count r.shops) && all_of zero_entry (drop r.count r.shops) → t ≡ register_layout.legal r
unfolding register_layout
register-rest r places some few own t e =
    let shops = shops_line.legal r.count && (shop_lines r.count).legal r.shops in
    let f : t ≡ shops = skip _ _ t (within 1 r.count most_shops true some few) (skip _ _ t (eq-eqb (length r.shops) most_shops places) e) in
    f ∙ sym (ap (λ b. shops && b) own ∙ and-true shops)
