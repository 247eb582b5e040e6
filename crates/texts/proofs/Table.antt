-- The table of answers: what stands at each of its places, and that a meaning finds its word there.
use mathlib.Core.Path.{◌≡◌, refl, sym, ap, ◌∙◌}
use mathlib.Core.Bool.{Bool, true}
use mathlib.Core.List.{List, [], ◌∷◌}
use Prim.Native.Nat.{ℕ, zero, suc, ◌+◌, ◌-◌, ◌≤◌, ◌<◌}
use native.Mathlib.Omega.{arith}
use lib.Dec.{leb}
use lib.ListN.{length, take, get_or, replicate, length-append, get_or-eq_default}
use lib.Seq.{take_at}
use borrow.Author.Tests.{leb-true}
use Rattle.texts.specs.Bytes.{same_bytes, all_of}
use Rattle.texts.specs.Answers.{Meaning, ok, form, shop, oneself, range, deps, number, full, busy, short, usedup, room, twin, state, number_of, word_of, meanings, whys, why, OneTable, name_of}
use Rattle.texts.specs.declared.answers.Name.{Name}
use Rattle.texts.proofs.Steps.{both, same_bytes_lem}

-- the function's values from i on, n of them
abbrev pub tabled : {A : Type 0} → (ℕ → A) → ℕ → ℕ → List A
tabled f i zero = []
tabled f i (suc n) = f i ∷ tabled f (suc i) n

-- the same, counted from i
from : {A : Type 0} (f : ℕ → A) (i n k : ℕ) (z : A) → k < n → get_or (tabled f i n) k z ≡ f (i + k)
from f i zero k z h = absurd (omega arith)
from f i (suc n) zero z h = ap f (omega arith)
from f i (suc n) (suc k) z h = let e : suc i + k ≡ i + suc k = omega arith in from f (suc i) n k z (omega arith) ∙ ap f e

-- at each place stands the function's value there
pub at : {A : Type 0} (f : ℕ → A) (n k : ℕ) (z : A) → k < n → get_or (tabled f 0 n) k z ≡ f k
at f n k z h = let e : 0 + k ≡ k = omega arith in from f 0 n k z h ∙ ap f e

-- past the table the name is empty
pub past : (answer : ℕ) → 14 ≤ answer → record { bytes = replicate 8 0; len = 0 } ≡ name_of answer
past answer h = rw (get_or-eq_default whys [] h)

-- ---- one rule for all meanings

-- a meaning stands at its number
at-number : (m : Meaning) → get_or meanings (number_of m) ok ≡ m
at-number ok = refl
at-number form = refl
at-number shop = refl
at-number oneself = refl
at-number range = refl
at-number deps = refl
at-number number = refl
at-number full = refl
at-number busy = refl
at-number short = refl
at-number usedup = refl
at-number room = refl
at-number twin = refl
at-number state = refl

-- what passes at every place of a list, and past its end, passes wherever one looks
anywhere : {A : Type 0} (test : A → Bool) (l : List A) (z : A) (i : ℕ) → all_of test l ≡ true → test z ≡ true → test (get_or l i z) ≡ true
unfolding all_of
anywhere test [] z i h e = e
anywhere test (x ∷ l) z zero h e = (both (test x) (all_of test l) h).0
anywhere test (x ∷ l) z (suc i) h e = anywhere test l z i (both (test x) (all_of test l) h).1 e

-- a test that passes at all of them, computed once, holds of each
every : (test : Meaning → Bool) → all_of test meanings ≡ true → (m : Meaning) → test m ≡ true
unfolding all_of
every test h m = ap test (sym (at-number m)) ∙ anywhere test meanings ok (number_of m) h (both (test ok) _ h).0

-- the computed test: in the table stands at a meaning's number its word
table-right : all_of (λ m. same_bytes (why (number_of m)) (word_of m)) meanings ≡ true
unfolding all_of same_bytes
table-right = refl

pub one_table : OneTable
one_table m = same_bytes_lem (why (number_of m)) (word_of m) (every (λ m. same_bytes (why (number_of m)) (word_of m)) table-right m)

-- ---- lengths, and a name as a value

-- no name is longer than its eight places
few : all_of (λ (w : List ℕ). leb (length w) 8) whys ≡ true
unfolding all_of
few = refl

pub why-most : (answer : ℕ) → length (why answer) ≤ 8
why-most answer = leb-true (length (why answer)) 8 (anywhere (λ (w : List ℕ). leb (length w) 8) whys [] answer few refl)

-- the bytes in use of a name are its word
pub name-fits : (n : Name) (answer : ℕ) → n ≡ name_of answer → n.len ≤ length n.bytes
name-fits n answer e =
    let w = why answer in
    omega (arith, ap (λ (n : Name). n.len) e, ap (λ (n : Name). length n.bytes) e, length-append w (replicate (8 - length w) 0))

pub name-spelled : (n : Name) (answer : ℕ) → n ≡ name_of answer → take n.len n.bytes ≡ why answer
name-spelled n answer e = ap (λ (n : Name). take n.len n.bytes) e ∙ take_at (why answer) _ (length (why answer)) refl
