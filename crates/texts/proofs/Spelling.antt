-- Single bytes one after the other: a number digit by digit, the digits of a code.
use mathlib.Core.Path.{◌≡◌, refl, sym, ap, ap₂, ◌∙◌}
use mathlib.Core.Bool.{true, false, false≢true, Bool}
use mathlib.Core.Option.{none, some}
use mathlib.Core.List.{List, [], ◌∷◌, ◌++◌}
use Prim.Native.Nat.{ℕ, zero, suc, ◌+◌, ◌-◌, ◌*◌, ◌^◌, ◌≤◌, ◌<◌}
use native.Mathlib.Omega.{arith}
use native.Mathlib.Numerals.{add-one}
use native.Mathlib.Nat.{pow-suc, add-suc}
use lib.ListN.{length, take, drop, get_or, replicate, length-append, length-drop, length-take}
use lib.Seq.{take-suc, drop-cons, length-take-le, get_or-take}
use Rattle.std.specs.List.{slice_range, prefix_len, take_while}
use Rattle.texts.specs.Bounds.{code_places}
use Rattle.texts.specs.Leaf.{digit, digits, one_more, numeral, run}
use Rattle.texts.specs.Inside.{Held}
use Rattle.texts.proofs.Steps.{bind-at, bind-none, given-at, given-some}
use Rattle.texts.proofs.LawsLeaf.{digit-of, digits-length, numeral-only, more-only}
use Rattle.std.proofs.lemmas.List.{drop-replicate}
use Rattle.std.proofs.lemmas.List.Sums.{prefix_len-le-length}
use Rattle.std.proofs.lemmas.List.Folds.{length-prefix_len}
use Rattle.texts.proofs.Reading.{none-if}

-- ---- a number

-- one more digit
numeral-more : (t : List ℕ) (i v : ℕ) → numeral i t ≡ some (v, drop i t) → i < length t → digit (get_or t i 0) ≡ true
    → numeral (i + 1) t ≡ some (v * 10 + (get_or t i 0 - 48), drop (i + 1) t)
unfolding numeral one_more
numeral-more t i v e l d =
    let f : one_more v (drop i t) ≡ some (v * 10 + (get_or t i 0 - 48), drop (suc i) t) =
    ap (one_more v) (drop-cons t i 0 l) ∙ given-at (digit (get_or t i 0)) (v * 10 + (get_or t i 0 - 48), drop (suc i) t) d in
    rw add-one (bind-at (numeral i t) (λ p. one_more p.0 p.1) _ e ∙ f)

-- no digit more
numeral-ends : (t : List ℕ) (i v : ℕ) → numeral i t ≡ some (v, drop i t) → digit (get_or t i 0) ≡ false → numeral (suc i) t ≡ none
unfolding numeral one_more
numeral-ends t i v e d =
    bind-at (numeral i t) (λ p. one_more p.0 p.1) _ e
    ∙ none-if (one_more v (drop i t)) (λ p f.
    let k = more-only v (drop i t) p f in
    let l : i < length t = omega (arith, ap length k.0, length-drop i t) in
    let s = given-some (digit (get_or t i 0)) (v * 10 + (get_or t i 0 - 48), drop (suc i) t) p (ap (one_more v) (sym (drop-cons t i 0 l)) ∙ f) in
    false≢true (sym d ∙ s.0))

-- what failed at fewer digits fails at more
numeral-none : (t : List ℕ) (i k : ℕ) → numeral i t ≡ none → numeral (i + k) t ≡ none
unfolding numeral
numeral-none t i zero e = ap (λ n. numeral n t) (native.Mathlib.Nat.add-zero i) ∙ e
numeral-none t i (suc k) e = ap (λ n. numeral n t) (add-suc i k) ∙ bind-none (numeral (i + k) t) (λ p. one_more p.0 p.1) (numeral-none t i k e)

-- a text that is too short has no number of that width
pub numeral-short : (width : ℕ) (t : List ℕ) → length t < width → numeral width t ≡ none
numeral-short width t l =
    none-if (numeral width t) (λ p e.
    let f = ap length (numeral-only width t p e) ∙ length-append (digits width p.0) p.1 in omega (arith, f, digits-length width p.0))

-- the first i of xs, which are the first bytes of t, make v
module _ (t xs : List ℕ) (width v i : ℕ) (front : xs ≡ slice_range t 0 width) (there : width ≤ length t) (q : (v < 10 ^ i) × (numeral i t ≡ some (v, drop i t))) (l : i < length xs) where
  whole-front : xs ≡ take width t
  whole-front = let e : width - 0 ≡ width = omega arith in front ∙ ap (λ k. take k t) e

  before-width : i < width
  before-width = omega (arith, ap length whole-front, length-take-le width t there)

  same_byte : get_or xs i 0 ≡ get_or t i 0
  same_byte = ap (λ ys. get_or ys i 0) whole-front ∙ get_or-take width t i 0 before-width

  -- one more digit
  pub spelling-more : digit (get_or xs i 0) ≡ true → (v * 10 + (get_or xs i 0 - 48) < 10 ^ (i + 1)) × (numeral (i + 1) t ≡ some (v * 10 + (get_or xs i 0 - 48), drop (i + 1) t))
  spelling-more d =
      let k = digit-of (get_or xs i 0) d in (
        rw (add-one, pow-suc 10 i) (omega (arith, q.0)),
        rw same_byte (numeral-more t i v q.1 (omega (arith, before-width)) (ap digit (sym same_byte) ∙ d)),
      )

  -- no digit: there is no number of that width
  pub spelling-stops : digit (get_or xs i 0) ≡ false → numeral width t ≡ none
  spelling-stops d =
      let k : suc i + (width - suc i) ≡ width = omega (arith, before-width) in
      ap (λ m. numeral m t) (sym k) ∙ numeral-none t (suc i) (width - suc i) (numeral-ends t i v q.1 (ap digit (sym same_byte) ∙ d))

-- ---- a code

-- the run of digits is what the test lets through of the places that it may fill
run_is : (n : ℕ) (t : List ℕ) → run n t ≡ (take (prefix_len digit (take n t)) t, drop (prefix_len digit (take n t)) t)
unfolding run
run_is zero t = refl
run_is (suc n) [] = refl
run_is (suc n) (b ∷ t) = go (digit b) refl (run_is n t)
  where
    go : (d : Bool) → digit b ≡ d → run n t ≡ (take (prefix_len digit (take n t)) t, drop (prefix_len digit (take n t)) t) → run (suc n) (b ∷ t) ≡ (take (prefix_len digit (take (suc n) (b ∷ t))) (b ∷ t), drop (prefix_len digit (take (suc n) (b ∷ t))) (b ∷ t))
    go true d e = let s : 1 + prefix_len digit (take n t) ≡ suc (prefix_len digit (take n t)) = omega arith in rw (d, run, s, e) refl
    go false d e = rw (d, run) refl

-- so many of t and zeros after them are held
pub held_front : (t front : List ℕ) (n : ℕ) → n ≡ length (take_while digit (take code_places t)) → front ≡ take n t
    → Held t (record { digits = front ++ drop n (replicate code_places 0); len = n })
held_front t front n e f =
    let k : n ≡ prefix_len digit (take code_places t) = e ∙ length-prefix_len digit (take code_places t) in
    let l = prefix_len-le-length digit (take code_places t) in
    record {
      in-t = omega (arith, length-take code_places t);
      fits = omega (arith, length-take code_places t);
      front = run_is code_places t ∙ ap (λ i. (take i t, drop i t)) (sym k);
      digits = ap₂ (λ y z. y ++ z) f (drop-replicate n code_places 0);
    }
