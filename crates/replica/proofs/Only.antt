-- Sums in which one position counts for more, and lists of the first so many.
use mathlib.Core.Path.{◌≡◌, refl, sym, ap, ap₂, ◌∙◌}
use mathlib.Core.Logic.{◌≢◌}
use mathlib.Core.Bool.{Bool, true, false, ◌&&◌}
use mathlib.Core.List.{List, [], ◌∷◌, ◌++◌, append-nil}
use Prim.Native.Nat.{ℕ, zero, suc, ◌+◌, ◌-◌, ◌≤◌, ◌<◌}
use native.Mathlib.Omega.{arith}
use lib.ListN.{length, length-append}
use lib.Dec.{eqb}
use borrow.Author.Tests.{eq-eqb, ne_eqb}
use Rattle.replica.specs.Record.{sum_to, every}
use Rattle.replica.specs.Slips.{firsts}

-- ---- w at position p, and 0 elsewhere

unfoldable pub only : ℕ → ℕ → ℕ → ℕ
only p w q = elim (eqb q p) [ true ↦ w | false ↦ 0 ]

pub only_self : (p w q : ℕ) → q ≡ p → only p w q ≡ w
unfolding only
only_self p w q h = rw (eq-eqb q p h, only)

pub only-other : (p w q : ℕ) → q ≢ p → only p w q ≡ 0
unfolding only
only-other p w q h = rw (ne_eqb q p h, only)

pub sum-le : (n : ℕ) (f g : ℕ → ℕ) → ((q : ℕ) → q < n → f q ≤ g q) → sum_to n f ≤ sum_to n g
unfolding sum_to
sum-le zero f g h = omega arith
sum-le (suc n) f g h = omega (arith, sum-le n f g (λ q l. h q (omega arith)), h n (omega arith))

pub sum-zero : (n : ℕ) (f : ℕ → ℕ) → ((q : ℕ) → f q ≡ 0) → sum_to n f ≡ 0
unfolding sum_to
sum-zero zero f h = refl
sum-zero (suc n) f h = omega (arith, sum-zero n f h, h n)

-- tests that agree
pub every-same : (n : ℕ) (f g : ℕ → Bool) → ((q : ℕ) → q < n → f q ≡ g q) → every n f ≡ every n g
unfolding every
every-same zero f g h = refl
every-same (suc n) f g h = ap₂ (λ x y. x && y) (every-same n f g (λ q l. h q (omega arith))) (h n (omega arith))

-- ---- the first k of a sequence

module _ {A : Type 0} where
  pub firsts_same : (k : ℕ) (f g : ℕ → A) → ((i : ℕ) → i < k → f i ≡ g i) → firsts k f ≡ firsts k g
  unfolding firsts
  firsts_same zero f g h = refl
  firsts_same (suc k) f g h = ap₂ (λ x xs. x ∷ xs) (h 0 (omega arith)) (firsts_same k (λ i. f (i + 1)) (λ i. g (i + 1)) (λ i l. h (i + 1) (omega arith)))

  -- the first of them and the others
  pub firsts-none : (f : ℕ → A) → firsts 0 f ≡ []
  unfolding firsts
  firsts-none f = refl

  pub firsts-some : (k : ℕ) (f : ℕ → A) → 0 < k → firsts k f ≡ f 0 ∷ firsts (k - 1) (λ i. f (i + 1))
  unfolding firsts
  firsts-some zero f h = absurd (omega arith)
  firsts-some (suc k) f h = let e : k ≡ suc k - 1 = omega arith in ap (λ (i : ℕ). f 0 ∷ firsts i (λ i. f (i + 1))) e

  -- one more
  one_more_lem : (k : ℕ) (f : ℕ → A) → firsts (suc k) f ≡ firsts k f ++ (f k ∷ [])
  unfolding firsts
  one_more_lem zero f = refl
  one_more_lem (suc k) f =
      let e : k + 1 ≡ suc k = omega arith in
      let ih = one_more_lem k (λ i. f (i + 1)) in
      ap (λ (l : List A). f 0 ∷ l) (ih ∙ ap (λ (i : ℕ). firsts k (λ i. f (i + 1)) ++ (f i ∷ [])) e)

  pub firsts-last : (k : ℕ) (f : ℕ → A) → firsts (k + 1) f ≡ firsts k f ++ (f k ∷ [])
  firsts-last k f = let e : k + 1 ≡ suc k = omega arith in ap (λ (i : ℕ). firsts i f) e ∙ one_more_lem k f

  pub length-firsts : (k : ℕ) (f : ℕ → A) → length (firsts k f) ≡ k
  unfolding firsts
  length-firsts zero f = refl
  length-firsts (suc k) f = ap suc (length-firsts k (λ i. f (i + 1)))

  pub firsts_at : (k : ℕ) (f g : ℕ → A) → firsts k f ≡ firsts k g → (i : ℕ) → i < k → f i ≡ g i
  unfolding firsts
  firsts_at zero f g e i h = absurd (omega arith)
  firsts_at (suc k) f g e zero h = cc
  firsts_at (suc k) f g e (suc i) h =
      let t : firsts k (λ i. f (i + 1)) ≡ firsts k (λ i. g (i + 1)) = cc in
      let j : i + 1 ≡ suc i = omega arith in
      let x = firsts_at k (λ i. f (i + 1)) (λ i. g (i + 1)) t i (omega arith) in
      ap f (sym j) ∙ x ∙ ap g j

  -- ---- a list that begins another

  abbrev pub Begins : List A → List A → Type 0
  Begins l m = (r : List A) × (l ++ r ≡ m)

  pub same_rest : (l a b : List A) → l ++ a ≡ l ++ b → a ≡ b
  same_rest [] a b e = e
  same_rest (x ∷ l) a b e = let f : l ++ a ≡ l ++ b = cc in same_rest l a b f

  -- each begins the other
  pub begins-both : (l m : List A) → Begins l m → Begins m l → l ≡ m
  begins-both l m (r, e) (r', e') =
      let a = length-append l r in
      let b = length-append m r' in
      let x = ap length e in
      let y = ap length e' in
      go r e (omega arith)
    where
      go : (r : List A) → l ++ r ≡ m → length r ≡ 0 → l ≡ m
      go [] e z = sym (append-nil l) ∙ e
      go (x ∷ r) e z = absurd (omega arith)
