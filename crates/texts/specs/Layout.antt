-- A layout says of a kind of text: the text of a value, which values have one, and how one is read from the front of a text.
-- Layouts are put together from few parts. That reading and writing agree is proved once for each part (proofs/Laws).
use Rattle.std.specs.Prelude.{Bool, true, ◌&&◌, List, [], ◌∷◌, ◌++◌, ℕ, zero, suc, ◌-◌, length, take, drop, replicate, eqb}
use Rattle.std.proofs.Math.Option.{Option, none, some}
use Rattle.texts.specs.Bytes.{all_of, ◌>>=◌, given}

pub record Layout (A : Type 0) : Type 0 where
  pub text : A → List ℕ
  -- can a text carry it (a register that one can carry may still be refused: 12, 2)
  pub legal : A → Bool
  -- the value whose text stands at the front, and what stands after it
  pub read : List ℕ → Option (A × List ℕ)

-- What stands after the bytes w.
unfoldable pub past : List ℕ → List ℕ → Option (List ℕ)
past [] s = some s
past (x ∷ w) [] = none
past (x ∷ w) (y ∷ s) = given (eqb x y) s >>= λ r. past w r

-- The bytes w and nothing else.
abbrev pub word : List ℕ → Layout (Unit {0})
word w = record { text = λ _. w; legal = λ _. true; read = λ s. past w s >>= λ r. some (tt, r) }

-- One after the other; what the second looks like may rest on the first's value.
infixr 30 ◌⟫◌
abbrev pub ◌⟫◌ : {A B : Type 0} → Layout A → (A → Layout B) → Layout (A × B)
L ⟫ M =
    record {
      text = λ p. L.text p.0 ++ (M p.0).text p.1;
      legal = λ p. L.legal p.0 && (M p.0).legal p.1;
      read = λ s. L.read s >>= λ p. (M p.0).read p.1 >>= λ q. some ((p.0, q.0), q.1);
    }

infixr 30 ◌then◌
abbrev pub ◌then◌ : {A B : Type 0} → Layout A → Layout B → Layout (A × B)
L then M = L ⟫ (λ _. M)

-- The same text for a struct, given its parts and how they make it.
abbrev pub of : {A B : Type 0} → (B → A) → (A → B) → Layout A → Layout B
of parts make L =
    record {
      text = λ b. L.text (parts b);
      legal = λ b. L.legal (parts b);
      read = λ s. L.read s >>= λ p. some (make p.0, p.1);
    }

-- The bytes w, then L. L, then the bytes w.
abbrev pub key : {A : Type 0} → List ℕ → Layout A → Layout A
key w L = of (λ a. (tt, a)) (λ p. p.1) (word w then L)

abbrev pub shut : {A : Type 0} → Layout A → List ℕ → Layout A
shut L w = of (λ a. (a, tt)) (λ p. p.0) (L then word w)

-- The texts of the list's values, one after the other; and n of them read.
unfoldable pub joined : {A : Type 0} → Layout A → List A → List ℕ
joined L [] = []
joined L (x ∷ xs) = L.text x ++ joined L xs

unfoldable pub several : {A : Type 0} → Layout A → ℕ → List ℕ → Option (List A × List ℕ)
several L zero s = some ([], s)
several L (suc n) s = L.read s >>= λ p. several L n p.1 >>= λ q. some (p.0 ∷ q.0, q.1)

-- An array of so many places: the first n hold values, "unused places are not zero" has no text, "and reading leaves them zero".
abbrev pub group : {A : Type 0} → ℕ → A → (A → Bool) → Layout A → ℕ → Layout (List A)
group places zeros unused L n =
    record {
      text = λ xs. joined L (take n xs);
      legal = λ xs. eqb (length xs) places && (all_of L.legal (take n xs) && all_of unused (drop n xs));
      read = λ s. several L n s >>= λ p. some (p.0 ++ replicate (places - n) zeros, p.1);
    }

-- The value of a text that has nothing after it: "in this order and nothing else".
abbrev pub ended : {A : Type 0} → A → List ℕ → Option A
ended a [] = some a
ended a (b ∷ r) = none

unfoldable pub whole : {A : Type 0} → Layout A → List ℕ → Option A
whole L s = L.read s >>= λ p. ended p.0 p.1
