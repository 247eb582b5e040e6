-- Bytes, written as quoted texts; tests and steps that may fail.
use Rattle.std.specs.Prelude.{Bool, true, false, ◌&&◌, List, [], ◌∷◌, ℕ, zero, suc, eqb}
use Rattle.std.proofs.Math.Option.{Option, none, some}
use Prim.Native.Char.{code}
use Prim.Native.String.{String, len, char_at}

-- The bytes of a quoted text of plain characters; \n is byte 10.
abbrev pub bytes_from : String → ℕ → ℕ → List ℕ
bytes_from s zero i = []
bytes_from s (suc k) i = code (char_at s i) ∷ bytes_from s k (suc i)

abbrev pub bytes : String → List ℕ
bytes s = bytes_from s (len s) 0

-- "each closed by byte 10", and what stands between a code and its number.
abbrev pub line_end : ℕ
line_end = 10

abbrev pub colon : ℕ
colon = 58

-- "compared byte by byte, length included"
unfoldable pub same_bytes : List ℕ → List ℕ → Bool
same_bytes [] [] = true
same_bytes [] (y ∷ ys) = false
same_bytes (x ∷ xs) [] = false
same_bytes (x ∷ xs) (y ∷ ys) = eqb x y && same_bytes xs ys

-- The test passes at every one of the list.
unfoldable pub all_of : {A : Type 0} → (A → Bool) → List A → Bool
all_of test [] = true
all_of test (x ∷ xs) = test x && all_of test xs

-- First the one, then with what it gave the other; nothing where either gives nothing.
infixl 20 ◌>>=◌
abbrev pub ◌>>=◌ : {A B : Type 0} → Option A → (A → Option B) → Option B
none >>= f = none
some a >>= f = f a

-- a, where the test passes.
abbrev pub given : {A : Type 0} → Bool → A → Option A
given true a = some a
given false a = none

-- Was there one.
abbrev pub found : {A : Type 0} → Option A → Bool
found none = false
found (some a) = true

-- The one that there was, or else the zeros.
abbrev pub or_zeros : {A : Type 0} → A → Option A → A
or_zeros zeros none = zeros
or_zeros zeros (some a) = a
