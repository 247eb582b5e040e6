-- The two kinds of value inside a line: a number of a fixed width, and digits that are kept as they stand.
use Rattle.std.specs.Prelude.{Bool, true, false, ◌&&◌, List, [], ◌∷◌, ◌++◌, ℕ, zero, suc, ◌+◌, ◌-◌, ◌*◌, ◌/◌, ◌%◌, length, take, drop, replicate, leb, eqb}
use Rattle.std.proofs.Math.Option.{Option, none, some}
use Rattle.texts.specs.Bytes.{all_of, ◌>>=◌, given}
use Rattle.texts.specs.Layout.{Layout, past}

-- The bytes 48 to 57.
abbrev pub digit : ℕ → Bool
digit b = leb 48 b && leb b 57

-- "Numbers have exactly the width shown, with leading zeros."
unfoldable pub digits : ℕ → ℕ → List ℕ
digits zero n = []
digits (suc w) n = digits w (n / 10) ++ ((48 + n % 10) ∷ [])

-- The digits read so far make n; one more.
unfoldable pub one_more : ℕ → List ℕ → Option (ℕ × List ℕ)
one_more n [] = none
one_more n (b ∷ s) = given (digit b) (n * 10 + (b - 48), s)

unfoldable pub numeral : ℕ → List ℕ → Option (ℕ × List ℕ)
numeral zero s = some (0, s)
numeral (suc w) s = numeral w s >>= λ p. one_more p.0 p.1

-- A number from `least` to `upper`, at this width.
abbrev pub number : ℕ → ℕ → ℕ → Layout ℕ
number width least upper =
    record {
      text = digits width;
      legal = λ n. leb least n && leb n upper;
      read = λ s. numeral width s >>= λ p. given (leb least p.0 && leb p.0 upper) p;
    }

-- The digits at the front, at most n of them, and what stands after them.
unfoldable pub run : ℕ → List ℕ → List ℕ × List ℕ
run zero s = ([], s)
run (suc n) [] = ([], [])
run (suc n) (b ∷ s) = elim (digit b) [ true ↦ (b ∷ (run n s).0, (run n s).1) | false ↦ ([], b ∷ s) ]

-- So many places: the first n hold digits, and the others 0. "a value whose unused places are not zero" has no text.
abbrev pub kept_digits : ℕ → List ℕ × ℕ → Bool
kept_digits places c =
    eqb (length c.0) places && ((leb 1 c.1 && leb c.1 places) && (all_of digit (take c.1 c.0) && all_of (eqb 0) (drop c.1 c.0)))

-- Digits as they stand, one at least and as many as there are places, and the byte that closes them.
abbrev pub kept : ℕ → ℕ → Layout (List ℕ × ℕ)
kept places closing =
    record {
      text = λ c. take c.1 c.0 ++ (closing ∷ []);
      legal = kept_digits places;
      read = λ s.
          let ds = (run places s).0 in
          given (leb 1 (length ds)) (run places s).1 >>= λ r. past (closing ∷ []) r >>= λ q. some ((ds ++ replicate (places - length ds) 0, length ds), q);
    }
