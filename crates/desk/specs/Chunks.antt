-- "A chunk runs up to an empty line (a byte 10 where a line would begin), which is not part of it; at the end of input a chunk of at least one
-- byte counts too."
use Rattle.std.specs.Prelude.{Bool, true, false, ◌&&◌, List, [], ◌∷◌, ◌++◌, ℕ, take, eqb}
use Rattle.desk.specs.Bounds.{most_slips}

-- A chunk at the end of the input.
unfoldable pub at_end : List ℕ → List (List ℕ)
at_end [] = []
at_end (b ∷ chunk) = (b ∷ chunk) ∷ []

-- An empty line: a byte 10 where a line would begin.
abbrev pub empty_line : Bool → ℕ → Bool
empty_line begins b = begins && eqb b 10

-- The chunks of what is left of the input: `chunk` was read of the first of them, and a line begins here or does not.
unfoldable pub cut : List ℕ → Bool → List ℕ → List (List ℕ)
cut chunk begins [] = at_end chunk
cut chunk begins (b ∷ input) = elim (empty_line begins b) [ true ↦ chunk ∷ cut [] true input | false ↦ cut (chunk ++ (b ∷ [])) (eqb b 10) input ]

abbrev pub chunks : List ℕ → List (List ℕ)
chunks input = cut [] true input

-- "The first chunk is the register (with no input it is empty), the rest are slips; after 999,999 of them reading stops as at the end of input."
unfoldable pub register_chunk : List (List ℕ) → List ℕ
register_chunk [] = []
register_chunk (c ∷ cs) = c

unfoldable pub slip_chunks : List (List ℕ) → List (List ℕ)
slip_chunks [] = []
slip_chunks (c ∷ cs) = take most_slips cs
