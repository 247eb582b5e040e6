-- Lines on a lent page, from a place on: what has no room is not put there.
use Rattle.std.specs.Prelude.{true, false, List, ◌++◌, ℕ, ◌+◌, length, take, drop, leb}

-- The page with the text from `at` on, the other bytes as they were.
unfoldable pub put_at : List ℕ → ℕ → List ℕ → List ℕ
put_at page at text = elim (leb (at + length text) (length page)) [ true ↦ take at page ++ text ++ drop (at + length text) page | false ↦ page ]

-- The place after it.
unfoldable pub place_after : List ℕ → ℕ → List ℕ → ℕ
place_after page at text = elim (leb (at + length text) (length page)) [ true ↦ at + length text | false ↦ at ]
