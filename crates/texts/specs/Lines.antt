-- The lines that registers and slips are made of: "Lines of `key=value`, each closed by byte 10".
use Rattle.std.specs.Prelude.{List, ℕ}
use Rattle.texts.specs.Bounds.{number_width, most}
use Rattle.texts.specs.Bytes.{bytes, line_end}
use Rattle.texts.specs.Layout.{Layout, key, shut}
use Rattle.texts.specs.Leaf.{number}
use Rattle.texts.specs.Code.{code}
use Rattle.texts.specs.declared.code.Code.{Code}

-- A number of a width, from `least` to `upper`, that ends its line.
abbrev pub closed : ℕ → ℕ → ℕ → Layout ℕ
closed width least upper = shut (number width least upper) (bytes "\n")

-- "six digits": 000000 too, in every six-digit place.
abbrev pub six : Layout ℕ
six = closed number_width 0 most

-- KEY=CODE
abbrev pub code_line : List ℕ → Layout Code
code_line name = key name (code line_end)

-- KEY=NUMBER
abbrev pub number_line : List ℕ → ℕ → ℕ → ℕ → Layout ℕ
number_line name width least upper = key name (closed width least upper)
