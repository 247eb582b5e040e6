-- Codes: "1 to 8 decimal digits", "compared byte by byte, length included: 71, 071 and 0071 are three shops".
use Rattle.std.specs.Prelude.{Bool, true, false, ◌&&◌, List, ◌++◌, ℕ, ◌-◌, length, take, replicate, leb, eqb}
use Rattle.texts.specs.Bounds.{code_places}
use Rattle.texts.specs.Bytes.{same_bytes, all_of}
use Rattle.texts.specs.Layout.{Layout, of}
use Rattle.texts.specs.Leaf.{digit, kept_digits, kept}
use Rattle.texts.specs.declared.code.Code.{Code}

abbrev pub no_code : Code
no_code = record { digits = replicate code_places 0; len = 0 }

-- A code and its parts.
abbrev pub code_parts : Code → List ℕ × ℕ
code_parts c = (c.digits, c.len)

abbrev pub parts_code : List ℕ × ℕ → Code
parts_code p = record { digits = p.0; len = p.1 }

-- A code, and the byte that closes it.
abbrev pub code : ℕ → Layout Code
code closing = of code_parts parts_code (kept code_places closing)

-- A value that is a code, whatever closes it.
abbrev pub is_code : Code → Bool
is_code c = kept_digits code_places (code_parts c)

unfoldable pub same_code : Code → Code → Bool
same_code a b = eqb a.len b.len && same_bytes a.digits b.digits

-- The bytes of a code.
abbrev pub spelled : Code → List ℕ
spelled c = take c.len c.digits

-- A code handed in as bytes of any kind and any number: bytes that are no code give the code of zeros, which no
-- legal register lists.
unfoldable pub code_of : List ℕ → Code
code_of s =
    elim ((leb 1 (length s) && leb (length s) code_places) && all_of digit s) [
      | true ↦ record { digits = s ++ replicate (code_places - length s) 0; len = length s }
      | false ↦ no_code
    ]
