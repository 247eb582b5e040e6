-- The register's text: "`shops=` two digits 01 to 16; that many `shop=CODE:OPENING` lines, opening six digits; `own=CODE`."
use Rattle.std.specs.Prelude.{Bool, true, false, not, ◌||◌, List, [], ◌∷◌, ℕ, zero, suc, length, take, replicate, ltb, Result, Ok, Err}
use Rattle.std.proofs.Math.Option.{Option}
use Rattle.texts.specs.Bounds.{most_shops, count_width, register_room}
use Rattle.texts.specs.Bytes.{bytes, found, or_zeros}
use Rattle.texts.specs.Layout.{Layout, ◌⟫◌, ◌then◌, of, whole}
use Rattle.texts.specs.Code.{no_code, same_code}
use Rattle.texts.specs.Lines.{code_line, number_line}
use Rattle.texts.specs.Entries.{no_entry, entry_line, entry_lines}
use Rattle.texts.specs.Answers.{Row, ok, form, shop, room, twin, answer_of, number_of, refusal_number}
use Rattle.texts.specs.Written.{Written, answered, buffered}
use Rattle.texts.specs.declared.code.Code.{Code}
use Rattle.texts.specs.declared.entry.Entry.{Entry}
use Rattle.texts.specs.declared.register.Register.{Register}
use Rattle.texts.specs.declared.answers.Refusal.{Refusal}

-- ---- zeros

abbrev pub no_register : Register
no_register = record { count = 0; shops = replicate most_shops no_entry; own = no_code }

-- ---- the lines

abbrev pub shops_line : Layout ℕ
shops_line = number_line (bytes "shops=") count_width 1 most_shops

abbrev pub shop_line : Layout Entry
shop_line = entry_line (bytes "shop=")

abbrev pub shop_lines : ℕ → Layout (List Entry)
shop_lines = entry_lines (bytes "shop=")

-- A shop's number is its opening credit.
abbrev pub opening : Entry → ℕ
opening s = s.number

abbrev pub own_line : Layout Code
own_line = code_line (bytes "own=")

-- A register and its parts.
abbrev pub register_parts : Register → (ℕ × List Entry) × Code
register_parts r = ((r.count, r.shops), r.own)

abbrev pub parts_register : (ℕ × List Entry) × Code → Register
parts_register p = record { count = p.0.0; shops = p.0.1; own = p.1 }

unfoldable pub register_layout : Layout Register
register_layout = of register_parts parts_register ((shops_line ⟫ shop_lines) then own_line)

-- The register that a text carries, if any.
unfoldable pub register_in : List ℕ → Option Register
register_in text = whole register_layout text

-- ---- positions: "A position is a shop's place in the register, from 0."

-- The place of a code in a list of shops; past the last where it is not listed.
unfoldable pub place : List Entry → Code → ℕ
place [] c = 0
place (s ∷ shops) c = elim (same_code s.code c) [ true ↦ 0 | false ↦ suc (place shops c) ]

abbrev pub among : List Entry → Code → Bool
among shops c = ltb (place shops c) (length shops)

-- "two equal codes in a register"
unfoldable pub twins : List Entry → Bool
twins [] = false
twins (s ∷ shops) = among shops s.code || twins shops

-- The shops in use, and of a code: its position (the number of shops, where it is not listed), is it listed.
abbrev pub shops_of : Register → List Entry
shops_of r = take r.count r.shops

abbrev pub position : Register → Code → ℕ
position r c = place (shops_of r) c

abbrev pub listed : Register → Code → Bool
listed r c = among (shops_of r) c

-- ---- answers

abbrev pub shops_rows : Register → List Row
shops_rows r = (twin, twins (shops_of r)) ∷ (shop, not (listed r r.own)) ∷ []

-- "Register: 1, 12, 2."
abbrev pub register_rows : Bool → Register → List Row
register_rows fits r = (form, not fits) ∷ shops_rows r

-- The answer to a register as a value; 0: it is a legal one.
unfoldable pub register_answer : Register → ℕ
register_answer r = answer_of (register_rows (register_layout.legal r) r)

unfoldable pub register_text_answer : List ℕ → ℕ
register_text_answer text = answer_of (register_rows (found (register_in text)) (or_zeros no_register (register_in text)))

-- The number of the answer to a text, and the register.
pub record RegisterRead : Type 0 where
  pub answer : ℕ
  pub register : Register

-- What reading said, as number and register.
abbrev pub register_said : Result Register Refusal → RegisterRead
register_said (Ok r) = record { answer = number_of ok; register = r }
register_said (Err refusal) = record { answer = refusal_number refusal; register = no_register }

-- "A refused register gives a record of zeros."
unfoldable pub register_read : List ℕ → RegisterRead
register_read text =
    record {
      answer = register_text_answer text;
      register = elim (register_text_answer text) [ zero ↦ or_zeros no_register (register_in text) | suc n ↦ no_register ];
    }

-- "Writing a register: 11, 1, 12, 2."
abbrev pub register_write_rows : Register → List ℕ → List Row
register_write_rows r buffer = (room, ltb (length buffer) register_room) ∷ register_rows (register_layout.legal r) r

unfoldable pub register_write_answer : Register → List ℕ → ℕ
register_write_answer r buffer = answer_of (register_write_rows r buffer)

abbrev pub register_written : Register → List ℕ → Written
register_written r buffer = answered (register_write_answer r buffer) (register_layout.text r)

abbrev pub register_buffer : Register → List ℕ → List ℕ
register_buffer r buffer = buffered (register_write_answer r buffer) (register_layout.text r) buffer
