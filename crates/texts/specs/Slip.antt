-- The slip's text: "`payer=CODE`, `number=` six digits, `payee=CODE`, `amount=` six digits, `deps=` two digits 00 to 15, then that many
-- `dep=CODE:NUMBER` lines, number six digits." The order of dependencies is no matter of form: "a breach is answer 5, not 1".
use Rattle.std.specs.Prelude.{not, List, [], ◌∷◌, ℕ, length, take, replicate, ltb, Result, Ok, Err}
use Rattle.std.proofs.Math.Option.{Option}
use Rattle.texts.specs.Bounds.{most_shops, most_deps, count_width, slip_room}
use Rattle.texts.specs.Bytes.{bytes, found, or_zeros}
use Rattle.texts.specs.Layout.{Layout, ◌⟫◌, ◌then◌, of, key, whole}
use Rattle.texts.specs.Code.{no_code}
use Rattle.texts.specs.Lines.{six, code_line, number_line}
use Rattle.texts.specs.Entries.{no_entry, entry_line, entry_lines}
use Rattle.texts.specs.Answers.{Row, ok, form, room, answer_of, number_of, refusal_number}
use Rattle.texts.specs.Written.{Written, answered, buffered}
use Rattle.texts.specs.declared.code.Code.{Code}
use Rattle.texts.specs.declared.entry.Entry.{Entry}
use Rattle.texts.specs.declared.slip.Slip.{Slip}
use Rattle.texts.specs.declared.answers.Refusal.{Refusal}

-- ---- zeros

abbrev pub no_slip : Slip
no_slip = record { payer = no_code; number = 0; payee = no_code; amount = 0; count = 0; deps = replicate most_shops no_entry }

-- ---- the lines

abbrev pub payer_line : Layout Code
payer_line = code_line (bytes "payer=")

abbrev pub slip_number_line : Layout ℕ
slip_number_line = key (bytes "number=") six

abbrev pub payee_line : Layout Code
payee_line = code_line (bytes "payee=")

abbrev pub amount_line : Layout ℕ
amount_line = key (bytes "amount=") six

abbrev pub deps_line : Layout ℕ
deps_line = number_line (bytes "deps=") count_width 0 most_deps

abbrev pub dep_line : Layout Entry
dep_line = entry_line (bytes "dep=")

abbrev pub dep_lines : ℕ → Layout (List Entry)
dep_lines = entry_lines (bytes "dep=")

-- A slip and its parts.
abbrev pub SlipParts : Type 0
SlipParts = Code × (ℕ × (Code × (ℕ × (ℕ × List Entry))))

abbrev pub slip_parts : Slip → SlipParts
slip_parts s = (s.payer, (s.number, (s.payee, (s.amount, (s.count, s.deps)))))

abbrev pub parts_slip : SlipParts → Slip
parts_slip p =
    record {
      payer = p.0;
      number = p.1.0;
      payee = p.1.1.0;
      amount = p.1.1.1.0;
      count = p.1.1.1.1.0;
      deps = p.1.1.1.1.1;
    }

unfoldable pub slip_layout : Layout Slip
slip_layout =
    of slip_parts parts_slip
    (payer_line then slip_number_line then payee_line then amount_line then (deps_line ⟫ dep_lines))

-- The slip that a text carries, if any.
unfoldable pub slip_in : List ℕ → Option Slip
slip_in text = whole slip_layout text

-- The dependencies in use.
abbrev pub deps_of : Slip → List Entry
deps_of s = take s.count s.deps

-- ---- answers

-- "Reading a slip: 1."
abbrev pub read_rows : List ℕ → List Row
read_rows text = (form, not (found (slip_in text))) ∷ []

-- The number of the answer to a text, and the slip.
pub record SlipRead : Type 0 where
  pub answer : ℕ
  pub slip : Slip

-- What reading said, as number and slip.
abbrev pub slip_said : Result Slip Refusal → SlipRead
slip_said (Ok s) = record { answer = number_of ok; slip = s }
slip_said (Err refusal) = record { answer = refusal_number refusal; slip = no_slip }

-- "a slip text refused by the reader gives a slip of zeros"
unfoldable pub slip_read : List ℕ → SlipRead
slip_read text = record { answer = answer_of (read_rows text); slip = or_zeros no_slip (slip_in text) }

-- "Writing a slip: 11, 1."
abbrev pub slip_write_rows : Slip → List ℕ → List Row
slip_write_rows s buffer = (room, ltb (length buffer) slip_room) ∷ (form, not (slip_layout.legal s)) ∷ []

unfoldable pub slip_write_answer : Slip → List ℕ → ℕ
slip_write_answer s buffer = answer_of (slip_write_rows s buffer)

abbrev pub slip_written : Slip → List ℕ → Written
slip_written s buffer = answered (slip_write_answer s buffer) (slip_layout.text s)

abbrev pub slip_buffer : Slip → List ℕ → List ℕ
slip_buffer s buffer = buffered (slip_write_answer s buffer) (slip_layout.text s) buffer
