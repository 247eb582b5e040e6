-- What is promised of reading and writing together, beside each function's own statement. The proofs are in proofs/Promises.
use Rattle.std.specs.Prelude.{◌≡◌, Bool, true, false, List, [], ◌∷◌, ℕ, ◌≤◌, length, take}
use Rattle.std.proofs.Math.Option.{some}
use Rattle.texts.specs.Bounds.{register_room, slip_room}
use Rattle.texts.specs.Bytes.{same_bytes}
use Rattle.texts.specs.Layout.{Layout, whole}
use Rattle.texts.specs.Answers.{why, refusal_number, answer_number}
use Rattle.texts.specs.Written.{written, over}
use Rattle.texts.specs.Register.{register_layout, listed, register_rows, register_answer, register_said, register_read, register_write_rows, register_write_answer, register_written, register_buffer}
use Rattle.texts.specs.Slip.{slip_layout, slip_in, read_rows, slip_said, slip_read, slip_write_rows, slip_write_answer, slip_written, slip_buffer}
use Rattle.texts.specs.Answers.{numbers_of}
use Rattle.texts.specs.Code.{is_code, same_code, spelled, code_of}
use Rattle.texts.specs.Payee.{before_payee, start_in_register, payee_part, shown}
use Rattle.texts.specs.declared.answers.Refusal.{Refusal}
use Rattle.texts.specs.declared.code.Code.{Code}
use Rattle.texts.specs.declared.register.Register.{Register}
use Rattle.texts.specs.declared.slip.Slip.{Slip}

-- ---- "Register: 1, 12, 2." "Writing a register: 11, 1, 12, 2. Writing a slip: 11, 1. Reading a slip: 1."

abbrev pub RegisterOrder : Type 0
RegisterOrder = (fits : Bool) (r : Register) → numbers_of (register_rows fits r) ≡ 1 ∷ 12 ∷ 2 ∷ []

abbrev pub RegisterWriteOrder : Type 0
RegisterWriteOrder = (r : Register) (buffer : List ℕ) → numbers_of (register_write_rows r buffer) ≡ 11 ∷ 1 ∷ 12 ∷ 2 ∷ []

abbrev pub SlipWriteOrder : Type 0
SlipWriteOrder = (s : Slip) (buffer : List ℕ) → numbers_of (slip_write_rows s buffer) ≡ 11 ∷ 1 ∷ []

abbrev pub SlipReadOrder : Type 0
SlipReadOrder = (text : List ℕ) → numbers_of (read_rows text) ≡ 1 ∷ []

-- ---- what is said of an answer determines it: no two refusals have one number, and no two answers are said alike

abbrev pub NumbersOneToOne : Type 0
NumbersOneToOne = (a b : Refusal) → refusal_number a ≡ refusal_number b → a ≡ b

abbrev pub SaidOnce : {A S : Type 0} → (A → S) → Type 0
SaidOnce {A} said = (a b : A) → said a ≡ said b → a ≡ b

-- Of an answer that gives nothing but its number.
abbrev pub AnswerSaidOnce : Type 0
AnswerSaidOnce = SaidOnce (answer_number {A = Unit {0}})

abbrev pub RegisterSaidOnce : Type 0
RegisterSaidOnce = SaidOnce register_said

abbrev pub SlipSaidOnce : Type 0
SlipSaidOnce = SaidOnce slip_said

abbrev pub WrittenSaidOnce : Type 0
WrittenSaidOnce = SaidOnce written

-- ---- codes: "compared byte by byte, length included"

-- Two codes are the same exactly where their bytes are.
abbrev pub SameByBytes : Type 0
SameByBytes = (a b : Code) → is_code a ≡ true → is_code b ≡ true → same_code a b ≡ same_bytes (spelled a) (spelled b)

-- A code that comes in as bytes keeps them, every leading zero too.
abbrev pub SpelledBack : Type 0
SpelledBack = (s : List ℕ) → is_code (code_of s) ≡ true → spelled (code_of s) ≡ s

-- Bytes that are no code are not in the register.
abbrev pub NoCodeUnlisted : Type 0
NoCodeUnlisted = (r : Register) (s : List ℕ) → register_answer r ≡ 0 → is_code (code_of s) ≡ false → listed r (code_of s) ≡ false

-- ---- "Reading a slip gives back what writing put in, and each slip has one text": said once, of any layout

pub record OneToOne {A : Type 0} (L : Layout A) : Type 0 where
  -- reading a written value gives it back
  pub back : (a : A) → L.legal a ≡ true → whole L (L.text a) ≡ some a
  -- what was read can be written, and writing it gives the same text
  pub same : (s : List ℕ) (a : A) → whole L s ≡ some a → (L.legal a ≡ true) × (s ≡ L.text a)
  -- one text per value
  pub one_text : (s t : List ℕ) (a : A) → whole L s ≡ some a → whole L t ≡ some a → s ≡ t
  -- a text carries at most one value
  pub one_value : (a b : A) → L.legal a ≡ true → L.legal b ≡ true → L.text a ≡ L.text b → a ≡ b

abbrev pub RegistersOneToOne : Type 0
RegistersOneToOne = OneToOne register_layout

abbrev pub SlipsOneToOne : Type 0
SlipsOneToOne = OneToOne slip_layout

-- ---- the same of the calls, whatever the buffer held

-- What writing put into the buffer reads as what was written.
abbrev pub RegisterReadsBack : Type 0
RegisterReadsBack =
    (r : Register) (buffer : List ℕ) → register_write_answer r buffer ≡ 0
    → register_read (take (register_written r buffer).count (register_buffer r buffer)) ≡ record { answer = 0; register = r }

abbrev pub SlipReadsBack : Type 0
SlipReadsBack =
    (s : Slip) (buffer : List ℕ) → slip_write_answer s buffer ≡ 0 → slip_read (take (slip_written s buffer).count (slip_buffer s buffer)) ≡ record { answer = 0; slip = s }

-- What was read is written as the text that it was read from.
abbrev pub RegisterWritesBack : Type 0
RegisterWritesBack =
    (text buffer : List ℕ) → (register_read text).answer ≡ 0 → register_room ≤ length buffer → register_buffer (register_read text).register buffer ≡ over text buffer

abbrev pub SlipWritesBack : Type 0
SlipWritesBack = (text buffer : List ℕ) → (slip_read text).answer ≡ 0 → slip_room ≤ length buffer → slip_buffer (slip_read text).slip buffer ≡ over text buffer

-- ---- "A refusal returns its number with count and balance 0; ... lent bytes keep their values."

abbrev pub RegisterRefusalKeeps : Type 0
RegisterRefusalKeeps =
    (r : Register) (buffer : List ℕ) → (register_write_answer r buffer ≡ 0 → ⊥) → ((register_written r buffer).count ≡ 0) × (register_buffer r buffer ≡ buffer)

abbrev pub SlipRefusalKeeps : Type 0
SlipRefusalKeeps =
    (s : Slip) (buffer : List ℕ) → (slip_write_answer s buffer ≡ 0 → ⊥) → ((slip_written s buffer).count ≡ 0) × (slip_buffer s buffer ≡ buffer)

-- ---- "Register, at most 358 bytes", "Slip, at most 366 bytes"

abbrev pub RegisterAtMost : Type 0
RegisterAtMost = (r : Register) → register_layout.legal r ≡ true → length (register_layout.text r) ≤ register_room

abbrev pub SlipAtMost : Type 0
SlipAtMost = (s : Slip) → slip_layout.legal s ≡ true → length (slip_layout.text s) ≤ slip_room

-- "fourteen eight-byte names"
abbrev pub WhyAtMost : Type 0
WhyAtMost = (answer : ℕ) → length (why answer) ≤ 8

-- ---- the empty text: "An empty slip chunk gets answer 1.", and so does an empty register

abbrev pub EmptyTextRefused : Type 0
EmptyTextRefused = ((register_read []).answer ≡ 1) × ((slip_read []).answer ≡ 1)

-- ---- "the exact bytes of the payee's code", whichever text they are a part of

abbrev pub PayeeExact : Type 0
PayeeExact = (register slip : List ℕ) (s : Slip) → slip_in slip ≡ some s → shown (payee_part register slip) register slip ≡ spelled s.payee

-- "as the part of the register text where that shop is listed": in its `shop=` line, never in `own=`
abbrev pub ListedInRegister : Type 0
ListedInRegister =
    (register slip : List ℕ) (s : Slip) → slip_in slip ≡ some s → (register_read register).answer ≡ 0 → listed (register_read register).register s.payee ≡ true
    → payee_part register slip ≡ record { of_register = true; start = start_in_register register s.payee; size = s.payee.len }

-- "otherwise as the part of the slip text"
abbrev pub UnlistedInSlip : Type 0
UnlistedInSlip =
    (register slip : List ℕ) (s : Slip) → slip_in slip ≡ some s → listed (register_read register).register s.payee ≡ false
    → payee_part register slip ≡ record { of_register = false; start = length (before_payee s); size = s.payee.len }

-- "If the register would be refused, it is the slip's part."
abbrev pub RefusedInSlip : Type 0
RefusedInSlip =
    (register slip : List ℕ) (s : Slip) → slip_in slip ≡ some s → ((register_read register).answer ≡ 0 → ⊥)
    → payee_part register slip ≡ record { of_register = false; start = length (before_payee s); size = s.payee.len }

-- "If the slip has answer 1, it is the empty part at the slip's start."
abbrev pub EmptyWithoutSlip : Type 0
EmptyWithoutSlip = (register slip : List ℕ) → (slip_read slip).answer ≡ 1 → payee_part register slip ≡ record { of_register = false; start = 0; size = 0 }
