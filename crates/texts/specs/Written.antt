-- What a write answers and leaves: "The count in the answer is the text's length", "Bytes after the text keep their values",
-- "A refusal returns its number with count and balance 0; ... lent bytes keep their values" (a write has no balance to give).
use Rattle.std.specs.Prelude.{List, ◌++◌, ℕ, zero, suc, length, drop, Result, Ok, Err}
use Rattle.texts.specs.Answers.{ok, number_of, refusal_number}
use Rattle.texts.specs.declared.answers.Refusal.{Refusal}

-- The number of the answer, and the count.
pub record Written : Type 0 where
  pub answer : ℕ
  pub count : ℕ

-- What a write said, as number and count.
abbrev pub written : Result ℕ Refusal → Written
written (Ok count) = record { answer = number_of ok; count = count }
written (Err refusal) = record { answer = refusal_number refusal; count = 0 }

-- The text at the front of the buffer, the bytes after it as they were.
abbrev pub over : List ℕ → List ℕ → List ℕ
over text buffer = text ++ drop (length text) buffer

unfoldable pub answered : ℕ → List ℕ → Written
answered answer text = record { answer = answer; count = elim answer [ zero ↦ length text | suc n ↦ 0 ] }

unfoldable pub buffered : ℕ → List ℕ → List ℕ → List ℕ
buffered answer text buffer = elim answer [ zero ↦ over text buffer | suc n ↦ buffer ]
