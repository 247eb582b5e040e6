-- "A refusal returns its number with count and balance 0; the state comes back as it went in and lent bytes keep their values."
use Rattle.std.specs.Prelude.{ℕ, Result, Ok, Err}
use Rattle.texts.specs.Answers.{answer_number, refusal_number}
use Rattle.texts.specs.declared.answers.Refusal.{Refusal}
use Rattle.replica.specs.declared.record.Replica.{Replica}
use Rattle.replica.specs.declared.reply.Reply.{Reply}
use Rattle.replica.specs.Record.{no_replica}

-- The number of the answer, the count, the balance, and the state.
pub record Outcome : Type 0 where
  pub answer : ℕ
  pub balance : ℕ
  pub count : ℕ
  pub replica : Replica

abbrev pub refused : ℕ → Replica → Outcome
refused answer self = record { answer = answer; count = 0; balance = 0; replica = self }

-- "A call that has no count or no balance to give returns 0 there."
abbrev pub did : ℕ → Replica → Outcome
did count self = record { answer = 0; count = count; balance = 0; replica = self }

-- ---- the number and the values of what a call replies

abbrev pub count_of : Result ℕ Refusal → ℕ
count_of (Ok count) = count
count_of (Err refusal) = 0

-- Of take and issue, which give a count.
abbrev pub count_said : Reply ℕ → Outcome
count_said r = record { answer = answer_number r.answer; count = count_of r.answer; balance = 0; replica = r.replica }

-- Of balance.
abbrev pub balance_said : Reply ℕ → Outcome
balance_said r = record { answer = answer_number r.answer; count = 0; balance = count_of r.answer; replica = r.replica }

-- Of open: "A refused register gives a record of zeros".
abbrev pub open_said : Result Replica Refusal → Outcome
open_said (Ok replica) = did 0 replica
open_said (Err refusal) = refused (refusal_number refusal) no_replica

-- The reply of a refusal, whatever the call would have given.
abbrev pub turned_away : {A : Type 0} → Refusal → Replica → Reply A
turned_away refusal self = record { answer = Err refusal; replica = self }
