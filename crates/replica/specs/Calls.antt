-- Calls in any number and order, refused ones among them, each on the state that the call before it gave back; and what happened in them.
use Rattle.std.specs.Prelude.{◌≡◌, List, [], ◌∷◌, ◌++◌, ℕ, zero, suc, eqb, true, false}
use Rattle.texts.specs.declared.slip.Slip.{Slip}
use Rattle.replica.specs.declared.record.Replica.{Replica}
use Rattle.replica.specs.Record.{no_replica}
use Rattle.replica.specs.Slips.{slip_at}
use Rattle.replica.specs.Settle.{apply, applying}
use Rattle.replica.specs.Outcome.{Outcome, refused}
use Rattle.replica.specs.Take.{slip_from, payer_of, entered, taken, taken_list}
use Rattle.replica.specs.Issue.{issued, issued_buffer}
use Rattle.replica.specs.Balance.{asked}

-- ---- a call, over bytes: one for each public operation

pub data Call : Type 0 where
  take : (text list : List ℕ) → Call
  issue : (payee : List ℕ) (amount : ℕ) (buffer : List ℕ) → Call
  balance : (code : List ℕ) → Call

-- What it gives back: the outcome, and the lent bytes (none for a balance).
pub record Given : Type 0 where
  pub outcome : Outcome
  pub bytes : List ℕ

unfoldable pub call : Replica → Call → Given
call self (take text list) = record { outcome = taken self text list; bytes = taken_list self text list }
call self (issue payee amount buffer) = record { outcome = issued self payee amount buffer; bytes = issued_buffer self payee amount buffer }
call self (balance code) = record { outcome = asked self code; bytes = [] }

-- The state that it gives back.
abbrev pub after : Replica → Call → Replica
after self c = (call self c).outcome.replica

-- "each on the state that the call before it gave back": the state at the end.
unfoldable pub end : Replica → List Call → Replica
end self [] = self
end self (c ∷ cs) = end (after self c) cs

-- "A refused register gives a record of zeros, which every call refuses with 13."
abbrev pub ZerosRefused : Type 0
ZerosRefused = (c : Call) → (call no_replica c).outcome ≡ refused 13 no_replica

-- ---- what happened, shop by shop, as slips

-- Per position the slips, first to last.
abbrev pub Lines : Type 0
Lines = ℕ → List Slip

abbrev pub no_slips : Lines
no_slips p = []

-- One slip more of the shop at position p.
unfoldable pub noted : ℕ → Slip → Lines → Lines
noted p s lines q = elim (eqb q p) [ true ↦ lines q ++ (s ∷ []) | false ↦ lines q ]

-- A slip was taken in where take answered 0.
unfoldable pub took_in : Replica → Call → Lines → Lines
took_in self (take text list) lines =
    elim (taken self text list).answer [ zero ↦ noted (payer_of self (slip_from text)) (slip_from text) lines | suc n ↦ lines ]
took_in self (issue payee amount buffer) lines = lines
took_in self (balance code) lines = lines

-- The slips that settling applied, read off as it went: at each listed position the slip that was then first in line.
unfoldable pub applied_along : Replica → List ℕ → Lines → Lines
applied_along self [] lines = lines
applied_along self (p ∷ list) lines = applied_along (apply self p) list (noted p (slip_at self p 0) lines)

unfoldable pub applied : Replica → Call → Lines → Lines
applied self (take text list) lines =
    elim (taken self text list).answer [
      | zero ↦ applied_along (entered self (slip_from text)) (applying (entered self (slip_from text))) lines
      | suc n ↦ lines
    ]
applied self (issue payee amount buffer) lines = lines
applied self (balance code) lines = lines

-- Over a run of calls, from lines that were there before.
unfoldable pub taken_from : Lines → Replica → List Call → Lines
taken_from lines self [] = lines
taken_from lines self (c ∷ cs) = taken_from (took_in self c lines) (after self c) cs

unfoldable pub applied_from : Lines → Replica → List Call → Lines
applied_from lines self [] = lines
applied_from lines self (c ∷ cs) = applied_from (applied self c lines) (after self c) cs

-- Over a run from the opening.
abbrev pub taken_in : Replica → List Call → Lines
taken_in = taken_from no_slips

abbrev pub applied_in : Replica → List Call → Lines
applied_in = applied_from no_slips
