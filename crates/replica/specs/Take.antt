-- "Take (slip text, a lent list of at least 128 bytes)."
use Rattle.std.specs.Prelude.{Bool, not, List, [], ◌∷◌, ℕ, zero, suc, ◌+◌, length, set, leb, ltb, eqb}
use Rattle.texts.specs.Bytes.{found}
use Rattle.texts.specs.Answers.{Row, form, shop, oneself, range, deps, number, full, room, state, answer_of}
use Rattle.texts.specs.Written.{over}
use Rattle.texts.specs.Register.{position}
use Rattle.texts.specs.Slip.{slip_in, slip_read}
use Rattle.texts.specs.declared.slip.Slip.{Slip}
use Rattle.replica.specs.declared.record.Shop.{Shop}
use Rattle.replica.specs.declared.record.Waiting.{Waiting}
use Rattle.replica.specs.declared.record.Line.{Line}
use Rattle.replica.specs.declared.record.Replica.{Replica}
use Rattle.replica.specs.Bounds.{list_room, most_waiting}
use Rattle.replica.specs.Record.{shop_at, line_at, adjust}
use Rattle.replica.specs.Slips.{waiting_of}
use Rattle.replica.specs.Checks.{range?, shop?, self?, deps?}
use Rattle.replica.specs.State.{lawful}
use Rattle.replica.specs.Settle.{settled, applying}
use Rattle.replica.specs.Outcome.{Outcome, refused, did}

-- The slip of the text (zeros where it has none), and its payer's position.
abbrev pub slip_from : List ℕ → Slip
slip_from text = (slip_read text).slip

abbrev pub payer_of : Replica → Slip → ℕ
payer_of self s = position self.register s.payer

-- 6 number: number is not the payer's taken number + 1
abbrev pub number? : Replica → Slip → Bool
number? self s = not (eqb s.number ((shop_at self (payer_of self s)).taken + 1))

-- 7 full: the payer has 8 waiting
abbrev pub full? : Replica → Slip → Bool
full? self s = leb most_waiting (line_at self (payer_of self s)).count

-- "Take: 13, 11, 1, 4, 2, 3, 5, 6, 7."
unfoldable pub take_rows : Replica → List ℕ → List ℕ → List Row
take_rows self text list =
    let s = slip_from text in
    (state, not (lawful self)) ∷
    (room, ltb (length list) list_room) ∷
    (form, not (found (slip_in text))) ∷
    (range, range? s) ∷
    (shop, shop? self.register s) ∷
    (oneself, self? s) ∷
    (deps, deps? self.register s) ∷
    (number, number? self s) ∷
    (full, full? self s) ∷
    []

abbrev pub take_answer : Replica → List ℕ → List ℕ → ℕ
take_answer self text list = answer_of (take_rows self text list)

-- "An accepted slip is put last in its payer's line"
abbrev pub with_last : Line → Waiting → Line
with_last l w = record { count = l.count + 1; slips = set l.slips l.count w }

abbrev pub took_one : Shop → Shop
took_one s = record { balance = s.balance; taken = s.taken + 1; applied = s.applied; mark = s.mark }

unfoldable pub entered : Replica → Slip → Replica
entered self s =
    record {
      register = self.register;
      issued = self.issued;
      shops = adjust took_one (payer_of self s) self.shops;
      lines = set self.lines (payer_of self s) (with_last (line_at self (payer_of self s)) (waiting_of self.register s));
    }

-- "then settle. The answer is how many slips were applied, n", "A slip that waits has answer 0: it was taken."
unfoldable pub taken : Replica → List ℕ → List ℕ → Outcome
taken self text list =
    elim (take_answer self text list) [
      | zero ↦ did (length (applying (entered self (slip_from text)))) (settled (entered self (slip_from text)))
      | suc n ↦ refused (suc n) self
    ]

-- "the first n bytes of the list are the payers' positions in order of applying, the rest of the list unchanged"
unfoldable pub taken_list : Replica → List ℕ → List ℕ → List ℕ
taken_list self text list = elim (take_answer self text list) [ zero ↦ over (applying (entered self (slip_from text))) list | suc n ↦ list ]
