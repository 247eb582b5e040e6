-- "Issue (payee code, amount, a lent buffer of at least 366 bytes)."
use Rattle.std.specs.Prelude.{Bool, not, ◌||◌, List, [], ◌∷◌, map, ℕ, zero, suc, ◌+◌, length, ltb, eqb}
use Rattle.texts.specs.Bounds.{most, slip_room}
use Rattle.texts.specs.Answers.{Row, shop, oneself, range, busy, short, usedup, room, state, answer_of}
use Rattle.texts.specs.Written.{over}
use Rattle.texts.specs.Code.{same_code, code_of}
use Rattle.texts.specs.Register.{listed}
use Rattle.texts.specs.Slip.{slip_layout}
use Rattle.texts.specs.declared.slip.Slip.{Slip}
use Rattle.replica.specs.declared.record.Shop.{Shop}
use Rattle.replica.specs.declared.record.Replica.{Replica}
use Rattle.replica.specs.Record.{own, shop_at, line_at}
use Rattle.replica.specs.Slips.{deps_from, slip_with}
use Rattle.replica.specs.State.{lawful}
use Rattle.replica.specs.Outcome.{Outcome, refused, did}

abbrev pub own_shop : Replica → Shop
own_shop self = shop_at self (own self)

-- 8 busy: issued number above own applied number, or own slips waiting
abbrev pub busy? : Replica → Bool
busy? self = ltb (own_shop self).applied self.issued || ltb 0 (line_at self (own self)).count

-- "Issue: 13, 11, 2, 3, 4, 8, 10, 9."
unfoldable pub issue_rows : Replica → List ℕ → ℕ → List ℕ → List Row
issue_rows self payee amount buffer =
    (state, not (lawful self)) ∷
    (room, ltb (length buffer) slip_room) ∷
    (shop, not (listed self.register (code_of payee))) ∷
    (oneself, same_code (code_of payee) self.register.own) ∷
    (range, eqb amount 0 || ltb most amount) ∷
    (busy, busy? self) ∷
    (usedup, eqb (own_shop self).applied most) ∷
    (short, ltb (own_shop self).balance amount) ∷
    []

abbrev pub issue_answer : Replica → List ℕ → ℕ → List ℕ → ℕ
issue_answer self payee amount buffer = answer_of (issue_rows self payee amount buffer)

-- "the slip with number = own applied number + 1 and one dependency per nonzero mark"
unfoldable pub issued_slip : Replica → List ℕ → ℕ → Slip
issued_slip self payee amount =
    slip_with self.register.own ((own_shop self).applied + 1) (code_of payee) amount
    (deps_from self.register.shops (map (λ (s : Shop). s.mark) self.shops))

abbrev pub issued_text : Replica → List ℕ → ℕ → List ℕ
issued_text self payee amount = slip_layout.text (issued_slip self payee amount)

-- "remembers the issued number; sets all marks to 0", "The slip counts only once the carrier brings it back": nothing is taken in here.
abbrev pub unmarked : Shop → Shop
unmarked s = record { balance = s.balance; taken = s.taken; applied = s.applied; mark = 0 }

unfoldable pub issuing : Replica → Replica
issuing self = record { register = self.register; issued = (own_shop self).applied + 1; shops = map unmarked self.shops; lines = self.lines }

-- "The count in the answer is the text's length, here and in issue."
unfoldable pub issued : Replica → List ℕ → ℕ → List ℕ → Outcome
issued self payee amount buffer =
    elim (issue_answer self payee amount buffer) [
      | zero ↦ did (length (issued_text self payee amount)) (issuing self)
      | suc n ↦ refused (suc n) self
    ]

-- "Bytes after the slip keep their values."
unfoldable pub issued_buffer : Replica → List ℕ → ℕ → List ℕ → List ℕ
issued_buffer self payee amount buffer =
    elim (issue_answer self payee amount buffer) [ zero ↦ over (issued_text self payee amount) buffer | suc n ↦ buffer ]
