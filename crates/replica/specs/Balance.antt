-- "Balance of a code." "Balance: 13, 2."
use Rattle.std.specs.Prelude.{not, List, [], ◌∷◌, ℕ, zero, suc}
use Rattle.texts.specs.Answers.{Row, shop, state, answer_of}
use Rattle.texts.specs.Code.{code_of}
use Rattle.texts.specs.Register.{position, listed}
use Rattle.replica.specs.declared.record.Replica.{Replica}
use Rattle.replica.specs.Record.{shop_at}
use Rattle.replica.specs.State.{lawful}
use Rattle.replica.specs.Outcome.{Outcome, refused}

unfoldable pub balance_rows : Replica → List ℕ → List Row
balance_rows self code = (state, not (lawful self)) ∷ (shop, not (listed self.register (code_of code))) ∷ []

unfoldable pub asked : Replica → List ℕ → Outcome
asked self code =
    elim (answer_of (balance_rows self code)) [
      | zero ↦ record { answer = 0; count = 0; balance = (shop_at self (position self.register (code_of code))).balance; replica = self }
      | suc n ↦ refused (suc n) self
    ]
