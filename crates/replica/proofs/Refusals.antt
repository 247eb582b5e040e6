-- "Who can refuse whom. For a legal state and a large enough list, answers 1 to 6 of a take rest on the register, the slip and the payer's
-- taken number only. Answer 7 rests besides on the payer's waiting count."
use mathlib.Core.Path.{◌≡◌, sym, ap, ap₂, ◌∙◌}
use mathlib.Core.Logic.{◌≢◌}
use mathlib.Core.Bool.{true, not}
use mathlib.Core.List.{List, [], ◌∷◌, ◌++◌}
use Prim.Native.Nat.{ℕ, ◌+◌, ◌≤◌}
use native.Mathlib.Omega.{arith}
use lib.ListN.{length}
use lib.Dec.{eqb, ltb}
use borrow.Author.Tests.{le-ltb}
use Rattle.texts.specs.Bytes.{found}
use Rattle.texts.specs.Answers.{Row, form, shop, oneself, range, deps, number, full, room, state, answer_of}
use Rattle.texts.specs.Slip.{slip_in}
use Rattle.texts.specs.declared.register.Register.{Register}
use Rattle.texts.proofs.Firsts.{passes-by, before_last}
use Rattle.replica.specs.declared.record.Replica.{Replica}
use Rattle.replica.specs.Record.{shop_at, line_at}
use Rattle.replica.specs.Checks.{range?, shop?, self?, deps?}
use Rattle.replica.specs.State.{lawful}
use Rattle.replica.specs.Take.{slip_from, payer_of, full?, take_rows, take_answer}

-- rows 1 to 6, over the register, the text and the payer's taken number
abbrev to_six : Register → List ℕ → ℕ → List Row
to_six r text taken =
    (form, not (found (slip_in text))) ∷
    (range, range? (slip_from text)) ∷
    (shop, shop? r (slip_from text)) ∷
    (oneself, self? (slip_from text)) ∷
    (deps, deps? r (slip_from text)) ∷
    (number, not (eqb (slip_from text).number (taken + 1))) ∷
    []

abbrev payer_taken : Replica → List ℕ → ℕ
payer_taken self text = (shop_at self (payer_of self (slip_from text))).taken

abbrev payer_waits : Replica → List ℕ → ℕ
payer_waits self text = (line_at self (payer_of self (slip_from text))).count

abbrev rest : Replica → List ℕ → List Row
rest self text = to_six self.register text (payer_taken self text) ++ ((full, full? self (slip_from text)) ∷ [])

opened_up : (self : Replica) (text list : List ℕ) → lawful self ≡ true → 128 ≤ length list → take_answer self text list ≡ answer_of (rest self text)
unfolding take_rows
opened_up self text list l h = passes-by state (not (lawful self)) _ (ap not l) ∙ passes-by room (ltb (length list) 128) _ (le-ltb (length list) 128 h)

module _ (a b : Replica) (text xs ys : List ℕ) (la : lawful a ≡ true) (lb : lawful b ≡ true) (ha : 128 ≤ length xs) (hb : 128 ≤ length ys)
    (register : a.register ≡ b.register) (taken : payer_taken a text ≡ payer_taken b text) where
  rows : to_six a.register text (payer_taken a text) ≡ to_six b.register text (payer_taken b text)
  rows = ap₂ (λ r k. to_six r text k) register taken

  pub answers-to-six : (n : ℕ) → n ≢ 0 → n ≤ 6 → take_answer a text xs ≡ n → take_answer b text ys ≡ n
  answers-to-six n z h e =
      opened_up b text ys lb hb
      ∙ before_last full (to_six b.register text (payer_taken b text)) (full? a (slip_from text)) (full? b (slip_from text)) n z (λ i. omega arith)
      (ap (λ r. answer_of (r ++ ((full, full? a (slip_from text)) ∷ []))) (sym rows) ∙ sym (opened_up a text xs la ha) ∙ e)

  pub answer-seven : payer_waits a text ≡ payer_waits b text → take_answer a text xs ≡ take_answer b text ys
  answer-seven w =
      opened_up a text xs la ha
      ∙ ap₂ (λ r k. answer_of (r ++ ((full, lib.Dec.leb 8 k) ∷ []))) rows w
      ∙ sym (opened_up b text ys lb hb)
