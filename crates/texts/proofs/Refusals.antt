-- Refusals and their numbers: no refusal has the number 0, a `?` hands on the refusal that it met, and no two answers are said alike.
use mathlib.Core.Bool.{true, false, false≢true}
use mathlib.Core.List.{List, [], ◌∷◌}
use Prim.Native.Nat.{ℕ, ◌-◌}
use lib.ListN.{get_or}
use Rattle.std.proofs.Common.{◌≡◌, refl, sym, ap, ◌∙◌, arith, Result, Ok, Err}
use Rattle.std.specs.Result.{IsErrAnd, is_ok}
use Rattle.texts.specs.Answers.{refusal_number, answer_number}
use Rattle.texts.specs.Written.{Written, written}
use Rattle.texts.specs.Register.{RegisterRead, register_said}
use Rattle.texts.specs.Slip.{SlipRead, slip_said}
use Rattle.texts.specs.Promises.{NumbersOneToOne, AnswerSaidOnce, RegisterSaidOnce, SlipSaidOnce, WrittenSaidOnce}
use Rattle.texts.specs.declared.answers.Refusal.{Refusal}
use Rattle.texts.specs.declared.answers.Refusal.TheVariants.{Form, Shop, Oneself, Range, Deps, Number, Full, Busy, Short, Usedup, Room, Twin, State}
use Rattle.texts.specs.declared.register.Register.{Register}
use Rattle.texts.specs.declared.slip.Slip.{Slip}

pub not-done : (refusal : Refusal) → refusal_number refusal ≡ 0 → ⊥
not-done Form h = omega (arith, h)
not-done Shop h = omega (arith, h)
not-done Oneself h = omega (arith, h)
not-done Range h = omega (arith, h)
not-done Deps h = omega (arith, h)
not-done Number h = omega (arith, h)
not-done Full h = omega (arith, h)
not-done Busy h = omega (arith, h)
not-done Short h = omega (arith, h)
not-done Usedup h = omega (arith, h)
not-done Room h = omega (arith, h)
not-done Twin h = omega (arith, h)
not-done State h = omega (arith, h)

pub handed-on : {A : Type 0} (answer : Result A Refusal) {refusal : Refusal} → IsErrAnd answer (λ e. e ≡ refusal) → answer ≡ Err refusal
handed-on (Ok given) h = absurd h
handed-on (Err e) h = ap Err h

-- an answer has the number 0 exactly where the call is done
pub zero-done : {A : Type 0} (answer : Result A Refusal) → true ≡ is_ok answer → answer_number answer ≡ 0
zero-done (Ok given) h = refl
zero-done (Err refusal) h = absurd (false≢true (sym h))

pub zero-refused : {A : Type 0} (answer : Result A Refusal) → false ≡ is_ok answer → answer_number answer ≡ 0 → ⊥
zero-refused (Ok given) h e = absurd (false≢true h)
zero-refused (Err refusal) h e = not-done refusal e

-- ---- an answer is determined by its number and what it gives

refusals : List Refusal
refusals = Form ∷ Shop ∷ Oneself ∷ Range ∷ Deps ∷ Number ∷ Full ∷ Busy ∷ Short ∷ Usedup ∷ Room ∷ Twin ∷ State ∷ []

-- each stands at its number, from 1
at-number : (refusal : Refusal) → get_or refusals (refusal_number refusal - 1) Form ≡ refusal
unfolding refusals
at-number Form = refl
at-number Shop = refl
at-number Oneself = refl
at-number Range = refl
at-number Deps = refl
at-number Number = refl
at-number Full = refl
at-number Busy = refl
at-number Short = refl
at-number Usedup = refl
at-number Room = refl
at-number Twin = refl
at-number State = refl

pub numbers-one-to-one : NumbersOneToOne
numbers-one-to-one a b e = sym (at-number a) ∙ ap (λ n. get_or refusals (n - 1) Form) e ∙ at-number b

pub answered-once : {A : Type 0} (a b : Result A Refusal) → answer_number a ≡ answer_number b → ((x y : A) → a ≡ Ok x → b ≡ Ok y → x ≡ y) → a ≡ b
answered-once (Ok x) (Ok y) e given = ap Ok (given x y refl refl)
answered-once (Ok x) (Err refusal) e given = absurd (not-done refusal (sym e))
answered-once (Err refusal) (Ok y) e given = absurd (not-done refusal e)
answered-once (Err f) (Err g) e given = ap Err (numbers-one-to-one f g e)

pub answer-said-once : AnswerSaidOnce
answer-said-once a b e = answered-once a b e (λ x y h k. refl)

-- where what is said has the answer's number and its value
pub said-once : {A S : Type 0} (said : Result A Refusal → S) (number : S → ℕ) (value : S → A) → ((a : Result A Refusal) → answer_number a ≡ number (said a)) → ((x : A) → value (said (Ok x)) ≡ x)
    → (a b : Result A Refusal) → said a ≡ said b → a ≡ b
said-once said number value numbers values a b e =
    answered-once a b (numbers a ∙ ap number e ∙ sym (numbers b)) (λ x y h k. sym (values x) ∙ ap value (sym (ap said h) ∙ e ∙ ap said k) ∙ values y)

pub register-said-once : RegisterSaidOnce
register-said-once = said-once register_said (λ r. r.answer) (λ r. r.register) (elim [ Ok r ↦ refl | Err refusal ↦ refl ]) (λ x. refl)

pub slip-said-once : SlipSaidOnce
slip-said-once = said-once slip_said (λ r. r.answer) (λ r. r.slip) (elim [ Ok s ↦ refl | Err refusal ↦ refl ]) (λ x. refl)

pub written-said-once : WrittenSaidOnce
written-said-once = said-once written (λ r. r.answer) (λ r. r.count) (elim [ Ok count ↦ refl | Err refusal ↦ refl ]) (λ x. refl)
