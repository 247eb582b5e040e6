-- A call that does something where its answer is 0 and gives back what it got otherwise; and what is said of a reply determines it.
use mathlib.Core.Path.{◌≡◌, refl, sym, ap, ◌∙◌}
use mathlib.Core.List.{List}
use Prim.Native.Nat.{ℕ, zero, suc}
use Rattle.std.proofs.Common.{Ok, Err}
use Rattle.texts.specs.Answers.{answer_number}
use Rattle.texts.proofs.Refusals.{answered-once, said-once}
use Rattle.replica.specs.declared.record.Replica.{Replica}
use Rattle.replica.specs.declared.reply.Reply.{Reply}
use Rattle.replica.specs.Outcome.{Outcome, refused, count_of, count_said, balance_said, open_said}
use Rattle.replica.specs.Promises.{Kept, CountSaidOnce, BalanceSaidOnce, OpenSaidOnce}

-- a call gives the outcome that it promises, and leaves the lent bytes that it promises
abbrev pub Gives : Outcome → Outcome → List ℕ → List ℕ → Type 0
Gives o promised after promised_bytes = record { outcome : o ≡ promised; bytes : after ≡ promised_bytes }

-- the outcome, and the lent bytes, at an answer
abbrev pub outcome_if : Outcome → Replica → ℕ → Outcome
outcome_if o self answer = elim answer as (λ _. Outcome) [ zero ↦ o | suc n ↦ refused (suc n) self ]

abbrev pub bytes_if : List ℕ → List ℕ → ℕ → List ℕ
bytes_if after lent answer = elim answer as (λ _. List ℕ) [ zero ↦ after | suc n ↦ lent ]

module _ (o : Outcome) (self : Replica) where
  -- its answer is that answer
  pub answer-if : o.answer ≡ 0 → (n : ℕ) → (outcome_if o self n).answer ≡ n
  answer-if e zero = e
  answer-if e (suc n) = refl

  -- a refusal
  pub refused-if : (n : ℕ) → (n ≡ 0 → ⊥) → refused n self ≡ outcome_if o self n
  refused-if zero h = absurd (h refl)
  refused-if (suc n) h = refl

  -- gives back what it got
  pub kept_if : (after lent : List ℕ) (n : ℕ) → (n ≡ 0 → ⊥) → Kept self (outcome_if o self n) lent (bytes_if after lent n)
  kept_if after lent zero h = absurd (h refl)
  kept_if after lent (suc n) h = record { count = refl; balance = refl; state = refl; bytes = refl }

pub bytes-if : (after lent : List ℕ) (n : ℕ) → (n ≡ 0 → ⊥) → lent ≡ bytes_if after lent n
bytes-if after lent zero h = absurd (h refl)
bytes-if after lent (suc n) h = refl

-- ---- what is said of a reply determines it

-- of a call that gives a number, which is said as one of the outcome's
reply-once : (said : Reply ℕ → Outcome) (given : Outcome → ℕ)
    → ((r : Reply ℕ) → (said r).answer ≡ answer_number r.answer) → ((r : Reply ℕ) → given (said r) ≡ count_of r.answer) → ((r : Reply ℕ) → (said r).replica ≡ r.replica)
    → (a b : Reply ℕ) → said a ≡ said b → a ≡ b
reply-once said given number gives state a b e =
    let answers : a.answer ≡ b.answer =
    answered-once a.answer b.answer (sym (number a) ∙ ap (λ (o : Outcome). o.answer) e ∙ number b)
    (λ x y h k. ap count_of (sym h) ∙ sym (gives a) ∙ ap given e ∙ gives b ∙ ap count_of k) in
    let states : a.replica ≡ b.replica = sym (state a) ∙ ap (λ (o : Outcome). o.replica) e ∙ state b in
    λ i. record { answer = answers i; replica = states i }

pub count-said-once : CountSaidOnce
count-said-once = reply-once count_said (λ o. o.count) (λ r. refl) (λ r. refl) (λ r. refl)

pub balance-said-once : BalanceSaidOnce
balance-said-once = reply-once balance_said (λ o. o.balance) (λ r. refl) (λ r. refl) (λ r. refl)

pub open-said-once : OpenSaidOnce
open-said-once = said-once open_said (λ o. o.answer) (λ o. o.replica) (elim [ Ok self ↦ refl | Err refusal ↦ refl ]) (λ x. refl)
