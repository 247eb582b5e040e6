-- Laws of the asset transfer type: a history may start from equal balances, and two histories follow one another.
use mathlib.Core.Path.{◌≡◌, sym, ◌∙◌, subst}
use mathlib.Core.List.{List, ◌++◌}
use Prim.Native.Nat.{ℕ, ◌+◌, ◌-◌, ◌≤◌, ◌<◌}
use native.Mathlib.Omega.{arith}
use Rattle.replica.specs.AssetTransfer.{Balances, Same, Operation, read, Response, told, Step, succeeds, not-owner, too-little, reads, Event, Legal, nothing, next}

module _ (n : ℕ) (owns : ℕ → ℕ → Type 0) {q₀ q : Balances} (same : Same n q₀ q) where
  -- so may an operation
  step_from : {q' : Balances} {p : ℕ} {o : Operation} {r : Response} → Step n owns q p o q' r → Step n owns q₀ p o q' r
  step_from (succeeds {q' = q'} {a = a} {b = b} {x = x} la lb own enough from to others) =
      let i : x ≤ q₀ a = omega (arith, same a la) in
      let j : q' a ≡ q₀ a - x = omega (arith, same a la) in
      let k : q' b ≡ q₀ b + x = omega (arith, same b lb) in
      succeeds la lb own i j k (λ c l d e. others c l d e ∙ same c l)
  step_from (not-owner la lb denied kept) = not-owner la lb denied (λ c l. kept c l ∙ same c l)
  step_from (too-little {a = a} {x = x} la lb less kept) = let i : q₀ a < x = omega (arith, same a la) in too-little la lb i (λ c l. kept c l ∙ same c l)
  step_from (reads {q' = q'} {p = p} {a = a} la kept) = subst (λ (v : ℕ). Step n owns q₀ p (read a) q' (told v)) (sym (same a la)) (reads la (λ c l. kept c l ∙ same c l))

  pub legal-from : {q' : Balances} {events : List (Event n owns)} → Legal n owns q events q' → Legal n owns q₀ events q'
  legal-from (nothing kept) = nothing (λ c l. kept c l ∙ same c l)
  legal-from (next step more) = next (step_from step) more

pub legal-append : (n : ℕ) (owns : ℕ → ℕ → Type 0) {q q₁ q' : Balances} {events more : List (Event n owns)}
    → Legal n owns q events q₁ → Legal n owns q₁ more q' → Legal n owns q (events ++ more) q'
legal-append n owns (nothing same) after = legal-from n owns same after
legal-append n owns (next step rest) after = next step (legal-append n owns rest after)
