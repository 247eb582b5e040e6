-- Reading a register and a slip: the parts put together, and what the whole text answers.
use mathlib.Core.Path.{◌≡◌, refl, sym, ap, ◌∙◌}
use mathlib.Core.Bool.{not}
use mathlib.Core.Option.{Option, none, some}
use mathlib.Core.List.{List, [], ◌∷◌}
use Prim.Native.Nat.{ℕ, zero, suc}
use Rattle.std.proofs.Common.{Result}
use Rattle.std.proofs.Common as Std
use Rattle.std.specs.Option.{MatchOption, ok_or}
use Rattle.std.specs.Result.{IsErrAnd}
use Rattle.texts.specs.Bytes.{found, or_zeros, ◌>>=◌}
use Rattle.texts.specs.Layout.{Layout, ◌⟫◌, ◌then◌}
use Rattle.texts.specs.Answers.{first, answer_of, form, refusal_number}
use Rattle.texts.specs.Register.{RegisterRead, no_register, shops_line, shop_lines, own_line, parts_register, register_layout, register_in, shops_rows, register_rows, register_text_answer, register_said, register_read}
use Rattle.texts.specs.Slip.{SlipRead, no_slip, payer_line, slip_number_line, payee_line, amount_line, deps_line, dep_lines, slip_layout, slip_in, slip_said, slip_read}
use Rattle.texts.specs.declared.answers.Refusal.{Refusal}
use Rattle.texts.specs.declared.answers.Refusal.TheVariants.{Form}
use Rattle.texts.specs.declared.register.Register.{Register}
use Rattle.texts.specs.declared.slip.Slip.{Slip}
use Rattle.texts.proofs.Refusals.{not-done, handed-on}

-- ---- the lines put together

-- a step, and what is asked after it, the same each time
under : {A B : Type 0} (o : Option A) {f g : A → Option B} → ((a : A) → f a ≡ g a) → (o >>= f) ≡ (o >>= g)
under none h = refl
under (some a) h = h a

-- two layouts one after the other, and what is made of their values
followed : {A B C : Type 0} (L : Layout A) (M : A → Layout B) (t : List ℕ) (made : (A × B) × List ℕ → Option C)
    → ((L ⟫ M).read t >>= made) ≡ (L.read t >>= λ p. (M p.0).read p.1 >>= λ q. made ((p.0, q.0), q.1))
followed {A} {B} {C} L M t made = first_then (L.read t)
  where
    second : (p : A × List ℕ) (o : Option (B × List ℕ)) → ((o >>= λ q. some ((p.0, q.0), q.1)) >>= made) ≡ (o >>= λ q. made ((p.0, q.0), q.1))
    second p none = refl
    second p (some q) = refl

    first_then : (o : Option (A × List ℕ)) → ((o >>= λ p. (M p.0).read p.1 >>= λ q. some ((p.0, q.0), q.1)) >>= made) ≡ (o >>= λ p. (M p.0).read p.1 >>= λ q. made ((p.0, q.0), q.1))
    first_then none = refl
    first_then (some p) = second p ((M p.0).read p.1)

-- the lines, one after the other, are a register's: each begins where the one before it ends, and where one is not there no register is
pub register-lines : (t : List ℕ) → register_layout.read t
    ≡ (shops_line.read t >>= λ a. (shop_lines a.0).read a.1 >>= λ b. own_line.read b.1 >>= λ c. some (record { count = a.0; shops = b.0; own = c.0 }, c.1))
unfolding register_layout
register-lines t =
    followed (shops_line ⟫ shop_lines) (λ _. own_line) t (λ p. some (parts_register p.0, p.1))
    ∙ followed shops_line shop_lines t (λ p. own_line.read p.1 >>= λ q. some (parts_register (p.0, q.0), q.1))

-- and so are a slip's
pub slip-lines : (t : List ℕ) → slip_layout.read t
    ≡ (payer_line.read t >>= λ a. slip_number_line.read a.1 >>= λ b. payee_line.read b.1 >>= λ c. amount_line.read c.1 >>= λ d. deps_line.read d.1 >>= λ e. (dep_lines e.0).read e.1
    >>= λ f. some (record { payer = a.0; number = b.0; payee = c.0; amount = d.0; count = e.0; deps = f.0 }, f.1))
unfolding slip_layout
slip-lines t =
    let deps = deps_line ⟫ dep_lines in
    let amount = amount_line then deps in
    let payee = payee_line then amount in
    followed payer_line (λ _. slip_number_line then payee) t _
    ∙ under (payer_line.read t) (λ a.
    followed slip_number_line (λ _. payee) a.1 _
    ∙ under (slip_number_line.read a.1) (λ b.
    followed payee_line (λ _. amount) b.1 _
    ∙ under (payee_line.read b.1) (λ c.
    followed amount_line (λ _. deps) c.1 _
    ∙ under (amount_line.read c.1) (λ d.
    followed deps_line dep_lines d.1 _))))

-- ---- the slip's answer

pub slip-answer : (text : List ℕ) (o : Option Slip) → slip_in text ≡ o → ◌≡◌ {A = SlipRead} (record { answer = answer_of ((form, not (found o)) ∷ []); slip = or_zeros no_slip o }) (slip_read text)
unfolding slip_read
slip-answer text o e = ap (λ o. record { answer = answer_of ((form, not (found o)) ∷ []); slip = or_zeros no_slip o }) (sym e)

-- texts that carry the same slip, or none, read alike
pub slip-alike : (s t : List ℕ) → slip_in s ≡ slip_in t → slip_read s ≡ slip_read t
slip-alike s t e = sym (slip-answer s (slip_in t) e) ∙ slip-answer t (slip_in t) refl

module _ (text : List ℕ) where
  pub slip-there : {v : Slip} → slip_in text ≡ some v → ◌≡◌ {A = SlipRead} (record { answer = 0; slip = v }) (slip_read text)
  unfolding first
  slip-there {v} h = slip-answer text (some v) h

  pub slip-not-there : slip_in text ≡ none → ◌≡◌ {A = SlipRead} (record { answer = 1; slip = no_slip }) (slip_read text)
  unfolding first
  slip-not-there h = slip-answer text none h

-- the slip that was parsed, or the refusal in its place
pub slip-or-form : (text : List ℕ) (parsed : Std.Option Slip) → MatchOption parsed (slip_in text ≡ none) (λ s. slip_in text ≡ some s) → (answer : Result Slip Refusal) → answer ≡ ok_or parsed Form → slip_said answer ≡ slip_read text
slip-or-form text Std.None h answer e = ap slip_said e ∙ slip-not-there text h
slip-or-form text (Std.Some s) h answer e = ap slip_said e ∙ slip-there text h

-- ---- the register's answer

abbrev kept_if : ℕ → Register → Register
kept_if answer r = elim answer [ zero ↦ r | suc n ↦ no_register ]

pub register-answer : (text : List ℕ) (o : Option Register) → register_in text ≡ o
    → ◌≡◌ {A = RegisterRead} (record { answer = answer_of (register_rows (found o) (or_zeros no_register o)); register = kept_if (answer_of (register_rows (found o) (or_zeros no_register o))) (or_zeros no_register o) })
    (register_read text)
unfolding register_read register_text_answer
register-answer text o e =
    ap (λ o. record { answer = answer_of (register_rows (found o) (or_zeros no_register o)); register = kept_if (answer_of (register_rows (found o) (or_zeros no_register o))) (or_zeros no_register o) })
    (sym e)

-- texts that carry the same register, or none, read alike
pub register-alike : (s t : List ℕ) → register_in s ≡ register_in t → register_read s ≡ register_read t
register-alike s t e = sym (register-answer s (register_in t) e) ∙ register-answer t (register_in t) refl

module _ (text : List ℕ) where
  module _ {v : Register} (h : register_in text ≡ some v) where
    -- it was read: what is left to ask is twins and the own shop
    pub register-there : 0 ≡ answer_of (shops_rows v) → ◌≡◌ {A = RegisterRead} (record { answer = 0; register = v }) (register_read text)
    unfolding first
    register-there same = ap (λ n. record { answer = n; register = kept_if n v }) same ∙ register-answer text (some v) h

    pub register-refused : (answer : Result Register Refusal) (refusal : Refusal) → IsErrAnd answer (λ e. e ≡ refusal) → refusal_number refusal ≡ answer_of (shops_rows v) → register_said answer ≡ register_read text
    unfolding first
    register-refused answer refusal is same =
        ap register_said (handed-on answer is) ∙ go (refusal_number refusal) (not-done refusal) ∙ ap (λ n. record { answer = n; register = kept_if n v }) same ∙ register-answer text (some v) h
      where
        go : (n : ℕ) → (n ≡ 0 → ⊥) → ◌≡◌ {A = RegisterRead} (record { answer = n; register = no_register }) (record { answer = n; register = kept_if n v })
        go zero h = absurd (h refl)
        go (suc n) h = refl

  pub register-not-there : register_in text ≡ none → ◌≡◌ {A = RegisterRead} (record { answer = 1; register = no_register }) (register_read text)
  unfolding first
  register-not-there h = register-answer text none h
