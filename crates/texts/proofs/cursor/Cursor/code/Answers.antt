-- The run of digits is a code where it is not empty and the closing byte follows it; otherwise there is none.
use mathlib.Core.Path.{sym, ◌∙◌}
use mathlib.Core.Logic.{inl, inr}
use native.Mathlib.Omega.{arith}
use Rattle.texts.specs.Code.{code}
use Rattle.texts.proofs.Reading.{nothing-there, code-stands-there, code-missing}
use Rattle.texts.proofs.cursor.Cursor.code.Goals as goal

pub returns-in_err-after : goal.returns-in_err-after
returns-in_err-after c =
    let short = c.in_err-after.ensures.lookup.3 in
    rw c.from_residual-in_err-after.ensures (nothing-there (code _) _ _ _ c.in_ok-rest.ensures.lookup.0.2 (code-missing _ _ _ c.hold-code.ensures (λ _ l _. omega (arith, short))))

pub returns-then-code-lt1 : goal.returns-then-code-lt1
returns-then-code-lt1 c =
    nothing-there (code _) _ _ _ c.in_ok-rest.ensures.lookup.0.2
    (code-missing _ _ _ c.hold-code.ensures (λ l m n.
    elim c.then-code-lt1.either [ inl h ↦ omega arith | inr h ↦ h.1 (c.in_ok-after.ensures.lookup.3.1 0 ∙ n) ]))

pub returns : goal.returns
returns c =
    code-stands-there _ _ _ _ c.in_ok-rest.ensures.lookup.0.2 _ c.hold-code.ensures c.if-code-lt1.false c.in_ok-after.ensures.lookup.3.0
    (sym (c.in_ok-after.ensures.lookup.3.1 0) ∙ c.if-after-closing.false)
