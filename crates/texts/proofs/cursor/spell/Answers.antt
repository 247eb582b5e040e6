-- The digits passed make the value, and the loop stops where a byte is no digit.
use mathlib.Core.Path.{refl, sym, ◌∙◌}
use mathlib.Core.Logic.{inl, inr}
use native.Mathlib.Omega.{arith}
use lib.Dec.{lit<}
use Rattle.texts.specs.Leaf.{numeral}
use Rattle.texts.proofs.Spelling.{numeral-short, spelling-more, spelling-stops}
use Rattle.texts.proofs.cursor.spell.Goals as goal

pub loop-b-init : goal.loop-b-init
unfolding numeral
loop-b-init c = (lit< tt, refl)

pub returns-then-not-is_digit : goal.returns-then-not-is_digit
returns-then-not-is_digit c =
    let p = c.in_ok-b-items.ensures.lookup.0 in
    spelling-stops _ _ _ _ _ p.2 p.1 c.loop-b.invariant c.loop-b-test.true (sym c.is_digit.ensures ∙ c.if-not-is_digit.true)

pub loop-b-preserved : goal.loop-b-preserved
loop-b-preserved c =
    let p = c.in_ok-b-items.ensures.lookup.0 in
    spelling-more _ _ _ _ _ p.2 p.1 c.loop-b.invariant c.loop-b-test.true (sym c.is_digit.ensures ∙ c.if-not-is_digit.false)

pub returns-in_err-b-items : goal.returns-in_err-b-items
returns-in_err-b-items c =
    rw c.from_residual.ensures (numeral-short _ _ (elim c.in_err-b-items.ensures.lookup.0 [ inl h ↦ absurd (omega arith) | inr h ↦ h ]))
