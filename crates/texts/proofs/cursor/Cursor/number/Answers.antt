-- The digits make a number of that width within its bounds, or it is not there.
use native.Mathlib.Omega.{arith}
use Rattle.texts.specs.Leaf.{number}
use Rattle.texts.proofs.Reading.{nothing-there, stands-there, number-there, number-missing, number-outside}
use Rattle.texts.proofs.cursor.Cursor.number.Goals as goal

pub returns-in_err-value-clause-reads : goal.returns-in_err-value-clause-reads
returns-in_err-value-clause-reads c =
    rw c.from_residual-in_err-value.ensures (nothing-there (number _ _ _) _ _ _ c.in_ok-rest.ensures.lookup.0.2 (number-missing _ _ _ _ c.in_err-value.ensures))

pub returns-then-value-least-clause-reads : goal.returns-then-value-least-clause-reads
returns-then-value-least-clause-reads c =
    nothing-there (number _ _ _) _ _ _ c.in_ok-rest.ensures.lookup.0.2 (number-outside _ _ _ _ _ _ c.in_ok-value.ensures.1 c.then-value-least.either)

pub returns-clause-reads : goal.returns-clause-reads
returns-clause-reads c =
    stands-there (number _ _ _) _ _ _ c.in_ok-rest.ensures.lookup.0.2 _ _ c.in_ok-value.ensures.0
    (number-there _ _ _ _ _ _ c.in_ok-value.ensures.1 (omega arith) (omega arith))
