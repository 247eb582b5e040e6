-- The codes are looked up one after the other: after i turns the positions of the first i dependencies stand in their places.
use Rattle.texts.specs.Register.{position}
use Rattle.texts.specs.Slip.{deps_of}
use Rattle.replica.proofs.Checked.{Filled}
use Rattle.replica.proofs.checks.PlacedSlip.new.Given as goal

abbrev pub invariant-loop-i : goal.invariant-loop-i
invariant-loop-i l = Filled (λ d. position l.fn.register d.code) 0 16 (deps_of l.fn.slip) l.deps l.i
