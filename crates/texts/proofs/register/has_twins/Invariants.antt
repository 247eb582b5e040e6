-- The loop asks of each shop whether its code stands again after it: the shops from `i` on decide, until one does or none is left.
use Rattle.texts.proofs.Places.{Single}
use Rattle.texts.proofs.register.has_twins.Given as goal

abbrev pub invariant-loop-i : goal.invariant-loop-i
invariant-loop-i l = Single l.shops l.i
