-- The loop asks of each shop whether its code stands again after it: the shops from `i` on decide, until one does or none is left.
use Rattle.std.proofs.Common.{rules}
use Rattle.texts.proofs.Places.{single-none, single_more, single-twin, single-done}
use Rattle.texts.proofs.register.has_twins.Goals as goal

pub loop-i-init : goal.loop-i-init
loop-i-init c = single-none _

pub returns-then-among : goal.returns-then-among
returns-then-among c = single-twin c.loop-i.invariant _ (search rules) _ c.among.ensures c.if-among.true

pub loop-i-preserved : goal.loop-i-preserved
loop-i-preserved c = single_more c.loop-i.invariant _ (search rules) _ c.among.ensures c.if-among.false

pub returns : goal.returns
returns c = single-done c.loop-i.invariant (search rules)
