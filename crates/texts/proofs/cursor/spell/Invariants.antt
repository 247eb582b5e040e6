-- The digits passed make the value.
use Prim.Native.Nat.{◌<◌, ◌^◌}
use mathlib.Core.Path.{◌≡◌}
use mathlib.Core.Option.{some}
use lib.ListN.{drop}
use Rattle.texts.specs.Leaf.{numeral}
use Rattle.texts.proofs.cursor.spell.Given as goal

abbrev pub invariant-loop-b : goal.invariant-loop-b
invariant-loop-b l = (l.value < 10 ^ l.b-index) × (numeral l.b-index l.t ≡ some (l.value, drop l.b-index l.t))
