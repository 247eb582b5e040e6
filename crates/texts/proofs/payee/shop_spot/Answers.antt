-- The register was read and lists the code, or one of the two fails.
use Rattle.std.proofs.Common.{rules, refl}
use Rattle.texts.proofs.Refusals.{not-done}
use Rattle.texts.proofs.Payees.{read_fits, position-within, spot-there, spot-unlisted, spot-refused}
use Rattle.texts.proofs.payee.shop_spot.Goals as goal

pub shop_start-requires : goal.shop_start-requires
shop_start-requires c = (read_fits _ _ c.in-Ok.ensures refl, position-within c.in-Ok.register _ _ c.position.ensures)

pub returns-in_default : goal.returns-in_default
returns-in_default c = spot-refused _ _ c.in_default.ensures _ (not-done c.in_default.field-0)

pub returns-then-not-lists : goal.returns-then-not-lists
returns-then-not-lists c = spot-unlisted _ _ c.in-Ok.ensures _ _ c.lists.ensures (search rules)

pub returns : goal.returns
returns c =
    spot-there _ _ c.in-Ok.ensures _ _ refl c.lists.ensures (search rules) c.position.ensures c.shop_start.ensures
