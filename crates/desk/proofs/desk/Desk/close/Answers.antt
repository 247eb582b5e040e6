-- The last chunk and then the shops, where there are any: what was printed is one text.
use Rattle.std.proofs.Common.{arith, refl, sym, ◌≡◌, length}
use Rattle.texts.specs.Written.{over}
use Rattle.desk.specs.Desk.{closing}
use Rattle.desk.proofs.Reporting.{prints_at}
use Rattle.desk.proofs.Feeding.{closing-room, closing-shops, closing-none, printed-over}
use Rattle.desk.proofs.desk.Desk.close.Goals as goal
use Rattle.desk.proofs.desk.Desk.close.Goals.{then-lawful, else-lawful}

pub put_shops-requires : goal.put_shops-requires
put_shops-requires c =
    let lawful = sym c.if-lawful.ensures in
    (lawful, closing-room c.args.self _ (c.close_last.ensures.desk, c.close_last.ensures.page) lawful refl (omega arith))

pub returns : goal.returns
returns c =
    let told : (c.if-lawful.printer.at ≡ length (closing c.args.self)) × (c.if-lawful.printer.page.now ≡ over (closing c.args.self) c.args.page.now) =
    elim c.if-lawful.branch [
      | then-lawful w ↦
          printed-over _ refl (prints_at w.printer-is (closing-shops c.args.self _ (c.close_last.ensures.desk, c.close_last.ensures.page) (sym w.if-lawful.ensures) w.put_shops.ensures))
      | else-lawful w ↦ printed-over _ refl (prints_at w.printer-is (closing-none c.args.self _ (c.close_last.ensures.desk, c.close_last.ensures.page) (sym w.if-lawful.ensures)))
    ] in
    record { count = told.0; page = told.1 }
