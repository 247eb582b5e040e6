-- The bytes one after the other: before each turn the first of them are fed, and what was said is printed.
use Rattle.std.proofs.Common.{arith, refl, sym, ◌≡◌, length, take}
use Rattle.texts.specs.Written.{over}
use Rattle.desk.specs.Desk.{fed, said}
use Rattle.std.proofs.lemmas.List.{length-take}
use Rattle.desk.proofs.Feeding.{first_bytes, feeding-none, feeding-ended, feeding-kept, feeding-done, feeding-stopped, feeding-same}
use Rattle.desk.proofs.desk.Desk.feed.Goals as goal
use Rattle.desk.proofs.desk.Desk.feed.Goals.{then-is_empty_line, else-is_empty_line, else-loop-b-test, then-loop-b-test+then-stops}

pub loop-b-init : goal.loop-b-init
loop-b-init c = feeding-none _ _ _ (omega (arith, length-take c.min.result c.args.window.now)) refl (omega arith)

pub loop-b-preserved : goal.loop-b-preserved
loop-b-preserved c =
    let more = sym c.if-stops.ensures in
    elim c.if-is_empty_line.branch [
      | then-is_empty_line w ↦
          feeding-same w.self-is w.printer-is
          (feeding-ended c.loop-b.invariant c.loop-b-test.true more (sym w.if-is_empty_line.ensures) w.close_chunk.ensures.desk w.close_chunk.ensures.page)
      | else-is_empty_line w ↦
          feeding-same w.self-is w.printer-is
          (feeding-kept c.loop-b.invariant c.loop-b-test.true more (sym w.if-is_empty_line.ensures) w.keep.ensures)
    ]

pub returns : goal.returns
returns c =
    let w = take c.args.n c.args.window.now in
    let d = c.args.self.now in
    let first = first_bytes c.args.n c.min.result c.args.window.now c.min.ensures (omega arith) in
    let told : (c.loop-b.self ≡ fed d w) × ((c.loop-b.printer.at ≡ length (said d w)) × (c.loop-b.printer.page.now ≡ over (said d w) c.args.page.now)) =
    elim c.loop-b-test.branch [
      | else-loop-b-test e ↦ feeding-done c.loop-b.invariant first e.loop-b-test.false
      | then-loop-b-test+then-stops e ↦ feeding-stopped c.loop-b.invariant first (sym e.if-stops.ensures)
    ] in
    record { desk = told.0; count = told.1.0; page = told.1.1 }
