-- A line stands on the page where there is room, and where there is none nothing has changed.
use Rattle.std.proofs.Common.{arith, rules, ◌+◌, ◌<◌, length}
use Rattle.texts.proofs.Paging.{wrote-put, no-room-line, room-line}
use Rattle.texts.proofs.page.put_number_line.Goals as goal
use Rattle.texts.proofs.page.put_number_line.Goals.{then-size-at-via-then-size-at, then-size-at-via-else-size-at+then-size-at-2, then-size-at-via-else-size-at+else-size-at-2+then-size-at-3}

pub returns-then-size-at : goal.returns-then-size-at
returns-then-size-at c =
    let none : length c.args.page.now < c.args.at + (length c.args.key.now + (c.args.width + 1)) =
    elim c.then-size-at.branch [
      | then-size-at-via-then-size-at w ↦ omega arith
      | then-size-at-via-else-size-at+then-size-at-2 w ↦ omega arith
      | then-size-at-via-else-size-at+else-size-at-2+then-size-at-3 w ↦ omega arith
    ] in
    let kept = no-room-line c.args.page.now c.args.at c.args.key.now c.args.width c.args.value (omega arith) in
    record { place = kept.0; bytes = kept.1 }

pub put_number_line-requires : goal.put_number_line-requires
put_number_line-requires c =
    room-line c.args.page.now c.args.at c.args.key.now c.args.width c.args.value (omega arith)

pub returns : goal.returns
returns c =
    let put = wrote-put c.put_number_line.ensures.wrote in
    let there = put.1 in
    record { place = put.0; bytes = search rules }
