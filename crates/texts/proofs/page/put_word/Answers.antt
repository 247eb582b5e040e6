-- A word stands on the page where there is room, and where there is none nothing has changed.
use Rattle.std.proofs.Common.{arith, rules, ◌+◌, ◌<◌, length}
use Rattle.texts.proofs.Paging.{wrote-put, no-room-put}
use Rattle.texts.proofs.page.put_word.Goals as goal
use Rattle.texts.proofs.page.put_word.Goals.{then-size-at-via-then-size-at, then-size-at-via-else-size-at+then-size-at-2}

pub returns-then-size-at : goal.returns-then-size-at
returns-then-size-at c =
    let none : length c.args.page.now < c.args.at + length c.args.word.now =
    elim c.then-size-at.branch [ then-size-at-via-then-size-at w ↦ omega arith | then-size-at-via-else-size-at+then-size-at-2 w ↦ omega arith ] in
    let kept = no-room-put c.args.page.now c.args.at c.args.word.now none in
    record { place = kept.0; bytes = kept.1 }

pub returns : goal.returns
returns c =
    let put = wrote-put c.put_word.ensures.wrote in
    let there = put.1 in
    record { place = put.0; bytes = search rules }
