-- The digits counted are the first of t that `take_while` lets through, and they are copied over so many zeros.
use Rattle.std.proofs.Common.{rules, ◌≡◌, length, take, refl}
use Rattle.std.specs.List.{take_while}
use Rattle.std.proofs.lemmas.Iterator.{YieldsList-from_slice, YieldsList-from_take}
use Rattle.std.proofs.lemmas.Iterator.Search.{YieldsList-from_take_while}
use Rattle.std.proofs.lemmas.Iterator.Consumers.{count_from_yields_List}
use Rattle.texts.specs.Leaf.{digit}
use Rattle.texts.proofs.Spelling.{held_front}
use Rattle.texts.proofs.code.hold.Goals as goal

pub returns : goal.returns
returns c =
    let t = c.args.t.now in
    let n : c.count-len.result ≡ length (take_while digit (take 8 t)) =
    count_from_yields_List c.take_while.result _ c.count-len.ensures.ran
    (YieldsList-from_take_while _ digit (YieldsList-from_take 8 (YieldsList-from_slice t (search rules)) (search rules)) refl (search rules) (λ x b q k. search rules)) in
    held_front t _ _ n c.copy_from_slice.ensures.after
