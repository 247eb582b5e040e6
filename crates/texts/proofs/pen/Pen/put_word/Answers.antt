-- A word is written byte by byte.
use Rattle.std.proofs.Common.{rules, refl}
use Rattle.texts.proofs.Writing.{copied_none, copied_more}
use Rattle.texts.proofs.pen.Pen.put_word.Goals as goal

pub loop-i-init : goal.loop-i-init
loop-i-init c = record { copied = copied_none c.requires; place = refl; same_page = refl }

pub loop-i-preserved : goal.loop-i-preserved
loop-i-preserved c = record { copied = search (copied_more, rules); place = search rules; same_page = search rules }
