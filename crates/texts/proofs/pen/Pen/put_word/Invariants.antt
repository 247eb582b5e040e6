-- A word is written byte by byte.
use Rattle.std.proofs.Common.{◌≡◌}
use Rattle.texts.proofs.Writing.{Copied}
use Rattle.texts.proofs.pen.Pen.put_word.Given as goal

abbrev pub invariant-loop-i : goal.invariant-loop-i
invariant-loop-i l = record {
  copied : Copied l.initial.self.page.now l.self.at l.w l.self.page.now l.i;
  place : l.self.at ≡ l.initial.self.at;
  same_page : l.self.page.ghost_name ≡ l.initial.self.page.ghost_name;
}
