-- A number is written from its last digit to its first: what is left of the value are the digits that are still to be written.
use Rattle.std.proofs.Common.{◌≡◌}
use Rattle.texts.proofs.Writing.{Spelled}
use Rattle.texts.proofs.pen.Pen.put_number.Given as goal

abbrev pub invariant-loop-i : goal.invariant-loop-i
invariant-loop-i l = record {
  spelled : Spelled l.initial.self.page.now l.self.at l.value l.width l.self.page.now l.left l.i;
  place : l.self.at ≡ l.initial.self.at;
  same_page : l.self.page.ghost_name ≡ l.initial.self.page.ghost_name;
}
