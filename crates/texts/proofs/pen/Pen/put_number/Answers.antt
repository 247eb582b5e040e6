-- A number is written from its last digit to its first: what is left of the value are the digits that are still to be written.
use Rattle.std.proofs.Common.{rules, refl, subst, ℕ, ◌+◌}
use Rattle.texts.specs.Leaf.{digits}
use Rattle.texts.specs.Inside.{Wrote}
use Rattle.texts.proofs.Writing.{spelled_none, spelled-more, spelled-done}
use Rattle.texts.proofs.pen.Pen.put_number.Goals as goal

pub loop-i-init : goal.loop-i-init
loop-i-init c = record { spelled = spelled_none c.requires; place = refl; same_page = refl }

pub loop-i-preserved : goal.loop-i-preserved
loop-i-preserved c = record { spelled = search (spelled-more, rules); place = search rules; same_page = search rules }

pub returns : goal.returns
returns c =
    let done = c.loop-i.invariant in
    record {
      same_page = done.same_page;
      wrote = subst (λ (n : ℕ). Wrote c.args.self.now.page.now n (digits c.args.width c.args.value) c.loop-i.self.page.now (c.loop-i.self.at + c.args.width)) done.place (spelled-done done.spelled c.loop-i-test.false);
    }
