-- Before each scan some slips have been applied and the rest is still to be settled; a scan finds the first ready slip or that there is none.
use mathlib.Core.Path.{refl, sym, ap, ◌∙◌}
use native.Mathlib.Omega.{arith}
use borrow.Author.Rules.{rules}
use Rattle.replica.proofs.Going.{scanned-none, scanned-more, going-none, going-movable, going-waits, going-eight, going-fits, going_less, going_more, going_done}
use Rattle.replica.specs.Settle.{waits}
use Rattle.replica.proofs.record.Replica.settle.Goals as goal

pub settle-init : goal.settle-init
settle-init c = search (going-none, rules)

pub loop-at-init : goal.loop-at-init
loop-at-init c = record { going = c.settle.invariant; scanned = scanned-none _ _; same = refl }

pub is_ready-requires : goal.is_ready-requires
is_ready-requires c = (c.loop-at.invariant.going.law, omega (arith, c.loop-at.invariant.going.count))

pub apply-requires-clause-own : goal.apply-requires-clause-own
apply-requires-clause-own c = c.loop-at.invariant.going.own_at

pub apply-requires-clause-funds : goal.apply-requires-clause-funds
apply-requires-clause-funds c = going-movable c.loop-at.invariant.going c.loop-at.at c.loop-at-test.true (sym c.is_ready.ensures ∙ c.if-is_ready.true)

pub apply-requires-clause-waits : goal.apply-requires-clause-waits
apply-requires-clause-waits c = going-waits c.loop-at.invariant.going c.loop-at.at (sym c.is_ready.ensures ∙ c.if-is_ready.true)

pub apply-requires-clause-eight : goal.apply-requires-clause-eight
apply-requires-clause-eight c = going-eight c.loop-at.invariant.going c.loop-at.at c.loop-at-test.true

pub bounds-list-done : goal.bounds-list-done
bounds-list-done c = going-fits c.loop-at.invariant.going c.loop-at.at c.loop-at-test.true (sym c.is_ready.ensures ∙ c.if-is_ready.true)

pub overflow_add-done : goal.overflow_add-done
overflow_add-done c = omega (arith, c.loop-at.invariant.going.left)

pub settle-smaller : goal.settle-smaller
settle-smaller c =
    omega (arith, going_less c.loop-at.invariant.going c.apply.new.self c.loop-at.at c.apply.ensures c.loop-at-test.true (sym c.is_ready.ensures ∙ c.if-is_ready.true), ap waits c.loop-at.invariant.same)

pub settle-preserved : goal.settle-preserved
settle-preserved c =
    going_more c.loop-at.invariant.going c.apply.new.self c.loop-at.at c.apply.ensures c.loop-at-test.true c.loop-at.invariant.scanned (sym c.is_ready.ensures ∙ c.if-is_ready.true)

pub loop-at-preserved : goal.loop-at-preserved
loop-at-preserved c = record {
  going = c.loop-at.invariant.going;
  scanned = scanned-more _ _ _ c.loop-at.invariant.scanned c.loop-at-test.true (sym c.is_ready.ensures ∙ c.if-is_ready.false);
  same = c.loop-at.invariant.same;
}

pub returns : goal.returns
returns c = going_done c.loop-at.invariant.going c.loop-at.at c.loop-at-test.false c.loop-at.invariant.scanned
