-- The lines of the shops passed are counted, and the key of the line that is wanted.
use Rattle.std.proofs.Common.{arith, []}
use Rattle.texts.specs.declared.entry.Entry.{Entry}
use Rattle.texts.proofs.Legal.{register-fits}
use Rattle.texts.proofs.Payees.{started_none, started-more, started-done, shop-few, below-p}
use Rattle.texts.proofs.payee.shop_start.Goals as goal

-- a place past the end, as the checker has it
abbrev blank : Entry
blank = record { code = record { digits = []; len = 0 }; number = 0 }

pub shared_ref_as_front-shop-items : goal.shared_ref_as_front-shop-items
shared_ref_as_front-shop-items c = omega (arith, (register-fits c.args.register c.requires.0).most)

pub loop-shop-init : goal.loop-shop-init
loop-shop-init c = started_none _

pub overflow_add-at : goal.overflow_add-at
overflow_add-at c = omega (arith, shop-few c.args.register c.requires.0 c.args.position c.requires.1 c.loop-shop.shop-index c.loop-shop-test.true blank)

pub overflow_add-at-in-loop-shop : goal.overflow_add-at-in-loop-shop
overflow_add-at-in-loop-shop c = omega (arith, shop-few c.args.register c.requires.0 c.args.position c.requires.1 c.loop-shop.shop-index c.loop-shop-test.true blank)

pub overflow_add-at-in-loop-shop-2 : goal.overflow_add-at-in-loop-shop-2
overflow_add-at-in-loop-shop-2 c =
    let few = shop-few c.args.register c.requires.0 c.args.position c.requires.1 c.loop-shop.shop-index c.loop-shop-test.true blank in
    let below = below-p c.args.register c.requires.0 c.args.position c.requires.1 c.loop-shop.shop-index c.loop-shop-test.true blank in
    omega (arith, (register-fits c.args.register c.requires.0).most, c.loop-shop.invariant.small)

pub loop-shop-preserved : goal.loop-shop-preserved
loop-shop-preserved c = started-more c.args.register c.requires.0 c.args.position c.requires.1 c.loop-shop.shop-index c.loop-shop-test.true _ c.loop-shop.invariant

pub returns : goal.returns
returns c = started-done c.args.register c.args.position (omega arith) c.loop-shop.invariant
