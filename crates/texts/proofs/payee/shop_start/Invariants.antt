-- The lines of the shops passed are counted.
use Rattle.texts.proofs.Payees.{Started}
use Rattle.texts.proofs.payee.shop_start.Given as goal

abbrev pub invariant-loop-shop : goal.invariant-loop-shop
invariant-loop-shop l = Started l.fn.register.shops l.at l.shop-index
