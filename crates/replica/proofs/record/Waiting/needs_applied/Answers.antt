-- The chain asks each shop beside the number that is asked for there.
use Prim.Native.Nat.{◌≤◌, ◌<◌}
use native.Mathlib.Omega.{arith}
use borrow.Author.Rules.{rules}
use borrow.Author.Tests.{tests}
use Rattle.std.proofs.lemmas.Iterator.{cases_from_all, YieldsList-from_slice, YieldsList-from_zip}
use Rattle.replica.proofs.Steps.{covers-all}
use Rattle.replica.proofs.record.Waiting.needs_applied.Goals as goal

pub returns : goal.returns
returns c =
    covers-all _ _ _ (omega arith)
    (cases_from_all c.all.new.self _ _ (λ p. p.1 ≤ p.0.applied) (λ p. p.0.applied < p.1) c.all.ensures.ran
    (YieldsList-from_zip (YieldsList-from_slice c.args.shops.now (cc)) (YieldsList-from_slice c.args.self.now.needs (cc)))
    (λ x q k. search (rules, tests)) (λ x q k. search (rules, tests)))
