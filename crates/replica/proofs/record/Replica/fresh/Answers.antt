-- The register, the shops with their openings, and sixteen lines of nothing.
use lib.ListN.{replicate}
use Rattle.replica.specs.Open.{fresh}
use Rattle.replica.proofs.record.Replica.fresh.Goals as goal

pub returns : goal.returns
unfolding fresh
returns c = λ i. record { register = c.args.register; issued = 0; shops = c.openings.ensures i; lines = replicate 16 (c.none.ensures i) }
