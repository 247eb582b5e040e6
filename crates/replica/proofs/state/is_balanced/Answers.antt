-- Sums of at most 16 numbers of 32 bits fit.
use Rattle.std.proofs.Common.{rules, arith, ◌^◌}
use Rattle.std.proofs.lemmas.Iterator.{YieldsList-from_slice}
use Rattle.std.proofs.lemmas.Iterator.Adapters.{at_most_from_yields_List, fits_from_length}
use Rattle.replica.proofs.state.is_balanced.Goals as goal

pub sum-openings-requires-clause-fits : goal.sum-openings-requires-clause-fits
sum-openings-requires-clause-fits c =
    fits_from_length _ _ 16 (2 ^ 64) (at_most_from_yields_List (YieldsList-from_slice c.args.listed.now cc) c.requires.listed) (cc) (omega arith) (λ x r q k. search rules)
