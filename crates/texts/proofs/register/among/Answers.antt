-- The test of `any` is the derived one of two codes.
use Rattle.std.proofs.Common.{rules}
use Rattle.texts.specs.Entries.{no_entry}
use Rattle.texts.proofs.Places.{among_is}
use Rattle.texts.proofs.register.among.Goals as goal

pub returns : goal.returns
returns c = among_is c.args.code c.args.shops.now no_entry _ (search rules) (search rules)
