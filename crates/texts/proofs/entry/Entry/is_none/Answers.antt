-- The derived test asks the code and then the number, as `zero_entry` does.
use Rattle.std.proofs.Common.{◌∙◌}
use Rattle.texts.proofs.Values.{eq_zero_entry}
use Rattle.texts.proofs.entry.Entry.is_none.Goals as goal

pub returns : goal.returns
returns c = c.eq.ensures ∙ eq_zero_entry c.args.self _ c.none.ensures
