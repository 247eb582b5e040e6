-- The slip that was parsed, or the refusal in its place.
use Rattle.std.proofs.Common.{rules}
use Rattle.texts.proofs.ReadingTexts.{slip-or-form}
use Rattle.texts.proofs.slip.read_slip.Goals as goal

-- A text that carries a slip is answered with it;
-- of one that carries none, the number is 1 and the slip is zeros.
pub returns : goal.returns
returns c = search (slip-or-form, rules)
