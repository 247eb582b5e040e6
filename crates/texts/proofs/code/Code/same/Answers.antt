-- Codes of one length are the same where their digits are; codes of two lengths are not.
use Rattle.std.proofs.Common.{◌∙◌}
use Rattle.texts.proofs.Values.{same-digits, other-length}
use Rattle.texts.proofs.code.Code.same.Goals as goal

pub returns-then-self-other : goal.returns-then-self-other
returns-then-self-other c = c.eq.ensures ∙ same-digits c.args.self c.args.other c.if-self-other.true

pub returns-else-self-other : goal.returns-else-self-other
returns-else-self-other c = other-length c.args.self c.args.other c.if-self-other.false
