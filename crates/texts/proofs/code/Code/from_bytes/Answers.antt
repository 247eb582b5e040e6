-- The digits held are all of the bytes, which are a code then or empty, or they are no code.
use borrow.Author.Rules.{rules}
use Rattle.texts.proofs.Values.{held_all, held-part}
use Rattle.texts.proofs.code.Code.from_bytes.Goals as goal

pub returns-then-code-s : goal.returns-then-code-s
returns-then-code-s c = search (held_all, rules)

pub returns : goal.returns
returns c = search (held-part, rules)
