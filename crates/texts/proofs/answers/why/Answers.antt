-- The table is the list of the names of the numbers 0 to 13, which the checker computes and compares, so each place holds its number's name; past it the name is empty.
use mathlib.Core.List.{[]}
use borrow.Author.Rules.{rules}
use Rattle.texts.specs.Answers.{name_of}
use Rattle.texts.proofs.Table.{at, past}
use Rattle.texts.proofs.answers.why.Goals as goal

pub returns-then-i-lt-ANSWERS : goal.returns-then-i-lt-ANSWERS
returns-then-i-lt-ANSWERS c = at name_of 14 c.args.answer (record { bytes = []; len = 0 }) (search rules)

pub returns : goal.returns
returns c = past c.args.answer (search rules)
