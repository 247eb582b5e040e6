-- The first of its two rows that applies, from the tests for equal codes and for the own code.
use Rattle.std.proofs.Common.{ap, ◌∙◌}
use Rattle.texts.specs.Register.{twins}
use Rattle.texts.proofs.Places.{shops-twin, shops-fine, own-not-listed}
use Rattle.texts.proofs.register.Register.shops_answer.Goals as goal

pub returns-then-has_twins : goal.returns-then-has_twins
returns-then-has_twins c = shops-twin c.args.self _ (c.has_twins.ensures ∙ ap twins c.in_use.ensures) c.if-has_twins.true

pub returns-then-not-lists : goal.returns-then-not-lists
returns-then-not-lists c = own-not-listed c.args.self _ (c.has_twins.ensures ∙ ap twins c.in_use.ensures) c.if-has_twins.false _ c.lists.ensures c.if-not-lists.true

pub returns : goal.returns
returns c = shops-fine c.args.self _ (c.has_twins.ensures ∙ ap twins c.in_use.ensures) c.if-has_twins.false _ c.lists.ensures c.if-not-lists.false
