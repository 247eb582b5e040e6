-- The first check that fails gives its number, and where none does the answer is 0.
use Rattle.replica.proofs.Checked.{answer-range, answer-shop, answer-self, answer-fine, answer-deps}
use Rattle.replica.proofs.checks.PlacedSlip.answer.Goals as goal

pub returns-then-has_zero : goal.returns-then-has_zero
returns-then-has_zero c = answer-range _ _ _ c.has_zero.ensures c.if-has_zero.true

pub returns-then-not-is_listed : goal.returns-then-not-is_listed
returns-then-not-is_listed c =
    answer-shop _ _ _ c.has_zero.ensures c.if-has_zero.false _ c.is_listed.ensures c.if-not-is_listed.true-raw

pub returns-then-same : goal.returns-then-same
returns-then-same c =
    answer-self _ _ _ c.has_zero.ensures c.if-has_zero.false _ c.is_listed.ensures c.if-not-is_listed.false-raw _ c.same.ensures c.if-same.true

pub returns-then-not-deps_rise : goal.returns-then-not-deps_rise
returns-then-not-deps_rise c =
    answer-deps _ _ _ c.has_zero.ensures c.if-has_zero.false _ c.is_listed.ensures c.if-not-is_listed.false-raw _ c.same.ensures c.if-same.false _ _ c.args.self.now.payer_place c.deps_rise.ensures c.if-not-deps_rise.true

pub returns : goal.returns
returns c =
    answer-fine _ _ _ c.has_zero.ensures c.if-has_zero.false _ c.is_listed.ensures c.if-not-is_listed.false-raw _ c.same.ensures c.if-same.false _ _ c.args.self.now.payer_place c.deps_rise.ensures c.if-not-deps_rise.false
