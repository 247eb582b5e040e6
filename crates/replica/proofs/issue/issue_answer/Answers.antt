-- The first row that applies, from the tests in the rows' order.
use borrow.Author.Rules.{rules}
use Rattle.replica.proofs.Issuing.{ask-shop, ask-self, ask-some, ask-most, ask-issued, ask-waits, ask-last, ask-short, ask-ok}
use Rattle.replica.proofs.issue.issue_answer.Goals as goal

pub returns-then-not-lists : goal.returns-then-not-lists
returns-then-not-lists c = search (ask-shop, rules)

pub returns-then-same : goal.returns-then-same
returns-then-same c = search (ask-self, rules)

pub returns-then-amount-eq0 : goal.returns-then-amount-eq0
returns-then-amount-eq0 c = search (ask-some, rules)

pub returns-then-amount-gt-MOST : goal.returns-then-amount-gt-MOST
returns-then-amount-gt-MOST c = search (ask-most, rules)

pub returns-then-shop-own : goal.returns-then-shop-own
returns-then-shop-own c = search (ask-issued, rules)

pub returns-then-own-gt0 : goal.returns-then-own-gt0
returns-then-own-gt0 c = search (ask-waits, rules)

pub returns-then-shop-eq-MOST : goal.returns-then-shop-eq-MOST
returns-then-shop-eq-MOST c = search (ask-last, rules)

pub returns-then-shop-amount : goal.returns-then-shop-amount
returns-then-shop-amount c = search (ask-short, rules)

pub returns : goal.returns
returns c = search (ask-ok, rules)
