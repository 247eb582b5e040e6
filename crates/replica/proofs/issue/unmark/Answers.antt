-- Each shop loses its mark.
use borrow.Author.Rules.{rules}
use Rattle.texts.proofs.Values.{length-mapped}
use Rattle.replica.specs.Record.{no_shop}
use Rattle.replica.specs.Issue.{unmarked}
use Rattle.replica.proofs.Mapped.{map-is}
use Rattle.replica.proofs.issue.unmark.Goals as goal

pub returns : goal.returns
returns c = map-is c.map.ensures.items unmarked no_shop no_shop (search (length-mapped, rules)) (λ p q x y k. search rules)
