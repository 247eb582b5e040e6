-- Each entry becomes a shop on its first day.
use borrow.Author.Rules.{rules}
use Rattle.texts.specs.Entries.{no_entry}
use Rattle.texts.proofs.Values.{length-mapped}
use Rattle.replica.specs.Record.{no_shop}
use Rattle.replica.specs.Open.{first_day}
use Rattle.replica.proofs.Mapped.{map-is}
use Rattle.replica.proofs.open.openings.Goals as goal

pub returns : goal.returns
returns c = map-is c.map.ensures.items first_day no_entry no_shop (search (length-mapped, rules)) (λ p q x y k. search rules)
