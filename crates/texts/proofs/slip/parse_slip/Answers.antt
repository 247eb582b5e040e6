-- The six lines stand one after the other: a slip, where nothing is left.
use mathlib.Core.Path.{sym}
use borrow.Author.Rules.{rules}
use Rattle.texts.specs.Layout.{whole}
use Rattle.texts.specs.Slip.{slip_in}
use Rattle.texts.proofs.ReadingTexts.{slip-lines}
use Rattle.texts.proofs.slip.parse_slip.Goals as goal

pub returns : goal.returns
unfolding whole slip_in
returns c =
    simp (slip-lines, sym c.new-reader.ensures, c.in_ok-payer.ensures, c.in_ok-number.ensures.reads, c.in_ok-payee.ensures, c.in_ok-amount.ensures.reads, c.in_ok-count.ensures.reads, c.in_ok-deps.ensures)
    (search rules)
