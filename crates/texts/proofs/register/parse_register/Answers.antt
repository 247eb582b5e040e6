-- The three lines stand one after the other: a register, where nothing is left.
use mathlib.Core.Path.{sym}
use borrow.Author.Rules.{rules}
use Rattle.texts.specs.Layout.{whole}
use Rattle.texts.specs.Register.{register_in}
use Rattle.texts.proofs.ReadingTexts.{register-lines}
use Rattle.texts.proofs.register.parse_register.Goals as goal

pub returns : goal.returns
unfolding whole register_in
returns c =
    simp (register-lines, sym c.new-reader.ensures, c.in_ok-count.ensures.reads, c.in_ok-shops.ensures, c.in_ok-own.ensures)
    (search rules)
