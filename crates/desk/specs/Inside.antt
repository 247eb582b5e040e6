-- What private functions promise one another. No public promise rests on a word of it.
use Rattle.std.specs.Prelude.{◌≡◌, List, ℕ}
use Rattle.texts.specs.Inside.{Room, Wrote}
use Rattle.desk.specs.declared.report.Printer.{Printer}

-- The page of a printer has room for t from the printer's place on.
abbrev pub RoomFor : Printer → List ℕ → Type 0
RoomFor p t = Room p.page.now p.at t

-- The printer p put t on its page, which left it as q: past t, on the same page.
pub record Prints (p q : Printer) (t : List ℕ) : Type 0 where
  pub same_page : q.page.ghost_name ≡ p.page.ghost_name
  pub wrote : Wrote p.page.now p.at t q.page.now q.at
