-- The rest of the text starts with the word, or it is not there.
use Rattle.texts.specs.Layout.{word}
use Rattle.texts.proofs.Reading.{nothing-there, stands-there, word-there, word-missing}
use Rattle.texts.proofs.cursor.Cursor.word.Goals as goal

pub returns-then-not-starts_with : goal.returns-then-not-starts_with
returns-then-not-starts_with c =
    nothing-there (word _) _ _ _ c.in_ok-rest.ensures.lookup.0.2 (word-missing _ _ _ c.starts_with.ensures.value c.if-not-starts_with.true)

pub returns : goal.returns
returns c =
    stands-there (word _) _ _ _ c.in_ok-rest.ensures.lookup.0.2 tt _ (c.starts_with.ensures.bound c.if-not-starts_with.false)
    (word-there _ _ _ c.starts_with.ensures.value c.if-not-starts_with.false)
