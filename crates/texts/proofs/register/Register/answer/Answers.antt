-- The first row is that it has no text; the others are `shops_answer`.
use Rattle.texts.proofs.Places.{answer-shops, answer-form}
use Rattle.texts.proofs.register.Register.answer.Goals as goal

pub returns-then-not-fits : goal.returns-then-not-fits
returns-then-not-fits c = answer-form _ _ c.fits.ensures c.if-not-fits.true

pub returns : goal.returns
returns c = answer-shops _ _ c.fits.ensures c.if-not-fits.false _ c.shops_answer.ensures
