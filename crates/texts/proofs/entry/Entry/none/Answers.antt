-- A code of zeros and the number 0 are the entry of zeros.
use Rattle.texts.proofs.entry.Entry.none.Goals as goal

pub returns : goal.returns
returns c = λ i. record { code = c.none.ensures i; number = 0 }
