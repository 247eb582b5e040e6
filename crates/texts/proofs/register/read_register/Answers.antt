-- The text carries a register, which is legal or not, or none.
use Rattle.texts.proofs.ReadingTexts.{register-there, register-refused, register-not-there}
use Rattle.texts.proofs.register.read_register.Goals as goal

pub returns-in_default : goal.returns-in_default
returns-in_default c = register-not-there _ c.in_default.ensures

pub returns-in_err-shops_answer : goal.returns-in_err-shops_answer
returns-in_err-shops_answer c = register-refused _ c.in-Some.ensures _ _ c.from_residual.ensures.1 c.in_err-shops_answer.ensures

pub returns : goal.returns
returns c = register-there _ c.in-Some.ensures c.in_ok-shops_answer.ensures
