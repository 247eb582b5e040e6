-- An own code that is none keeps the register from having a text; else the shops decide.
use Rattle.std.proofs.lemmas.Grind.{common_steps}
use Rattle.std.proofs.Common.{arith, rules, ◌∙◌}
use Rattle.texts.proofs.Values.{length-mapped, register-not, register-rest}
use Rattle.texts.proofs.register.Register.fits.Goals as goal

pub returns-then-fits : goal.returns-then-fits
returns-then-fits c =
    register-rest c.args.self (search (length-mapped, rules)) (search rules) (search rules) (search rules) _ c.entries_fit.ensures

pub returns-else-fits : goal.returns-else-fits
returns-else-fits c = c.if-fits.false ∙ register-not _ (λ ok. let a = ok.some in let b = ok.most in grind (arith, common_steps, ok.own_code))
