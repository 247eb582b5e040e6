-- A code that is none keeps the slip from having a text; else the dependencies decide.
use Rattle.std.proofs.lemmas.Grind.{common_steps}
use Rattle.std.proofs.Common.{arith, rules, ◌∙◌, ◌≡◌, length}
use Rattle.texts.proofs.Values.{length-mapped, slip-not, slip-rest}
use Rattle.texts.proofs.slip.Slip.fits.Goals as goal

pub returns-then-fits-2 : goal.returns-then-fits-2
returns-then-fits-2 c =
    let places : length c.args.self.deps ≡ 16 = search (length-mapped, rules) in
    slip-rest c.args.self places (search rules) (search rules)
    (search rules) (search rules) (search rules) _ c.entries_fit.ensures

pub returns-else-fits-2 : goal.returns-else-fits-2
returns-else-fits-2 c = c.if-fits-2.false ∙ slip-not _ (λ ok. grind (arith, common_steps, ok.payer, ok.payee))
