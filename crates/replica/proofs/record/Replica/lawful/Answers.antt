-- Where the register is legal the test of the record decides.
use mathlib.Core.Path.{◌∙◌, sym}
use borrow.Author.Rules.{rules}
use Rattle.texts.proofs.Refusals.{zero-done, zero-refused}
use Rattle.texts.proofs.Values.{length-mapped}
use Rattle.replica.proofs.ByPosition.{lawful-rest, lawful-not}
use Rattle.replica.proofs.record.Replica.lawful.Goals as goal

pub is_kept-requires : goal.is_kept-requires
is_kept-requires c = sym c.answer.ensures ∙ zero-done _ (search rules)

pub returns-then-is_ok : goal.returns-then-is_ok
returns-then-is_ok c =
    lawful-rest c.args.self.now (sym c.answer.ensures ∙ zero-done _ (search rules)) (search (length-mapped, rules)) (search (length-mapped, rules)) _ c.is_kept.ensures

pub returns-else-is_ok : goal.returns-else-is_ok
returns-else-is_ok c = c.if-is_ok.false ∙ lawful-not c.args.self.now (λ e. zero-refused _ (search rules) (c.answer.ensures ∙ e))
