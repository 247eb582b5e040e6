-- Between 1 and 8 digits the places decide: all of the first are digits and all of the others are zero.
use Rattle.std.proofs.Common.{rules, ◌≡◌, eqb, length, take, drop}
use Rattle.texts.specs.Bytes.{all_of}
use Rattle.texts.specs.Leaf.{digit}
use Rattle.texts.proofs.Values.{all_is, zeros_are, skip, stop, code-rest}
use Rattle.texts.proofs.code.Code.fits.Goals as goal

pub returns-then-all : goal.returns-then-all
returns-then-all c =
    let places : length c.args.self.digits ≡ 8 = search rules in
    let used : c.all.result ≡ all_of digit (take c.args.self.len c.args.self.digits) = all_is digit _ 0 _ (search rules) (search rules) in
    let rest : c.all-then-all.result ≡ all_of (eqb 0) (drop c.args.self.len c.args.self.digits) = zeros_are _ (search rules) (search rules) in
    code-rest c.args.self places (search rules) (search rules) _ (skip _ _ _ (search rules) rest)

pub returns-else-all : goal.returns-else-all
returns-else-all c =
    let places : length c.args.self.digits ≡ 8 = search rules in
    let used : c.all.result ≡ all_of digit (take c.args.self.len c.args.self.digits) = all_is digit _ 0 _ (search rules) (search rules) in
    code-rest c.args.self places (search rules) (search rules) _ (stop _ _ _ used c.if-all.false)
