-- The first shop in use that has the code, or the number of shops.
use Rattle.std.proofs.Common.{rules, ◌≡◌, ◌∙◌, sym, ap, length, true, false}
use Rattle.std.proofs.lemmas.Iterator.{YieldsList-from_slice, IsFirst-from_position}
use Rattle.std.specs.Option.{unwrap_or}
use Rattle.texts.specs.Register.{place}
use Rattle.texts.proofs.Places.{has-code, place_is}
use Rattle.texts.proofs.register.Register.position.Goals as goal

pub returns : goal.returns
returns c =
    let code = c.args.code in
    let shops = c.in_use-shops.result.now in
    let first = IsFirst-from_position _ _ c.position.result (λ s. has-code code s ≡ true) (λ s. has-code code s ≡ false) c.position.ensures.ran
    (YieldsList-from_slice shops (search rules)) (λ x q k. search rules) (λ x q k. search rules) in
    let u : c.unwrap_or.result ≡ unwrap_or c.position.result (length shops) = search rules in
    u ∙ sym (place_is code shops c.position.result first) ∙ ap (λ l. place l code) c.in_use-shops.ensures
