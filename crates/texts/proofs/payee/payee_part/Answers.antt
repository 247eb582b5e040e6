-- The slip is refused, or the register lists its payee, or it does not: the part that each shows.
use native.Mathlib.Omega.{arith}
use native.Mathlib.Nat.{zero-add}
use mathlib.Core.Path.{refl, sym, ap, ◌∙◌}
use borrow.Author.Rules.{rules}
use Rattle.texts.proofs.Refusals.{not-done}
use Rattle.texts.proofs.Showing.{shows-bytes, shows-place, shows-none, shows-listed, shows-unlisted}
use Rattle.texts.proofs.payee.payee_part.Goals as goal

pub returns-in_default : goal.returns-in_default
returns-in_default c =
    let S = shows-none c.args.register.now _ _ c.in_default.ensures (not-done c.in_default.field-0) in
    let here = c.args.slip.ref_ptr in
    record {
      bytes = shows-bytes S;
      place = ap (λ n. (here.0, n)) (sym (zero-add here.1)) ∙ shows-place S c.args.register.ref_ptr here;
    }

pub overflow_add-result : goal.overflow_add-result
overflow_add-result c =
    omega (arith, (shows-listed c.args.register.now _ _ c.in-Ok.ensures refl _ c.in-Some.ensures).room)

pub slice_bounds-result-end-in-Some : goal.slice_bounds-result-end-in-Some
slice_bounds-result-end-in-Some c =
    let room = (shows-listed c.args.register.now _ _ c.in-Ok.ensures refl _ c.in-Some.ensures).room in
    search rules

pub returns-in-Some : goal.returns-in-Some
returns-in-Some c =
    let S = shows-listed c.args.register.now _ _ c.in-Ok.ensures refl _ c.in-Some.ensures in
    record { bytes = shows-bytes S; place = shows-place S c.args.register.ref_ptr c.args.slip.ref_ptr }

pub overflow_add-start : goal.overflow_add-start
overflow_add-start c =
    omega (arith, (shows-unlisted c.args.register.now _ _ c.in-Ok.ensures refl c.in_default-shop_spot.ensures).room)

pub overflow_add-start-2 : goal.overflow_add-start-2
overflow_add-start-2 c =
    omega (arith, (shows-unlisted c.args.register.now _ _ c.in-Ok.ensures refl c.in_default-shop_spot.ensures).room)

pub overflow_add-result-2 : goal.overflow_add-result-2
overflow_add-result-2 c =
    omega (arith, (shows-unlisted c.args.register.now _ _ c.in-Ok.ensures refl c.in_default-shop_spot.ensures).room)

pub slice_bounds-result-end-2 : goal.slice_bounds-result-end-2
slice_bounds-result-end-2 c =
    let room = (shows-unlisted c.args.register.now _ _ c.in-Ok.ensures refl c.in_default-shop_spot.ensures).room in
    search rules

pub returns : goal.returns
returns c =
    let S = shows-unlisted c.args.register.now _ _ c.in-Ok.ensures refl c.in_default-shop_spot.ensures in
    record { bytes = shows-bytes S; place = shows-place S c.args.register.ref_ptr c.args.slip.ref_ptr }
