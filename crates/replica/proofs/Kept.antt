-- The state rule by position: zeros as values, and what `==` says of them.
use mathlib.Core.Path.{◌≡◌, sym, ap, ◌∙◌}
use mathlib.Core.Bool.{Bool, true, ◌&&◌}
use Prim.Native.Nat.{ℕ}
use lib.ListN.{length, replicate}
use lib.Dec.{eqb}
use lib.Pointwise.{pointwise}
use Rattle.std.specs.Bool.{Decides}
use Rattle.std.proofs.lemmas.Bool.Decides.{Decides-eqb}
use Rattle.std.proofs.lemmas.Slice.Eq.{slice_eq-Decides}
use borrow.Author.Tests.{eqb-true}
use borrow.Author.Rules.{rules}
use Rattle.texts.specs.Bytes.{all_of}
use Rattle.texts.proofs.Steps.{both, all-zeros}
use Rattle.replica.specs.declared.record.Waiting.{Waiting}
use Rattle.replica.specs.declared.record.Line.{Line}
use Rattle.replica.specs.Record.{no_waiting, no_line}
use Rattle.replica.specs.State.{zero_from, zero_waiting, zero_line}

-- ---- what passes the tests for zeros is the value of zeros

pub blank-waiting : (w : Waiting) → zero_waiting w ≡ true → w ≡ no_waiting
blank-waiting w e =
    let a = both (eqb w.payer 0) _ e in
    let b = both (eqb w.number 0) _ a.1 in
    let c = both (eqb w.payee 0) _ b.1 in
    let d = both (eqb w.amount 0) (zero_from 16 (eqb 0) 0 w.needs) c.1 in
    let f = both (eqb (length w.needs) 16) (all_of (eqb 0) w.needs) d.1 in
    let n : w.needs ≡ replicate 16 0 =
    all-zeros 0 (eqb 0) (λ x h. sym (eqb-true 0 x h)) w.needs f.1 ∙ ap (λ (k : ℕ). replicate k 0) (eqb-true (length w.needs) 16 f.0) in
    λ i. record { payer = eqb-true _ 0 a.0 i; number = eqb-true _ 0 b.0 i; payee = eqb-true _ 0 c.0 i; amount = eqb-true _ 0 d.0 i; needs = n i }

pub blank-line : (l : Line) → zero_line l ≡ true → l ≡ no_line
blank-line l e =
    let a = both (eqb l.count 0) (zero_from 8 zero_waiting 0 l.slips) e in
    let b = both (eqb (length l.slips) 8) (all_of zero_waiting l.slips) a.1 in
    let n : l.slips ≡ replicate 8 no_waiting =
    all-zeros no_waiting zero_waiting blank-waiting l.slips b.1 ∙ ap (λ (k : ℕ). replicate k no_waiting) (eqb-true (length l.slips) 8 b.0) in
    λ i. record { count = eqb-true _ 0 a.0 i; slips = n i }

-- ---- what the derived `==` says

abbrev eq_waiting : Waiting → Waiting → Bool
eq_waiting w v = eqb w.payer v.payer && (eqb w.payee v.payee && (eqb w.number v.number && (eqb w.amount v.amount && pointwise eqb w.needs v.needs)))

same-waiting : (w v : Waiting) → Decides (eq_waiting w v) (w ≡ v)
same-waiting w v = search (slice_eq-Decides, Decides-eqb, rules)

pub same-line : (l m : Line) → Decides (eqb l.count m.count && pointwise eq_waiting l.slips m.slips) (l ≡ m)
same-line l m = search (slice_eq-Decides, same-waiting, Decides-eqb, rules)
