-- Trial 12: "71 and 071 each depend on the other's first slip: both wait for ever", whatever calls follow.
use mathlib.Core.Path.{◌≡◌, refl, ap, ◌∙◌}
use mathlib.Core.Bool.{Bool, true}
use mathlib.Core.List.{List, [], ◌∷◌, ◌++◌, map}
use Prim.Native.Nat.{ℕ, ◌<◌}
use native.Mathlib.Omega.{arith}
use lib.ListN.{length, get_or}
use lib.Dec.{ltb, eqb}
use borrow.Author.Tests.{ltb-true, eqb-true}
use Rattle.texts.specs.Bytes.{same_bytes, all_of}
use Rattle.texts.specs.Layout.{past, several, whole}
use Rattle.texts.specs.Leaf.{one_more, numeral, run}
use Rattle.texts.specs.Code.{same_code}
use Rattle.texts.specs.Answers.{first}
use Rattle.texts.specs.Register.{register_layout, register_in, place, twins, register_answer, register_text_answer, register_read}
use Rattle.texts.specs.Slip.{slip_layout, slip_in, slip_read}
use Rattle.texts.proofs.Steps.{all-at}
use Rattle.replica.specs.declared.record.Waiting.{Waiting}
use Rattle.replica.specs.declared.record.Replica.{Replica}
use Rattle.replica.specs.Record.{shop_count, shop_at, line_at, sum_to, every}
use Rattle.replica.specs.Slips.{number_for, waiting_of, deps_from, slip_of}
use Rattle.replica.specs.Checks.{range?, shop?, rising, deps?, passes}
use Rattle.replica.specs.State.{all_true, line_kept, numbered_on, paid_by_shop, slips_pass, lawful}
use Rattle.replica.specs.Settle.{first_waiting, ready, apply, scan, settle, waits}
use Rattle.replica.specs.Open.{fresh, opened}
use Rattle.replica.specs.Take.{take_rows, entered, taken}
use Rattle.replica.specs.Calls.{Call, take, call, after, end}
use Rattle.replica.specs.Lasting.{Crossed, SameFront}
use Rattle.replica.specs.Trials.{Trial, lent, on, example, trials}
use Rattle.replica.proofs.Lasting.{crossed-for-ever}

-- the trial's row: ten stand before it
abbrev row : Trial
row = get_or trials 10 (on [] [] [] [])

unfoldable pub takes : List Call
takes = map (λ (text : List ℕ). take text lent) row.slips

unfoldable pub start : Replica
start = (opened row.register).replica

-- the state after the three takes
now : Replica
now = end start takes

-- The shop at p has applied nothing, and its first waiting slip is its slip of the trial: number 1, 10 to the other shop, after that one's slip 1.
pub record StillFirst (self : Replica) (p other : ℕ) : Type 0 where
  pub waits : 0 < (line_at self p).count
  pub applied : (shop_at self p).applied ≡ 0
  pub number : (first_waiting self p).number ≡ 1
  pub payee : (first_waiting self p).payee ≡ other
  pub amount : (first_waiting self p).amount ≡ 10
  pub needs : get_or (first_waiting self p).needs other 0 ≡ 1

-- ---- after the three takes, computed

side : ℕ → ℕ → List Bool
side p q =
    ltb 0 (line_at now p).count ∷
    eqb (shop_at now p).applied 0 ∷
    eqb (first_waiting now p).number 1 ∷
    eqb (first_waiting now p).payee q ∷
    eqb (first_waiting now p).amount 10 ∷
    eqb (get_or (first_waiting now p).needs q 0) 1 ∷
    []

abbrev pass : List Bool → Bool
pass = all_of (λ (b : Bool). b)

tests : List Bool
tests = lawful now ∷ eqb (shop_count now) 3 ∷ pass (side 0 1) ∷ pass (side 1 0) ∷ []

computed : pass tests ≡ true
unfolding tests side now start takes trials on example end call taken take_rows entered opened fresh ready apply scan settle waits line_kept numbered_on paid_by_shop slips_pass lawful range? shop? rising deps? passes number_for waiting_of deps_from slip_of sum_to every slip_layout slip_in slip_read register_layout register_in place twins register_answer register_text_answer register_read first same_code one_more numeral run past several whole same_bytes all_of all_true
computed = refl

test_at : (bs : List Bool) → pass bs ≡ true → (k : ℕ) → k < length bs → get_or bs k true ≡ true
test_at bs e k h = all-at (λ (b : Bool). b) bs true k e h

still-now : (p q : ℕ) → pass (side p q) ≡ true → StillFirst now p q
unfolding side
still-now p q e =
    let t = test_at (side p q) e in
    record {
      waits = ltb-true _ _ (t 0 (omega arith));
      applied = eqb-true _ _ (t 1 (omega arith));
      number = eqb-true _ _ (t 2 (omega arith));
      payee = eqb-true _ _ (t 3 (omega arith));
      amount = eqb-true _ _ (t 4 (omega arith));
      needs = eqb-true _ _ (t 5 (omega arith));
    }

-- ---- and for ever

still-then : (self then : Replica) (p q : ℕ) → StillFirst self p q → 0 < (line_at then p).count → SameFront self then p → StillFirst then p q
still-then self then p q S w F =
    record {
      waits = w;
      applied = F.applied ∙ S.applied;
      number = ap (λ (x : Waiting). x.number) F.first ∙ S.number;
      payee = ap (λ (x : Waiting). x.payee) F.first ∙ S.payee;
      amount = ap (λ (x : Waiting). x.amount) F.first ∙ S.amount;
      needs = ap (λ (x : Waiting). get_or x.needs q 0) F.first ∙ S.needs;
    }

end_on : (self : Replica) (before more : List Call) → end self (before ++ more) ≡ end (end self before) more
unfolding end
end_on self [] more = refl
end_on self (c ∷ cs) more = end_on (after self c) cs more

both-on : (calls : List Call) → StillFirst (end now calls) 0 1 × StillFirst (end now calls) 1 0
unfolding tests
both-on calls =
    let t = test_at tests computed in
    let S = still-now 0 1 (t 2 (omega arith)) in
    let T = still-now 1 0 (t 3 (omega arith)) in
    let n = eqb-true (shop_count now) 3 (t 1 (omega arith)) in
    let C : Crossed now 0 1 = record { waits_p = S.waits; waits_q = T.waits; on_q = omega arith; on_p = omega arith } in
    let K = crossed-for-ever now (t 0 (omega arith)) 0 1 (omega arith) (omega arith) C calls in
    (still-then now (end now calls) 0 1 S K.0.waits_p K.1, still-then now (end now calls) 1 0 T K.0.waits_q K.2)

-- after the three takes and any calls, the first slips of 71, at position 0, and of 071, at 1, still wait
pub both-wait : (calls : List Call) → StillFirst (end start (takes ++ calls)) 0 1 × StillFirst (end start (takes ++ calls)) 1 0
unfolding now
both-wait calls = rw (end_on start takes calls) (both-on calls)
