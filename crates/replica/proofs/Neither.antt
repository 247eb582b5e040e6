-- Trial 2's slips at two counters: 71's terminal takes A and then B, 071's terminal B and then A. "Neither of you" is ahead.
use mathlib.Core.Path.{◌≡◌, refl, sym, ap, ◌∙◌, subst₂}
use mathlib.Core.Bool.{Bool, true, ◌&&◌}
use mathlib.Core.List.{List, [], ◌∷◌, ◌++◌}
use Prim.Native.Nat.{ℕ, zero, suc, ◌<◌}
use native.Mathlib.Omega.{arith}
use lib.ListN.{length, get_or}
use lib.Dec.{eqb}
use borrow.Author.Tests.{eqb-true}
use Rattle.texts.specs.Bytes.{bytes, same_bytes, all_of}
use Rattle.texts.specs.Layout.{past, joined, several, whole}
use Rattle.texts.specs.Leaf.{digits, one_more, numeral, run}
use Rattle.texts.specs.Code.{same_code}
use Rattle.texts.specs.Answers.{first}
use Rattle.texts.specs.Register.{register_layout, register_in, place, twins, register_answer, register_text_answer, register_read}
use Rattle.texts.specs.Slip.{slip_layout, slip_in, slip_read}
use Rattle.texts.specs.declared.slip.Slip.{Slip}
use Rattle.texts.proofs.Steps.{both, all-at}
use Rattle.replica.specs.declared.record.Replica.{Replica}
use Rattle.replica.specs.Record.{shop_count, sum_to, every}
use Rattle.replica.specs.Slips.{number_for, waiting_of, deps_from, slip_of}
use Rattle.replica.specs.Checks.{range?, shop?, rising, deps?, passes}
use Rattle.replica.specs.State.{all_true, line_kept, numbered_on, paid_by_shop, slips_pass, lawful}
use Rattle.replica.specs.Settle.{ready, apply, scan, settle, order, waits}
use Rattle.replica.specs.Open.{fresh, opened}
use Rattle.replica.specs.Take.{slip_from, payer_of, take_rows, take_answer, entered, taken}
use Rattle.replica.specs.Calls.{take, call, after, Lines, no_slips, noted, took_in, taken_from}
use Rattle.replica.specs.Demand.{Terminal, start, now, took_of, applied_of, SameShops, SameAt, Begins, AllBegin}
use Rattle.replica.specs.Trials.{lent, example, A, B}
use Rattle.replica.proofs.Reached.{noted-there}
use Rattle.replica.proofs.Runs.{took-noted}
use Rattle.replica.proofs.Demand.{arrival-order-does-not-matter, same-slips-same-states}

at071 : List ℕ
at071 = bytes "shops=03\nshop=71:000500\nshop=071:000000\nshop=0071:000100\nown=071\n"

opens : (opened example).answer ≡ 0
unfolding example opened fresh register_layout register_in place twins register_answer register_text_answer register_read first same_code digits one_more numeral run past joined several whole same_bytes all_of
opens = refl

opens071 : (opened at071).answer ≡ 0
unfolding at071 opened fresh register_layout register_in place twins register_answer register_text_answer register_read first same_code digits one_more numeral run past joined several whole same_bytes all_of
opens071 = refl

pub his : Terminal
his = record { text = example; opens = opens; calls = take A lent ∷ take B lent ∷ [] }

pub hers : Terminal
hers = record { text = at071; opens = opens071; calls = take B lent ∷ take A lent ∷ [] }

-- his terminal when only A had come
pub earlier : Terminal
earlier = record { text = example; opens = opens; calls = take A lent ∷ [] }

shops : SameShops his hers
unfolding his hers at071 example opened fresh register_layout register_in place twins register_answer register_text_answer register_read first same_code digits one_more numeral run past joined several whole same_bytes all_of
shops = record { count = refl; shops = refl }

shops-earlier : SameShops earlier hers
unfolding his earlier
shops-earlier = record { count = shops.count; shops = shops.shops }

-- ---- what they took in

-- is the slip accepted, and paid by the shop at p
abbrev accepts : Replica → List ℕ → ℕ → Bool
accepts self text p = eqb (payer_of self (slip_from text)) p && eqb (take_answer self text lent) 0

-- it is noted for that shop
one-taken : (self : Replica) (text : List ℕ) (p : ℕ) (l : Lines) → accepts self text p ≡ true → took_in self (take text lent) l ≡ noted p (slip_from text) l
one-taken self text p l h =
    let k = both (eqb (payer_of self (slip_from text)) p) _ h in
    took-noted self text lent l (eqb-true _ 0 k.1) ∙ ap (λ (b : ℕ). noted b (slip_from text) l) (eqb-true _ p k.0)

-- every position and every answer, computed
tests : List Bool
tests =
    eqb (shop_count (start his)) 3 ∷
    accepts (start his) A 1 ∷
    accepts (after (start his) (take A lent)) B 0 ∷
    accepts (start hers) B 0 ∷
    accepts (after (start hers) (take B lent)) A 1 ∷
    []

computed : all_of (λ (b : Bool). b) tests ≡ true
unfolding tests his hers at071 example A B call taken take_rows entered opened fresh ready apply scan settle order waits line_kept numbered_on paid_by_shop slips_pass lawful range? shop? rising deps? passes number_for waiting_of deps_from slip_of sum_to every slip_layout slip_in slip_read register_layout register_in place twins register_answer register_text_answer register_read first same_code digits one_more numeral run past joined several whole same_bytes all_of all_true
computed = refl

test_at : (k : ℕ) → k < length tests → get_or tests k true ≡ true
test_at k h = all-at (λ (b : Bool). b) tests true k computed h

three : shop_count (start his) ≡ 3
unfolding tests
three = eqb-true (shop_count (start his)) 3 (test_at 0 (omega arith))

three-earlier : shop_count (start earlier) ≡ 3
unfolding his earlier
three-earlier = three

earlier-lines : took_of earlier ≡ noted 1 (slip_from A) no_slips
unfolding tests his earlier taken_from
earlier-lines = one-taken (start his) A 1 no_slips (test_at 1 (omega arith))

his-lines : took_of his ≡ noted 0 (slip_from B) (noted 1 (slip_from A) no_slips)
unfolding tests his earlier taken_from
his-lines = one-taken (after (start his) (take A lent)) B 0 (took_of earlier) (test_at 2 (omega arith)) ∙ ap (noted 0 (slip_from B)) earlier-lines

hers-lines : took_of hers ≡ noted 1 (slip_from A) (noted 0 (slip_from B) no_slips)
unfolding tests hers taken_from
hers-lines =
    one-taken (after (start hers) (take B lent)) A 1 _ (test_at 4 (omega arith))
    ∙ ap (noted 1 (slip_from A)) (one-taken (start hers) B 0 no_slips (test_at 3 (omega arith)))

-- a third shop has nothing
none-noted : (p x : ℕ) (a b : Slip) (q : ℕ) → p < 2 → x < 2 → noted p a (noted x b no_slips) (suc (suc q)) ≡ []
none-noted p x a b q h k = noted-there p a (noted x b no_slips) (suc (suc q)) (λ e. omega arith) ∙ noted-there x b no_slips (suc (suc q)) (λ e. omega arith)

either_way : (a b : Slip) (p : ℕ) → noted 0 b (noted 1 a no_slips) p ≡ noted 1 a (noted 0 b no_slips) p
unfolding noted
either_way a b zero = refl
either_way a b (suc zero) = refl
either_way a b (suc (suc p)) = none-noted 0 1 b a p (omega arith) (omega arith) ∙ sym (none-noted 1 0 a b p (omega arith) (omega arith))

one-first : (a b : Slip) (p : ℕ) → Begins (noted 1 a no_slips p) (noted 1 a (noted 0 b no_slips) p)
unfolding noted
one-first a b zero = (b ∷ [], refl)
one-first a b (suc zero) = ([], refl)
one-first a b (suc (suc p)) =
    ([], ap (λ (l : List Slip). l ++ []) (noted-there 1 a no_slips (suc (suc p)) (λ e. omega arith)) ∙ sym (none-noted 1 0 a b p (omega arith) (omega arith)))

-- ---- the promises

-- both terminals have taken in A and B: they stand alike, balances and waiting slips
pub neither : (p : ℕ) → p < 3 → SameAt (now his) (now hers) p
neither p h =
    same-slips-same-states his hers shops
    (λ q _. ap (λ (l : Lines). l q) his-lines ∙ either_way (slip_from A) (slip_from B) q ∙ ap (λ (l : Lines). l q) (sym hers-lines))
    p (omega (arith, three))

-- his has taken in A alone: hers has applied what his has, and perhaps more
pub not-ahead : AllBegin 3 (applied_of earlier) (applied_of hers)
not-ahead p h =
    arrival-order-does-not-matter earlier hers shops-earlier
    (λ q _. subst₂ (λ (l m : Lines). Begins (l q) (m q)) (sym earlier-lines) (sym hers-lines) (one-first (slip_from A) (slip_from B) q))
    p (omega (arith, three-earlier))
