-- The slips of a register as a trade (proofs/Orders), and what is ready in it.
use mathlib.Core.Path.{◌≡◌, refl, sym, ap, ap₂, ◌∙◌}
use mathlib.Core.Logic.{◌≢◌}
use mathlib.Core.Bool.{Bool, true, false, ◌&&◌}
use mathlib.Core.List.{List, [], ◌∷◌, ◌++◌, map}
use Prim.Native.Nat.{ℕ, zero, suc, ◌+◌, ◌-◌, ◌≤◌, ◌<◌}
use native.Mathlib.Omega.{arith}
use lib.ListN.{length, get_or}
use lib.Dec.{leb, ltb}
use borrow.Author.Tests.{eqb-true, leb-true, le-leb, eq-eqb, lt-ltb}
use Rattle.texts.specs.Code.{same_code}
use Rattle.texts.specs.Slip.{deps_of}
use Rattle.texts.specs.declared.entry.Entry.{Entry}
use Rattle.texts.specs.declared.register.Register.{Register}
use Rattle.texts.specs.declared.slip.Slip.{Slip}
use Rattle.texts.proofs.Steps.{both, and}
use Rattle.texts.proofs.Legal.{code_same, RegisterLegal}
use Rattle.replica.specs.declared.record.Waiting.{Waiting}
use Rattle.replica.specs.declared.record.Replica.{Replica}
use Rattle.replica.specs.Record.{listed_at, shop_count, shop_at, line_at, every}
use Rattle.replica.specs.Slips.{number_for, waiting_of, slip_of, slip_at, firsts, waiting_slips}
use Rattle.replica.specs.State.{lawful}
use Rattle.replica.specs.Settle.{first_waiting, ready_a, ready_b, ready_c, ready}
use Rattle.replica.specs.Calls.{Lines}
use Rattle.replica.specs.Demand.{paid_by, received_by}
use Rattle.replica.proofs.Sums.{every-at, at_every}
use Rattle.replica.proofs.Only.{every-same, firsts-some, length-firsts, same_rest}
use Rattle.replica.proofs.Orders.{Trade, total, got, spent, Enabled}
use Rattle.replica.proofs.ByPosition.{two-codes}
use Rattle.replica.proofs.Back.{waiting-held}
use Rattle.replica.proofs.Quiet.{ready-some}
use Rattle.replica.proofs.Applied.{ready-funds}

-- ---- the trade: its one good is credit

unfoldable pub costs : ℕ → Slip → ℕ
costs zero s = s.amount
costs (suc g) s = 0

-- the shop at a position, of those of a register
abbrev pub shop_in : List Entry → ℕ → Entry
shop_in us p = get_or us p (record { code = record { digits = []; len = 0 }; number = 0 })

unfoldable pub brings : List Entry → ℕ → ℕ → Slip → ℕ
brings us p zero s = elim (same_code s.payee (shop_in us p).code) [ true ↦ s.amount | false ↦ 0 ]
brings us p (suc g) s = 0

unfoldable pub stock : List Entry → ℕ → ℕ → ℕ
stock us p zero = (shop_in us p).number
stock us p (suc g) = 0

-- The dependencies, as one number per shop.
abbrev pub needs_of : List Entry → Slip → List ℕ
needs_of us s = map (λ (l : Entry). number_for (deps_of s) l.code) us

unfoldable pub met : ℕ → List Entry → (ℕ → ℕ) → Slip → Bool
met n us a s = every n (λ q. leb (get_or (needs_of us s) q 0) (a q))

pub stays : (n : ℕ) (us : List Entry) (a b : ℕ → ℕ) → ((q : ℕ) → q < n → a q ≤ b q) → (s : Slip) → met n us a s ≡ true → met n us b s ≡ true
unfolding met
stays n us a b h s e =
    let test : (ℕ → ℕ) → ℕ → Bool = λ c q. leb (get_or (needs_of us s) q 0) (c q) in
    at_every n (test b) (λ q l. le-leb (get_or (needs_of us s) q 0) (b q) (omega (arith, leb-true (get_or (needs_of us s) q 0) (a q) (every-at n (test a) e q l), h q l)))

-- It rests on the number of shops, their codes and their openings, in their order.
abbrev pub trade : ℕ → List Entry → Trade
trade n us =
    record {
      Paper = Slip;
      shops = n;
      number = λ s. s.number;
      good = λ s. 0;
      costs = costs;
      brings = brings us;
      stock = stock us;
      met = met n us;
      stays = stays n us;
    }

abbrev pub trade_of : Replica → Trade
trade_of self = trade (shop_count self) self.register.shops

-- ---- what slips cost and bring

pub paid-total : (l : List Slip) → paid_by l ≡ total (costs 0) l
unfolding paid_by total costs
paid-total [] = refl
paid-total (s ∷ l) = ap (λ (n : ℕ). s.amount + n) (paid-total l)

pub received-total : (r : Register) (p : ℕ) (l : List Slip) → received_by (listed_at r p).code l ≡ total (brings r.shops p 0) l
unfolding received_by total brings
received-total r p [] = refl
received-total r p (s ∷ l) = ap (λ (n : ℕ). (elim (same_code s.payee (listed_at r p).code) as (λ _. ℕ) [ true ↦ s.amount | false ↦ 0 ]) + n) (received-total r p l)

-- A slip by position costs its amount, and brings it to its payee alone.
pub costs-amount : (r : Register) (w : Waiting) → costs 0 (slip_of r w) ≡ w.amount
unfolding costs slip_of
costs-amount r w = refl

pub brings-payee : (r : Register) (w : Waiting) → brings r.shops w.payee 0 (slip_of r w) ≡ w.amount
unfolding brings slip_of
brings-payee r w = rw (code_same (listed_at r w.payee).code, brings)

pub brings-others : (r : Register) (w : Waiting) → RegisterLegal r → w.payee < r.count → (q : ℕ) → q < r.count → q ≢ w.payee → brings r.shops q 0 (slip_of r w) ≡ 0
unfolding brings slip_of
brings-others r w R h q l d = rw (two-codes r R w.payee q h l (λ e. d (sym e)), brings)

-- ---- the slips that wait for shop p

-- What is known of a state with the slips s that it has applied.
pub record Counted (self : Replica) (s : Lines) : Type 0 where
  pub lawful : lawful self ≡ true
  pub applied : (p : ℕ) → p < shop_count self → length (s p) ≡ (shop_at self p).applied
  pub holds : (p : ℕ) → p < shop_count self → (shop_at self p).balance + spent (trade_of self) s p 0 ≡ stock self.register.shops p 0 + got (trade_of self) s p 0

module _ (self : Replica) (s : Lines) (C : Counted self s) (p : ℕ) (h : p < shop_count self) where
  -- the dependencies of the first slip, by position and as a slip
  same_met : 0 < (line_at self p).count → met (shop_count self) self.register.shops (λ q. length (s q)) (slip_at self p 0) ≡ ready_c self p
  unfolding met
  same_met some =
      let e : needs_of self.register.shops (slip_at self p 0) ≡ (first_waiting self p).needs =
      unfold waiting_of in ap (λ (w : Waiting). w.needs) (waiting-held self C.lawful p 0 h some) in
      every-same (shop_count self) _ _ (λ q l. ap₂ (λ (ns : List ℕ) (a : ℕ). leb (get_or ns q 0) a) e (C.applied q l))

  -- what is ready may be applied
  pub enabled : (t : Lines) → s p ++ waiting_slips self p ≡ t p → ready self p ≡ true → Enabled (trade_of self) t s p (slip_at self p 0)
  unfolding ready slip_of costs
  enabled t line e =
      let some = ready-some self p e in
      let a = both (ltb 0 (line_at self p).count) (ready_a self p && (ready_b self p && ready_c self p)) e in
      let b = both (ready_a self p) (ready_b self p && ready_c self p) a.1 in
      let c = both (ready_b self p) (ready_c self p) b.1 in
      let f = ready-funds self p e in
      record {
        inside = h;
        rest = firsts ((line_at self p).count - 1) (λ k. slip_at self p (k + 1));
        next = ap (λ (l : List Slip). s p ++ l) (sym (firsts-some (line_at self p).count (slip_at self p) some)) ∙ line;
        number = omega (arith, eqb-true (first_waiting self p).number ((shop_at self p).applied + 1) b.0, C.applied p h);
        funds = omega (arith, C.holds p h);
        deps = same_met some ∙ c.1;
      }

  -- and back
  pub ready_of : (t : Lines) (x : Slip) → s p ++ waiting_slips self p ≡ t p → Enabled (trade_of self) t s p x → ready self p ≡ true
  unfolding ready slip_of costs
  ready_of t x line en =
      let q : waiting_slips self p ≡ x ∷ en.rest = same_rest (s p) _ _ (line ∙ sym en.next) in
      let some : 0 < (line_at self p).count = omega (arith, length-firsts (line_at self p).count (slip_at self p), ap length q) in
      let f = firsts-some (line_at self p).count (slip_at self p) some in
      let i : x ≡ slip_at self p 0 = cc in
      let number : (slip_at self p 0).number ≡ suc (length (s p)) = ap (λ (y : Slip). y.number) (sym i) ∙ en.number in
      let amount : costs 0 (x) ≡ (slip_at self p 0).amount = ap (λ (y : Slip). y.amount) i in
      let a : (first_waiting self p).number ≡ (shop_at self p).applied + 1 = omega (arith, C.applied p h) in
      let b : (first_waiting self p).amount ≤ (shop_at self p).balance = omega (arith, C.holds p h, en.funds) in
      and _ _ (lt-ltb 0 _ some)
      (and _ _ (eq-eqb _ _ a)
      (and _ _ (le-leb _ _ b) (sym (same_met some) ∙ ap (met (shop_count self) self.register.shops (λ q. length (s q))) (sym i) ∙ en.deps)))
