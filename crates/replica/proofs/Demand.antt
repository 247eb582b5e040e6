-- "Neither of you": whichever order the slips came in, the terminals agree. Each statement of specs/Demand.
use mathlib.Core.Path.{◌≡◌, sym, ap, ap₂, ◌∙◌, subst, subst₂}
use mathlib.Core.List.{List, [], ◌++◌, append-nil}
use Prim.Native.Nat.{ℕ, ◌+◌, ◌≤◌, ◌<◌}
use native.Mathlib.Omega.{arith}
use lib.ListN.{length, get_or, length-append}
use lib.Seq.{ext_get_or}
use native.Mathlib.Decide.{dec_lt}
use Rattle.texts.specs.Register.{opening}
use Rattle.texts.specs.declared.entry.Entry.{Entry}
use Rattle.texts.specs.declared.register.Register.{Register}
use Rattle.texts.specs.declared.slip.Slip.{Slip}
use Rattle.replica.specs.declared.record.Waiting.{Waiting}
use Rattle.replica.specs.Record.{no_waiting, listed_at, shop_count, shop_at, line_at, waiting_at, sum_to}
use Rattle.replica.specs.Slips.{waiting_of, slip_at, firsts, waiting_slips}
use Rattle.replica.specs.State.{zero_waiting}
use Rattle.replica.specs.Calls.{no_slips}
use Rattle.replica.specs.Demand.{Terminal, start, now, took_of, applied_of, SameShops, paid_by, received_by, ArrivalOrderDoesNotMatter, SameSlipsSameStates, AppliedAreFirst, Ledger, LedgerFits, Conserved}
use Rattle.replica.proofs.Sums.{sum_same}
use Rattle.replica.proofs.Only.{length-firsts, firsts_at, same_rest, begins-both}
use Rattle.replica.proofs.Orders.{total, got, spent, Settled, Least}
use Rattle.replica.proofs.Credit.{brings, stock, trade, trade_of, paid-total, received-total}
use Rattle.replica.proofs.Reached.{Rest, rest-settled}
use Rattle.replica.proofs.Runs.{opened-rest, run-rest, run-register}
use Rattle.replica.proofs.Parts.{Lined, parts}
use Rattle.replica.proofs.Most.{balance-most}
use Rattle.replica.proofs.Amounts.{paid-append, taken-most}
use Rattle.replica.proofs.Back.{waiting-held}
use Rattle.replica.proofs.Kept.{blank-waiting}
use Rattle.replica.proofs.ByPosition.{each_from}

-- ---- one terminal

module _ (a : Terminal) where
  at_rest : Rest (now a) (took_of a) (applied_of a)
  at_rest = run-rest (start a) a.calls no_slips no_slips (opened-rest a.text a.opens)

  register : (now a).register ≡ (start a).register
  register = run-register (start a) a.calls

  -- a position of the register is one of the state
  inside : (p : ℕ) → p < shop_count (start a) → p < shop_count (now a)
  inside p h = omega (arith, ap (λ (r : Register). r.count) register)

  least : Least (trade_of (start a)) (took_of a) (applied_of a)
  least = subst (λ (r : Register). Least (trade r.count r.shops) (took_of a) (applied_of a)) register at_rest.inv.least

  settled : Settled (trade_of (start a)) (took_of a) (applied_of a)
  settled = subst (λ (r : Register). Settled (trade r.count r.shops) (took_of a) (applied_of a)) register (rest-settled (now a) (took_of a) (applied_of a) at_rest)

  -- what was taken in is applied, or waits
  line : (p : ℕ) → p < shop_count (start a) → applied_of a p ++ waiting_slips (now a) p ≡ took_of a p
  line p h = at_rest.inv.line p (inside p h)

pub applied-are-first : AppliedAreFirst
applied-are-first a p h = (waiting_slips (now a) p, line a p h)

pub ledger : Ledger
unfolding spent got stock
ledger a p h =
    let s = applied_of a in
    let r = (start a).register in
    let k : (shop_at (now a) p).balance + spent (trade_of (start a)) s p 0 ≡ stock r.shops p 0 + got (trade_of (start a)) s p 0 =
    subst (λ (x : Register). (shop_at (now a) p).balance + spent (trade x.count x.shops) s p 0 ≡ stock x.shops p 0 + got (trade x.count x.shops) s p 0)
    (register a) ((at_rest a).inv.counted.holds p (inside a p h)) in
    omega (
      arith,
      paid-total (s p),
      sum_same r.count (λ q. received_by (listed_at r p).code (s q)) (λ q. total (brings r.shops p 0) (s q)) (λ q _. received-total r p (s q)),
    )

-- at most 999,999 slips of at most 999,999 each, and a balance of at most 15,999,984
pub ledger-fits : LedgerFits
ledger-fits a p h =
    let C = (at_rest a).inv.counted in
    let L = (parts (now a) C.lawful).lined p (inside a p h) in
    let s = applied_of a p in
    let w = waiting_slips (now a) p in
    let l = line a p h in
    omega (
      arith,
      balance-most (now a) C.lawful p (inside a p h),
      taken-most (start a) a.calls p,
      paid-append s w,
      ap paid_by l,
      length-append s w,
      ap length l,
      C.applied p (inside a p h),
      length-firsts (line_at (now a) p).count (slip_at (now a) p),
      L.taken,
      L.most,
    )

pub conserved : Conserved
conserved a =
    subst (λ (r : Register). sum_to r.count (λ p. (shop_at (now a) p).balance) ≡ sum_to r.count (λ p. opening (listed_at r p))) (register a)
    (parts (now a) (at_rest a).inv.counted.lawful).sums

-- ---- two terminals

pub arrival-order-does-not-matter : ArrivalOrderDoesNotMatter
unfolding Least
arrival-order-does-not-matter a b same pre =
    least a (took_of b) (applied_of b) pre
    (λ p h. applied-are-first b p (omega (arith, same.count)))
    (subst₂ (λ (n : ℕ) (us : List Entry). Settled (trade n us) (took_of b) (applied_of b)) (sym same.count) (sym same.shops) (settled b))

-- a slip by position rests on the shops alone
same-waiting : (r r' : Register) (x : Slip) → r.count ≡ r'.count → r.shops ≡ r'.shops → waiting_of r x ≡ waiting_of r' x
unfolding waiting_of
same-waiting r r' x c e =
    let f : ℕ → List Entry → Waiting = λ n us. waiting_of (record { own = r.own; count = n; shops = us }) x in
    ap₂ f c e

module _ (a b : Terminal) (same : SameShops a b) (took : (p : ℕ) → p < shop_count (start a) → took_of a p ≡ took_of b p) where
  over : (p : ℕ) → p < shop_count (start a) → p < shop_count (start b)
  over p h = omega (arith, same.count)

  back : (p : ℕ) → p < shop_count (start b) → p < shop_count (start a)
  back p h = omega (arith, same.count)

  same-applied : (p : ℕ) → p < shop_count (start a) → applied_of a p ≡ applied_of b p
  same-applied p h =
      begins-both (applied_of a p) (applied_of b p)
      (arrival-order-does-not-matter a b same (λ q l. ([], append-nil (took_of a q) ∙ took q l)) p h)
      (arrival-order-does-not-matter b a record { count = sym same.count; shops = sym same.shops } (λ q l. ([], append-nil (took_of b q) ∙ sym (took q (back q l)))) p (over p h))

  same_queue : (p : ℕ) → p < shop_count (start a) → waiting_slips (now a) p ≡ waiting_slips (now b) p
  same_queue p h =
      same_rest (applied_of a p) _ _ (line a p h ∙ took p h ∙ sym (line b p (over p h)) ∙ ap (λ (l : List Slip). l ++ waiting_slips (now b) p) (sym (same-applied p h)))

  same_count : (p : ℕ) → p < shop_count (start a) → (line_at (now a) p).count ≡ (line_at (now b) p).count
  same_count p h =
      sym (length-firsts (line_at (now a) p).count (slip_at (now a) p)) ∙ ap length (same_queue p h) ∙ length-firsts (line_at (now b) p).count (slip_at (now b) p)

  same-slips : (p : ℕ) → p < shop_count (start a) → (k : ℕ) → k < (line_at (now a) p).count → slip_at (now a) p k ≡ slip_at (now b) p k
  same-slips p h =
      firsts_at (line_at (now a) p).count (slip_at (now a) p) (slip_at (now b) p)
      (same_queue p h ∙ ap (λ (k : ℕ). firsts k (slip_at (now b) p)) (sym (same_count p h)))

  same-balance : (p : ℕ) → p < shop_count (start a) → (shop_at (now a) p).balance ≡ (shop_at (now b) p).balance
  same-balance p h =
      let u = (start a).register in
      let v = (start b).register in
      let listed : listed_at u p ≡ listed_at v p = ap (λ (us : List Entry). get_or us p (record { code = record { digits = []; len = 0 }; number = 0 })) same.shops in
      omega (
        arith,
        ledger a p h,
        ledger b p (over p h),
        ap paid_by (same-applied p h),
        ap (λ (l : Entry). l.number) listed,
        sum_same u.count (λ q. received_by (listed_at u p).code (applied_of a q)) (λ q. received_by (listed_at v p).code (applied_of b q)) (λ q l. ap₂ (λ (x : Entry) (y : List Slip). received_by x.code y) listed (same-applied q l)),
        ap (λ (n : ℕ). sum_to n (λ q. received_by (listed_at v p).code (applied_of b q))) same.count,
      )

  abbrev blank : Waiting
  blank = record { payer = 0; number = 0; payee = 0; amount = 0; needs = [] }

  same_line : (p : ℕ) → p < shop_count (start a) → line_at (now a) p ≡ line_at (now b) p
  same_line p h =
      let places = (lined a p h).places ∙ sym (lined b p (over p h)).places in
      let slips = ext_get_or blank (line_at (now a) p).slips (line_at (now b) p).slips places at in
      λ i. record { count = same_count p h i; slips = slips i }
    where
      lined : (t : Terminal) (p : ℕ) → p < shop_count (start t) → Lined (now t) p
      lined t p h = (parts (now t) (at_rest t).inv.counted.lawful).lined p (inside t p h)

      held : (t : Terminal) (k : ℕ) → p < shop_count (start t) → k < (line_at (now t) p).count → waiting_at (now t) p k ≡ waiting_of (start t).register (slip_at (now t) p k)
      held t k h l =
          sym (waiting-held (now t) (at_rest t).inv.counted.lawful p k (inside t p h) l) ∙ ap (λ (r : Register). waiting_of r (slip_at (now t) p k)) (register t)

      unused : (t : Terminal) (k : ℕ) → p < shop_count (start t) → (line_at (now t) p).count ≤ k → k < 8 → waiting_at (now t) p k ≡ no_waiting
      unused t k h l m =
          let L = lined t p h in
          blank-waiting (waiting_at (now t) p k) (each_from zero_waiting (line_at (now t) p).count (line_at (now t) p).slips blank L.rest k l (omega (arith, L.places)))

      at : (k : ℕ) → k < length (line_at (now a) p).slips → waiting_at (now a) p k ≡ waiting_at (now b) p k
      at k l =
          let c = same_count p h in
          let eight : k < 8 = omega (arith, (lined a p h).places) in
          elim (dec_lt k (line_at (now a) p).count) [
            | yes m ↦
                held a k h m ∙ ap (waiting_of (start a).register) (same-slips p h k m) ∙ same-waiting (start a).register (start b).register (slip_at (now b) p k) same.count same.shops
                ∙ sym (held b k (over p h) (omega arith))
            | no m ↦ unused a k h (omega arith) eight ∙ sym (unused b k (over p h) (omega arith) eight)
          ]

pub same-slips-same-states : SameSlipsSameStates
same-slips-same-states a b same took p h =
    record {
      balance = same-balance a b same took p h;
      waits = same_count a b same took p h;
      slips = same-slips a b same took p h;
      line = same_line a b same took p h;
    }
