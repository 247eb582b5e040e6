-- The state rule, clause by clause, as facts; and back.
use mathlib.Core.Path.{◌≡◌, refl}
use mathlib.Core.Bool.{Bool, true}
use Prim.Native.Nat.{ℕ, ◌+◌, ◌≤◌, ◌<◌}
use lib.ListN.{length, drop}
use lib.Dec.{leb, eqb}
use borrow.Author.Tests.{eqb-true, eq-eqb, leb-true, le-leb}
use Rattle.texts.specs.Bytes.{all_of}
use Rattle.texts.specs.Register.{opening, register_answer}
use Rattle.texts.proofs.Steps.{both, and}
use Rattle.replica.specs.declared.record.Waiting.{Waiting}
use Rattle.replica.specs.declared.record.Replica.{Replica}
use Rattle.replica.specs.Record.{listed_at, shop_count, own, shop_at, line_at, waiting_at, sum_to, every}
use Rattle.replica.specs.Slips.{slip_at}
use Rattle.replica.specs.Checks.{passes}
use Rattle.replica.specs.State.{all_true, zero_from, zero_shop, zero_waiting, zero_line, rest_zero, line_kept, numbered_on, paid_by_shop, slips_pass, lawful}
use Rattle.replica.proofs.Sums.{every-at, at_every}

-- what the rule says of the line of shop p
pub record Lined (self : Replica) (p : ℕ) : Type 0 where
  pub places : length (line_at self p).slips ≡ 8
  pub rest : all_of zero_waiting (drop (line_at self p).count (line_at self p).slips) ≡ true
  pub needs : all_of (λ (w : Waiting). zero_from 16 (eqb 0) (shop_count self) w.needs) (line_at self p).slips ≡ true
  pub eight : (line_at self p).count ≤ 8
  pub taken : (shop_at self p).taken ≡ (shop_at self p).applied + (line_at self p).count
  pub most : (shop_at self p).taken ≤ 999999
  pub numbers : (k : ℕ) → k < (line_at self p).count → (waiting_at self p k).number ≡ (shop_at self p).applied + 1 + k
  pub payers : (k : ℕ) → k < (line_at self p).count → (waiting_at self p k).payer ≡ p
  pub pass : (k : ℕ) → k < (line_at self p).count → passes self.register (slip_at self p k) ≡ true
  pub mark : (shop_at self p).mark ≤ (shop_at self p).applied

pub record Parts (self : Replica) : Type 0 where
  pub register : register_answer self.register ≡ 0
  pub shop_places : length self.shops ≡ 16
  pub shop_rest : all_of zero_shop (drop (shop_count self) self.shops) ≡ true
  pub line_places : length self.lines ≡ 16
  pub line_rest : all_of zero_line (drop (shop_count self) self.lines) ≡ true
  pub sums : sum_to (shop_count self) (λ p. (shop_at self p).balance) ≡ sum_to (shop_count self) (λ p. opening (listed_at self.register p))
  pub lined : (p : ℕ) → p < shop_count self → Lined self p
  pub own_mark : (shop_at self (own self)).mark ≡ 0
  pub issued : self.issued ≤ 999999
  pub issued_own : self.issued ≤ (shop_at self (own self)).applied + 1

abbrev rest_of : Replica → ℕ → Bool
rest_of self p = rest_zero (shop_count self) (line_at self p)

abbrev mark_of : Replica → ℕ → Bool
mark_of self p = leb (shop_at self p).mark (shop_at self p).applied

abbrev number_test : Replica → ℕ → ℕ → Bool
number_test self p k = eqb (waiting_at self p k).number ((shop_at self p).applied + 1 + k)

abbrev payer_test : Replica → ℕ → ℕ → Bool
payer_test self p k = eqb (waiting_at self p k).payer p

abbrev pass_test : Replica → ℕ → ℕ → Bool
pass_test self p k = passes self.register (slip_at self p k)

lined : (self : Replica) (p : ℕ) → rest_of self p ≡ true → line_kept self p ≡ true → numbered_on self p ≡ true → paid_by_shop self p ≡ true
    → slips_pass self p ≡ true → mark_of self p ≡ true → Lined self p
unfolding line_kept numbered_on paid_by_shop slips_pass
lined self p r k i j s m =
    let l = line_at self p in
    let a = both (zero_from 8 zero_waiting l.count l.slips) _ r in
    let b = both (eqb (length l.slips) 8) _ a.0 in
    let c = both (leb l.count 8) _ k in
    let d = both (eqb (shop_at self p).taken ((shop_at self p).applied + l.count)) _ c.1 in
    record {
      places = eqb-true _ 8 b.0;
      rest = b.1;
      needs = a.1;
      eight = leb-true _ 8 c.0;
      taken = eqb-true _ _ d.0;
      most = leb-true _ 999999 d.1;
      numbers = λ k h. eqb-true _ _ (every-at l.count (number_test self p) i k h);
      payers = λ k h. eqb-true _ p (every-at l.count (payer_test self p) j k h);
      pass = every-at l.count (pass_test self p) s;
      mark = leb-true _ _ m;
    }

pub parts : (self : Replica) → lawful self ≡ true → Parts self
unfolding lawful all_true
parts self e =
    let n = shop_count self in
    let c1 = both (eqb (register_answer self.register) 0) _ e in
    let c2 = both (zero_from 16 zero_shop n self.shops) _ c1.1 in
    let c3 = both (zero_from 16 zero_line n self.lines) _ c2.1 in
    let c4 = both (every n (rest_of self)) _ c3.1 in
    let c5 = both (eqb (sum_to n (λ p. (shop_at self p).balance)) (sum_to n (λ p. opening (listed_at self.register p)))) _ c4.1 in
    let c6 = both (every n (line_kept self)) _ c5.1 in
    let ci = both (every n (numbered_on self)) _ c6.1 in
    let cj = both (every n (paid_by_shop self)) _ ci.1 in
    let c7 = both (every n (slips_pass self)) _ cj.1 in
    let c8 = both (every n (mark_of self)) _ c7.1 in
    let c9 = both (eqb (shop_at self (own self)).mark 0) _ c8.1 in
    let c10 = both (leb self.issued 999999) _ c9.1 in
    let c11 = both (leb self.issued ((shop_at self (own self)).applied + 1)) _ c10.1 in
    let s = both (eqb (length self.shops) 16) _ c2.0 in
    let l = both (eqb (length self.lines) 16) _ c3.0 in
    record {
      register = eqb-true _ 0 c1.0;
      shop_places = eqb-true _ 16 s.0;
      shop_rest = s.1;
      line_places = eqb-true _ 16 l.0;
      line_rest = l.1;
      sums = eqb-true _ _ c5.0;
      lined = λ p h. lined self p (every-at n (rest_of self) c4.0 p h) (every-at n (line_kept self) c6.0 p h) (every-at n (numbered_on self) ci.0 p h) (every-at n (paid_by_shop self) cj.0 p h) (every-at n (slips_pass self) c7.0 p h) (every-at n (mark_of self) c8.0 p h);
      own_mark = eqb-true _ 0 c9.0;
      issued = leb-true _ 999999 c10.0;
      issued_own = leb-true _ _ c11.0;
    }

pub whole : (self : Replica) → Parts self → lawful self ≡ true
unfolding lawful all_true line_kept numbered_on paid_by_shop slips_pass
whole self P =
    let n = shop_count self in
    and _ _ (eq-eqb _ 0 P.register)
    (and _ _ (and _ _ (eq-eqb _ 16 P.shop_places) P.shop_rest)
    (and _ _ (and _ _ (eq-eqb _ 16 P.line_places) P.line_rest)
    (and _ _ (at_every n (rest_of self) (λ p h. let L = P.lined p h in and _ _ (and _ _ (eq-eqb _ 8 L.places) L.rest) L.needs))
    (and _ _ (eq-eqb _ _ P.sums)
    (and _ _ (at_every n (line_kept self) (λ p h. let L = P.lined p h in and _ _ (le-leb _ 8 L.eight) (and _ _ (eq-eqb _ _ L.taken) (le-leb _ 999999 L.most))))
    (and _ _ (at_every n (numbered_on self) (λ p h. at_every (line_at self p).count (number_test self p) (λ k l. eq-eqb _ _ ((P.lined p h).numbers k l))))
    (and _ _ (at_every n (paid_by_shop self) (λ p h. at_every (line_at self p).count (payer_test self p) (λ k l. eq-eqb _ p ((P.lined p h).payers k l))))
    (and _ _ (at_every n (slips_pass self) (λ p h. at_every (line_at self p).count (pass_test self p) (P.lined p h).pass))
    (and _ _ (at_every n (mark_of self) (λ p h. le-leb _ _ (P.lined p h).mark))
    (and _ _ (eq-eqb _ 0 P.own_mark) (and _ _ (le-leb _ 999999 P.issued) (and _ _ (le-leb _ _ P.issued_own) refl))))))))))))
