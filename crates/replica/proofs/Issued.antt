-- Issuing keeps the state rule; asking a balance leaves the state alone and tells the balance.
use mathlib.Core.Path.{◌≡◌, refl, sym, ap, ◌∙◌}
use mathlib.Core.Bool.{true, false, not, ◌||◌}
use mathlib.Core.List.{List, [], ◌∷◌, map}
use Prim.Native.Nat.{ℕ, zero, suc, ◌+◌, ◌≤◌, ◌<◌}
use native.Mathlib.Omega.{arith}
use lib.ListN.{length, drop, length-map, get_or-map}
use lib.Dec.{ltb, eqb}
use borrow.Author.Tests.{eqb-false, ltb-false, not-false}
use Rattle.texts.specs.Bytes.{all_of}
use Rattle.texts.specs.Answers.{Meaning, answer_of}
use Rattle.texts.specs.Code.{same_code, code_of}
use Rattle.texts.specs.Register.{listed, position}
use Rattle.texts.proofs.Steps.{both, and, all_none, all_both, all-and}
use Rattle.texts.proofs.Firsts.{first-zero}
use Rattle.texts.proofs.Legal.{RegisterLegal, register-legal}
use Rattle.replica.specs.declared.record.Shop.{Shop}
use Rattle.replica.specs.declared.record.Replica.{Replica}
use Rattle.replica.specs.Record.{no_shop, shop_count, own, shop_at, line_at}
use Rattle.replica.specs.State.{zero_shop, lawful}
use Rattle.replica.specs.Issue.{own_shop, busy?, issue_rows, issue_answer, unmarked, issuing, issued}
use Rattle.replica.specs.Balance.{balance_rows, asked}
use Rattle.replica.proofs.Sums.{sum_same}
use Rattle.replica.proofs.OneToOne.{below}
use Rattle.replica.proofs.Parts.{Lined, Parts, parts, whole}
use Rattle.replica.proofs.Opened.{map-drop}

pub cleared : (self : Replica) (p : ℕ) → shop_at (issuing self) p ≡ unmarked (shop_at self p)
unfolding issuing
cleared self p = get_or-map unmarked self.shops p no_shop

all-cleared : (l : List Shop) → all_of zero_shop l ≡ true → all_of zero_shop (map unmarked l) ≡ true
all-cleared [] h = all_none zero_shop
all-cleared (s ∷ l) h =
    let k = all_both zero_shop s l h in
    let a = both (eqb s.balance 0) _ k.0 in
    let b = both (eqb s.taken 0) _ a.1 in
    let c = both (eqb s.applied 0) _ b.1 in
    all-and zero_shop (unmarked s) (map unmarked l) (and _ _ a.0 (and _ _ b.0 (and _ _ c.0 refl))) (all-cleared l k.1)

pub record Free (self : Replica) (amount : ℕ) : Type 0 where
  pub lawful : lawful self ≡ true
  pub not_used_up : eqb (own_shop self).applied 999999 ≡ false
  pub enough : amount ≤ (own_shop self).balance

pub free : (self : Replica) (payee : List ℕ) (amount : ℕ) (buffer : List ℕ) → issue_answer self payee amount buffer ≡ 0 → Free self amount
unfolding issue_rows
free self payee amount buffer e =
    let c13 = first-zero Meaning.state (not (lawful self)) _ (omega arith) e in
    let c11 = first-zero Meaning.room (ltb (length buffer) 366) _ (omega arith) c13.1 in
    let c2 = first-zero Meaning.shop (not (listed self.register (code_of payee))) _ (omega arith) c11.1 in
    let c3 = first-zero Meaning.oneself (same_code (code_of payee) self.register.own) _ (omega arith) c2.1 in
    let c4 = first-zero Meaning.range (eqb amount 0 || ltb 999999 amount) _ (omega arith) c3.1 in
    let c8 = first-zero Meaning.busy (busy? self) _ (omega arith) c4.1 in
    let c10 = first-zero Meaning.usedup (eqb (own_shop self).applied 999999) _ (omega arith) c8.1 in
    let c9 = first-zero Meaning.short (ltb (own_shop self).balance amount) _ (omega arith) c10.1 in
    record { lawful = not-false _ c13.0; not_used_up = c10.0; enough = ltb-false (own_shop self).balance amount c9.0 }

module _ (self : Replica) (P : Parts self) (h : eqb (own_shop self).applied 999999 ≡ false) where
  R : RegisterLegal self.register
  R = register-legal self.register P.register

  lined : (p : ℕ) → p < shop_count self → Lined (issuing self) p
  unfolding issuing
  lined p l =
      let L = P.lined p l in
      let c = cleared self p in
      record {
        places = L.places;
        rest = L.rest;
        needs = L.needs;
        eight = L.eight;
        taken = ap (λ (x : Shop). x.taken) c ∙ L.taken ∙ ap (λ (x : Shop). x.applied + (line_at self p).count) (sym c);
        most = omega (arith, L.most, ap (λ (x : Shop). x.taken) c);
        numbers = λ k i. L.numbers k i ∙ ap (λ (x : Shop). x.applied + 1 + k) (sym c);
        payers = L.payers;
        pass = L.pass;
        mark = omega (arith, ap (λ (x : Shop). x.mark) c);
      }

  pub issuing-parts : Parts (issuing self)
  unfolding issuing
  issuing-parts =
      let o = own self in
      let L = P.lined o (below self.register self.register.own R R.own) in
      let d = eqb-false (own_shop self).applied 999999 h in
      record {
        register = P.register;
        shop_places = length-map self.shops unmarked ∙ P.shop_places;
        shop_rest = ap (all_of zero_shop) (map-drop unmarked (shop_count self) self.shops) ∙ all-cleared (drop (shop_count self) self.shops) P.shop_rest;
        line_places = P.line_places;
        line_rest = P.line_rest;
        sums = sum_same (shop_count self) (λ p. (shop_at (issuing self) p).balance) (λ p. (shop_at self p).balance) (λ p _. ap (λ (x : Shop). x.balance) (cleared self p)) ∙ P.sums;
        lined = lined;
        own_mark = ap (λ (x : Shop). x.mark) (cleared self o);
        issued = omega (arith, L.taken, L.most, d);
        issued_own = omega (arith, ap (λ (x : Shop). x.applied) (cleared self o));
      }

pub issued-lawful : (self : Replica) (payee : List ℕ) (amount : ℕ) (buffer : List ℕ) → lawful self ≡ true → lawful (issued self payee amount buffer).replica ≡ true
unfolding issued
issued-lawful self payee amount buffer l = go (issue_answer self payee amount buffer) refl
  where
    go : (n : ℕ) → issue_answer self payee amount buffer ≡ n → lawful (issued self payee amount buffer).replica ≡ true
    go zero e = let F = free self payee amount buffer e in rw (e, issued) (whole (issuing self) (issuing-parts self (parts self l) F.not_used_up))
    go (suc n) e = rw (e, issued) l

pub asked-same : (self : Replica) (code : List ℕ) → (asked self code).replica ≡ self
unfolding asked
asked-same self code = go (answer_of (balance_rows self code)) refl
  where
    go : (n : ℕ) → answer_of (balance_rows self code) ≡ n → (asked self code).replica ≡ self
    go zero e = rw (e, asked)
    go (suc n) e = rw (e, asked)

-- the shop is there, and what is told is its balance
pub record Told (self : Replica) (code : List ℕ) : Type 0 where
  pub inside : position self.register (code_of code) < shop_count self
  pub balance : (asked self code).balance ≡ (shop_at self (position self.register (code_of code))).balance

pub asked-told : (self : Replica) (code : List ℕ) → (asked self code).answer ≡ 0 → Told self code
unfolding asked balance_rows
asked-told self code e = go (answer_of (balance_rows self code)) refl
  where
    go : (n : ℕ) → answer_of (balance_rows self code) ≡ n → Told self code
    go zero i =
        let c13 = first-zero Meaning.state (not (lawful self)) _ (omega arith) i in
        let c2 = first-zero Meaning.shop (not (listed self.register (code_of code))) _ (omega arith) c13.1 in
        let R = register-legal self.register (parts self (not-false _ c13.0)).register in
        record { inside = below self.register (code_of code) R (not-false _ c2.0); balance = rw (i, asked) }
    go (suc n) i = let z : suc n ≡ 0 = rw (i, asked) at e in absurd (omega arith)
