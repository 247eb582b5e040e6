-- Applying a ready slip keeps the state rule.
use mathlib.Core.Path.{◌≡◌, refl, sym, ap, ◌∙◌, subst}
use mathlib.Core.Logic.{◌≢◌}
use mathlib.Core.Bool.{Bool, true, false, false≢true}
use mathlib.Core.List.{List, [], ◌∷◌, ◌++◌}
use Prim.Native.Nat.{ℕ, zero, suc, ◌+◌, ◌-◌, ◌≤◌, ◌<◌}
use native.Mathlib.Omega.{arith}
use lib.ListN.{length, drop, get_or, replicate, length-set, length-append, length-drop, get_or-append}
use lib.Seq.{drop-set-lt, get_or-drop, drop-drop, drop-append-le}
use lib.Dec.{ltb, eqb}
use borrow.Author.Tests.{eqb-true, ltb-true, leb-true, ne_eqb}
use Rattle.texts.specs.Bytes.{all_of}
use Rattle.texts.specs.Code.{same_code}
use Rattle.texts.specs.Entries.{no_entry}
use Rattle.texts.specs.declared.entry.Entry.{Entry}
use Rattle.texts.specs.declared.register.Register.{Register}
use Rattle.texts.specs.declared.slip.Slip.{Slip}
use Rattle.texts.proofs.Steps.{both, all_none, all-and, all_append, all_drop}
use Rattle.texts.proofs.Legal.{code_same, code-some, slip-legal, RegisterLegal, register-legal}
use Rattle.replica.specs.declared.record.Shop.{Shop}
use Rattle.replica.specs.declared.record.Waiting.{Waiting}
use Rattle.replica.specs.declared.record.Line.{Line}
use Rattle.replica.specs.declared.record.Replica.{Replica}
use Rattle.replica.specs.Record.{no_shop, no_waiting, listed_at, shop_count, own, shop_at, line_at, waiting_at, adjust, sum_to}
use Rattle.replica.specs.Slips.{slip_of, slip_at}
use Rattle.replica.specs.Checks.{slip_rows, passes}
use Rattle.replica.specs.State.{zero_from, zero_shop, zero_waiting, zero_line, lawful}
use Rattle.replica.specs.Settle.{first_waiting, ready_a, ready_b, ready_c, ready, without_first, apply}
use Rattle.replica.proofs.Sums.{either, sum_more}
use Rattle.replica.proofs.Quiet.{ready-some, line_other, line_first}
use Rattle.replica.proofs.OneToOne.{Passed, passed}
use Rattle.replica.proofs.Parts.{Lined, Parts, parts, whole}
use Rattle.replica.proofs.Opened.{zero-waiting, drop-replicate}
use Rattle.replica.proofs.Shops.{adjust-same, adjust-other, paying_at, paid_at, pays, is-paid, is-out}

-- ---- a slip that passes is paid to another shop of the register

zero-code : (k i : ℕ) → (get_or (replicate k no_entry) i (record { code = record { digits = []; len = 0 }; number = 0 })).code.len ≡ 0
zero-code zero i = refl
zero-code (suc k) zero = refl
zero-code (suc k) (suc i) = zero-code k i

unused-code : (r : Register) (p : ℕ) → RegisterLegal r → r.count ≤ p → (listed_at r p).code.len ≡ 0
unused-code r p R h =
    let z : Entry = record { code = record { digits = []; len = 0 }; number = 0 } in
    let e : r.count + (p - r.count) ≡ p = omega arith in
    ap (λ (i : ℕ). (listed_at r i).code.len) (sym e)
    ∙ ap (λ (l : Entry). l.code.len) (sym (get_or-drop r.count r.shops (p - r.count) z))
    ∙ ap (λ (l : List Entry). (get_or l (p - r.count) z).code.len) R.fits.rest
    ∙ zero-code (16 - r.count) (p - r.count)

pub passed-of : (r : Register) (s : Slip) → passes r s ≡ true → Passed r s
unfolding passes
passed-of r s e = passed r s (eqb-true (Rattle.texts.specs.Answers.answer_of (slip_rows r s)) 0 e)

pub payee-below : (r : Register) (w : Waiting) → RegisterLegal r → Passed r (slip_of r w) → w.payee < r.count
unfolding slip_of
payee-below r w R P = go (ltb w.payee r.count) refl
  where
    go : (t : Bool) → ltb w.payee r.count ≡ t → w.payee < r.count
    go true e = ltb-true _ _ e
    go false e =
        let S = slip-legal (slip_of r w) P.legal in
        let l = code-some (listed_at r w.payee).code S.payee in
        let z = unused-code r w.payee R (borrow.Author.Tests.ltb-false _ _ e) in
        absurd (omega arith)

pub payee-other : (r : Register) (w : Waiting) → Passed r (slip_of r w) → w.payer ≢ w.payee
unfolding slip_of
payee-other r w P e =
    let c = code_same (listed_at r w.payee).code in
    let d : same_code (listed_at r w.payee).code (listed_at r w.payee).code ≡ false =
    subst (λ (q : ℕ). same_code (listed_at r w.payee).code (listed_at r q).code ≡ false) e P.another in
    false≢true (sym d ∙ c)

-- ---- the parts of ready

pub ready-funds : (self : Replica) (p : ℕ) → ready self p ≡ true → (first_waiting self p).amount ≤ (shop_at self p).balance
unfolding ready
ready-funds self p e =
    let a = both (ltb 0 (line_at self p).count) _ e in
    let b = both (ready_a self p) _ a.1 in
    leb-true _ _ (both (ready_b self p) (ready_c self p) b.1).0

-- ---- a line without its first slip

module _ (l : Line) (places : length l.slips ≡ 8) (some : 0 < l.count) (eight : l.count ≤ 8) where
  less-places : length (without_first l).slips ≡ 8
  less-places = length-append (drop 1 l.slips) (no_waiting ∷ []) ∙ omega (arith, length-drop 1 l.slips)

  less-rest : all_of zero_waiting (drop l.count l.slips) ≡ true → all_of zero_waiting (drop (l.count - 1) (without_first l).slips) ≡ true
  less-rest h =
      let k : l.count - 1 ≤ length (drop 1 l.slips) = omega (arith, length-drop 1 l.slips) in
      let c : 1 + (l.count - 1) ≡ l.count = omega arith in
      ap (all_of zero_waiting)
      (drop-append-le (l.count - 1) (drop 1 l.slips) (no_waiting ∷ []) k
      ∙ ap (λ x. x ++ (no_waiting ∷ [])) (drop-drop (l.count - 1) 1 l.slips ∙ ap (λ (i : ℕ). drop i l.slips) c))
      ∙ all_append zero_waiting (drop l.count l.slips) (no_waiting ∷ []) h (all-and zero_waiting no_waiting [] zero-waiting (all_none zero_waiting))

  less-at : (k : ℕ) (z : Waiting) → k + 1 < l.count → get_or (without_first l).slips k z ≡ get_or l.slips (k + 1) z
  less-at k z h =
      let c : 1 + k ≡ k + 1 = omega arith in
      get_or-append (drop 1 l.slips) (no_waiting ∷ []) z k (omega (arith, length-drop 1 l.slips)) ∙ get_or-drop 1 l.slips k z ∙ ap (λ (i : ℕ). get_or l.slips i z) c

-- ---- the whole

abbrev pub at_place : Line → ℕ → Waiting
at_place l k = get_or l.slips k (record { payer = 0; number = 0; payee = 0; amount = 0; needs = [] })

module _ (self : Replica) (p : ℕ) (P : Parts self) (h : p < shop_count self) (e : ready self p ≡ true) where
  pub n16 : shop_count self ≤ 16
  n16 = (register-legal self.register P.register).fits.most

  pub some : 0 < (line_at self p).count
  some = ready-some self p e

  pass : Passed self.register (slip_at self p 0)
  pass = passed-of self.register (slip_at self p 0) ((P.lined p h).pass 0 some)

  pub below : (first_waiting self p).payee < shop_count self
  below = payee-below self.register (first_waiting self p) (register-legal self.register P.register) pass

  pub other : p ≢ (first_waiting self p).payee
  other e = payee-other self.register (first_waiting self p) pass ((P.lined p h).payers 0 some ∙ e)

  pub payer : shop_at (apply self p) p ≡ paying_at self p (shop_at self p)
  payer = pays self p other (omega (arith, P.shop_places, n16))

  pub payee : shop_at (apply self p) (first_waiting self p).payee ≡ paid_at self p (shop_at self (first_waiting self p).payee)
  payee = is-paid self p other (omega (arith, P.shop_places, n16, below))

  -- taken, applied and mark of a shop that does not pay
  pub same : (q : ℕ) → q ≢ p → ((shop_at (apply self p) q).taken ≡ (shop_at self q).taken) × ((shop_at (apply self p) q).applied ≡ (shop_at self q).applied) × ((shop_at (apply self p) q).mark ≡ (shop_at self q).mark)
  same q d = either q (first_waiting self p).payee
      (λ j.
      let x : shop_at (apply self p) q ≡ paid_at self p (shop_at self q) =
      subst (λ (a : ℕ). shop_at (apply self p) a ≡ paid_at self p (shop_at self a)) (sym j) payee in
      (ap (λ (s : Shop). s.taken) x, ap (λ (s : Shop). s.applied) x, ap (λ (s : Shop). s.mark) x))
      (λ j. let x = is-out self p other q d j in (ap (λ (s : Shop). s.taken) x, ap (λ (s : Shop). s.applied) x, ap (λ (s : Shop). s.mark) x))

  -- "balances add up to the openings"
  sums : sum_to (shop_count self) (λ q. (shop_at (apply self p) q).balance) ≡ sum_to (shop_count self) (λ q. (shop_at self q).balance)
  unfolding apply
  sums =
      let a = (first_waiting self p).payee in
      let m = (first_waiting self p).amount in
      let mid : ℕ → ℕ = λ q. (get_or (adjust (paying_at self p) p self.shops) q no_shop).balance in
      let l : p < length self.shops = omega (arith, P.shop_places, n16) in
      let k : a < length (adjust (paying_at self p) p self.shops) = rw length-set (omega (arith, P.shop_places, n16, below)) in
      let f = ready-funds self p e in
      let x = ap (λ (s : Shop). s.balance) (adjust-same (paying_at self p) p self.shops l) in
      let y = ap (λ (s : Shop). s.balance) (adjust-same (paid_at self p) a (adjust (paying_at self p) p self.shops) k) in
      let u : sum_to (shop_count self) (λ q. (shop_at self q).balance) ≡ sum_to (shop_count self) mid + m =
      sum_more (shop_count self) (λ q. (shop_at self q).balance) mid p m h (omega arith) (λ q d. ap (λ (s : Shop). s.balance) (sym (adjust-other (paying_at self p) p q self.shops d))) in
      let v : sum_to (shop_count self) (λ q. (shop_at (apply self p) q).balance) ≡ sum_to (shop_count self) mid + m =
      sum_more (shop_count self) (λ q. (shop_at (apply self p) q).balance) mid a m below y (λ q d. ap (λ (s : Shop). s.balance) (adjust-other (paid_at self p) a q (adjust (paying_at self p) p self.shops) d)) in
      v ∙ sym u

  pub line-payer : line_at (apply self p) p ≡ without_first (line_at self p)
  line-payer = line_first self p (omega (arith, P.line_places, n16))

  abbrev fits : Waiting → Bool
  fits w = zero_from 16 (eqb 0) (shop_count self) w.needs

  pub next : (k : ℕ) → k + 1 < (line_at self p).count → waiting_at (apply self p) p k ≡ waiting_at self p (k + 1)
  next k l =
      let z : Waiting = record { payer = 0; number = 0; payee = 0; amount = 0; needs = [] } in
      let L = P.lined p h in
      ap (λ (x : Line). get_or x.slips k z) line-payer ∙ less-at (line_at self p) L.places some L.eight k z l

  lined-payer : Lined (apply self p) p
  unfolding apply
  lined-payer =
      let l = line_at self p in
      let L = P.lined p h in
      let c = ap (λ (x : Line). x.count) line-payer in
      let s = some in
      record {
        places = ap (λ (x : Line). length x.slips) line-payer ∙ less-places l L.places some L.eight;
        rest = ap (λ (x : Line). all_of zero_waiting (drop x.count x.slips)) line-payer ∙ less-rest l L.places some L.eight L.rest;
        needs = ap (λ (x : Line). all_of fits x.slips) line-payer
            ∙ all_append fits (drop 1 l.slips) (no_waiting ∷ []) (all_drop fits 1 l.slips L.needs) last;
        eight = omega (arith, L.eight);
        taken = ap (λ (x : Shop). x.taken) payer ∙ omega (arith, L.taken, ap (λ (x : Shop). x.applied) payer);
        most = omega (arith, L.most, ap (λ (x : Shop). x.taken) payer);
        numbers = λ k q.
            ap (λ (x : Waiting). x.number) (next k (omega arith)) ∙ L.numbers (k + 1) (omega arith) ∙ omega (arith, ap (λ (x : Shop). x.applied) payer);
        payers = λ k q. ap (λ (x : Waiting). x.payer) (next k (omega arith)) ∙ L.payers (k + 1) (omega arith);
        pass = λ k q. ap (λ (x : Waiting). passes self.register (slip_of self.register x)) (next k (omega arith)) ∙ L.pass (k + 1) (omega arith);
        mark = omega (arith, upper (eqb (first_waiting self p).payee (own self)), ap (λ (x : Shop). x.mark) payer, ap (λ (x : Shop). x.applied) payer);
      }
    where
      last : all_of fits (no_waiting ∷ []) ≡ true
      last = all-and fits no_waiting [] (drop-replicate (shop_count self) 16 0 (eqb 0) refl) (all_none fits)

      upper : (t : Bool) → (elim t as (λ _. ℕ) [ true ↦ (first_waiting self p).number | false ↦ (shop_at self p).mark ]) ≤ (shop_at self p).applied + 1
      upper true = omega (arith, (P.lined p h).numbers 0 some)
      upper false = omega (arith, (P.lined p h).mark)

  lined-other : (q : ℕ) → q < shop_count self → q ≢ p → Lined (apply self p) q
  unfolding apply
  lined-other q l d =
      let L = P.lined q l in
      let j = line_other self p q d in
      let s = same q d in
      let c = ap (λ (x : Line). x.count) j in
      record {
        places = ap (λ (x : Line). length x.slips) j ∙ L.places;
        rest = ap (λ (x : Line). all_of zero_waiting (drop x.count x.slips)) j ∙ L.rest;
        needs = ap (λ (x : Line). all_of fits x.slips) j ∙ L.needs;
        eight = omega (arith, L.eight);
        taken = s.0 ∙ omega (arith, L.taken, s.1);
        most = omega (arith, L.most, s.0);
        numbers = λ k i. ap (λ (x : Line). (at_place x k).number) j ∙ L.numbers k (omega arith) ∙ omega (arith, s.1);
        payers = λ k i. ap (λ (x : Line). (at_place x k).payer) j ∙ L.payers k (omega arith);
        pass = λ k i. ap (λ (x : Line). passes self.register (slip_of self.register (at_place x k))) j ∙ L.pass k (omega arith);
        mark = omega (arith, L.mark, s.1, s.2);
      }

  own-mark : (shop_at (apply self p) (own self)).mark ≡ 0
  own-mark = either (own self) p
      (λ j.
      let f : eqb (first_waiting self p).payee (own self) ≡ false = ne_eqb _ _ (λ i. other (sym j ∙ sym i)) in
      let m : (shop_at (apply self p) p).mark ≡ (shop_at self p).mark =
      ap (λ (x : Shop). x.mark) payer ∙ ap (λ (t : Bool). elim t as (λ _. ℕ) [ true ↦ (first_waiting self p).number | false ↦ (shop_at self p).mark ]) f in
      let o : (shop_at self p).mark ≡ 0 = subst (λ (q : ℕ). (shop_at self q).mark ≡ 0) j P.own_mark in
      rw j (m ∙ o))
      (λ j. (same (own self) j).2 ∙ P.own_mark)

  own-applied : (shop_at self (own self)).applied ≤ (shop_at (apply self p) (own self)).applied
  own-applied = either (own self) p
      (λ j. rw j (omega (arith, ap (λ (x : Shop). x.applied) payer)))
      (λ j. omega (arith, (same (own self) j).1))

  pub applied-parts : Parts (apply self p)
  unfolding apply
  applied-parts =
      record {
        register = P.register;
        shop_places = simp length-set P.shop_places;
        shop_rest =
            ap (all_of zero_shop)
            (drop-set-lt (shop_count self) (adjust (paying_at self p) p self.shops) (first_waiting self p).payee _ below
            ∙ drop-set-lt (shop_count self) self.shops p _ h)
            ∙ P.shop_rest;
        line_places = simp length-set P.line_places;
        line_rest = ap (all_of zero_line) (drop-set-lt (shop_count self) self.lines p _ h) ∙ P.line_rest;
        sums = sums ∙ P.sums;
        lined = λ q l. either q p (λ j. subst (λ (x : ℕ). Lined (apply self p) x) (sym j) lined-payer) (λ j. lined-other q l j);
        own_mark = own-mark;
        issued = P.issued;
        issued_own = omega (arith, P.issued_own, own-applied);
      }

pub apply-lawful : (self : Replica) (p : ℕ) → lawful self ≡ true → p < shop_count self → ready self p ≡ true → lawful (apply self p) ≡ true
apply-lawful self p e h r = whole (apply self p) (applied-parts self p (parts self e) h r)
