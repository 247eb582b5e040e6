-- The state rule by position: its tests pass exactly when the rule's do.
use mathlib.Core.Path.{◌≡◌, refl, sym, ap, ◌∙◌, subst, subst₂}
use mathlib.Core.Bool.{Bool, true, false, not}
use mathlib.Core.List.{List, [], ◌∷◌}
use Prim.Native.Nat.{ℕ, zero, suc, ◌+◌, ◌-◌, ◌≤◌, ◌<◌}
use native.Mathlib.Omega.{arith}
use native.Mathlib.Numerals.{add-one}
use native.Mathlib.Decide.{dec_lt}
use Rattle.std.proofs.lemmas.List.Sums.{sum_by_more}
use lib.ListN.{length, take, drop, get_or, replicate, length-drop, get_or-eq_default}
use lib.Seq.{get_or-take, get_or-drop, length-take-le, take_at}
use lib.Dec.{eqb, leb, ltb}
use borrow.Author.Tests.{eqb-true, eqb-false, lt-ltb, le-leb, ne_eqb, eq-eqb, not-true}
use Rattle.std.specs.List.{sum_by}
use Rattle.std.specs.Bool.{Decides}
use Rattle.std.proofs.lemmas.List.{get_or_default}
use Rattle.std.proofs.lemmas.Bool.Decides.{same_from_decides}
use Rattle.texts.specs.Bytes.{bytes, all_of}
use Rattle.texts.specs.Answers.{Meaning, answer_of}
use Rattle.texts.specs.Code.{code, same_code}
use Rattle.texts.specs.Entries.{no_entry}
use Rattle.texts.specs.Register.{shops_of, opening, position, listed, register_answer}
use Rattle.texts.specs.Slip.{dep_line, slip_layout, deps_of}
use Rattle.texts.specs.declared.entry.Entry.{Entry}
use Rattle.texts.specs.declared.register.Register.{Register}
use Rattle.texts.proofs.Values.{fails}
use Rattle.texts.proofs.Firsts.{zero-first, no_rows}
use Rattle.texts.proofs.LawsTexts.{same_code_lem}
use Rattle.texts.proofs.Steps.{both, and, nor, all_none, all_both, all-and, all-at, at_all}
use Rattle.texts.proofs.Legal.{entry-legal, slip-legal, legal-slip, shop-code, RegisterLegal, register-legal}
use Rattle.replica.specs.declared.record.Shop.{Shop}
use Rattle.replica.specs.declared.record.Waiting.{Waiting}
use Rattle.replica.specs.declared.record.Line.{Line}
use Rattle.replica.specs.declared.record.Replica.{Replica}
use Rattle.replica.specs.Record.{no_shop, no_waiting, no_line, listed_at, shop_count, shop_at, line_at, waiting_at, sum_to}
use Rattle.replica.specs.Slips.{deps_from, slip_with, slip_of, slip_at}
use Rattle.replica.specs.State.{zero_from, zero_shop, zero_waiting, zero_line, lawful}
use Rattle.replica.specs.Checks.{range?, shop?, rising, deps?, slip_rows, passes}
use Rattle.replica.specs.Inside.{NeedsKept, SlipKept, LineKept, NumbersKept, ShopKept, RecordKept}
use Rattle.replica.proofs.OneToOne.{below}
use Rattle.replica.proofs.Parts.{Lined, parts, whole}
use Rattle.replica.proofs.Applied.{passed-of, payee-below, payee-other}
use Rattle.replica.proofs.Back.{place-self}
use Rattle.replica.proofs.IssuedSlip.{zero-shop, from_up, from_all, from-fewer, up-rising}
use Rattle.replica.proofs.Opened.{zero-waiting, zero-line, drop-replicate}
use Rattle.replica.proofs.Kept.{blank-waiting, blank-line}

-- ---- the places of an array from n on

-- each passes: all do
from_each : {A : Type 0} (t : A → Bool) (n : ℕ) (xs : List A) (z : A) → ((k : ℕ) → n ≤ k → k < length xs → t (get_or xs k z) ≡ true) → all_of t (drop n xs) ≡ true
from_each t n xs z h = at_all t (drop n xs) z (λ i l. ap t (get_or-drop n xs i z) ∙ h (n + i) (omega arith) (omega (arith, length-drop n xs)))

-- all do: each passes
pub each_from : {A : Type 0} (t : A → Bool) (n : ℕ) (xs : List A) (z : A) → all_of t (drop n xs) ≡ true → (k : ℕ) → n ≤ k → k < length xs → t (get_or xs k z) ≡ true
each_from t n xs z e k a b =
    let j : n + (k - n) ≡ k = omega arith in
    sym (ap t (get_or-drop n xs (k - n) z ∙ ap (λ i. get_or xs i z) j)) ∙ all-at t (drop n xs) z (k - n) e (omega (arith, length-drop n xs))

-- ---- a slip's dependencies and the numbers that it asks for

not_some : (m : ℕ) → (0 < m → ⊥) → m ≡ 0
not_some zero h = refl
not_some (suc m) h = absurd (h (omega arith))

-- what holds of each dependency holds of each shop with its number, where that is not 0
all_from : (z : Entry) (Q : Entry → Bool) (us : List Entry) (ns : List ℕ) → all_of Q (deps_from us ns) ≡ true
    → (j : ℕ) → j < length us → 0 < get_or ns j 0 → Q (record { code = (get_or us j z).code; number = get_or ns j 0 }) ≡ true
unfolding deps_from
all_from z Q [] ns h j l p = absurd (omega arith)
all_from z Q (u ∷ us) [] h j l p = absurd (omega arith)
all_from z Q (u ∷ us) (zero ∷ ns) h zero l p = absurd (omega arith)
all_from z Q (u ∷ us) (zero ∷ ns) h (suc j) l p = all_from z Q us ns h j (omega arith) p
all_from z Q (u ∷ us) (suc m ∷ ns) h zero l p = (all_both Q _ _ h).0
all_from z Q (u ∷ us) (suc m ∷ ns) h (suc j) l p = all_from z Q us ns (all_both Q _ _ h).1 j (omega arith) p

-- numbers that are all 0 give none
from_nothing : (us : List Entry) (ns : List ℕ) → ((j : ℕ) → get_or ns j 0 ≡ 0) → deps_from us ns ≡ []
unfolding deps_from
from_nothing [] ns h = refl
from_nothing (u ∷ us) [] h = refl
from_nothing (u ∷ us) (zero ∷ ns) h = from_nothing us ns (λ j. h (suc j))
from_nothing (u ∷ us) (suc m ∷ ns) h = absurd (omega (arith, h 0))

-- where the numbers from n on are 0, the first n shops give them all
from_front : (n : ℕ) (us : List Entry) (ns : List ℕ) → ((j : ℕ) → n ≤ j → get_or ns j 0 ≡ 0) → deps_from us ns ≡ deps_from (take n us) ns
unfolding deps_from
from_front zero us ns h = from_nothing us ns (λ j. h j (omega arith))
from_front (suc n) [] ns h = refl
from_front (suc n) (u ∷ us) [] h = refl
from_front (suc n) (u ∷ us) (zero ∷ ns) h = from_front n us ns (λ j l. h (suc j) (omega arith))
from_front (suc n) (u ∷ us) (suc m ∷ ns) h = ap (λ ds. record { code = u.code; number = suc m } ∷ ds) (from_front n us ns (λ j l. h (suc j) (omega arith)))

-- dependencies in order do not name the payer
rising-other : (r : Register) (payer least : ℕ) (ds : List Entry) → rising r payer least ds ≡ true
    → all_of (λ (d : Entry). not (eqb (position r d.code) payer)) ds ≡ true
unfolding rising
rising-other r payer least [] e = all_none _
rising-other r payer least (d ∷ ds) e =
    let a = both (leb least (position r d.code)) _ e in
    let b = both (not (eqb (position r d.code) payer)) _ a.1 in
    all-and _ d ds b.0 (rising-other r payer (suc (position r d.code)) ds b.1)

-- ---- the shops of a legal register

abbrev blank : Entry
blank = record { code = record { digits = []; len = 0 }; number = 0 }

module _ (r : Register) (R : RegisterLegal r) where
  used : length (shops_of r) ≡ r.count
  used = length-take-le r.count r.shops (omega (arith, R.fits.most, R.fits.places))

  -- among the shops in use and in the array stands the same
  in_use_lem : (p : ℕ) → p < r.count → get_or (shops_of r) p blank ≡ listed_at r p
  in_use_lem p h = get_or-take r.count r.shops p blank h

  -- a shop stands at its own position
  at_place : (p : ℕ) → p < r.count → position r (listed_at r p).code ≡ p
  at_place p h = ap (λ (l : Entry). position r l.code) (sym (in_use_lem p h)) ∙ place-self (shops_of r) blank p R.single (omega (arith, used))

  is-listed : (p : ℕ) → p < r.count → listed r (listed_at r p).code ≡ true
  is-listed p h = lt-ltb _ (length (shops_of r)) (omega (arith, at_place p h, used))

  is-code : (p : ℕ) → p < r.count → (code 10).legal (listed_at r p).code ≡ true
  is-code p h = shop-code r R.fits p h blank

  -- two shops have two codes
  pub two-codes : (p q : ℕ) → p < r.count → q < r.count → (p ≡ q → ⊥) → same_code (listed_at r p).code (listed_at r q).code ≡ false
  two-codes p q h l d = go (same_code (listed_at r p).code (listed_at r q).code) refl
    where
      go : (t : Bool) → same_code (listed_at r p).code (listed_at r q).code ≡ t → same_code (listed_at r p).code (listed_at r q).code ≡ false
      go false e = e
      go true e = absurd (d (sym (at_place p h) ∙ ap (position r) (same_code_lem _ _ e) ∙ at_place q l))

  -- ---- a waiting slip of one of them

  module _ (w : Waiting) (payer : w.payer < r.count) (rest : (j : ℕ) → r.count ≤ j → get_or w.needs j 0 ≡ 0) where
    abbrev ds : List Entry
    ds = deps_from (shops_of r) w.needs

    deps : deps_from r.shops w.needs ≡ ds
    deps = from_front r.count r.shops w.needs rest

    same : deps_of (slip_of r w) ≡ ds
    unfolding slip_of
    same = let d = deps_from r.shops w.needs in take_at d (replicate (16 - length d) no_entry) (length d) refl ∙ deps

    -- what holds of each shop with its number holds of each dependency
    every-dep : (Q : Entry → Bool) → ((j : ℕ) → j < r.count → 0 < get_or w.needs j 0 → Q (record { code = (listed_at r j).code; number = get_or w.needs j 0 }) ≡ true) → all_of Q ds ≡ true
    every-dep Q h = from_all blank Q (shops_of r) w.needs (λ j l p.
        let k : j < r.count = omega (arith, used) in
        ap (λ (u : Entry). Q (record { code = u.code; number = get_or w.needs j 0 })) (in_use_lem j k) ∙ h j k p)

    -- and back
    dep-at : (Q : Entry → Bool) → all_of Q ds ≡ true → (j : ℕ) → j < r.count → 0 < get_or w.needs j 0 → Q (record { code = (listed_at r j).code; number = get_or w.needs j 0 }) ≡ true
    dep-at Q e j k p =
        ap (λ (u : Entry). Q (record { code = u.code; number = get_or w.needs j 0 })) (sym (in_use_lem j k))
        ∙ all_from blank Q (shops_of r) w.needs e j (omega (arith, used)) p

    -- kept by position, it passes checks 1, 4, 2, 3 and 5
    pub kept-passes : (named : ℕ) → SlipKept w.payer r.count named w → 1 ≤ named → named ≤ 999999 → passes r (slip_of r w) ≡ true
    unfolding slip_of passes range? shop? deps?
    kept-passes named K some most =
        let N = K.needs in
        let p = w.payer in
        let number = K.number in
        let near : (j : ℕ) → j < r.count → j < 16 = λ j h. omega (arith, R.fits.most) in
        let none : get_or w.needs p 0 ≡ 0 = not_some _ (λ h. (N.at p (near p payer)).other h refl) in
        let fifteen : length ds ≤ 15 = omega (arith, from-fewer (shops_of r) w.needs p (omega (arith, used)) none, used, R.fits.most) in
        let legal : all_of dep_line.legal ds ≡ true = every-dep dep_line.legal (λ j h q.
        and _ _ (is-code j h) (and _ _ (and _ _ (le-leb 0 (get_or w.needs j 0) (omega arith)) (le-leb _ 999999 (N.at j (near j h)).most)) refl)) in
        let known : all_of (λ (d : Entry). listed r d.code) ds ≡ true = every-dep (λ (d : Entry). listed r d.code) (λ j h q. is-listed j h) in
        let positive : all_of (λ (d : Entry). ltb 0 d.number) ds ≡ true = every-dep (λ (d : Entry). ltb 0 d.number) (λ j h q. lt-ltb 0 _ q) in
        let others : all_of (λ (d : Entry). not (eqb (position r d.code) p)) ds ≡ true = every-dep (λ (d : Entry). not (eqb (position r d.code) p)) (λ j h q.
        ap not (ne_eqb _ p (λ e. (N.at j (near j h)).other q (sym (at_place j h) ∙ e)))) in
        let rises : rising r (position r (listed_at r p).code) 0 ds ≡ true =
        ap (λ (k : ℕ). rising r k 0 ds) (at_place p payer) ∙ up-rising r p 0 ds (from_up (shops_of r) w.needs R.single) others in
        let f : slip_layout.legal (slip_of r w) ≡ true =
        ap (λ d. slip_layout.legal (slip_with (listed_at r p).code w.number (listed_at r w.payee).code w.amount d)) deps
        ∙ legal-slip (listed_at r p).code w.number (listed_at r w.payee).code w.amount ds (is-code p payer) (is-code w.payee K.payee) (omega arith) K.most fifteen legal in
        eq-eqb (answer_of (slip_rows r (slip_of r w))) 0
        (zero-first Meaning.form _ _ (ap not f)
        (zero-first Meaning.range _ _ (nor _ _ (ne_eqb w.number 0 (λ e. omega arith)) (nor _ _ (ne_eqb w.amount 0 (λ e. omega (arith, K.some))) (ap not (ap (all_of (λ (d : Entry). ltb 0 d.number)) same ∙ positive))))
        (zero-first Meaning.shop _ _ (ap not (and _ _ (is-listed p payer) (and _ _ (is-listed w.payee K.payee) (ap (all_of (λ (d : Entry). listed r d.code)) same ∙ known))))
        (zero-first Meaning.oneself _ _ (two-codes w.payee p K.payee payer K.other)
        (zero-first Meaning.deps _ _ (ap not (ap (rising r (position r (listed_at r p).code) 0) same ∙ rises)) no_rows)))))

    -- passing them, it is kept by position
    pub passes_kept : (named : ℕ) → w.number ≡ named → length w.needs ≡ 16 → passes r (slip_of r w) ≡ true → SlipKept w.payer r.count named w
    unfolding slip_of
    passes_kept named number places t =
        let P = passed-of r (slip_of r w) t in
        let S = slip-legal (slip_of r w) P.legal in
        let p = w.payer in
        let below : (j : ℕ) → 0 < get_or w.needs j 0 → j < r.count = λ j q. elim (dec_lt j r.count) [ yes l ↦ l | no l ↦ absurd (omega (arith, rest j (omega arith))) ] in
        let legal : all_of dep_line.legal ds ≡ true = ap (all_of dep_line.legal) (sym same) ∙ S.used in
        let others = rising-other r (position r (listed_at r p).code) 0 ds (ap (rising r (position r (listed_at r p).code) 0) (sym same) ∙ P.rises) in
        let most : (j m : ℕ) → get_or w.needs j 0 ≡ m → m ≤ 999999 = λ j m e. upto j (get_or w.needs j 0) (λ q. dep-at dep_line.legal legal j (below j q) q) m e in
        record {
          payer = refl;
          number = number;
          some = P.amount;
          most = S.amount;
          payee = payee-below r w R P;
          other = λ e. payee-other r w P (sym e);
          needs = record {
            places = places;
            at = λ j h. record {
              most = most j (get_or w.needs j 0) refl;
              known = below j;
              other = λ q e.
                  let o = dep-at (λ (d : Entry). not (eqb (position r d.code) (position r (listed_at r p).code))) others j (below j q) q in
                  eqb-false _ _ (not-true _ o) (ap (λ (i : ℕ). position r (listed_at r i).code) e);
            };
          };
        }
      where
        upto : (j n : ℕ) → (0 < n → dep_line.legal (record { code = (listed_at r j).code; number = n }) ≡ true) → (m : ℕ) → n ≡ m → m ≤ 999999
        upto j n f zero e = omega arith
        upto j n f (suc m) e = omega (arith, (entry-legal (bytes "dep=") (record { code = (listed_at r j).code; number = n }) (f (omega arith))).1)

-- ---- the numbers that a slip asks for, from a position on

abbrev zero_needs : ℕ → Waiting → Bool
zero_needs n w = zero_from 16 (eqb 0) n w.needs

-- those of shops that there are not are zero
kept-zero : (payer n : ℕ) (w : Waiting) → NeedsKept payer n w.needs → zero_needs n w ≡ true
kept-zero payer n w N =
    and _ _ (eq-eqb (length w.needs) 16 N.places) (from_each (eqb 0) n w.needs 0 (λ j a b.
    let K = N.at j (omega (arith, N.places)) in
    eq-eqb 0 _ (sym (not_some (get_or w.needs j 0) (λ q. omega (arith, K.known q))))))

-- as numbers, past the array's end too
zero-at : (n : ℕ) (w : Waiting) → zero_needs n w ≡ true → (j : ℕ) → n ≤ j → get_or w.needs j 0 ≡ 0
zero-at n w e j h =
    let a = both (eqb (length w.needs) 16) (all_of (eqb 0) (drop n w.needs)) e in
    elim (dec_lt j (length w.needs)) [
      | yes l ↦ sym (eqb-true 0 _ (each_from (eqb 0) n w.needs 0 a.1 j h l))
      | no l ↦ get_or-eq_default w.needs 0 (omega arith)
    ]

-- ---- a line

abbrev unused : Waiting
unused = record { payer = 0; number = 0; payee = 0; amount = 0; needs = [] }

module _ (self : Replica) (R : RegisterLegal self.register) (p : ℕ) (h : p < shop_count self) where
  abbrev l : Line
  l = line_at self p

  abbrev s : Shop
  s = shop_at self p

  -- kept by position, it is as the rule says
  kept-lined : ShopKept p (shop_count self) s l → Lined self p
  kept-lined K = record {
    places = L.places;
    rest = at_all zero_waiting (drop l.count l.slips) unused (λ k h. ap zero_waiting (L.unused k unused h) ∙ zero-waiting);
    needs = from_each (zero_needs (shop_count self)) 0 l.slips unused needs;
    eight = L.eight;
    taken = N.taken;
    most = N.most;
    numbers = λ k q. (slip k q).number;
    payers = λ k q. (slip k q).payer;
    pass = pass;
    mark = N.mark;
  }
    where
      N : NumbersKept l.count s
      N = K.numbers

      L : LineKept p (shop_count self) s.applied l
      L = K.line

      slip : (k : ℕ) → k < l.count → SlipKept p (shop_count self) (s.applied + 1 + k) (waiting_at self p k)
      slip k q =
          subst (SlipKept p (shop_count self) (s.applied + 1 + k)) (get_or-take l.count l.slips k unused q)
          (L.used k unused (omega (arith, L.places, L.eight, length-take-le l.count l.slips)))

      none : (k : ℕ) → l.count ≤ k → k < 8 → waiting_at self p k ≡ no_waiting
      none k a b =
          let j : l.count + (k - l.count) ≡ k = omega arith in
          sym (get_or-drop l.count l.slips (k - l.count) unused ∙ ap (λ i. get_or l.slips i unused) j) ∙ L.unused (k - l.count) unused (omega (arith, L.places, length-drop l.count l.slips))

      used-needs : (k : ℕ) → k < l.count → zero_needs (shop_count self) (waiting_at self p k) ≡ true
      used-needs k q = kept-zero p (shop_count self) (waiting_at self p k) (slip k q).needs

      needs : (k : ℕ) → 0 ≤ k → k < length l.slips → zero_needs (shop_count self) (waiting_at self p k) ≡ true
      needs k a b = elim (dec_lt k l.count) [
        | yes q ↦ used-needs k q
        | no q ↦ ap (zero_needs (shop_count self)) (none k (omega arith) (omega (arith, L.places))) ∙ drop-replicate (shop_count self) 16 0 (eqb 0) refl
      ]

      pass : (k : ℕ) → k < l.count → passes self.register (slip_at self p k) ≡ true
      pass k q =
          let w = waiting_at self p k in
          let K = slip k q in
          kept-passes self.register R w (omega (arith, K.payer)) (zero-at (shop_count self) w (used-needs k q)) (s.applied + 1 + k)
          (subst (λ (i : ℕ). SlipKept i (shop_count self) (s.applied + 1 + k) w) (sym K.payer) K) (omega arith) (omega (arith, N.taken, N.most))

  -- as the rule says, it is kept by position
  lined-kept : Lined self p → ShopKept p (shop_count self) s l
  lined-kept L = record {
    numbers = record { taken = L.taken; most = L.most; mark = L.mark };
    line = record {
      places = L.places;
      eight = L.eight;
      used = λ k z h.
          let q : k < l.count = omega (arith, few) in
          subst (SlipKept p (shop_count self) (s.applied + 1 + k)) (get_or_default l.slips k unused z (omega (arith, L.places, L.eight)) ∙ sym (get_or-take l.count l.slips k z q)) (slip k q);
      unused = λ k z h. blank-waiting _ (all-at zero_waiting (drop l.count l.slips) z k L.rest h);
    };
  }
    where
      slip : (k : ℕ) → k < l.count → SlipKept p (shop_count self) (s.applied + 1 + k) (waiting_at self p k)
      slip k q =
          let w = waiting_at self p k in
          let z = all-at (zero_needs (shop_count self)) l.slips unused k L.needs (omega (arith, L.places, L.eight)) in
          let a = both (eqb (length w.needs) 16) (all_of (eqb 0) (drop (shop_count self) w.needs)) z in
          subst (λ (i : ℕ). SlipKept i (shop_count self) (s.applied + 1 + k) w) (L.payers k q)
          (passes_kept self.register R w (omega (arith, L.payers k q)) (zero-at (shop_count self) w z) (s.applied + 1 + k) (L.numbers k q) (eqb-true _ 16 a.0) (L.pass k q))

      few : length (take l.count l.slips) ≡ l.count
      few = length-take-le l.count l.slips (omega (arith, L.places, L.eight))

-- ---- the whole record

-- a sum over the first n of a list is one over the positions below n
sum-front : {A : Type 0} (f : A → ℕ) (n : ℕ) (xs : List A) (z : A) → n ≤ length xs → sum_by f (take n xs) ≡ sum_to n (λ p. f (get_or xs p z))
unfolding sum_to
sum-front f zero xs z h = refl
sum-front f (suc n) xs z h =
    ap (λ k. sum_by f (take k xs)) (sym (add-one n)) ∙ sum_by_more f xs n z (omega arith) ∙ ap (λ t. t + f (get_or xs n z)) (sum-front f n xs z (omega arith))

module _ (self : Replica) (legal : register_answer self.register ≡ 0) where
  abbrev n : ℕ
  n = shop_count self

  R : RegisterLegal self.register
  R = register-legal self.register legal

  -- there are at most sixteen shops, and the own one is among them
  pub few-shops : n ≤ 16
  few-shops = R.fits.most

  pub own-below : position self.register self.register.own < n
  own-below = below self.register self.register.own R R.own

  module _ (shops : length self.shops ≡ 16) (lines : length self.lines ≡ 16) where
    balances-sum : sum_by (λ (s : Shop). s.balance) (take n self.shops) ≡ sum_to n (λ p. (shop_at self p).balance)
    balances-sum = sum-front (λ (s : Shop). s.balance) n self.shops no_shop (omega (arith, few-shops))

    openings-sum : sum_by opening (take n self.register.shops) ≡ sum_to n (λ p. opening (listed_at self.register p))
    openings-sum = sum-front opening n self.register.shops _ (omega (arith, few-shops, R.fits.places))

    used-shops : length (take n self.shops) ≡ n
    used-shops = length-take-le n self.shops (omega (arith, few-shops))

    -- a shop and its line, however they are read
    read : (p : ℕ) (s : Shop) (l : Line) → p < n → (get_or (take n self.shops) p s ≡ shop_at self p) × (get_or (take n self.lines) p l ≡ line_at self p)
    read p s l h =
        (get_or-take n self.shops p s h ∙ get_or_default self.shops p s _ (omega (arith, few-shops)), get_or-take n self.lines p l h ∙ get_or_default self.lines p l _ (omega (arith, few-shops)))

    lawful-kept : lawful self ≡ true → RecordKept self
    lawful-kept e =
        let P = parts self e in
        record {
          own_shop = record { mark = P.own_mark; most = P.issued; next = P.issued_own };
          sums = balances-sum ∙ P.sums ∙ sym openings-sum;
          kept = λ p s l h.
              let q : p < n = omega (arith, used-shops) in
              let r = read p s l q in
              subst (λ m. ShopKept p m (get_or (take n self.shops) p s) (get_or (take n self.lines) p l)) (sym used-shops) (subst₂ (ShopKept p n) (sym r.0) (sym r.1) (lined-kept self R p q (P.lined p q)));
          unused_shops = λ k d h. zero-shop _ (all-at zero_shop (drop n self.shops) d k P.shop_rest h);
          unused_lines = λ k d h. blank-line _ (all-at zero_line (drop n self.lines) d k P.line_rest h);
        }

    kept-lawful : RecordKept self → lawful self ≡ true
    kept-lawful K =
        whole self record {
          register = legal;
          shop_places = shops;
          shop_rest = at_all zero_shop (drop n self.shops) no_shop (λ k h. ap zero_shop (K.unused_shops k no_shop h));
          line_places = lines;
          line_rest = at_all zero_line (drop n self.lines) no_line (λ k h. ap zero_line (K.unused_lines k no_line h) ∙ zero-line);
          sums = sym balances-sum ∙ K.sums ∙ openings-sum;
          lined = λ p h.
              let r = read p no_shop (line_at self p) h in
              kept-lined self R p h (subst (λ m. ShopKept p m (shop_at self p) (line_at self p)) used-shops (subst₂ (ShopKept p (length (take n self.shops))) r.0 r.1 (K.kept p no_shop (line_at self p) (omega (arith, used-shops)))));
          own_mark = K.own_shop.mark;
          issued = K.own_shop.most;
          issued_own = K.own_shop.next;
        }

    -- the test of the record decides, where the register is legal
    pub lawful-rest : (t : Bool) → Decides t (RecordKept self) → t ≡ lawful self
    lawful-rest t d = same_from_decides t (lawful self) d (lawful-kept, kept-lawful)

-- a register that is not legal
pub lawful-not : (self : Replica) → (register_answer self.register ≡ 0 → ⊥) → false ≡ lawful self
lawful-not self h = fails _ (λ e. h (parts self e).register)
