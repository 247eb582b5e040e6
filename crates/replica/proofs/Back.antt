-- A waiting record comes back from its slip: with OneToOne, the two stand for each other.
use mathlib.Core.Path.{◌≡◌, refl, sym, ap, ap₂, ◌∙◌}
use mathlib.Core.Bool.{Bool, true, false, false≢true}
use mathlib.Core.List.{List, [], ◌∷◌, ◌++◌, map}
use Prim.Native.Nat.{ℕ, zero, suc, ◌-◌, ◌≤◌, ◌<◌}
use native.Mathlib.Omega.{arith}
use lib.ListN.{length, take, drop, get_or, replicate, length-drop, take-append-drop}
use lib.Seq.{get_or-take, length-take-le, take_at}
use lib.Dec.{eqb}
use borrow.Author.Tests.{eqb-true, ltb-false}
use Rattle.texts.specs.Bytes.{all_of}
use Rattle.texts.specs.Code.{no_code, same_code}
use Rattle.texts.specs.Entries.{no_entry}
use Rattle.texts.specs.Register.{place, among, twins, shops_of, position}
use Rattle.texts.specs.declared.code.Code.{Code}
use Rattle.texts.specs.declared.entry.Entry.{Entry}
use Rattle.texts.specs.declared.register.Register.{Register}
use Rattle.texts.proofs.Steps.{both, all-zeros, all-at}
use Rattle.texts.proofs.LawsTexts.{same_code_lem}
use Rattle.texts.proofs.Legal.{code_same, zeros-unlisted, RegisterLegal, register-legal, place-head, place-later, single_more}
use Rattle.replica.specs.declared.record.Waiting.{Waiting}
use Rattle.replica.specs.declared.record.Replica.{Replica}
use Rattle.replica.specs.Record.{listed_at, shop_count, line_at, waiting_at}
use Rattle.replica.specs.Slips.{number_for, waiting_of, deps_from, slip_of, slip_at}
use Rattle.replica.specs.State.{zero_from, lawful}
use Rattle.replica.proofs.OneToOne.{later, past_all}
use Rattle.replica.proofs.Opened.{map-replicate}
use Rattle.replica.proofs.Parts.{parts}
use Rattle.replica.proofs.Applied.{passed-of, payee-below}

other_way : (a b : Code) → same_code a b ≡ false → same_code b a ≡ false
other_way a b e = go (same_code b a) refl
  where
    go : (t : Bool) → same_code b a ≡ t → same_code b a ≡ false
    go false i = i
    go true i =
        let j : b ≡ a = same_code_lem b a i in
        absurd (false≢true (sym e ∙ ap (same_code a) j ∙ code_same a))

-- a shop stands at its own position
pub place-self : (us : List Entry) (z : Entry) (i : ℕ) → twins us ≡ false → i < length us → place us (get_or us i z).code ≡ i
place-self [] z i t h = absurd (omega arith)
place-self (u ∷ us) z zero t h = place-head u us u.code (code_same u.code)
place-self (u ∷ us) z (suc i) t h = go (same_code u.code (get_or us i z).code) refl (place-self us z i k.1 (omega arith))
  where
    k : (among us u.code ≡ false) × (twins us ≡ false)
    k = single_more u us t

    go : (v : Bool) → same_code u.code (get_or us i z).code ≡ v → place us (get_or us i z).code ≡ i → place (u ∷ us) (get_or us i z).code ≡ suc i
    go false e ih = place-later u us (get_or us i z).code e ∙ ap suc ih
    go true e ih =
        let j = same_code_lem u.code (get_or us i z).code e in
        let p : place us u.code ≡ i = ap (place us) j ∙ ih in
        let l : length us ≤ place us u.code = ltb-false (place us u.code) (length us) k.0 in
        absurd (omega arith)

-- no number for a code that is not among the shops
absent : (us : List Entry) (ns : List ℕ) (c : Code) → length us ≤ place us c → number_for (deps_from us ns) c ≡ 0
unfolding number_for deps_from
absent [] ns c h = refl
absent (u ∷ us) [] c h = refl
absent (u ∷ us) (zero ∷ ns) c h =
    let n = later u us c 0 (omega arith) in
    let e = place-later u us c n in
    absent us ns c (omega arith)
absent (u ∷ us) (suc m ∷ ns) c h =
    let n = later u us c 0 (omega arith) in
    let e = place-later u us c n in
    let i = absent us ns c (omega arith) in
    rw (other_way u.code c n, number_for) i

abbrev needs : List Entry → List Entry → List ℕ
needs ds us = map (λ (l : Entry). number_for ds l.code) us

numbers-back : (us : List Entry) (ns : List ℕ) → twins us ≡ false → length ns ≡ length us → needs (deps_from us ns) us ≡ ns
numbers-back [] [] t e = refl
numbers-back [] (n ∷ ns) t e = absurd (omega arith)
numbers-back (u ∷ us) [] t e = absurd (omega arith)
numbers-back (u ∷ us) (zero ∷ ns) t e =
    let k = single_more u us t in
    let l = ltb-false (place us u.code) (length us) k.0 in
    let d : deps_from (u ∷ us) (zero ∷ ns) ≡ deps_from us ns = unfold deps_from in refl in
    ap (λ ds. needs ds (u ∷ us)) d ∙ ap₂ (λ x xs. x ∷ xs) (absent us ns u.code l) (numbers-back us ns k.1 (omega arith))
numbers-back (u ∷ us) (suc m ∷ ns) t e =
    let k = single_more u us t in
    let l = ltb-false (place us u.code) (length us) k.0 in
    let v : Entry = record { code = u.code; number = suc m } in
    let d : deps_from (u ∷ us) (suc m ∷ ns) ≡ v ∷ deps_from us ns = unfold deps_from in refl in
    let f : number_for (v ∷ deps_from us ns) u.code ≡ suc m = unfold number_for in rw (code_same u.code, number_for) in
    ap (λ ds. needs ds (u ∷ us)) d ∙ ap₂ (λ x xs. x ∷ xs) f (past_all us v (deps_from us ns) l ∙ numbers-back us ns k.1 (omega arith))

-- ---- the unused places

pub from-zeros : (us zs : List Entry) (ns : List ℕ) (j : ℕ) → length ns ≡ length us → deps_from (us ++ zs) (ns ++ replicate j 0) ≡ deps_from us ns
unfolding deps_from
from-zeros [] zs [] j e = go zs j
  where
    go : (zs : List Entry) (j : ℕ) → deps_from zs (replicate j 0) ≡ []
    go [] j = refl
    go (z ∷ zs) zero = refl
    go (z ∷ zs) (suc j) = go zs j
from-zeros [] zs (n ∷ ns) j e = absurd (omega arith)
from-zeros (u ∷ us) zs [] j e = absurd (omega arith)
from-zeros (u ∷ us) zs (zero ∷ ns) j e = from-zeros us zs ns j (omega arith)
from-zeros (u ∷ us) zs (suc m ∷ ns) j e = ap (λ ds. record { code = u.code; number = suc m } ∷ ds) (from-zeros us zs ns j (omega arith))

pub map-append : {A B : Type 0} (f : A → B) (xs ys : List A) → map f (xs ++ ys) ≡ map f xs ++ map f ys
map-append f [] ys = refl
map-append f (x ∷ xs) ys = ap (λ l. f x ∷ l) (map-append f xs ys)

-- ---- the whole

module _ (r : Register) (R : RegisterLegal r) (w : Waiting) (payer : w.payer < r.count) (payee : w.payee < r.count) (places : length w.needs ≡ 16)
    (rest : all_of (eqb 0) (drop r.count w.needs) ≡ true) where
  used : length (shops_of r) ≡ r.count
  used = length-take-le r.count r.shops (omega (arith, R.fits.most, R.fits.places))

  ns : List ℕ
  ns = take r.count w.needs

  split : ns ++ replicate (16 - r.count) 0 ≡ w.needs
  unfolding ns
  split =
      let d = length-drop r.count w.needs ∙ ap (λ k. k - r.count) places in
      ap (λ x. take r.count w.needs ++ x) (sym (all-zeros 0 (eqb 0) (λ x e. sym (eqb-true 0 x e)) (drop r.count w.needs) rest ∙ ap (λ k. replicate k 0) d))
      ∙ take-append-drop r.count w.needs

  same_length : length ns ≡ length (shops_of r)
  unfolding ns
  same_length = length-take-le r.count w.needs (omega (arith, R.fits.most)) ∙ sym used

  deps : deps_from r.shops w.needs ≡ deps_from (shops_of r) ns
  deps =
      ap₂ (λ (l : List Entry) (m : List ℕ). deps_from l m) (sym (take-append-drop r.count r.shops)) (sym split)
      ∙ from-zeros (shops_of r) (drop r.count r.shops) ns (16 - r.count) same_length

  numbers : needs (deps_from r.shops w.needs) r.shops ≡ w.needs
  numbers =
      let ds = deps_from (shops_of r) ns in
      let g : Entry → ℕ = λ l. number_for ds l.code in
      let z : g no_entry ≡ 0 = absent (shops_of r) ns no_code (zeros-unlisted (shops_of r) R.fits.used) in
      ap (λ d. needs d r.shops) deps
      ∙ ap (map g) (sym (take-append-drop r.count r.shops) ∙ ap (λ x. shops_of r ++ x) R.fits.rest)
      ∙ map-append g (shops_of r) (replicate (16 - r.count) no_entry)
      ∙ ap₂ (λ x y. x ++ y) (numbers-back (shops_of r) ns R.single same_length) (map-replicate g (16 - r.count) no_entry ∙ ap (replicate (16 - r.count)) z)
      ∙ split

  -- a position comes back from its shop's code
  position-back : (p : ℕ) → p < r.count → position r (listed_at r p).code ≡ p
  position-back p h =
      let z : Entry = record { code = record { digits = []; len = 0 }; number = 0 } in
      ap (λ (l : Entry). place (shops_of r) l.code) (sym (get_or-take r.count r.shops p z h)) ∙ place-self (shops_of r) z p R.single (omega (arith, used))

  pub waiting-back : waiting_of r (slip_of r w) ≡ w
  unfolding waiting_of slip_of
  waiting-back =
      let ds = deps_from r.shops w.needs in
      let t : take (length ds) (ds ++ replicate (16 - length ds) no_entry) ≡ ds = take_at ds (replicate (16 - length ds) no_entry) (length ds) refl in
      λ i. record {
        payer = position-back w.payer payer i;
        number = w.number;
        payee = position-back w.payee payee i;
        amount = w.amount;
        needs = (ap (λ d. needs d r.shops) t ∙ numbers) i;
      }

-- each waiting slip of a lawful state comes back
pub waiting-held : (self : Replica) → lawful self ≡ true → (p k : ℕ) → p < shop_count self → k < (line_at self p).count
    → waiting_of self.register (slip_at self p k) ≡ waiting_at self p k
waiting-held self e p k h l =
    let P = parts self e in
    let R = register-legal self.register P.register in
    let L = P.lined p h in
    let w = waiting_at self p k in
    let z : Waiting = record { payer = 0; number = 0; payee = 0; amount = 0; needs = [] } in
    let f = all-at (λ (x : Waiting). zero_from 16 (eqb 0) (shop_count self) x.needs) (line_at self p).slips z k L.needs (omega (arith, L.places, L.eight)) in
    let g = both (eqb (length w.needs) 16) (all_of (eqb 0) (drop (shop_count self) w.needs)) f in
    let b = payee-below self.register w R (passed-of self.register (slip_at self p k) (L.pass k l)) in
    waiting-back self.register R w (omega (arith, L.payers k l)) b (eqb-true _ 16 g.0) g.1
