-- The slip that issue writes passes checks 1, 4, 2, 3 and 5: its text is a slip's text, and reads back.
use mathlib.Core.Path.{◌≡◌, refl, sym, ap, ap₂, ◌∙◌, subst}
use mathlib.Core.Bool.{Bool, true, false, not}
use mathlib.Core.List.{List, [], ◌∷◌, ◌++◌, map}
use Prim.Native.Nat.{ℕ, zero, suc, ◌+◌, ◌-◌, ◌≤◌, ◌<◌}
use native.Mathlib.Omega.{arith}
use lib.ListN.{length, take, drop, get_or, replicate, length-map, length-drop, take-append-drop, get_or-map}
use lib.Seq.{get_or-take, length-take-le, take_at}
use lib.Dec.{eqb, ltb}
use borrow.Author.Tests.{eqb-true, eqb-false, ltb-true, ltb-false, lt-ltb, le-leb, ne_eqb}
use Rattle.texts.specs.Bytes.{bytes, all_of}
use Rattle.texts.specs.Answers.{Meaning, answer_of}
use Rattle.texts.specs.Code.{code, same_code, code_of}
use Rattle.texts.specs.Entries.{no_entry}
use Rattle.texts.specs.Register.{shop_line, place, twins, shops_of, position, listed}
use Rattle.texts.specs.Slip.{dep_line, slip_layout, deps_of}
use Rattle.texts.specs.declared.entry.Entry.{Entry}
use Rattle.texts.specs.declared.register.Register.{Register}
use Rattle.texts.proofs.Firsts.{zero-first, no_rows}
use Rattle.texts.proofs.LawsTexts.{same_code_lem}
use Rattle.texts.proofs.Steps.{both, and, nor, all_none, all_both, all-and, all-zeros, all-at}
use Rattle.texts.proofs.Legal.{code_same, entry-legal, legal-entry, legal-slip, RegisterLegal, register-legal, place_at, place-head, place-later, single_more}
use Rattle.replica.specs.declared.record.Shop.{Shop}
use Rattle.replica.specs.declared.record.Replica.{Replica}
use Rattle.replica.specs.Record.{no_shop, shop_count, own, shop_at}
use Rattle.replica.specs.Slips.{deps_from, slip_with}
use Rattle.replica.specs.State.{zero_shop}
use Rattle.replica.specs.Issue.{own_shop, issued_slip}
use Rattle.replica.specs.Checks.{range?, shop?, rising, deps?, slip_rows}
use Rattle.replica.proofs.OneToOne.{Up, below}
use Rattle.replica.proofs.Parts.{Parts}
use Rattle.replica.proofs.Opened.{map-drop, map-replicate}
use Rattle.replica.proofs.Back.{place-self, from-zeros}

-- one shop more in front
unshift : (u : Entry) (us : List Entry) (k : ℕ) (ds : List Entry) → length us ≤ place us u.code → Up us k ds → Up (u ∷ us) (suc k) ds
unfolding Up
unshift u us k [] h x = tt
unshift u us k (d ∷ ds) h (a, b, c, t) = go (same_code u.code d.code) refl (unshift u us (suc (place us d.code)) ds h t)
  where
    go : (v : Bool) → same_code u.code d.code ≡ v → Up (u ∷ us) (suc (suc (place us d.code))) ds → Up (u ∷ us) (suc k) (d ∷ ds)
    go true e _ = let j = ap (place us) (same_code_lem u.code d.code e) in absurd (omega arith)
    go false e ih =
        let p = place-later u us d.code e in
        (omega arith, omega arith, c, subst (λ (n : ℕ). Up (u ∷ us) (suc n) ds) (sym p) ih)

lower : (us : List Entry) (k : ℕ) (ds : List Entry) → Up us k ds → Up us 0 ds
unfolding Up
lower us k [] h = tt
lower us k (d ∷ ds) (a, b, c, t) = (omega arith, b, c, t)

pub from_up : (us : List Entry) (ns : List ℕ) → twins us ≡ false → Up us 0 (deps_from us ns)
unfolding Up deps_from
from_up [] ns t = tt
from_up (u ∷ us) [] t = tt
from_up (u ∷ us) (zero ∷ ns) t =
    let k = single_more u us t in
    lower (u ∷ us) 1 (deps_from us ns) (unshift u us 0 (deps_from us ns) (ltb-false (place us u.code) (length us) k.0) (from_up us ns k.1))
from_up (u ∷ us) (suc m ∷ ns) t =
    let k = single_more u us t in
    let p = place-head u us u.code (code_same u.code) in
    let r = unshift u us 0 (deps_from us ns) (ltb-false (place us u.code) (length us) k.0) (from_up us ns k.1) in
    (omega arith, omega arith, omega arith, subst (λ (n : ℕ). Up (u ∷ us) (suc n) (deps_from us ns)) (sym p) r)

-- what holds of each shop with its number, where that is not 0, holds of each dependency
pub from_all : (z : Entry) (Q : Entry → Bool) (us : List Entry) (ns : List ℕ)
    → ((j : ℕ) → j < length us → 0 < get_or ns j 0 → Q (record { code = (get_or us j z).code; number = get_or ns j 0 }) ≡ true) → all_of Q (deps_from us ns) ≡ true
unfolding deps_from
from_all z Q [] ns h = all_none Q
from_all z Q (u ∷ us) [] h = all_none Q
from_all z Q (u ∷ us) (zero ∷ ns) h = from_all z Q us ns (λ j l p. h (suc j) (omega arith) p)
from_all z Q (u ∷ us) (suc m ∷ ns) h = all-and Q _ _ (h 0 (omega arith) (omega arith)) (from_all z Q us ns (λ j l p. h (suc j) (omega arith) p))

from-most : (us : List Entry) (ns : List ℕ) → length (deps_from us ns) ≤ length us
unfolding deps_from
from-most [] ns = omega arith
from-most (u ∷ us) [] = omega arith
from-most (u ∷ us) (zero ∷ ns) = omega (arith, from-most us ns)
from-most (u ∷ us) (suc m ∷ ns) = omega (arith, from-most us ns)

-- one shop has no number, so there is one dependency fewer
pub from-fewer : (us : List Entry) (ns : List ℕ) (i : ℕ) → i < length us → get_or ns i 0 ≡ 0 → length (deps_from us ns) < length us
unfolding deps_from
from-fewer [] ns i h z = absurd (omega arith)
from-fewer (u ∷ us) [] i h z = omega arith
from-fewer (u ∷ us) (zero ∷ ns) i h z = omega (arith, from-most us ns)
from-fewer (u ∷ us) (suc m ∷ ns) zero h z = absurd (omega arith)
from-fewer (u ∷ us) (suc m ∷ ns) (suc i) h z = omega (arith, from-fewer us ns i (omega arith) z)

pub up-rising : (r : Register) (payer least : ℕ) (ds : List Entry) → Up (shops_of r) least ds → all_of (λ (d : Entry). not (eqb (position r d.code) payer)) ds ≡ true
    → rising r payer least ds ≡ true
unfolding Up rising
up-rising r payer least [] u w = refl
up-rising r payer least (d ∷ ds) (a, b, c, t) w =
    let k = all_both (λ (d : Entry). not (eqb (position r d.code) payer)) d ds w in
    and _ _ (le-leb least (position r d.code) a) (and _ _ k.0 (up-rising r payer (suc (position r d.code)) ds t k.1))

-- ---- the slip

pub zero-shop : (s : Shop) → zero_shop s ≡ true → s ≡ no_shop
zero-shop s e =
    let a = both (eqb s.balance 0) _ e in
    let b = both (eqb s.taken 0) _ a.1 in
    let c = both (eqb s.applied 0) (eqb s.mark 0) b.1 in
    λ i. record { balance = eqb-true s.balance 0 a.0 i; taken = eqb-true s.taken 0 b.0 i; applied = eqb-true s.applied 0 c.0 i; mark = eqb-true s.mark 0 c.1 i }

abbrev marks : Replica → List ℕ
marks self = map (λ (s : Shop). s.mark) self.shops

-- the marks in use
abbrev in_use : Replica → List ℕ
in_use self = take (shop_count self) (marks self)

module _ (self : Replica) (P : Parts self) where
  R : RegisterLegal self.register
  R = register-legal self.register P.register

  used : length (shops_of self.register) ≡ shop_count self
  used = length-take-le (shop_count self) self.register.shops (omega (arith, R.fits.most, R.fits.places))

  split : marks self ≡ in_use self ++ replicate (16 - shop_count self) 0
  split =
      let n = shop_count self in
      let m : Shop → ℕ = λ s. s.mark in
      let l = length-drop n self.shops ∙ ap (λ k. k - n) P.shop_places in
      let z = all-zeros no_shop zero_shop zero-shop (drop n self.shops) P.shop_rest ∙ ap (λ k. replicate k no_shop) l in
      sym (take-append-drop n (marks self)) ∙ ap (λ x. in_use self ++ x) (map-drop m n self.shops ∙ ap (map m) z ∙ map-replicate m (16 - n) no_shop)

  same_length : length (in_use self) ≡ length (shops_of self.register)
  same_length = length-take-le (shop_count self) (marks self) (omega (arith, length-map self.shops (λ (s : Shop). s.mark), P.shop_places, R.fits.most)) ∙ sym used

  mark-at : (j : ℕ) → j < shop_count self → get_or (in_use self) j 0 ≡ (shop_at self j).mark
  mark-at j h = get_or-take (shop_count self) (marks self) j 0 h ∙ get_or-map (λ (s : Shop). s.mark) self.shops j no_shop

  pub deps : deps_from self.register.shops (marks self) ≡ deps_from (shops_of self.register) (in_use self)
  deps =
      ap₂ (λ (l : List Entry) (m : List ℕ). deps_from l m) (sym (take-append-drop (shop_count self) self.register.shops)) split
      ∙ from-zeros (shops_of self.register) (drop (shop_count self) self.register.shops) (in_use self) (16 - shop_count self) same_length

  own_below : own self < shop_count self
  own_below = below self.register self.register.own R R.own

  abbrev blank : Entry
  blank = record { code = record { digits = []; len = 0 }; number = 0 }

  abbrev us : List Entry
  us = shops_of self.register

  abbrev ds : List Entry
  ds = deps_from us (in_use self)

  at_place : (j : ℕ) → j < length us → place us (get_or us j blank).code ≡ j
  at_place j l = place-self us blank j R.single l

  pub fifteen : length ds ≤ 15
  fifteen = omega (arith, from-fewer us (in_use self) (own self) (omega (arith, used, own_below)) (mark-at (own self) own_below ∙ P.own_mark), used, R.fits.most)

  legal : all_of dep_line.legal ds ≡ true
  legal = from_all blank dep_line.legal us (in_use self) (λ j l p.
      let q : j < shop_count self = omega (arith, used) in
      let m = mark-at j q in
      let L = P.lined j q in
      let c = entry-legal (bytes "shop=") (get_or us j blank) (all-at shop_line.legal us blank j R.fits.used l) in
      legal-entry (bytes "dep=") (record { code = (get_or us j blank).code; number = get_or (in_use self) j 0 }) c.0 (omega (arith, L.mark, L.taken, L.most)))

  known : all_of (λ (d : Entry). listed self.register d.code) ds ≡ true
  known = from_all blank (λ (d : Entry). listed self.register d.code) us (in_use self) (λ j l p. lt-ltb _ (length us) (omega (arith, at_place j l)))

  positive : all_of (λ (d : Entry). ltb 0 d.number) ds ≡ true
  positive = from_all blank (λ (d : Entry). ltb 0 d.number) us (in_use self) (λ j l p. lt-ltb 0 _ p)

  without : all_of (λ (d : Entry). not (eqb (position self.register d.code) (own self))) ds ≡ true
  without = from_all blank (λ (d : Entry). not (eqb (position self.register d.code) (own self))) us (in_use self) (λ j l p.
      ap not (ne_eqb _ (own self) (λ e.
      let i : j ≡ own self = sym (at_place j l) ∙ e in
      let z : get_or (in_use self) j 0 ≡ 0 = ap (λ (k : ℕ). get_or (in_use self) k 0) i ∙ mark-at (own self) own_below ∙ P.own_mark in
      omega arith)))

  rises : rising self.register (own self) 0 ds ≡ true
  rises = up-rising self.register (own self) 0 ds (from_up us (in_use self) R.single) without

  module _ (payee : List ℕ) (amount : ℕ) (listed? : listed self.register (code_of payee) ≡ true)
      (another : same_code (code_of payee) self.register.own ≡ false) (some : 0 < amount) (most : amount ≤ 999999)
      (left : eqb (own_shop self).applied 999999 ≡ false) where
    same : deps_of (issued_slip self payee amount) ≡ ds
    unfolding issued_slip
    same = let d = deps_from self.register.shops (marks self) in take_at d (replicate (16 - length d) no_entry) (length d) refl ∙ deps

    payee_code : (code 10).legal (code_of payee) ≡ true
    payee_code =
        let p = position self.register (code_of payee) in
        let h = ltb-true p (length us) listed? in
        let c = place_at us (code_of payee) blank h in
        ap (code 10).legal (sym c) ∙ (entry-legal (bytes "shop=") (get_or us p blank) (all-at shop_line.legal us blank p R.fits.used h)).0

    pub issued-passes : answer_of (slip_rows self.register (issued_slip self payee amount)) ≡ 0
    unfolding issued_slip range? shop? deps?
    issued-passes =
        let L = P.lined (own self) own_below in
        let x = eqb-false (own_shop self).applied 999999 left in
        let n : (own_shop self).applied + 1 ≤ 999999 = omega (arith, L.taken, L.most) in
        let f : slip_layout.legal (issued_slip self payee amount) ≡ true =
        ap (λ d. slip_layout.legal (slip_with self.register.own ((own_shop self).applied + 1) (code_of payee) amount d)) deps
        ∙ legal-slip self.register.own ((own_shop self).applied + 1) (code_of payee) amount ds R.fits.own_code payee_code n most fifteen legal in
        zero-first Meaning.form _ _ (ap not f)
        (zero-first Meaning.range _ _ (nor _ _ (ne_eqb ((own_shop self).applied + 1) 0 (λ e. omega arith)) (nor _ _ (ne_eqb amount 0 (λ e. omega arith)) (ap not (ap (all_of (λ (d : Entry). ltb 0 d.number)) same ∙ positive))))
        (zero-first Meaning.shop _ _ (ap not (and _ _ R.own (and _ _ listed? (ap (all_of (λ (d : Entry). listed self.register d.code)) same ∙ known))))
        (zero-first Meaning.oneself _ _ another
        (zero-first Meaning.deps _ _ (ap not (ap (rising self.register (own self) 0) same ∙ rises)) no_rows))))
