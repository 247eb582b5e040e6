-- Lines on a page one after the other: what was put one after the other is one text, and what has room for all shops has room for each.
use mathlib.Core.Path.{◌≡◌, refl, sym, ap, ◌∙◌, subst}
use mathlib.Core.Bool.{true}
use mathlib.Core.List.{List, [], ◌∷◌, ◌++◌, append_assoc, append-nil}
use Prim.Native.Nat.{ℕ, zero, suc, ◌+◌, ◌≤◌, ◌<◌}
use native.Mathlib.Omega.{arith}
use native.Mathlib.Numerals.{add-one}
use lib.ListN.{length, length-append}
use Rattle.texts.specs.Code.{is_code}
use Rattle.texts.proofs.Legal.{shop-code, register-legal}
use Rattle.texts.proofs.Writing.{wrote_nothing, wrote_then}
use Rattle.replica.specs.declared.record.Replica.{Replica}
use Rattle.replica.specs.Record.{listed_at, shop_count, line_at}
use Rattle.replica.specs.Slips.{firsts}
use Rattle.replica.specs.State.{lawful}
use Rattle.replica.proofs.Sums.{either}
use Rattle.replica.proofs.Only.{firsts-none, firsts-last}
use Rattle.replica.proofs.Parts.{parts}
use Rattle.desk.specs.declared.report.Printer.{Printer}
use Rattle.desk.specs.Inside.{RoomFor, Prints}
use Rattle.desk.specs.Printed.{joined, shop_printed, shops_printed}

-- ---- one text after the other

-- Two texts that a printer put are one.
pub prints_then : {p q r : Printer} {t u : List ℕ} → Prints p q t → Prints q r u → Prints p r (t ++ u)
prints_then w v = record { same_page = v.same_page ∙ w.same_page; wrote = wrote_then w.wrote v.wrote }

pub prints_nothing : (p : Printer) → p.at ≤ length p.page.now → Prints p p []
prints_nothing p h = record { same_page = refl; wrote = wrote_nothing p.page.now p.at h }

-- The same text under another name.
pub prints_as : {p q : Printer} {t u : List ℕ} → t ≡ u → Prints p q t → Prints p q u
prints_as {p} {q} e w = subst (λ (t : List ℕ). Prints p q t) e w

-- The same printer under another name.
pub prints_at : {p q r : Printer} {t : List ℕ} → r ≡ q → Prints p q t → Prints p r t
prints_at {p} {t = t} e w = subst (λ (q : Printer). Prints p q t) (sym e) w

-- ---- the shops

joined-append : (ls ms : List (List ℕ)) → joined (ls ++ ms) ≡ joined ls ++ joined ms
unfolding joined
joined-append [] ms = refl
joined-append (l ∷ ls) ms = ap (λ t. l ++ t) (joined-append ls ms) ∙ sym (append_assoc l (joined ls) (joined ms))

module _ (f : ℕ → List ℕ) where
  -- none
  pub joined-none : joined (firsts 0 f) ≡ []
  unfolding joined
  joined-none = ap joined (firsts-none f)

  -- one more
  joined-more : (k : ℕ) → joined (firsts (suc k) f) ≡ joined (firsts k f) ++ f k
  unfolding joined
  joined-more k =
      ap (λ i. joined (firsts i f)) (sym (add-one k)) ∙ ap joined (firsts-last k f)
      ∙ joined-append (firsts k f) (f k ∷ []) ∙ ap (λ t. joined (firsts k f) ++ t) (append-nil (f k))

  pub more-length : (k : ℕ) → length (joined (firsts (suc k) f)) ≡ length (joined (firsts k f)) + length (f k)
  more-length k = ap length (joined-more k) ∙ length-append (joined (firsts k f)) (f k)

  -- fewer are no longer
  joined-fewer : (k n : ℕ) → k ≤ n → length (joined (firsts k f)) ≤ length (joined (firsts n f))
  joined-fewer k zero h = let e : k ≡ 0 = omega arith in omega (arith, ap (λ i. length (joined (firsts i f))) e)
  joined-fewer k (suc n) h =
      let fewer : k ≤ n → length (joined (firsts k f)) ≤ length (joined (firsts n f)) = λ l. joined-fewer k n l in
      either k (suc n)
      (λ e. omega (arith, ap (λ i. length (joined (firsts i f))) e))
      (λ d. omega (arith, fewer (omega arith), more-length n))

-- every shop has a code
pub has_code : (self : Replica) → lawful self ≡ true → (p : ℕ) → p < shop_count self → is_code (listed_at self.register p).code ≡ true
has_code self l p h = shop-code self.register (register-legal self.register (parts self l).register).fits p h _

-- The printer p printed the first i shops, which left it as q.
pub record Printing (self : Replica) (p q : Printer) (i : ℕ) : Type 0 where
  pub law : lawful self ≡ true
  pub room : RoomFor p (shops_printed self)
  pub count : shop_count self ≤ 16
  pub most : i ≤ shop_count self
  pub prints : Prints p q (joined (firsts i (shop_printed self)))

-- None is.
pub printing-none : (self : Replica) (p : Printer) → lawful self ≡ true → RoomFor p (shops_printed self) → Printing self p p 0
printing-none self p l h = record {
  law = l;
  room = h;
  count = (register-legal self.register (parts self l).register).fits.most;
  most = omega arith;
  prints = prints_as (sym (joined-none (shop_printed self))) (prints_nothing p (omega (arith, h.fits)));
}

module _ {self : Replica} {p q : Printer} {i : ℕ} (P : Printing self p q i) where
  -- There is room for the next, which has a code, and no more than 8 slips that wait.
  pub printing-room : i < shop_count self → RoomFor q (shop_printed self i)
  unfolding shops_printed
  printing-room h =
      let f = shop_printed self in
      let l = joined-fewer f (suc i) (shop_count self) (omega arith) in
      let w = P.prints.wrote in
      record { fits = omega (arith, l, more-length f i, P.room.fits, w.size, w.past) }

  pub printing-code : i < shop_count self → is_code (listed_at self.register i).code ≡ true
  printing-code h = has_code self P.law i h

  pub printing-waits : i < shop_count self → (line_at self i).count ≤ 8
  printing-waits h = ((parts self P.law).lined i h).eight

  -- One more.
  pub printing-more : {r : Printer} → i < shop_count self → Prints q r (shop_printed self i) → Printing self p r (i + 1)
  printing-more {r} h w = record {
    law = P.law;
    room = P.room;
    count = P.count;
    most = omega arith;
    prints = rw (add-one i, joined-more (shop_printed self) i) (prints_then P.prints w);
  }

  -- All are.
  pub printing-done : shop_count self ≤ i → Prints p q (shops_printed self)
  unfolding shops_printed
  printing-done h =
      let e : i ≡ shop_count self = omega (arith, P.most) in
      subst (λ (k : ℕ). Prints p q (joined (firsts k (shop_printed self)))) e P.prints
