-- Writing the used places of an array, one line each: the loop of a register's shops and of a slip's dependencies.
use mathlib.Core.Path.{◌≡◌, ap, ◌∙◌, subst}
use mathlib.Core.Bool.{true}
use mathlib.Core.List.{List, [], ◌∷◌, ◌++◌, append-nil}
use Prim.Native.Nat.{ℕ, suc, ◌+◌, ◌≤◌, ◌<◌}
use native.Mathlib.Omega.{arith}
use native.Mathlib.Numerals.{add-one}
use lib.ListN.{length, take, drop, get_or}
use lib.Seq.{take-suc, split_at, take_all}
use Rattle.texts.specs.Bytes.{all_of}
use Rattle.texts.specs.Layout.{Layout, joined}
use Rattle.texts.specs.Inside.{RoomFor, Writes}
use Rattle.texts.specs.declared.pen.Pen.{Pen}
use Rattle.texts.proofs.Steps.{all-at}
use Rattle.texts.proofs.LawsGroup.{joined-append}
use Rattle.texts.proofs.Writing.{room-front, room_back, writes_nothing, writes_then}

-- The lines of the first i values are written by the pen p, which is q then.
pub record Putting {A : Type 0} (L : Layout A) (p : Pen) (xs : List A) (q : Pen) (i : ℕ) : Type 0 where
  pub legal : all_of L.legal xs ≡ true
  pub room : RoomFor p (joined L xs)
  pub writes : Writes p q (joined L (take i xs))

module _ {A : Type 0} (L : Layout A) where
  -- The lines up to a place, its own line, the lines after it.
  joined_at : (z : A) (xs : List A) (i : ℕ) → i < length xs → joined L xs ≡ joined L (take i xs) ++ (L.text (get_or xs i z) ++ joined L (drop (suc i) xs))
  unfolding joined
  joined_at z xs i h = ap (joined L) (split_at xs i z h) ∙ joined-append L (take i xs) (get_or xs i z ∷ drop (suc i) xs)

  -- The lines of one value more.
  pub joined-more : (z : A) (xs : List A) (i : ℕ) → i < length xs → joined L (take (i + 1) xs) ≡ joined L (take i xs) ++ L.text (get_or xs i z)
  unfolding joined
  joined-more z xs i h =
      rw (add-one, take-suc xs i z) (joined-append L (take i xs) (get_or xs i z ∷ []) ∙ rw append-nil)

-- None is written.
pub putting-none : {A : Type 0} {L : Layout A} {p : Pen} {xs : List A} → all_of L.legal xs ≡ true → RoomFor p (joined L xs) → Putting L p xs p 0
unfolding joined
putting-none {p = p} legal room = record { legal = legal; room = room; writes = writes_nothing p (omega (arith, room.fits)) }

module _ {A : Type 0} {L : Layout A} (z : A) {p q : Pen} {xs : List A} {i : ℕ} (w : Putting L p xs q i) where
  module _ (h : i < length xs) where
    -- The next value has a line.
    pub putting-legal : L.legal (get_or xs i z) ≡ true
    putting-legal = all-at L.legal xs z i w.legal h

    -- And there is room for it.
    pub putting-room : RoomFor q (L.text (get_or xs i z))
    putting-room = room-front _ (room_back (subst (RoomFor p) (joined_at L z xs i h) w.room) w.writes.wrote)

    -- One more.
    pub putting-more : {r : Pen} → Writes q r (L.text (get_or xs i z)) → Putting L p xs r (i + 1)
    putting-more v = record { legal = w.legal; room = w.room; writes = rw (joined-more L z xs i h) (writes_then w.writes v) }

  -- All are.
  pub putting-done : length xs ≤ i → Writes p q (joined L xs)
  putting-done h = subst (λ (us : List A). Writes p q (joined L us)) (take_all i xs h) w.writes
