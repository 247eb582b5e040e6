-- Writing into a lent buffer: one text after the other, and the loop that writes a number digit by digit.
use mathlib.Core.Path.{◌≡◌, refl, sym, ap, ap₂, ◌∙◌, subst}
use mathlib.Core.List.{List, [], ◌∷◌, ◌++◌, append_assoc}
use Prim.Native.Nat.{ℕ, suc, ◌+◌, ◌-◌, ◌/◌, ◌%◌, ◌≤◌, ◌<◌}
use native.Mathlib.Omega.{arith}
use native.Mathlib.Nat.{add-suc, add-zero, zero-add}
use native.Mathlib.Numerals.{add-one}
use lib.ListN.{drop, drop_of_length-le, get_or, length, length-append, length-set, set, take, take-append-drop}
use lib.Seq.{drop-append-add, drop-cons, drop-drop, get_or-take, get_or_at, length-take-le, paste, paste-suc, paste-zero, set-append_left, take-set-lt, take-suc-set, take-take, take_all, take_at}
use Rattle.texts.specs.Leaf.{digits}
use Rattle.texts.specs.Written.{over}
use Rattle.texts.specs.Inside.{Room, Wrote, Writes}
use Rattle.texts.specs.declared.pen.Pen.{Pen}
use Rattle.texts.proofs.LawsLeaf.{digits-length}

-- ---- one text after the other

-- Where there is room for two texts, there is room for the first.
pub room-front : {d : List ℕ} {a : ℕ} {t : List ℕ} (u : List ℕ) → Room d a (t ++ u) → Room d a t
room-front {t = t} u h = record { fits = omega (arith, length-append t u) }

-- And once the first is written, there is room for the second.
pub room_back : {d d₁ : List ℕ} {a a₁ : ℕ} {t u : List ℕ} → Room d a (t ++ u) → Wrote d a t d₁ a₁ → Room d₁ a₁ u
room_back {t = t} {u = u} h w = record { fits = omega (arith, length-append t u) }

-- The two writes are the write of the two texts.
pub wrote_then : {d d₁ d₂ : List ℕ} {a a₁ a₂ : ℕ} {t u : List ℕ} → Wrote d a t d₁ a₁ → Wrote d₁ a₁ u d₂ a₂ → Wrote d a (t ++ u) d₂ a₂
wrote_then {d} {d₁} {d₂} {a} {a₁} {a₂} {t} {u} w v =
    let p = take a d ++ t in
    let n : a₁ ≡ length p = omega (arith, length-append (take a d) t, length-take-le a d (omega arith)) in
    let front : take a₁ d₁ ≡ p = ap (take a₁) w.holds ∙ take_at p (drop (a + length t) d) a₁ (sym n) in
    let k : a + length t + length u ≡ a + length (t ++ u) = omega (arith, length-append t u) in
    let back : drop (a₁ + length u) d₁ ≡ drop (a + length (t ++ u)) d =
    ap₂ (λ i l. drop (i + length u) l) n w.holds ∙ drop-append-add p (drop (a + length t) d) (length u)
    ∙ drop-drop (length u) (a + length t) d ∙ ap (λ i. drop i d) k in
    record {
      fits = omega arith;
      past = omega arith;
      size = v.size ∙ w.size;
      holds = v.holds ∙ ap₂ (λ f b. f ++ u ++ b) front back ∙ ap (λ f. f ++ drop (a + length (t ++ u)) d) (append_assoc (take a d) t u);
    }

-- The same of a pen.
pub writes_then : {p q r : Pen} {t u : List ℕ} → Writes p q t → Writes q r u → Writes p r (t ++ u)
writes_then w v = record { same_page = v.same_page ∙ w.same_page; wrote = wrote_then w.wrote v.wrote }

-- Nothing is written.
pub wrote_nothing : (d : List ℕ) (at : ℕ) → at ≤ length d → Wrote d at [] d at
wrote_nothing d at h = record { fits = omega arith; past = omega arith; size = refl; holds = paste-zero d at [] }

pub writes_nothing : (p : Pen) → p.at ≤ length p.page.now → Writes p p []
writes_nothing p h = record { same_page = refl; wrote = wrote_nothing p.page.now p.at h }

-- What is written from the front on stands over the buffer.
pub wrote-over : {d d' : List ℕ} {n : ℕ} (t : List ℕ) → Wrote d 0 t d' n → (n ≡ length t) × (d' ≡ over t d)
wrote-over {d} t w = (w.past ∙ zero-add (length t), w.holds ∙ ap (λ k. t ++ drop k d) (zero-add (length t)))

-- The first i bytes of w are written into d from `at` on, which has given b.
pub record Copied (d : List ℕ) (at : ℕ) (w b : List ℕ) (i : ℕ) : Type 0 where
  pub most : i ≤ length w
  pub room : at + length w ≤ length d
  pub size : length b ≡ length d
  pub holds : b ≡ paste d at w i

-- None is.
pub copied_none : {d : List ℕ} {at : ℕ} {w : List ℕ} → Room d at w → Copied d at w d 0
copied_none {d} {at} {w} room = record { most = omega arith; room = room.fits; size = refl; holds = paste-zero d at w }

-- One more.
pub copied_more : {d : List ℕ} {at : ℕ} {w b : List ℕ} {i : ℕ} → Copied d at w b i → i < length w → Copied d at w (set b (at + i) (get_or w i 0)) (i + 1)
copied_more {d} {at} {w} {b} {i} q h = record {
  most = omega arith;
  room = q.room;
  size = length-set b (at + i) (get_or w i 0) ∙ q.size;
  holds = rw (q.holds, add-one i) (paste-suc d at w i 0 (omega arith) h);
}

-- ---- a number, from its last digit to its first

-- Of the w digits of v the first i are still to be written, those of `left`; the others are written into d, which has given b.
pub record Spelled (d : List ℕ) (at v w : ℕ) (b : List ℕ) (left i : ℕ) : Type 0 where
  pub most : i ≤ w
  pub room : at + w ≤ length d
  pub size : length b ≡ length d
  pub front : take i (digits w v) ≡ digits i left
  pub holds : b ≡ take (at + i) d ++ (drop i (digits w v) ++ drop (at + w) d)

-- None is written.
pub spelled_none : {d : List ℕ} {at v w : ℕ} → Room d at (digits w v) → Spelled d at v w d v w
spelled_none {d} {at} {v} {w} room =
    let n = digits-length w v in
    record {
      most = omega arith;
      room = omega arith;
      size = refl;
      front = take_all w (digits w v) (omega arith);
      holds = sym (take-append-drop (at + w) d) ∙ ap (λ l. take (at + w) d ++ (l ++ drop (at + w) d)) (sym (drop_of_length-le (digits w v) {i = w} (omega arith)));
    }

-- One more, where j are left after it.
less : {d : List ℕ} {at v w : ℕ} {b : List ℕ} {left : ℕ} (j : ℕ) → Spelled d at v w b left (suc j) → Spelled d at v w (set b (at + j) (48 + left % 10)) (left / 10) j
unfolding digits
less {d} {at} {v} {w} {b} {left} j q =
    let D = digits w v in
    let x = 48 + left % 10 in
    let ds = digits j (left / 10) in
    let f : take (suc j) D ≡ ds ++ (x ∷ []) = q.front in
    let n : length ds ≡ j = digits-length j (left / 10) in
    let l : j < length D = omega (arith, digits-length w v) in
    let l' : at + j < length d = omega arith in
    let at_j : get_or D j 0 ≡ x = sym (get_or-take (suc j) D j 0 (omega arith)) ∙ ap (λ t. get_or t j 0) f ∙ get_or_at ds x [] 0 j n in
    let rest = drop (suc j) D ++ drop (at + w) d in
    let t-length : at + j < length (take (suc (at + j)) d) = omega (arith, length-take-le (suc (at + j)) d l') in
    record {
      most = omega arith;
      room = q.room;
      size = length-set b (at + j) x ∙ q.size;
      front = sym (take-take j (suc j) D (omega arith)) ∙ ap (take j) f ∙ take_at ds (x ∷ []) j n;
      holds =
          ap (λ t. set t (at + j) x) (q.holds ∙ ap (λ k. take k d ++ rest) (add-suc at j))
          ∙ set-append_left (take (suc (at + j)) d) rest (at + j) x t-length
          ∙ ap (λ t. t ++ rest) (sym (take-set-lt (suc (at + j)) d (at + j) x (omega arith)) ∙ take-suc-set d (at + j) x l')
          ∙ append_assoc (take (at + j) d) (x ∷ []) rest
          ∙ ap (λ t. take (at + j) d ++ (t ++ drop (at + w) d)) (ap (λ y. y ∷ drop (suc j) D) (sym at_j) ∙ sym (drop-cons D j 0 l));
    }

-- One more, as the loop counts.
pub spelled-more : {d : List ℕ} {at v w : ℕ} {b : List ℕ} {left i : ℕ} → Spelled d at v w b left i → 0 < i
    → Spelled d at v w (set b (at + (i - 1)) (48 + left % 10)) (left / 10) (i - 1)
spelled-more {d} {at} {v} {w} {b} {left} {i} q h =
    let e : i ≡ suc (i - 1) = omega arith in
    less (i - 1) (subst (λ (k : ℕ). Spelled d at v w b left k) e q)

-- All are written.
pub spelled-done : {d : List ℕ} {at v w : ℕ} {b : List ℕ} {left i : ℕ} → Spelled d at v w b left i → i ≤ 0 → Wrote d at (digits w v) b (at + w)
spelled-done {d} {at} {v} {w} {b} {left} {i} q h =
    let z : i ≡ 0 = omega arith in
    let p = subst (λ (k : ℕ). Spelled d at v w b left k) z q in
    let n : at + w ≡ at + length (digits w v) = omega (arith, digits-length w v) in
    record {
      fits = omega arith;
      past = n;
      size = q.size;
      holds = p.holds ∙ sym (append_assoc (take (at + 0) d) (digits w v) (drop (at + w) d))
          ∙ ap₂ (λ j k. take j d ++ digits w v ++ drop k d) (add-zero at) n;
    }
