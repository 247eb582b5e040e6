-- A text on a page from a place on: where there is room it stands there, and where there is none nothing has changed.
use mathlib.Core.Path.{◌≡◌, refl, ap, ◌∙◌}
use mathlib.Core.List.{List, ◌++◌}
use Prim.Native.Nat.{ℕ, ◌+◌, ◌<◌, ◌≤◌}
use native.Mathlib.Omega.{arith}
use lib.ListN.{length, take, drop, length-append, length-drop}
use lib.Seq.{length-take-le}
use borrow.Author.Tests.{le-leb, lt-leb}
use Rattle.texts.specs.Bytes.{bytes}
use Rattle.texts.specs.Leaf.{digits}
use Rattle.texts.specs.Inside.{Room, Wrote}
use Rattle.texts.specs.Page.{put_at, place_after}
use Rattle.texts.proofs.LawsLeaf.{digits-length}

-- what both are where there is room
put-there : (d : List ℕ) (at : ℕ) (t : List ℕ) → Room d at t → (place_after d at t ≡ at + length t) × (put_at d at t ≡ take at d ++ t ++ drop (at + length t) d)
unfolding put_at place_after
put-there d at t r = rw (le-leb (at + length t) (length d) r.fits, place_after, put_at) (refl, refl)

pub wrote-put : {d d' : List ℕ} {at n : ℕ} {t : List ℕ} → Wrote d at t d' n → (n ≡ place_after d at t) × (d' ≡ put_at d at t)
wrote-put {d} {d'} {at} {n} {t} w = let p = put-there d at t (record { fits = w.fits }) in (cc, cc)

pub no-room-put : (d : List ℕ) (at : ℕ) (t : List ℕ) → length d < at + length t → (at ≡ place_after d at t) × (d ≡ put_at d at t)
unfolding put_at place_after
no-room-put d at t h = rw (lt-leb (at + length t) (length d) h, place_after, put_at) (refl, refl)

-- and back
pub put-wrote : {d d' : List ℕ} {at n : ℕ} {t : List ℕ} → Room d at t → (n ≡ place_after d at t) × (d' ≡ put_at d at t) → Wrote d at t d' n
put-wrote {d} {d'} {at} {n} {t} r p =
    let q = put-there d at t r in
    let holds : d' ≡ take at d ++ t ++ drop (at + length t) d = p.1 ∙ q.1 in
    let f = length-append (take at d) t in
    let a = length-append (take at d ++ t) (drop (at + length t) d) in
    record {
      fits = r.fits;
      past = p.0 ∙ q.0;
      size = omega (arith, ap length holds, f, a, length-take-le at d (omega arith), length-drop (at + length t) d);
      holds = holds;
    }

-- ---- a line: a key, a number of a width, and a byte 10

pub line-length : (key : List ℕ) (width value : ℕ) → length (key ++ (digits width value ++ bytes "\n")) ≡ length key + width + 1
line-length key width value =
    let t = digits width value in
    omega (arith, length-append key (t ++ bytes "\n"), length-append t (bytes "\n"), digits-length width value)

pub room-line : (d : List ℕ) (at : ℕ) (key : List ℕ) (width value : ℕ) → at + length key + width < length d
    → Room d at (key ++ (digits width value ++ bytes "\n"))
room-line d at key width value h = record { fits = omega (arith, line-length key width value) }

pub no-room-line : (d : List ℕ) (at : ℕ) (key : List ℕ) (width value : ℕ) → length d ≤ at + length key + width
    → (at ≡ place_after d at (key ++ (digits width value ++ bytes "\n"))) × (d ≡ put_at d at (key ++ (digits width value ++ bytes "\n")))
no-room-line d at key width value h = no-room-put d at (key ++ (digits width value ++ bytes "\n")) (omega (arith, line-length key width value))
