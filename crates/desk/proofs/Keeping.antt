-- What the desk keeps of a chunk: its first 367 bytes.
use mathlib.Core.Path.{◌≡◌, refl, sym, ap, ap₂, ◌∙◌}
use mathlib.Core.Bool.{Bool, true, false}
use mathlib.Core.List.{List, [], ◌∷◌, ◌++◌}
use Prim.Native.Nat.{ℕ, suc, ◌≤◌}
use native.Mathlib.Numerals.{add-one}
use native.Mathlib.Omega.{arith}
use lib.ListN.{length, take, set, length-append, length-take, length-set}
use lib.Seq.{length-take-le, take_all, take-append-le, take-suc-set}
use lib.Dec.{ltb}
use borrow.Author.Tests.{ltb-true, ltb-false}
use Rattle.desk.specs.declared.desk.Desk.{Desk}
use Rattle.desk.specs.Bounds.{most_kept}
use Rattle.desk.specs.Desk.{kept, keeps}

-- the chunk c was read so far
pub record Holds (d : Desk) (c : List ℕ) : Type 0 where
  pub places : length d.bytes ≡ most_kept
  pub within : d.len ≤ most_kept
  pub first : kept d ≡ take most_kept c

pub none-held : (d : Desk) → length d.bytes ≡ most_kept → d.len ≡ 0 → Holds d []
none-held d h e = record { places = h; within = omega arith; first = ap (λ n. take n d.bytes) e }

-- as many bytes are kept as the chunk has, but for those past 367
pub held-len : (d : Desk) (c : List ℕ) → Holds d c → d.len ≡ length (take most_kept c)
held-len d c H = sym (length-take-le d.len d.bytes (omega arith)) ∙ ap length H.first

module _ (d : Desk) (c : List ℕ) (b : ℕ) (H : Holds d c) where
  room : ltb d.len most_kept ≡ true → Holds (keeps d b) (c ++ (b ∷ []))
  unfolding keeps
  room e =
      let h = ltb-true d.len most_kept e in
      let n : length c ≡ d.len = omega (arith, held-len d c H, length-take most_kept c) in
      let k : kept d ≡ c = H.first ∙ take_all most_kept c (omega arith) in
      let bytes : (keeps d b).bytes ≡ set d.bytes d.len b = rw (e, keeps) in
      let len : (keeps d b).len ≡ suc d.len = rw (e, keeps) (add-one d.len) in
      record {
        places = ap length bytes ∙ length-set d.bytes d.len b ∙ H.places;
        within = omega arith;
        first =
            ap₂ take len bytes
            ∙ take-suc-set d.bytes d.len b (omega arith)
            ∙ ap (λ l. l ++ (b ∷ [])) k
            ∙ sym (take_all most_kept (c ++ (b ∷ [])) (omega (arith, length-append c (b ∷ []))));
      }

  no_room : ltb d.len most_kept ≡ false → Holds (keeps d b) (c ++ (b ∷ []))
  unfolding keeps
  no_room e =
      let h = ltb-false d.len most_kept e in
      let n : most_kept ≤ length c = omega (arith, held-len d c H, length-take most_kept c) in
      let bytes : (keeps d b).bytes ≡ d.bytes = rw (e, keeps) in
      let len : (keeps d b).len ≡ d.len = rw (e, keeps) in
      record {
        places = ap length bytes ∙ H.places;
        within = omega arith;
        first = ap₂ take len bytes ∙ H.first ∙ sym (take-append-le most_kept c (b ∷ []) n);
      }

  pub one-more-held : Holds (keeps d b) (c ++ (b ∷ []))
  one-more-held = go (ltb d.len most_kept) refl
    where
      go : (t : Bool) → ltb d.len most_kept ≡ t → Holds (keeps d b) (c ++ (b ∷ []))
      go true e = room e
      go false e = no_room e
