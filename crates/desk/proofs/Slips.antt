-- A desk that takes slips says what `slips_printed` says of the chunks that are left.
use mathlib.Core.Path.{◌≡◌, refl, sym, ap, ◌∙◌}
use mathlib.Core.Logic.{◌≢◌}
use mathlib.Core.Bool.{Bool, true, false, ◌||◌}
use mathlib.Core.List.{List, [], ◌∷◌, ◌++◌}
use Prim.Native.Nat.{ℕ, suc, ◌+◌, ◌-◌, ◌≤◌, ◌<◌}
use native.Mathlib.Omega.{arith}
use lib.ListN.{take}
use lib.Seq.{take-nil}
use lib.Dec.{leb}
use borrow.Author.Tests.{leb-true, leb-false, eq-eqb, ne_eqb}
use Rattle.replica.specs.Outcome.{Outcome}
use Rattle.replica.specs.State.{lawful}
use Rattle.replica.specs.Take.{taken}
use Rattle.replica.proofs.Promises.{takes-lawful}
use Rattle.desk.specs.declared.desk.Desk.{Desk}
use Rattle.desk.specs.Bounds.{most_slips}
use Rattle.desk.specs.Chunks.{at_end, cut}
use Rattle.desk.specs.Printed.{slip_lines, shops_printed, lent, slips_printed}
use Rattle.desk.specs.Desk.{stopped, kept, takes, ends, end_said, keeps, closing}
use Rattle.desk.proofs.Long.{taken-kept}
use Rattle.desk.proofs.Keeping.{Holds, none-held, held-len, one-more-held}
use Rattle.desk.proofs.Steps.{output, end-output, byte-output, stopped-output, shops-there, closing-ended, closing-unended, closing-stopped}

-- the register was accepted, and c was read of the next chunk
pub record Taking (d : Desk) (c : List ℕ) : Type 0 where
  pub opened : d.opened ≡ true
  pub refused : d.refused ≡ false
  pub lawful : lawful d.replica ≡ true
  pub holds : Holds d c

-- what is printed of the chunks that are left
abbrev pub slips_left : Desk → List (List ℕ) → List ℕ
slips_left d cs = slips_printed d.replica (d.slips + 1) (take (most_slips - d.slips) cs)

pub none_left : (d : Desk) → slips_left d [] ≡ shops_printed d.replica
unfolding slips_printed
none_left d = ap (slips_printed d.replica (d.slips + 1)) (take-nil (most_slips - d.slips))

-- after 999,999 of them reading stops
full-left : (d : Desk) (cs : List (List ℕ)) → most_slips ≤ d.slips → slips_left d cs ≡ shops_printed d.replica
unfolding slips_printed
full-left d cs h = let e : most_slips - d.slips ≡ 0 = omega arith in ap (λ n. slips_printed d.replica (d.slips + 1) (take n cs)) e

-- ---- a chunk ends, or goes on

module _ (d : Desk) (c : List ℕ) (T : Taking d c) where
  takes-on : Taking (ends d) []
  unfolding ends takes
  takes-on = rw (T.opened, ends) record {
    opened = T.opened;
    refused = T.refused;
    lawful = takes-lawful d.replica (kept d) lent T.lawful;
    holds = none-held (takes d) T.holds.places refl;
  }

  -- what is said and printed is what the whole of the chunk gives
  slip-ends : (cs : List (List ℕ)) → d.slips < most_slips → slips_left d (c ∷ cs) ≡ end_said d ++ slips_left (ends d) cs
  unfolding ends takes end_said slips_printed
  slip-ends cs h =
      let n : most_slips - d.slips ≡ suc (most_slips - (d.slips + 1)) = omega arith in
      let o : taken d.replica (kept d) lent ≡ taken d.replica c lent = ap (λ t. taken d.replica t lent) T.holds.first ∙ taken-kept d.replica lent c in
      rw (T.opened, ends, end_said)
      (ap (λ k. slips_printed d.replica (d.slips + 1) (take k (c ∷ cs))) n
      ∙ ap (λ (x : Outcome). slip_lines (d.slips + 1) x.answer x.count ++ slips_printed x.replica (d.slips + 1 + 1) (take (most_slips - (d.slips + 1)) cs)) (sym o))

  -- a byte of the chunk
  keeps_on : (b : ℕ) → Taking (keeps d b) (c ++ (b ∷ []))
  unfolding keeps
  keeps_on b = record { opened = T.opened; refused = T.refused; lawful = T.lawful; holds = one-more-held d c b T.holds }

  stops-full : stopped d ≡ leb most_slips d.slips
  stops-full = ap (λ t. t || leb most_slips d.slips) T.refused

  -- 999,999 were taken
  full-output : (w : List ℕ) (cs : List (List ℕ)) → leb most_slips d.slips ≡ true → output d w ≡ slips_left d cs
  full-output w cs e =
      stopped-output d w (stops-full ∙ e)
      ∙ closing-stopped d (stops-full ∙ e)
      ∙ shops-there d.replica T.lawful
      ∙ sym (full-left d cs (leb-true most_slips d.slips e))

  byte : (b : ℕ) (w : List ℕ) → ((x : Desk) (k : List ℕ) → Taking x k → output x w ≡ slips_left x (cut k x.begins w))
      → output d (b ∷ w) ≡ slips_left d (cut c d.begins (b ∷ w))
  unfolding keeps
  byte b w rest = go (leb most_slips d.slips) refl
    where
      go : (t : Bool) → leb most_slips d.slips ≡ t → output d (b ∷ w) ≡ slips_left d (cut c d.begins (b ∷ w))
      go true e = full-output (b ∷ w) (cut c d.begins (b ∷ w)) e
      go false e =
          byte-output d c b w (slips_left d) (stops-full ∙ e)
          (ap (λ l. end_said d ++ l) (rest (ends d) [] takes-on) ∙ sym (slip-ends (cut [] (ends d).begins w) (leb-false most_slips d.slips e)))
          (rest (keeps d b) (c ++ (b ∷ [])) (keeps_on b))

-- ---- the end of the input

nothing-more : (d : Desk) → Taking d [] → leb most_slips d.slips ≡ false → closing d ≡ slips_left d []
nothing-more d T e =
    let n : d.len ≡ 0 = held-len d [] T.holds in
    closing-ended d (simp (T.opened, T.refused, e, eq-eqb d.len 0 n))
    ∙ shops-there d.replica T.lawful
    ∙ sym (none_left d)

last-chunk : (d : Desk) (b : ℕ) (c : List ℕ) → Taking d (b ∷ c) → leb most_slips d.slips ≡ false → closing d ≡ slips_left d ((b ∷ c) ∷ [])
last-chunk d b c T e =
    let n : d.len ≢ 0 = λ z. omega (arith, held-len d (b ∷ c) T.holds) in
    closing-unended d (simp (T.opened, T.refused, e, ne_eqb d.len 0 n))
    ∙ ap (λ l. end_said d ++ l) (shops-there (ends d).replica (takes-on d (b ∷ c) T).lawful ∙ sym (none_left (ends d)))
    ∙ sym (slip-ends d (b ∷ c) T [] (leb-false most_slips d.slips e))

slips-closing : (d : Desk) (c : List ℕ) → Taking d c → output d [] ≡ slips_left d (cut c d.begins [])
unfolding cut at_end
slips-closing d c T = go c T (leb most_slips d.slips) refl
  where
    go : (c : List ℕ) → Taking d c → (t : Bool) → leb most_slips d.slips ≡ t → output d [] ≡ slips_left d (at_end c)
    go c T true e = full-output d c T [] (at_end c) e
    go [] T false e = end-output d ∙ nothing-more d T e
    go (b ∷ c) T false e = end-output d ∙ last-chunk d b c T e

pub slips-output : (d : Desk) (c w : List ℕ) → Taking d c → output d w ≡ slips_left d (cut c d.begins w)
slips-output d c [] T = slips-closing d c T
slips-output d c (b ∷ w) T = byte d c T b w (λ x k X. slips-output x k w X)
