-- "Its slip B as text: That is 55 bytes." The reading computes, and so does the writing.
use mathlib.Core.Path.{◌≡◌, refl}
use mathlib.Core.Option.{some}
use mathlib.Core.List.{List, [], ◌∷◌}
use Prim.Native.Nat.{ℕ}
use lib.ListN.{length, replicate}
use Rattle.texts.specs.Bytes.{bytes}
use Rattle.texts.specs.Layout.{past, joined, several, whole}
use Rattle.texts.specs.Leaf.{digits, one_more, numeral, run}
use Rattle.texts.specs.Entries.{no_entry}
use Rattle.texts.specs.Slip.{slip_layout, slip_in}
use Rattle.texts.specs.declared.code.Code.{Code}
use Rattle.texts.specs.declared.slip.Slip.{Slip}

text_b : List ℕ
text_b = bytes "payer=71\nnumber=000001\npayee=071\namount=000300\ndeps=00\n"

c71 : Code
c71 = record { digits = 55 ∷ 49 ∷ 0 ∷ 0 ∷ 0 ∷ 0 ∷ 0 ∷ 0 ∷ []; len = 2 }

c071 : Code
c071 = record { digits = 48 ∷ 55 ∷ 49 ∷ 0 ∷ 0 ∷ 0 ∷ 0 ∷ 0 ∷ []; len = 3 }

slip_b : Slip
slip_b = record { payer = c71; number = 1; payee = c071; amount = 300; count = 0; deps = replicate 16 no_entry }

b-size : length text_b ≡ 55
unfolding text_b
b-size = refl

b-read : slip_in text_b ≡ some slip_b
unfolding text_b slip_b c71 c071 slip_in whole slip_layout past numeral one_more run several
b-read = refl

b-text : slip_layout.text slip_b ≡ text_b
unfolding text_b slip_b c71 c071 slip_layout digits joined
b-text = refl
