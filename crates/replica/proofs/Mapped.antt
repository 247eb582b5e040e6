-- What `map` makes of an array.
use mathlib.Core.Path.{◌≡◌, sym, ◌∙◌}
use mathlib.Core.List.{List, map}
use Prim.Native.Nat.{ℕ}
use native.Mathlib.Omega.{arith}
use denote.Param.Members.{Mut}
use lib.ListN.{length, length-map}
use lib.Seq.{ext_get_or}
use Rattle.std.specs.Fn.{Called}
use Rattle.std.specs.Array.{IsMapOf}
use Rattle.replica.proofs.Checked.{map_at}

-- a closure that gives h of each element, at whatever it captures; a and b stand for no element
pub map-is : {F A B : Type 0} {g : Mut F (A × Unit {0}) B} {f : F} {xs : List A} {ys : List B} {n : ℕ} → IsMapOf g f xs ys n → (h : A → B) (a : A) (b : B) → length xs ≡ n
    → ((p q : F) (x : A) (y : B) → Called g p (x, tt) y q → y ≡ h x) → ys ≡ map h xs
map-is {xs = xs} {ys} m h a b l gives =
    ext_get_or b ys (map h xs) (m.long ∙ sym (length-map xs h ∙ l))
    (λ i k. let s = m.at i a b (omega (arith, m.long)) in gives s.0 s.1 _ _ s.2 ∙ sym (map_at h xs i a b (omega (arith, m.long, l))))
