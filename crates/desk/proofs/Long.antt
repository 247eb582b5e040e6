-- A chunk longer than any text is refused by its first 367 bytes just as by the whole of it.
use mathlib.Core.Path.{◌≡◌, refl, sym, ap, ◌∙◌}
use mathlib.Core.Bool.{Bool, true, false}
use mathlib.Core.Option.{Option, none, some}
use mathlib.Core.List.{List}
use Prim.Native.Nat.{ℕ, ◌<◌}
use native.Mathlib.Omega.{arith}
use lib.ListN.{length, take, length-take}
use lib.Seq.{take_all}
use lib.Dec.{leb}
use borrow.Author.Tests.{leb-true, leb-false}
use Rattle.texts.specs.Bounds.{slip_room}
use Rattle.texts.specs.Register.{register_in}
use Rattle.texts.specs.Slip.{slip_in}
use Rattle.texts.specs.declared.register.Register.{Register}
use Rattle.texts.specs.declared.slip.Slip.{Slip}
use Rattle.texts.proofs.LawsTexts.{register-only, slip-only}
use Rattle.texts.proofs.Promises.{register-at-most, slip-at-most}
use Rattle.replica.specs.declared.record.Replica.{Replica}
use Rattle.replica.specs.Open.{opened}
use Rattle.replica.specs.Take.{taken}
use Rattle.replica.proofs.Promises.{same-register-opens-alike, same-slip-taken-alike}
use Rattle.desk.specs.Bounds.{most_kept}

-- where all texts longer than a slip's fare alike, the kept bytes of a chunk fare as the whole
as-whole : {A : Type 0} (f : List ℕ → A) → ((s t : List ℕ) → slip_room < length s → slip_room < length t → f s ≡ f t) → (c : List ℕ) → f (take most_kept c) ≡ f c
as-whole f alike c = go (leb (length c) most_kept) refl
  where
    go : (t : Bool) → leb (length c) most_kept ≡ t → f (take most_kept c) ≡ f c
    go true e = ap f (take_all most_kept c (leb-true (length c) most_kept e))
    go false e = let h = leb-false (length c) most_kept e in alike (take most_kept c) c (omega (arith, length-take most_kept c)) (omega arith)

-- ---- slips

no-slip : (t : List ℕ) → slip_room < length t → slip_in t ≡ none
no-slip t h = go (slip_in t) refl
  where
    go : (o : Option Slip) → slip_in t ≡ o → slip_in t ≡ none
    go none e = e
    go (some s) e = let k = slip-only t s e in absurd (omega (arith, slip-at-most s k.0, ap length k.1))

pub taken-kept : (self : Replica) (list c : List ℕ) → taken self (take most_kept c) list ≡ taken self c list
taken-kept self list c = as-whole (λ t. taken self t list) (λ s t h k. (same-slip-taken-alike self s t list (no-slip s h ∙ sym (no-slip t k))).0) c

-- ---- registers

no_register_lem : (t : List ℕ) → slip_room < length t → register_in t ≡ none
no_register_lem t h = go (register_in t) refl
  where
    go : (o : Option Register) → register_in t ≡ o → register_in t ≡ none
    go none e = e
    go (some r) e = let k = register-only t r e in absurd (omega (arith, register-at-most r k.0, ap length k.1))

pub opened-kept : (c : List ℕ) → opened (take most_kept c) ≡ opened c
opened-kept c = as-whole opened (λ s t h k. same-register-opens-alike s t (no_register_lem s h ∙ sym (no_register_lem t k))) c
