-- What the function that shows a payee returns: the part that is promised, within its text.
use mathlib.Core.Path.{◌≡◌, sym, ap, ◌∙◌}
use mathlib.Core.Bool.{true, false}
use mathlib.Core.List.{List}
use Prim.Native.Nat.{ℕ, ◌+◌, ◌-◌, ◌≤◌}
use native.Mathlib.Omega.{arith}
use lib.ListN.{length, take, drop}
use mathlib.Core.Option.{some}
use lib.Dec.{eqb}
use borrow.Author.Tests.{eqb-true}
use Rattle.texts.specs.Register.{register_read}
use Rattle.texts.specs.Slip.{slip_in, slip_read}
use Rattle.texts.specs.Payee.{Part, source, shown, placed, in_register, start_in_register, payee_part}
use Rattle.texts.specs.Slip.{SlipRead}
use Rattle.texts.proofs.Steps.{both}
use Rattle.texts.proofs.Payees.{slip-carried, slip-missing, slip-form, register-room, slip-start, slip-room}
use Rattle.texts.proofs.Promises.{listed-in-register, in-slip-otherwise, empty-without-slip}

-- the part that is shown starts there, is so long, and lies within its text
pub record Shows (register slip : List ℕ) (part : Part) : Type 0 where
  pub is : payee_part register slip ≡ part
  pub room : part.start + part.size ≤ length (source part register slip)

module _ {register slip : List ℕ} {part : Part} (S : Shows register slip part) where
  -- its bytes, as the checker cuts them out
  pub shows-bytes : take (part.start + part.size - part.start) (drop part.start (source part register slip)) ≡ shown (payee_part register slip) register slip
  shows-bytes =
      let e : part.start + part.size - part.start ≡ part.size = omega arith in
      ap (λ n. take n (drop part.start (source part register slip))) e ∙ ap (λ (p : Part). shown p register slip) (sym S.is)

  -- its place
  pub shows-place : (p q : ℕ × ℕ) → placed part p q ≡ placed (payee_part register slip) p q
  shows-place p q = ap (λ (r : Part). placed r p q) (sym S.is)

module _ (register slip : List ℕ) (x : SlipRead) (e : x ≡ slip_read slip) where
  -- no slip: the empty part at the slip's start
  pub shows-none : (x.answer ≡ 0 → ⊥) → Shows register slip (record { of_register = false; start = 0; size = 0 })
  shows-none h = record { is = empty-without-slip register slip (slip-form slip (slip-missing slip x e h)); room = omega arith }

  module _ (h : x.answer ≡ 0) where
    carried : slip_in slip ≡ some x.slip
    carried = slip-carried slip x e h

    -- the register lists the payee: there
    pub shows-listed : (start : ℕ) → (in_register register x.slip.payee ≡ true) × (start ≡ start_in_register register x.slip.payee)
        → Shows register slip (record { of_register = true; start = start; size = x.slip.payee.len })
    shows-listed start spot =
        let k = both (eqb (register_read register).answer 0) _ spot.0 in
        record {
          is = listed-in-register register slip x.slip carried (eqb-true _ 0 k.0) k.1 ∙ ap (λ n. record { of_register = true; start = n; size = x.slip.payee.len }) (sym spot.1);
          room = omega (arith, register-room slip x.slip carried register spot.0);
        }

    -- it does not: in the slip
    pub shows-unlisted : in_register register x.slip.payee ≡ false → Shows register slip (record { of_register = false; start = 6 + x.slip.payer.len + 21; size = x.slip.payee.len })
    shows-unlisted n = record {
      is = in-slip-otherwise register slip x.slip carried n ∙ ap (λ n. record { of_register = false; start = n; size = x.slip.payee.len }) (sym (slip-start slip x.slip carried));
      room = slip-room slip x.slip carried;
    }
