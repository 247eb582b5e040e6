-- Writing a value to a lent buffer: what is answered, and what the buffer then holds.
use mathlib.Core.Path.{◌≡◌, refl, sym, ap, ◌∙◌}
use mathlib.Core.Bool.{Bool, true, false, not}
use mathlib.Core.List.{List, [], ◌∷◌}
use Prim.Native.Nat.{ℕ, zero, suc, ◌≤◌, ◌<◌}
use native.Mathlib.Omega.{arith}
use lib.Dec.{ltb}
use lib.ListN.{length}
use borrow.Author.Tests.{lt-ltb, le-ltb, not-false}
use Rattle.texts.specs.Bounds.{register_room, slip_room}
use Rattle.std.proofs.Common.{Result}
use Rattle.std.specs.Result.{IsErrAnd}
use Rattle.texts.specs.Answers.{Row, answer_of, form, room, refusal_number}
use Rattle.texts.specs.Written.{Written, written, over, answered, buffered}
use Rattle.texts.specs.Register.{register_layout, register_answer}
use Rattle.texts.specs.Slip.{slip_layout, slip_write_answer, slip_written, slip_buffer}
use Rattle.texts.specs.Inside.{Room, Wrote}
use Rattle.texts.specs.declared.answers.Refusal.{Refusal}
use Rattle.texts.specs.declared.register.Register.{Register}
use Rattle.texts.specs.declared.slip.Slip.{Slip}
use Rattle.texts.proofs.Refusals.{not-done, handed-on}
use Rattle.texts.proofs.Firsts.{first-zero, no_rows, applies, passes-by}
use Rattle.texts.proofs.Lengths.{register-most, slip-most}
use Rattle.texts.proofs.Writing.{wrote-over}

-- ---- any answer

module _ (answer : ℕ) (text d : List ℕ) where
  -- a refusal keeps the bytes
  pub refused : (n : ℕ) → answer ≡ n → (n ≡ 0 → ⊥) → (◌≡◌ {A = Written} (record { answer = n; count = 0 }) (answered answer text)) × (d ≡ buffered answer text d)
  unfolding answered buffered
  refused zero e h = absurd (h refl)
  refused (suc n) e h = (ap (λ a. answered a text) (sym e), ap (λ a. buffered a text d) (sym e))

  -- done: the text stands at the front
  pub done : {d' : List ℕ} {n : ℕ} → answer ≡ 0 → Wrote d 0 text d' n → (◌≡◌ {A = Written} (record { answer = 0; count = n }) (answered answer text)) × (d' ≡ buffered answer text d)
  unfolding answered buffered
  done {d'} {n} e w =
      let o = wrote-over text w in
      (ap (λ c. record { answer = 0; count = c }) o.0 ∙ ap (λ a. answered a text) (sym e), o.1 ∙ ap (λ a. buffered a text d) (sym e))

-- ---- a buffer of at least so many bytes: 11 first, then the value's own rows

abbrev lent_answer : ℕ → List Row → List ℕ → ℕ
lent_answer least rows d = answer_of ((room, ltb (length d) least) ∷ rows)

-- where the buffer is that large, the rows decide
pub there : (least : ℕ) (rows : List Row) (d : List ℕ) → least ≤ length d → lent_answer least rows d ≡ answer_of rows
there least rows d h = passes-by room _ rows (le-ltb (length d) least h)

module _ (least : ℕ) (rows : List Row) (text d : List ℕ) where
  -- too small a buffer
  pub small : length d < least → (◌≡◌ {A = Written} (record { answer = 11; count = 0 }) (answered (lent_answer least rows d) text)) × (d ≡ buffered (lent_answer least rows d) text d)
  small h = refused _ text d 11 (applies room _ rows (lt-ltb (length d) least h)) (λ e. omega arith)

  -- a value that one of its rows refuses, and one that none does
  module _ (h : least ≤ length d) where
    pub kept : (n : ℕ) → n ≡ answer_of rows → (n ≡ 0 → ⊥) → (◌≡◌ {A = Written} (record { answer = n; count = 0 }) (answered (lent_answer least rows d) text)) × (d ≡ buffered (lent_answer least rows d) text d)
    kept n e bad = refused _ text d n (there least rows d h ∙ sym e) bad

    pub unfit : 1 ≡ answer_of rows → (◌≡◌ {A = Written} (record { answer = 1; count = 0 }) (answered (lent_answer least rows d) text)) × (d ≡ buffered (lent_answer least rows d) text d)
    unfit e = kept 1 e (λ z. omega arith)

    pub refused_by : (answer : Result ℕ Refusal) (refusal : Refusal) → IsErrAnd answer (λ e. e ≡ refusal) → refusal_number refusal ≡ answer_of rows
        → (written answer ≡ answered (lent_answer least rows d) text) × (d ≡ buffered (lent_answer least rows d) text d)
    refused_by answer refusal is e = let k = kept _ e (not-done refusal) in (ap written (handed-on answer is) ∙ k.0, k.1)

    pub put : {d' : List ℕ} {count : ℕ} → 0 ≡ answer_of rows → Wrote d 0 text d' count
        → (◌≡◌ {A = Written} (record { answer = 0; count = count }) (answered (lent_answer least rows d) text)) × (d' ≡ buffered (lent_answer least rows d) text d)
    put e w = done (lent_answer least rows d) text d (there least rows d h ∙ sym e) w

-- ---- a register with answer 0, and a slip that fits, have a text, and the buffer has room for it

pub register-writable : (r : Register) (d : List ℕ) → register_room ≤ length d → 0 ≡ register_answer r → (register_layout.legal r ≡ true) × Room d 0 (register_layout.text r)
unfolding register_answer
register-writable r d h e =
    let fits = not-false _ (first-zero form _ _ (omega arith) (sym e)).0 in
    (fits, record { fits = omega (arith, register-most r fits) })

pub slip-writable : (s : Slip) (d : List ℕ) (t : Bool) → slip_room ≤ length d → t ≡ slip_layout.legal s → t ≡ true → (slip_layout.legal s ≡ true) × Room d 0 (slip_layout.text s)
slip-writable s d t h e f = let fits = sym e ∙ f in (fits, record { fits = omega (arith, slip-most s fits) })

-- ---- a slip's own row, from the test that the code makes

module _ (fits t : Bool) (e : t ≡ fits) where
  pub slip-fine : t ≡ true → 0 ≡ answer_of ((form, not fits) ∷ [])
  slip-fine y = sym (passes-by form _ [] (ap not (sym e ∙ y)) ∙ no_rows)

  pub slip-unfit : t ≡ false → 1 ≡ answer_of ((form, not fits) ∷ [])
  slip-unfit n = sym (applies form _ [] (ap not (sym e ∙ n)))

-- a slip that fits, and a buffer that is large enough: answer 0
pub slip-zero : (s : Slip) (d : List ℕ) → slip_room ≤ length d → slip_layout.legal s ≡ true → slip_write_answer s d ≡ 0
unfolding slip_write_answer
slip-zero s d h fits = there slip_room _ d h ∙ sym (slip-fine _ true (sym fits) refl)

-- a write with answer 0: what it says, and the buffer
pub slip-put : (s : Slip) (d : List ℕ) → slip_write_answer s d ≡ 0
    → (◌≡◌ {A = Written} (slip_written s d) (record { answer = 0; count = length (slip_layout.text s) })) × (slip_buffer s d ≡ over (slip_layout.text s) d)
unfolding answered buffered
slip-put s d e = (ap (λ a. answered a (slip_layout.text s)) e, ap (λ a. buffered a (slip_layout.text s) d) e)
