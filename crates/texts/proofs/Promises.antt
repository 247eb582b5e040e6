-- The promises on reading and writing together, in the order of specs/Promises.
use mathlib.Core.Path.{◌≡◌, refl, sym, ap, ◌∙◌}
use mathlib.Core.Bool.{Bool, true, false, ◌&&◌, and-false, false≢true}
use mathlib.Core.Option.{some}
use mathlib.Core.List.{List, [], ◌∷◌, ◌++◌}
use Prim.Native.Nat.{ℕ, zero, suc, ◌<◌}
use native.Mathlib.Omega.{arith}
use lib.ListN.{length, take, drop}
use lib.Seq.{take_at}
use lib.Dec.{eqb}
use borrow.Author.Tests.{eqb-true, eqb-false, eq-eqb, ne_eqb, not-false, ltb-true}
use Rattle.texts.specs.Bounds.{register_room}
use Rattle.texts.specs.Layout.{Layout, past, whole}
use Rattle.texts.specs.Answers.{first, answer_of, form, room}
use Rattle.texts.specs.Written.{over, answered, buffered}
use Rattle.texts.specs.Register.{no_register, register_layout, register_in, listed, shops_rows, register_answer, register_text_answer, register_read, register_write_answer, shop_line, shops_of, position}
use Rattle.texts.specs.Slip.{slip_layout, slip_in, slip_read, slip_write_answer}
use Rattle.texts.specs.Lawful.{Lawful}
use Rattle.texts.specs.Payee.{Part, payee_part, shown, before_payee, in_register, payee_of}
use Rattle.texts.specs.Promises.{OneToOne, RegistersOneToOne, SlipsOneToOne, RegisterReadsBack, SlipReadsBack, RegisterWritesBack, SlipWritesBack, RegisterRefusalKeeps, SlipRefusalKeeps, PayeeExact, ListedInRegister, RefusedInSlip, RegisterAtMost, SlipAtMost, WhyAtMost, EmptyTextRefused, RegisterOrder, RegisterWriteOrder, SlipWriteOrder, SlipReadOrder, SameByBytes, SpelledBack, NoCodeUnlisted, UnlistedInSlip, EmptyWithoutSlip}
use Rattle.texts.specs.Bytes.{same_bytes}
use Rattle.texts.specs.Code.{code, is_code, same_code, spelled, code_of}
use Rattle.texts.specs.Entries.{no_entry}
use Rattle.texts.specs.Written.{Written}
use Rattle.texts.specs.declared.register.Register.{Register}
use Rattle.texts.specs.declared.slip.Slip.{Slip}
use Rattle.texts.proofs.Steps.{both, all-at, same_bytes_lem, bytes_same}
use Rattle.texts.proofs.Firsts.{first-zero}
use Rattle.texts.proofs.LawsWhole.{whole_back, whole-only, one-text, one_value_lem}
use Rattle.texts.proofs.LawsTexts.{same_code_lem, code-lawful, register-lawful, slip-lawful, register-back, register-only, slip-back, slip-only}
use Rattle.texts.proofs.Legal.{code_same, register-legal, read-legal, place_at}
use Rattle.texts.proofs.Lengths.{register-most, slip-most}
use Rattle.texts.proofs.Values.{fails, code-keeps}
use Rattle.texts.proofs.Payees.{slip-carried, slip-missing, register-bytes, slip-bytes}
use Rattle.texts.proofs.ReadingTexts.{register-answer, slip-answer}
use Rattle.texts.proofs.Table.{why-most}
use Rattle.texts.proofs.WritingTexts.{refused, there, slip-zero}

-- ---- the paper's lines of numbers

pub register-order : RegisterOrder
register-order fits r = refl

pub register-write-order : RegisterWriteOrder
register-write-order r d = refl

pub slip-write-order : SlipWriteOrder
slip-write-order s d = refl

pub slip-read-order : SlipReadOrder
slip-read-order text = refl

-- ---- codes

-- codes of the same bytes have the same text, and a text carries one value
pub same-by-bytes : SameByBytes
same-by-bytes a b h k = go (same_code a b) refl
  where
    go : (t : Bool) → same_code a b ≡ t → same_code a b ≡ same_bytes (spelled a) (spelled b)
    go true e = e ∙ sym (ap (λ c. same_bytes (spelled a) (spelled c)) (sym (same_code_lem a b e)) ∙ bytes_same (spelled a))
    go false e =
        let one : same_bytes (spelled a) (spelled b) ≡ true → a ≡ b = λ t. one_value_lem (code 10) (code-lawful 10 refl) a b h k (ap (λ w. w ++ (10 ∷ [])) (same_bytes_lem (spelled a) (spelled b) t)) in
        e ∙ fails (same_bytes (spelled a) (spelled b)) (λ t. false≢true (sym e ∙ ap (same_code a) (sym (one t)) ∙ code_same a))

pub spelled_back : SpelledBack
spelled_back = code-keeps

-- a shop that is listed has a code
pub no-code-unlisted : NoCodeUnlisted
no-code-unlisted r s e h = sym (fails (listed r (code_of s)) (λ l. false≢true (sym h ∙ is-code (ltb-true _ _ l))))
  where
    is-code : position r (code_of s) < length (shops_of r) → is_code (code_of s) ≡ true
    is-code l =
        let us = shops_of r in
        let p = position r (code_of s) in
        ap is_code (sym (place_at us (code_of s) no_entry l)) ∙ (both _ _ (all-at shop_line.legal us no_entry p (register-legal r e).fits.used l)).0

-- ---- one text for each value, and one value for each text

one-to-one : {A : Type 0} (L : Layout A) → Lawful L → OneToOne L
one-to-one L P = record { back = whole_back L P; same = whole-only L P; one_text = one-text L P; one_value = one_value_lem L P }

pub registers-one-to-one : RegistersOneToOne
registers-one-to-one = one-to-one register_layout register-lawful

pub slips-one-to-one : SlipsOneToOne
slips-one-to-one = one-to-one slip_layout slip-lawful

-- ---- the calls

-- after answer 0 the text is what stands at the front of the buffer
front : (answer : ℕ) (text d : List ℕ) → answer ≡ 0 → take (answered answer text).count (buffered answer text d) ≡ text
unfolding answered buffered
front answer text d e =
    ap (λ a. take (answered a text).count (buffered a text d)) e ∙ take_at text (drop (length text) d) (length text) refl

-- after answer 0 the value fits its layout
slip-wrote : (s : Slip) (d : List ℕ) → slip_write_answer s d ≡ 0 → slip_layout.legal s ≡ true
unfolding slip_write_answer
slip-wrote s d e = not-false _ (first-zero form _ _ (omega arith) (first-zero room _ _ (omega arith) e).1).0

pub slip-reads-back : SlipReadsBack
unfolding first
slip-reads-back s d e =
    ap slip_read (front (slip_write_answer s d) (slip_layout.text s) d e) ∙ sym (slip-answer (slip_layout.text s) (some s) (slip-back s (slip-wrote s d e)))

register-wrote : (r : Register) (d : List ℕ) → register_write_answer r d ≡ 0 → (register_layout.legal r ≡ true) × (answer_of (shops_rows r) ≡ 0)
unfolding register_write_answer
register-wrote r d e = let one = first-zero form _ _ (omega arith) (first-zero room _ _ (omega arith) e).1 in (not-false _ one.0, one.1)

pub register-reads-back : RegisterReadsBack
unfolding first
register-reads-back r d e =
    let w = register-wrote r d e in
    ap register_read (front (register_write_answer r d) (register_layout.text r) d e)
    ∙ sym (register-answer (register_layout.text r) (some r) (register-back r w.0))
    ∙ ap (λ n. record { answer = n; register = elim n [ zero ↦ r | suc m ↦ no_register ] }) w.1

pub slip-writes-back : SlipWritesBack
unfolding buffered
slip-writes-back text d e h =
    let carried = slip-carried text (slip_read text) refl e in
    let o = slip-only text (slip_read text).slip carried in
    ap (λ a. buffered a (slip_layout.text (slip_read text).slip) d) (slip-zero (slip_read text).slip d h o.0) ∙ ap (λ t. over t d) (sym o.1)

pub register-writes-back : RegisterWritesBack
unfolding buffered register_write_answer register_answer
register-writes-back text d e h =
    let O = read-legal text e in
    let r = (register_read text).register in
    let zero-answer = there register_room _ d h ∙ ap register_answer O.given ∙ O.legal in
    ap (λ a. buffered a (register_layout.text r) d) zero-answer
    ∙ ap (λ t. over t d) (ap register_layout.text O.given ∙ sym (register-only text O.register O.carried).1)

-- ---- the empty text

pub empty-text-refused : EmptyTextRefused
unfolding register_read register_text_answer register_in register_layout slip_read slip_in slip_layout whole past first
empty-text-refused = (refl, refl)

-- ---- a refused write

kept : (answer : ℕ) (text d : List ℕ) → (answer ≡ 0 → ⊥) → ((answered answer text).count ≡ 0) × (buffered answer text d ≡ d)
kept answer text d h =
    let p = refused answer text d answer refl h in
    (ap (λ (w : Written). w.count) (sym p.0), sym p.1)

pub register-refusal-keeps : RegisterRefusalKeeps
register-refusal-keeps r d h = kept (register_write_answer r d) (register_layout.text r) d h

pub slip-refusal-keeps : SlipRefusalKeeps
slip-refusal-keeps s d h = kept (slip_write_answer s d) (slip_layout.text s) d h

-- ---- lengths

pub register-at-most : RegisterAtMost
register-at-most = register-most

pub slip-at-most : SlipAtMost
slip-at-most = slip-most

pub why-at-most : WhyAtMost
why-at-most = why-most

-- ---- the payee's part

-- of a slip that is read
of-slip : (register slip : List ℕ) (s : Slip) → slip_in slip ≡ some s → payee_part register slip ≡ payee_of register s
unfolding payee_part
of-slip register slip s e = rw (e, payee_part)

pub listed-in-register : ListedInRegister
unfolding payee_of
listed-in-register register slip s e h l = of-slip register slip s e ∙ rw (eq-eqb (register_read register).answer 0 h, l, payee_of)

pub unlisted-in-slip : UnlistedInSlip
unfolding payee_of
unlisted-in-slip register slip s e l = of-slip register slip s e ∙ rw (l, and-false (eqb (register_read register).answer 0), payee_of)

pub refused-in-slip : RefusedInSlip
unfolding payee_of
refused-in-slip register slip s e h = of-slip register slip s e ∙ rw (ne_eqb (register_read register).answer 0 h, payee_of)

pub empty-without-slip : EmptyWithoutSlip
unfolding payee_part
empty-without-slip register slip h = rw (slip-missing slip (slip_read slip) refl (λ z. omega arith), payee_part)

-- the slip's part, whichever of the two it is for
pub in-slip-otherwise : (register slip : List ℕ) (s : Slip) → slip_in slip ≡ some s → in_register register s.payee ≡ false
    → payee_part register slip ≡ record { of_register = false; start = length (before_payee s); size = s.payee.len }
in-slip-otherwise register slip s e i = go (eqb (register_read register).answer 0) refl
  where
    go : (t : Bool) → eqb (register_read register).answer 0 ≡ t → payee_part register slip ≡ record { of_register = false; start = length (before_payee s); size = s.payee.len }
    go true h = unlisted-in-slip register slip s e (sym (ap (λ b. b && listed (register_read register).register s.payee) h) ∙ i)
    go false h = refused-in-slip register slip s e (eqb-false (register_read register).answer 0 h)

pub payee-exact : PayeeExact
payee-exact register slip s e = go (in_register register s.payee) refl
  where
    go : (t : Bool) → in_register register s.payee ≡ t → shown (payee_part register slip) register slip ≡ spelled s.payee
    go true i =
        let k = both (eqb (register_read register).answer 0) _ i in
        ap (λ (p : Part). shown p register slip) (listed-in-register register slip s e (eqb-true _ 0 k.0) k.1) ∙ register-bytes slip s e register i
    go false i = ap (λ (p : Part). shown p register slip) (in-slip-otherwise register slip s e i) ∙ slip-bytes slip s e
