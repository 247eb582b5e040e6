-- From a new desk to the end of the input is said what `printed` says of the whole input.
use mathlib.Core.Path.{◌≡◌, refl, sym, ap, ap₂, ◌∙◌}
use mathlib.Core.Bool.{true, false, not, ◌||◌}
use mathlib.Core.List.{List, [], ◌∷◌, ◌++◌}
use Prim.Native.Nat.{ℕ, zero, suc, ◌+◌, ◌-◌}
use native.Mathlib.Omega.{arith}
use lib.ListN.{take, length-replicate}
use lib.Seq.{take-nil}
use lib.Dec.{leb, eqb}
use borrow.Author.Tests.{lt-leb, ne_eqb}
use Rattle.replica.specs.declared.record.Replica.{Replica}
use Rattle.replica.specs.Outcome.{Outcome}
use Rattle.replica.specs.Record.{no_replica}
use Rattle.replica.specs.Open.{opened}
use Rattle.replica.proofs.Promises.{opens-lawful, refused-gives-zeros, zeros-unlawful}
use Rattle.desk.specs.declared.desk.Desk.{Desk}
use Rattle.desk.specs.Bounds.{most_slips, most_kept}
use Rattle.desk.specs.Chunks.{at_end, cut, register_chunk, slip_chunks}
use Rattle.desk.specs.Printed.{register_line, slips_printed, after_register, printed}
use Rattle.desk.specs.Desk.{new_desk, stopped, kept, opens, ends, end_said, keeps}
use Rattle.desk.proofs.Long.{opened-kept}
use Rattle.desk.proofs.Keeping.{Holds, none-held, one-more-held}
use Rattle.desk.proofs.Steps.{output, end-output, byte-output, stopped-output, shops_if, shops-there, no-shops, closing-unended, closing-stopped}
use Rattle.desk.proofs.Slips.{Taking, slips_left, none_left, slips-output}

-- ---- the register

-- c was read of the register's chunk
record Reading (d : Desk) (c : List ℕ) : Type 0 where
  opened : d.opened ≡ false
  refused : d.refused ≡ false
  slips : d.slips ≡ 0
  holds : Holds d c

-- what is printed of the chunks
abbrev chunks_printed : List (List ℕ) → List ℕ
chunks_printed cs = after_register (opened (register_chunk cs)) (slip_chunks cs)

module _ (d : Desk) (c : List ℕ) (R : Reading d c) where
  goes_on : stopped d ≡ false
  goes_on = ap (λ t. t || leb most_slips d.slips) R.refused ∙ lt-leb most_slips d.slips (omega arith)

  keeps_on : (b : ℕ) → Reading (keeps d b) (c ++ (b ∷ []))
  unfolding keeps
  keeps_on b = record { opened = R.opened; refused = R.refused; slips = R.slips; holds = one-more-held d c b R.holds }

  -- the register of the bytes that were kept is that of the whole chunk
  kept-opened : opened (kept d) ≡ opened c
  kept-opened = ap opened R.holds.first ∙ opened-kept c

  says-answer : end_said d ≡ register_line (opened c).answer
  unfolding end_said
  says-answer = rw (R.opened, end_said) (ap (λ (o : Outcome). register_line o.answer) kept-opened)

  accepts : (opened c).answer ≡ 0 → Taking (ends d) []
  unfolding ends opens
  accepts e =
      let z : (opened (kept d)).answer ≡ 0 = ap (λ (o : Outcome). o.answer) kept-opened ∙ e in
      rw (R.opened, ends) record {
        opened = refl;
        refused = ap (λ n. not (eqb n 0)) z;
        lawful = opens-lawful (kept d) z;
        holds = none-held (opens d) R.holds.places refl;
      }

  slips-follow : (cs : List (List ℕ)) → slips_left (ends d) cs ≡ slips_printed (opened c).replica 1 (take most_slips cs)
  unfolding ends opens
  slips-follow cs =
      rw (R.opened, ends)
      (ap₂ (λ (x : Replica) n. slips_printed x (n + 1) (take (most_slips - n) cs)) (ap (λ (o : Outcome). o.replica) kept-opened) R.slips)

  refuses : ((opened c).answer ≡ 0 → ⊥) → (stopped (ends d) ≡ true) × (shops_if (ends d).replica ≡ [])
  unfolding ends opens
  refuses h =
      let z : (opened (kept d)).answer ≡ 0 → ⊥ = λ e. h (ap (λ (o : Outcome). o.answer) (sym kept-opened) ∙ e) in
      let r : (ends d).replica ≡ no_replica = rw (R.opened, ends) (refused-gives-zeros (kept d) z) in
      let s : (ends d).refused ≡ true = rw (R.opened, ends) (ap not (ne_eqb (opened (kept d)).answer 0 z)) in
      (ap (λ t. t || leb most_slips (ends d).slips) s, ap shops_if r ∙ no-shops no_replica zeros-unlawful)

  -- the chunk ends: what follows it is of the slips, or nothing
  register-ends : (cs : List (List ℕ)) (rest : List ℕ) → (Taking (ends d) [] → rest ≡ slips_left (ends d) cs)
      → (stopped (ends d) ≡ true → shops_if (ends d).replica ≡ [] → rest ≡ []) → end_said d ++ rest ≡ after_register (opened c) (take most_slips cs)
  unfolding after_register
  register-ends cs rest follow none = go (opened c).answer refl
    where
      go : (n : ℕ) → (opened c).answer ≡ n → end_said d ++ rest ≡ after_register (opened c) (take most_slips cs)
      go zero e = rw (e, after_register) (ap₂ (λ l r. l ++ r) (says-answer ∙ ap register_line e) (follow (accepts e) ∙ slips-follow cs))
      go (suc n) e =
          let no = refuses (λ z. omega arith) in
          rw (e, after_register) (ap₂ (λ l r. l ++ r) (says-answer ∙ ap register_line e) (none no.0 no.1))

  register-closing : output d [] ≡ chunks_printed (cut c d.begins [])
  unfolding cut at_end register_chunk slip_chunks
  register-closing =
      end-output d
      ∙ closing-unended d (simp (goes_on, R.opened))
      ∙ register-ends [] (shops_if (ends d).replica) (λ T. shops-there (ends d).replica T.lawful ∙ sym (none_left (ends d))) (λ _ e. e)
      ∙ go c
    where
      go : (c : List ℕ) → after_register (opened c) (take most_slips []) ≡ chunks_printed (at_end c)
      go [] = ap (after_register (opened [])) (take-nil most_slips)
      go (b ∷ c) = refl

  byte : (b : ℕ) (w : List ℕ) → output (keeps d b) w ≡ chunks_printed (cut (c ++ (b ∷ [])) (keeps d b).begins w)
      → output d (b ∷ w) ≡ chunks_printed (cut c d.begins (b ∷ w))
  unfolding register_chunk slip_chunks
  byte b w on =
      byte-output d c b w chunks_printed goes_on
      (register-ends (cut [] (ends d).begins w) (output (ends d) w) (slips-output (ends d) [] w) (λ s e. stopped-output (ends d) w s ∙ closing-stopped (ends d) s ∙ e))
      on

register-output : (d : Desk) (c w : List ℕ) → Reading d c → output d w ≡ chunks_printed (cut c d.begins w)
register-output d c [] R = register-closing d c R
register-output d c (b ∷ w) R = byte d c R b w (register-output (keeps d b) (c ++ (b ∷ [])) w (keeps_on d c R b))

pub whole-output : (i : List ℕ) → output new_desk i ≡ printed i
unfolding printed
whole-output i =
    register-output new_desk [] i record { opened = refl; refused = refl; slips = refl; holds = none-held new_desk (length-replicate {A = ℕ} most_kept 0) refl }
