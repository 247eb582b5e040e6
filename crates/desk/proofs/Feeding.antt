-- The desk's steps: what a chunk's end, a byte, a window and the end of the input come to.
use mathlib.Core.Path.{◌≡◌, refl, sym, ap, ap₂, ◌∙◌, subst}
use mathlib.Core.Bool.{Bool, true, false, not}
use mathlib.Core.List.{List, [], ◌∷◌, ◌++◌, append-nil}
use Prim.Native.Nat.{ℕ, ◌+◌, ◌*◌, ◌≤◌, ◌<◌}
use native.Mathlib.Omega.{arith}
use native.Mathlib.Numerals.{add-one}
use lib.Dec.{eqb}
use lib.ListN.{length, take, drop, get_or, set, take-append-drop}
use lib.Seq.{take_all, take-suc}
use borrow.Author.Tests.{lt-ltb, le-ltb, ne_eqb}
use Rattle.std.proofs.Common.{Result, Ok, Err}
use Rattle.std.specs.Prelude.{min}
use Rattle.std.specs.Result.{is_err, result_unwrap_or}
use Rattle.std.proofs.lemmas.List.{take_min}
use Rattle.texts.specs.Answers.{answer_number, refusal_number}
use Rattle.texts.specs.Inside.{Room, Wrote}
use Rattle.texts.specs.Written.{over}
use Rattle.texts.specs.declared.answers.Refusal.{Refusal}
use Rattle.texts.proofs.Refusals.{not-done}
use Rattle.texts.proofs.Writing.{wrote-over}
use Rattle.replica.specs.declared.record.Replica.{Replica}
use Rattle.replica.specs.declared.reply.Reply.{Reply}
use Rattle.replica.specs.Bounds.{list_room}
use Rattle.replica.specs.Record.{no_replica}
use Rattle.replica.specs.Outcome.{Outcome, count_of, count_said, open_said}
use Rattle.replica.specs.State.{lawful}
use Rattle.replica.specs.Open.{opened}
use Rattle.replica.specs.Take.{taken}
use Rattle.desk.specs.declared.desk.Desk.{Desk}
use Rattle.desk.specs.declared.report.Printer.{Printer}
use Rattle.desk.specs.Bounds.{most_kept, most_said, window_size, page_size}
use Rattle.desk.specs.Chunks.{empty_line}
use Rattle.desk.specs.Printed.{register_line, slip_lines, shops_printed, lent}
use Rattle.desk.specs.Inside.{RoomFor, Prints}
use Rattle.desk.specs.Desk.{stopped, kept, opens, takes, ends, end_said, keeps, step, step_said, fed, said, last, last_said, closing}
use Rattle.desk.proofs.Reporting.{prints_then, prints_nothing, prints_as}
use Rattle.desk.proofs.Steps.{fed-append, said-append, stopped-fed, stopped-said, shops-there, no-shops, closing-is}
use Rattle.desk.proofs.Lengths.{count_fits, register-line-most, slip-lines-most, end-said-most, last-said-most, shops-most}

-- ---- a chunk ends

-- what the code takes out of an answer is what the paper has there
count-out : (answer : Result ℕ Refusal) → result_unwrap_or answer 0 ≡ count_of answer
count-out (Ok count) = refl
count-out (Err refusal) = refl

opened-out : (answer : Result Replica Refusal) → result_unwrap_or answer no_replica ≡ (open_said answer).replica
opened-out (Ok self) = refl
opened-out (Err refusal) = refl

refused-out : (answer : Result Replica Refusal) → is_err answer ≡ not (eqb (open_said answer).answer 0)
refused-out (Ok self) = refl
refused-out (Err refusal) = sym (ap not (ne_eqb (refusal_number refusal) 0 (not-done refusal)))

number-out : (answer : Result Replica Refusal) → answer_number answer ≡ (open_said answer).answer
number-out (Ok self) = refl
number-out (Err refusal) = refl

module _ (d : Desk) (text : List ℕ) (same : text ≡ kept d) where
  module _ (answer : Result Replica Refusal) (e : open_said answer ≡ opened text) where
    said-opened : open_said answer ≡ opened (kept d)
    said-opened = e ∙ ap opened same

    pub opens-is : (self zeros : Replica) (refused : Bool) → self ≡ result_unwrap_or answer zeros → zeros ≡ no_replica → refused ≡ is_err answer
        → record { replica = self; bytes = d.bytes; len = 0; begins = d.begins; opened = true; refused = refused; slips = d.slips } ≡ opens d
    unfolding opens
    opens-is self zeros refused h z r =
        ap₂ (λ (x : Replica) (t : Bool). record { replica = x; bytes = d.bytes; len = 0; begins = d.begins; opened = true; refused = t; slips = d.slips })
        (h ∙ ap (result_unwrap_or answer) z ∙ opened-out answer) (r ∙ refused-out answer)
        ∙ ap (λ (o : Outcome). record { replica = o.replica; bytes = d.bytes; len = 0; begins = d.begins; opened = true; refused = not (eqb o.answer 0); slips = d.slips }) said-opened

    pub opens-said : {p q : Printer} (number : ℕ) → number ≡ answer_number answer → Prints p q (register_line number) → Prints p q (register_line (opened (kept d)).answer)
    opens-said {p} {q} number i w =
        subst (λ (k : ℕ). Prints p q (register_line k)) (i ∙ number-out answer ∙ ap (λ (o : Outcome). o.answer) said-opened) w

  module _ (reply : Reply ℕ) (e : count_said reply ≡ taken d.replica text lent) where
    said-taken : count_said reply ≡ taken d.replica (kept d) lent
    said-taken = e ∙ ap (λ t. taken d.replica t lent) same

    pub takes-is : record { replica = reply.replica; bytes = d.bytes; len = 0; begins = d.begins; opened = d.opened; refused = d.refused; slips = d.slips + 1 } ≡ takes d
    unfolding takes
    takes-is = ap (λ (o : Outcome). record { replica = o.replica; bytes = d.bytes; len = 0; begins = d.begins; opened = d.opened; refused = d.refused; slips = d.slips + 1 }) said-taken

    pub takes-said : {p q : Printer} (number count : ℕ) → number ≡ answer_number reply.answer → count ≡ result_unwrap_or reply.answer 0 → Prints p q (slip_lines (d.slips + 1) number count)
        → Prints p q (slip_lines (d.slips + 1) (taken d.replica (kept d) lent).answer (taken d.replica (kept d) lent).count)
    takes-said {p} {q} number count i j w =
        subst (λ (o : Outcome). Prints p q (slip_lines (d.slips + 1) o.answer o.count)) said-taken
        (subst (λ (k : ℕ). Prints p q (slip_lines (d.slips + 1) k (count_of reply.answer))) i
        (subst (λ (k : ℕ). Prints p q (slip_lines (d.slips + 1) number k)) (j ∙ count-out reply.answer) w))

-- the count of a take fits
pub count-fits : (self : Replica) (text list : List ℕ) (reply : Reply ℕ) (count : ℕ) → count_said reply ≡ taken self text list → count ≡ result_unwrap_or reply.answer 0 → count ≤ list_room
count-fits self text list reply count e i = let h = count_fits (count_said reply) self text list e in omega (arith, i ∙ count-out reply.answer)

pub register-room : (p : List ℕ) (at answer : ℕ) → at + most_said ≤ length p → Room p at (register_line answer)
register-room p at answer h = record { fits = omega (arith, register-line-most answer) }

pub slip-room : (p : List ℕ) (at slip answer applied : ℕ) → at + most_said ≤ length p → Room p at (slip_lines slip answer applied)
slip-room p at slip answer applied h = record { fits = omega (arith, slip-lines-most slip answer applied) }

-- what is chosen by a test
chosen : {A : Type 0} (b : Bool) (x y : A) → b ≡ true → x ≡ (elim b [ true ↦ x | false ↦ y ])
chosen b x y e = rw e

other : {A : Type 0} (b : Bool) (x y : A) → b ≡ false → y ≡ (elim b [ true ↦ x | false ↦ y ])
other b x y e = rw e

-- the first chunk, or a later one
pub ends-slip : (d : Desk) → d.opened ≡ true
    → (takes d ≡ ends d) × (slip_lines (d.slips + 1) (taken d.replica (kept d) lent).answer (taken d.replica (kept d) lent).count ≡ end_said d)
unfolding ends end_said
ends-slip d e = (chosen d.opened (takes d) (opens d) e, chosen d.opened _ _ e)

pub ends-register : (d : Desk) → d.opened ≡ false → (opens d ≡ ends d) × (register_line (opened (kept d)).answer ≡ end_said d)
unfolding ends end_said
ends-register d e = (other d.opened (takes d) (opens d) e, other d.opened _ _ e)

-- a desk and what was printed, under other names
pub renamed : {d e f : Desk} {t u : List ℕ} {p q : Printer} → (e ≡ f) × (t ≡ u) → (d ≡ e) × Prints p q t → (d ≡ f) × Prints p q u
renamed s w = (w.0 ∙ s.0, prints_as s.1 w.1)

-- ---- the end of the input

module _ {p q : Printer} (d e : Desk) (done : (e ≡ last d) × Prints p q (last_said d)) where
  pub closing-room : lawful e.replica ≡ true → p.at ≡ 0 → length p.page.now ≡ page_size → RoomFor q (shops_printed e.replica)
  closing-room l z h = let w = done.1.wrote in record { fits = omega (arith, shops-most e.replica l, last-said-most d, w.past, w.size) }

  pub closing-shops : {r : Printer} → lawful e.replica ≡ true → Prints q r (shops_printed e.replica) → Prints p r (closing d)
  closing-shops l w =
      prints_as (ap (λ t. last_said d ++ t) (sym (shops-there e.replica l)) ∙ closing-is d e (last_said d) (done.0, refl)) (prints_then done.1 w)

  pub closing-none : lawful e.replica ≡ false → Prints p q (closing d)
  closing-none l =
      prints_as (sym (append-nil (last_said d)) ∙ ap (λ t. last_said d ++ t) (sym (no-shops e.replica l)) ∙ closing-is d e (last_said d) (done.0, refl)) done.1

-- ---- the bytes of a window

-- a desk that has not stopped: a chunk ends, or the byte is kept
step-ends : (d : Desk) (b : ℕ) → stopped d ≡ false → empty_line d.begins b ≡ true → (ends d ≡ step d b) × (end_said d ≡ step_said d b)
unfolding step step_said
step-ends d b e t = rw (e, t, step, step_said) (refl, refl)

step_keeps : (d : Desk) (b : ℕ) → stopped d ≡ false → empty_line d.begins b ≡ false → (keeps d b ≡ step d b) × ([] ≡ step_said d b)
unfolding step step_said
step_keeps d b e t = rw (e, t, step, step_said) (refl, refl)

-- a byte that is kept, where there is room for it and where there is none
abbrev pub with_byte : Desk → ℕ → Desk
with_byte d b = record { replica = d.replica; bytes = set d.bytes d.len b; len = d.len + 1; begins = d.begins; opened = d.opened; refused = d.refused; slips = d.slips }

abbrev pub begun : Desk → ℕ → Desk
begun d b = record { replica = d.replica; bytes = d.bytes; len = d.len; begins = eqb b 10; opened = d.opened; refused = d.refused; slips = d.slips }

abbrev kept_as : Desk → ℕ → Bool → Desk
kept_as d b t =
    record {
      replica = d.replica;
      bytes = elim t [ true ↦ set d.bytes d.len b | false ↦ d.bytes ];
      len = elim t [ true ↦ d.len + 1 | false ↦ d.len ];
      begins = eqb b 10;
      opened = d.opened;
      refused = d.refused;
      slips = d.slips;
    }

pub keeps-room : (d x : Desk) (b : ℕ) → d.len < most_kept → x ≡ with_byte d b → begun x b ≡ keeps d b
unfolding keeps
keeps-room d x b h e = ap (λ (x : Desk). begun x b) e ∙ ap (kept_as d b) (sym (lt-ltb d.len most_kept h))

pub keeps-none : (d x : Desk) (b : ℕ) → most_kept ≤ d.len → x ≡ d → begun x b ≡ keeps d b
unfolding keeps
keeps-none d x b h e = ap (λ (x : Desk). begun x b) e ∙ ap (kept_as d b) (sym (le-ltb d.len most_kept h))

-- the first n bytes of a window
pub first_bytes : (n k : ℕ) (w : List ℕ) → k ≡ min n window_size → length w ≡ window_size → take k w ≡ take n w
first_bytes n k w e l = ap (λ j. take j w) (e ∙ ap (min n) (sym l)) ∙ take_min n w

-- The printer p stands at the front of its page, and printed t, which left it as q.
pub printed-over : {p q : Printer} (t : List ℕ) → p.at ≡ 0 → Prints p q t → (q.at ≡ length t) × (q.page.now ≡ over t p.page.now)
printed-over {p} {q} t z w = wrote-over t (subst (λ (at : ℕ). Wrote p.page.now at t q.page.now q.at) z w.wrote)

-- The first i of the bytes w are fed to the desk d₀, which has given d; the printer p printed what was said, which left it as q.
pub record Feeding (d₀ : Desk) (w : List ℕ) (p q : Printer) (d : Desk) (i : ℕ) : Type 0 where
  pub upto : i ≤ length w
  pub within : length w ≤ window_size
  pub front : p.at ≡ 0
  pub page : length p.page.now ≡ page_size
  pub state : d ≡ fed d₀ (take i w)
  pub prints : Prints p q (said d₀ (take i w))
  pub few : q.at ≤ most_said * i

-- None is.
pub feeding-none : (d₀ : Desk) (w : List ℕ) (p : Printer) → length w ≤ window_size → p.at ≡ 0 → length p.page.now ≡ page_size → Feeding d₀ w p p d₀ 0
unfolding fed said
feeding-none d₀ w p h z k = record {
  upto = omega arith;
  within = h;
  front = z;
  page = k;
  state = refl;
  prints = prints_nothing p (omega arith);
  few = omega arith;
}

module _ {d₀ : Desk} {w : List ℕ} {p q : Printer} {d : Desk} {i : ℕ} (F : Feeding d₀ w p q d i) where
  -- One more.
  feeding-more : {r : Printer} {e : Desk} → i < length w → e ≡ step d (get_or w i 0) → Prints q r (step_said d (get_or w i 0)) → r.at ≤ q.at + most_said
      → Feeding d₀ w p r e (i + 1)
  unfolding fed said
  feeding-more {r} {e} h s v l =
      let b = get_or w i 0 in
      let t : take (i + 1) w ≡ take i w ++ (b ∷ []) = ap (λ j. take j w) (add-one i) ∙ take-suc w i 0 h in
      let f : step d b ≡ fed d₀ (take (i + 1) w) = ap (λ (x : Desk). step x b) F.state ∙ sym (ap (fed d₀) t ∙ fed-append d₀ (take i w) (b ∷ [])) in
      let u : said d₀ (take i w) ++ step_said d b ≡ said d₀ (take (i + 1) w) =
      ap (λ t. said d₀ (take i w) ++ t) (sym (append-nil (step_said d b)) ∙ ap (λ (x : Desk). said x (b ∷ [])) F.state)
      ∙ sym (ap (said d₀) t ∙ said-append d₀ (take i w) (b ∷ [])) in
      record {
        upto = omega arith;
        within = F.within;
        front = F.front;
        page = F.page;
        state = s ∙ f;
        prints = prints_as u (prints_then F.prints v);
        few = omega (arith, F.few);
      }

  pub feeding-ended : {r : Printer} {e : Desk} → i < length w → stopped d ≡ false → empty_line d.begins (get_or w i 0) ≡ true
      → e ≡ ends d → Prints q r (end_said d) → Feeding d₀ w p r e (i + 1)
  feeding-ended h s t e v =
      let r = renamed (step-ends d (get_or w i 0) s t) (e, v) in
      feeding-more h r.0 r.1 (omega (arith, v.wrote.past, end-said-most d))

  pub feeding-kept : {e : Desk} → i < length w → stopped d ≡ false → empty_line d.begins (get_or w i 0) ≡ false
      → e ≡ keeps d (get_or w i 0) → Feeding d₀ w p q e (i + 1)
  feeding-kept h s t e =
      let v = F.prints.wrote in
      let r = renamed (step_keeps d (get_or w i 0) s t) (e, prints_nothing q (omega (arith, v.fits, v.past, v.size))) in
      feeding-more h r.0 r.1 (omega arith)

  -- All are, or the others change nothing.
  abbrev Done : List ℕ → Type 0
  Done v = (d ≡ fed d₀ v) × ((q.at ≡ length (said d₀ v)) × (q.page.now ≡ over (said d₀ v) p.page.now))

  pub feeding-done : {v : List ℕ} → w ≡ v → length w ≤ i → Done v
  feeding-done e h =
      let s : take i w ≡ w = take_all i w h in
      subst (λ (v : List ℕ). Done v) e (F.state ∙ ap (fed d₀) s, printed-over (said d₀ w) F.front (prints_as (ap (said d₀) s) F.prints))

  pub feeding-stopped : {v : List ℕ} → w ≡ v → stopped d ≡ true → Done v
  feeding-stopped e h =
      let rest = drop i w in
      let t : w ≡ take i w ++ rest = sym (take-append-drop i w) in
      let k : (fed d rest ≡ d) × (said d rest ≡ []) = (stopped-fed d rest h, stopped-said d rest h) in
      let s : said d₀ (take i w) ≡ said d₀ w =
      sym (append-nil (said d₀ (take i w))) ∙ ap (λ v. said d₀ (take i w) ++ v) (sym k.1 ∙ ap (λ (x : Desk). said x rest) F.state)
      ∙ sym (ap (said d₀) t ∙ said-append d₀ (take i w) rest) in
      let f : d ≡ fed d₀ w = sym k.0 ∙ ap (λ (x : Desk). fed x rest) F.state ∙ sym (ap (fed d₀) t ∙ fed-append d₀ (take i w) rest) in
      subst (λ (v : List ℕ). Done v) e (f, printed-over (said d₀ w) F.front (prints_as s F.prints))

-- the same under other names
pub feeding-same : {d₀ d e : Desk} {w : List ℕ} {p q r : Printer} {i : ℕ} → e ≡ d → r ≡ q → Feeding d₀ w p q d i → Feeding d₀ w p r e i
feeding-same {d₀} {d} {e} {w} {p} {q} {r} {i} x y F =
    subst (λ (d : Desk). Feeding d₀ w p r d i) (sym x) (subst (λ (q : Printer). Feeding d₀ w p q d i) (sym y) F)
