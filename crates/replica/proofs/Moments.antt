-- At every moment (specs/Algorithm) the record follows figure 4's variables, and its histories hold what was applied.
use mathlib.Core.Path.{◌≡◌, refl, sym, ap, ◌∙◌, subst}
use mathlib.Core.Logic.{◌≢◌}
use mathlib.Core.Bool.{Bool, true, false}
use mathlib.Core.List.{List, [], ◌∷◌, ◌++◌, map}
use Prim.Native.Nat.{ℕ, zero, suc, ◌+◌, ◌<◌}
use native.Mathlib.Omega.{arith}
use lib.ListN.{drop, get_or}
use lib.Dec.{eqb}
use borrow.Author.Tests.{eq-eqb}
use Rattle.texts.specs.Register.{register_answer, register_read}
use Rattle.texts.specs.Slip.{deps_of}
use Rattle.texts.specs.declared.entry.Entry.{Entry}
use Rattle.texts.specs.declared.register.Register.{Register}
use Rattle.texts.specs.declared.slip.Slip.{Slip}
use Rattle.texts.proofs.Legal.{register-legal, read-legal}
use Rattle.replica.specs.declared.record.Shop.{Shop}
use Rattle.replica.specs.declared.record.Waiting.{Waiting}
use Rattle.replica.specs.declared.record.Line.{Line}
use Rattle.replica.specs.declared.record.Replica.{Replica}
use Rattle.replica.specs.Record.{shop_count, own, shop_at, line_at}
use Rattle.replica.specs.Slips.{number_for, waiting_of, slip_at, firsts, waiting_slips}
use Rattle.replica.specs.Checks.{passes}
use Rattle.replica.specs.State.{lawful}
use Rattle.replica.specs.Settle.{first_waiting, ready, apply}
use Rattle.replica.specs.Open.{fresh, opened}
use Rattle.replica.specs.Take.{slip_from, payer_of, take_answer, entered}
use Rattle.replica.specs.Issue.{issue_answer, issuing}
use Rattle.replica.specs.Algorithm.{Transfer, Message, Locals, initially, put, incoming, outgoing, deliver, validated, last_of, cleared}
use Rattle.replica.specs.Algorithm.{message_of, first_of, Moment, opens, takes, applies, issues, Follows}
use Rattle.replica.proofs.Sums.{either}
use Rattle.replica.proofs.Only.{only, only_self, only-other}
use Rattle.replica.proofs.Parts.{Parts, parts, whole}
use Rattle.replica.proofs.OneToOne as listing
use Rattle.replica.proofs.OneToOne.{Passed}
use Rattle.replica.proofs.Opened.{fresh-shop, fresh-line, fresh-lawful}
use Rattle.replica.proofs.Back.{map-append, waiting-held}
use Rattle.replica.proofs.Checked.{map_at}
use Rattle.replica.proofs.Credit.{costs, brings, costs-amount, brings-payee, brings-others}
use Rattle.replica.proofs.Applied.{passed-of, some, below, other, payer, same, apply-lawful}
use Rattle.replica.proofs.Taken as took
use Rattle.replica.proofs.Taken.{accepted}
use Rattle.replica.proofs.Issued as unmarking
use Rattle.replica.proofs.Reached.{moves, queue-less, queue-same, queue-more, queue-others}
use Rattle.replica.proofs.Transfers.{is-put, last-here, last-there, joined-outgoing, joined-incoming, Recorded, recorded-none, recorded-cleared, recorded_more}

pub record Kept (self : Replica) (l : Locals) : Type 0 where
  pub lawful : lawful self ≡ true
  pub follows : Follows self l
  pub recorded : Recorded (shop_count self) (own self) l.seq l.hist l.deps

pub own_below_lem : (self : Replica) → Parts self → own self < shop_count self
own_below_lem self P = let R = register-legal self.register P.register in listing.below self.register self.register.own R R.own

-- ---- a slip as a message, by position

pub needs-at : (self : Replica) → Parts self → (s : Slip) (r : ℕ) → r < shop_count self → (message_of self.register s).needs r ≡ get_or (waiting_of self.register s).needs r 0
unfolding waiting_of
needs-at self P s r h =
    let F = (register-legal self.register P.register).fits in
    let blank : Entry = record { code = record { digits = []; len = 0 }; number = 0 } in
    sym (map_at (λ (l : Entry). number_for (deps_of s) l.code) self.register.shops r blank 0 (omega (arith, F.most, F.places)))

-- the first slip of the shop at q
abbrev pub first_transfer : Replica → ℕ → Transfer
first_transfer self q = let w = first_waiting self q in record { c = q; d = w.payee; y = w.amount; s = w.number }

module _ (self : Replica) (l : lawful self ≡ true) (q : ℕ) (h : q < shop_count self) (one : 0 < (line_at self q).count) where
  pub first-transfer : (first_of self q).t ≡ first_transfer self q
  unfolding waiting_of
  first-transfer =
      let w = first_waiting self q in
      let by_place : Waiting → Transfer = λ x. record { c = x.payer; d = x.payee; y = x.amount; s = x.number } in
      ap by_place (waiting-held self l q 0 h one) ∙ ap (λ (p : ℕ). record { c = p; d = w.payee; y = w.amount; s = w.number }) (((parts self l).lined q h).payers 0 one)

  pub first-needs : (r : ℕ) → r < shop_count self → (first_of self q).needs r ≡ get_or (first_waiting self q).needs r 0
  first-needs r k = needs-at self (parts self l) (slip_at self q 0) r k ∙ ap (λ (x : Waiting). get_or x.needs r 0) (waiting-held self l q 0 h one)

-- ---- opening

fresh_kept : (r : Register) → register_answer r ≡ 0 → Kept (fresh r) initially
unfolding fresh firsts incoming outgoing last_of
fresh_kept r e =
    record {
      lawful = fresh-lawful r e;
      follows = record {
        seq = λ q h. ap (λ (s : Shop). s.applied) (fresh-shop r q);
        rec = λ q h. ap (λ (s : Shop). s.taken) (fresh-shop r q);
        waits = λ q h. ap (λ (l : Line). map (message_of r) (firsts l.count (slip_at (fresh r) q))) (fresh-line r q (omega (arith, (register-legal r e).fits.most)));
        balance = λ a h. omega (arith, ap (λ (s : Shop). s.balance) (fresh-shop r a));
        marks = λ q h. ap (λ (s : Shop). s.mark) (fresh-shop r q);
      };
      recorded = recorded-none r.count (own (fresh r));
    }

opened-kept : (text : List ℕ) → (opened text).answer ≡ 0 → Kept (opened text).replica initially
unfolding opened
opened-kept text e = go (register_read text).answer refl
  where
    go : (n : ℕ) → (register_read text).answer ≡ n → Kept (opened text).replica initially
    go zero i = let O = read-legal text i in rw (i, opened) (fresh_kept (register_read text).register (ap register_answer O.given ∙ O.legal))
    go (suc n) i = let z : suc n ≡ 0 = rw (i, opened) at e in absurd (omega arith)

-- ---- taking is deliver

-- line 18 passed
abbrev pending : ℕ → Message → Locals → Locals
pending q m l =
    record { seq = l.seq; rec = put q (l.rec q + 1) l.rec; hist = l.hist; deps = l.deps; to_validate = put q (l.to_validate q ++ (m ∷ [])) l.to_validate }

line18 : (q : ℕ) (m : Message) (l : Locals) → m.t.s ≡ l.rec q + 1 → deliver q m l ≡ pending q m l
unfolding deliver
line18 q m l e = rw (eq-eqb m.t.s (l.rec q + 1) e, deliver)

module _ (self : Replica) (x : Slip) (P : Parts self) (Q : Passed self.register x) (ok : passes self.register x ≡ true)
    (number : x.number ≡ (shop_at self (payer_of self x)).taken + 1) (room : (line_at self (payer_of self x)).count < 8) where
  enter-kept : (l : Locals) → Kept self l → Kept (entered self x) (deliver (payer_of self x) (message_of self.register x) l)
  unfolding entered
  enter-kept l K =
      let p = payer_of self x in
      let m = message_of self.register in
      let F = K.follows in
      let inside = took.h self x P Q ok number room in
      let alone = took.alone self x P Q ok number room in
      let next : x.number ≡ l.rec p + 1 = number ∙ ap (λ (k : ℕ). k + 1) (F.rec p inside) in
      subst (Kept (entered self x)) (sym (line18 p (m x) l next)) record {
        lawful = whole (entered self x) (took.entered-parts self x P Q ok number room);
        follows = record {
          seq = λ q h. alone (λ a. a.applied) (λ _. refl) q ∙ F.seq q h;
          rec = λ q h. is-put p (l.rec p + 1) l.rec (λ i. (shop_at (entered self x) i).taken) q
              (ap (λ (a : Shop). a.taken) (took.payer self x P Q ok number room) ∙ ap (λ (k : ℕ). k + 1) (F.rec p inside))
              (λ d. ap (λ (a : Shop). a.taken) (took.others self x P Q ok number room q d) ∙ F.rec q h);
          waits = λ q h. is-put p (l.to_validate p ++ (m x ∷ [])) l.to_validate (λ i. map m (waiting_slips (entered self x) i)) q
              (ap (map m) (queue-more self x P Q ok number room) ∙ map-append m (waiting_slips self p) (x ∷ []) ∙ ap (λ (z : List Message). z ++ (m x ∷ [])) (F.waits p inside))
              (λ d. ap (map m) (queue-others self x P Q ok number room q d) ∙ F.waits q h);
          balance = λ a h. omega (arith, alone (λ s. s.balance) (λ _. refl) a, F.balance a h);
          marks = λ q h. alone (λ a. a.mark) (λ _. refl) q ∙ F.marks q h;
        };
        recorded = K.recorded;
      }

take-kept : (self : Replica) (l : Locals) (text list : List ℕ) → take_answer self text list ≡ 0 → Kept self l
    → Kept (entered self (slip_from text)) (deliver (payer_of self (slip_from text)) (message_of self.register (slip_from text)) l)
take-kept self l text list e K =
    let A = accepted self text list e in
    let ok : passes self.register A.slip ≡ true = A.passes in
    rw A.given (enter-kept self A.slip (parts self A.lawful) (passed-of self.register A.slip ok) ok A.number A.room l K)

-- ---- applying is lines 22 to 27

module _ (self : Replica) (l : Locals) (K : Kept self l) (q : ℕ) (h : q < shop_count self) (e : ready self q ≡ true) where
  P : Parts self
  P = parts self K.lawful

  abbrev t : Transfer
  t = first_transfer self q

  abbrev m : Slip → Message
  m = message_of self.register

  one : 0 < (line_at self q).count
  one = some self q P h e

  same-message : first_of self q ≡ record { t = t; needs = (first_of self q).needs }
  same-message = λ i. record { t = first-transfer self K.lawful q h one i; needs = (first_of self q).needs }

  abbrev other-party : q ≢ (first_waiting self q).payee
  other-party = other self q P h e

  next : t.s ≡ l.seq q + 1
  next = omega (arith, (P.lined q h).numbers 0 one, K.follows.seq q h)

  moved : (a : ℕ) → a < shop_count self → (shop_at (apply self q) a).balance + only a t.y q ≡ (shop_at self a).balance + only a t.y t.d
  moved a k =
      let r = self.register in
      let w = first_waiting self q in
      let x = slip_at self q 0 in
      let none = brings-others r w (register-legal r P.register) (below self q P h e) a k in
      either a q
      (λ i.
      let d : a ≢ w.payee = λ j. other-party (sym i ∙ j) in
      omega (arith, moves self q P h e a k, costs-amount r w, only_self q (costs 0 x) a i, none d, only_self a t.y q (sym i), only-other a t.y t.d (λ j. d (sym j))))
      (λ i.
      let out = only-other a t.y q (λ j. i (sym j)) in
      let kept = only-other q (costs 0 x) a i in
      either a w.payee
      (λ j.
      let got : brings r.shops a 0 x ≡ w.amount = ap (λ (b : ℕ). brings r.shops b 0 x) j ∙ brings-payee r w in
      omega (arith, moves self q P h e a k, only_self a t.y t.d (sym j)))
      (λ j. omega (arith, moves self q P h e a k, none j, only-other a t.y t.d (λ i. j (sym i)))))

  -- lines 26 and 27
  abbrev kept_in : Bool → List Transfer
  kept_in v = elim v as (λ _. List Transfer) [ true ↦ l.deps ++ (t ∷ []) | false ↦ l.deps ]

  mark-here : (v : Bool) → (elim v as (λ _. ℕ) [ true ↦ t.s | false ↦ (shop_at self q).mark ]) ≡ last_of (kept_in v) q
  mark-here true = sym (last-here t l.deps q (omega (arith, next)) refl)
  mark-here false = K.follows.marks q h

  mark-there : (v : Bool) (i : ℕ) → i ≢ q → last_of l.deps i ≡ last_of (kept_in v) i
  mark-there true i d = sym (last-there t l.deps i (λ j. d (sym j)))
  mark-there false i d = refl

  apply-kept : Kept (apply self q) (validated (own self) q (first_of self q) l)
  unfolding apply validated
  apply-kept =
      let F = K.follows in
      let w = first_waiting self q in
      let own? = eqb w.payee (own self) in
      let pays = payer self q P h e in
      let others = same self q P h e in
      subst (λ (x : Message). Kept (apply self q) (validated (own self) q x l)) (sym same-message) record {
        lawful = apply-lawful self q K.lawful h e;
        follows = record {
          seq = λ i k. is-put q t.s l.seq (λ i. (shop_at (apply self q) i).applied) i
              (ap (λ (s : Shop). s.applied) pays ∙ ap (λ (n : ℕ). n + 1) (F.seq q h) ∙ sym next) (λ d. (others i d).1 ∙ F.seq i k);
          rec = λ i k. either i q
              (λ j. ap (λ (p : ℕ). (shop_at (apply self q) p).taken) j ∙ ap (λ (s : Shop). s.taken) pays ∙ F.rec q h ∙ ap l.rec (sym j))
              (λ d. (others i d).0 ∙ F.rec i k);
          waits = λ i k. is-put q (drop 1 (l.to_validate q)) l.to_validate (λ i. map m (waiting_slips (apply self q) i)) i
              (ap (λ (z : List Slip). drop 1 (map m z)) (queue-less self q P h e) ∙ ap (drop 1) (F.waits q h))
              (λ d. ap (map m) (queue-same self q P h e i d) ∙ F.waits i k);
          balance = λ a k. omega (arith, moved a k, F.balance a k, joined-outgoing t other-party l.hist a, joined-incoming t other-party l.hist a);
          marks = λ i k. either i q
              (λ j. ap (λ (p : ℕ). (shop_at (apply self q) p).mark) j ∙ ap (λ (s : Shop). s.mark) pays ∙ mark-here own? ∙ ap (last_of (kept_in own?)) (sym j))
              (λ d. (others i d).2 ∙ F.marks i k ∙ mark-there own? i d);
        };
        recorded = recorded_more K.recorded (own_below_lem self P) t h (below self q P h e) other-party next;
      }

-- ---- issuing is line 13

issue-kept : (self : Replica) (l : Locals) (payee : List ℕ) (amount : ℕ) (buffer : List ℕ) → issue_answer self payee amount buffer ≡ 0 → Kept self l → Kept (issuing self) (cleared l)
unfolding issuing cleared last_of
issue-kept self l payee amount buffer e K =
    let F = K.follows in
    record {
      lawful = whole (issuing self) (unmarking.issuing-parts self (parts self K.lawful) (unmarking.free self payee amount buffer e).not_used_up);
      follows = record {
        seq = λ q h. ap (λ (s : Shop). s.applied) (unmarking.cleared self q) ∙ F.seq q h;
        rec = λ q h. ap (λ (s : Shop). s.taken) (unmarking.cleared self q) ∙ F.rec q h;
        waits = F.waits;
        balance = λ a h. omega (arith, ap (λ (s : Shop). s.balance) (unmarking.cleared self a), F.balance a h);
        marks = λ q h. ap (λ (s : Shop). s.mark) (unmarking.cleared self q);
      };
      recorded = recorded-cleared K.recorded;
    }

-- ---- every moment

pub kept : {self : Replica} {l : Locals} → Moment self l → Kept self l
kept (opens text e) = opened-kept text e
kept (takes {self} {l} M text list e) = take-kept self l text list e (kept M)
kept (applies {self} {l} M q h e) = apply-kept self l (kept M) q h e
kept (issues {self} {l} M payee amount buffer e) = issue-kept self l payee amount buffer e (kept M)
