-- Issuing and asking a balance, step by step: what is asked, the marks as dependencies, what is answered and written.
use mathlib.Core.Path.{◌≡◌, refl, sym, ap, ap₂, ◌∙◌, subst}
use mathlib.Core.Bool.{Bool, true, false, not, ◌||◌, or-true}
use mathlib.Core.List.{List, [], ◌∷◌, ◌++◌, map, append-nil}
use Prim.Native.Nat.{ℕ, zero, suc, ◌+◌, ◌-◌, ◌≤◌, ◌<◌, min}
use native.Mathlib.Omega.{arith}
use native.Mathlib.Numerals.{add-one}
use lib.ListN.{length, take, drop, get_or, set, replicate, length-map, length-append, length-take, take-append-drop, get_or-map}
use lib.Seq.{take-suc, take_all, length-take-le, append_snoc, set_at}
use lib.Dec.{ltb, eqb}
use borrow.Author.Tests.{lt-ltb, le-ltb, eq-eqb, ne_eqb, eqb-false, ltb-false, not-false}
use Rattle.std.proofs.Common.{Result, Ok, Err}
use Rattle.texts.specs.Answers.{Meaning, answer_of, refusal_number}
use Rattle.texts.specs.Code.{same_code, code_of}
use Rattle.texts.specs.Entries.{no_entry}
use Rattle.texts.specs.Register.{position, listed}
use Rattle.texts.specs.Slip.{slip_write_answer, slip_written, slip_buffer, no_slip}
use Rattle.texts.specs.Written.{Written, written, over}
use Rattle.texts.specs.declared.answers.Refusal.{Refusal}
use Rattle.texts.specs.declared.answers.Refusal.TheVariants.{Room, State}
use Rattle.texts.specs.declared.code.Code.{Code}
use Rattle.texts.specs.declared.entry.Entry.{Entry}
use Rattle.texts.specs.declared.register.Register.{Register}
use Rattle.texts.specs.declared.slip.Slip.{Slip}
use Rattle.texts.proofs.Refusals.{not-done}
use Rattle.texts.proofs.Firsts.{first-zero, no_rows, applies, passes-by}
use Rattle.texts.proofs.Steps.{neither, nor}
use Rattle.texts.proofs.WritingTexts.{slip-zero, slip-put}
use Rattle.texts.proofs.Legal.{register-legal}
use Rattle.replica.specs.declared.record.Shop.{Shop}
use Rattle.replica.specs.declared.record.Replica.{Replica}
use Rattle.replica.specs.declared.reply.Reply.{Reply}
use Rattle.replica.specs.declared.issue.Own.{Own}
use Rattle.replica.specs.Record.{no_shop, own, shop_at, line_at}
use Rattle.replica.specs.Slips.{deps_from, slip_with}
use Rattle.replica.specs.State.{lawful}
use Rattle.replica.specs.Outcome.{Outcome, refused, did, count_said, balance_said, turned_away}
use Rattle.replica.specs.Issue.{own_shop, busy?, unmarked, issue_rows, issue_answer, issued_slip, issued_text, issuing, issued, issued_buffer}
use Rattle.replica.specs.Balance.{balance_rows, asked}
use Rattle.replica.specs.Inside.{marks_of, ask_rows}
use Rattle.replica.proofs.OneToOne.{below, passed}
use Rattle.replica.proofs.Parts.{parts}
use Rattle.replica.proofs.Answered.{Gives}
use Rattle.replica.proofs.IssuedSlip.{deps, fifteen, issued-passes}

-- ---- what is asked when issuing: the tests that the code makes, one after the other

-- the answer of the rows from a row on
abbrev ask_from : ℕ → Register → Shop → ℕ → ℕ → Code → ℕ → ℕ
ask_from row r s waits issued payee amount = answer_of (drop row (ask_rows r s waits issued payee amount))

module _ (r : Register) (s : Shop) (waits issued : ℕ) (payee : Code) (amount : ℕ) (l : Bool) (e : l ≡ listed r payee) where
  -- the payee is not listed: 2
  pub ask-shop : not l ≡ true → 2 ≡ ask_from 0 r s waits issued payee amount
  ask-shop h = sym (applies Meaning.shop _ _ (ap not (sym e) ∙ h))

  module _ (known : not l ≡ false) (t : Bool) (d : t ≡ same_code payee r.own) where
    -- it is listed: the rows after that decide
    past-shop : (n : ℕ) → n ≡ ask_from 1 r s waits issued payee amount → n ≡ ask_from 0 r s waits issued payee amount
    past-shop n h = h ∙ sym (passes-by Meaning.shop _ _ (ap not (sym e) ∙ known))

    -- the payee is the own shop: 3
    pub ask-self : t ≡ true → 3 ≡ ask_from 0 r s waits issued payee amount
    ask-self h = past-shop 3 (sym (applies Meaning.oneself _ _ (sym d ∙ h)))

    module _ (another : t ≡ false) where
      -- it is another shop: the rows after that decide
      past-self : (n : ℕ) → n ≡ ask_from 2 r s waits issued payee amount → n ≡ ask_from 0 r s waits issued payee amount
      past-self n h = past-shop n (h ∙ sym (passes-by Meaning.oneself _ _ (sym d ∙ another)))

      -- the amount is 0: 4
      pub ask-some : amount ≡ 0 → 4 ≡ ask_from 0 r s waits issued payee amount
      ask-some h = past-self 4 (sym (applies Meaning.range _ _ (ap (λ b. b || ltb 999999 amount) (eq-eqb amount 0 h))))

      -- the amount is too large: 4
      pub ask-most : 999999 < amount → 4 ≡ ask_from 0 r s waits issued payee amount
      ask-most h = past-self 4 (sym (applies Meaning.range _ _ (ap (λ b. eqb amount 0 || b) (lt-ltb 999999 amount h) ∙ or-true (eqb amount 0))))

      module _ (some : amount ≡ 0 → ⊥) (within : amount ≤ 999999) where
        -- the amount can be paid in one slip: the rows after that decide
        past-range : (n : ℕ) → n ≡ ask_from 3 r s waits issued payee amount → n ≡ ask_from 0 r s waits issued payee amount
        past-range n h = past-self n (h ∙ sym (passes-by Meaning.range _ _ (nor _ _ (ne_eqb amount 0 some) (le-ltb 999999 amount within))))

        -- a slip was issued that is not applied: 8
        pub ask-issued : s.applied < issued → 8 ≡ ask_from 0 r s waits issued payee amount
        ask-issued h = past-range 8 (sym (applies Meaning.busy _ _ (ap (λ b. b || ltb 0 waits) (lt-ltb s.applied issued h))))

        module _ (back : issued ≤ s.applied) where
          -- slips wait: 8
          pub ask-waits : 0 < waits → 8 ≡ ask_from 0 r s waits issued payee amount
          ask-waits h = past-range 8 (sym (applies Meaning.busy _ _ (ap (λ b. ltb s.applied issued || b) (lt-ltb 0 waits h) ∙ or-true (ltb s.applied issued))))

          module _ (none : waits ≤ 0) where
            -- nothing is under way: the rows after that decide
            past-busy : (n : ℕ) → n ≡ ask_from 4 r s waits issued payee amount → n ≡ ask_from 0 r s waits issued payee amount
            past-busy n h = past-range n (h ∙ sym (passes-by Meaning.busy _ _ (nor _ _ (le-ltb s.applied issued back) (le-ltb 0 waits none))))

            -- no number is left: 10
            pub ask-last : s.applied ≡ 999999 → 10 ≡ ask_from 0 r s waits issued payee amount
            ask-last h = past-busy 10 (sym (applies Meaning.usedup _ _ (eq-eqb s.applied 999999 h)))

            module _ (more : s.applied ≡ 999999 → ⊥) where
              -- a number is left: the last row decides
              past-last : (n : ℕ) → n ≡ ask_from 5 r s waits issued payee amount → n ≡ ask_from 0 r s waits issued payee amount
              past-last n h = past-busy n (h ∙ sym (passes-by Meaning.usedup _ _ (ne_eqb s.applied 999999 more)))

              -- the balance is below the amount: 9
              pub ask-short : s.balance < amount → 9 ≡ ask_from 0 r s waits issued payee amount
              ask-short h = past-last 9 (sym (applies Meaning.short _ _ (lt-ltb s.balance amount h)))

              -- nothing is against it: 0
              pub ask-ok : amount ≤ s.balance → 0 ≡ ask_from 0 r s waits issued payee amount
              ask-ok h = past-last 0 (sym (passes-by Meaning.short _ _ (le-ltb s.balance amount h) ∙ no_rows))

-- ---- marks as dependencies

-- shops with their numbers, and further shops with theirs
from-both : (us vs : List Entry) (ns ms : List ℕ) → length ns ≡ length us → deps_from (us ++ vs) (ns ++ ms) ≡ deps_from us ns ++ deps_from vs ms
unfolding deps_from
from-both [] vs [] ms h = refl
from-both [] vs (n ∷ ns) ms h = absurd (omega arith)
from-both (u ∷ us) vs [] ms h = absurd (omega arith)
from-both (u ∷ us) vs (zero ∷ ns) ms h = from-both us vs ns ms (omega arith)
from-both (u ∷ us) vs (suc n ∷ ns) ms h = ap (λ l. record { code = u.code; number = suc n } ∷ l) (from-both us vs ns ms (omega arith))

-- one shop whose number is 0, and one whose number is not
from_zero : (u : Entry) (n : ℕ) → n ≡ 0 → deps_from (u ∷ []) (n ∷ []) ≡ []
unfolding deps_from
from_zero u zero h = refl
from_zero u (suc n) h = absurd (omega arith)

from-number : (u : Entry) (n : ℕ) → (n ≡ 0 → ⊥) → deps_from (u ∷ []) (n ∷ []) ≡ record { code = u.code; number = n } ∷ []
unfolding deps_from
from-number u zero h = absurd (h refl)
from-number u (suc n) h = refl

-- the dependencies on the first i shops
abbrev first_deps : List Entry → List ℕ → ℕ → List Entry
first_deps us ns i = deps_from (take i us) (take i ns)

-- no more than all
front-few : (us : List Entry) (ns : List ℕ) (i : ℕ) → length ns ≡ length us → length (first_deps us ns i) ≤ length (deps_from us ns)
front-few us ns i h =
    let same : length (take i ns) ≡ length (take i us) = length-take i ns ∙ ap (λ k. min i k) h ∙ sym (length-take i us) in
    let split : deps_from us ns ≡ first_deps us ns i ++ deps_from (drop i us) (drop i ns) =
    ap₂ (λ (u : List Entry) (n : List ℕ). deps_from u n) (sym (take-append-drop i us)) (sym (take-append-drop i ns)) ∙ from-both (take i us) (drop i us) (take i ns) (drop i ns) same in
    omega (arith, ap length split, length-append (first_deps us ns i) (deps_from (drop i us) (drop i ns)))

-- what the checker has past the last shop of a register
abbrev pub blank : Entry
blank = record { code = record { digits = []; len = 0 }; number = 0 }

-- the first places of ds are the dependencies on the first i shops, `count` of them, and the other places are zero
pub record Marked (us : List Entry) (ss : List Shop) (ds : List Entry) (count i : ℕ) : Type 0 where
  pub listed : length us ≡ 16
  pub shops : length ss ≡ 16
  pub most : length (deps_from us (marks_of ss)) ≤ 15
  pub within : i ≤ 16
  pub size : count ≡ length (first_deps us (marks_of ss) i)
  pub holds : ds ≡ first_deps us (marks_of ss) i ++ replicate (16 - count) no_entry

-- no shop is asked yet
pub marked-none : (us : List Entry) (ss : List Shop) (s : Slip) → length us ≡ 16 → length ss ≡ 16 → length (deps_from us (marks_of ss)) ≤ 15 → s ≡ no_slip → Marked us ss s.deps s.count 0
unfolding deps_from
marked-none us ss s h l m e =
    subst (λ (x : Slip). Marked us ss x.deps x.count 0) (sym e) record { listed = h; shops = l; most = m; within = omega arith; size = refl; holds = refl }

module _ {us : List Entry} {ss : List Shop} {ds : List Entry} {count i : ℕ} (m : Marked us ss ds count i) where
  -- as many marks as shops
  marks-size : length (marks_of ss) ≡ 16
  marks-size = length-map ss (λ (s : Shop). s.mark) ∙ m.shops

  -- no shop is left: the slip carries them all
  pub slip-marked : (payer : Code) (number : ℕ) (payee : Code) (amount : ℕ) → 16 ≤ i
      → ◌≡◌ {A = Slip} (record { payer = payer; number = number; payee = payee; amount = amount; count = count; deps = ds }) (slip_with payer number payee amount (deps_from us (marks_of ss)))
  slip-marked payer number payee amount h =
      let ns : List ℕ = marks_of ss in
      let k : first_deps us ns i ≡ deps_from us ns = ap₂ (λ (u : List Entry) (n : List ℕ). deps_from u n) (take_all i us (omega (arith, m.listed))) (take_all i ns (omega (arith, marks-size))) in
      let s : count ≡ length (deps_from us ns) = m.size ∙ ap length k in
      ap₂ (λ c d. record { payer = payer; number = number; payee = payee; amount = amount; count = c; deps = d }) s (m.holds ∙ ap₂ (λ l n. l ++ replicate (16 - n) no_entry) k s)

  module _ (h : i < 16) where
    -- the mark of the shop at i
    abbrev mark : ℕ
    mark = (get_or ss i no_shop).mark

    -- one shop more
    marked_next : first_deps us (marks_of ss) (i + 1) ≡ first_deps us (marks_of ss) i ++ deps_from (get_or us i blank ∷ []) (mark ∷ [])
    marked_next =
        let ns : List ℕ = marks_of ss in
        let a : i < length us = omega (arith, m.listed) in
        let b : i < length ns = omega (arith, marks-size) in
        let c = length-take-le i us (omega arith) in
        let d = length-take-le i ns (omega arith) in
        let p : take (i + 1) us ≡ take i us ++ (get_or us i blank ∷ []) = rw (add-one, take-suc us i blank) in
        let q : take (i + 1) ns ≡ take i ns ++ (get_or ns i 0 ∷ []) = rw (add-one, take-suc ns i 0) in
        ap₂ (λ (u : List Entry) (v : List ℕ). deps_from u v) p (q ∙ ap (λ k. take i ns ++ (k ∷ [])) (get_or-map (λ (s : Shop). s.mark) ss i no_shop))
        ∙ from-both (take i us) (get_or us i blank ∷ []) (take i ns) (mark ∷ []) (d ∙ sym c)

    -- its mark is 0: nothing is added
    pub marked-skip : mark ≡ 0 → (ds' : List Entry) (count' : ℕ) → ds' ≡ ds → count' ≡ count → Marked us ss ds' count' (i + 1)
    marked-skip e ds' count' p q =
        let front : List Entry = first_deps us (marks_of ss) i in
        let k : first_deps us (marks_of ss) (i + 1) ≡ front = marked_next ∙ ap (λ l. front ++ l) (from_zero (get_or us i blank) mark e) ∙ append-nil front in
        record {
          listed = m.listed;
          shops = m.shops;
          most = m.most;
          within = omega arith;
          size = q ∙ m.size ∙ ap length (sym k);
          holds = p ∙ m.holds ∙ ap₂ (λ l n. l ++ replicate (16 - n) no_entry) (sym k) (sym q);
        }

    module _ (e : mark ≡ 0 → ⊥) where
      -- it is not 0: a dependency
      abbrev dep : Entry
      dep = record { code = (get_or us i blank).code; number = mark }

      -- one dependency more
      marked-longer : first_deps us (marks_of ss) (i + 1) ≡ first_deps us (marks_of ss) i ++ (dep ∷ [])
      marked-longer = marked_next ∙ ap (λ l. first_deps us (marks_of ss) i ++ l) (from-number (get_or us i blank) mark e)

      -- so many are there then
      marked-count : count + 1 ≡ length (first_deps us (marks_of ss) (i + 1))
      marked-count = omega (arith, m.size, ap length marked-longer, length-append (first_deps us (marks_of ss) i) (dep ∷ []))

      -- there is room for it
      pub marked-room : count < 16
      marked-room = omega (arith, marked-count, m.most, front-few us (marks_of ss) (i + 1) (marks-size ∙ sym m.listed))

      -- it goes after the others
      pub marked_more : (ds' : List Entry) (count' : ℕ) → ds' ≡ set ds count dep → count' ≡ count + 1 → Marked us ss ds' count' (i + 1)
      marked_more ds' count' p q =
          let front : List Entry = first_deps us (marks_of ss) i in
          let rest : List Entry = replicate (16 - (count + 1)) no_entry in
          let k : 16 - count ≡ suc (16 - (count + 1)) = omega (arith, marked-room) in
          record {
            listed = m.listed;
            shops = m.shops;
            most = m.most;
            within = omega arith;
            size = q ∙ marked-count;
            holds =
                p ∙ ap (λ l. set l count dep) (m.holds ∙ ap (λ n. front ++ replicate n no_entry) k)
                ∙ set_at front no_entry rest dep count (sym m.size)
                ∙ sym (ap (λ l. l ++ rest) marked-longer ∙ append_snoc front dep rest)
                ∙ ap (λ n. first_deps us (marks_of ss) (i + 1) ++ replicate (16 - n) no_entry) (sym q);
          }

-- ---- places of the register

module _ (self : Replica) (law : lawful self ≡ true) where
  -- a listed shop has its numbers and its line
  shop-place : (c : Code) → listed self.register c ≡ true → position self.register c < 16
  shop-place c e = let R = register-legal self.register (parts self law).register in omega (arith, below self.register c R e, R.fits.most)

  -- so has the own shop
  pub own-place : (p : ℕ) → p ≡ own self → p < 16
  own-place p e = omega (arith, shop-place self.register.own (register-legal self.register (parts self law).register).own)

  -- the own shop's next number can be counted
  pub own-applied : (s : Shop) → s ≡ own_shop self → s.applied ≤ 999999
  own-applied s e =
      let P = parts self law in
      let R = register-legal self.register P.register in
      let L = P.lined (own self) (below self.register self.register.own R R.own) in
      omega (arith, ap (λ (x : Shop). x.applied) e, L.taken, L.most)

  -- fifteen places hold the marks
  pub few-marks : length (deps_from self.register.shops (marks_of self.shops)) ≤ 15
  few-marks = let P = parts self law in omega (arith, ap length (deps self P), fifteen self P)

-- the test of the state, as the code makes it
pub is_lawful : (self : Replica) (l : Bool) → l ≡ lawful self → not l ≡ false → lawful self ≡ true
is_lawful self l e h = sym e ∙ not-false l h

-- ---- what issuing answers and writes

-- a call that gives what a write gave, where that is done
did-written : (w : Result ℕ Refusal) (count : ℕ) (self : Replica) → written w ≡ record { answer = 0; count = count } → count_said (record { answer = w; replica = self }) ≡ did count self
did-written (Ok n) count self e = ap (λ (x : Written). did x.count self) e
did-written (Err refusal) count self e = absurd (not-done refusal (ap (λ (x : Written). x.answer) e))

module _ (self : Replica) (payee : List ℕ) (amount : ℕ) (buffer : List ℕ) where
  -- a refusal: the state and the bytes are as they were
  issue-refused : (n : ℕ) → issue_answer self payee amount buffer ≡ n → (n ≡ 0 → ⊥) → (o : Outcome) → o ≡ refused n self
      → Gives o (issued self payee amount buffer) buffer (issued_buffer self payee amount buffer)
  unfolding issued issued_buffer
  issue-refused zero e h o i = absurd (h refl)
  issue-refused (suc n) e h o i = record { outcome = i ∙ sym (rw (e, issued)); bytes = sym (rw (e, issued_buffer)) }

  -- the state breaks the rule: 13
  pub issue-state : (l : Bool) → l ≡ lawful self → not l ≡ true → (o : Reply ℕ) → o ≡ turned_away State self
      → Gives (count_said o) (issued self payee amount buffer) buffer (issued_buffer self payee amount buffer)
  unfolding issue_rows
  issue-state l e h o i = issue-refused 13 (applies Meaning.state _ _ (ap not (sym e) ∙ h)) (λ z. omega arith) _ (ap count_said i)

  module _ (law : lawful self ≡ true) where
    -- the buffer is too small: 11
    pub issue-room : length buffer < 366 → (o : Reply ℕ) → o ≡ turned_away Room self
        → Gives (count_said o) (issued self payee amount buffer) buffer (issued_buffer self payee amount buffer)
    unfolding issue_rows
    issue-room h o i =
        issue-refused 11 (passes-by Meaning.state _ _ (ap not law) ∙ applies Meaning.room _ _ (lt-ltb (length buffer) 366 h)) (λ z. omega arith) _ (ap count_said i)

    module _ (room : 366 ≤ length buffer) (mine : Own) (ours : (mine.shop ≡ own_shop self) × (mine.waits ≡ (line_at self (own self)).count) × (mine.issued ≡ self.issued))
        (code : Code) (is_code : code ≡ code_of payee) where
      -- the other rows decide
      issue-asked : issue_answer self payee amount buffer ≡ answer_of (ask_rows self.register mine.shop mine.waits mine.issued code amount)
      unfolding issue_rows
      issue-asked =
          passes-by Meaning.state _ _ (ap not law) ∙ passes-by Meaning.room _ _ (le-ltb (length buffer) 366 room)
          ∙ sym (ap₂ (λ (x : Shop) (y : ℕ). answer_of (ask_rows self.register x y mine.issued code amount)) ours.0 ours.1
          ∙ ap₂ (λ (x : ℕ) (y : Code). answer_of (ask_rows self.register (own_shop self) (line_at self (own self)).count x y amount)) ours.2 is_code)

      -- one of them applies
      pub issue-answered : (refusal : Refusal) (o : Reply ℕ) → refusal_number refusal ≡ answer_of (ask_rows self.register mine.shop mine.waits mine.issued code amount) → o ≡ turned_away refusal self
          → Gives (count_said o) (issued self payee amount buffer) buffer (issued_buffer self payee amount buffer)
      issue-answered refusal o e i = issue-refused _ (issue-asked ∙ sym e) (not-done refusal) _ (ap count_said i)

      module _ (ok : 0 ≡ answer_of (ask_rows self.register mine.shop mine.waits mine.issued code amount)) where
        -- issuing answers 0
        answer-zero : issue_answer self payee amount buffer ≡ 0
        answer-zero = issue-asked ∙ sym ok

        -- the slip is legal, so it can be written
        slip-written : slip_write_answer (issued_slip self payee amount) buffer ≡ 0
        unfolding issue_rows
        slip-written =
            let c13 = first-zero Meaning.state (not (lawful self)) _ (omega arith) answer-zero in
            let c11 = first-zero Meaning.room (ltb (length buffer) 366) _ (omega arith) c13.1 in
            let c2 = first-zero Meaning.shop (not (listed self.register (code_of payee))) _ (omega arith) c11.1 in
            let c3 = first-zero Meaning.oneself (same_code (code_of payee) self.register.own) _ (omega arith) c2.1 in
            let c4 = first-zero Meaning.range (eqb amount 0 || ltb 999999 amount) _ (omega arith) c3.1 in
            let c8 = first-zero Meaning.busy (busy? self) _ (omega arith) c4.1 in
            let c10 = first-zero Meaning.usedup (eqb (own_shop self).applied 999999) _ (omega arith) c8.1 in
            let amounts = neither (eqb amount 0) (ltb 999999 amount) c4.0 in
            let positive = eqb-false amount 0 amounts.0 in
            let p = issued-passes self (parts self law) payee amount (not-false _ c2.0) c3.0 (omega arith) (ltb-false 999999 amount amounts.1) c10.0 in
            let legal = (passed self.register (issued_slip self payee amount) p).legal in
            slip-zero (issued_slip self payee amount) buffer room legal

        module _ (s : Slip) (is : s ≡ slip_with self.register.own (mine.shop.applied + 1) code amount (deps_from self.register.shops (marks_of self.shops))) where
          -- it is the slip to issue
          is-slip : s ≡ issued_slip self payee amount
          unfolding issued_slip
          is-slip = is ∙ ap₂ (λ (x : Shop) (y : Code). slip_with self.register.own (x.applied + 1) y amount (deps_from self.register.shops (marks_of self.shops))) ours.0 is_code

          -- issued: the slip is written, its number is kept, the marks are 0
          pub issue-done : (w : Result ℕ Refusal) (after : List ℕ) (shops : List Shop) → written w ≡ slip_written s buffer → after ≡ slip_buffer s buffer → shops ≡ map unmarked self.shops
              → Gives (count_said (record { answer = w; replica = record { register = self.register; issued = mine.shop.applied + 1; shops = shops; lines = self.lines } }))
              (issued self payee amount buffer) after (issued_buffer self payee amount buffer)
          unfolding issued issued_buffer issuing
          issue-done w after shops i j k =
              let text : List ℕ = issued_text self payee amount in
              let put = slip-put (issued_slip self payee amount) buffer slip-written in
              let said : written w ≡ record { answer = 0; count = length text } =
              i ∙ ap (λ x. slip_written x buffer) is-slip ∙ put.0 in
              let bytes : after ≡ over text buffer = j ∙ ap (λ x. slip_buffer x buffer) is-slip ∙ put.1 in
              let then : record { register = self.register; issued = mine.shop.applied + 1; shops = shops; lines = self.lines } ≡ issuing self =
              ap₂ (λ (x : Shop) (l : List Shop). record { register = self.register; issued = x.applied + 1; shops = l; lines = self.lines }) ours.0 k in
              record {
                outcome = did-written w _ _ said ∙ ap (did (length text)) then ∙ sym (rw (answer-zero, issued));
                bytes = bytes ∙ sym (rw (answer-zero, issued_buffer));
              }

-- ---- what asking a balance answers

module _ (self : Replica) (code : List ℕ) where
  -- a refusal: the state is as it was
  balance-refused : (n : ℕ) → n ≡ answer_of (balance_rows self code) → (n ≡ 0 → ⊥) → (o : Outcome) → o ≡ refused n self → o ≡ asked self code
  unfolding asked
  balance-refused zero e h o i = absurd (h refl)
  balance-refused (suc n) e h o i = i ∙ sym (rw (sym e, asked))

  -- the state breaks the rule: 13
  pub balance-state : (l : Bool) → l ≡ lawful self → not l ≡ true → (o : Reply ℕ) → o ≡ turned_away State self → balance_said o ≡ asked self code
  unfolding balance_rows
  balance-state l e h o i = balance-refused 13 (sym (applies Meaning.state _ _ (ap not (sym e) ∙ h))) (λ z. omega arith) _ (ap balance_said i)

  module _ (law : lawful self ≡ true) (c : Code) (is_code : c ≡ code_of code) (t : Bool) (e : t ≡ listed self.register c) where
    -- the test of the code, as the row makes it
    is-listed : listed self.register (code_of code) ≡ t
    is-listed = ap (listed self.register) (sym is_code) ∙ sym e

    -- the code is not listed: 2
    pub balance-shop : t ≡ false → (o : Reply ℕ) → o ≡ turned_away Refusal.Shop self → balance_said o ≡ asked self code
    unfolding balance_rows
    balance-shop h o i =
        balance-refused 2 (sym (passes-by Meaning.state _ _ (ap not law) ∙ applies Meaning.shop _ _ (ap not (is-listed ∙ h)))) (λ z. omega arith) _ (ap balance_said i)

    -- it is: its position is a place of the shops
    pub balance-place : t ≡ true → (p : ℕ) → p ≡ position self.register c → p < 16
    balance-place h p at = omega (arith, shop-place self law c (sym e ∙ h))

    -- the balance of the shop
    pub balance-done : t ≡ true → (p : ℕ) → p ≡ position self.register c
        → ◌≡◌ {A = Outcome} (record { answer = 0; count = 0; balance = (shop_at self p).balance; replica = self }) (asked self code)
    unfolding asked balance_rows
    balance-done h p at =
        let zero : answer_of (balance_rows self code) ≡ 0 =
        passes-by Meaning.state _ _ (ap not law) ∙ passes-by Meaning.shop _ _ (ap not (is-listed ∙ h)) ∙ no_rows in
        ap (λ q. record { answer = 0; count = 0; balance = (shop_at self q).balance; replica = self }) (at ∙ ap (position self.register) is_code) ∙ sym (rw (zero, asked))
