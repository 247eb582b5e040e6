-- The algorithm of "AT2" (section 3, figure 4) with its own variables, and how a terminal is one of its processes.
--
-- Not as printed (docs/DECISIONS, "Figure 4"):
-- 1. Line 37 starts from the opening credit.
-- 2. Line 35 is asked over the histories of all accounts; where every named transfer pays the payer the two readings of it are one
--    (`ReadyIsValidAsPrinted`).
-- 3. The set h is written as one number per shop; `Stands` says which sets such numbers stand for.
-- 4. A validated transfer leaves to_validate (the figure's toValidate), which never shrinks in print; it is kept per process in the order of
--    delivery, and the first of each is looked at: no later one is valid (`OnlyFirstIsValid`).
-- 5. hist and deps, sets in print, are lists in the order of entering; a transfer enters each once.
-- 6. The sender q of line 16 is the payer on the slip, for which the carrier vouches. Only slips that take accepts are delivered, and only
--    what issue accepts is broadcast.
-- Left out: lines 14, 28 and 29, what the caller is told. Line 15 is `BalanceIsRead`.
use Rattle.std.specs.Prelude.{◌≡◌, ◌⊎◌, true, false, List, [], ◌∷◌, ◌++◌, map, ℕ, zero, suc, ◌+◌, ◌≤◌, ◌<◌, drop, eqb}
use Rattle.texts.specs.Code.{code_of}
use Rattle.texts.specs.Register.{opening, position}
use Rattle.texts.specs.Slip.{deps_of}
use Rattle.texts.specs.declared.register.Register.{Register}
use Rattle.texts.specs.declared.slip.Slip.{Slip}
use Rattle.replica.specs.declared.record.Replica.{Replica}
use Rattle.replica.specs.Record.{listed_at, shop_count, own, shop_at, line_at}
use Rattle.replica.specs.Slips.{number_for, slip_at, waiting_slips}
use Rattle.replica.specs.Settle.{ready, apply}
use Rattle.replica.specs.Open.{opened}
use Rattle.replica.specs.Take.{slip_from, payer_of, entered, take_answer}
use Rattle.replica.specs.Issue.{issue_answer, issued_slip, issuing}
use Rattle.replica.specs.Balance.{asked}
use Rattle.replica.specs.Demand.{Terminal, now}

-- ---- transfers and messages

-- "(c, d, y, s)": from account c to account d the amount y, the s-th transfer of c
pub record Transfer : Type 0 where
  pub c : ℕ
  pub d : ℕ
  pub y : ℕ
  pub s : ℕ

-- "[t, h]", h written as one number per shop
pub record Message : Type 0 where
  pub t : Transfer
  pub needs : ℕ → ℕ

-- A transfer is one of a list; a list has the k-th transfer of r.
pub data OneOf (t : Transfer) : List Transfer → Type 0 where
  here : {l : List Transfer} → OneOf t (t ∷ l)
  there : {u : Transfer} {l : List Transfer} → OneOf t l → OneOf t (u ∷ l)

abbrev pub Has : List Transfer → ℕ → ℕ → Type 0
Has l r k = (t : Transfer) × OneOf t l × (t.c ≡ r) × (t.s ≡ k)

-- A dependency set h, by its transfers' payers and numbers ("merely their identifiers"): `h r k` says that the k-th transfer of r is in it.
abbrev pub Named : Type 1
Named = ℕ → ℕ → Type 0

-- "n applied means all before it are too; this stands for the source's dependency set": which sets one number per shop stands for. It names of
-- each shop no later transfer than its number, and the one of that number itself.
pub record Stands (n : ℕ) (needs : ℕ → ℕ) (h : Named) : Type 0 where
  pub inside : (r k : ℕ) → h r k → r < n
  pub upto : (r k : ℕ) → h r k → (1 ≤ k) × (k ≤ needs r)
  pub last : (r : ℕ) → r < n → 1 ≤ needs r → h r (needs r)

-- One such set is "r's first n slips" for each of its numbers.
abbrev pub first_slips : ℕ → (ℕ → ℕ) → Named
first_slips n needs r k = (r < n) × (1 ≤ k) × (k ≤ needs r)

abbrev pub FirstSlipsStand : Type 0
FirstSlipsStand = (n : ℕ) (needs : ℕ → ℕ) → Stands n needs (first_slips n needs)

-- ---- "Local variables"

pub record Locals : Type 0 where
  pub seq : ℕ → ℕ
  pub rec : ℕ → ℕ
  pub hist : ℕ → List Transfer
  pub deps : List Transfer
  -- per process, in the order of delivery
  pub to_validate : ℕ → List Message

abbrev pub initially : Locals
initially = record { seq = λ _. 0; rec = λ _. 0; hist = λ _. []; deps = []; to_validate = λ _. [] }

-- "f[p] := v"
unfoldable pub put : {A : Type 0} → ℕ → A → (ℕ → A) → ℕ → A
put p v f q = elim (eqb q p) [ true ↦ v | false ↦ f q ]

-- ---- the lines of figure 4, in its order but for the last two, which Valid needs

-- lines 36 and 37, the sums of incoming and of outgoing transfers
unfoldable pub incoming : ℕ → List Transfer → ℕ
incoming a [] = 0
incoming a (t ∷ h) = elim (eqb t.d a) [ true ↦ t.y | false ↦ 0 ] + incoming a h

unfoldable pub outgoing : ℕ → List Transfer → ℕ
outgoing a [] = 0
outgoing a (t ∷ h) = elim (eqb t.c a) [ true ↦ t.y | false ↦ 0 ] + outgoing a h

-- "balance(a, h) ≥ y", from the opening credit, added and never taken away
abbrev pub Covers : ℕ → ℕ → List Transfer → ℕ → Type 0
Covers opening a h y = outgoing a h + y ≤ opening + incoming a h

-- The last transfer of r in a set of them, 0 where there is none.
unfoldable pub last_of : List Transfer → ℕ → ℕ
last_of [] r = 0
last_of (t ∷ l) r = elim (last_of l r) [ zero ↦ elim (eqb t.c r) [ true ↦ t.s | false ↦ 0 ] | suc k ↦ suc k ]

-- line 12: what process p broadcasts, "deps" as one number per shop; line 13: "deps := ∅"
abbrev pub broadcast : ℕ → ℕ → ℕ → Locals → Message
broadcast p b x l = record { t = record { c = p; d = b; y = x; s = l.seq p + 1 }; needs = last_of l.deps }

unfoldable pub cleared : Locals → Locals
cleared l = record { seq = l.seq; rec = l.rec; hist = l.hist; deps = []; to_validate = l.to_validate }

-- lines 16 to 20: "deliver(q, m)"
unfoldable pub deliver : ℕ → Message → Locals → Locals
deliver q m l =
    elim (eqb m.t.s (l.rec q + 1)) [
      | true ↦ record {
        seq = l.seq;
        rec = put q (l.rec q + 1) l.rec;
        hist = l.hist;
        deps = l.deps;
        to_validate = put q (l.to_validate q ++ (m ∷ [])) l.to_validate;
      }
      | false ↦ l
    ]

-- lines 22 to 27 at process p, for the first pending message of q; "delivered (but not validated)": it is pending no more
unfoldable pub validated : ℕ → ℕ → Message → Locals → Locals
validated p q m l =
    let t = m.t in
    let out = put t.c (l.hist t.c ++ (t ∷ [])) l.hist in
    record {
      seq = put q t.s l.seq;
      rec = l.rec;
      hist = put t.d (out t.d ++ (t ∷ [])) out;
      deps = elim (eqb t.d p) [ true ↦ l.deps ++ (t ∷ []) | false ↦ l.deps ];
      to_validate = put q (drop 1 (l.to_validate q)) l.to_validate;
    }

-- lines 30 to 35: "Valid(q, t, h)", with what line 35 asks of each transfer that h names
pub record Valid (opening : ℕ → ℕ) (l : Locals) (known : Named) (q : ℕ) (t : Transfer) (h : Named) : Type 0 where
  pub line32 : q ≡ t.c
  pub line33 : t.s ≡ l.seq q + 1
  pub line34 : Covers (opening t.c) t.c (l.hist q) t.y
  pub line35 : (r k : ℕ) → h r k → known r k

-- "h ⊆ hist[q]", as printed
abbrev pub InHistoryOf : Locals → ℕ → Named
InHistoryOf l q r k = Has (l.hist q) r k

-- the same over the histories of all accounts
abbrev pub InSomeHistory : ℕ → Locals → Named
InSomeHistory n l r k = (a : ℕ) × (a < n) × Has (l.hist a) r k

-- ---- a terminal as a process of it

-- A slip as a transfer, and as a message.
abbrev pub transfer_of : Register → Slip → Transfer
transfer_of r s = record { c = position r s.payer; d = position r s.payee; y = s.amount; s = s.number }

abbrev pub message_of : Register → Slip → Message
message_of r s = record { t = transfer_of r s; needs = λ q. number_for (deps_of s) (listed_at r q).code }

-- The first waiting slip of the shop at q, as a message.
abbrev pub first_of : Replica → ℕ → Message
first_of self q = message_of self.register (slip_at self q 0)

-- Every state of a terminal since opening, those within settling too, with the variables of figure 4 beside it: taking is deliver, applying is
-- lines 21 to 27, issuing is lines 12 and 13. (Here a ready slip may be applied at any time, as in figure 4; settling is one order of it.)
pub data Moment : Replica → Locals → Type 0 where
  opens : (text : List ℕ) → (opened text).answer ≡ 0 → Moment (opened text).replica initially
  takes : {self : Replica} {l : Locals} → Moment self l → (text list : List ℕ) → take_answer self text list ≡ 0
      → Moment (entered self (slip_from text)) (deliver (payer_of self (slip_from text)) (message_of self.register (slip_from text)) l)
  applies : {self : Replica} {l : Locals} → Moment self l → (q : ℕ) → q < shop_count self → ready self q ≡ true
      → Moment (apply self q) (validated (own self) q (first_of self q) l)
  issues : {self : Replica} {l : Locals} → Moment self l → (payee : List ℕ) (amount : ℕ) (buffer : List ℕ) → issue_answer self payee amount buffer ≡ 0
      → Moment (issuing self) (cleared l)

-- Whatever calls are made, the terminal stands at such a moment.
abbrev pub RunsAsFigure4 : Type 0
RunsAsFigure4 = (t : Terminal) → (l : Locals) × Moment (now t) l

-- What the record holds is what figure 4's variables say.
pub record Follows (self : Replica) (l : Locals) : Type 0 where
  pub seq : (q : ℕ) → q < shop_count self → (shop_at self q).applied ≡ l.seq q
  pub rec : (q : ℕ) → q < shop_count self → (shop_at self q).taken ≡ l.rec q
  pub waits : (q : ℕ) → q < shop_count self → map (message_of self.register) (waiting_slips self q) ≡ l.to_validate q
  pub balance : (a : ℕ) → a < shop_count self → (shop_at self a).balance + outgoing a (l.hist a) ≡ opening (listed_at self.register a) + incoming a (l.hist a)
  pub marks : (q : ℕ) → q < shop_count self → (shop_at self q).mark ≡ last_of l.deps q

abbrev pub RecordFollows : Type 0
RecordFollows = (self : Replica) (l : Locals) → Moment self l → Follows self l

-- An accepted slip passes line 18.
abbrev pub TakingDelivers : Type 0
TakingDelivers =
    (self : Replica) (l : Locals) → Moment self l → (text list : List ℕ) → take_answer self text list ≡ 0
    → (slip_from text).number ≡ l.rec (payer_of self (slip_from text)) + 1

-- ---- ready is Valid

-- Each says the other.
abbrev pub Exactly : Type 0 → Type 0 → Type 0
Exactly a b = (a → b) × (b → a)

abbrev pub openings : Replica → ℕ → ℕ
openings self a = opening (listed_at self.register a)

-- Whichever set the slip's one number per shop stands for.
abbrev pub ReadyIsValid : Type 1
ReadyIsValid =
    (self : Replica) (l : Locals) → Moment self l → (q : ℕ) → q < shop_count self → 0 < (line_at self q).count
    → (h : Named) → Stands (shop_count self) (first_of self q).needs h
    → Exactly (ready self q ≡ true) (Valid (openings self) l (InSomeHistory (shop_count self) l) q (first_of self q).t h)

-- A message behind the first is not valid, whatever it names and whatever line 35 asks: line 33.
abbrev pub OnlyFirstIsValid : Type 1
OnlyFirstIsValid =
    (self : Replica) (l : Locals) → Moment self l → (q k : ℕ) → q < shop_count self → 0 < k → k < (line_at self q).count
    → (known h : Named) → Valid (openings self) l known q (message_of self.register (slip_at self q k)).t h → ⊥

-- Every transfer that h names, so far as it is known, pays q.
abbrev pub PaysTo : Locals → ℕ → Named → Type 0
PaysTo l q h = (r k : ℕ) → h r k → (t : Transfer) → OneOf t (l.hist r) → t.c ≡ r → t.s ≡ k → t.d ≡ q

abbrev pub ReadyIsValidAsPrinted : Type 1
ReadyIsValidAsPrinted =
    (self : Replica) (l : Locals) → Moment self l → (q : ℕ) → q < shop_count self → 0 < (line_at self q).count
    → (h : Named) → Stands (shop_count self) (first_of self q).needs h → PaysTo l q h
    → Exactly (ready self q ≡ true) (Valid (openings self) l (InHistoryOf l q) q (first_of self q).t h)

-- ---- issue is "transfer(a, b, x)" with a = p

pub record IssuesAs (self : Replica) (l : Locals) (b x : ℕ) (s : Slip) : Type 0 where
  -- line 10; deps are in hist[p], so "hist[p] ∪ deps" is hist[p]
  pub line10 : Covers (openings self (own self)) (own self) (l.hist (own self)) x
  pub union : (t : Transfer) → OneOf t l.deps → OneOf t (l.hist (own self))
  -- line 12
  pub sent : (message_of self.register s).t ≡ (broadcast (own self) b x l).t
  pub named : (r : ℕ) → r < shop_count self → (message_of self.register s).needs r ≡ (broadcast (own self) b x l).needs r
  -- the numbers stand for deps, and all that deps names pays the own shop
  pub stands : Stands (shop_count self) (message_of self.register s).needs (Has l.deps)
  pub pays_own : PaysTo l (own self) (Has l.deps)

abbrev pub IssueIsTransfer : Type 0
IssueIsTransfer =
    (self : Replica) (l : Locals) → Moment self l → (payee : List ℕ) (amount : ℕ) (buffer : List ℕ) → issue_answer self payee amount buffer ≡ 0
    → IssuesAs self l (position self.register (code_of payee)) amount (issued_slip self payee amount)

-- "if balance(a, hist[p] ∪ deps) < x then return false": answer 9 is given only there.
abbrev pub ShortIsFalse : Type 0
ShortIsFalse =
    (self : Replica) (l : Locals) → Moment self l → (payee : List ℕ) (amount : ℕ) (buffer : List ℕ) → issue_answer self payee amount buffer ≡ 9
    → Covers (openings self (own self)) (own self) (l.hist (own self)) amount → ⊥

-- ---- asking a balance is "read(a)"

-- line 15: "balance(a, hist[a] ∪ deps)", and what deps has of an account is in its history.
pub record ReadsAs (self : Replica) (l : Locals) (a told : ℕ) : Type 0 where
  pub line15 : told + outgoing a (l.hist a) ≡ openings self a + incoming a (l.hist a)
  pub union : (t : Transfer) → OneOf t l.deps → (t.c ≡ a) ⊎ (t.d ≡ a) → OneOf t (l.hist a)

abbrev pub BalanceIsRead : Type 0
BalanceIsRead =
    (self : Replica) (l : Locals) → Moment self l → (code : List ℕ) → (asked self code).answer ≡ 0
    → ReadsAs self l (position self.register (code_of code)) (asked self code).balance
