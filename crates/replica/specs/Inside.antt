-- What the crate's private functions promise one another: the state rule by position, and the parts of take, settle and issue. No public
-- promise rests on a word of it.
use Rattle.std.specs.Prelude.{◌≡◌, ◌≢◌, not, ◌||◌, List, [], ◌∷◌, ◌++◌, map, ℕ, zero, suc, ◌+◌, ◌-◌, ◌≤◌, ◌<◌, ltb, eqb, length, take, drop, get_or, replicate, All, sum_by}
use Rattle.texts.specs.Answers.{Row, shop, oneself, range, number, full, busy, short, usedup, answer_of}
use Rattle.texts.specs.Bounds.{most_shops, most}
use Rattle.texts.specs.Code.{same_code}
use Rattle.texts.specs.Register.{opening, position, listed}
use Rattle.texts.specs.Slip.{deps_of}
use Rattle.texts.specs.Written.{over}
use Rattle.texts.specs.declared.code.Code.{Code}
use Rattle.texts.specs.declared.register.Register.{Register}
use Rattle.texts.specs.declared.entry.Entry.{Entry}
use Rattle.texts.specs.declared.slip.Slip.{Slip}
use Rattle.replica.specs.declared.record.Shop.{Shop}
use Rattle.replica.specs.declared.record.Waiting.{Waiting}
use Rattle.replica.specs.declared.record.Line.{Line}
use Rattle.replica.specs.declared.record.Replica.{Replica}
use Rattle.replica.specs.Bounds.{most_credit, most_waiting}
use Rattle.replica.specs.Record.{no_shop, no_waiting, no_line, shop_count, own, shop_at}
use Rattle.replica.specs.Checks.{check_rows}
use Rattle.replica.specs.Settle.{settled, applying}
use Rattle.replica.specs.Take.{number?, full?, entered}
use Rattle.replica.specs.Outcome.{Outcome, refused, did}

-- ---- the state rule, by position. An element past an array's end is what the checker has there.

-- The number that a payer's slip asks for at place i, of n shops.
pub record NeedKept (payer n i m : ℕ) : Type 0 where
  pub most : m ≤ most
  pub known : 0 < m → i < n
  pub other : 0 < m → i ≢ payer

pub record NeedsKept (payer n : ℕ) (needs : List ℕ) : Type 0 where
  pub places : length needs ≡ most_shops
  pub at : (i : ℕ) → i < most_shops → NeedKept payer n i (get_or needs i 0)

-- A slip that waits for a shop, of n, under a number.
pub record SlipKept (p n named : ℕ) (w : Waiting) : Type 0 where
  pub payer : w.payer ≡ p
  pub number : w.number ≡ named
  pub some : 1 ≤ w.amount
  pub most : w.amount ≤ most
  pub payee : w.payee < n
  pub other : w.payee ≢ p
  pub needs : NeedsKept p n w.needs

-- Slips that wait for it one after the other, from the number after applied on.
abbrev pub InTurn : ℕ → ℕ → ℕ → List Waiting → Type 0
InTurn payer n applied slips = (k : ℕ) (z : Waiting) → k < length slips → SlipKept payer n (applied + 1 + k) (get_or slips k z)

pub record LineKept (payer n applied : ℕ) (l : Line) : Type 0 where
  pub places : length l.slips ≡ most_waiting
  pub eight : l.count ≤ most_waiting
  pub used : InTurn payer n applied (take l.count l.slips)
  pub unused : All (λ w. w ≡ no_waiting) (drop l.count l.slips)

pub record NumbersKept (waits : ℕ) (s : Shop) : Type 0 where
  pub taken : s.taken ≡ s.applied + waits
  pub most : s.taken ≤ most
  pub mark : s.mark ≤ s.applied

pub record ShopKept (payer n : ℕ) (s : Shop) (l : Line) : Type 0 where
  pub numbers : NumbersKept l.count s
  pub line : LineKept payer n s.applied l

abbrev pub ShopsKept : List Shop → List Line → Type 0
ShopsKept ss ls = (p : ℕ) (s : Shop) (l : Line) → p < length ss → ShopKept p (length ss) (get_or ss p s) (get_or ls p l)

pub record OwnKept (issued : ℕ) (s : Shop) : Type 0 where
  pub mark : s.mark ≡ 0
  pub most : issued ≤ most
  pub next : issued ≤ s.applied + 1

-- The whole record, where its register is legal.
pub record RecordKept (self : Replica) : Type 0 where
  pub own_shop : OwnKept self.issued (shop_at self (own self))
  pub sums : sum_by (λ (s : Shop). s.balance) (take (shop_count self) self.shops) ≡ sum_by opening (take (shop_count self) self.register.shops)
  pub kept : ShopsKept (take (shop_count self) self.shops) (take (shop_count self) self.lines)
  pub unused_shops : All (λ s. s ≡ no_shop) (drop (shop_count self) self.shops)
  pub unused_lines : All (λ l. l ≡ no_line) (drop (shop_count self) self.lines)

-- ---- taking

-- The positions of a slip's dependencies in use, then zeros.
unfoldable pub dep_places : Register → Slip → List ℕ
dep_places r s = map (λ (d : Entry). position r d.code) (deps_of s) ++ replicate (most_shops - s.count) 0

-- What is left to ask of a slip that was read: 4, 2, 3, 5, then 6 and 7.
abbrev pub late_rows : Replica → Slip → List Row
late_rows self s = check_rows self.register s ++ ((number, number? self s) ∷ (full, full? self s) ∷ [])

unfoldable pub took_slip : Replica → Slip → Outcome
took_slip self s =
    elim (answer_of (late_rows self s)) [ zero ↦ did (length (applying (entered self s))) (settled (entered self s)) | suc n ↦ refused (suc n) self ]

unfoldable pub took_list : Replica → Slip → List ℕ → List ℕ
took_list self s list = elim (answer_of (late_rows self s)) [ zero ↦ over (applying (entered self s)) list | suc n ↦ list ]

-- ---- settling

-- The shops can move the slip's amount.
pub record Movable (shops : List Shop) (p : ℕ) (w : Waiting) : Type 0 where
  pub payer : p < most_shops
  pub payee : w.payee < most_shops
  pub other : w.payee ≡ p → ⊥
  pub funds : w.amount ≤ (get_or shops p no_shop).balance
  pub count : (get_or shops p no_shop).applied ≤ most
  pub room : (get_or shops w.payee no_shop).balance + w.amount ≤ most_credit

-- ---- issuing

abbrev pub marks_of : List Shop → List ℕ
marks_of shops = map (λ (s : Shop). s.mark) shops

-- What is left to ask when issuing: 2, 3, 4, 8, 10, 9.
abbrev pub ask_rows : Register → Shop → ℕ → ℕ → Code → ℕ → List Row
ask_rows r own waits issued payee amount =
    (shop, not (listed r payee)) ∷
    (oneself, same_code payee r.own) ∷
    (range, eqb amount 0 || ltb most amount) ∷
    (busy, ltb own.applied issued || ltb 0 waits) ∷
    (usedup, eqb own.applied most) ∷
    (short, ltb own.balance amount) ∷
    []
