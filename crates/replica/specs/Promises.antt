-- What is promised of the steps beside each call's own statement. The proofs are in proofs/Promises.
use Rattle.std.specs.Prelude.{◌≡◌, true, false, List, [], ◌∷◌, ℕ, suc, ◌+◌, ◌≤◌, ◌<◌, eqb, length, take}
use Rattle.texts.specs.Register.{register_in}
use Rattle.texts.specs.Slip.{slip_in}
use Rattle.texts.specs.Answers.{numbers_of}
use Rattle.texts.specs.Promises.{SaidOnce}
use Rattle.texts.specs.declared.slip.Slip.{Slip}
use Rattle.replica.specs.declared.record.Replica.{Replica}
use Rattle.replica.specs.Outcome.{Outcome, count_said, balance_said, open_said}
use Rattle.replica.specs.Bounds.{list_room}
use Rattle.replica.specs.Record.{no_replica, shop_count, shop_at, line_at, waiting_at, sum_to}
use Rattle.replica.specs.Slips.{waiting_of, slip_of, slip_at}
use Rattle.replica.specs.Checks.{passes}
use Rattle.replica.specs.State.{lawful}
use Rattle.replica.specs.Settle.{ready, apply, NoneReady, settled, applying}
use Rattle.replica.specs.Open.{opened}
use Rattle.replica.specs.Take.{slip_from, payer_of, take_rows, taken, taken_list}
use Rattle.replica.specs.Issue.{issue_rows, issued, issued_buffer}
use Rattle.replica.specs.Balance.{balance_rows, asked}

-- ---- "Take: 13, 11, 1, 4, 2, 3, 5, 6, 7. Issue: 13, 11, 2, 3, 4, 8, 10, 9. Balance: 13, 2."

abbrev pub TakeOrder : Type 0
TakeOrder = (self : Replica) (text list : List ℕ) → numbers_of (take_rows self text list) ≡ 13 ∷ 11 ∷ 1 ∷ 4 ∷ 2 ∷ 3 ∷ 5 ∷ 6 ∷ 7 ∷ []

abbrev pub IssueOrder : Type 0
IssueOrder =
    (self : Replica) (payee : List ℕ) (amount : ℕ) (buffer : List ℕ) → numbers_of (issue_rows self payee amount buffer) ≡ 13 ∷ 11 ∷ 2 ∷ 3 ∷ 4 ∷ 8 ∷ 10 ∷ 9 ∷ []

abbrev pub BalanceOrder : Type 0
BalanceOrder = (self : Replica) (code : List ℕ) → numbers_of (balance_rows self code) ≡ 13 ∷ 2 ∷ []

-- ---- what is said of a reply determines it: its number, its count or balance, and its state

abbrev pub CountSaidOnce : Type 0
CountSaidOnce = SaidOnce count_said

abbrev pub BalanceSaidOnce : Type 0
BalanceSaidOnce = SaidOnce balance_said

abbrev pub OpenSaidOnce : Type 0
OpenSaidOnce = SaidOnce open_said

-- ---- settling

-- "Stop when no shop has a ready slip."
abbrev pub SettlesToTheEnd : Type 0
SettlesToTheEnd = (self : Replica) (p : ℕ) → p < shop_count self → ready (settled self) p ≡ false

-- How often a position stands in a list.
unfoldable pub times : ℕ → List ℕ → ℕ
times q [] = 0
times q (p ∷ list) = elim (eqb p q) [ true ↦ suc (times q list) | false ↦ times q list ]

-- The listed positions are the rise in applied numbers, shop by shop.
abbrev pub RisesAsListed : Type 0
RisesAsListed = (self : Replica) → lawful self ≡ true → (q : ℕ) → q < shop_count self → (shop_at (settled self) q).applied ≡ (shop_at self q).applied + times q (applying self)

-- "one that invents the applied count (it equals the listed positions and the rise in applied numbers)": of a take with answer 0 the listed
-- positions, as many as the count says, are the rise in applied numbers, shop by shop and in all.
pub record CountsRise (self : Replica) (o : Outcome) (list : List ℕ) : Type 0 where
  pub each : (q : ℕ) → q < shop_count self → (shop_at o.replica q).applied ≡ (shop_at self q).applied + times q (take o.count list)
  pub all : sum_to (shop_count self) (λ q. (shop_at o.replica q).applied) ≡ sum_to (shop_count self) (λ q. (shop_at self q).applied) + o.count

abbrev pub TakeCounts : Type 0
TakeCounts = (self : Replica) (text list : List ℕ) → (taken self text list).answer ≡ 0 → CountsRise self (taken self text list) (taken_list self text list)

-- No take applies more slips than a list of 128 bytes has places.
abbrev pub CountAtMost : Type 0
CountAtMost = (self : Replica) (text list : List ℕ) → (taken self text list).count ≤ list_room

-- Slips applied in any order, each ready at its time.
pub data Applies : Replica → List ℕ → Replica → Type 0 where
  none : {self : Replica} → Applies self [] self
  next : {self end : Replica} {p : ℕ} {list : List ℕ} → p < shop_count self → ready self p ≡ true → Applies (apply self p) list end → Applies self (p ∷ list) end

-- Whichever order it was, where nothing is ready at the end the end is settling's.
abbrev pub AnyOrderEndsSo : Type 0
AnyOrderEndsSo =
    (self end : Replica) (list : List ℕ) → lawful self ≡ true → Applies self list end → NoneReady end (shop_count end) → end ≡ settled self

-- ---- the state rule is kept

abbrev pub OpensLawful : Type 0
OpensLawful = (text : List ℕ) → (opened text).answer ≡ 0 → lawful (opened text).replica ≡ true

abbrev pub TakesLawful : Type 0
TakesLawful = (self : Replica) (text list : List ℕ) → lawful self ≡ true → lawful (taken self text list).replica ≡ true

abbrev pub IssuesLawful : Type 0
IssuesLawful = (self : Replica) (payee : List ℕ) (amount : ℕ) (buffer : List ℕ) → lawful self ≡ true → lawful (issued self payee amount buffer).replica ≡ true

-- Asking a balance changes nothing.
abbrev pub AsksSame : Type 0
AsksSame = (self : Replica) (code : List ℕ) → (asked self code).replica ≡ self

-- ---- "A refused register gives a record of zeros, which every call refuses with 13": the zeros break the state rule

abbrev pub RefusedGivesZeros : Type 0
RefusedGivesZeros = (text : List ℕ) → ((opened text).answer ≡ 0 → ⊥) → (opened text).replica ≡ no_replica

abbrev pub ZerosUnlawful : Type 0
ZerosUnlawful = lawful no_replica ≡ false

-- The empty text is refused.
abbrev pub EmptyRegisterRefused : Type 0
EmptyRegisterRefused = (opened []).answer ≡ 1

-- ---- a text counts by the register or slip that it carries, if any

abbrev pub SameRegisterOpensAlike : Type 0
SameRegisterOpensAlike = (s t : List ℕ) → register_in s ≡ register_in t → opened s ≡ opened t

abbrev pub SameSlipTakenAlike : Type 0
SameSlipTakenAlike =
    (self : Replica) (s t list : List ℕ) → slip_in s ≡ slip_in t → (taken self s list ≡ taken self t list) × (taken_list self s list ≡ taken_list self t list)

-- ---- "A refusal returns its number with count and balance 0; the state comes back as it went in and lent bytes keep their values."

pub record Kept (self : Replica) (o : Outcome) (lent after : List ℕ) : Type 0 where
  pub count : o.count ≡ 0
  pub balance : o.balance ≡ 0
  pub state : o.replica ≡ self
  pub bytes : after ≡ lent

abbrev pub TakeRefusalKeeps : Type 0
TakeRefusalKeeps =
    (self : Replica) (text list : List ℕ) → ((taken self text list).answer ≡ 0 → ⊥) → Kept self (taken self text list) list (taken_list self text list)

abbrev pub IssueRefusalKeeps : Type 0
IssueRefusalKeeps =
    (self : Replica) (payee : List ℕ) (amount : ℕ) (buffer : List ℕ) → ((issued self payee amount buffer).answer ≡ 0 → ⊥)
    → Kept self (issued self payee amount buffer) buffer (issued_buffer self payee amount buffer)

-- ---- "Who can refuse whom"

-- Two lawful states that agree on the register and on the number taken in of the slip's payer, and lists that are large enough.
pub record Alike (a b : Replica) (text xs ys : List ℕ) : Type 0 where
  pub lawful_a : lawful a ≡ true
  pub lawful_b : lawful b ≡ true
  pub room_a : list_room ≤ length xs
  pub room_b : list_room ≤ length ys
  pub register : a.register ≡ b.register
  pub taken : (shop_at a (payer_of a (slip_from text))).taken ≡ (shop_at b (payer_of b (slip_from text))).taken

-- "answers 1 to 6 of a take rest on the register, the slip and the payer's taken number only"
abbrev pub OneToSixAlike : Type 0
OneToSixAlike =
    (a b : Replica) (text xs ys : List ℕ) → Alike a b text xs ys → (k : ℕ) → 1 ≤ k → k ≤ 6
    → ((taken a text xs).answer ≡ k → (taken b text ys).answer ≡ k) × ((taken b text ys).answer ≡ k → (taken a text xs).answer ≡ k)

-- "Answer 7 rests besides on the payer's waiting count. Another shop's waiting slips fill no place of the payer's."
abbrev pub SevenAlike : Type 0
SevenAlike =
    (a b : Replica) (text xs ys : List ℕ) → Alike a b text xs ys
    → (line_at a (payer_of a (slip_from text))).count ≡ (line_at b (payer_of b (slip_from text))).count → (taken a text xs).answer ≡ (taken b text ys).answer

-- ---- a waiting slip by position stands for the slip, one for one

abbrev pub SlipsComeBack : Type 0
SlipsComeBack = (self : Replica) (s : Slip) → lawful self ≡ true → passes self.register s ≡ true → slip_of self.register (waiting_of self.register s) ≡ s

abbrev pub WaitingComesBack : Type 0
WaitingComesBack =
    (self : Replica) → lawful self ≡ true → (p k : ℕ) → p < shop_count self → k < (line_at self p).count → waiting_of self.register (slip_at self p k) ≡ waiting_at self p k
