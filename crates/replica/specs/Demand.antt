-- "Neither of you": whichever order the slips came in, the terminals agree.
--
-- Two replicas are opened from register texts, both with answer 0, on the same shops in the same order with the same opening credit; their own
-- shops may differ. Then any calls are made on each, refused ones among them. `taken_in` and `applied_in` (specs/Calls) are the slips that a
-- replica took in and applied, shop by shop.
use Rattle.std.specs.Prelude.{◌≡◌, List, [], ◌∷◌, ◌++◌, ℕ, ◌+◌, ◌<◌, ◌^◌, true, false}
use Rattle.texts.specs.Code.{same_code}
use Rattle.texts.specs.Register.{opening}
use Rattle.texts.specs.declared.code.Code.{Code}
use Rattle.texts.specs.declared.slip.Slip.{Slip}
use Rattle.replica.specs.declared.record.Replica.{Replica}
use Rattle.replica.specs.Record.{listed_at, shop_count, shop_at, line_at, sum_to}
use Rattle.replica.specs.Slips.{slip_at}
use Rattle.replica.specs.Open.{opened}
use Rattle.replica.specs.Calls.{Call, Lines, end, taken_in, applied_in}

-- A replica that was opened with answer 0, and the calls made on it.
pub record Terminal : Type 0 where
  pub text : List ℕ
  pub opens : (opened text).answer ≡ 0
  pub calls : List Call

abbrev pub start : Terminal → Replica
start t = (opened t.text).replica

abbrev pub now : Terminal → Replica
now t = end (start t) t.calls

abbrev pub took_of : Terminal → Lines
took_of t = taken_in (start t) t.calls

abbrev pub applied_of : Terminal → Lines
applied_of t = applied_in (start t) t.calls

-- "on the same shops in the same order with the same opening credit"
pub record SameShops (a b : Terminal) : Type 0 where
  pub count : (start a).register.count ≡ (start b).register.count
  pub shops : (start a).register.shops ≡ (start b).register.shops

-- l is a beginning of m; and so for every shop.
abbrev pub Begins : List Slip → List Slip → Type 0
Begins l m = (r : List Slip) × (l ++ r ≡ m)

abbrev pub AllBegin : ℕ → Lines → Lines → Type 0
AllBegin n s t = (p : ℕ) → p < n → Begins (s p) (t p)

-- "If for every shop the slips the first took in are the beginning of those the second took in, then for every shop the slips the first
-- applied are the beginning of those the second applied."
abbrev pub ArrivalOrderDoesNotMatter : Type 0
ArrivalOrderDoesNotMatter =
    (a b : Terminal) → SameShops a b → AllBegin (shop_count (start a)) (took_of a) (took_of b) → AllBegin (shop_count (start a)) (applied_of a) (applied_of b)

-- "If the slips taken in are equal shop by shop, so are balances and waiting slips", as slips and as the record's lines.
pub record SameAt (a b : Replica) (p : ℕ) : Type 0 where
  pub balance : (shop_at a p).balance ≡ (shop_at b p).balance
  pub waits : (line_at a p).count ≡ (line_at b p).count
  pub slips : (k : ℕ) → k < (line_at a p).count → slip_at a p k ≡ slip_at b p k
  pub line : line_at a p ≡ line_at b p

abbrev pub SameSlipsSameStates : Type 0
SameSlipsSameStates =
    (a b : Terminal) → SameShops a b → ((p : ℕ) → p < shop_count (start a) → took_of a p ≡ took_of b p) → (p : ℕ) → p < shop_count (start a) → SameAt (now a) (now b) p

-- "The applied slips of a shop are the first so many of its taken slips."
abbrev pub AppliedAreFirst : Type 0
AppliedAreFirst = (a : Terminal) (p : ℕ) → p < shop_count (start a) → Begins (applied_of a p) (took_of a p)

-- What a list of slips costs its payer, and what it brings a shop.
unfoldable pub paid_by : List Slip → ℕ
paid_by [] = 0
paid_by (s ∷ l) = s.amount + paid_by l

unfoldable pub received_by : Code → List Slip → ℕ
received_by c [] = 0
received_by c (s ∷ l) = elim (same_code s.payee c) [ true ↦ s.amount | false ↦ 0 ] + received_by c l

-- "no balance is below zero", said as the ledger: balance + paid = opening + received, over the applied slips.
abbrev pub Ledger : Type 0
Ledger =
    (a : Terminal) (p : ℕ) → p < shop_count (start a)
    → (shop_at (now a) p).balance + paid_by (applied_of a p)
    ≡ opening (listed_at (start a).register p) + sum_to (shop_count (start a)) (λ q. received_by (listed_at (start a).register p).code (applied_of a q))

-- Both sides of it, which are equal, are numbers of 64 bits.
abbrev pub LedgerFits : Type 0
LedgerFits = (a : Terminal) (p : ℕ) → p < shop_count (start a) → (shop_at (now a) p).balance + paid_by (applied_of a p) < 2 ^ 64

-- "balances add up to the opening credit"
abbrev pub Conserved : Type 0
Conserved =
    (a : Terminal) → sum_to (shop_count (start a)) (λ p. (shop_at (now a) p).balance) ≡ sum_to (shop_count (start a)) (λ p. opening (listed_at (start a).register p))
