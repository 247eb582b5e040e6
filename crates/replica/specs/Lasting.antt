-- What lasts: what the steps keep, every call keeps; nobody can spoil the front of another's line; two slips that wait for each other wait for ever.
use Rattle.std.specs.Prelude.{◌≡◌, ◌≢◌, true, List, ℕ, ◌<◌, get_or}
use Rattle.replica.specs.declared.record.Replica.{Replica}
use Rattle.replica.specs.Record.{shop_count, shop_at, line_at}
use Rattle.replica.specs.State.{lawful}
use Rattle.replica.specs.Settle.{first_waiting, ready, apply}
use Rattle.replica.specs.Take.{slip_from, entered, take_answer, taken}
use Rattle.replica.specs.Issue.{issue_answer, issuing}
use Rattle.replica.specs.Calls.{Call, end}

-- ---- what entering an accepted slip, applying a ready one and issuing keep, any calls keep

pub record StepsKeep (P : Replica → Type 0) : Type 0 where
  pub entering : (self : Replica) (text list : List ℕ) → take_answer self text list ≡ 0 → P self → P (entered self (slip_from text))
  pub applying : (self : Replica) (p : ℕ) → p < shop_count self → ready self p ≡ true → P self → P (apply self p)
  pub writing : (self : Replica) (payee : List ℕ) (amount : ℕ) (buffer : List ℕ) → issue_answer self payee amount buffer ≡ 0 → P self → P (issuing self)

abbrev pub CallsKeep : Type 1
CallsKeep = (P : Replica → Type 0) → StepsKeep P → (self : Replica) → P self → (calls : List Call) → P (end self calls)

-- ---- "A shop spends only its own credit, so nobody else can spoil the front of its line."

-- The ready first slip of the shop at p stays ready, whatever is done for other shops: their slips applied, any slip taken in, a slip issued.
pub record StaysReady (self : Replica) (p : ℕ) : Type 0 where
  pub others : (q : ℕ) → q < shop_count self → q ≢ p → ready self q ≡ true → ready (apply self q) p ≡ true
  pub taking : (text list : List ℕ) → take_answer self text list ≡ 0 → ready (entered self (slip_from text)) p ≡ true
  pub writing : (payee : List ℕ) (amount : ℕ) (buffer : List ℕ) → issue_answer self payee amount buffer ≡ 0 → ready (issuing self) p ≡ true

abbrev pub ReadyStays : Type 0
ReadyStays = (self : Replica) → lawful self ≡ true → (p : ℕ) → p < shop_count self → ready self p ≡ true → StaysReady self p

-- And the next slip that is taken in, whoever sent it, brings its turn.
abbrev pub ReadyIsApplied : Type 0
ReadyIsApplied =
    (self : Replica) → lawful self ≡ true → (p : ℕ) → p < shop_count self → ready self p ≡ true
    → (text list : List ℕ) → take_answer self text list ≡ 0 → (shop_at self p).applied < (shop_at (taken self text list).replica p).applied

-- ---- "both wait for ever"

-- The first slip of each of two shops depends on one of the other shop that is not applied.
pub record Crossed (self : Replica) (p q : ℕ) : Type 0 where
  pub waits_p : 0 < (line_at self p).count
  pub waits_q : 0 < (line_at self q).count
  pub on_q : (shop_at self q).applied < get_or (first_waiting self p).needs q 0
  pub on_p : (shop_at self p).applied < get_or (first_waiting self q).needs p 0

-- After any calls they stand as they stood: still first, still waiting for each other, nothing applied for either shop.
pub record SameFront (self then : Replica) (p : ℕ) : Type 0 where
  pub applied : (shop_at then p).applied ≡ (shop_at self p).applied
  pub first : first_waiting then p ≡ first_waiting self p

abbrev pub CrossedForEver : Type 0
CrossedForEver =
    (self : Replica) → lawful self ≡ true → (p q : ℕ) → p < shop_count self → q < shop_count self → Crossed self p q
    → (calls : List Call) → Crossed (end self calls) p q × SameFront self (end self calls) p × SameFront self (end self calls) q
