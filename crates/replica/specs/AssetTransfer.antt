-- The asset transfer type of "AT2" (section 2.2), and what a terminal applied as a history of it.
use Rattle.std.specs.Prelude.{◌≡◌, ◌≢◌, Bool, true, false, List, [], ◌∷◌, ◌++◌, map, ℕ, zero, suc, ◌+◌, ◌-◌, ◌≤◌, ◌<◌, eqb}
use Rattle.texts.specs.Code.{code_of}
use Rattle.texts.specs.Register.{opening, position}
use Rattle.texts.specs.declared.register.Register.{Register}
use Rattle.texts.specs.declared.slip.Slip.{Slip}
use Rattle.replica.specs.declared.record.Replica.{Replica}
use Rattle.replica.specs.Record.{listed_at, shop_count, shop_at}
use Rattle.replica.specs.Slips.{slip_at}
use Rattle.replica.specs.Settle.{apply, applying}
use Rattle.replica.specs.Take.{slip_from, entered, taken}
use Rattle.replica.specs.Balance.{asked}
use Rattle.replica.specs.Calls.{Call, take, issue, balance, after}
use Rattle.replica.specs.Demand.{Terminal, start, now, applied_of}

-- ---- the type: accounts are the numbers below n, processes are numbers, `owns a p` is "p ∈ μ(a)"

-- "the set of all possible maps q : 𝒜 → ℕ"
abbrev pub Balances : Type 0
Balances = ℕ → ℕ

-- "q' = q"
abbrev pub Same : ℕ → Balances → Balances → Type 0
Same n q q' = (c : ℕ) → c < n → q' c ≡ q c

-- "transfer(a, b, x)", "read(a)"
pub data Operation : Type 0 where
  transfer : (a b x : ℕ) → Operation
  read : (a : ℕ) → Operation

-- "R = {true, false} ∪ ℕ"
pub data Response : Type 0 where
  said : Bool → Response
  told : ℕ → Response

module _ (n : ℕ) (owns : ℕ → ℕ → Type 0) where
  -- Δ: state, process, operation, new state, response
  pub data Step : Balances → ℕ → Operation → Balances → Response → Type 0 where
    succeeds :
        {q q' : Balances} {p a b x : ℕ} → a < n → b < n → owns a p → x ≤ q a → q' a ≡ q a - x → q' b ≡ q b + x
        → ((c : ℕ) → c < n → c ≢ a → c ≢ b → q' c ≡ q c) → Step q p (transfer a b x) q' (said true)
    not-owner : {q q' : Balances} {p a b x : ℕ} → a < n → b < n → (owns a p → ⊥) → Same n q q' → Step q p (transfer a b x) q' (said false)
    too-little : {q q' : Balances} {p a b x : ℕ} → a < n → b < n → q a < x → Same n q q' → Step q p (transfer a b x) q' (said false)
    reads : {q q' : Balances} {p a : ℕ} → a < n → Same n q q' → Step q p (read a) q' (told (q a))

  -- One operation of a sequential history: the process, what it invoked, the response.
  pub record Event : Type 0 where
    pub process : ℕ
    pub operation : Operation
    pub response : Response

  -- "legal": there are states q₁, q₂, .. that the operations lead through, one after the other; here with the last of them.
  pub data Legal : Balances → List Event → Balances → Type 0 where
    nothing : {q q' : Balances} → Same n q q' → Legal q [] q'
    next : {q q₁ q' : Balances} {e : Event} {events : List Event} → Step q e.process e.operation q₁ e.response → Legal q₁ events q' → Legal q (e ∷ events) q'

-- ---- a terminal's run as a history: each shop has one account, at its position, and owns it alone

abbrev pub Owns : ℕ → ℕ → Type 0
Owns a p = a ≡ p

-- The slips in the order in which they were applied, each with its payer's position.
pub record Applied : Type 0 where
  pub payer : ℕ
  pub slip : Slip

unfoldable pub along : Replica → List ℕ → List Applied
along self [] = []
along self (p ∷ list) = record { payer = p; slip = slip_at self p 0 } ∷ along (apply self p) list

unfoldable pub in_call : Replica → Call → List Applied
in_call self (take text list) =
    elim (taken self text list).answer [ zero ↦ along (entered self (slip_from text)) (applying (entered self (slip_from text))) | suc n ↦ [] ]
in_call self (issue payee amount buffer) = []
in_call self (balance code) = []

unfoldable pub in_calls : Replica → List Call → List Applied
in_calls self [] = []
in_calls self (c ∷ cs) = in_call self c ++ in_calls (after self c) cs

-- Those of the shop at position p.
unfoldable pub of_shop : ℕ → List Applied → List Slip
of_shop p [] = []
of_shop p (a ∷ l) = elim (eqb a.payer p) [ true ↦ a.slip ∷ of_shop p l | false ↦ of_shop p l ]

-- A successful transfer out of the account of the slip's payer, by the shop in whose line the slip stood.
abbrev pub transferred : (n : ℕ) → Register → Applied → Event n Owns
transferred n r a =
    record {
      process = a.payer;
      operation = transfer (position r a.slip.payer) (position r a.slip.payee) a.slip.amount;
      response = said true;
    }

abbrev pub balances_of : Replica → Balances
balances_of self p = (shop_at self p).balance

abbrev pub openings_of : Register → Balances
openings_of r p = opening (listed_at r p)

-- The slips that were applied, in their order, are successful transfers of a legal sequential history from the openings, each by the owner
-- of the account debited; the balances are its last state.
abbrev pub AppliedIsLegal : Type 0
AppliedIsLegal =
    (t : Terminal) → let r = (start t).register in let n = shop_count (start t) in
    Legal n Owns (openings_of r) (map (transferred n r) (in_calls (start t) t.calls)) (balances_of (now t))

-- They are the very slips that demand 3 speaks of.
abbrev pub AppliedByShop : Type 0
AppliedByShop = (t : Terminal) (p : ℕ) → p < shop_count (start t) → of_shop p (in_calls (start t) t.calls) ≡ applied_of t p

-- Asking a balance is the type's read, whoever asks.
abbrev pub AskingIsReading : Type 0
AskingIsReading =
    (t : Terminal) (code : List ℕ) (asker : ℕ) → (asked (now t) code).answer ≡ 0
    → Step (shop_count (start t)) Owns (balances_of (now t)) asker (read (position (start t).register (code_of code))) (balances_of (now t)) (told (asked (now t) code).balance)
