-- "State rule. A saved state is the replica's own record, handed in as a value."
use Rattle.std.specs.Prelude.{◌≡◌, Bool, true, ◌&&◌, List, [], ◌∷◌, ℕ, ◌+◌, ◌≤◌, length, drop, leb, eqb}
use Rattle.texts.specs.Bounds.{most, most_shops}
use Rattle.texts.specs.Bytes.{all_of}
use Rattle.texts.specs.Register.{opening, register_answer}
use Rattle.replica.specs.declared.record.Shop.{Shop}
use Rattle.replica.specs.declared.record.Waiting.{Waiting}
use Rattle.replica.specs.declared.record.Line.{Line}
use Rattle.replica.specs.declared.record.Replica.{Replica}
use Rattle.replica.specs.Bounds.{most_credit, most_waiting}
use Rattle.replica.specs.Record.{listed_at, shop_count, own, shop_at, line_at, waiting_at, sum_to, every}
use Rattle.replica.specs.Slips.{slip_at}
use Rattle.replica.specs.Checks.{passes}

-- Every test of the list passes.
unfoldable pub all_true : List Bool → Bool
all_true [] = true
all_true (b ∷ bs) = b && all_true bs

-- ---- "unused places of the record are zero"

-- An array of so many places, of which those from n on are zero.
abbrev pub zero_from : {A : Type 0} → ℕ → (A → Bool) → ℕ → List A → Bool
zero_from places is_zero n xs = eqb (length xs) places && all_of is_zero (drop n xs)

abbrev pub zero_shop : Shop → Bool
zero_shop s = eqb s.balance 0 && (eqb s.taken 0 && (eqb s.applied 0 && eqb s.mark 0))

abbrev pub zero_waiting : Waiting → Bool
zero_waiting w = eqb w.payer 0 && (eqb w.number 0 && (eqb w.payee 0 && (eqb w.amount 0 && zero_from most_shops (eqb 0) 0 w.needs)))

abbrev pub zero_line : Line → Bool
zero_line l = eqb l.count 0 && zero_from most_waiting zero_waiting 0 l.slips

-- The line's unused places, and in its slips the numbers of shops that there are not.
abbrev pub rest_zero : ℕ → Line → Bool
rest_zero n l = zero_from most_waiting zero_waiting l.count l.slips && all_of (λ (w : Waiting). zero_from most_shops (eqb 0) n w.needs) l.slips

-- ---- the clauses

-- "each shop has at most 8 waiting", "and its taken number is applied + waiting and at most 999,999"
unfoldable pub line_kept : Replica → ℕ → Bool
line_kept self p =
    leb (line_at self p).count most_waiting &&
    (eqb (shop_at self p).taken ((shop_at self p).applied + (line_at self p).count) && leb (shop_at self p).taken most)

-- "numbered on from applied + 1"
unfoldable pub numbered_on : Replica → ℕ → Bool
numbered_on self p = every (line_at self p).count (λ k. eqb (waiting_at self p k).number ((shop_at self p).applied + 1 + k))

-- "each waiting slip is paid by that shop"
unfoldable pub paid_by_shop : Replica → ℕ → Bool
paid_by_shop self p = every (line_at self p).count (λ k. eqb (waiting_at self p k).payer p)

-- "and would pass checks 1 (as a value to write), 4, 2, 3 and 5"
unfoldable pub slips_pass : Replica → ℕ → Bool
slips_pass self p = every (line_at self p).count (λ k. passes self.register (slip_at self p k))

unfoldable pub lawful : Replica → Bool
lawful self =
    all_true (
    -- "A legal register of 1 to 16 shops"
    eqb (register_answer self.register) 0 ∷
    -- "unused places of the record are zero"
    zero_from most_shops zero_shop (shop_count self) self.shops ∷
    zero_from most_shops zero_line (shop_count self) self.lines ∷
    every (shop_count self) (λ p. rest_zero (shop_count self) (line_at self p)) ∷
    -- "balances add up to the openings"
    eqb (sum_to (shop_count self) (λ p. (shop_at self p).balance)) (sum_to (shop_count self) (λ p. opening (listed_at self.register p))) ∷
    every (shop_count self) (line_kept self) ∷
    every (shop_count self) (numbered_on self) ∷
    every (shop_count self) (paid_by_shop self) ∷
    every (shop_count self) (slips_pass self) ∷
    -- "marks are at most that shop's applied number and the own shop's mark is 0"
    every (shop_count self) (λ p. leb (shop_at self p).mark (shop_at self p).applied) ∷
    eqb (shop_at self (own self)).mark 0 ∷
    -- "the issued number is at most 999,999 and at most own applied + 1"
    leb self.issued most ∷
    leb self.issued ((shop_at self (own self)).applied + 1) ∷
    [])

-- "The sum of balances is at most 15,999,984": it is no clause, since it follows (proofs/Most).
abbrev pub SumAtMost : Type 0
SumAtMost = (self : Replica) → lawful self ≡ true → sum_to (shop_count self) (λ p. (shop_at self p).balance) ≤ most_credit
