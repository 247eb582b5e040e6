-- What the terminal holds: "Per shop the replica keeps: the number taken in, the number applied, the balance, the waiting slips in
-- number order, and a mark." Zeros, and how the parts are called below.
use Rattle.std.specs.Prelude.{Bool, true, ◌&&◌, List, [], ℕ, zero, suc, ◌+◌, get_or, set, replicate}
use Rattle.texts.specs.Bounds.{most_shops}
use Rattle.texts.specs.Register.{no_register, position}
use Rattle.texts.specs.declared.entry.Entry.{Entry}
use Rattle.texts.specs.declared.register.Register.{Register}
use Rattle.replica.specs.declared.record.Shop.{Shop}
use Rattle.replica.specs.declared.record.Waiting.{Waiting}
use Rattle.replica.specs.declared.record.Line.{Line}
use Rattle.replica.specs.declared.record.Replica.{Replica}
use Rattle.replica.specs.Bounds.{most_waiting}

-- ---- zeros

abbrev pub no_shop : Shop
no_shop = record { balance = 0; taken = 0; applied = 0; mark = 0 }

abbrev pub no_waiting : Waiting
no_waiting = record { payer = 0; number = 0; payee = 0; amount = 0; needs = replicate most_shops 0 }

abbrev pub no_line : Line
no_line = record { count = 0; slips = replicate most_waiting no_waiting }

abbrev pub no_replica : Replica
no_replica = record { register = no_register; issued = 0; shops = replicate most_shops no_shop; lines = replicate most_shops no_line }

-- ---- parts by position. Past an array's end stands what the checker has there; no answer rests on it.

abbrev pub listed_at : Register → ℕ → Entry
listed_at r p = get_or r.shops p (record { code = record { digits = []; len = 0 }; number = 0 })

abbrev pub shop_count : Replica → ℕ
shop_count self = self.register.count

abbrev pub own : Replica → ℕ
own self = position self.register self.register.own

abbrev pub shop_at : Replica → ℕ → Shop
shop_at self p = get_or self.shops p no_shop

abbrev pub line_at : Replica → ℕ → Line
line_at self p = get_or self.lines p (record { count = 0; slips = [] })

-- The waiting slip at place k of the line of shop p.
abbrev pub waiting_at : Replica → ℕ → ℕ → Waiting
waiting_at self p k = get_or (line_at self p).slips k (record { payer = 0; number = 0; payee = 0; amount = 0; needs = [] })

-- One shop's numbers changed.
abbrev pub adjust : (Shop → Shop) → ℕ → List Shop → List Shop
adjust f p ss = set ss p (f (get_or ss p no_shop))

-- ---- over the positions below n

unfoldable pub sum_to : ℕ → (ℕ → ℕ) → ℕ
sum_to zero f = 0
sum_to (suc n) f = sum_to n f + f n

unfoldable pub every : ℕ → (ℕ → Bool) → Bool
every zero test = true
every (suc n) test = every n test && test n
