-- A waiting slip by position and the slip itself: "dependencies are written as one number per shop".
use Rattle.std.specs.Prelude.{true, false, List, [], ◌∷◌, ◌++◌, map, ℕ, zero, suc, ◌+◌, ◌-◌, length, replicate}
use Rattle.texts.specs.Bounds.{most_shops}
use Rattle.texts.specs.Code.{same_code}
use Rattle.texts.specs.Entries.{no_entry}
use Rattle.texts.specs.Register.{position}
use Rattle.texts.specs.Slip.{deps_of}
use Rattle.texts.specs.declared.code.Code.{Code}
use Rattle.texts.specs.declared.entry.Entry.{Entry}
use Rattle.texts.specs.declared.register.Register.{Register}
use Rattle.texts.specs.declared.slip.Slip.{Slip}
use Rattle.replica.specs.declared.record.Waiting.{Waiting}
use Rattle.replica.specs.declared.record.Replica.{Replica}
use Rattle.replica.specs.Record.{listed_at, line_at, waiting_at}

-- ---- from the slip

-- The number of the dependency on that shop, 0 where there is none.
unfoldable pub number_for : List Entry → Code → ℕ
number_for [] c = 0
number_for (d ∷ ds) c = elim (same_code c d.code) [ true ↦ d.number | false ↦ number_for ds c ]

unfoldable pub waiting_of : Register → Slip → Waiting
waiting_of r s =
    record {
      payer = position r s.payer;
      number = s.number;
      payee = position r s.payee;
      amount = s.amount;
      needs = map (λ (l : Entry). number_for (deps_of s) l.code) r.shops;
    }

-- ---- to the slip

-- One dependency per number that is not 0, in rising position.
unfoldable pub deps_from : List Entry → List ℕ → List Entry
deps_from [] ns = []
deps_from (l ∷ ls) [] = []
deps_from (l ∷ ls) (zero ∷ ns) = deps_from ls ns
deps_from (l ∷ ls) (suc n ∷ ns) = record { code = l.code; number = suc n } ∷ deps_from ls ns

-- A slip with these dependencies, the other places zero.
abbrev pub slip_with : Code → ℕ → Code → ℕ → List Entry → Slip
slip_with payer number payee amount ds =
    record { payer = payer; number = number; payee = payee; amount = amount; count = length ds; deps = ds ++ replicate (most_shops - length ds) no_entry }

unfoldable pub slip_of : Register → Waiting → Slip
slip_of r w =
    slip_with (listed_at r w.payer).code w.number (listed_at r w.payee).code w.amount (deps_from r.shops w.needs)

-- The slip at place k of the line of shop p.
abbrev pub slip_at : Replica → ℕ → ℕ → Slip
slip_at self p k = slip_of self.register (waiting_at self p k)

-- f 0, f 1, and so on: the first so many of them.
unfoldable pub firsts : {A : Type 0} → ℕ → (ℕ → A) → List A
firsts zero f = []
firsts (suc k) f = f 0 ∷ firsts k (λ i. f (i + 1))

-- The slips that wait for shop p, first to last.
abbrev pub waiting_slips : Replica → ℕ → List Slip
waiting_slips self p = firsts (line_at self p).count (slip_at self p)
