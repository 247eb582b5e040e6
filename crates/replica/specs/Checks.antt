-- What is asked of a slip under a register: answers 1 (as a value), 4, 2, 3 and 5 of the table.
use Rattle.std.specs.Prelude.{Bool, true, not, ◌&&◌, ◌||◌, List, [], ◌∷◌, ℕ, suc, leb, ltb, eqb}
use Rattle.texts.specs.Bytes.{all_of}
use Rattle.texts.specs.Code.{same_code}
use Rattle.texts.specs.Answers.{Row, form, shop, oneself, range, deps, answer_of}
use Rattle.texts.specs.Register.{position, listed}
use Rattle.texts.specs.Slip.{slip_layout, deps_of}
use Rattle.texts.specs.declared.register.Register.{Register}
use Rattle.texts.specs.declared.entry.Entry.{Entry}
use Rattle.texts.specs.declared.slip.Slip.{Slip}

-- 1 form: the values to write do not fit the layout
abbrev pub form? : Slip → Bool
form? s = not (slip_layout.legal s)

-- 4 range: slip number, amount or a dependency's number is 0
unfoldable pub range? : Slip → Bool
range? s = eqb s.number 0 || (eqb s.amount 0 || not (all_of (λ (d : Entry). ltb 0 d.number) (deps_of s)))

-- 2 shop: a code is not in the register
unfoldable pub shop? : Register → Slip → Bool
shop? r s = not (listed r s.payer && (listed r s.payee && all_of (λ (d : Entry). listed r d.code) (deps_of s)))

-- 3 self: payee is payer
abbrev pub self? : Slip → Bool
self? s = same_code s.payee s.payer

-- "strictly rising register position and never name the payer": each from `least` on
unfoldable pub rising : Register → ℕ → ℕ → List Entry → Bool
rising r payer least [] = true
rising r payer least (d ∷ ds) =
    let p = position r d.code in
    leb least p && (not (eqb p payer) && rising r payer (suc p) ds)

-- 5 deps: dependencies out of order, twice, or naming the payer
unfoldable pub deps? : Register → Slip → Bool
deps? r s = not (rising r (position r s.payer) 0 (deps_of s))

-- 4, 2, 3 and 5, as take asks them of a slip that was read
abbrev pub check_rows : Register → Slip → List Row
check_rows r s = (range, range? s) ∷ (shop, shop? r s) ∷ (oneself, self? s) ∷ (deps, deps? r s) ∷ []

-- "checks 1 (as a value to write), 4, 2, 3 and 5"
abbrev pub slip_rows : Register → Slip → List Row
slip_rows r s = (form, form? s) ∷ check_rows r s

unfoldable pub passes : Register → Slip → Bool
passes r s = eqb (answer_of (slip_rows r s)) 0
