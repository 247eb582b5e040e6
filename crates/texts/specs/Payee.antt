-- Showing a payee: "given a register text and a slip text, the answer is the exact bytes of the payee's code".
use Rattle.std.specs.Prelude.{Bool, true, false, ◌&&◌, List, ◌++◌, ℕ, ◌+◌, length, take, drop, eqb}
use Rattle.std.proofs.Math.Option.{none, some}
use Rattle.texts.specs.Bytes.{bytes}
use Rattle.texts.specs.Layout.{joined}
use Rattle.texts.specs.Register.{shops_line, shop_line, position, listed, register_read}
use Rattle.texts.specs.Slip.{payer_line, slip_number_line, slip_in}
use Rattle.texts.specs.declared.code.Code.{Code}
use Rattle.texts.specs.declared.register.Register.{Register}
use Rattle.texts.specs.declared.slip.Slip.{Slip}

-- A part of the one text or of the other: which, where it starts, how many bytes.
pub record Part : Type 0 where
  pub of_register : Bool
  pub start : ℕ
  pub size : ℕ

-- What stands before the code of the shop at a position, in the register's text.
abbrev pub before_shop : Register → ℕ → List ℕ
before_shop r p = shops_line.text r.count ++ joined shop_line (take p r.shops) ++ bytes "shop="

-- What stands before the payee's code, in the slip's text.
abbrev pub before_payee : Slip → List ℕ
before_payee s = payer_line.text s.payer ++ slip_number_line.text s.number ++ bytes "payee="

-- Does the register's text, where it is not refused, list a code, and where does the code start there.
abbrev pub in_register : List ℕ → Code → Bool
in_register register c = eqb (register_read register).answer 0 && listed (register_read register).register c

abbrev pub start_in_register : List ℕ → Code → ℕ
start_in_register register c = let r = (register_read register).register in length (before_shop r (position r c))

-- "as the part of the register text where that shop is listed, otherwise as the part of the slip text. If the register would be
-- refused, it is the slip's part."
unfoldable pub payee_of : List ℕ → Slip → Part
payee_of register s =
    elim (in_register register s.payee) [
      | true ↦ record { of_register = true; start = start_in_register register s.payee; size = s.payee.len }
      | false ↦ record { of_register = false; start = length (before_payee s); size = s.payee.len }
    ]

-- "If the slip has answer 1, it is the empty part at the slip's start."
unfoldable pub payee_part : List ℕ → List ℕ → Part
payee_part register slip =
    elim (slip_in slip) [ none ↦ record { of_register = false; start = 0; size = 0 } | some s ↦ payee_of register s ]

-- ---- its bytes, and its place in memory

-- The text that it is a part of, and its bytes.
abbrev pub source : Part → List ℕ → List ℕ → List ℕ
source p register slip = elim p.of_register [ true ↦ register | false ↦ slip ]

abbrev pub shown : Part → List ℕ → List ℕ → List ℕ
shown p register slip = take p.size (drop p.start (source p register slip))

-- Where a part stands in memory, from where the two texts stand there.
abbrev pub placed : Part → ℕ × ℕ → ℕ × ℕ → ℕ × ℕ
placed p register slip = elim p.of_register [ true ↦ (register.0, p.start + register.1) | false ↦ (slip.0, p.start + slip.1) ]
