-- Registers and slips: the two laws, and what they come to.
use mathlib.Core.Path.{◌≡◌, refl}
use mathlib.Core.Bool.{Bool, true, false}
use mathlib.Core.Option.{some}
use mathlib.Core.List.{List}
use Prim.Native.Nat.{ℕ, ◌≤◌, ◌<◌, ◌^◌}
use native.Mathlib.Omega.{arith}
use lib.Dec.{eqb, lit<}
use borrow.Author.Tests.{eqb-true}
use Rattle.texts.specs.Bounds.{code_places, most_shops, most}
use Rattle.texts.specs.Bytes.{bytes, same_bytes}
use Rattle.texts.specs.Layout.{Layout, ◌⟫◌, ◌then◌, key, group}
use Rattle.texts.specs.Leaf.{digit, number, kept}
use Rattle.texts.specs.Code.{no_code, code_parts, parts_code, code, same_code}
use Rattle.texts.specs.Lines.{closed, six, code_line, number_line}
use Rattle.texts.specs.Entries.{no_entry, zero_entry, entry_parts, parts_entry, entry_line, entry_lines}
use Rattle.texts.specs.Register.{shops_line, shop_lines, own_line, register_parts, parts_register, register_layout, register_in}
use Rattle.texts.specs.Slip.{payer_line, slip_number_line, payee_line, amount_line, deps_line, dep_lines, slip_parts, parts_slip, slip_layout, slip_in}
use Rattle.texts.specs.Lawful.{Lawful}
use Rattle.texts.specs.declared.code.Code.{Code}
use Rattle.texts.specs.declared.entry.Entry.{Entry}
use Rattle.texts.specs.declared.register.Register.{Register}
use Rattle.texts.specs.declared.slip.Slip.{Slip}
use Rattle.texts.proofs.Steps.{both, upto, same_bytes_lem}
use Rattle.texts.proofs.Laws.{next-lawful, then-lawful, of-lawful, key-lawful, shut-lawful}
use Rattle.texts.proofs.LawsLeaf.{number-lawful, kept-lawful}
use Rattle.texts.proofs.LawsGroup.{group-lawful}
use Rattle.texts.proofs.LawsWhole.{whole_back, whole-only}

-- ---- codes

-- codes that compare equal are the same value
pub same_code_lem : (a b : Code) → same_code a b ≡ true → a ≡ b
unfolding same_code
same_code_lem a b e =
    let p = both (eqb a.len b.len) (same_bytes a.digits b.digits) e in
    λ i. record { digits = same_bytes_lem a.digits b.digits p.1 i; len = eqb-true a.len b.len p.0 i }

pub code-lawful : (b : ℕ) → digit b ≡ false → Lawful (code b)
code-lawful b h = of-lawful code_parts parts_code (kept code_places b) (λ _. refl) (λ _. refl) (kept-lawful code_places b h)

-- ---- lines

pub closed-lawful : (width least upper : ℕ) → upper < 10 ^ width → Lawful (closed width least upper)
closed-lawful width least upper h = shut-lawful (number width least upper) (bytes "\n") (number-lawful width least upper h)

pub code-line-lawful : (name : List ℕ) → Lawful (code_line name)
code-line-lawful name = key-lawful name (code 10) (code-lawful 10 refl)

pub number-line-lawful : (name : List ℕ) (width least upper : ℕ) → upper < 10 ^ width → Lawful (number_line name width least upper)
number-line-lawful name width least upper h = key-lawful name (closed width least upper) (closed-lawful width least upper h)

-- a counted group: its number line, then so many lines
pub counted-lawful : {A : Type 0} (name : List ℕ) (least upper places : ℕ) (z : A) (unused : A → Bool) (L : Layout A) → upper < 10 ^ 2 → upper ≤ places
    → unused z ≡ true → ((x : A) → unused x ≡ true → x ≡ z) → Lawful L → Lawful (number_line name 2 least upper ⟫ group places z unused L)
counted-lawful name least upper places z unused L few room blank is P =
    next-lawful (number_line name 2 least upper) (group places z unused L) (number-line-lawful name 2 least upper few)
    (λ n h. let m = upto least n upper h in group-lawful L P places z unused blank is n (omega arith))

-- ---- entries

pub zero_entry-is : (e : Entry) → zero_entry e ≡ true → e ≡ no_entry
zero_entry-is e h =
    let p = both (same_code e.code no_code) (eqb e.number 0) h in
    λ i. record { code = same_code_lem e.code no_code p.0 i; number = eqb-true e.number 0 p.1 i }

pub entry-line-lawful : (name : List ℕ) → Lawful (entry_line name)
entry-line-lawful name =
    of-lawful entry_parts parts_entry (key name (code 58) then six) (λ _. refl) (λ _. refl)
    (then-lawful (key name (code 58)) six (key-lawful name (code 58) (code-lawful 58 refl)) (closed-lawful 6 0 most (lit< tt)))

entries-lawful : (head name : List ℕ) (least upper : ℕ) → upper ≤ most_shops → Lawful (number_line head 2 least upper ⟫ entry_lines name)
unfolding same_code same_bytes
entries-lawful head name least upper few =
    counted-lawful head least upper most_shops no_entry zero_entry (entry_line name) (omega arith) few refl zero_entry-is (entry-line-lawful name)

-- ---- the register and the slip

pub register-lawful : Lawful register_layout
unfolding register_layout
register-lawful =
    of-lawful register_parts parts_register ((shops_line ⟫ shop_lines) then own_line) (λ _. refl) (λ _. refl)
    (then-lawful (shops_line ⟫ shop_lines) own_line (entries-lawful (bytes "shops=") (bytes "shop=") 1 _ (omega arith)) (code-line-lawful (bytes "own=")))

pub slip-lawful : Lawful slip_layout
unfolding slip_layout
slip-lawful =
    of-lawful slip_parts parts_slip
    (payer_line then slip_number_line then payee_line then amount_line then (deps_line ⟫ dep_lines))
    (λ _. refl) (λ _. refl)
    (then-lawful payer_line _ (code-line-lawful (bytes "payer="))
    (then-lawful slip_number_line _ (number-line-lawful (bytes "number=") 6 0 most (lit< tt))
    (then-lawful payee_line _ (code-line-lawful (bytes "payee="))
    (then-lawful amount_line (deps_line ⟫ dep_lines) (number-line-lawful (bytes "amount=") 6 0 most (lit< tt))
    (entries-lawful (bytes "deps=") (bytes "dep=") 0 _ (omega arith))))))

-- ---- what they come to

pub register-back : (r : Register) → register_layout.legal r ≡ true → register_in (register_layout.text r) ≡ some r
unfolding register_in
register-back = whole_back register_layout register-lawful

pub register-only : (s : List ℕ) (r : Register) → register_in s ≡ some r → (register_layout.legal r ≡ true) × (s ≡ register_layout.text r)
unfolding register_in
register-only = whole-only register_layout register-lawful

pub slip-back : (s : Slip) → slip_layout.legal s ≡ true → slip_in (slip_layout.text s) ≡ some s
unfolding slip_in
slip-back = whole_back slip_layout slip-lawful

pub slip-only : (t : List ℕ) (s : Slip) → slip_in t ≡ some s → (slip_layout.legal s ≡ true) × (t ≡ slip_layout.text s)
unfolding slip_in
slip-only = whole-only slip_layout slip-lawful
