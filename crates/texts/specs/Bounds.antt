-- The paper's bounds, each named once ("Numbers and codes", "Texts").
use Rattle.std.specs.Prelude.{ℕ}

-- "Shops: 1 to 16."
abbrev pub most_shops : ℕ
most_shops = 16

-- "`deps=` two digits 00 to 15"
abbrev pub most_deps : ℕ
most_deps = 15

-- "A code is 1 to 8 decimal digits"
abbrev pub code_places : ℕ
code_places = 8

-- "opening six digits", "`number=` six digits", "`amount=` six digits"
abbrev pub number_width : ℕ
number_width = 6

-- "`shops=` two digits", "`deps=` two digits"
abbrev pub count_width : ℕ
count_width = 2

-- "Opening credit 0 to 999,999. Amounts and slip numbers 1 to 999,999."
abbrev pub most : ℕ
most = 999999

-- "a lent buffer of at least 358 or 366 bytes"
abbrev pub register_room : ℕ
register_room = 358

abbrev pub slip_room : ℕ
slip_room = 366

-- "fourteen eight-byte names with lengths"
abbrev pub name_places : ℕ
name_places = 8
