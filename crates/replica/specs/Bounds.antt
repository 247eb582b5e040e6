-- The replica's own bounds, each named once.
use Rattle.std.specs.Prelude.{ℕ}

-- "each shop has at most 8 waiting"
abbrev pub most_waiting : ℕ
most_waiting = 8

-- "a lent list of at least 128 bytes"
abbrev pub list_room : ℕ
list_room = 128

-- "The sum of balances is at most 15,999,984"
abbrev pub most_credit : ℕ
most_credit = 15999984
