-- The bounds of the counter's work, in the paper's words where it has them.
use Rattle.std.specs.Prelude.{ℕ}

-- "after 999,999 of them reading stops as at the end of input"
abbrev pub most_slips : ℕ
most_slips = 999999

-- The bytes that are kept of a chunk: one more than the longest text.
abbrev pub most_kept : ℕ
most_kept = 367

-- The bytes that one byte of the input can have printed, at the most: the four lines of a slip.
abbrev pub most_said : ℕ
most_said = 48

-- The bytes that are fed at a time, and those that they can have printed.
abbrev pub window_size : ℕ
window_size = 16384

abbrev pub page_size : ℕ
page_size = 786432
