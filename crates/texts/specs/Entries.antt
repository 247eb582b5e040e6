-- Entries, a code with a number: "`shop=CODE:OPENING` lines, opening six digits", "`dep=CODE:NUMBER` lines, number six digits".
use Rattle.std.specs.Prelude.{Bool, ◌&&◌, List, ℕ, eqb}
use Rattle.texts.specs.Bounds.{most_shops}
use Rattle.texts.specs.Bytes.{colon}
use Rattle.texts.specs.Layout.{Layout, ◌then◌, of, key, group}
use Rattle.texts.specs.Code.{no_code, is_code, code, same_code}
use Rattle.texts.specs.Lines.{six}
use Rattle.texts.specs.declared.code.Code.{Code}
use Rattle.texts.specs.declared.entry.Entry.{Entry}

abbrev pub no_entry : Entry
no_entry = record { code = no_code; number = 0 }

-- An unused place is zero.
abbrev pub zero_entry : Entry → Bool
zero_entry e = same_code e.code no_code && eqb e.number 0

-- A value that a line can carry, whatever its key.
abbrev pub is_entry : Entry → Bool
is_entry e = is_code e.code && six.legal e.number

-- An entry and its parts.
abbrev pub entry_parts : Entry → Code × ℕ
entry_parts e = (e.code, e.number)

abbrev pub parts_entry : Code × ℕ → Entry
parts_entry p = record { code = p.0; number = p.1 }

-- KEY=CODE:NUMBER
abbrev pub entry_line : List ℕ → Layout Entry
entry_line name = of entry_parts parts_entry (key name (code colon) then six)

-- So many of them, in a list that has a place for every shop, be they shops or dependencies.
abbrev pub entry_lines : List ℕ → ℕ → Layout (List Entry)
entry_lines name = group most_shops no_entry zero_entry (entry_line name)
