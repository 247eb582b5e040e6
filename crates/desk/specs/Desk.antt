-- What the desk does with each byte, and what it prints then; so with the bytes of a window one after the other, and at the end of the input.
use Rattle.std.specs.Prelude.{Bool, true, false, not, ◌&&◌, ◌||◌, List, [], ◌∷◌, ◌++◌, ℕ, ◌+◌, take, set, replicate, leb, ltb, eqb}
use Rattle.replica.specs.Record.{no_replica}
use Rattle.replica.specs.State.{lawful}
use Rattle.replica.specs.Open.{opened}
use Rattle.replica.specs.Take.{taken}
use Rattle.desk.specs.declared.desk.Desk.{Desk}
use Rattle.desk.specs.Bounds.{most_slips, most_kept}
use Rattle.desk.specs.Chunks.{empty_line}
use Rattle.desk.specs.Printed.{register_line, slip_lines, shops_printed, lent}

-- Nothing has come in.
abbrev pub new_desk : Desk
new_desk =
    record {
      replica = no_replica;
      bytes = replicate most_kept 0;
      len = 0;
      begins = true;
      opened = false;
      refused = false;
      slips = 0;
    }

-- Nothing more is looked at.
abbrev pub stopped : Desk → Bool
stopped d = d.refused || leb most_slips d.slips

-- The bytes that are kept of the chunk.
abbrev pub kept : Desk → List ℕ
kept d = take d.len d.bytes

-- ---- a chunk ends

-- The first is the register.
unfoldable pub opens : Desk → Desk
opens d =
    let o = opened (kept d) in
    record { replica = o.replica; bytes = d.bytes; len = 0; begins = d.begins; opened = true; refused = not (eqb o.answer 0); slips = d.slips }

-- The others are slips.
unfoldable pub takes : Desk → Desk
takes d =
    let o = taken d.replica (kept d) lent in
    record { replica = o.replica; bytes = d.bytes; len = 0; begins = d.begins; opened = d.opened; refused = d.refused; slips = d.slips + 1 }

unfoldable pub ends : Desk → Desk
ends d = elim d.opened [ true ↦ takes d | false ↦ opens d ]

unfoldable pub end_said : Desk → List ℕ
end_said d =
    let o = taken d.replica (kept d) lent in
    elim d.opened [ true ↦ slip_lines (d.slips + 1) o.answer o.count | false ↦ register_line (opened (kept d)).answer ]

-- ---- a byte

-- It belongs to the chunk: it is kept if there is room.
unfoldable pub keeps : Desk → ℕ → Desk
keeps d b =
    record {
      replica = d.replica;
      bytes = elim (ltb d.len most_kept) [ true ↦ set d.bytes d.len b | false ↦ d.bytes ];
      len = elim (ltb d.len most_kept) [ true ↦ d.len + 1 | false ↦ d.len ];
      begins = eqb b 10;
      opened = d.opened;
      refused = d.refused;
      slips = d.slips;
    }

unfoldable pub step : Desk → ℕ → Desk
step d b = elim (stopped d) [ true ↦ d | false ↦ elim (empty_line d.begins b) [ true ↦ ends d | false ↦ keeps d b ] ]

unfoldable pub step_said : Desk → ℕ → List ℕ
step_said d b = elim (stopped d) [ true ↦ [] | false ↦ elim (empty_line d.begins b) [ true ↦ end_said d | false ↦ [] ] ]

-- ---- the bytes of a window

unfoldable pub fed : Desk → List ℕ → Desk
fed d [] = d
fed d (b ∷ w) = fed (step d b) w

unfoldable pub said : Desk → List ℕ → List ℕ
said d [] = []
said d (b ∷ w) = step_said d b ++ said (step d b) w

-- ---- the end of the input

-- Is there a chunk that no empty line ended: the register, or one with a byte in it.
abbrev pub unended : Desk → Bool
unended d = not (stopped d) && (not d.opened || not (eqb d.len 0))

unfoldable pub last : Desk → Desk
last d = elim (unended d) [ true ↦ ends d | false ↦ d ]

unfoldable pub last_said : Desk → List ℕ
last_said d = elim (unended d) [ true ↦ end_said d | false ↦ [] ]

-- Then the shops; a desk that has no replica in it has none.
unfoldable pub closing : Desk → List ℕ
closing d = last_said d ++ elim (lawful (last d).replica) [ true ↦ shops_printed (last d).replica | false ↦ [] ]
