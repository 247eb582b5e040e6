-- The whole output of the counter program, from the whole input.
use Rattle.std.specs.Prelude.{List, [], ◌∷◌, ◌++◌, ℕ, zero, suc, ◌+◌, replicate}
use Rattle.texts.specs.Bytes.{bytes}
use Rattle.texts.specs.Leaf.{digits}
use Rattle.texts.specs.Lines.{code_line}
use Rattle.texts.specs.Answers.{why}
use Rattle.texts.specs.declared.code.Code.{Code}
use Rattle.replica.specs.declared.record.Replica.{Replica}
use Rattle.replica.specs.Outcome.{Outcome}
use Rattle.replica.specs.Bounds.{list_room}
use Rattle.replica.specs.Record.{listed_at, shop_count, shop_at, line_at}
use Rattle.replica.specs.Slips.{firsts}
use Rattle.replica.specs.Open.{opened}
use Rattle.replica.specs.Take.{taken}
use Rattle.desk.specs.Chunks.{chunks, register_chunk, slip_chunks}

-- ---- lines

-- KEY=NUMBER of a width
abbrev pub numbered : List ℕ → ℕ → ℕ → List ℕ
numbered key width n = key ++ (digits width n ++ bytes "\n")

-- "It prints `register=` two digits"
abbrev pub register_line : ℕ → List ℕ
register_line answer = numbered (bytes "register=") 2 answer

-- "the answer, its why"
abbrev pub answer_lines : ℕ → List ℕ
answer_lines answer = numbered (bytes "answer=") 2 answer ++ (bytes "why=" ++ (why answer ++ bytes "\n"))

-- "For each slip chunk it prints its running number, the answer, its why and the count applied"
abbrev pub slip_lines : ℕ → ℕ → ℕ → List ℕ
slip_lines slip answer applied = numbered (bytes "slip=") 6 slip ++ (answer_lines answer ++ numbered (bytes "applied=") 3 applied)

-- "balance, applied number (`done=`) and waiting count"
abbrev pub numbers_lines : ℕ → ℕ → ℕ → List ℕ
numbers_lines balance applied waits = numbered (bytes "balance=") 8 balance ++ (numbered (bytes "done=") 6 applied ++ numbered (bytes "waits=") 1 waits)

-- "its code"
abbrev pub shop_lines : Code → ℕ → ℕ → ℕ → List ℕ
shop_lines code balance applied waits = (code_line (bytes "shop=")).text code ++ numbers_lines balance applied waits

-- ---- the shops: "at the end for each shop, in register order"

unfoldable pub joined : List (List ℕ) → List ℕ
joined [] = []
joined (l ∷ ls) = l ++ joined ls

abbrev pub shop_printed : Replica → ℕ → List ℕ
shop_printed self p = shop_lines (listed_at self.register p).code (shop_at self p).balance (shop_at self p).applied (line_at self p).count

unfoldable pub shops_printed : Replica → List ℕ
shops_printed self = joined (firsts (shop_count self) (shop_printed self))

-- ---- the whole

-- The list that a take is lent.
abbrev pub lent : List ℕ
lent = replicate list_room 0

-- The slips from the one with running number k on, and the shops after them.
unfoldable pub slips_printed : Replica → ℕ → List (List ℕ) → List ℕ
slips_printed self k [] = shops_printed self
slips_printed self k (c ∷ cs) =
    slip_lines k (taken self c lent).answer (taken self c lent).count ++ slips_printed (taken self c lent).replica (k + 1) cs

-- "after a refusal it stops"
unfoldable pub after_register : Outcome → List (List ℕ) → List ℕ
after_register o cs = register_line o.answer ++ elim o.answer [ zero ↦ slips_printed o.replica 1 cs | suc n ↦ [] ]

unfoldable pub printed : List ℕ → List ℕ
printed input = after_register (opened (register_chunk (chunks input))) (slip_chunks (chunks input))
