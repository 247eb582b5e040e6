-- "Open (register text). Balances are the openings; all taken, applied and issued numbers and all marks are 0; nothing waits."
use Rattle.std.specs.Prelude.{List, map, ℕ, zero, suc, replicate}
use Rattle.texts.specs.Bounds.{most_shops}
use Rattle.texts.specs.Register.{opening, register_read}
use Rattle.texts.specs.declared.entry.Entry.{Entry}
use Rattle.texts.specs.declared.register.Register.{Register}
use Rattle.replica.specs.declared.record.Shop.{Shop}
use Rattle.replica.specs.declared.record.Replica.{Replica}
use Rattle.replica.specs.Record.{no_line, no_replica}
use Rattle.replica.specs.Outcome.{Outcome, refused, did}

abbrev pub first_day : Entry → Shop
first_day l = record { balance = opening l; taken = 0; applied = 0; mark = 0 }

unfoldable pub fresh : Register → Replica
fresh r = record { register = r; issued = 0; shops = map first_day r.shops; lines = replicate most_shops no_line }

-- "A refused register gives a record of zeros, which every call refuses with 13."
unfoldable pub opened : List ℕ → Outcome
opened text = elim (register_read text).answer [ zero ↦ did 0 (fresh (register_read text).register) | suc n ↦ refused (suc n) no_replica ]
