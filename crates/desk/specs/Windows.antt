-- However the input is cut into windows, the output is `printed` of the whole.
use Rattle.std.specs.Prelude.{◌≡◌, true, List, [], ◌∷◌, ◌++◌, ℕ}
use Rattle.desk.specs.declared.desk.Desk.{Desk}
use Rattle.desk.specs.Printed.{joined, printed}
use Rattle.desk.specs.Desk.{new_desk, stopped, fed, said, closing}

-- The desk for the input i.
abbrev pub desk_for : List ℕ → Desk
desk_for i = fed new_desk i

-- "the state for input i, fed window w, is the state for i ++ w"
abbrev pub FedOn : Type 0
FedOn = (i w : List ℕ) → fed (desk_for i) w ≡ desk_for (i ++ w)

-- What the desk says to the windows one after the other.
unfoldable pub said_to : Desk → List (List ℕ) → List ℕ
said_to d [] = []
said_to d (w ∷ ws) = said d w ++ said_to (fed d w) ws

-- "so every cutting into windows writes `printed`"
abbrev pub EveryCuttingPrints : Type 0
EveryCuttingPrints = (windows : List (List ℕ)) → said_to new_desk windows ++ closing (desk_for (joined windows)) ≡ printed (joined windows)

-- Once the desk has stopped, what follows in the input is not looked at: reading may stop.
abbrev pub NothingAfterStop : Type 0
NothingAfterStop = (i w : List ℕ) → stopped (desk_for i) ≡ true → printed (i ++ w) ≡ printed i
