-- However the input is cut into windows, the output is `printed` of the whole; and after the desk has stopped nothing changes it.
use mathlib.Core.Path.{sym, ap, ◌∙◌}
use mathlib.Core.List.{◌++◌}
use Rattle.desk.specs.Printed.{joined}
use Rattle.desk.specs.Desk.{new_desk, said, closing}
use Rattle.desk.specs.Windows.{desk_for, FedOn, EveryCuttingPrints, NothingAfterStop}
use Rattle.desk.proofs.Steps.{fed-append, said-joined, output-append, stopped-output}
use Rattle.desk.proofs.Printing.{whole-output}

pub fed-on : FedOn
fed-on i w = sym (fed-append new_desk i w)

pub every-cutting-prints : EveryCuttingPrints
every-cutting-prints windows = ap (λ l. l ++ closing (desk_for (joined windows))) (said-joined new_desk windows) ∙ whole-output (joined windows)

pub nothing-after-stop : NothingAfterStop
nothing-after-stop i w stop =
    sym (whole-output (i ++ w))
    ∙ output-append new_desk i w
    ∙ ap (λ l. said new_desk i ++ l) (stopped-output (desk_for i) w stop)
    ∙ whole-output i
