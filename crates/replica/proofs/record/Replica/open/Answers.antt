-- A register that was read opens as on its first day; one that was refused is said as the record of zeros and its number.
use Rattle.replica.proofs.Checked.{open-fine, open-refused}
use Rattle.replica.proofs.record.Replica.open.Goals as goal

pub returns-in_err-read_register : goal.returns-in_err-read_register
returns-in_err-read_register c = open-refused _ _ _ c.from_residual.ensures.1 c.in_err-read_register.ensures

pub returns : goal.returns
returns c = open-fine _ _ c.in_ok-read_register.ensures _ c.fresh.ensures
