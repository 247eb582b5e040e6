-- The starred trials, and our own rows beside them, computed.
use mathlib.Core.Path.{refl}
use Rattle.texts.specs.Bytes.{same_bytes, all_of}
use Rattle.texts.specs.Layout.{past, joined, several, whole}
use Rattle.texts.specs.Leaf.{digits, one_more, numeral, run}
use Rattle.texts.specs.Code.{same_code}
use Rattle.texts.specs.Answers.{first}
use Rattle.texts.specs.Register.{register_layout, register_in, place, twins, register_answer, register_text_answer, register_read}
use Rattle.texts.specs.Slip.{slip_layout, slip_in, slip_read}
use Rattle.replica.specs.Record.{sum_to, every}
use Rattle.replica.specs.Slips.{number_for, waiting_of, deps_from, slip_of}
use Rattle.replica.specs.Checks.{range?, shop?, rising, deps?, passes}
use Rattle.replica.specs.State.{all_true, line_kept, numbered_on, paid_by_shop, slips_pass, lawful}
use Rattle.replica.specs.Settle.{ready, apply, scan, settle, order, waits}
use Rattle.replica.specs.Open.{fresh, opened}
use Rattle.replica.specs.Take.{take_rows, entered, taken, taken_list}
use Rattle.replica.specs.Trials.{seen, concat, holds, example, A, B, on, trials, ours, TrialsHold}

pub trials-hold : TrialsHold
unfolding holds seen concat trials ours on example A B taken taken_list take_rows entered opened fresh ready apply scan settle order waits line_kept numbered_on paid_by_shop slips_pass lawful range? shop? rising deps? passes number_for waiting_of deps_from slip_of sum_to every slip_layout slip_in slip_read register_layout register_in place twins register_answer register_text_answer register_read first same_code digits one_more numeral run past joined several whole same_bytes all_of all_true
trials-hold = refl
