-- The paper's own example, and where chunks begin and end: tried on the definitions.
use mathlib.Core.Path.{◌≡◌, refl}
use mathlib.Core.Bool.{Bool, true, false, ◌&&◌}
use mathlib.Core.List.{List, [], ◌∷◌, ◌++◌}
use Prim.Native.Nat.{ℕ}
use lib.ListN.{replicate}
use Rattle.texts.specs.Bytes.{bytes, same_bytes, all_of}
use Rattle.texts.specs.Layout as layout
use Rattle.texts.specs.Leaf.{digits, one_more, numeral, run}
use Rattle.texts.specs.Code.{same_code}
use Rattle.texts.specs.Answers.{first}
use Rattle.texts.specs.Register as register
use Rattle.texts.specs.Slip.{slip_layout, slip_in, slip_read}
use Rattle.replica.specs.Record.{sum_to, every}
use Rattle.replica.specs.Slips.{number_for, waiting_of, deps_from, slip_of, firsts}
use Rattle.replica.specs.Checks.{range?, shop?, rising, deps?, passes}
use Rattle.replica.specs.State.{all_true, line_kept, numbered_on, paid_by_shop, slips_pass, lawful}
use Rattle.replica.specs.Settle.{ready, apply, scan, settle, order, waits}
use Rattle.replica.specs.Open.{fresh, opened}
use Rattle.replica.specs.Take.{take_rows, entered, taken}
use Rattle.replica.specs.Trials.{example, A, B}
use Rattle.desk.specs.Chunks.{at_end, cut, chunks, register_chunk, slip_chunks}
use Rattle.desk.specs.Printed.{joined, shops_printed, slips_printed, after_register, printed}

-- ---- chunks

same_chunks : List (List ℕ) → List (List ℕ) → Bool
same_chunks [] [] = true
same_chunks [] (d ∷ ds) = false
same_chunks (c ∷ cs) [] = false
same_chunks (c ∷ cs) (d ∷ ds) = same_bytes c d && same_chunks cs ds

cuts : List Bool
cuts =
    -- no input
    same_chunks (chunks []) [] ∷
    -- "An input that begins with byte 10 has an empty register."
    same_chunks (chunks (bytes "\nb=2\n")) ([] ∷ bytes "b=2\n" ∷ []) ∷
    -- "k empty lines in a row after a chunk make k - 1 empty slip chunks"
    same_chunks (chunks (bytes "a=1\n\nb=2\n")) (bytes "a=1\n" ∷ bytes "b=2\n" ∷ []) ∷
    same_chunks (chunks (bytes "a=1\n\n\n\nb=2\n")) (bytes "a=1\n" ∷ [] ∷ [] ∷ bytes "b=2\n" ∷ []) ∷
    same_chunks (chunks (bytes "a=1\n\n\n\n")) (bytes "a=1\n" ∷ [] ∷ [] ∷ []) ∷
    -- "A last line without byte 10 is handed on as it is"
    same_chunks (chunks (bytes "a=1\n\nb=2\nc=3")) (bytes "a=1\n" ∷ bytes "b=2\nc=3" ∷ []) ∷
    -- "After a final empty line there is nothing more."
    same_chunks (chunks (bytes "a=1\n\nb=2\n\n")) (bytes "a=1\n" ∷ bytes "b=2\n" ∷ []) ∷
    -- "CR LF, blanks or NUL do not make an empty line."
    same_chunks (chunks (97 ∷ 13 ∷ 10 ∷ 13 ∷ 10 ∷ 32 ∷ 10 ∷ 0 ∷ 10 ∷ [])) ((97 ∷ 13 ∷ 10 ∷ 13 ∷ 10 ∷ 32 ∷ 10 ∷ 0 ∷ 10 ∷ []) ∷ []) ∷
    []

cuts-hold : all_true cuts ≡ true
unfolding cuts same_chunks cut at_end same_bytes all_true
cuts-hold = refl

-- ---- the whole output

-- "Input: register, A, B, B."
own_input : List ℕ
own_input = example ++ bytes "\n" ++ A ++ bytes "\n" ++ B ++ bytes "\n" ++ B

own_output : List ℕ
own_output =
    bytes "register=00\n"
    ++ bytes "slip=000001\nanswer=00\nwhy=ok\napplied=000\n"
    ++ bytes "slip=000002\nanswer=00\nwhy=ok\napplied=002\n"
    ++ bytes "slip=000003\nanswer=06\nwhy=number\napplied=000\n"
    ++ bytes "shop=71\nbalance=00000200\ndone=000001\nwaits=0\n"
    ++ bytes "shop=071\nbalance=00000100\ndone=000001\nwaits=0\n"
    ++ bytes "shop=0071\nbalance=00000300\ndone=000000\nwaits=0\n"

shop_alone : List ℕ
shop_alone = bytes "shops=01\nshop=5:000007\nown=5\n"

outputs : List Bool
outputs =
    same_bytes (printed own_input) own_output ∷
    -- "with no input it is empty", "after a refusal it stops"
    same_bytes (printed []) (bytes "register=01\n") ∷
    same_bytes (printed (bytes "\n" ++ shop_alone)) (bytes "register=01\n") ∷
    same_bytes (printed (bytes "shops=01\nshop=5:000007\nown=6\n\n" ++ B)) (bytes "register=02\n") ∷
    -- "An empty slip chunk gets answer 1." "A chunk longer than any text stays one chunk, answer 1"
    same_bytes
    (printed (shop_alone ++ bytes "\n\n" ++ replicate 367 48))
    (bytes "register=00\n"
    ++ bytes "slip=000001\nanswer=01\nwhy=form\napplied=000\n"
    ++ bytes "slip=000002\nanswer=01\nwhy=form\napplied=000\n"
    ++ bytes "shop=5\nbalance=00000007\ndone=000000\nwaits=0\n") ∷
    []

outputs-hold : all_true outputs ≡ true
unfolding outputs own_input own_output shop_alone example A B printed after_register slips_printed shops_printed joined firsts cut at_end register_chunk slip_chunks taken take_rows entered opened fresh ready apply scan settle order waits line_kept numbered_on paid_by_shop slips_pass lawful range? shop? rising deps? passes number_for waiting_of deps_from slip_of sum_to every slip_layout slip_in slip_read register.register_layout register.register_in register.place register.twins register.register_answer register.register_text_answer register.register_read first same_code digits one_more numeral run layout.past layout.joined layout.several layout.whole same_bytes all_of all_true
outputs-hold = refl
