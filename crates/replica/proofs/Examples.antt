-- The trials that are not starred, and examples of issue, balance, open, the state rule and the payee's part: tried on the definitions.
use mathlib.Core.Path.{◌≡◌, refl}
use mathlib.Core.Bool.{Bool, true}
use mathlib.Core.List.{List, [], ◌∷◌, ◌++◌, map}
use Prim.Native.Nat.{ℕ, ◌+◌}
use lib.ListN.{take, replicate}
use Rattle.texts.specs.Bytes.{bytes, same_bytes, all_of}
use Rattle.texts.specs.Layout.{past, joined, several, whole}
use Rattle.texts.specs.Leaf.{digits, one_more, numeral, run}
use Rattle.texts.specs.Code.{same_code, code_of}
use Rattle.texts.specs.Answers.{first}
use Rattle.texts.specs.Payee.{shown, payee_of, payee_part}
use Rattle.texts.specs.Register.{register_layout, register_in, place, twins, register_answer, register_text_answer, register_read}
use Rattle.texts.specs.Slip.{slip_layout, slip_in, slip_read}
use Rattle.replica.specs.declared.record.Shop.{Shop}
use Rattle.replica.specs.declared.record.Replica.{Replica}
use Rattle.replica.specs.Outcome.{Outcome}
use Rattle.replica.specs.Record.{shop_count, adjust, sum_to, every, no_replica}
use Rattle.replica.specs.Slips.{number_for, waiting_of, deps_from, slip_of}
use Rattle.replica.specs.Checks.{range?, shop?, rising, deps?, passes}
use Rattle.replica.specs.State.{all_true, line_kept, numbered_on, paid_by_shop, slips_pass, lawful}
use Rattle.replica.specs.Settle.{ready, apply, scan, settle, order, waits}
use Rattle.replica.specs.Open.{fresh, opened}
use Rattle.replica.specs.Take.{take_rows, entered, taken, taken_list}
use Rattle.replica.specs.Issue.{issue_rows, issued_slip, issuing, issued, issued_buffer}
use Rattle.replica.specs.Balance.{balance_rows, asked}
use Rattle.replica.specs.Trials.{concat, example, A, B}

register_own : List ℕ → List ℕ
register_own own = bytes "shops=03\nshop=71:000500\nshop=071:000000\nshop=0071:000100\nown=" ++ own ++ bytes "\n"

big : ℕ → List ℕ
unfolding digits
big n = bytes "payer=71\nnumber=" ++ digits 6 n ++ bytes "\npayee=071\namount=000501\ndeps=00\n"

opens : List ℕ → Replica
opens own = (opened (register_own own)).replica

after : Replica → List (List ℕ) → Replica
after self [] = self
after self (t ∷ ts) = after (taken self t (replicate 128 0)).replica ts

answers : Replica → List (List ℕ) → List ℕ
answers self [] = []
answers self (t ∷ ts) = let o = taken self t (replicate 128 0) in o.answer ∷ answers o.replica ts

-- 071 is the own shop: 71 has paid it, so its next slip depends on 71's first
own071 : Replica
own071 = after (opens (bytes "071")) (B ∷ [])

lent_buffer : List ℕ
lent_buffer = replicate 366 7

-- slip 3 names no shop of the register, slip 4 is no slip
shown_to : List (List ℕ)
shown_to = A ∷ B ∷ bytes "payer=5\nnumber=000000\npayee=99\namount=000000\ndeps=00\n" ∷ bytes "payer=" ∷ []

tried : List Bool
tried =
    -- 11. Slips of 501 from 71 numbered 1 to 9: the eighth is taken, the ninth gets 7.
    same_bytes (answers (opens (bytes "71")) (map big (1 ∷ 2 ∷ 3 ∷ 4 ∷ 5 ∷ 6 ∷ 7 ∷ 8 ∷ 9 ∷ []))) (0 ∷ 0 ∷ 0 ∷ 0 ∷ 0 ∷ 0 ∷ 0 ∷ 0 ∷ 7 ∷ []) ∷
    -- 13. Own 071 issues 1 to 71: 9. 14. A list of 127 bytes or a buffer of 365: 11.
    same_bytes
    ((issued (opens (bytes "071")) (bytes "71") 1 lent_buffer).answer ∷
    (taken (opens (bytes "71")) B (replicate 127 0)).answer ∷
    (issued (opens (bytes "71")) (bytes "071") 1 (replicate 365 0)).answer ∷ [])
    (9 ∷ 11 ∷ 11 ∷ []) ∷
    -- "a record of zeros, which every call refuses with 13"
    same_bytes ((taken no_replica B (replicate 128 0)).answer ∷ (asked no_replica (bytes "71")).answer ∷ (issued no_replica (bytes "71") 1 lent_buffer).answer ∷ []) (13 ∷ 13 ∷ 13 ∷ []) ∷
    -- issue, with no mark
    same_bytes
    ((issued (opens (bytes "71")) (bytes "0071") 42 lent_buffer).count ∷ issued_buffer (opens (bytes "71")) (bytes "0071") 42 lent_buffer)
    (56 ∷ bytes "payer=71\nnumber=000001\npayee=0071\namount=000042\ndeps=00\n" ++ replicate 310 7) ∷
    -- balances
    same_bytes (map (λ (c : List ℕ). (asked own071 c).balance) (bytes "71" ∷ bytes "071" ∷ bytes "0071" ∷ [])) (200 ∷ 300 ∷ 100 ∷ []) ∷
    same_bytes (map (λ (c : List ℕ). (asked own071 c).answer) (bytes "71" ∷ bytes "00071" ∷ [] ∷ bytes "123456789" ∷ bytes "7a" ∷ [])) (0 ∷ 2 ∷ 2 ∷ 2 ∷ 2 ∷ []) ∷
    -- registers
    same_bytes
    (map (λ (t : List ℕ). (opened t).answer)
    (bytes "" ∷
    bytes "shops=00\nown=71\n" ∷
    bytes "shops=01\nshop=71:000500\nown=071\n" ∷
    bytes "shops=02\nshop=71:000500\nshop=71:000000\nown=5\n" ∷
    bytes "shops=01\nshop=71:000500\nown=71" ∷
    bytes "shops=01\nshop=71:000500\nown=71\n\n" ∷
    bytes "shops=01\nshop=71:00500\nown=71\n" ∷
    bytes "shops=01\nshop=123456789:000500\nown=71\n" ∷
    bytes "shops=01\nshop=71:000500\nown=71\n" ∷ []))
    (1 ∷ 1 ∷ 2 ∷ 12 ∷ 1 ∷ 1 ∷ 1 ∷ 1 ∷ 0 ∷ []) ∷
    -- the payee's part: its bytes, and where it starts
    same_bytes (concat (map (λ (t : List ℕ). shown (payee_part example t) example t) shown_to)) (bytes "007107199") ∷
    same_bytes (map (λ (t : List ℕ). (payee_part example t).start) shown_to) (45 ∷ 29 ∷ 28 ∷ 0 ∷ []) ∷
    []

-- ---- rows of our own, beside the paper's

balances : Replica → List ℕ
balances self = take (shop_count self) (map (λ (s : Shop). s.balance) self.shops)

marks : Replica → List ℕ
marks self = take (shop_count self) (map (λ (s : Shop). s.mark) self.shops)

-- 71 pays 501: its slip number 1 waits
stuck : Replica
stuck = after (opens (bytes "71")) (big 1 ∷ [])

small : List ℕ
small = bytes "payer=71\nnumber=000002\npayee=071\namount=000001\ndeps=00\n"

-- the same with 71's taken and applied numbers raised by one: its slip number 1 would be numbered below applied + 1
raised : Replica
raised =
    record {
      register = stuck.register;
      issued = stuck.issued;
      shops = adjust (λ s. record { balance = s.balance; taken = s.taken + 1; applied = s.applied + 1; mark = s.mark }) 0 stuck.shops;
      lines = stuck.lines;
    }

-- 071 is the own shop, 71 has paid it, and it issues 100 to 0071
issues : Outcome
issues = issued own071 (bytes "0071") 100 lent_buffer

issued_text071 : List ℕ
issued_text071 = bytes "payer=071\nnumber=000001\npayee=0071\namount=000100\ndeps=01\ndep=71:000001\n"

ours : List Bool
ours =
    -- "numbered on from applied + 1": a lawful state, and with taken and applied raised by one no longer
    same_bytes ((asked stuck (bytes "71")).answer ∷ (taken stuck small (replicate 128 0)).answer ∷ []) (0 ∷ 0 ∷ []) ∷
    same_bytes
    ((asked raised (bytes "71")).answer ∷ (taken raised small (replicate 128 0)).answer ∷ (issued raised (bytes "071") 1 lent_buffer).answer ∷ [])
    (13 ∷ 13 ∷ 13 ∷ []) ∷
    -- issue after being paid: one dependency, and the marks cleared
    same_bytes (issues.answer ∷ issues.count ∷ issued_buffer own071 (bytes "0071") 100 lent_buffer) (0 ∷ 71 ∷ issued_text071 ++ replicate 295 7) ∷
    same_bytes (marks own071 ++ marks issues.replica) (1 ∷ 0 ∷ 0 ∷ 0 ∷ 0 ∷ 0 ∷ []) ∷
    -- issue again: busy
    same_bytes ((issued issues.replica (bytes "71") 1 lent_buffer).answer ∷ []) (8 ∷ []) ∷
    -- the issued text taken back is applied, and the own shop may issue again
    same_bytes ((taken issues.replica issued_text071 (replicate 128 9)).count ∷ taken_list issues.replica issued_text071 (replicate 128 9)) (1 ∷ 1 ∷ replicate 127 9) ∷
    same_bytes (balances (after issues.replica (issued_text071 ∷ []))) (200 ∷ 200 ∷ 200 ∷ []) ∷
    same_bytes ((issued (after issues.replica (issued_text071 ∷ [])) (bytes "71") 1 lent_buffer).answer ∷ []) (0 ∷ []) ∷
    []

holds : all_true (tried ++ ours) ≡ true
unfolding tried ours balances marks stuck small raised issues issued_text071 lent_buffer shown_to own071 after answers opens big register_own concat example A B payee_part payee_of issue_rows issued_slip issuing issued issued_buffer balance_rows asked code_of taken taken_list take_rows entered opened fresh ready apply scan settle order waits line_kept numbered_on paid_by_shop slips_pass lawful range? shop? rising deps? passes number_for waiting_of deps_from slip_of sum_to every slip_layout slip_in slip_read register_layout register_in place twins register_answer register_text_answer register_read first same_code digits one_more numeral run past joined several whole same_bytes all_of all_true
holds = refl
