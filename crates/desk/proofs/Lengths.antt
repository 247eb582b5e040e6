-- How long the texts are that the desk prints at one byte and at the end.
use mathlib.Core.Path.{◌≡◌, refl, sym, ap, ◌∙◌}
use mathlib.Core.Bool.{Bool, true, false}
use mathlib.Core.List.{List, ◌++◌}
use Prim.Native.Nat.{ℕ, zero, suc, ◌+◌, ◌*◌, ◌≤◌, ◌<◌}
use native.Mathlib.Omega.{arith}
use native.Mathlib.Nat.{suc-mul, mul-le-mul_right, le_trans}
use lib.ListN.{length, take, drop, length-append}
use lib.Seq.{length-take-le}
use Rattle.texts.specs.Bytes.{bytes}
use Rattle.texts.specs.Lines.{code_line}
use Rattle.texts.specs.Answers.{why}
use Rattle.texts.specs.Written.{over}
use Rattle.texts.specs.Code.{is_code}
use Rattle.texts.specs.declared.code.Code.{Code}
use Rattle.texts.proofs.Legal.{register-legal}
use Rattle.texts.proofs.Lengths.{code-line-most}
use Rattle.texts.proofs.Paging.{line-length}
use Rattle.texts.proofs.Promises.{why-at-most}
use Rattle.replica.specs.declared.record.Replica.{Replica}
use Rattle.replica.specs.Outcome.{Outcome}
use Rattle.replica.specs.Bounds.{list_room}
use Rattle.replica.specs.Record.{listed_at, shop_count, shop_at, line_at}
use Rattle.replica.specs.Slips.{firsts}
use Rattle.replica.specs.State.{lawful}
use Rattle.replica.specs.Open.{opened}
use Rattle.replica.specs.Take.{taken}
use Rattle.replica.proofs.Parts.{parts}
use Rattle.replica.proofs.Promises.{count-at-most}
use Rattle.desk.specs.declared.desk.Desk.{Desk}
use Rattle.desk.specs.Bounds.{most_said}
use Rattle.desk.specs.Printed.{numbered, register_line, answer_lines, slip_lines, numbers_lines, shop_lines, joined, shop_printed, shops_printed, lent}
use Rattle.desk.specs.Desk.{kept, unended, end_said, last_said}
use Rattle.desk.proofs.Reporting.{joined-none, more-length, has_code}

-- ---- at one byte

pub register-line-most : (answer : ℕ) → length (register_line answer) ≤ most_said
register-line-most answer = omega (arith, line-length (bytes "register=") 2 answer)

answer-lines-most : (answer : ℕ) → length (answer_lines answer) ≤ 23
answer-lines-most answer =
    let w = why answer in
    omega (arith, length-append (numbered (bytes "answer=") 2 answer) (bytes "why=" ++ (w ++ bytes "\n")), line-length (bytes "answer=") 2 answer, length-append (bytes "why=") (w ++ bytes "\n"), length-append w (bytes "\n"), why-at-most answer)

pub slip-lines-most : (slip answer applied : ℕ) → length (slip_lines slip answer applied) ≤ most_said
slip-lines-most slip answer applied =
    let a = answer_lines answer in
    let n = numbered (bytes "applied=") 3 applied in
    omega (arith, length-append (numbered (bytes "slip=") 6 slip) (a ++ n), length-append a n, line-length (bytes "slip=") 6 slip, answer-lines-most answer, line-length (bytes "applied=") 3 applied)

-- the one or the other
either-most : (n : ℕ) (b : Bool) (t u : List ℕ) → length t ≤ n → length u ≤ n → length {A = ℕ} (elim b [ true ↦ t | false ↦ u ]) ≤ n
either-most n true t u h k = h
either-most n false t u h k = k

pub end-said-most : (d : Desk) → length (end_said d) ≤ most_said
unfolding end_said
end-said-most d =
    let o = taken d.replica (kept d) lent in
    either-most most_said d.opened _ _ (slip-lines-most (d.slips + 1) o.answer o.count) (register-line-most (opened (kept d)).answer)

pub last-said-most : (d : Desk) → length (last_said d) ≤ most_said
unfolding last_said
last-said-most d = either-most most_said (unended d) _ _ (end-said-most d) (omega arith)

-- ---- the shops

numbers-length : (balance applied waits : ℕ) → length (numbers_lines balance applied waits) ≡ 37
numbers-length balance applied waits =
    let a = numbered (bytes "done=") 6 applied in
    let w = numbered (bytes "waits=") 1 waits in
    omega (arith, length-append (numbered (bytes "balance=") 8 balance) (a ++ w), length-append a w, line-length (bytes "balance=") 8 balance, line-length (bytes "done=") 6 applied, line-length (bytes "waits=") 1 waits)

shop-lines-most : (code : Code) (balance applied waits : ℕ) → is_code code ≡ true → length (shop_lines code balance applied waits) ≤ 51
shop-lines-most code balance applied waits h =
    let t = (code_line (bytes "shop=")).text code in
    omega (arith, length-append t (numbers_lines balance applied waits), (code-line-most (bytes "shop=") 14 refl).most code h, numbers-length balance applied waits)

joined-most : (m n : ℕ) (f : ℕ → List ℕ) → ((i : ℕ) → i < n → length (f i) ≤ m) → length (joined (firsts n f)) ≤ n * m
joined-most m zero f h = omega (arith, ap length (joined-none f))
joined-most m (suc n) f h = omega (arith, suc-mul n m, more-length f n, h n (omega arith), joined-most m n f (λ i l. h i (omega arith)))

pub shops-most : (self : Replica) → lawful self ≡ true → length (shops_printed self) ≤ 816
unfolding shops_printed
shops-most self l =
    let few = (register-legal self.register (parts self l).register).fits.most in
    le_trans (joined-most 51 (shop_count self) (shop_printed self) (λ i h. shop-lines-most (listed_at self.register i).code (shop_at self i).balance (shop_at self i).applied (line_at self i).count (has_code self l i h))) (mul-le-mul_right 51 few)

-- ---- the front of a page

-- What was put over a page lies within it.
pub front_fits : (text page after : List ℕ) (count : ℕ) → count ≡ length text → after ≡ over text page → count ≤ length after
front_fits text page after count e h = omega (arith, ap length h ∙ length-append text (drop (length text) page))

pub front_length : (text page after : List ℕ) (count : ℕ) → count ≡ length text → after ≡ over text page → count ≡ length (take count after)
front_length text page after count e h = sym (length-take-le count after (front_fits text page after count e h))

-- ---- the slips that one take applies

pub count_fits : (o : Outcome) (self : Replica) (text list : List ℕ) → o ≡ taken self text list → o.count ≤ list_room
count_fits o self text list e = omega (arith, ap (λ (o : Outcome). o.count) e, count-at-most self text list)
