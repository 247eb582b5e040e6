-- The starred bench trials: "On the example's register, each from a fresh replica." One table, one proof (proofs/Trials).
use Rattle.std.specs.Prelude.{◌≡◌, Bool, true, List, [], ◌∷◌, ◌++◌, map, ℕ, length, take, replicate}
use Rattle.texts.specs.Bytes.{bytes, same_bytes, all_of}
use Rattle.texts.specs.Written.{over}
use Rattle.replica.specs.Bounds.{list_room}
use Rattle.replica.specs.declared.record.Shop.{Shop}
use Rattle.replica.specs.declared.record.Line.{Line}
use Rattle.replica.specs.declared.record.Replica.{Replica}
use Rattle.replica.specs.Record.{shop_count}
use Rattle.replica.specs.Open.{opened}
use Rattle.replica.specs.Take.{taken, taken_list}

-- The lent list.
abbrev pub lent : List ℕ
lent = replicate list_room 255

-- What a take gives: its answer, its count, and the whole lent list.
abbrev pub gives : ℕ → List ℕ → List ℕ
gives answer positions = answer ∷ length positions ∷ over positions lent

-- What is seen in a trial: what each take gives, then each shop's balance, then how many wait for each shop.
unfoldable pub seen : Replica → List (List ℕ) → List ℕ
seen self [] =
    take (shop_count self) (map (λ (s : Shop). s.balance) self.shops) ++ take (shop_count self) (map (λ (l : Line). l.count) self.lines)
seen self (text ∷ texts) =
    let o = taken self text lent in
    (o.answer ∷ o.count ∷ taken_list self text lent) ++ seen o.replica texts

pub record Trial : Type 0 where
  pub register : List ℕ
  pub slips : List (List ℕ)
  pub takes : List (List ℕ)
  pub balances : List ℕ
  pub waiting : List ℕ

unfoldable pub concat : List (List ℕ) → List ℕ
concat [] = []
concat (l ∷ ls) = l ++ concat ls

unfoldable pub holds : Trial → Bool
holds t = same_bytes (seen (opened t.register).replica t.slips) (concat t.takes ++ t.balances ++ t.waiting)

unfoldable pub example : List ℕ
example = bytes "shops=03\nshop=71:000500\nshop=071:000000\nshop=0071:000100\nown=71\n"

unfoldable pub A : List ℕ
A = bytes "payer=071\nnumber=000001\npayee=0071\namount=000200\ndeps=01\ndep=71:000001\n"

unfoldable pub B : List ℕ
B = bytes "payer=71\nnumber=000001\npayee=071\namount=000300\ndeps=00\n"

unfoldable pub on : List (List ℕ) → List (List ℕ) → List ℕ → List ℕ → Trial
on slips takes balances waiting = record { register = example; slips = slips; takes = takes; balances = balances; waiting = waiting }

unfoldable pub trials : List Trial
trials =
    -- 1. A: taken, 0 applied.
    on (A ∷ []) (gives 0 [] ∷ []) (500 ∷ 0 ∷ 100 ∷ []) (0 ∷ 1 ∷ 0 ∷ []) ∷
    -- 2. A, then B: list 0, 1.
    on (A ∷ B ∷ []) (gives 0 [] ∷ gives 0 (0 ∷ 1 ∷ []) ∷ []) (200 ∷ 100 ∷ 300 ∷ []) (0 ∷ 0 ∷ 0 ∷ []) ∷
    -- 3. B twice: second 6.
    on (B ∷ B ∷ []) (gives 0 (0 ∷ []) ∷ gives 6 [] ∷ []) (200 ∷ 300 ∷ 100 ∷ []) (0 ∷ 0 ∷ 0 ∷ []) ∷
    -- 4. 71 pays 500: applied, balance 0.
    on (bytes "payer=71\nnumber=000001\npayee=071\namount=000500\ndeps=00\n" ∷ []) (gives 0 (0 ∷ []) ∷ []) (0 ∷ 500 ∷ 100 ∷ []) (0 ∷ 0 ∷ 0 ∷ []) ∷
    -- 5. 71 pays 501: taken, waits.
    on (bytes "payer=71\nnumber=000001\npayee=071\namount=000501\ndeps=00\n" ∷ []) (gives 0 [] ∷ []) (500 ∷ 0 ∷ 100 ∷ []) (1 ∷ 0 ∷ 0 ∷ []) ∷
    -- 6. First slip numbered 2: 6.
    on (bytes "payer=71\nnumber=000002\npayee=071\namount=000300\ndeps=00\n" ∷ []) (gives 6 [] ∷ []) (500 ∷ 0 ∷ 100 ∷ []) (0 ∷ 0 ∷ 0 ∷ []) ∷
    -- 7. Payee 00071: 2.
    on (bytes "payer=71\nnumber=000001\npayee=00071\namount=000300\ndeps=00\n" ∷ []) (gives 2 [] ∷ []) (500 ∷ 0 ∷ 100 ∷ []) (0 ∷ 0 ∷ 0 ∷ []) ∷
    -- 8. 71 pays 71: 3.
    on (bytes "payer=71\nnumber=000001\npayee=71\namount=000300\ndeps=00\n" ∷ []) (gives 3 [] ∷ []) (500 ∷ 0 ∷ 100 ∷ []) (0 ∷ 0 ∷ 0 ∷ []) ∷
    -- 9. Amount 000000: 4.
    on (bytes "payer=71\nnumber=000001\npayee=071\namount=000000\ndeps=00\n" ∷ []) (gives 4 [] ∷ []) (500 ∷ 0 ∷ 100 ∷ []) (0 ∷ 0 ∷ 0 ∷ []) ∷
    -- 10. 71's slip with dependency 71:000001: 5.
    on (bytes "payer=71\nnumber=000001\npayee=071\namount=000300\ndeps=01\ndep=71:000001\n" ∷ []) (gives 5 [] ∷ []) (500 ∷ 0 ∷ 100 ∷ []) (0 ∷ 0 ∷ 0 ∷ []) ∷
    -- 12. 71 and 071 each depend on the other's first slip: both wait for ever; 0071 still pays 100.
    on
    (bytes "payer=71\nnumber=000001\npayee=071\namount=000010\ndeps=01\ndep=071:000001\n" ∷
    bytes "payer=071\nnumber=000001\npayee=71\namount=000010\ndeps=01\ndep=71:000001\n" ∷
    bytes "payer=0071\nnumber=000001\npayee=71\namount=000100\ndeps=00\n" ∷ [])
    (gives 0 [] ∷ gives 0 [] ∷ gives 0 (2 ∷ []) ∷ []) (600 ∷ 0 ∷ 0 ∷ []) (1 ∷ 1 ∷ 0 ∷ []) ∷
    []

-- Rows of our own. "One pass over the shops and no more: in trial 2 with the register turned round, A stays behind." And "a later slip of a
-- shop passing its stuck first one": 71's second slip waits behind its first, though there is credit for it.
unfoldable pub ours : List Trial
ours =
    record {
      register = bytes "shops=03\nshop=0071:000100\nshop=071:000000\nshop=71:000500\nown=71\n";
      slips = A ∷ B ∷ [];
      takes = gives 0 [] ∷ gives 0 (2 ∷ 1 ∷ []) ∷ [];
      balances = 300 ∷ 100 ∷ 200 ∷ [];
      waiting = 0 ∷ 0 ∷ 0 ∷ [];
    } ∷
    on
    (bytes "payer=71\nnumber=000001\npayee=071\namount=000501\ndeps=00\n" ∷ bytes "payer=71\nnumber=000002\npayee=071\namount=000001\ndeps=00\n" ∷ [])
    (gives 0 [] ∷ gives 0 [] ∷ []) (500 ∷ 0 ∷ 100 ∷ []) (2 ∷ 0 ∷ 0 ∷ []) ∷
    []

-- Every row holds, as a test that computes.
abbrev pub TrialsHold : Type 0
TrialsHold = all_of holds (trials ++ ours) ≡ true
