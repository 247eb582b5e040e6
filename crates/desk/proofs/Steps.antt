-- The desk byte by byte: windows one after the other, a byte, a desk that has stopped, the end of the input.
use mathlib.Core.Path.{◌≡◌, refl, sym, ap, ap₂, ◌∙◌}
use mathlib.Core.Bool.{Bool, true, false, not, ◌&&◌, ◌||◌}
use mathlib.Core.List.{List, [], ◌∷◌, ◌++◌, append_assoc}
use Prim.Native.Nat.{ℕ}
use lib.Dec.{eqb}
use Rattle.texts.proofs.Steps.{both}
use Rattle.replica.specs.declared.record.Replica.{Replica}
use Rattle.replica.specs.State.{lawful}
use Rattle.desk.specs.declared.desk.Desk.{Desk}
use Rattle.desk.specs.Chunks.{empty_line, cut}
use Rattle.desk.specs.Printed.{joined, shops_printed}
use Rattle.desk.specs.Desk.{stopped, opens, takes, ends, end_said, keeps, step, step_said, fed, said, unended, last, last_said, closing}
use Rattle.desk.specs.Windows.{said_to}

-- ---- windows one after the other

pub fed-append : (d : Desk) (u w : List ℕ) → fed d (u ++ w) ≡ fed (fed d u) w
unfolding fed
fed-append d [] w = refl
fed-append d (b ∷ u) w = fed-append (step d b) u w

pub said-append : (d : Desk) (u w : List ℕ) → said d (u ++ w) ≡ said d u ++ said (fed d u) w
unfolding said fed
said-append d [] w = refl
said-append d (b ∷ u) w = ap (λ l. step_said d b ++ l) (said-append (step d b) u w) ∙ sym (append_assoc (step_said d b) (said (step d b) u) (said (fed (step d b) u) w))

pub said-joined : (d : Desk) (ws : List (List ℕ)) → said_to d ws ≡ said d (joined ws)
unfolding said_to said joined
said-joined d [] = refl
said-joined d (w ∷ ws) = ap (λ l. said d w ++ l) (said-joined (fed d w) ws) ∙ sym (said-append d w (joined ws))

-- ---- a byte, and all that is said from it on

abbrev pub output : Desk → List ℕ → List ℕ
output d w = said d w ++ closing (fed d w)

pub output-append : (d : Desk) (u w : List ℕ) → output d (u ++ w) ≡ said d u ++ output (fed d u) w
output-append d u w =
    ap₂ (λ l x. l ++ closing x) (said-append d u w) (fed-append d u w) ∙ append_assoc (said d u) (said (fed d u) w) (closing (fed (fed d u) w))

pub end-output : (d : Desk) → output d [] ≡ closing d
unfolding said fed
end-output d = refl

ends-begins : (d : Desk) → (ends d).begins ≡ d.begins
unfolding ends opens takes
ends-begins d = go d.opened refl
  where
    go : (t : Bool) → d.opened ≡ t → (ends d).begins ≡ d.begins
    go true e = rw (e, ends)
    go false e = rw (e, ends)

-- it ends the chunk c or goes on with it, as where the input is cut
pub byte-output : (d : Desk) (c : List ℕ) (b : ℕ) (w : List ℕ) (prints : List (List ℕ) → List ℕ) → stopped d ≡ false
    → end_said d ++ output (ends d) w ≡ prints (c ∷ cut [] (ends d).begins w)
    → output (keeps d b) w ≡ prints (cut (c ++ (b ∷ [])) (keeps d b).begins w)
    → output d (b ∷ w) ≡ prints (cut c d.begins (b ∷ w))
unfolding said fed step step_said cut keeps
byte-output d c b w prints going ended on = go (empty_line d.begins b) refl
  where
    go : (t : Bool) → empty_line d.begins b ≡ t → output d (b ∷ w) ≡ prints (cut c d.begins (b ∷ w))
    go true e =
        let f : (ends d).begins ≡ true = ends-begins d ∙ (both d.begins (eqb b 10) e).0 in
        let i : prints (c ∷ cut [] (ends d).begins w) ≡ prints (cut c d.begins (b ∷ w)) = rw (e, cut) (ap (λ t. prints (c ∷ cut [] t w)) f) in
        rw (going, e, step, step_said) (append_assoc (end_said d) (said (ends d) w) (closing (fed (ends d) w)) ∙ ended ∙ i)
    go false e =
        let i : prints (cut (c ++ (b ∷ [])) (eqb b 10) w) ≡ prints (cut c d.begins (b ∷ w)) = rw (e, cut) in
        rw (going, e, step, step_said) (on ∙ i)

-- ---- a desk that has stopped

pub stopped-fed : (d : Desk) (w : List ℕ) → stopped d ≡ true → fed d w ≡ d
unfolding fed step
stopped-fed d [] e = refl
stopped-fed d (b ∷ w) e = rw (e, step) (stopped-fed d w e)

pub stopped-said : (d : Desk) (w : List ℕ) → stopped d ≡ true → said d w ≡ []
unfolding said step step_said
stopped-said d [] e = refl
stopped-said d (b ∷ w) e = rw (e, step, step_said) (stopped-said d w e)

pub stopped-output : (d : Desk) (w : List ℕ) → stopped d ≡ true → output d w ≡ closing d
stopped-output d w e = ap₂ (λ l x. l ++ closing x) (stopped-said d w e) (stopped-fed d w e)

-- ---- the end of the input

-- the shops, where there is a replica
unfoldable pub shops_if : Replica → List ℕ
shops_if self = elim (lawful self) [ true ↦ shops_printed self | false ↦ [] ]

pub shops-there : (self : Replica) → lawful self ≡ true → shops_if self ≡ shops_printed self
unfolding shops_if
shops-there self e = rw (e, shops_if)

pub no-shops : (self : Replica) → lawful self ≡ false → shops_if self ≡ []
unfolding shops_if
no-shops self e = rw (e, shops_if)

-- no chunk is left, or one that no empty line ended
pub last_none : (d : Desk) → unended d ≡ false → (d ≡ last d) × ([] ≡ last_said d)
unfolding last last_said
last_none d e = rw (e, last, last_said) (refl, refl)

pub last-ends : (d : Desk) → unended d ≡ true → (ends d ≡ last d) × (end_said d ≡ last_said d)
unfolding last last_said
last-ends d e = rw (e, last, last_said) (refl, refl)

-- its lines, and then the shops
pub closing-is : (d e : Desk) (t : List ℕ) → (e ≡ last d) × (t ≡ last_said d) → t ++ shops_if e.replica ≡ closing d
unfolding closing shops_if
closing-is d e t s = ap₂ (λ l (x : Desk). l ++ shops_if x.replica) s.1 s.0

pub closing-ended : (d : Desk) → unended d ≡ false → closing d ≡ shops_if d.replica
closing-ended d e = sym (closing-is d d [] (last_none d e))

pub closing-unended : (d : Desk) → unended d ≡ true → closing d ≡ end_said d ++ shops_if (ends d).replica
closing-unended d e = sym (closing-is d (ends d) (end_said d) (last-ends d e))

pub closing-stopped : (d : Desk) → stopped d ≡ true → closing d ≡ shops_if d.replica
closing-stopped d e = closing-ended d (ap (λ t. not t && (not d.opened || not (eqb d.len 0))) e)
