-- What private functions promise one another, here and in the desk (`Room`, `Wrote`). No public promise rests on a word of it.
use Rattle.std.specs.Prelude.{Option, None, Some, ◌≡◌, List, ◌++◌, ℕ, ◌+◌, ◌-◌, ◌≤◌, length, take, drop, replicate}
use Rattle.std.proofs.Math.Option.{none, some}
use Rattle.texts.specs.Bounds.{code_places}
use Rattle.texts.specs.Layout.{Layout}
use Rattle.texts.specs.Leaf.{run}
use Rattle.texts.specs.declared.code.Code.{Code}
use Rattle.texts.specs.declared.cursor.Cursor.{Cursor}
use Rattle.texts.specs.declared.pen.Pen.{Pen}

-- ---- reading

-- Reading L at the front of t answers r: the value that stands there, and t' is left; or nothing, where none stands there.
abbrev pub Reads : {A : Type 0} → Layout A → List ℕ → Option A → List ℕ → Type 0
Reads L t None t' = L.read t ≡ none
Reads L t (Some v) t' = L.read t ≡ some (v, t')

-- Reading L in s from the place c, if that is no place past the end, answers r: the value that stands there and the place after it, or nothing.
abbrev pub ReadsAt : {A : Type 0} → Layout A → List ℕ → Cursor → Option (A × Cursor) → Type 0
ReadsAt L s c None = c.at ≤ length s → L.read (drop c.at s) ≡ none
ReadsAt L s c (Some p) = c.at ≤ length s → (p.1.at ≤ length s) × (L.read (drop c.at s) ≡ some (p.0, drop p.1.at s))

-- What a step that has no value answered.
abbrev pub passed : Option Cursor → Option (Unit {0} × Cursor)
passed None = None
passed (Some e) = Some (tt, e)

-- c holds the digits at the front of t, as many as there are, up to eight.
pub record Held (t : List ℕ) (c : Code) : Type 0 where
  pub in-t : c.len ≤ length t
  pub fits : c.len ≤ code_places
  pub front : run code_places t ≡ (take c.len t, drop c.len t)
  pub digits : c.digits ≡ take c.len t ++ replicate (code_places - c.len) 0

-- ---- writing

-- There is room for t in the buffer d from `at` on.
pub record Room (d : List ℕ) (at : ℕ) (t : List ℕ) : Type 0 where
  pub fits : at + length t ≤ length d

-- t was written into d from `at` on, which gave d'; `next` is past it.
pub record Wrote (d : List ℕ) (at : ℕ) (t d' : List ℕ) (next : ℕ) : Type 0 where
  pub fits : at + length t ≤ length d
  pub past : next ≡ at + length t
  pub size : length d' ≡ length d
  pub holds : d' ≡ take at d ++ t ++ drop (at + length t) d

-- The page of a pen has room for t from the pen's place on.
abbrev pub RoomFor : Pen → List ℕ → Type 0
RoomFor p t = Room p.page.now p.at t

-- The pen p wrote t on its page, which left it as q: past t, on the same page.
pub record Writes (p q : Pen) (t : List ℕ) : Type 0 where
  pub same_page : q.page.ghost_name ≡ p.page.ghost_name
  pub wrote : Wrote p.page.now p.at t q.page.now q.at
