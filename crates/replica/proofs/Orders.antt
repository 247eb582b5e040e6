-- Why the order of arrival does not matter, over any kind of slip: what is applied somewhere is applied wherever settling has come to its end
-- over the same or longer lines.
use mathlib.Core.Path.{◌≡◌, sym, ap, ◌∙◌, subst}
use mathlib.Core.Logic.{◌≢◌}
use mathlib.Core.Bool.{Bool, true}
use mathlib.Core.List.{List, [], ◌∷◌, ◌++◌, append_assoc, append-nil}
use Prim.Native.Nat.{ℕ, suc, ◌+◌, ◌≤◌, ◌<◌}
use native.Mathlib.Omega.{arith}
use lib.ListN.{length, length-append}
use Rattle.replica.specs.Record.{sum_to}
use Rattle.replica.proofs.Sums.{either, sum_more}
use Rattle.replica.proofs.Only.{only, only_self, only-other, sum-le, Begins, same_rest}

-- A number for each element, added up.
unfoldable pub total : {A : Type 0} → (A → ℕ) → List A → ℕ
total f [] = 0
total f (s ∷ l) = f s + total f l

pub total-append : {A : Type 0} (f : A → ℕ) (l m : List A) → total f (l ++ m) ≡ total f l + total f m
unfolding total
total-append f [] m = omega arith
total-append f (s ∷ l) m = omega (arith, total-append f l m)

-- Slips of any kind, and what a shop needs to apply one. Each moves one good (credit is good 0).
pub record Trade : Type 1 where
  pub Paper : Type 0
  pub shops : ℕ
  pub number : Paper → ℕ
  pub good : Paper → ℕ
  -- of a good: what a slip costs its payer; what it brings a shop; what a shop has at the beginning
  pub costs : ℕ → Paper → ℕ
  pub brings : ℕ → ℕ → Paper → ℕ
  pub stock : ℕ → ℕ → ℕ
  -- its dependencies, by how many slips each shop has applied: met once, they stay met
  pub met : (ℕ → ℕ) → Paper → Bool
  pub stays : (a b : ℕ → ℕ) → ((q : ℕ) → q < shops → a q ≤ b q) → (s : Paper) → met a s ≡ true → met b s ≡ true

module _ (T : Trade) where
  -- Per position the slips, first to last: all of them (t, u), or those that are applied (s, v).
  abbrev pub Papers : Type 0
  Papers = ℕ → List T.Paper

  abbrev pub Prefix : Papers → Papers → Type 0
  Prefix t u = (q : ℕ) → q < T.shops → Begins (t q) (u q)

  unfoldable pub got : Papers → ℕ → ℕ → ℕ
  got s p g = sum_to T.shops (λ q. total (T.brings p g) (s q))

  unfoldable pub spent : Papers → ℕ → ℕ → ℕ
  spent s p g = total (T.costs g) (s p)

  -- The slip is shop p's next, and may be applied.
  pub record Enabled (t s : Papers) (p : ℕ) (slip : T.Paper) : Type 0 where
    pub inside : p < T.shops
    pub rest : List T.Paper
    pub next : s p ++ (slip ∷ rest) ≡ t p
    pub number : T.number slip ≡ suc (length (s p))
    pub funds : spent s p (T.good slip) + T.costs (T.good slip) slip ≤ T.stock p (T.good slip) + got s p (T.good slip)
    pub deps : T.met (λ q. length (s q)) slip ≡ true

  unfoldable pub Settled : Papers → Papers → Type 0
  Settled t s = (p : ℕ) (x : T.Paper) → Enabled t s p x → ⊥

  -- Everything applied in s is applied wherever settling has ended over longer lines.
  unfoldable pub Least : Papers → Papers → Type 0
  Least t s = (u v : Papers) → Prefix t u → Prefix v u → Settled u v → Prefix s v

  -- ---- a slip that may be applied stays so until it is

  begins-length : {A : Type 0} (l m : List A) → Begins l m → length l ≤ length m
  begins-length l m (r, e) = omega (arith, length-append l r, ap length e)

  got-le : (s v : Papers) → Prefix s v → (p g : ℕ) → got s p g ≤ got v p g
  unfolding got
  got-le s v pre p g = sum-le T.shops _ _ (λ q l.
      omega (arith, total-append (T.brings p g) (s q) (pre q l).0, ap (total (T.brings p g)) (pre q l).1))

  persist : (t u s v : Papers) (p : ℕ) (x : T.Paper) → Prefix t u → Prefix s v → s p ≡ v p → Enabled t s p x → Enabled u v p x
  unfolding spent
  persist t u s v p x pre more e en =
      let b = pre p en.inside in
      record {
        inside = en.inside;
        rest = en.rest ++ b.0;
        next = sym (append_assoc (v p) (x ∷ en.rest) b.0) ∙ ap (λ (l : List T.Paper). (l ++ (x ∷ en.rest)) ++ b.0) (sym e) ∙ ap (λ (l : List T.Paper). l ++ b.0) en.next ∙ b.1;
        number = en.number ∙ ap (λ (l : List T.Paper). suc (length l)) e;
        funds = omega (arith, en.funds, got-le s v more p (T.good (x)), ap (total (T.costs (T.good (x)))) e);
        deps = T.stays _ _ (λ q l. begins-length (s q) (v q) (more q l)) (x) en.deps;
      }

  -- ---- nothing applied; longer lines; one slip more

  pub least_start : (t s : Papers) → ((q : ℕ) → s q ≡ []) → Least t s
  unfolding Least
  least_start t s e u v pre in-u settled q l = (v q, ap (λ (x : List T.Paper). x ++ v q) (e q))

  pub least-grow : (t u s : Papers) → Prefix t u → Least t s → Least u s
  unfolding Least
  least-grow t u s pre le w v pre' in-w settled =
      le w v
      (λ x l. ((pre x l).0 ++ (pre' x l).0, sym (append_assoc (t x) (pre x l).0 (pre' x l).0) ∙ ap (λ (z : List T.Paper). z ++ (pre' x l).0) (pre x l).1 ∙ (pre' x l).1))
      in-w settled

  module _ (s s' : Papers) (p : ℕ) (x : T.Paper) (here : s' p ≡ s p ++ (x ∷ [])) (others : (q : ℕ) → q ≢ p → s' q ≡ s q) where
    total-more : (f : T.Paper → ℕ) → total f (s' p) ≡ total f (s p) + f x
    unfolding total
    total-more f = ap (total f) here ∙ total-append f (s p) (x ∷ []) ∙ omega arith

    pub spent-step : (q g : ℕ) → spent s' q g ≡ spent s q g + only p (T.costs g x) q
    unfolding spent
    spent-step q g = either q p
        (λ j. omega (arith, total-more (T.costs g), ap (λ (i : ℕ). total (T.costs g) (s' i)) j, ap (λ (i : ℕ). total (T.costs g) (s i)) j, only_self p (T.costs g x) q j))
        (λ j. omega (arith, ap (total (T.costs g)) (others q j), only-other p (T.costs g x) q j))

    pub got-step : p < T.shops → (q g : ℕ) → got s' q g ≡ got s q g + T.brings q g x
    unfolding got
    got-step l q g = sum_more T.shops (λ i. total (T.brings q g) (s' i)) (λ i. total (T.brings q g) (s i)) p (T.brings q g x) l (total-more (T.brings q g)) (λ i d. ap (total (T.brings q g)) (others i d))

  pub least_step : (t s s' : Papers) (p : ℕ) (x : T.Paper) → Least t s → Enabled t s p x → s' p ≡ s p ++ (x ∷ []) → ((q : ℕ) → q ≢ p → s' q ≡ s q) → Least t s'
  unfolding Least Settled
  least_step t s s' p x le en here others u v pre in-u settled q l =
      either q p
      (λ j. subst (λ (i : ℕ). Begins (s' i) (v i)) (sym j) (first (below p en.inside).0 (below p en.inside).1))
      (λ j. subst (λ (z : List T.Paper). Begins z (v q)) (sym (others q j)) (below q l))
    where
      below : Prefix s v
      below = le u v pre in-u settled

      first : (r : List T.Paper) → s p ++ r ≡ v p → Begins (s' p) (v p)
      first [] e = absurd (settled p x (persist t u s v p x pre below (sym (append-nil (s p)) ∙ e) en))
      first (y ∷ r) e =
          let a = pre p en.inside in
          let b = in-u p en.inside in
          let m : s p ++ (x ∷ (en.rest ++ a.0)) ≡ u p = sym (append_assoc (s p) (x ∷ en.rest) a.0) ∙ ap (λ (z : List T.Paper). z ++ a.0) en.next ∙ a.1 in
          let k : s p ++ (y ∷ (r ++ b.0)) ≡ u p = sym (append_assoc (s p) (y ∷ r) b.0) ∙ ap (λ (z : List T.Paper). z ++ b.0) e ∙ b.1 in
          let c : x ∷ (en.rest ++ a.0) ≡ y ∷ (r ++ b.0) = same_rest (s p) _ _ (m ∙ sym k) in
          let i : x ≡ y = cc in
          (r, ap (λ (z : List T.Paper). z ++ r) here ∙ append_assoc (s p) (x ∷ []) r ∙ ap (λ (z : T.Paper). s p ++ (z ∷ r)) i ∙ e)
