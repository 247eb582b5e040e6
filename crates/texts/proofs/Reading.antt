-- Reading at a place in a text: a word, a number, a code; and the lines of a group, one after the other.
use mathlib.Core.Path.{◌≡◌, refl, sym, ap, ap₂, ◌∙◌}
use mathlib.Core.Bool.{Bool, true, false, ◌&&◌, false≢true}
use mathlib.Core.Logic.{◌⊎◌, inl, inr}
use mathlib.Core.Option.{Option, none, some}
use mathlib.Core.List.{List, [], ◌∷◌, ◌++◌}
use Prim.Native.Nat.{ℕ, zero, suc, ◌+◌, ◌-◌, ◌≤◌, ◌<◌}
use native.Mathlib.Omega.{arith}
use native.Mathlib.Numerals.{add-one}
use native.Mathlib.Nat.{add_assoc, add-suc}
use lib.Dec.{eqb, leb}
use lib.ListN.{length, take, drop, get_or, set, replicate, length-drop}
use lib.Seq.{take_all, take-suc-set, drop-drop, drop-cons, length-take-le, take-length}
use borrow.Author.Tests.{leb-true, le-leb}
use Rattle.std.specs.List.{starts_with}
use Rattle.std.proofs.lemmas.List.{drop-replicate}
use Rattle.std.proofs.lemmas.Bool.Decides.{Decides-eqb}
use Rattle.std.proofs.lemmas.Slice.Eq.{starts_is}
use Rattle.texts.specs.Bounds.{code_places}
use Rattle.texts.specs.Bytes.{◌>>=◌, given}
use Rattle.texts.specs.Layout.{Layout, past, word, several, group}
use Rattle.texts.specs.Leaf.{numeral, number}
use Rattle.texts.specs.Code.{code}
use Rattle.texts.specs.Inside.{Held}
use Rattle.texts.specs.declared.code.Code.{Code}
use Rattle.texts.proofs.Steps.{both, and, bind-at, bind-some, bind-none, given-at, given-some}
use Rattle.texts.proofs.Laws.{past_back, past-only}
use Rattle.texts.proofs.LawsLeaf.{finish}

-- a step that gives nothing, since whatever it gave would be wrong
pub none-if : {A : Type 0} (o : Option A) → ((a : A) → o ≡ some a → ⊥) → o ≡ none
none-if none h = refl
none-if (some a) h = absurd (h a refl)

-- ---- the rest of a text, from a place on

-- `&s[at..]`, as the checker has it
abbrev part : List ℕ → ℕ → List ℕ
part s at = take (length s - at) (drop at s)

module _ {A : Type 0} (L : Layout A) (s : List ℕ) (at : ℕ) (t : List ℕ) (e : t ≡ part s at) where
  same : t ≡ drop at s
  same = e ∙ take_all (length s - at) (drop at s) (omega (arith, length-drop at s))

  -- where nothing is read from the rest of a text, nothing stands at that place in it
  pub nothing-there : L.read t ≡ none → at ≤ length s → L.read (drop at s) ≡ none
  nothing-there h _ = ap L.read (sym same) ∙ h

  -- what is read from the rest of a text stands at that place in it
  pub stands-there : (v : A) (n : ℕ) → n ≤ length t → L.read t ≡ some (v, drop n t) → at ≤ length s
      → (at + n ≤ length s) × (L.read (drop at s) ≡ some (v, drop (at + n) s))
  stands-there v n l h k = (
    omega (arith, ap length same, length-drop at s),
    ap L.read (sym same) ∙ h ∙ ap (λ r. some (v, drop n r)) same ∙ ap (λ r. some (v, r)) (drop-drop n at s),
  )

-- ---- a word

module _ (t w : List ℕ) (r : Bool) (e : r ≡ starts_with eqb t w) where
  starts : (r ≡ true → t ≡ w ++ drop (length w) t) × ((rest : List ℕ) → t ≡ w ++ rest → r ≡ true)
  starts = starts_is Decides-eqb t w r e

  pub word-there : r ≡ true → (word w).read t ≡ some (tt, drop (length w) t)
  word-there h = bind-at (past w t) (λ r. some (tt, r)) (drop (length w) t) (ap (past w) (starts.0 h) ∙ past_back w (drop (length w) t))

  pub word-missing : r ≡ false → (word w).read t ≡ none
  word-missing h =
      bind-none (past w t) (λ r. some (tt, r)) (none-if (past w t) (λ q f. false≢true (sym h ∙ starts.1 q (past-only w t q f))))

-- ---- a number

module _ (t : List ℕ) (width least upper : ℕ) where
  abbrev bounded : ℕ × List ℕ → Option (ℕ × List ℕ)
  bounded p = given (leb least p.0 && leb p.0 upper) p

  pub number-there : (v : ℕ) (r : List ℕ) → numeral width t ≡ some (v, r) → least ≤ v → v ≤ upper → (number width least upper).read t ≡ some (v, r)
  number-there v r e h k = bind-at _ bounded _ e ∙ given-at _ (v, r) (and _ _ (le-leb least v h) (le-leb v upper k))

  pub number-missing : numeral width t ≡ none → (number width least upper).read t ≡ none
  number-missing e = bind-none _ bounded e

  -- it is below the least or above the greatest
  pub number-outside : (v : ℕ) (r : List ℕ) → numeral width t ≡ some (v, r) → (v < least) ⊎ ((least ≤ v) × (upper < v)) → (number width least upper).read t ≡ none
  number-outside v r e h =
      bind-at _ bounded _ e
      ∙ none-if (bounded (v, r)) (λ q f.
      let k = given-some (leb least v && leb v upper) (v, r) q f in
      let b = both (leb least v) (leb v upper) k.0 in
      let low = leb-true least v b.0 in
      let high = leb-true v upper b.1 in
      elim h [ inl l ↦ omega arith | inr l ↦ omega (arith, l.1) ])

-- ---- a code

module _ (t : List ℕ) (b : ℕ) (x : Code) (q : Held t x) where
  abbrev made : (List ℕ × ℕ) × List ℕ → Option (Code × List ℕ)
  made p = some (record { digits = p.0.0; len = p.0.1 }, p.1)

  front_length : length (take x.len t) ≡ x.len
  front_length = length-take-le x.len t q.in-t

  code-run : (code b).read t ≡ (finish code_places b (take x.len t, drop x.len t) >>= made)
  code-run = ap (λ p. finish code_places b p >>= made) q.front

  code-there : 0 < x.len → x.len < length t → get_or t x.len 0 ≡ b → (code b).read t ≡ some (x, drop (x.len + 1) t)
  code-there h l e =
      let ds = take x.len t in
      let next : List ℕ → Option ((List ℕ × ℕ) × List ℕ) = λ r. past (b ∷ []) r >>= λ q. some ((ds ++ replicate (code_places - length ds) 0, length ds), q) in
      let rest : drop x.len t ≡ (b ∷ []) ++ drop (x.len + 1) t = drop-cons t x.len 0 l ∙ ap₂ (λ y k. y ∷ drop k t) e (sym (add-one x.len)) in
      let step : finish code_places b (ds, drop x.len t) ≡ some ((ds ++ replicate (code_places - length ds) 0, length ds), drop (x.len + 1) t) =
      bind-at (given (leb 1 (length ds)) (drop x.len t)) next _ (given-at _ _ (le-leb 1 (length ds) (omega (arith, front_length))))
      ∙ bind-at _ (λ q. some ((ds ++ replicate (code_places - length ds) 0, length ds), q)) _ (ap (past (b ∷ [])) rest ∙ past_back (b ∷ []) (drop (x.len + 1) t)) in
      let same : ◌≡◌ {A = Code} (record { digits = ds ++ replicate (code_places - length ds) 0; len = length ds }) x =
      ap (λ k. record { digits = ds ++ replicate (code_places - k) 0; len = k }) front_length ∙ (λ i. record { digits = sym q.digits i; len = x.len }) in
      code-run ∙ bind-at _ made _ step ∙ ap (λ y. some (y, drop (x.len + 1) t)) same

  pub code-missing : (0 < x.len → x.len < length t → get_or t x.len 0 ≡ b → ⊥) → (code b).read t ≡ none
  code-missing h =
      code-run
      ∙ bind-none _ made (none-if (finish code_places b (take x.len t, drop x.len t)) (λ p e.
      let ds = take x.len t in
      let (r, g, i) = bind-some (given (leb 1 (length ds)) (drop x.len t)) (λ r. past (b ∷ []) r >>= λ q. some ((ds ++ replicate (code_places - length ds) 0, length ds), q)) p e in
      let (z, j, _) = bind-some (past (b ∷ []) r) (λ q. some ((ds ++ replicate (code_places - length ds) 0, length ds), q)) p i in
      let k = given-some (leb 1 (length ds)) (drop x.len t) r g in
      let rest : drop x.len t ≡ b ∷ z = k.1 ∙ past-only (b ∷ []) r z j in
      let m : x.len < length t = omega (arith, ap length rest, length-drop x.len t) in
      h (omega (arith, front_length, leb-true 1 (length ds) k.0)) m (ap (λ y. get_or y 0 0) (sym (drop-cons t x.len 0 m) ∙ rest))))

pub code-stands-there : (b : ℕ) (s : List ℕ) (at : ℕ) (t : List ℕ) → t ≡ part s at → (x : Code) → Held t x → 0 < x.len → x.len < length t → get_or t x.len 0 ≡ b
    → at ≤ length s → (at + x.len + 1 ≤ length s) × ((code b).read (drop at s) ≡ some (x, drop (at + x.len + 1) s))
code-stands-there b s at t e x q h l k = rw (add_assoc at x.len 1) (stands-there (code b) s at t e x (x.len + 1) (omega arith) (code-there t b x q h l k))

-- ---- a group in an array

abbrev snoc : {A : Type 0} → List A × List ℕ → A × List ℕ → Option (List A × List ℕ)
snoc p q = some (p.0 ++ (q.0 ∷ []), q.1)

-- one more value, read last
several-more : {A : Type 0} (L : Layout A) (i : ℕ) (s : List ℕ) → several L (suc i) s ≡ (several L i s >>= λ p. L.read p.1 >>= λ q. snoc p q)
unfolding several
several-more L zero s = refl
several-more {A} L (suc i) s = go (L.read s) (several-more L i)
  where
    end : (u : A × List ℕ) (p : List A × List ℕ) (o : Option (A × List ℕ)) → (o >>= λ q. snoc (u.0 ∷ p.0, p.1) q) ≡ ((o >>= λ q. snoc p q) >>= λ q. some (u.0 ∷ q.0, q.1))
    end u p none = refl
    end u p (some q) = refl

    after : (u : A × List ℕ) (o : Option (List A × List ℕ))
        → ((o >>= λ p. some (u.0 ∷ p.0, p.1)) >>= λ p. L.read p.1 >>= λ q. snoc p q) ≡ ((o >>= λ p. L.read p.1 >>= λ q. snoc p q) >>= λ q. some (u.0 ∷ q.0, q.1))
    after u none = refl
    after u (some p) = end u p (L.read p.1)

    go : (o : Option (A × List ℕ)) → ((r : List ℕ) → several L (suc i) r ≡ (several L i r >>= λ p. L.read p.1 >>= λ q. snoc p q))
        → (o >>= λ u. several L (suc i) u.1 >>= λ q. some (u.0 ∷ q.0, q.1))
        ≡ ((o >>= λ u. several L i u.1 >>= λ q. some (u.0 ∷ q.0, q.1)) >>= λ p. L.read p.1 >>= λ q. snoc p q)
    go none ih = refl
    go (some u) ih = ap (λ o. o >>= λ q. some (u.0 ∷ q.0, q.1)) (ih u.1) ∙ sym (after u (several L i u.1))

several-next : {A : Type 0} (L : Layout A) (i : ℕ) (r : List ℕ) → several L (i + 1) r ≡ (several L i r >>= λ p. L.read p.1 >>= λ q. snoc p q)
several-next L i r = rw add-one (several-more L i r)

-- where i of them are not there, no more of them are
several-missing : {A : Type 0} (L : Layout A) (i k : ℕ) (s : List ℕ) → several L i s ≡ none → several L (i + k) s ≡ none
several-missing L i zero s e = ap (λ n. several L n s) (native.Mathlib.Nat.add-zero i) ∙ e
several-missing L i (suc k) s e =
    ap (λ n. several L n s) (add-suc i k) ∙ several-more L (i + k) s ∙ bind-none (several L (i + k) s) _ (several-missing L i k s e)

-- i of them stand at the front of t, as the first i of xs, and u is left
module _ {A : Type 0} (L : Layout A) (t : List ℕ) (i : ℕ) (xs : List A) (u : List ℕ) (e : several L i t ≡ some (take i xs, u)) where
  one_more_read : several L (i + 1) t ≡ (L.read u >>= λ q. snoc (take i xs, u) q)
  one_more_read = several-next L i t ∙ bind-at (several L i t) (λ p. L.read p.1 >>= λ q. snoc p q) _ e

  -- one more
  pub several-set : (x : A) (r : List ℕ) → i < length xs → L.read u ≡ some (x, r) → several L (i + 1) t ≡ some (take (i + 1) (set xs i x), r)
  several-set x r l h =
      let f : take (i + 1) (set xs i x) ≡ take i xs ++ (x ∷ []) = rw (add-one, take-suc-set) in
      one_more_read ∙ bind-at (L.read u) (λ q. snoc (take i xs, u) q) _ h ∙ ap (λ ys. some (ys, r)) (sym f)

  -- one is not there
  pub group-missing : (places : ℕ) (z : A) (unused : A → Bool) (n : ℕ) → i < n → L.read u ≡ none → (group places z unused L n).read t ≡ none
  group-missing places z unused n l h =
      let k : i + 1 + (n - (i + 1)) ≡ n = omega arith in
      let f = one_more_read ∙ bind-none (L.read u) (λ q. snoc (take i xs, u) q) h in
      bind-none (several L n t) _ (ap (λ m. several L m t) (sym k) ∙ several-missing L (i + 1) (n - (i + 1)) t f)

  -- all n are there: zeros stand after them
  pub group-there : (places : ℕ) (z x : A) (unused : A → Bool) (n : ℕ) → x ≡ z → n ≤ places → n ≡ i → length xs ≡ n
      → (group places z unused L n).read t ≡ some (xs ++ drop n (replicate places x), u)
  group-there places z x unused n same l j k =
      let front : take i xs ≡ xs = ap (λ m. take m xs) (sym j ∙ sym k) ∙ take-length xs in
      let zeros : replicate (places - n) z ≡ drop n (replicate places x) = ap (λ y. replicate (places - n) y) (sym same) ∙ sym (drop-replicate n places x) in
      bind-at (several L n t) (λ p. some (p.0 ++ replicate (places - n) z, p.1)) _ (ap (λ m. several L m t) j ∙ e)
      ∙ ap₂ (λ ys zs. some (ys ++ zs, u)) front zeros
