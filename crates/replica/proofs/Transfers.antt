-- Laws of figure 4's variables: f[p] := v, a transfer more in a list, the last of each shop, and a transfer more in two histories.
use mathlib.Core.Path.{◌≡◌, refl, sym, ap, ◌∙◌, subst}
use mathlib.Core.Logic.{◌≢◌}
use mathlib.Core.Bool.{Bool, true, false}
use mathlib.Core.List.{List, [], ◌∷◌, ◌++◌}
use Prim.Native.Nat.{ℕ, zero, suc, ◌+◌, ◌≤◌, ◌<◌}
use native.Mathlib.Omega.{arith}
use lib.ListN.{length}
use lib.Dec.{eqb}
use borrow.Author.Tests.{eqb-true, eq-eqb, ne_eqb}
use Rattle.replica.specs.Algorithm.{Transfer, OneOf, here, there, Has, put, incoming, outgoing, last_of}
use Rattle.replica.proofs.Sums.{either}
use Rattle.replica.proofs.Only.{only, only-other}

-- ---- f[p] := v

module _ {A : Type 0} (p : ℕ) (v : A) (f : ℕ → A) where
  pub put-here : (q : ℕ) → q ≡ p → put p v f q ≡ v
  unfolding put
  put-here q e = rw (eq-eqb q p e, put)

  pub put-there : (q : ℕ) → q ≢ p → put p v f q ≡ f q
  unfolding put
  put-there q d = rw (ne_eqb q p d, put)

  -- what is v at p and f elsewhere
  pub is-put : (g : ℕ → A) (q : ℕ) → g p ≡ v → (q ≢ p → g q ≡ f q) → g q ≡ put p v f q
  is-put g q new same = either q p (λ j. ap g j ∙ new ∙ sym (put-here q j)) (λ d. same d ∙ sym (put-there q d))

-- ---- one transfer more in a list

pub one-some : {t : Transfer} {l : List Transfer} → OneOf t l → 0 < length l
one-some here = omega arith
one-some (there o) = omega arith

pub one-old : {t : Transfer} {l : List Transfer} → OneOf t l → (m : List Transfer) → OneOf t (l ++ m)
one-old here m = here
one-old (there o) m = there (one-old o m)

pub one_last : (t : Transfer) (l : List Transfer) → OneOf t (l ++ (t ∷ []))
one_last t [] = here
one_last t (u ∷ l) = there (one_last t l)

one_only : (t u : Transfer) → OneOf t (u ∷ []) → t ≡ u
one_only t u here = refl
one_only t u (there o) = absurd (omega (arith, one-some o))

one-next : {P : Type 0} (t u : Transfer) (l : List Transfer) → OneOf t (u ∷ l) → (t ≡ u → P) → (OneOf t l → P) → P
one-next t u l here f g = f refl
one-next t u l (there o) f g = g o

-- it was there, or is the new one
pub one-cases : {P : Type 0} (t u : Transfer) (l : List Transfer) → OneOf t (l ++ (u ∷ [])) → (OneOf t l → P) → (t ≡ u → P) → P
one-cases t u [] o f g = g (one_only t u o)
one-cases t u (x ∷ l) o f g =
    let more : OneOf t (l ++ (u ∷ [])) → _ = λ o. one-cases t u l o (λ i. f (there i)) g in
    one-next t x (l ++ (u ∷ [])) o (λ e. f (subst (λ (y : Transfer). OneOf t (y ∷ l)) e here)) more

pub outgoing-more : (a : ℕ) (t : Transfer) (l : List Transfer) → outgoing a (l ++ (t ∷ [])) ≡ outgoing a l + only a t.y t.c
unfolding outgoing only
outgoing-more a t [] = omega arith
outgoing-more a t (u ∷ l) = omega (arith, outgoing-more a t l)

pub incoming-more : (a : ℕ) (t : Transfer) (l : List Transfer) → incoming a (l ++ (t ∷ [])) ≡ incoming a l + only a t.y t.d
unfolding incoming only
incoming-more a t [] = omega arith
incoming-more a t (u ∷ l) = omega (arith, incoming-more a t l)

-- ---- the last of each shop

last-later : (u : Transfer) (l : List Transfer) (r : ℕ) → 1 ≤ last_of l r → last_of (u ∷ l) r ≡ last_of l r
unfolding last_of
last-later u l r h = go (last_of l r) refl
  where
    go : (n : ℕ) → last_of l r ≡ n → last_of (u ∷ l) r ≡ last_of l r
    go zero e = absurd (omega arith)
    go (suc k) e = rw (e, last_of)

pub last-here : (t : Transfer) (l : List Transfer) (r : ℕ) → 1 ≤ t.s → t.c ≡ r → last_of (l ++ (t ∷ [])) r ≡ t.s
last-here t [] r h e = unfold last_of in rw (eq-eqb t.c r e, last_of)
last-here t (u ∷ l) r h e = let i = last-here t l r h e in last-later u (l ++ (t ∷ [])) r (omega arith) ∙ i

pub last-there : (t : Transfer) (l : List Transfer) (r : ℕ) → t.c ≢ r → last_of (l ++ (t ∷ [])) r ≡ last_of l r
unfolding last_of
last-there t [] r d = rw (ne_eqb t.c r d, last_of)
last-there t (u ∷ l) r d =
    ap (λ (n : ℕ). elim n as (λ _. ℕ) [ zero ↦ elim (eqb u.c r) as (λ _. ℕ) [ true ↦ u.s | false ↦ 0 ] | suc k ↦ suc k ]) (last-there t l r d)

-- where there is one, it is in the list
pub last_has : (l : List Transfer) (r : ℕ) → 1 ≤ last_of l r → Has l r (last_of l r)
unfolding last_of
last_has [] r h = absurd (omega arith)
last_has (t ∷ l) r h = go (last_of l r) refl (λ i. last_has l r i)
  where
    first : (v : Bool) → eqb t.c r ≡ v → last_of l r ≡ 0 → Has (t ∷ l) r (last_of (t ∷ l) r)
    first true i e = let n : t.s ≡ last_of (t ∷ l) r = rw (e, i, last_of) in (t, here, eqb-true t.c r i, n)
    first false i e = let z : last_of (t ∷ l) r ≡ 0 = rw (e, i, last_of) in absurd (omega arith)

    go : (n : ℕ) → last_of l r ≡ n → (1 ≤ last_of l r → Has l r (last_of l r)) → Has (t ∷ l) r (last_of (t ∷ l) r)
    go zero e ih = first (eqb t.c r) refl e
    go (suc k) e ih =
        let some : 1 ≤ last_of l r = omega arith in
        let (u, o, c, n) = ih some in
        (u, there o, c, n ∙ sym (last-later t l r some))

-- ---- one transfer more in the histories of its two parties

abbrev pub joined : Transfer → (ℕ → List Transfer) → ℕ → List Transfer
joined t hist =
    let out = put t.c (hist t.c ++ (t ∷ [])) hist in
    put t.d (out t.d ++ (t ∷ [])) out

module _ (t : Transfer) (other : t.c ≢ t.d) (hist : ℕ → List Transfer) where
  abbrev out : ℕ → List Transfer
  out = put t.c (hist t.c ++ (t ∷ [])) hist

  payer : (a : ℕ) → a ≡ t.c → joined t hist a ≡ hist a ++ (t ∷ [])
  payer a e = put-there t.d (out t.d ++ (t ∷ [])) out a (λ j. other (sym e ∙ j)) ∙ put-here t.c _ hist a e ∙ ap (λ (i : ℕ). hist i ++ (t ∷ [])) (sym e)

  payee : (a : ℕ) → a ≡ t.d → joined t hist a ≡ hist a ++ (t ∷ [])
  payee a e =
      put-here t.d (out t.d ++ (t ∷ [])) out a e
      ∙ ap (λ (l : List Transfer). l ++ (t ∷ [])) (put-there t.c _ hist t.d (λ j. other (sym j)) ∙ ap hist (sym e))

  neither : (a : ℕ) → a ≢ t.c → a ≢ t.d → joined t hist a ≡ hist a
  neither a i j = put-there t.d (out t.d ++ (t ∷ [])) out a j ∙ put-there t.c _ hist a i

  by-party : (P : List Transfer → Type 0) (a : ℕ) → P (hist a ++ (t ∷ [])) → (a ≢ t.c → a ≢ t.d → P (hist a)) → P (joined t hist a)
  by-party P a more same = either a t.c
      (λ e. subst P (sym (payer a e)) more)
      (λ i. either a t.d (λ e. subst P (sym (payee a e)) more) (λ j. subst P (sym (neither a i j)) (same i j)))

  pub joined-old : (a : ℕ) (u : Transfer) → OneOf u (hist a) → OneOf u (joined t hist a)
  joined-old a u o = by-party (OneOf u) a (one-old o (t ∷ [])) (λ _ _. o)

  pub joined-payer : OneOf t (joined t hist t.c)
  joined-payer = subst (OneOf t) (sym (payer t.c refl)) (one_last t (hist t.c))

  pub joined-payee : OneOf t (joined t hist t.d)
  joined-payee = subst (OneOf t) (sym (payee t.d refl)) (one_last t (hist t.d))

  -- it was there, or is the new one
  pub joined-cases : {P : Type 0} (a : ℕ) (u : Transfer) → OneOf u (joined t hist a) → (OneOf u (hist a) → P) → (u ≡ t → P) → P
  joined-cases {P} a u o f g = by-party (λ l. OneOf u l → P) a (λ i. one-cases u t (hist a) i f g) (λ _ _ i. f i) o

  pub joined-outgoing : (a : ℕ) → outgoing a (joined t hist a) ≡ outgoing a (hist a) + only a t.y t.c
  joined-outgoing a =
      by-party (λ l. outgoing a l ≡ outgoing a (hist a) + only a t.y t.c) a (outgoing-more a t (hist a)) (λ i j. omega (arith, only-other a t.y t.c (λ e. i (sym e))))

  pub joined-incoming : (a : ℕ) → incoming a (joined t hist a) ≡ incoming a (hist a) + only a t.y t.d
  joined-incoming a =
      by-party (λ l. incoming a l ≡ incoming a (hist a) + only a t.y t.d) a (incoming-more a t (hist a)) (λ i j. omega (arith, only-other a t.y t.d (λ e. j (sym e))))

-- ---- what the histories hold, of n shops

pub record Known (n : ℕ) (seq : ℕ → ℕ) (hist : ℕ → List Transfer) (t : Transfer) : Type 0 where
  pub payer : t.c < n
  pub payee : t.d < n
  pub some : 1 ≤ t.s
  pub upto : t.s ≤ seq t.c
  pub in_payer : OneOf t (hist t.c)
  pub in_payee : OneOf t (hist t.d)

-- a transfer in deps
pub record Incoming (own : ℕ) (hist : ℕ → List Transfer) (deps : List Transfer) (t : Transfer) : Type 0 where
  pub to_own : t.d ≡ own
  pub in_own : OneOf t (hist own)
  pub upto : t.s ≤ last_of deps t.c

pub record Recorded (n own : ℕ) (seq : ℕ → ℕ) (hist : ℕ → List Transfer) (deps : List Transfer) : Type 0 where
  pub has : (r k : ℕ) → r < n → 1 ≤ k → k ≤ seq r → Has (hist r) r k
  pub known : (a : ℕ) → a < n → (t : Transfer) → OneOf t (hist a) → Known n seq hist t
  pub single : (a b : ℕ) → a < n → b < n → (t u : Transfer) → OneOf t (hist a) → OneOf u (hist b) → t.c ≡ u.c → t.s ≡ u.s → t ≡ u
  pub kept : (t : Transfer) → OneOf t deps → Incoming own hist deps t

pub recorded-none : (n own : ℕ) → Recorded n own (λ _. 0) (λ _. []) []
recorded-none n own =
    record {
      has = λ r k h l m. absurd (omega arith);
      known = λ a h t o. absurd (omega (arith, one-some o));
      single = λ a b h l t u o p i j. absurd (omega (arith, one-some o));
      kept = λ t o. absurd (omega (arith, one-some o));
    }

-- deps := ∅
pub recorded-cleared : {n own : ℕ} {seq : ℕ → ℕ} {hist : ℕ → List Transfer} {deps : List Transfer} → Recorded n own seq hist deps → Recorded n own seq hist []
recorded-cleared H = record { has = H.has; known = H.known; single = H.single; kept = λ t o. absurd (omega (arith, one-some o)) }

-- lines 23 to 27
module _ {n own : ℕ} {seq : ℕ → ℕ} {hist : ℕ → List Transfer} {deps : List Transfer} (H : Recorded n own seq hist deps) (inside : own < n)
    (t : Transfer) (from : t.c < n) (to : t.d < n) (other : t.c ≢ t.d) (next : t.s ≡ seq t.c + 1) where
  abbrev seq' : ℕ → ℕ
  seq' = put t.c t.s seq

  abbrev hist' : ℕ → List Transfer
  hist' = joined t hist

  seq-new : seq' t.c ≡ t.s
  seq-new = put-here t.c t.s seq t.c refl

  seq-grows : (r : ℕ) → seq r ≤ seq' r
  seq-grows r = either r t.c (λ j. omega (arith, put-here t.c t.s seq r j, ap seq j)) (λ d. omega (arith, put-there t.c t.s seq r d))

  has-old : (r k : ℕ) → Has (hist r) r k → Has (hist' r) r k
  has-old r k (u, o, i, j) = (u, joined-old t other hist r u o, i, j)

  has_more : (r k : ℕ) → r < n → 1 ≤ k → k ≤ seq' r → Has (hist' r) r k
  has_more r k h l m = either r t.c
      (λ i. either k t.s
      (λ j. (t, subst (λ (a : ℕ). OneOf t (hist' a)) (sym i) (joined-payer t other hist), sym i, sym j))
      (λ j. has-old r k (H.has r k h l (omega (arith, put-here t.c t.s seq r i, ap seq i)))))
      (λ i. has-old r k (H.has r k h l (omega (arith, put-there t.c t.s seq r i))))

  known_more : (a : ℕ) → a < n → (u : Transfer) → OneOf u (hist' a) → Known n seq' hist' u
  known_more a h u o = joined-cases t other hist a u o
      (λ i.
      let K = H.known a h u i in
      record {
        payer = K.payer;
        payee = K.payee;
        some = K.some;
        upto = omega (arith, K.upto, seq-grows u.c);
        in_payer = joined-old t other hist u.c u K.in_payer;
        in_payee = joined-old t other hist u.d u K.in_payee;
      })
      (λ e. subst (Known n seq' hist') (sym e) record {
        payer = from;
        payee = to;
        some = omega arith;
        upto = omega (arith, seq-new);
        in_payer = joined-payer t other hist;
        in_payee = joined-payee t other hist;
      })

  -- it is new everywhere
  is-new : (a : ℕ) → a < n → (u : Transfer) → OneOf u (hist a) → u.c ≡ t.c → u.s ≡ t.s → ⊥
  is-new a h u o i j = omega (arith, (H.known a h u o).upto, ap seq i)

  single_more : (a b : ℕ) → a < n → b < n → (u v : Transfer) → OneOf u (hist' a) → OneOf v (hist' b) → u.c ≡ v.c → u.s ≡ v.s → u ≡ v
  single_more a b h l u v o p i j = joined-cases t other hist a u o
      (λ x. joined-cases t other hist b v p
      (λ y. H.single a b h l u v x y i j)
      (λ e. absurd (is-new a h u x (i ∙ ap (λ (w : Transfer). w.c) e) (j ∙ ap (λ (w : Transfer). w.s) e))))
      (λ e. joined-cases t other hist b v p
      (λ y. absurd (is-new b l v y (sym i ∙ ap (λ (w : Transfer). w.c) e) (sym j ∙ ap (λ (w : Transfer). w.s) e)))
      (λ f. e ∙ sym f))

  kept-old : (u : Transfer) → OneOf u deps → Incoming own hist' deps u
  kept-old u o = let I = H.kept u o in record { to_own = I.to_own; in_own = joined-old t other hist own u I.in_own; upto = I.upto }

  kept_more : t.d ≡ own → (u : Transfer) → OneOf u (deps ++ (t ∷ [])) → Incoming own hist' (deps ++ (t ∷ [])) u
  kept_more e u o =
      let new = last-here t deps t.c (omega arith) refl in
      one-cases u t deps o
      (λ i.
      let I = kept-old u i in
      record {
        to_own = I.to_own;
        in_own = I.in_own;
        upto = either t.c u.c
            (λ j. omega (arith, last-here t deps u.c (omega arith) j, (H.known own inside u (H.kept u i).in_own).upto, ap seq j))
            (λ j. omega (arith, last-there t deps u.c j, I.upto));
      })
      (λ j. subst (Incoming own hist' (deps ++ (t ∷ []))) (sym j) record {
        to_own = e;
        in_own = subst (λ (a : ℕ). OneOf t (hist' a)) e (joined-payee t other hist);
        upto = omega arith;
      })

  pub recorded_more : Recorded n own seq' hist' (elim (eqb t.d own) [ true ↦ deps ++ (t ∷ []) | false ↦ deps ])
  recorded_more = record { has = has_more; known = known_more; single = single_more; kept = go (eqb t.d own) refl }
    where
      go : (v : Bool) → eqb t.d own ≡ v
          → (u : Transfer) → OneOf u (elim v [ true ↦ deps ++ (t ∷ []) | false ↦ deps ]) → Incoming own hist' (elim v [ true ↦ deps ++ (t ∷ []) | false ↦ deps ]) u
      go true e = kept_more (eqb-true t.d own e)
      go false e = kept-old
