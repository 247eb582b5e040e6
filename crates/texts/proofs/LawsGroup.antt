-- The two laws of a layout, for a group in an array.
use mathlib.Core.Path.{◌≡◌, refl, sym, ap, ◌∙◌}
use mathlib.Core.Bool.{Bool, true}
use mathlib.Core.Option.{some}
use mathlib.Core.List.{List, [], ◌∷◌, ◌++◌, append_assoc}
use Prim.Native.Nat.{ℕ, zero, suc, ◌-◌, ◌≤◌}
use native.Mathlib.Omega.{arith}
use lib.ListN.{length, take, drop, replicate, length-append, length-drop, length-replicate, take-append-drop}
use lib.Seq.{take_at, drop_at, length-take-le}
use lib.Dec.{eqb}
use borrow.Author.Tests.{eqb-true, eq-eqb}
use Rattle.texts.specs.Bytes.{all_of, ◌>>=◌}
use Rattle.texts.specs.Layout.{Layout, joined, several, group}
use Rattle.texts.specs.Lawful.{Stands, Lawful}
use Rattle.texts.proofs.Steps.{both, and, bind-at, bind-some, carry, all-zeros, zeros-all}

-- the texts of two lists of values, one after the other
pub joined-append : {A : Type 0} (L : Layout A) (xs ys : List A) → joined L (xs ++ ys) ≡ joined L xs ++ joined L ys
unfolding joined
joined-append L [] ys = refl
joined-append L (x ∷ xs) ys = ap (λ r. L.text x ++ r) (joined-append L xs ys) ∙ sym (append_assoc (L.text x) (joined L xs) (joined L ys))

module _ {A : Type 0} (L : Layout A) (P : Lawful L) where
  several-back : (n : ℕ) (xs : List A) (r : List ℕ) → length xs ≡ n → all_of L.legal xs ≡ true → several L n (joined L xs ++ r) ≡ some (xs, r)
  unfolding several joined all_of
  several-back zero [] r e h = refl
  several-back zero (x ∷ xs) r e h = absurd (omega arith)
  several-back (suc n) [] r e h = absurd (omega arith)
  several-back (suc n) (x ∷ xs) r e h =
      let k = both (L.legal x) (all_of L.legal xs) h in
      ap (several L (suc n)) (append_assoc (L.text x) (joined L xs) r)
      ∙ bind-at _ (λ p. several L n p.1 >>= λ q. some (p.0 ∷ q.0, q.1)) _ (P.back x (joined L xs ++ r) k.0)
      ∙ bind-at _ (λ q. some (x ∷ q.0, q.1)) _ (several-back n xs r (omega arith) k.1)

  pub record Several (n : ℕ) (s : List ℕ) (p : List A × List ℕ) : Type 0 where
    pub count : length p.0 ≡ n
    pub legal : all_of L.legal p.0 ≡ true
    pub front : s ≡ joined L p.0 ++ p.1

  several-only : (n : ℕ) (s : List ℕ) (p : List A × List ℕ) → several L n s ≡ some p → Several n s p
  unfolding several joined all_of
  several-only zero s p e = carry (Several zero s) ([], s) p e record { count = refl; legal = refl; front = refl }
  several-only (suc n) s p e =
      let (u, g, h) = bind-some (L.read s) (λ p. several L n p.1 >>= λ q. some (p.0 ∷ q.0, q.1)) p e in
      let (q, i, j) = bind-some (several L n u.1) (λ q. some (u.0 ∷ q.0, q.1)) p h in
      let F = P.only s u g in
      let S = several-only n u.1 q i in
      carry (Several (suc n) s) _ p j record {
        count = omega (arith, S.count);
        legal = and (L.legal u.0) _ F.legal S.legal;
        front = F.front ∙ ap (λ t. L.text u.0 ++ t) S.front ∙ sym (append_assoc (L.text u.0) (joined L q.0) q.1);
      }

  module _ (places : ℕ) (z : A) (unused : A → Bool) (yes : unused z ≡ true) (is : (x : A) → unused x ≡ true → x ≡ z) (n : ℕ) (fits : n ≤ places) where
    pub group-lawful : Lawful (group places z unused L n)
    group-lawful = record {
      back = λ xs r h.
          let k = both (eqb (length xs) places) _ h in
          let l = both (all_of L.legal (take n xs)) (all_of unused (drop n xs)) k.1 in
          let m = eqb-true (length xs) places k.0 in
          let c : length (take n xs) ≡ n = length-take-le n xs (omega arith) in
          let d : length (drop n xs) ≡ places - n = length-drop n xs ∙ ap (λ k. k - n) m in
          let f : drop n xs ≡ replicate (places - n) z = all-zeros z unused is (drop n xs) l.1 ∙ ap (λ k. replicate k z) d in
          bind-at _ (λ p. some (p.0 ++ replicate (places - n) z, p.1)) _ (several-back n (take n xs) r c l.0)
          ∙ ap (λ ys. some (ys, r)) (ap (λ t. take n xs ++ t) (sym f) ∙ take-append-drop n xs);
      only = λ s p e.
          let (q, g, h) = bind-some (several L n s) (λ p. some (p.0 ++ replicate (places - n) z, p.1)) p e in
          let S = several-only n s q g in
          let t : take n (q.0 ++ replicate (places - n) z) ≡ q.0 = take_at q.0 (replicate (places - n) z) n S.count in
          let d : drop n (q.0 ++ replicate (places - n) z) ≡ replicate (places - n) z = drop_at q.0 (replicate (places - n) z) n S.count in
          let c : length (q.0 ++ replicate (places - n) z) ≡ places =
          length-append q.0 (replicate (places - n) z) ∙ omega (arith, S.count, length-replicate (places - n) z) in
          carry (Stands (group places z unused L n) s) _ p h record {
            legal = and _ _ (eq-eqb _ places c) (and _ _ (ap (all_of L.legal) t ∙ S.legal) (ap (all_of unused) d ∙ zeros-all z unused yes (places - n)));
            front = S.front ∙ ap (λ ys. joined L ys ++ q.1) (sym t);
          };
    }
