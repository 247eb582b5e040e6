-- The two laws of a layout, for each way of putting layouts together.
use mathlib.Core.Path.{◌≡◌, refl, sym, ap, ◌∙◌}
use mathlib.Core.Bool.{true}
use mathlib.Core.Option.{some, some-injective}
use mathlib.Core.List.{List, [], ◌∷◌, ◌++◌, append_assoc}
use Prim.Native.Nat.{ℕ}
use native.Mathlib.Omega.{arith}
use lib.Dec.{eqb}
use borrow.Author.Tests.{eqb-true, eq-eqb}
use Rattle.texts.specs.Bytes.{◌>>=◌, given}
use Rattle.texts.specs.Layout.{Layout, past, word, ◌⟫◌, ◌then◌, of, key, shut}
use Rattle.texts.specs.Lawful.{Stands, Lawful}
use Rattle.texts.proofs.Steps.{both, and, bind-at, bind-some, given-at, given-some, carry}

-- ---- word

pub past_back : (w r : List ℕ) → past w (w ++ r) ≡ some r
unfolding past
past_back [] r = refl
past_back (x ∷ w) r = bind-at _ (λ q. past w q) _ (given-at (eqb x x) (w ++ r) (eq-eqb x x refl)) ∙ past_back w r

pub past-only : (w s r : List ℕ) → past w s ≡ some r → s ≡ w ++ r
unfolding past
past-only [] s r e = some-injective s r e
past-only (x ∷ w) [] r e = let z : ◌≡◌ {A = ℕ} 0 1 = cc in absurd (omega arith)
past-only (x ∷ w) (y ∷ s) r e =
    let (t, g, h) = bind-some (given (eqb x y) s) (λ q. past w q) r e in
    let k = given-some (eqb x y) s t g in
    let i = eqb-true x y k.0 in
    let j = past-only w t r h in
    let l = k.1 in
    cc

pub word-lawful : (w : List ℕ) → Lawful (word w)
word-lawful w = record {
  back = λ a r h. bind-at _ (λ q. some (tt, q)) r (past_back w r);
  only = λ s p e.
      let (r, g, h) = bind-some (past w s) (λ q. some (tt, q)) p e in
      carry (Stands (word w) s) _ p h record { legal = refl; front = past-only w s r g };
}

-- ---- one after the other

module _ {A B : Type 0} (L : Layout A) (M : A → Layout B) (P : Lawful L) (Q : (a : A) → L.legal a ≡ true → Lawful (M a)) where
  pub next-lawful : Lawful (L ⟫ M)
  next-lawful = record {
    back = λ p r h.
        let x = L.text p.0 in
        let y = (M p.0).text p.1 in
        let k = both (L.legal p.0) ((M p.0).legal p.1) h in
        ap (λ s. (L ⟫ M).read s) (append_assoc x y r)
        ∙ bind-at _ (λ u. (M u.0).read u.1 >>= λ q. some ((u.0, q.0), q.1)) _ (P.back p.0 (y ++ r) k.0)
        ∙ bind-at _ (λ q. some ((p.0, q.0), q.1)) _ ((Q p.0 k.0).back p.1 r k.1);
    only = λ s p e.
        let (u, g, h) = bind-some (L.read s) (λ u. (M u.0).read u.1 >>= λ q. some ((u.0, q.0), q.1)) p e in
        let (q, i, j) = bind-some ((M u.0).read u.1) (λ q. some ((u.0, q.0), q.1)) p h in
        let F = P.only s u g in
        let S = (Q u.0 F.legal).only u.1 q i in
        carry (Stands (L ⟫ M) s) _ p j record {
          legal = and (L.legal u.0) _ F.legal S.legal;
          front = F.front ∙ ap (λ t. L.text u.0 ++ t) S.front ∙ sym (append_assoc (L.text u.0) ((M u.0).text q.0) q.1);
        };
  }

pub then-lawful : {A B : Type 0} (L : Layout A) (M : Layout B) → Lawful L → Lawful M → Lawful (L then M)
then-lawful L M P Q = next-lawful L (λ _. M) P (λ _ _. Q)

-- ---- a struct and its parts

pub of-lawful : {A B : Type 0} (parts : B → A) (make : A → B) (L : Layout A) → ((b : B) → make (parts b) ≡ b) → ((a : A) → parts (make a) ≡ a)
    → Lawful L → Lawful (of parts make L)
of-lawful parts make L mp pm P = record {
  back = λ b r h. bind-at _ (λ p. some (make p.0, p.1)) _ (P.back (parts b) r h) ∙ ap (λ x. some (x, r)) (mp b);
  only = λ s p e.
      let (u, g, h) = bind-some (L.read s) (λ p. some (make p.0, p.1)) p e in
      let F = P.only s u g in
      carry (Stands (of parts make L) s) _ p h record {
        legal = ap L.legal (pm u.0) ∙ F.legal;
        front = F.front ∙ ap (λ x. L.text x ++ u.1) (sym (pm u.0));
      };
}

pub key-lawful : {A : Type 0} (w : List ℕ) (L : Layout A) → Lawful L → Lawful (key w L)
key-lawful w L P = of-lawful (λ a. (tt, a)) (λ p. p.1) (word w then L) (λ _. refl) (λ _. refl) (then-lawful (word w) L (word-lawful w) P)

pub shut-lawful : {A : Type 0} (L : Layout A) (w : List ℕ) → Lawful L → Lawful (shut L w)
shut-lawful L w P = of-lawful (λ a. (a, tt)) (λ p. p.0) (L then word w) (λ _. refl) (λ _. refl) (then-lawful L (word w) P (word-lawful w))
