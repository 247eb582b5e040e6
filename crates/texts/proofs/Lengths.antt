-- "Register, at most 358 bytes", "Slip, at most 366 bytes".
use mathlib.Core.Path.{◌≡◌, refl, subst}
use mathlib.Core.Bool.{Bool, true}
use mathlib.Core.List.{List, [], ◌∷◌}
use Prim.Native.Nat.{ℕ, ◌+◌, ◌*◌, ◌≤◌}
use native.Mathlib.Omega.{arith}
use native.Mathlib.Nat.{mul-le-mul_right, le_trans}
use lib.ListN.{length, take, length-append, length-take}
use lib.Dec.{eqb}
use borrow.Author.Tests.{eqb-true}
use Rattle.texts.specs.Bounds.{most_shops, code_places, most, register_room, slip_room}
use Rattle.texts.specs.Bytes.{bytes, all_of}
use Rattle.texts.specs.Layout.{Layout, ◌⟫◌, ◌then◌, key, shut, joined, group}
use Rattle.texts.specs.Leaf.{number}
use Rattle.texts.specs.Code.{code}
use Rattle.texts.specs.Lines.{closed, six, code_line, number_line}
use Rattle.texts.specs.Entries.{no_entry, zero_entry, entry_parts, entry_line, entry_lines}
use Rattle.texts.specs.Register.{shops_line, shop_lines, own_line, register_parts, register_layout}
use Rattle.texts.specs.Slip.{payer_line, slip_number_line, payee_line, amount_line, deps_line, dep_lines, slip_parts, slip_layout}
use Rattle.texts.specs.declared.register.Register.{Register}
use Rattle.texts.specs.declared.slip.Slip.{Slip}
use Rattle.texts.proofs.Steps.{both, upto}
use Rattle.texts.proofs.LawsLeaf.{digits-length}

-- no text of L is longer than n
pub record Most {A : Type 0} (L : Layout A) (n : ℕ) : Type 0 where
  pub most : (a : A) → L.legal a ≡ true → length (L.text a) ≤ n

pub next-most : {A B : Type 0} (L : Layout A) (M : A → Layout B) (m n : ℕ) → Most L m → ((a : A) → L.legal a ≡ true → Most (M a) n) → Most (L ⟫ M) (m + n)
next-most L M m n P Q = record {
  most = λ p h.
      let k = both (L.legal p.0) ((M p.0).legal p.1) h in
      let x = P.most p.0 k.0 in
      let y = (Q p.0 k.0).most p.1 k.1 in
      let e = length-append (L.text p.0) ((M p.0).text p.1) in
      omega arith;
}

pub key-most : {A : Type 0} (w : List ℕ) (L : Layout A) (n : ℕ) → Most L n → Most (key w L) (length w + n)
key-most w L n P = record { most = λ a h. let e = length-append w (L.text a) in let x = P.most a h in omega arith }

pub shut-most : {A : Type 0} (L : Layout A) (w : List ℕ) (n : ℕ) → Most L n → Most (shut L w) (n + length w)
shut-most L w n P = record { most = λ a h. let e = length-append (L.text a) w in let x = P.most a (both (L.legal a) true h).0 in omega arith }

pub number-most : (w least most : ℕ) → Most (number w least most) w
number-most w least most = record { most = λ n h. omega (arith, digits-length w n) }

pub code-most : (b : ℕ) → Most (code b) 9
code-most b = record {
  most = λ c h.
      let k = both (eqb (length c.digits) code_places) _ h in
      let e = length-append (take c.len c.digits) (b ∷ []) in
      let t = length-take c.len c.digits in
      omega (arith, eqb-true (length c.digits) code_places k.0);
}

joined-most : {A : Type 0} (L : Layout A) (n : ℕ) → Most L n → (xs : List A) → all_of L.legal xs ≡ true → length (joined L xs) ≤ length xs * n
unfolding joined all_of
joined-most L n P [] h = omega arith
joined-most L n P (x ∷ xs) h =
    let k = both (L.legal x) (all_of L.legal xs) h in
    let i = joined-most L n P xs k.1 in
    let a = P.most x k.0 in
    let e = length-append (L.text x) (joined L xs) in
    let m = native.Mathlib.Nat.suc-mul (length xs) n in
    omega arith

pub group-most : {A : Type 0} (places : ℕ) (z : A) (unused : A → Bool) (L : Layout A) (n upper m : ℕ) → n ≤ upper → Most L m → Most (group places z unused L n) (upper * m)
group-most places z unused L n upper m few P = record {
  most = λ xs h.
      let k = both (eqb (length xs) places) _ h in
      let l = both (all_of L.legal (take n xs)) _ k.1 in
      let t = length-take n xs in
      let c : length (take n xs) ≤ upper = omega arith in
      le_trans (joined-most L m P (take n xs) l.0) (mul-le-mul_right m c);
}

pub closed-most : (width least upper : ℕ) → Most (closed width least upper) (width + 1)
closed-most width least upper = shut-most (number width least upper) (bytes "\n") width (number-most width least upper)

pub code-line-most : (name : List ℕ) (n : ℕ) → length name + 9 ≡ n → Most (code_line name) n
code-line-most name n e = subst (Most (code_line name)) e (key-most name (code 10) 9 (code-most 10))

pub number-line-most : (name : List ℕ) (width least upper n : ℕ) → length name + (width + 1) ≡ n → Most (number_line name width least upper) n
number-line-most name width least upper n e = subst (Most (number_line name width least upper)) e (key-most name (closed width least upper) (width + 1) (closed-most width least upper))

entry-line-most : (name : List ℕ) (n : ℕ) → length name + 16 ≡ n → Most (entry_line name) n
entry-line-most name n e = record {
  most = λ s h.
      let line = next-most (key name (code 58)) (λ _. six) (length name + 9) 7 (key-most name (code 58) 9 (code-most 58)) (λ _ _. closed-most 6 0 most) in
      omega (arith, line.most (entry_parts s) h);
}

-- a counted group of entries: its number line, and at most `upper` lines
entries-most : (head name : List ℕ) (least upper m n : ℕ) → length head + 3 ≡ m → length name + 16 ≡ n → Most (number_line head 2 least upper ⟫ entry_lines name) (m + upper * n)
entries-most head name least upper m n e f =
    next-most (number_line head 2 least upper) (entry_lines name) m (upper * n) (number-line-most head 2 least upper m e)
    (λ k h. group-most most_shops no_entry zero_entry (entry_line name) k upper n (upto least k upper h) (entry-line-most name n f))

pub register-most : (r : Register) → register_layout.legal r ≡ true → length (register_layout.text r) ≤ register_room
unfolding register_layout
register-most r h =
    (next-most (shops_line ⟫ shop_lines) (λ _. own_line) 345 13
    (entries-most (bytes "shops=") (bytes "shop=") 1 _ 9 21 refl refl)
    (λ _ _. code-line-most (bytes "own=") 13 refl)
    ).most (register_parts r) h

pub slip-most : (s : Slip) → slip_layout.legal s ≡ true → length (slip_layout.text s) ≤ slip_room
unfolding slip_layout
slip-most s h =
    (next-most payer_line (λ _. slip_number_line then payee_line then amount_line then (deps_line ⟫ dep_lines)) 15 351 (code-line-most (bytes "payer=") 15 refl)
    (λ _ _. next-most slip_number_line (λ _. payee_line then amount_line then (deps_line ⟫ dep_lines)) 14 337 (number-line-most (bytes "number=") 6 0 most 14 refl)
    (λ _ _. next-most payee_line (λ _. amount_line then (deps_line ⟫ dep_lines)) 15 322 (code-line-most (bytes "payee=") 15 refl)
    (λ _ _. next-most amount_line (λ _. deps_line ⟫ dep_lines) 14 308 (number-line-most (bytes "amount=") 6 0 most 14 refl)
    (λ _ _. entries-most (bytes "deps=") (bytes "dep=") 0 _ 8 20 refl refl))))
    ).most (slip_parts s) h
