-- The loops of settling: the scan for the first ready slip, and one slip applied after the other.
use mathlib.Core.Path.{◌≡◌, refl, sym, ap, ap₂, ◌∙◌, subst}
use mathlib.Core.Bool.{true, false}
use mathlib.Core.List.{List, [], ◌∷◌, ◌++◌, append_assoc, append-nil}
use Prim.Native.Nat.{ℕ, suc, ◌+◌, ◌≤◌, ◌<◌}
use native.Mathlib.Omega.{arith}
use native.Mathlib.Nat.{le_trans, mul-le-mul_right}
use lib.Dec.{ltb}
use lib.ListN.{length, drop, set, length-append, length-set}
use lib.Seq.{drop-cons, set_at}
use borrow.Author.Tests.{ltb-true}
use Rattle.texts.proofs.Steps.{both}
use Rattle.texts.specs.Written.{over}
use Rattle.texts.proofs.Legal.{register-legal}
use Rattle.replica.specs.declared.record.Shop.{Shop}
use Rattle.replica.specs.declared.record.Replica.{Replica}
use Rattle.replica.specs.Record.{shop_count, own, line_at}
use Rattle.replica.specs.State.{lawful}
use Rattle.replica.specs.Settle.{first_waiting, ready, apply, NoneReady, Settles, waits, settled, applying}
use Rattle.replica.specs.Outcome.{did}
use Rattle.replica.specs.Inside.{Movable}
use Rattle.replica.proofs.Sums.{either}
use Rattle.replica.proofs.Answered.{Gives}
use Rattle.replica.proofs.Quiet.{apply-count, fewer}
use Rattle.replica.proofs.Settling.{settles-so, settles-only-so}
use Rattle.replica.proofs.Parts.{parts}
use Rattle.replica.proofs.Most.{sum-most, balance-most}
use Rattle.replica.proofs.Applied.{ready-funds, below, other, payee, apply-lawful}

-- Of n shops those before p have no ready slip.
pub record Scanned (self : Replica) (n p : ℕ) : Type 0 where
  pub within : p ≤ n
  pub none : NoneReady self p

-- no shop is looked at yet
pub scanned-none : (self : Replica) (n : ℕ) → Scanned self n 0
scanned-none self n = record { within = omega arith; none = λ q h. absurd (omega arith) }

-- one more has none
pub scanned-more : (self : Replica) (n p : ℕ) → Scanned self n p → p < n → ready self p ≡ false → Scanned self n (p + 1)
scanned-more self n p S h e = record { within = omega arith; none = λ q l. either q p (λ j. ap (ready self) j ∙ e) (λ j. S.none q (omega arith)) }

-- ---- settling, a slip at a time

module _ (self : Replica) (p : ℕ) (h : p < shop_count self) (N : NoneReady self p) (e : ready self p ≡ true) where
  turn : (p ∷ applying (apply self p) ≡ applying self) × (settled (apply self p) ≡ settled self)
  turn = settles-only-so self (settled (apply self p)) (p ∷ applying (apply self p)) (Settles.step h N e (settles-so (apply self p)))

stopped : (self : Replica) → NoneReady self (shop_count self) → ([] ≡ applying self) × (self ≡ settled self)
stopped self N = settles-only-so self self [] (Settles.stop N)

-- at most eight wait for each of sixteen shops
pub waits-most : (self : Replica) → lawful self ≡ true → waits self ≤ 128
unfolding waits
waits-most self l =
    let P = parts self l in
    let R = register-legal self.register P.register in
    le_trans (sum-most 8 (shop_count self) (λ p. (line_at self p).count) (λ p h. (P.lined p h).eight)) (mul-le-mul_right 8 R.fits.most)

-- applying leaves the register, and so the own shop's position
same-own : (self : Replica) (p : ℕ) → own self ≡ own (apply self p)
unfolding apply
same-own self p = refl

-- The slips at `sofar` have been applied: the rest of settling is settling the state that they led to.
pub record Going (lent : List ℕ) (start : Replica) (n at : ℕ) (list : List ℕ) (self : Replica) (done : ℕ) : Type 0 where
  pub sofar : List ℕ
  pub law : lawful self ≡ true
  pub count : n ≡ shop_count self
  pub few : n ≤ 16
  pub own_at : at ≡ own self
  pub room : 128 ≤ length lent
  pub size : length list ≡ length lent
  pub left : done + waits self ≤ 128
  pub made : length sofar ≡ done
  pub order : sofar ++ applying self ≡ applying start
  pub state : settled self ≡ settled start
  pub bytes : list ≡ over sofar lent

pub going-none : (lent : List ℕ) (start : Replica) (at : ℕ) → lawful start ≡ true → at ≡ own start → 128 ≤ length lent → Going lent start (shop_count start) at lent start 0
going-none lent start at l e h = record {
  sofar = [];
  law = l;
  count = refl;
  few = (register-legal start.register (parts start l).register).fits.most;
  own_at = e;
  room = h;
  size = refl;
  left = omega (arith, waits-most start l);
  made = refl;
  order = refl;
  state = refl;
  bytes = refl;
}

-- In a scan that began at a state: nothing is applied yet, and the shops before p have no ready slip.
pub record Scanning (lent : List ℕ) (start : Replica) (n at : ℕ) (list : List ℕ) (begun self : Replica) (done p : ℕ) : Type 0 where
  pub going : Going lent start n at list self done
  pub scanned : Scanned self n p
  pub same : self ≡ begun

module _ {lent : List ℕ} {start : Replica} {n at : ℕ} {list : List ℕ} {self : Replica} {done : ℕ} (G : Going lent start n at list self done) where
  -- the shops can move a ready slip's amount
  pub going-movable : (p : ℕ) → p < n → ready self p ≡ true → Movable self.shops p (first_waiting self p)
  going-movable p h e =
      let P = parts self G.law in
      let l : p < shop_count self = omega (arith, G.count) in
      let b = below self p P l e in
      let L = P.lined p l in
      let after = balance-most (apply self p) (apply-lawful self p G.law l e) (first_waiting self p).payee (still b) in
      record {
        payer = omega (arith, G.few);
        payee = omega (arith, G.few, G.count);
        other = λ i. other self p P l e (sym i);
        funds = ready-funds self p e;
        count = omega (arith, L.taken, L.most);
        room = omega (arith, ap (λ (s : Shop). s.balance) (payee self p P l e));
      }
    where
      still : (first_waiting self p).payee < shop_count self → (first_waiting self p).payee < shop_count (apply self p)
      still b = subst (λ (k : ℕ). (first_waiting self p).payee < k) (sym (apply-count self p)) b

  -- a slip waits there
  pub going-waits : (p : ℕ) → ready self p ≡ true → 0 < (line_at self p).count
  unfolding ready
  going-waits p e = ltb-true 0 (line_at self p).count (both (ltb 0 (line_at self p).count) _ e).0

  -- no more than eight wait there
  pub going-eight : (p : ℕ) → p < n → (line_at self p).count ≤ 8
  going-eight p h = ((parts self G.law).lined p (omega (arith, G.count))).eight

  -- the list has room for one more
  pub going-fits : (p : ℕ) → p < n → ready self p ≡ true → done < length list
  going-fits p h e = omega (arith, G.left, G.size, G.room, fewer self p (omega (arith, G.count)) e)

  -- one waits less then
  pub going_less : (next : Replica) (p : ℕ) → next ≡ apply self p → p < n → ready self p ≡ true → waits next < waits self
  going_less next p i h e = omega (arith, ap waits i, fewer self p (omega (arith, G.count)) e)

  -- one more
  pub going_more : (next : Replica) (p : ℕ) → next ≡ apply self p → p < n → Scanned self n p → ready self p ≡ true → Going lent start n at (set list done p) next (done + 1)
  going_more next p i h S e =
      let l : p < shop_count self = omega (arith, G.count) in
      let T = turn self p l S.none e in
      let w = fewer self p l e in
      subst (λ (x : Replica). Going lent start n at (set list done p) x (done + 1)) (sym i) record {
        sofar = G.sofar ++ (p ∷ []);
        law = apply-lawful self p G.law l e;
        count = G.count ∙ sym (apply-count self p);
        few = G.few;
        own_at = G.own_at ∙ same-own self p;
        room = G.room;
        size = length-set list done p ∙ G.size;
        left = omega (arith, G.left);
        made = length-append G.sofar (p ∷ []) ∙ omega (arith, G.made);
        order = append_assoc G.sofar (p ∷ []) (applying (apply self p)) ∙ ap (λ x. G.sofar ++ x) T.0 ∙ G.order;
        state = T.1 ∙ G.state;
        bytes = written (fewer self p l e);
      }
    where
      written : waits self ≡ waits (apply self p) + 1 → set list done p ≡ over (G.sofar ++ (p ∷ [])) lent
      written w =
          let s = G.sofar in
          let m : length s < length lent = omega (arith, G.left, G.room, G.made) in
          let k : suc (length s) ≡ length (s ++ (p ∷ [])) = sym (length-append s (p ∷ []) ∙ omega arith) in
          ap (λ x. set x done p) (G.bytes ∙ ap (λ x. s ++ x) (drop-cons lent (length s) 0 m))
          ∙ set_at s _ (drop (suc (length s)) lent) p done G.made
          ∙ sym (append_assoc s (p ∷ []) (drop (suc (length s)) lent))
          ∙ ap (λ i. (s ++ (p ∷ [])) ++ drop i lent) k

  -- no shop is ready any more
  pub going_done : (p : ℕ) → n ≤ p → Scanned self n p
      → Gives (did done self) (did (length (applying start)) (settled start)) list (over (applying start) lent)
  going_done p h Z =
      let S = stopped self (λ q l. Z.none q (omega (arith, G.count))) in
      let o : G.sofar ≡ applying start = sym (append-nil G.sofar) ∙ ap (λ x. G.sofar ++ x) S.0 ∙ G.order in
      record { outcome = ap₂ (λ (k : ℕ) (x : Replica). did k x) (sym G.made ∙ ap length o) (S.1 ∙ G.state); bytes = G.bytes ∙ ap (λ x. over x lent) o }
