-- Nobody spoils the front of another's line: a ready slip stays ready and has its turn, and two that wait for each other wait for ever.
use mathlib.Core.Path.{◌≡◌, refl, sym, ap, ◌∙◌}
use mathlib.Core.Logic.{◌≢◌}
use mathlib.Core.Bool.{true, false≢true}
use mathlib.Core.List.{List}
use Prim.Native.Nat.{ℕ, ◌<◌}
use native.Mathlib.Omega.{arith}
use lib.ListN.{get_or}
use Rattle.replica.specs.declared.record.Shop.{Shop}
use Rattle.replica.specs.declared.record.Waiting.{Waiting}
use Rattle.replica.specs.declared.record.Replica.{Replica}
use Rattle.replica.specs.Record.{shop_count, shop_at}
use Rattle.replica.specs.State.{lawful}
use Rattle.replica.specs.Settle.{first_waiting, ready, apply, Settles, stop, step}
use Rattle.replica.specs.Take.{slip_from, entered}
use Rattle.replica.specs.Issue.{issuing}
use Rattle.replica.specs.Lasting.{StepsKeep, ReadyStays, ReadyIsApplied, Crossed, SameFront, CrossedForEver}
use Rattle.replica.proofs.Sums.{either}
use Rattle.replica.proofs.Quiet.{apply-count}
use Rattle.replica.proofs.Parts.{parts}
use Rattle.replica.proofs.Settling.{settles-so}
use Rattle.replica.proofs.Applied.{apply-lawful, same}
use Rattle.replica.proofs.Taken.{entered-lawful}
use Rattle.replica.proofs.Promises.{rises, issues-lawful}
use Rattle.replica.proofs.Keeping.{took-settled, issued-issuing, calls-keep}
use Rattle.replica.proofs.Fronts.{FrontKept, apply-front, enter-alone, enter-front, issue-front, ready-needs, apply-keeps, enter-keeps, issue-keeps, one_more_lem}

-- ---- a ready slip stays ready

pub ready-stays : ReadyStays
ready-stays self l p h e =
    record {
      others = λ q k d r. apply-keeps self l p e q k (λ j. d (sym j)) r;
      taking = enter-keeps self p e;
      writing = λ payee amount buffer _. issue-keeps self p e;
    }

-- ---- and has its turn

turn : {self end : Replica} {list : List ℕ} → Settles self list end → lawful self ≡ true → (p : ℕ) → p < shop_count self → ready self p ≡ true → (shop_at self p).applied < (shop_at end p).applied
turn (stop N) l p h e = absurd (false≢true (sym (N p h) ∙ e))
turn (step {self} {end} {p = q} k N r t) l p h e =
    let P = parts self l in
    let m = apply-lawful self q l k r in
    let ih : ready (apply self q) p ≡ true → (shop_at (apply self q) p).applied < (shop_at end p).applied = turn t m p (omega (arith, apply-count self q)) in
    either p q
    (λ j. omega (arith, one_more_lem self q P k r p j, rises t m p))
    (λ d. omega (arith, (same self q P k r p d).1, ih (apply-keeps self l p e q k d r)))

pub ready-is-applied : ReadyIsApplied
ready-is-applied self l p h e text list a =
    let s = entered self (slip_from text) in
    let t = turn (settles-so s) (entered-lawful self text list a) p (unfold entered in h) (enter-keeps self p e text list a) in
    rw (took-settled self text list a) (omega (arith, enter-alone self text list a (λ (y : Shop). y.applied) (λ _. refl) p))

-- ---- two that wait for each other

abbrev Stands : Replica → Replica → ℕ → ℕ → Type 0
Stands self then p q = Crossed then p q × SameFront self then p × SameFront self then q

stands-first : (self : Replica) (p q : ℕ) → Crossed self p q → Stands self self p q
stands-first self p q C = (C, record { applied = refl; first = refl }, record { applied = refl; first = refl })

-- one step more that keeps both fronts
stands-kept : (self then next : Replica) (p q : ℕ) → Stands self then p q → FrontKept then next p → FrontKept then next q → Stands self next p q
stands-kept self then next p q (C, A, B) F G = (
  record {
    waits_p = F.some;
    waits_q = G.some;
    on_q = omega (arith, C.on_q, G.front.applied, ap (λ (x : Waiting). get_or x.needs q 0) F.front.first);
    on_p = omega (arith, C.on_p, F.front.applied, ap (λ (x : Waiting). get_or x.needs p 0) G.front.first);
  },
  on p A F.front,
  on q B G.front,
)
  where
    on : (r : ℕ) → SameFront self then r → SameFront then next r → SameFront self next r
    on r A F = record { applied = F.applied ∙ A.applied; first = F.first ∙ A.first }

-- neither is ready
not-ready : (self : Replica) (p q : ℕ) → q < shop_count self → (shop_at self q).applied < get_or (first_waiting self p).needs q 0 → (a : ℕ) → ready self a ≡ true → p ≢ a
not-ready self p q h on a r j = let e : ready self p ≡ true = rw j r in absurd (omega (arith, ready-needs self p e q h))

-- what the steps keep of it
pub record Kept (self : Replica) (p q : ℕ) (then : Replica) : Type 0 where
  pub lawful : lawful then ≡ true
  pub count : shop_count then ≡ shop_count self
  pub stands : Stands self then p q

stands_on : (self : Replica) (p q : ℕ) → p < shop_count self → q < shop_count self → StepsKeep (Kept self p q)
stands_on self p q h k = record {
  entering = λ x text list e K. record {
    lawful = entered-lawful x text list e;
    count = unfold entered in K.count;
    stands = stands-kept self x _ p q K.stands (enter-front x text list e p K.stands.0.waits_p) (enter-front x text list e q K.stands.0.waits_q);
  };
  applying = λ x a b r K.
      let P = parts x K.lawful in
      let C = K.stands.0 in
      let n = K.count in
      record {
        lawful = apply-lawful x a K.lawful b r;
        count = apply-count x a ∙ n;
        stands = stands-kept self x _ p q K.stands
            (apply-front x a P b r p (not-ready x p q (omega arith) C.on_q a r) C.waits_p)
            (apply-front x a P b r q (not-ready x q p (omega arith) C.on_p a r) C.waits_q);
      };
  writing = λ x payee amount buffer e K. record {
    lawful = rw (sym (issued-issuing x payee amount buffer e)) (issues-lawful x payee amount buffer K.lawful);
    count = unfold issuing in K.count;
    stands = stands-kept self x _ p q K.stands (issue-front x p K.stands.0.waits_p) (issue-front x q K.stands.0.waits_q);
  };
}

pub crossed-for-ever : CrossedForEver
crossed-for-ever self l p q h k C cs =
    (calls-keep (Kept self p q) (stands_on self p q h k) self (record { lawful = l; count = refl; stands = stands-first self p q C }) cs).stands
