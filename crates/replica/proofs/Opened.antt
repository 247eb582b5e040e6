-- The state rule holds after open.
use mathlib.Core.Path.{◌≡◌, refl, ap, ◌∙◌}
use mathlib.Core.Bool.{Bool, true}
use mathlib.Core.List.{List, [], ◌∷◌, map}
use Prim.Native.Nat.{ℕ, zero, suc, ◌-◌, ◌<◌}
use native.Mathlib.Omega.{arith}
use lib.ListN.{length, drop, replicate, length-map, length-replicate, get_or-replicate, get_or-map}
use lib.Dec.{eqb}
use Rattle.texts.specs.Bytes.{all_of}
use Rattle.texts.specs.Entries.{no_entry}
use Rattle.texts.specs.Register.{opening, register_answer, register_read}
use Rattle.texts.specs.declared.register.Register.{Register}
use Rattle.texts.proofs.Steps.{all_drop, zeros-all}
use Rattle.texts.proofs.Legal.{RegisterLegal, register-legal, read-legal}
use Rattle.replica.specs.declared.record.Shop.{Shop}
use Rattle.replica.specs.declared.record.Waiting.{Waiting}
use Rattle.replica.specs.declared.record.Line.{Line}
use Rattle.replica.specs.Record.{no_shop, no_waiting, no_line, listed_at, own, shop_at, line_at}
use Rattle.replica.specs.State.{zero_from, zero_shop, zero_waiting, zero_line, lawful}
use Rattle.replica.specs.Open.{first_day, fresh, opened}
use Rattle.replica.proofs.Sums.{sum_same}
use Rattle.replica.proofs.Parts.{Lined, whole}

pub map-drop : {A B : Type 0} (f : A → B) (n : ℕ) (l : List A) → drop n (map f l) ≡ map f (drop n l)
map-drop f zero l = refl
map-drop f (suc n) [] = refl
map-drop f (suc n) (x ∷ l) = map-drop f n l

pub map-replicate : {A B : Type 0} (f : A → B) (n : ℕ) (x : A) → map f (replicate n x) ≡ replicate n (f x)
map-replicate f zero x = refl
map-replicate f (suc n) x = ap (λ l. f x ∷ l) (map-replicate f n x)

pub drop-replicate : {A : Type 0} (i n : ℕ) (x : A) (t : A → Bool) → t x ≡ true → all_of t (drop i (replicate n x)) ≡ true
drop-replicate i n x t e = all_drop t i (replicate n x) (zeros-all x t e n)

pub zero-waiting : zero_waiting no_waiting ≡ true
zero-waiting = zeros-all 0 (eqb 0) refl 16

pub zero-line : zero_line no_line ≡ true
zero-line = zeros-all no_waiting zero_waiting zero-waiting 8

pub fresh-shop : (r : Register) (p : ℕ) → shop_at (fresh r) p ≡ first_day (listed_at r p)
unfolding fresh
fresh-shop r p = get_or-map first_day r.shops p (record { code = record { digits = []; len = 0 }; number = 0 })

pub fresh-line : (r : Register) (p : ℕ) → p < 16 → line_at (fresh r) p ≡ no_line
unfolding fresh
fresh-line r p h = get_or-replicate 16 p no_line (record { count = 0; slips = [] }) h

pub fresh-lawful : (r : Register) → register_answer r ≡ 0 → lawful (fresh r) ≡ true
unfolding fresh
fresh-lawful r e =
    let R = register-legal r e in
    whole (fresh r) record {
      register = e;
      shop_places = length-map r.shops first_day ∙ R.fits.places;
      shop_rest =
          ap (all_of zero_shop) (map-drop first_day r.count r.shops ∙ ap (map first_day) R.fits.rest ∙ map-replicate first_day (16 - r.count) no_entry)
          ∙ zeros-all no_shop zero_shop refl (16 - r.count);
      line_places = length-replicate 16 no_line;
      line_rest = drop-replicate r.count 16 no_line zero_line zero-line;
      sums = sum_same r.count (λ p. (shop_at (fresh r) p).balance) (λ p. opening (listed_at r p)) (λ p _. ap (λ (s : Shop). s.balance) (fresh-shop r p));
      lined = λ p h. line R p h;
      own_mark = ap (λ (s : Shop). s.mark) (fresh-shop r (own (fresh r)));
      issued = omega arith;
      issued_own = omega arith;
    }
  where
    line : RegisterLegal r → (p : ℕ) → p < r.count → Lined (fresh r) p
    line R p h =
        let l = fresh-line r p (omega (arith, R.fits.most)) in
        let s = fresh-shop r p in
        record {
          places = ap (λ (x : Line). length x.slips) l;
          rest = ap (λ (x : Line). all_of zero_waiting (drop x.count x.slips)) l ∙ zeros-all no_waiting zero_waiting zero-waiting 8;
          needs = ap (λ (x : Line). all_of (λ (w : Waiting). zero_from 16 (eqb 0) r.count w.needs) x.slips) l
              ∙ zeros-all no_waiting (λ (w : Waiting). zero_from 16 (eqb 0) r.count w.needs) (drop-replicate r.count 16 0 (eqb 0) refl) 8;
          eight = omega (arith, ap (λ (x : Line). x.count) l);
          taken = ap (λ (x : Shop). x.taken) s ∙ omega (arith, ap (λ (x : Shop). x.applied) s, ap (λ (x : Line). x.count) l);
          most = omega (arith, ap (λ (x : Shop). x.taken) s);
          numbers = λ k q. absurd (omega (arith, ap (λ (x : Line). x.count) l));
          payers = λ k q. absurd (omega (arith, ap (λ (x : Line). x.count) l));
          pass = λ k q. absurd (omega (arith, ap (λ (x : Line). x.count) l));
          mark = omega (arith, ap (λ (x : Shop). x.mark) s);
        }

-- every register that is not refused opens to a lawful state
pub opened-lawful : (text : List ℕ) → (opened text).answer ≡ 0 → lawful (opened text).replica ≡ true
unfolding opened
opened-lawful text e = go (register_read text).answer refl
  where
    go : (n : ℕ) → (register_read text).answer ≡ n → lawful (opened text).replica ≡ true
    go zero i =
        let O = read-legal text i in
        rw (i, opened) (fresh-lawful (register_read text).register (ap register_answer O.given ∙ O.legal))
    go (suc n) i = let z : suc n ≡ 0 = rw (i, opened) at e in absurd (omega arith)
