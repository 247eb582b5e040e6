-- What the steps keep, calls keep: a call enters a slip and settles, issues, or changes nothing.
use mathlib.Core.Path.{◌≡◌, refl}
use mathlib.Core.List.{List, [], ◌∷◌}
use Prim.Native.Nat.{ℕ, zero, suc}
use Rattle.replica.specs.declared.record.Replica.{Replica}
use Rattle.replica.specs.Settle.{Settles, stop, step, settled}
use Rattle.replica.specs.Take.{slip_from, entered, take_answer, taken}
use Rattle.replica.specs.Issue.{issue_answer, issuing, issued}
use Rattle.replica.specs.Calls.{Call, take, issue, balance, call, after, end}
use Rattle.replica.specs.Lasting.{StepsKeep, CallsKeep}
use Rattle.replica.proofs.Settling.{settles-so}
use Rattle.replica.proofs.Issued.{asked-same}

-- ---- the state that a take and an issue give back

pub took-settled : (self : Replica) (text list : List ℕ) → take_answer self text list ≡ 0 → (taken self text list).replica ≡ settled (entered self (slip_from text))
unfolding taken
took-settled self text list e = rw (e, taken)

pub took-same : (self : Replica) (text list : List ℕ) (n : ℕ) → take_answer self text list ≡ suc n → (taken self text list).replica ≡ self
unfolding taken
took-same self text list n e = rw (e, taken)

pub issued-issuing : (self : Replica) (payee : List ℕ) (amount : ℕ) (buffer : List ℕ) → issue_answer self payee amount buffer ≡ 0 → (issued self payee amount buffer).replica ≡ issuing self
unfolding issued
issued-issuing self payee amount buffer e = rw (e, issued)

pub issued-same : (self : Replica) (payee : List ℕ) (amount : ℕ) (buffer : List ℕ) (n : ℕ) → issue_answer self payee amount buffer ≡ suc n → (issued self payee amount buffer).replica ≡ self
unfolding issued
issued-same self payee amount buffer n e = rw (e, issued)

-- ---- kept

settle-keeps : {P : Replica → Type 0} {self end : Replica} {list : List ℕ} → StepsKeep P → Settles self list end → P self → P end
settle-keeps K (stop N) h = h
settle-keeps K (step {self} {end} {p} l N r more) h = settle-keeps K more (K.applying self p l r h)

pub call-keeps : {P : Replica → Type 0} → StepsKeep P → (self : Replica) (c : Call) → P self → P (after self c)
unfolding call
call-keeps {P} K self (take text list) h = go (take_answer self text list) refl
  where
    go : (n : ℕ) → take_answer self text list ≡ n → P (taken self text list).replica
    go zero e = rw (took-settled self text list e) (settle-keeps K (settles-so (entered self (slip_from text))) (K.entering self text list e h))
    go (suc n) e = rw (took-same self text list n e) h
call-keeps {P} K self (issue payee amount buffer) h = go (issue_answer self payee amount buffer) refl
  where
    go : (n : ℕ) → issue_answer self payee amount buffer ≡ n → P (issued self payee amount buffer).replica
    go zero e = rw (issued-issuing self payee amount buffer e) (K.writing self payee amount buffer e h)
    go (suc n) e = rw (issued-same self payee amount buffer n e) h
call-keeps K self (balance code) h = rw (asked-same self code) h

pub calls-keep : CallsKeep
unfolding end
calls-keep P K self h [] = h
calls-keep P K self h (c ∷ cs) = calls-keep P K (after self c) (call-keeps K self c h) cs
