-- What has ended stays.
use Rattle.std.proofs.Common.{◌≡◌, ℕ, zero, suc, ◌+◌, ◌-◌, ◌≤◌, Some, is_some, if◌then◌else◌, sym, ap, ◌∙◌, ◌⊎◌, inl, inr, arith}
use Rattle.slice_core.specs.Starts.{Meaning}
use Rattle.run_rules.specs.Designs.{Design}
use Rattle.run_rules.specs.States.{State, Limits, End}
use Rattle.run_rules.specs.Moves.{move, moved}
use Rattle.run_rules.specs.Runs.{run, IsFinal}

pub move-ended : {R : Type 0} (meaning : Meaning R) (design : Design) (limits : Limits) (s : State R) (e : End) → s.ended ≡ Some e → move meaning design limits s ≡ s
move-ended meaning design limits s e over = ap (λ o. if is_some o then s else moved meaning design limits s s.ready) over

run-ended_by : {R : Type 0} (meaning : Meaning R) (design : Design) (limits : Limits) (rest : R) (k n m : ℕ) (e : End) → m ≡ k + n → (run meaning design limits rest n).ended ≡ Some e → run meaning design limits rest m ≡ run meaning design limits rest n
unfolding run
run-ended_by meaning design limits rest zero n m e is over = let same : m ≡ n = omega arith in ap (run meaning design limits rest) same
run-ended_by meaning design limits rest (suc k) n zero e is over = absurd (omega arith)
run-ended_by {R} meaning design limits rest (suc k) n (suc m) e is over =
    let same = run-ended_by meaning design limits rest k n m e (omega arith) over in
    move-ended meaning design limits (run meaning design limits rest m) e (ap (λ (s : State R). s.ended) same ∙ over) ∙ same

pub run-ended : {R : Type 0} (meaning : Meaning R) (design : Design) (limits : Limits) (rest : R) (n m : ℕ) (e : End) → n ≤ m → (run meaning design limits rest n).ended ≡ Some e → run meaning design limits rest m ≡ run meaning design limits rest n
run-ended meaning design limits rest n m e later over = run-ended_by meaning design limits rest (m - n) n m e (omega arith) over

le_either : (a b : ℕ) → (a ≤ b) ⊎ (b ≤ a)
le_either a b = grind arith

pub final-state : {R : Type 0} (meaning : Meaning R) (design : Design) (limits : Limits) (rest : R) (e f : End) (s t : State R) → IsFinal meaning design limits rest e s → IsFinal meaning design limits rest f t → s ≡ t
final-state {R} meaning design limits rest e f s t p q = by (le_either p.moves q.moves)
  where
    by : (p.moves ≤ q.moves) ⊎ (q.moves ≤ p.moves) → s ≡ t
    by (inl h) = sym p.is ∙ (sym (run-ended meaning design limits rest p.moves q.moves e h (ap (λ (x : State R). x.ended) p.is ∙ p.over)) ∙ q.is)
    by (inr h) = sym p.is ∙ (run-ended meaning design limits rest q.moves p.moves f h (ap (λ (x : State R). x.ended) q.is ∙ q.over) ∙ q.is)

pub final-end : {R : Type 0} (meaning : Meaning R) (design : Design) (limits : Limits) (rest : R) (e f : End) (s t : State R) → IsFinal meaning design limits rest e s → IsFinal meaning design limits rest f t → e ≡ f
final-end {R} meaning design limits rest e f s t p q =
    let same = ap (λ (x : State R). x.ended) (final-state meaning design limits rest e f s t p q) in
    let both : Some e ≡ Some f = sym p.over ∙ (same ∙ q.over) in
    cc
