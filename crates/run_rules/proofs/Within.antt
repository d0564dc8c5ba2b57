-- A run stays within its limits.
use Rattle.std.proofs.Common.{◌≡◌, ◌≢◌, ℕ, zero, suc, ◌+◌, ◌<◌, ◌≤◌, List, [], ◌∷◌, None, refl, ◌⊎◌, inl, inr, arith}
use Rattle.slice_core.specs.Starts.{Meaning}
use Rattle.slice_core.specs.Slices.{on}
use Rattle.run_rules.specs.Designs.{Design}
use Rattle.run_rules.specs.States.{State, Entry, Limits}
use Rattle.run_rules.specs.Moves.{move, edge, turn, drives_applied, next_cycle, limited, after}
use Rattle.run_rules.specs.Runs.{run}
use Rattle.run_rules.proofs.Kept.{move-cases, edge-cases, limited-cases, after-untouched}

pub record Within {R : Type 0} (limits : Limits) (s : State R) : Type 0 where
  pub cycle : s.cycle ≤ limits.cycles
  pub turns : 0 < limits.turns → s.turns ≤ limits.turns
  -- where a turn comes next, there is room for it
  pub room : s.ended ≡ None → s.ready ≢ [] → (s.turns < limits.turns) ⊎ (s.turns ≡ 0)

within-limited : {R : Type 0} (limits : Limits) (s : State R) → s.cycle ≤ limits.cycles → (0 < limits.turns → s.turns ≤ limits.turns) → Within limits (limited limits s)
within-limited {R} limits s cycle turns = limited-cases (λ (t : State R). Within limits t) limits s
    (λ room. record { cycle = cycle; turns = turns; room = λ still some. inl (room still some) })
    (record { cycle = cycle; turns = turns; room = λ still some. absurd cc })
    (record { cycle = cycle; turns = turns; room = λ still some. absurd cc })

below : (a b : ℕ) → a ≤ b → a ≢ b → a + 1 ≤ b
below a b h ne = omega arith

within-edge : {R : Type 0} (design : Design) (limits : Limits) (s : State R) → Within limits s → Within limits (edge design limits s)
within-edge {R} design limits s w = edge-cases (λ (t : State R). Within limits t) design limits s
    (record { cycle = w.cycle; turns = w.turns; room = λ still some. absurd cc })
    (record { cycle = w.cycle; turns = w.turns; room = λ still some. absurd cc })
    (λ more. within-limited limits (next_cycle design (drives_applied s)) (below s.cycle limits.cycles w.cycle more) (λ some. omega arith))

one_more : (a b : ℕ) → (a < b) ⊎ (a ≡ 0) → 0 < b → a + 1 ≤ b
one_more a b (inl h) some = omega arith
one_more a b (inr h) some = omega arith

pub nonempty : {A : Type 0} (xs : List A) (y : A) (ys : List A) → xs ≡ y ∷ ys → xs ≢ []
nonempty xs y ys e none = absurd cc

within-turn : {R : Type 0} (meaning : Meaning R) (limits : Limits) (s : State R) (e : Entry R) (es : List (Entry R)) → s.ended ≡ None → s.ready ≡ e ∷ es → Within limits s → Within limits (turn meaning limits s e es)
within-turn {R} meaning limits s e es still first w =
    let slice = on (meaning (record { rest = e.rest; thread = e.thread; cycle = s.cycle; budget = limits.budget })) s.contents in
    let begun : State R = record s { ready = es; turns = s.turns + 1 } in
    let clock = after-untouched begun e.thread slice in
    within-limited limits (after begun e.thread slice)
    (let c : (after begun e.thread slice).cycle ≡ s.cycle = clock.cycle in let h = w.cycle in omega arith)
    (λ some. let t : (after begun e.thread slice).turns ≡ s.turns + 1 = clock.turns in let h = one_more s.turns limits.turns (w.room still (nonempty s.ready e es first)) some in omega arith)

within-move : {R : Type 0} (meaning : Meaning R) (design : Design) (limits : Limits) (s : State R) → Within limits s → Within limits (move meaning design limits s)
within-move {R} meaning design limits s w = move-cases (λ (t : State R). Within limits t) meaning design limits s
    (λ e over. w)
    (λ still none. within-edge design limits s w)
    (λ still e es first. within-turn meaning limits s e es still first w)

pub within-run : {R : Type 0} (meaning : Meaning R) (design : Design) (limits : Limits) (rest : R) (n : ℕ) → Within limits (run meaning design limits rest n)
unfolding run
within-run meaning design limits rest zero = record { cycle = omega arith; turns = λ some. omega arith; room = λ still some. inr refl }
within-run meaning design limits rest (suc n) = within-move meaning design limits (run meaning design limits rest n) (within-run meaning design limits rest n)
