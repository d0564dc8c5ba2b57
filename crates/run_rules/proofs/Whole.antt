-- Each run ends.
use Rattle.std.proofs.Common.{◌≡◌, ◌≢◌, ℕ, zero, suc, ◌+◌, ◌-◌, ◌<◌, ◌≤◌, List, [], ◌∷◌, Option, Some, None, refl, ap, ◌∙◌, subst, ◌⊎◌, inl, inr, arith}
use Rattle.slice_core.specs.Starts.{Meaning}
use Rattle.slice_core.specs.Slices.{on}
use Rattle.run_rules.specs.Designs.{Design}
use Rattle.run_rules.specs.States.{State, Entry, Limits, End}
use Rattle.run_rules.specs.Moves.{edge, turn, drives_applied, next_cycle, after}
use Rattle.run_rules.specs.Runs.{run, IsFinal}
use Rattle.run_rules.proofs.Kept.{edge-cases, limited-cases, after-untouched}
use Rattle.run_rules.proofs.Edges.{move-edge}
use Rattle.run_rules.proofs.TurnLimit.{move-turn}
use Rattle.run_rules.proofs.Within.{within-run, nonempty}

-- the next cycle began
record Begins {R : Type 0} (limits : Limits) (s t : State R) : Type 0 where
  not_last : s.cycle ≢ limits.cycles
  cycle : t.cycle ≡ s.cycle + 1
  turns : t.turns ≡ 0

-- an edge that doesn't end the run begins the next cycle
edge-begins : {R : Type 0} (design : Design) (limits : Limits) (s : State R) → (edge design limits s).ended ≡ None → Begins limits s (edge design limits s)
edge-begins {R} design limits s = edge-cases (λ (t : State R). t.ended ≡ None → Begins limits s t) design limits s
    (λ still. absurd cc)
    (λ still. absurd cc)
    (λ more. limited-cases (λ (t : State R). t.ended ≡ None → Begins limits s t) limits (next_cycle design (drives_applied s))
    (λ room still. record { not_last = more; cycle = refl; turns = refl })
    (λ still. record { not_last = more; cycle = refl; turns = refl })
    (λ still. record { not_last = more; cycle = refl; turns = refl }))

-- a turn
record Turns {R : Type 0} (s t : State R) : Type 0 where
  cycle : t.cycle ≡ s.cycle
  turns : t.turns ≡ s.turns + 1

turn-turns : {R : Type 0} (meaning : Meaning R) (limits : Limits) (s : State R) (e : Entry R) (es : List (Entry R)) → Turns s (turn meaning limits s e es)
turn-turns {R} meaning limits s e es =
    let slice = on (meaning (record { rest = e.rest; thread = e.thread; cycle = s.cycle; budget = limits.budget })) s.contents in
    let begun : State R = record s { ready = es; turns = s.turns + 1 } in
    let clock = after-untouched begun e.thread slice in
    limited-cases (λ (t : State R). Turns s t) limits (after begun e.thread slice)
    (λ room. record { cycle = clock.cycle; turns = clock.turns })
    (record { cycle = clock.cycle; turns = clock.turns })
    (record { cycle = clock.cycle; turns = clock.turns })

module _ {R : Type 0} (meaning : Meaning R) (design : Design) (limits : Limits) (rest : R) where
  abbrev Ends : Type 0
  Ends = (e : End) × (s : State R) × IsFinal meaning design limits rest e s

  -- no move so far ended the run, and there are k turns at most before the cycle ends, and d cycles behind it
  record StillAt (n k d : ℕ) : Type 0 where
    before : (m : ℕ) → m < n → (run meaning design limits rest m).ended ≡ None
    cycles : limits.cycles ≤ (run meaning design limits rest n).cycle + d
    turns : limits.turns < (run meaning design limits rest n).turns + k

  ends-now : (n : ℕ) → ((m : ℕ) → m < n → (run meaning design limits rest m).ended ≡ None) → (e : End) → (run meaning design limits rest n).ended ≡ Some e → Ends
  ends-now n before e over = (e, run meaning design limits rest n, record { moves = n; is = refl; over = over; first = before })

  before-suc : (n : ℕ) → ((m : ℕ) → m < n → (run meaning design limits rest m).ended ≡ None) → (run meaning design limits rest n).ended ≡ None → (m : ℕ) → m < suc n → (run meaning design limits rest m).ended ≡ None
  before-suc n before still m h = by (split m n h)
    where
      split : (a b : ℕ) → a < suc b → (a < b) ⊎ (a ≡ b)
      split a b h = grind arith

      by : (m < n) ⊎ (m ≡ n) → (run meaning design limits rest m).ended ≡ None
      by (inl h) = before m h
      by (inr e) = ap (λ x. (run meaning design limits rest x).ended) e ∙ still

  -- one move more, by an edge or by a turn
  one_move : (n k d : ℕ) → StillAt n k d → (0 < d → StillAt (suc n) (suc limits.turns) (d - 1) → Ends) → (0 < k → StillAt (suc n) (k - 1) d → Ends) → Ends
  unfolding run
  one_move n k d st next again = by s.ended refl
    where
      s : State R
      s = run meaning design limits rest n

      edged : s.ended ≡ None → s.ready ≡ [] → (o : Option End) → (edge design limits s).ended ≡ o → Ends
      edged still none (Some e) o =
          ends-now (suc n) (before-suc n st.before still) e (ap (λ (t : State R). t.ended) (move-edge meaning design limits s still none) ∙ o)
      edged still none None o =
          let same = move-edge meaning design limits s still none in
          let b = edge-begins design limits s o in
          let c : (run meaning design limits rest (suc n)).cycle ≡ s.cycle + 1 = ap (λ (t : State R). t.cycle) same ∙ b.cycle in
          let t : (run meaning design limits rest (suc n)).turns ≡ 0 = ap (λ (t : State R). t.turns) same ∙ b.turns in
          let more : s.cycle < limits.cycles = lower s.cycle limits.cycles (within-run meaning design limits rest n).cycle b.not_last in
          let left : limits.cycles ≤ s.cycle + d = st.cycles in
          next (omega arith) (record { before = before-suc n st.before still; cycles = omega arith; turns = omega arith })
        where
          lower : (a b : ℕ) → a ≤ b → a ≢ b → a < b
          lower a b h ne = omega arith

      turned : s.ended ≡ None → (e : Entry R) (es : List (Entry R)) → s.ready ≡ e ∷ es → Ends
      turned still e es first =
          let same = move-turn meaning design limits s e es still first in
          let b = turn-turns meaning limits s e es in
          let c : (run meaning design limits rest (suc n)).cycle ≡ s.cycle = ap (λ (t : State R). t.cycle) same ∙ b.cycle in
          let t : (run meaning design limits rest (suc n)).turns ≡ s.turns + 1 = ap (λ (t : State R). t.turns) same ∙ b.turns in
          let some : s.turns ≤ limits.turns = room s.turns limits.turns ((within-run meaning design limits rest n).room still (nonempty s.ready e es first)) in
          let left : limits.turns < s.turns + k = st.turns in
          let all : limits.cycles ≤ s.cycle + d = st.cycles in
          again (omega arith) (record { before = before-suc n st.before still; cycles = omega arith; turns = omega arith })
        where
          room : (a b : ℕ) → (a < b) ⊎ (a ≡ 0) → a ≤ b
          room a b (inl h) = omega arith
          room a b (inr h) = omega arith

      by_ready : s.ended ≡ None → (ready : List (Entry R)) → s.ready ≡ ready → Ends
      by_ready still [] r = edged still r (edge design limits s).ended refl
      by_ready still (e ∷ es) r = turned still e es r

      by : (o : Option End) → s.ended ≡ o → Ends
      by (Some e) o = ends-now n st.before e o
      by None o = by_ready o s.ready refl

  pred-suc : (k : ℕ) → suc k - 1 ≡ k
  pred-suc k = omega arith

  -- the moves of one cycle
  in_cycle : (k n d : ℕ) → StillAt n k d → ((m : ℕ) → 0 < d → StillAt m (suc limits.turns) (d - 1) → Ends) → Ends
  in_cycle zero n d st next = one_move n zero d st (next (suc n)) (λ some. absurd (omega arith))
  in_cycle (suc k) n d st next =
      one_move n (suc k) d st (next (suc n)) (λ some st'. in_cycle k (suc n) d (subst (λ x. StillAt (suc n) x d) (pred-suc k) st') next)

  -- the cycles
  from_cycle : (d n : ℕ) → StillAt n (suc limits.turns) d → Ends
  from_cycle zero n st = in_cycle (suc limits.turns) n zero st (λ m some. absurd (omega arith))
  from_cycle (suc d) n st =
      in_cycle (suc limits.turns) n (suc d) st (λ m some st'. from_cycle d m (subst (λ x. StillAt m (suc limits.turns) x) (pred-suc d) st'))

  pub run_ends : (e : End) × (s : State R) × IsFinal meaning design limits rest e s
  unfolding run
  run_ends = from_cycle limits.cycles 0 (record { before = λ m h. absurd (omega arith); cycles = omega arith; turns = omega arith })
