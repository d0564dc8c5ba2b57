-- A turn and an edge.
use Rattle.std.specs.Prelude.{ℕ, suc, ◌+◌, ◌-◌, ◌*◌, ◌==◌, nat_le, nat_lt, Bool, true, false, not, ◌&&◌, List, [], ◌∷◌, ◌++◌, map, filter, length, Some, is_some, if◌then◌else◌}
use Rattle.slice_core.specs.Starts.{Meaning}
use Rattle.slice_core.specs.Tree.{Effect, Prints, Drives, Outcome, Ended, Spent, Cycle}
use Rattle.slice_core.specs.Slices.{Slice, on, after_writes}
use Rattle.blif_device.specs.Edges.{held_after}
use Rattle.run_rules.specs.Designs.{Design, settled_nets}
use Rattle.run_rules.specs.Drives.{due_in, due_later, driven_by}
use Rattle.run_rules.specs.Nets.{driven_nets, sampled}
use Rattle.run_rules.specs.States.{State, Entry, Waiting, Limits, Finished, Limit, Fault, SpentSlice, SpentTurns}

-- ---- what a slice leaves

abbrev pub effect_taken : {R : Type 0} → State R → Effect → State R
effect_taken s (Prints bytes) = record s { printed = s.printed ++ bytes }
effect_taken s (Drives cycle signal bits) = record s { due = s.due ++ record { cycle = cycle; signal = signal; bits = bits } ∷ [] }

-- effects are taken in order
abbrev pub effects_taken : {R : Type 0} → State R → List Effect → State R
effects_taken s [] = s
effects_taken s (e ∷ es) = effects_taken (effect_taken s e) es

abbrev pub outcome_taken : {R : Type 0} → State R → (thread : ℕ) → Outcome R → R → State R
outcome_taken s thread Ended rest = record s { live = filter (λ n. not (n == thread)) s.live }
outcome_taken s thread Spent rest = record s { ended = Some SpentSlice }
outcome_taken s thread (Cycle edges) rest = record s { waiting = s.waiting ++ record { thread = thread; edges = edges; rest = rest } ∷ [] }

-- A slice is done: its writes are applied, then its effects are taken in order, then its outcome.
abbrev pub after : {R : Type 0} → State R → (thread : ℕ) → Slice R → State R
after s thread slice =
    outcome_taken (effects_taken (record s { contents = after_writes slice.writes s.contents }) slice.effects) thread slice.outcome slice.rest

-- ---- the limits of a move

abbrev pub is_empty : {A : Type 0} → List A → Bool
is_empty [] = true
is_empty (x ∷ xs) = false

-- how many bytes a run may print, where each drive counts as 64
abbrev pub most_text : ℕ
most_text = 67108864

-- where a run without an end has printed more, it ends as fault F09 of no line
abbrev pub text_limited : {R : Type 0} → State R → State R
text_limited s =
    if is_some s.ended then s
    else (if nat_lt most_text (length s.printed + 64 * length s.applied) then record s { ended = Some (Fault 9 0) } else s)

-- A run without an end is spent where as many slices as a cycle may have were run in this one, and a thread is ready.
abbrev pub turns_limited : {R : Type 0} → Limits → State R → State R
turns_limited limits s =
    if is_some s.ended then s
    else (if nat_le limits.turns s.turns && not (is_empty s.ready) then record s { ended = Some SpentTurns } else s)

-- behind a turn or an edge the text's limit is looked at, and then that of turns
abbrev pub limited : {R : Type 0} → Limits → State R → State R
limited limits s = turns_limited limits (text_limited s)

-- ---- a turn

-- the first ready thread runs one slice
abbrev pub turn : {R : Type 0} → Meaning R → Limits → State R → Entry R → List (Entry R) → State R
turn meaning limits s e es =
    let tree = meaning (record { rest = e.rest; thread = e.thread; cycle = s.cycle; budget = limits.budget }) in
    limited limits (after (record s { ready = es; turns = s.turns + 1 }) e.thread (on tree s.contents))

-- ---- an edge

-- the drives that are due in this cycle are applied, in order
abbrev pub drives_applied : {R : Type 0} → State R → State R
drives_applied s =
    let now = due_in s.cycle s.due in
    record s { due = due_later s.cycle s.due; driven = driven_by now s.driven; applied = s.applied ++ now }

-- entries with serials from n on
abbrev pub entries_from : {R : Type 0} → ℕ → List (Waiting R) → List (Entry R)
entries_from n [] = []
entries_from n (w ∷ ws) = record { serial = n; thread = w.thread; rest = w.rest } ∷ entries_from (suc n) ws

-- Each waiting thread waits for one edge less, in the order in which they began to wait. At none it is made ready.
abbrev pub counted_down : {R : Type 0} → State R → State R
counted_down s =
    let waiting = map (λ (w : Waiting _). record w { edges = w.edges - 1 }) s.waiting in
    let over = filter (λ (w : Waiting _). w.edges == 0) waiting in
    record s {
      ready = s.ready ++ entries_from s.next_serial over;
      waiting = filter (λ (w : Waiting _). not (w.edges == 0)) waiting;
      next_serial = s.next_serial + length over;
    }

-- The next cycle begins: the nets settle, the input signals are sampled, the latches take their inputs, and the
-- threads that wait for edges are treated.
abbrev pub next_cycle : {R : Type 0} → Design → State R → State R
next_cycle design s =
    let value = settled_nets design (driven_nets design.netlist.nets design.signals s.driven) s.held in
    counted_down (record s {
      contents = sampled design.netlist.nets design.signals value s.contents;
      held = held_after design.netlist value;
      cycle = s.cycle + 1;
      turns = 0;
    })

-- The cycle ends: its drives are applied. Then the run is finished where no thread lives, else at its limit where
-- this was its last cycle, and else the next cycle begins.
abbrev pub edge : {R : Type 0} → Design → Limits → State R → State R
edge design limits s =
    let t = drives_applied s in
    if is_empty t.live then record t { ended = Some Finished }
    else (if t.cycle == limits.cycles then record t { ended = Some Limit } else limited limits (next_cycle design t))

-- ---- a move

-- a turn where a thread is ready, else an edge
abbrev pub moved : {R : Type 0} → Meaning R → Design → Limits → State R → List (Entry R) → State R
moved meaning design limits s [] = edge design limits s
moved meaning design limits s (e ∷ es) = turn meaning limits s e es

-- after an end nothing changes
abbrev pub move : {R : Type 0} → Meaning R → Design → Limits → State R → State R
move meaning design limits s = if is_some s.ended then s else moved meaning design limits s s.ready
