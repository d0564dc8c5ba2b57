-- The turn of a run's one thread.
use Rattle.std.proofs.Common.{◌≡◌, ℕ, List, [], ◌∷◌, ◌++◌, refl, sym, ap, ◌∙◌}
use Rattle.store_api.specs.Places.{Contents}
use Rattle.slice_core.specs.Tree.{Effect, Prints, Drives}
use Rattle.slice_core.specs.Slices.{Slice, on, after_writes}
use Rattle.slice_core.specs.Walks.{End, walked, end_of}
use Rattle.slice_core.proofs.Walked.{walked_same}
use Rattle.vera_meaning.specs.Rests.{Rest}
use Rattle.vera_meaning.specs.Slices.{slice_of}
use Rattle.run_rules.specs.declared.limits.Limits.{Limits}
use Rattle.run_rules.specs.Designs.{Design}
use Rattle.run_rules.specs.States.{State}
use Rattle.run_rules.specs.Moves.{move, effects_taken, outcome_taken, after, limited}
use Rattle.run_rules.specs.Sources.{source_meaning}
use Rattle.plain_run.specs.Logs.{tells_all}
use Rattle.plain_run.specs.ReadyStates.{Kept, ready_state, turned_state}

-- effects add to what was told, and change nothing else
effects-tell : (s : State Rest) (es : List Effect) → effects_taken s es ≡ record s { printed = (tells_all (record { printed = s.printed; due = s.due }) es).printed; due = (tells_all (record { printed = s.printed; due = s.due }) es).due }
effects-tell s [] = refl
effects-tell s (Prints bytes ∷ es) = effects-tell (record s { printed = s.printed ++ bytes }) es
effects-tell s (Drives cycle signal bits ∷ es) = effects-tell (record s { due = s.due ++ record { cycle = cycle; signal = signal; bits = bits } ∷ [] }) es

-- the walk of the thread's slice
abbrev pub walk : Rest → ℕ → ℕ → Contents → End Rest
walk rest cycle budget contents = walked (slice_of (record { thread = 1; cycle = cycle }) rest budget) contents

-- what the slice leaves is taken
abbrev taken : Kept → End Rest → State Rest
taken k w = turned_state k w.contents (tells_all (record { printed = k.printed; due = [] }) w.effects) w.outcome w.rest

after-turn : (rest : Rest) (k : Kept) (slice : Slice Rest) → after (record (ready_state rest k) { ready = []; turns = 1 }) 1 slice ≡ taken k (end_of slice k.contents)
after-turn rest k slice =
    ap (λ s. outcome_taken s 1 slice.outcome slice.rest)
    (effects-tell (record (ready_state rest k) { ready = []; turns = 1; contents = after_writes slice.writes k.contents }) slice.effects)

pub turn_taken : (rest : Rest) (k : Kept) (design : Design) (limits : Limits) → move source_meaning design limits (ready_state rest k) ≡ limited limits (taken k (walk rest k.cycle limits.budget k.contents))
turn_taken rest k design limits =
    let tree = slice_of (record { thread = 1; cycle = k.cycle }) rest limits.budget in
    ap (limited limits) (after-turn rest k (on tree k.contents) ∙ ap (taken k) (sym (walked_same tree k.contents)))
