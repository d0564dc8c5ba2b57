-- What a move may do to a state, by its cases, and what no move changes.
use Rattle.std.proofs.Common.{◌≡◌, ◌≢◌, ℕ, ◌+◌, ◌*◌, ◌<◌, ◌==◌, nat_le, nat_lt, Bool, true, false, not, ◌&&◌, List, [], ◌∷◌, ◌++◌, length, Option, Some, None, is_some, if◌then◌else◌, refl, arith}
use Rattle.std.proofs.lemmas.Bool.{leb-false}
use Rattle.std.proofs.lemmas.Bool.Decides.{nat_tests}
use Rattle.slice_core.specs.Starts.{Meaning}
use Rattle.slice_core.specs.Tree.{Effect, Prints, Drives, Outcome, Ended, Spent, Cycle}
use Rattle.slice_core.specs.Slices.{Slice, after_writes}
use Rattle.run_rules.specs.Designs.{Design}
use Rattle.run_rules.specs.States.{State, Entry, Limits, End, Finished, Limit, Fault, SpentTurns}
use Rattle.run_rules.specs.Moves.{move, moved, edge, turn, drives_applied, next_cycle, limited, text_limited, turns_limited, most_text, after, effects_taken, outcome_taken, is_empty}

pub move-cases : {R : Type 0} (P : State R → Type 0) (meaning : Meaning R) (design : Design) (limits : Limits) (s : State R) → ((e : End) → s.ended ≡ Some e → P s) → (s.ended ≡ None → s.ready ≡ [] → P (edge design limits s)) → (s.ended ≡ None → (e : Entry R) (es : List (Entry R)) → s.ready ≡ e ∷ es → P (turn meaning limits s e es)) → P (move meaning design limits s)
move-cases {R} P meaning design limits s over at_edge at_turn = by s.ended refl
  where
    by_ready : s.ended ≡ None → (ready : List (Entry R)) → s.ready ≡ ready → P (moved meaning design limits s ready)
    by_ready still [] r = at_edge still r
    by_ready still (e ∷ es) r = at_turn still e es r

    by : (o : Option End) → s.ended ≡ o → P (if is_some o then s else moved meaning design limits s s.ready)
    by (Some e) is = over e is
    by None is = by_ready is s.ready refl

eqb-differ : (a b : ℕ) → (a == b) ≡ false → a ≢ b
eqb-differ a b h = grind (arith, nat_tests)

pub edge-cases : {R : Type 0} (P : State R → Type 0) (design : Design) (limits : Limits) (s : State R) → P (record (drives_applied s) { ended = Some Finished }) → P (record (drives_applied s) { ended = Some Limit }) → (s.cycle ≢ limits.cycles → P (limited limits (next_cycle design (drives_applied s)))) → P (edge design limits s)
edge-cases {R} P design limits s finished last more = by (is_empty s.live) (s.cycle == limits.cycles) refl
  where
    t : State R
    t = drives_applied s

    by : (idle at_last : Bool) → (s.cycle == limits.cycles) ≡ at_last → P (if idle then record (drives_applied s) { ended = Some Finished } else (if at_last then record (drives_applied s) { ended = Some Limit } else limited limits (next_cycle design (drives_applied s))))
    by true at_last is = finished
    by false true is = last
    by false false is = more (eqb-differ s.cycle limits.cycles is)

text-cases : {R : Type 0} (P : State R → Type 0) (s : State R) → P s → P (record s { ended = Some (Fault 9 0) }) → P (text_limited s)
text-cases {R} P s same fault = by s.ended (nat_lt most_text (length s.printed + 64 * length s.applied))
  where
    by : (o : Option End) (much : Bool) → P (if is_some o then s else (if much then record s { ended = Some (Fault 9 0) } else s))
    by (Some e) much = same
    by None true = fault
    by None false = same

turns-cases : {R : Type 0} (P : State R → Type 0) (limits : Limits) (s : State R) → ((s.ended ≡ None → s.ready ≢ [] → s.turns < limits.turns) → P s) → P (record s { ended = Some SpentTurns }) → P (turns_limited limits s)
turns-cases {R} P limits s room spent = by s.ended (nat_le limits.turns s.turns) s.ready refl refl refl
  where
    by : (o : Option End) (many : Bool) (ready : List (Entry R)) → s.ended ≡ o → nat_le limits.turns s.turns ≡ many → s.ready ≡ ready → P (if is_some o then s else (if many && not (is_empty ready) then record s { ended = Some SpentTurns } else s))
    by (Some e) many ready o m r = room (λ still some. absurd cc)
    by None true [] o m r = room (λ still some. absurd (some r))
    by None true (x ∷ xs) o m r = spent
    by None false ready o m r = room (λ still some. leb-false limits.turns s.turns m)

pub limited-cases : {R : Type 0} (P : State R → Type 0) (limits : Limits) (s : State R) → ((s.ended ≡ None → s.ready ≢ [] → s.turns < limits.turns) → P s) → P (record s { ended = Some (Fault 9 0) }) → P (record s { ended = Some SpentTurns }) → P (limited limits s)
limited-cases {R} P limits s room fault spent = text-cases (λ t. P (turns_limited limits t)) s (turns-cases P limits s room spent) fault

-- what no slice changes
pub record Untouched {R : Type 0} (s t : State R) : Type 0 where
  pub cycle : t.cycle ≡ s.cycle
  pub turns : t.turns ≡ s.turns
  pub held : t.held ≡ s.held

effects-untouched : {R : Type 0} (s : State R) (es : List Effect) → Untouched s (effects_taken s es)
effects-untouched s [] = record { cycle = refl; turns = refl; held = refl }
effects-untouched s (Prints bytes ∷ es) =
    let more = effects-untouched (record s { printed = s.printed ++ bytes }) es in
    record { cycle = more.cycle; turns = more.turns; held = more.held }
effects-untouched s (Drives cycle signal bits ∷ es) =
    let more = effects-untouched (record s { due = s.due ++ record { cycle = cycle; signal = signal; bits = bits } ∷ [] }) es in
    record { cycle = more.cycle; turns = more.turns; held = more.held }

outcome-untouched : {R : Type 0} (s t : State R) (thread : ℕ) (o : Outcome R) (rest : R) → Untouched s t → Untouched s (outcome_taken t thread o rest)
outcome-untouched s t thread Ended rest same = record { cycle = same.cycle; turns = same.turns; held = same.held }
outcome-untouched s t thread Spent rest same = record { cycle = same.cycle; turns = same.turns; held = same.held }
outcome-untouched s t thread (Cycle edges) rest same = record { cycle = same.cycle; turns = same.turns; held = same.held }

pub after-untouched : {R : Type 0} (s : State R) (thread : ℕ) (slice : Slice R) → Untouched s (after s thread slice)
after-untouched s thread slice =
    let begun = record s { contents = after_writes slice.writes s.contents } in
    let taken = effects-untouched begun slice.effects in
    outcome-untouched s (effects_taken begun slice.effects) thread slice.outcome slice.rest (record { cycle = taken.cycle; turns = taken.turns; held = taken.held })
