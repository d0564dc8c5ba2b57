-- Where a run is spent by turns.
use Rattle.std.proofs.Common.{◌≡◌, ◌≢◌, ◌≤◌, nat_le, Bool, true, false, not, ◌&&◌, List, [], ◌∷◌, Option, Some, None, is_some, if◌then◌else◌, refl, sym, ap, ◌∙◌}
use Rattle.std.proofs.lemmas.Bool.{leb-true, le-leb}
use Rattle.slice_core.specs.Starts.{Meaning}
use Rattle.run_rules.specs.Designs.{Design}
use Rattle.run_rules.specs.States.{State, Entry, Limits, End, SpentTurns}
use Rattle.run_rules.specs.Moves.{move, moved, turn, turns_limited, is_empty}

pub move-turn : {R : Type 0} (meaning : Meaning R) (design : Design) (limits : Limits) (s : State R) (e : Entry R) (es : List (Entry R)) → s.ended ≡ None → s.ready ≡ e ∷ es → move meaning design limits s ≡ turn meaning limits s e es
move-turn meaning design limits s e es still first = ap (λ o. if is_some o then s else moved meaning design limits s s.ready) still ∙ ap (moved meaning design limits s) first

-- the limit, as its two tests have it
abbrev tested : {R : Type 0} → State R → Bool → List (Entry R) → State R
tested s many ready = if many && not (is_empty ready) then record s { ended = Some SpentTurns } else s

limited-still : {R : Type 0} (limits : Limits) (s : State R) → s.ended ≡ None → turns_limited limits s ≡ tested s (nat_le limits.turns s.turns) s.ready
limited-still limits s still = ap (λ o. if is_some o then s else tested s (nat_le limits.turns s.turns) s.ready) still

pub limited-spends : {R : Type 0} (limits : Limits) (s : State R) → s.ended ≡ None → (limits.turns ≤ s.turns) × (s.ready ≢ []) → turns_limited limits s ≡ record s { ended = Some SpentTurns }
limited-spends {R} limits s still h =
    limited-still limits s still ∙ (ap (λ b. tested s b s.ready) (le-leb limits.turns s.turns h.0) ∙ by s.ready h.1)
  where
    by : (ready : List (Entry R)) → ready ≢ [] → tested s true ready ≡ record s { ended = Some SpentTurns }
    by [] some = absurd (some refl)
    by (e ∷ es) some = refl

pub limited-spent : {R : Type 0} (limits : Limits) (s : State R) → s.ended ≡ None → (turns_limited limits s).ended ≡ Some SpentTurns → (limits.turns ≤ s.turns) × (s.ready ≢ [])
limited-spent {R} limits s still spent =
    by (nat_le limits.turns s.turns) s.ready refl refl (sym (ap (λ (x : State R). x.ended) (limited-still limits s still)) ∙ spent)
  where
    by : (many : Bool) (ready : List (Entry R)) → nat_le limits.turns s.turns ≡ many → s.ready ≡ ready → (tested s many ready).ended ≡ Some SpentTurns → (limits.turns ≤ s.turns) × (s.ready ≢ [])
    by true [] m r e = absurd cc
    by true (x ∷ xs) m r e = (leb-true limits.turns s.turns m, λ none. absurd cc)
    by false ready m r e = absurd cc

pub limited-same : {R : Type 0} (limits : Limits) (s : State R) → (turns_limited limits s).ended ≢ Some SpentTurns → turns_limited limits s ≡ s
limited-same {R} limits s other = by s.ended (nat_le limits.turns s.turns && not (is_empty s.ready)) other
  where
    given : Option End → Bool → State R
    given o b = if is_some o then s else (if b then record s { ended = Some SpentTurns } else s)

    by : (o : Option End) (b : Bool) → (given o b).ended ≢ Some SpentTurns → given o b ≡ s
    by (Some e) b h = refl
    by None true h = absurd (h refl)
    by None false h = refl
