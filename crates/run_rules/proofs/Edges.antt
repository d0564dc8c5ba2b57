-- An edge, by its cases.
use Rattle.std.proofs.Common.{◌≡◌, ◌≢◌, ℕ, ◌==◌, Bool, true, false, List, [], ◌∷◌, Some, None, is_some, if◌then◌else◌, refl, ap, ◌∙◌, arith}
use Rattle.std.proofs.lemmas.Bool.Decides.{nat_tests}
use Rattle.slice_core.specs.Starts.{Meaning}
use Rattle.run_rules.specs.Designs.{Design}
use Rattle.run_rules.specs.States.{State, Limits, Finished, Limit}
use Rattle.run_rules.specs.Moves.{move, moved, edge, drives_applied, next_cycle, limited, is_empty}

-- a move without a ready thread is an edge
pub move-edge : {R : Type 0} (meaning : Meaning R) (design : Design) (limits : Limits) (s : State R) → s.ended ≡ None → s.ready ≡ [] → move meaning design limits s ≡ edge design limits s
move-edge meaning design limits s still none = ap (λ o. if is_some o then s else moved meaning design limits s s.ready) still ∙ ap (moved meaning design limits s) none

is_empty-not : (ns : List ℕ) → ns ≢ [] → is_empty ns ≡ false
is_empty-not [] some = absurd (some refl)
is_empty-not (n ∷ ns) some = refl

eqb-same : (a b : ℕ) → a ≡ b → (a == b) ≡ true
eqb-same a b e = grind (arith, nat_tests)

eqb-other : (a b : ℕ) → a ≢ b → (a == b) ≡ false
eqb-other a b e = grind (arith, nat_tests)

-- the edge, as its two tests have it
tested : {R : Type 0} → Design → Limits → State R → Bool → Bool → State R
tested design limits t idle last =
    if idle then record t { ended = Some Finished }
    else (if last then record t { ended = Some Limit } else limited limits (next_cycle design t))

pub move-finishes : {R : Type 0} (meaning : Meaning R) (design : Design) (limits : Limits) (s : State R) → s.ended ≡ None → s.ready ≡ [] → s.live ≡ [] → move meaning design limits s ≡ record (drives_applied s) { ended = Some Finished }
unfolding tested
move-finishes meaning design limits s still none dead =
    move-edge meaning design limits s still none ∙ ap (λ l. tested design limits (drives_applied s) (is_empty l) (s.cycle == limits.cycles)) dead

pub move-limit : {R : Type 0} (meaning : Meaning R) (design : Design) (limits : Limits) (s : State R) → s.ended ≡ None → s.ready ≡ [] → s.live ≢ [] → s.cycle ≡ limits.cycles → move meaning design limits s ≡ record (drives_applied s) { ended = Some Limit }
unfolding tested
move-limit meaning design limits s still none alive last =
    move-edge meaning design limits s still none
    ∙ (ap (λ b. tested design limits (drives_applied s) b (s.cycle == limits.cycles)) (is_empty-not s.live alive)
    ∙ ap (tested design limits (drives_applied s) false) (eqb-same s.cycle limits.cycles last))

pub move-next : {R : Type 0} (meaning : Meaning R) (design : Design) (limits : Limits) (s : State R) → s.ended ≡ None → s.ready ≡ [] → s.live ≢ [] → s.cycle ≢ limits.cycles → move meaning design limits s ≡ limited limits (next_cycle design (drives_applied s))
unfolding tested
move-next meaning design limits s still none alive more =
    move-edge meaning design limits s still none
    ∙ (ap (λ b. tested design limits (drives_applied s) b (s.cycle == limits.cycles)) (is_empty-not s.live alive)
    ∙ ap (tested design limits (drives_applied s) false) (eqb-other s.cycle limits.cycles more))
