-- A run, cycle after cycle.
use Rattle.std.proofs.Common.{◌≡◌, ℕ, zero, suc, ◌+◌, ◌-◌, ◌<◌, ◌≤◌, List, [], None, refl, sym, ap, ◌∙◌, ◌⊎◌, inl, inr, arith}
use Rattle.store_api.specs.Places.{Contents, nothing_written}
use Rattle.vera_ast.specs.declared.typed.file.TypedProgram.{TypedProgram}
use Rattle.vera_meaning.specs.Rests.{Rest}
use Rattle.vera_meaning.specs.Slices.{rest_of}
use Rattle.blif_device.specs.Edges.{first_held}
use Rattle.run_rules.specs.declared.drive.Drive.{Drive}
use Rattle.run_rules.specs.declared.end.End.{End}
use Rattle.run_rules.specs.declared.limits.Limits.{Limits}
use Rattle.run_rules.specs.Designs.{Design}
use Rattle.run_rules.specs.Moves.{move}
use Rattle.run_rules.specs.Runs.{run, IsFinal}
use Rattle.run_rules.specs.Sources.{source_meaning}
use Rattle.run_rules.specs.States.{State, begun}
use Rattle.plain_run.specs.declared.cycles.Run.{Run}
use Rattle.plain_run.specs.Begun.{IsBegun}
use Rattle.plain_run.specs.Cycles.{moved_on, GoesOnTo, EndsFrom}
use Rattle.plain_run.specs.Outsides.{undriven}
use Rattle.plain_run.specs.ReadyStates.{Kept, ready_state}
use Rattle.plain_run.specs.Standing.{StandsAt, WentOn, HasEnded, state_of, kept_of}

-- moves one after another
more_moves : (design : Design) (limits : Limits) (s : State Rest) (a b : ℕ) → moved_on design limits s (a + b) ≡ moved_on design limits (moved_on design limits s a) b
unfolding moved_on
more_moves design limits s a zero = let e : a + zero ≡ a = omega arith in ap (moved_on design limits s) e
more_moves design limits s a (suc b) =
    let e : a + suc b ≡ suc (a + b) = omega arith in
    ap (moved_on design limits s) e ∙ ap (move source_meaning design limits) (more_moves design limits s a b)

split : (n a : ℕ) → (n < a) ⊎ (a ≤ n)
split n a = grind arith

-- no end came before, where none came up to a state, and none behind it
none_before : (design : Design) (limits : Limits) (s t : State Rest) (a b : ℕ) → moved_on design limits s a ≡ t → ((n : ℕ) → n < a → (moved_on design limits s n).ended ≡ None) → ((n : ℕ) → n < b → (moved_on design limits t n).ended ≡ None) → (n : ℕ) → n < a + b → (moved_on design limits s n).ended ≡ None
none_before design limits s t a b is first then_ n h = by (split n a)
  where
    by : (n < a) ⊎ (a ≤ n) → (moved_on design limits s n).ended ≡ None
    by (inl k) = first n k
    by (inr k) =
        let e : n ≡ a + (n - a) = omega arith in
        ap (λ m. (moved_on design limits s m).ended) e
        ∙ (ap (λ (x : State Rest). x.ended) (more_moves design limits s a (n - a) ∙ ap (λ x. moved_on design limits x (n - a)) is)
        ∙ then_ (n - a) (omega arith))

joined : (design : Design) (limits : Limits) (s t u : State Rest) (a b : ℕ) → moved_on design limits s a ≡ t → moved_on design limits t b ≡ u → moved_on design limits s (a + b) ≡ u
joined design limits s t u a b is then_ = more_moves design limits s a b ∙ (ap (λ x. moved_on design limits x b) is ∙ then_)

pub goes_on : (design : Design) (limits : Limits) (s t u : State Rest) → GoesOnTo design limits s t → GoesOnTo design limits t u → GoesOnTo design limits s u
goes_on design limits s t u g h = record {
  moves = g.moves + h.moves;
  is = joined design limits s t u g.moves h.moves g.is h.is;
  before = none_before design limits s t g.moves h.moves g.is g.before h.before;
}

pub ends : (design : Design) (limits : Limits) (s t u : State Rest) (e : End) → GoesOnTo design limits s t → EndsFrom design limits t e u → EndsFrom design limits s e u
ends design limits s t u e g h = record {
  moves = g.moves + h.moves;
  is = joined design limits s t u g.moves h.moves g.is h.is;
  over = h.over;
  before = none_before design limits s t g.moves h.moves g.is g.before h.before;
}

-- one more cycle
pub went_further : (design : Design) (limits : Limits) (s : State Rest) (middle later : Run) (w : WentOn design limits s middle) → WentOn design limits (state_of middle w.serial w.driven w.held) later → WentOn design limits s later
went_further design limits s middle later w v = record {
  serial = v.serial;
  driven = v.driven;
  held = v.held;
  stands = v.stands;
  moves = goes_on design limits s (state_of middle w.serial w.driven w.held) (state_of later v.serial v.driven v.held) w.moves v.moves;
}

-- and the last one
pub has_ended : (design : Design) (limits : Limits) (s : State Rest) (middle : Run) (end : End) (cycle : ℕ) (printed : List ℕ) (applied : List Drive) (w : WentOn design limits s middle) → HasEnded design limits (state_of middle w.serial w.driven w.held) end cycle printed applied → HasEnded design limits s end cycle printed applied
has_ended design limits s middle end cycle printed applied w h = record {
  state = h.state;
  moves = ends design limits s (state_of middle w.serial w.driven w.held) h.state end w.moves h.moves;
  cycle_is = h.cycle_is;
  printed_is = h.printed_is;
  applied_is = h.applied_is;
}

-- the state at the beginning
pub first_state : Design → Rest → State Rest
first_state design rest = begun (first_held design.netlist) rest

pub begun_state : (design : Design) (program : TypedProgram) (r : Run) → IsBegun r program → state_of r 1 undriven (first_held design.netlist) ≡ first_state design (rest_of program.block)
unfolding first_state
begun_state design program r b =
    ap (λ items. ready_state (record { agenda = items }) (kept_of r 1 undriven (first_held design.netlist))) b.agenda
    ∙ (ap (λ c. ready_state (rest_of program.block) (kept c r.cycle r.log.printed.items r.applied.items)) b.contents
    ∙ (ap (λ y. ready_state (rest_of program.block) (kept nothing_written y r.log.printed.items r.applied.items)) b.cycle
    ∙ (ap (λ p. ready_state (rest_of program.block) (kept nothing_written 0 p r.applied.items)) b.printed
    ∙ ap (λ a. ready_state (rest_of program.block) (kept nothing_written 0 [] a)) b.applied)))
  where
    kept : Contents → ℕ → List ℕ → List Drive → Kept
    kept c y p a = record { serial = 1; cycle = y; contents = c; driven = undriven; held = first_held design.netlist; printed = p; applied = a }

pub begins : (design : Design) (limits : Limits) (program : TypedProgram) (r : Run) → IsBegun r program → StandsAt r design undriven (first_held design.netlist) → WentOn design limits (first_state design (rest_of program.block)) r
unfolding moved_on
begins design limits program r b stands = record {
  serial = 1;
  driven = undriven;
  held = first_held design.netlist;
  stands = stands;
  moves = record { moves = 0; is = sym (begun_state design program r b); before = λ n h. absurd (omega arith) };
}

-- the run's moves
run_is : (design : Design) (limits : Limits) (rest : Rest) (n : ℕ) → run source_meaning design limits rest n ≡ moved_on design limits (first_state design rest) n
unfolding run moved_on first_state
run_is design limits rest zero = refl
run_is design limits rest (suc n) = ap (move source_meaning design limits) (run_is design limits rest n)

pub is_final : (design : Design) (limits : Limits) (rest : Rest) (end : End) (t : State Rest) → EndsFrom design limits (first_state design rest) end t → IsFinal source_meaning design limits rest end t
is_final design limits rest end t h = record {
  moves = h.moves;
  is = run_is design limits rest h.moves ∙ h.is;
  over = h.over;
  first = λ n k. ap (λ (x : State Rest). x.ended) (run_is design limits rest n) ∙ h.before n k;
}
