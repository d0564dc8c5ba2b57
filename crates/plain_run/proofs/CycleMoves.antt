-- The moves of a cycle of a run of one thread: its turn, and its edge.
use Rattle.std.proofs.Common.{◌≡◌, ◌≢◌, ℕ, zero, suc, ◌==◌, ◌<◌, ◌≤◌, nat_le, Bool, true, false, not, ◌&&◌, List, [], ◌∷◌, ◌++◌, Option, Some, None, is_some, if◌then◌else◌, refl, sym, ap, ◌∙◌, subst, arith}
use Rattle.std.proofs.lemmas.Bool.Decides.{nat_tests}
use Rattle.slice_core.specs.Tree.{Outcome, Ended, Spent, Cycle}
use Rattle.slice_core.specs.Walks.{End as SliceWalk}
use Rattle.vera_meaning.specs.Rests.{Rest}
use Rattle.run_rules.specs.declared.drive.Drive.{Drive}
use Rattle.run_rules.specs.declared.end.End.{End}
use Rattle.run_rules.specs.declared.end.End.TheVariants.{Finished, Limit, Fault, SpentSlice, SpentTurns}
use Rattle.run_rules.specs.declared.limits.Limits.{Limits}
use Rattle.run_rules.specs.Designs.{Design}
use Rattle.run_rules.specs.Drives.{due_in, due_later, driven_by}
use Rattle.run_rules.specs.Moves.{move, drives_applied, next_cycle, limited, turns_limited, is_empty, most_text}
use Rattle.run_rules.specs.Sources.{source_meaning}
use Rattle.run_rules.specs.States.{State}
use Rattle.run_rules.proofs.TextLimit.{text-same, text-fault}
use Rattle.plain_run.specs.Cycles.{moved_on, GoesOnTo, EndsFrom, next_kept, told_size}
use Rattle.plain_run.specs.Logs.{Told, tells_all}
use Rattle.plain_run.specs.Standing.{AllIn}
use Rattle.plain_run.specs.ReadyStates.{Kept, ready_state, turned_state}
use Rattle.plain_run.proofs.Turned.{turn_taken, walk}

eqb-is : (a b : ℕ) → a ≡ b → (a == b) ≡ true
eqb-is a b e = grind (arith, nat_tests)

eqb-isnt : (a b : ℕ) → a ≢ b → (a == b) ≡ false
eqb-isnt a b e = grind (arith, nat_tests)

all_due : (cycle : ℕ) (ds : List Drive) → AllIn cycle ds → due_in cycle ds ≡ ds
all_due cycle [] all = refl
all_due cycle (d ∷ ds) all = ap (λ b. if b then d ∷ due_in cycle ds else due_in cycle ds) (eqb-is d.cycle cycle all.0) ∙ ap (λ xs. d ∷ xs) (all_due cycle ds all.1)

none_later : (cycle : ℕ) (ds : List Drive) → AllIn cycle ds → due_later cycle ds ≡ []
none_later cycle [] all = refl
none_later cycle (d ∷ ds) all = ap (λ b. if not b then d ∷ due_later cycle ds else due_later cycle ds) (eqb-is d.cycle cycle all.0) ∙ none_later cycle ds all.1

-- the limit of turns, where it ends nothing
not-spent : (limits : Limits) (s : State Rest) → (nat_le limits.turns s.turns && not (is_empty s.ready)) ≡ false → turns_limited limits s ≡ s
not-spent limits s few = ap (given s.ended) few ∙ by s.ended
  where
    given : Option End → Bool → State Rest
    given o b = if is_some o then s else (if b then record s { ended = Some SpentTurns } else s)

    by : (o : Option End) → given o false ≡ s
    by (Some e) = refl
    by None = refl

-- it ends nothing where no thread is ready, nor before a cycle's first slice
none_ready : (b : Bool) → (b && false) ≡ false
none_ready true = refl
none_ready false = refl

first_slice : (turns : ℕ) → 0 < turns → (nat_le turns 0 && true) ≡ false
first_slice turns some = ap (λ b. b && true) is
  where
    is : nat_le turns 0 ≡ false
    is = grind (arith, nat_tests)

module _ (design : Design) (limits : Limits) (rest : Rest) (k : Kept) where
  abbrev w : SliceWalk Rest
  w = walk rest k.cycle limits.budget k.contents

  abbrev told : Told
  told = tells_all (record { printed = k.printed; due = [] }) w.effects

  -- the state behind the turn, by its outcome
  abbrev turned : Outcome Rest → State Rest
  turned o = turned_state k w.contents told o w.rest

  start : State Rest
  start = ready_state rest k

  first : (o : Outcome Rest) → w.outcome ≡ o → moved_on design limits (ready_state rest k) 1 ≡ limited limits (turned o)
  unfolding moved_on
  first o e = turn_taken rest k design limits ∙ ap (λ x. limited limits (turned x)) e

  first_ended : (n : ℕ) → n < 1 → (moved_on design limits (ready_state rest k) n).ended ≡ None
  unfolding moved_on
  first_ended zero h = refl
  first_ended (suc n) h = absurd (omega arith)

  second_ended : (moved_on design limits (ready_state rest k) 1).ended ≡ None → (n : ℕ) → n < 2 → (moved_on design limits (ready_state rest k) n).ended ≡ None
  unfolding moved_on
  second_ended one zero h = refl
  second_ended one (suc zero) h = one
  second_ended one (suc (suc n)) h = absurd (omega arith)

  pub spent : w.outcome ≡ Spent → EndsFrom design limits (ready_state rest k) SpentSlice (turned Spent)
  spent e = record { moves = 1; is = first Spent e; over = refl; before = first_ended }

  -- too much was printed
  pub printed_too_much : (o : Outcome Rest) → w.outcome ≡ o → (turned o).ended ≡ None → (turned o).printed ≡ told.printed → (turned o).applied ≡ k.applied → most_text < told_size told.printed k.applied → EndsFrom design limits (ready_state rest k) (Fault 9 0) (record (turned o) { ended = Some (Fault 9 0) })
  printed_too_much o e still p a much = record {
    moves = 1;
    is = first o e ∙ ap (turns_limited limits) (text-fault (turned o) still (subst (λ n. most_text < n) (ap (λ b. told_size b k.applied) (sym p) ∙ ap (told_size (turned o).printed) (sym a)) much));
    over = refl;
    before = first_ended;
  }

  -- no limit was passed
  pub ended_within : w.outcome ≡ Ended → told_size told.printed k.applied ≤ most_text → moved_on design limits (ready_state rest k) 1 ≡ turned Ended
  ended_within e few = first Ended e ∙ ap (turns_limited limits) (text-same (turned Ended) few) ∙ not-spent limits (turned Ended) (none_ready (nat_le limits.turns 1))

  pub waiting_within : w.outcome ≡ Cycle 1 → told_size told.printed k.applied ≤ most_text → moved_on design limits (ready_state rest k) 1 ≡ turned (Cycle 1)
  waiting_within e few = first (Cycle 1) e ∙ ap (turns_limited limits) (text-same (turned (Cycle 1)) few) ∙ not-spent limits (turned (Cycle 1)) (none_ready (nat_le limits.turns 1))

  -- the state with its drives applied
  abbrev applied_state : Outcome Rest → State Rest
  applied_state o = record (turned o) { due = []; driven = driven_by told.due k.driven; applied = k.applied ++ told.due }

  drives_ended : AllIn k.cycle told.due → drives_applied (turned Ended) ≡ applied_state Ended
  drives_ended all =
      ap (λ ds. record (turned Ended) { due = due_later k.cycle told.due; driven = driven_by ds k.driven; applied = k.applied ++ ds }) (all_due k.cycle told.due all)
      ∙ ap (λ ds. record (turned Ended) { due = ds; driven = driven_by told.due k.driven; applied = k.applied ++ told.due }) (none_later k.cycle told.due all)

  drives_waiting : AllIn k.cycle told.due → drives_applied (turned (Cycle 1)) ≡ applied_state (Cycle 1)
  drives_waiting all =
      ap (λ ds. record (turned (Cycle 1)) { due = due_later k.cycle told.due; driven = driven_by ds k.driven; applied = k.applied ++ ds }) (all_due k.cycle told.due all)
      ∙ ap (λ ds. record (turned (Cycle 1)) { due = ds; driven = driven_by told.due k.driven; applied = k.applied ++ told.due }) (none_later k.cycle told.due all)

  pub finished : w.outcome ≡ Ended → told_size told.printed k.applied ≤ most_text → AllIn k.cycle told.due → EndsFrom design limits (ready_state rest k) Finished (record (applied_state Ended) { ended = Some Finished })
  unfolding moved_on
  finished e few all = record {
    moves = 2;
    is =
        ap (move source_meaning design limits) (ended_within e few)
        ∙ ap (λ (t : State Rest). record t { ended = Some Finished }) (drives_ended all);
    over = refl;
    before = second_ended (ap (λ (t : State Rest). t.ended) (ended_within e few));
  }

  -- the edge, by its test
  abbrev edged : Bool → State Rest → State Rest
  edged last t = if last then record t { ended = Some Limit } else limited limits (next_cycle design t)

  second : w.outcome ≡ Cycle 1 → told_size told.printed k.applied ≤ most_text → AllIn k.cycle told.due → (last : Bool) → (k.cycle == limits.cycles) ≡ last → moved_on design limits (ready_state rest k) 2 ≡ edged last (applied_state (Cycle 1))
  unfolding moved_on
  second e few all last is =
      ap (move source_meaning design limits) (waiting_within e few)
      ∙ (ap (λ (t : State Rest). edged (k.cycle == limits.cycles) t) (drives_waiting all)
      ∙ ap (λ b. edged b (applied_state (Cycle 1))) is)

  second_open : w.outcome ≡ Cycle 1 → told_size told.printed k.applied ≤ most_text → (n : ℕ) → n < 2 → (moved_on design limits (ready_state rest k) n).ended ≡ None
  second_open e few = second_ended (ap (λ (t : State Rest). t.ended) (waiting_within e few))

  pub at_limit : w.outcome ≡ Cycle 1 → told_size told.printed k.applied ≤ most_text → AllIn k.cycle told.due → k.cycle ≡ limits.cycles → EndsFrom design limits (ready_state rest k) Limit (record (applied_state (Cycle 1)) { ended = Some Limit })
  at_limit e few all last = record {
    moves = 2;
    is = second e few all true (eqb-is k.cycle limits.cycles last);
    over = refl;
    before = second_open e few;
  }

  -- the state in the next cycle
  abbrev pub next : State Rest
  next = ready_state w.rest (next_kept design k w.contents told)

  next_is : w.outcome ≡ Cycle 1 → told_size told.printed k.applied ≤ most_text → AllIn k.cycle told.due → k.cycle ≢ limits.cycles → moved_on design limits (ready_state rest k) 2 ≡ limited limits next
  next_is e few all more = second e few all false (eqb-isnt k.cycle limits.cycles more)

  pub goes_on : 0 < limits.turns → w.outcome ≡ Cycle 1 → told_size told.printed k.applied ≤ most_text → AllIn k.cycle told.due → k.cycle ≢ limits.cycles → told_size told.printed (k.applied ++ told.due) ≤ most_text → GoesOnTo design limits (ready_state rest k) next
  goes_on some e few all more still_few = record {
    moves = 2;
    is = next_is e few all more ∙ ap (turns_limited limits) (text-same next still_few) ∙ not-spent limits next (first_slice limits.turns some);
    before = second_open e few;
  }

  pub driven_too_much : w.outcome ≡ Cycle 1 → told_size told.printed k.applied ≤ most_text → AllIn k.cycle told.due → k.cycle ≢ limits.cycles → most_text < told_size told.printed (k.applied ++ told.due) → EndsFrom design limits (ready_state rest k) (Fault 9 0) (record next { ended = Some (Fault 9 0) })
  driven_too_much e few all more much = record {
    moves = 2;
    is = next_is e few all more ∙ ap (turns_limited limits) (text-fault next refl much);
    over = refl;
    before = second_open e few;
  }
