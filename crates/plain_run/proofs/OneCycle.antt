-- One cycle of a run, by how its slice ended.
use Rattle.std.proofs.Common.{◌≡◌, ◌≢◌, ℕ, ◌+◌, ◌<◌, ◌≤◌, nat_lt, Bool, true, false, List, [], ◌++◌, refl, sym, ap, ◌∙◌, subst, arith}
use Rattle.std.proofs.lemmas.Bool.Decides.{nat_tests}
use Rattle.four_state.specs.declared.bit.Bit3.{Bit3}
use Rattle.store_api.specs.Places.{Contents}
use Rattle.slice_core.specs.Tree.{Ended, Cycle}
use Rattle.slice_core.specs.Walks.{End as SliceWalk}
use Rattle.vera_meaning.specs.Rests.{Item, Rest}
use Rattle.vera_meaning.specs.Driving.{ItemsDrive}
use Rattle.vera_meaning.proofs.Driving.{walked-fits}
use Rattle.blif_device.specs.Edges.{held_after}
use Rattle.run_rules.specs.declared.drive.Drive.{Drive}
use Rattle.run_rules.specs.declared.end.End as run_end
use Rattle.run_rules.specs.declared.end.End.TheVariants.{Finished, Limit, Fault, SpentSlice}
use Rattle.run_rules.specs.declared.limits.Limits.{Limits}
use Rattle.run_rules.specs.Designs.{Design, settled_nets}
use Rattle.run_rules.specs.Drives.{Driven, driven_by}
use Rattle.run_rules.specs.Moves.{most_text}
use Rattle.run_rules.specs.Nets.{driven_nets, sampled}
use Rattle.run_rules.specs.Fits.{FitsDriven}
use Rattle.run_rules.specs.States.{State}
use Rattle.plain_run.specs.declared.cycles.Run.{Run}
use Rattle.plain_run.specs.declared.outside.Outside.{Outside}
use Rattle.plain_run.specs.declared.evaluate.slice.SliceEnd.{SliceEnd}
use Rattle.plain_run.specs.declared.evaluate.slice.SliceEnd.TheVariants as ends
use Rattle.plain_run.specs.Applying.{CanApply}
use Rattle.plain_run.specs.Cycles.{GoesOnTo, next_kept, told_size}
use Rattle.plain_run.specs.Logs.{Told, told, tells_all}
use Rattle.plain_run.specs.Outsides.{NextCycle, BeginsCycle}
use Rattle.plain_run.specs.ReadyStates.{Kept, ready_state}
use Rattle.plain_run.specs.SliceEnds.{EndsSo, outcome_of}
use Rattle.plain_run.specs.Standing.{AllIn, StandsAt, HasEnded, WentOn, kept_of, rest_left, state_of}
use Rattle.plain_run.specs.Values.{contents_of}
use Rattle.plain_run.specs.Work.{agenda_of}
use Rattle.plain_run.proofs.CycleMoves as moves
use Rattle.plain_run.proofs.DueFits.{DueFit, due_fits, nothing_fits}
use Rattle.plain_run.proofs.Turned.{walk}

much : (a b : ℕ) → nat_lt a b ≡ true → a < b
much a b h = grind (arith, nat_tests)

few : (a b : ℕ) → nat_lt a b ≡ false → b ≤ a
few a b h = grind (arith, nat_tests)

-- the slice of a run
abbrev pub slice : Limits → Run → SliceWalk Rest
slice limits run = walk (rest_left run) run.cycle limits.budget (contents_of run.values)

module _ (design : Design) (limits : Limits) (serial : ℕ) (driven : Driven) (held : List Bit3) (run : Run) (end : SliceEnd) (new : Told) (contents : Contents) (items : List Item) (stands : StandsAt run design driven held) (so : EndsSo end (told run.log) new contents items (slice limits run)) where
  abbrev k : Kept
  k = kept_of run serial driven held

  start_told : told run.log ≡ record { printed = run.log.printed.items; due = [] }
  start_told = ap (λ ds. record { printed = run.log.printed.items; due = ds }) stands.nothing_due

  log_is : new ≡ tells_all (record { printed = run.log.printed.items; due = [] }) (slice limits run).effects
  log_is = so.log ∙ ap (λ t. tells_all t (slice limits run).effects) start_told

  due_is : DueFit design.signals run.cycle new.due
  due_is =
      subst (λ (t : Told). DueFit design.signals run.cycle t.due) (sym log_is)
      (due_fits design.signals run.cycle (record { printed = run.log.printed.items; due = [] }) (slice limits run).effects
      (walked-fits design.signals (record { thread = 1; cycle = run.cycle }) (agenda_of run.agenda.items) limits.budget (contents_of run.values) stands.drives).0
      (nothing_fits design.signals run.cycle))

  pub can_apply : CanApply run.outside design driven held run.cycle new.due
  can_apply = record { stands = stands.outside; fits = stands.fits; begins = stands.begins; due_fit = due_is.fit; due_in = due_is.due_in }

  -- what the log says, as the moves name it
  printed_is : (tells_all (record { printed = run.log.printed.items; due = [] }) (slice limits run).effects).printed ≡ new.printed
  printed_is = sym (ap (λ (t : Told). t.printed) log_is)

  due_same : (tells_all (record { printed = run.log.printed.items; due = [] }) (slice limits run).effects).due ≡ new.due
  due_same = sym (ap (λ (t : Told). t.due) log_is)

  size_is : (applied : List Drive) → told_size (tells_all (record { printed = run.log.printed.items; due = [] }) (slice limits run).effects).printed applied ≡ told_size new.printed applied
  size_is applied = ap (λ p. told_size p applied) printed_is

  all_in : AllIn run.cycle (tells_all (record { printed = run.log.printed.items; due = [] }) (slice limits run).effects).due
  all_in = subst (AllIn run.cycle) (sym due_same) due_is.due_in

  pub spent : end ≡ ends.Spent → HasEnded design limits (state_of run serial driven held) SpentSlice run.cycle new.printed run.applied.items
  spent is = record {
    state = _;
    moves = moves.spent design limits (rest_left run) k (so.outcome ∙ ap outcome_of is);
    cycle_is = refl;
    printed_is = printed_is;
    applied_is = refl;
  }

  pub printed_too_much : end ≢ ends.Spent → nat_lt most_text (told_size new.printed run.applied.items) ≡ true → HasEnded design limits (state_of run serial driven held) (Fault 9 0) run.cycle new.printed run.applied.items
  printed_too_much other test = by end refl
    where
      more : most_text < told_size (tells_all (record { printed = run.log.printed.items; due = [] }) (slice limits run).effects).printed run.applied.items
      more = subst (λ n. most_text < n) (sym (size_is run.applied.items)) (much most_text (told_size new.printed run.applied.items) test)

      by : (e : SliceEnd) → end ≡ e → HasEnded design limits (state_of run serial driven held) (Fault 9 0) run.cycle new.printed run.applied.items
      by ends.Spent is = absurd (other is)
      by ends.Ended is = record {
        state = _;
        moves = moves.printed_too_much design limits (rest_left run) k Ended (so.outcome ∙ ap outcome_of is) refl refl refl more;
        cycle_is = refl;
        printed_is = printed_is;
        applied_is = refl;
      }
      by ends.Waits is = record {
        state = _;
        moves = moves.printed_too_much design limits (rest_left run) k (Cycle 1) (so.outcome ∙ ap outcome_of is) refl refl refl more;
        cycle_is = refl;
        printed_is = printed_is;
        applied_is = refl;
      }

  few_told : nat_lt most_text (told_size new.printed run.applied.items) ≡ false → told_size (tells_all (record { printed = run.log.printed.items; due = [] }) (slice limits run).effects).printed run.applied.items ≤ most_text
  few_told test = subst (λ n. n ≤ most_text) (sym (size_is run.applied.items)) (few most_text (told_size new.printed run.applied.items) test)

  applied_same : run.applied.items ++ (tells_all (record { printed = run.log.printed.items; due = [] }) (slice limits run).effects).due ≡ run.applied.items ++ new.due
  applied_same = ap (λ ds. run.applied.items ++ ds) due_same

  pub finished : end ≡ ends.Ended → nat_lt most_text (told_size new.printed run.applied.items) ≡ false → HasEnded design limits (state_of run serial driven held) Finished run.cycle new.printed (run.applied.items ++ new.due)
  finished is test = record {
    state = _;
    moves = moves.finished design limits (rest_left run) k (so.outcome ∙ ap outcome_of is) (few_told test) all_in;
    cycle_is = refl;
    printed_is = printed_is;
    applied_is = applied_same;
  }

  pub at_limit : end ≡ ends.Waits → nat_lt most_text (told_size new.printed run.applied.items) ≡ false → run.cycle ≡ limits.cycles → HasEnded design limits (state_of run serial driven held) Limit run.cycle new.printed (run.applied.items ++ new.due)
  at_limit is test last = record {
    state = _;
    moves = moves.at_limit design limits (rest_left run) k (so.outcome ∙ ap outcome_of is) (few_told test) all_in last;
    cycle_is = refl;
    printed_is = printed_is;
    applied_is = applied_same;
  }

  pub driven_too_much : end ≡ ends.Waits → nat_lt most_text (told_size new.printed run.applied.items) ≡ false → run.cycle ≢ limits.cycles → nat_lt most_text (told_size new.printed (run.applied.items ++ new.due)) ≡ true → HasEnded design limits (state_of run serial driven held) (Fault 9 0) (run.cycle + 1) new.printed (run.applied.items ++ new.due)
  driven_too_much is test more test' = record {
    state = _;
    moves =
        moves.driven_too_much design limits (rest_left run) k (so.outcome ∙ ap outcome_of is) (few_told test) all_in more
        (subst (λ n. most_text < n) (sym (size_is _ ∙ ap (told_size new.printed) applied_same)) (much most_text (told_size new.printed (run.applied.items ++ new.due)) test'));
    cycle_is = refl;
    printed_is = printed_is;
    applied_is = applied_same;
  }

  -- the values of the nets in the next cycle
  abbrev nets : ℕ → Bit3
  nets = settled_nets design (driven_nets design.netlist.nets design.signals (driven_by new.due driven)) held

  -- what is kept in the next cycle
  abbrev kept : ℕ → Contents → List ℕ → List Drive → Kept
  kept cycle c printed applied = record {
    serial = serial + 1;
    cycle = cycle;
    contents = c;
    driven = driven_by new.due driven;
    held = held_after design.netlist nets;
    printed = printed;
    applied = applied;
  }

  kept_same : next_kept design k (slice limits run).contents (tells_all (record { printed = run.log.printed.items; due = [] }) (slice limits run).effects) ≡ next_kept design k contents new
  kept_same = sym (ap (λ c. next_kept design k c new) so.contents_are ∙ ap (next_kept design k (slice limits run).contents) log_is)

  -- the run in the next cycle
  pub record IsLater (later : Run) : Type 0 where
    pub agenda : agenda_of later.agenda.items ≡ items
    pub cycle : later.cycle ≡ run.cycle + 1
    pub printed : later.log.printed.items ≡ new.printed
    pub due : later.log.due.items ≡ []
    pub applied : later.applied.items ≡ run.applied.items ++ new.due
    pub next : NextCycle later.outside design (driven_by new.due driven) held contents (contents_of later.values)
    pub fits : FitsDriven design.signals (driven_by new.due driven)
    pub begins : BeginsCycle later.outside (run.cycle + 1)

  state_later : (later : Run) → end ≡ ends.Waits → IsLater later → moves.next design limits (rest_left run) k ≡ state_of later (serial + 1) (driven_by new.due driven) (held_after design.netlist nets)
  state_later later is l =
      ap (λ r. ready_state r (next_kept design k (slice limits run).contents (tells_all (record { printed = run.log.printed.items; due = [] }) (slice limits run).effects))) (so.rest is ∙ ap (λ xs. record { agenda = xs }) (sym l.agenda))
      ∙ (ap (ready_state (rest_left later)) kept_same
      ∙ (ap (λ y. ready_state (rest_left later) (kept y (sampled design.netlist.nets design.signals nets contents) new.printed (run.applied.items ++ new.due))) (sym l.cycle)
      ∙ (ap (λ c. ready_state (rest_left later) (kept later.cycle c new.printed (run.applied.items ++ new.due))) (sym l.next.sampled)
      ∙ (ap (λ p. ready_state (rest_left later) (kept later.cycle (contents_of later.values) p (run.applied.items ++ new.due))) (sym l.printed)
      ∙ ap (λ a. ready_state (rest_left later) (kept later.cycle (contents_of later.values) later.log.printed.items a)) (sym l.applied)))))

  items_drive : end ≡ ends.Waits → ItemsDrive design.signals items
  items_drive is =
      subst (λ (r : Rest). ItemsDrive design.signals r.agenda) (so.rest is)
      (walked-fits design.signals (record { thread = 1; cycle = run.cycle }) (agenda_of run.agenda.items) limits.budget (contents_of run.values) stands.drives).1

  pub went_on : 0 < limits.turns → (later : Run) → end ≡ ends.Waits → nat_lt most_text (told_size new.printed run.applied.items) ≡ false → run.cycle ≢ limits.cycles → nat_lt most_text (told_size new.printed (run.applied.items ++ new.due)) ≡ false → IsLater later → WentOn design limits (state_of run serial driven held) later
  went_on some later is test more test' l = record {
    serial = serial + 1;
    driven = driven_by new.due driven;
    held = held_after design.netlist nets;
    stands = record {
      outside = l.next.stands;
      fits = l.fits;
      begins = subst (BeginsCycle later.outside) (sym l.cycle) l.begins;
      nothing_due = l.due;
      drives = subst (ItemsDrive design.signals) (sym l.agenda) (items_drive is);
    };
    moves = subst (GoesOnTo design limits (state_of run serial driven held)) (state_later later is l)
        (moves.goes_on design limits (rest_left run) k some (so.outcome ∙ ap outcome_of is) (few_told test) all_in more
        (subst (λ n. n ≤ most_text) (sym (size_is _ ∙ ap (told_size new.printed) applied_same)) (few most_text (told_size new.printed (run.applied.items ++ new.due)) test')));
  }

-- the same told in other words
pub told_as : (design : Design) (limits : Limits) (s : State Rest) (end : run_end.End) (y y' : ℕ) (p p' : List ℕ) (a a' : List Drive) → y' ≡ y → p' ≡ p → a' ≡ a → HasEnded design limits s end y p a → HasEnded design limits s end y' p' a'
told_as design limits s end y y' p p' a a' ey ep ea h = record {
  state = h.state;
  moves = h.moves;
  cycle_is = h.cycle_is ∙ sym ey;
  printed_is = h.printed_is ∙ sym ep;
  applied_is = h.applied_is ∙ sym ea;
}

-- a slice that neither was spent nor ended waits
pub waits : (e : SliceEnd) → e ≢ ends.Spent → e ≢ ends.Ended → e ≡ ends.Waits
waits ends.Spent spent ended = absurd (spent refl)
waits ends.Ended spent ended = absurd (ended refl)
waits ends.Waits spent ended = refl

-- the test of what was told
pub test_is : (test result : Bool) (p p' : List ℕ) (a a' : List Drive) → p' ≡ p → a' ≡ a → result ≡ nat_lt most_text (told_size p' a') → result ≡ test → nat_lt most_text (told_size p a) ≡ test
test_is test result p p' a a' ep ea is e =
    ap (λ x. nat_lt most_text (told_size x a)) (sym ep) ∙ (ap (λ x. nat_lt most_text (told_size p' x)) (sym ea) ∙ (sym is ∙ e))

-- the next cycle, from equal contents
pub next_of : (design : Design) (driven : Driven) (held : List Bit3) (o : Outside) (before before' after : Contents) → before' ≡ before → NextCycle o design driven held before' after → NextCycle o design driven held before after
next_of design driven held o before before' after e n = subst (λ b. NextCycle o design driven held b after) e n
