-- How far a run has come, and what it is at its end.
use Rattle.std.proofs.Common.{◌≡◌, ℕ, ◌≤◌, List, [], ◌∷◌, ◌++◌, Option, Some, None, sym, ap, ◌∙◌, subst, arith}
use Rattle.vera_ast.specs.declared.typed.file.TypedProgram.{TypedProgram}
use Rattle.vera_meaning.specs.Rests.{Item}
use Rattle.vera_meaning.specs.Slices.{rest_of}
use Rattle.blif_device.specs.Devices.{State as DeviceState}
use Rattle.blif_device.specs.Edges.{first_held}
use Rattle.signal_link.specs.declared.linking.SignalNets.{SignalNets}
use Rattle.run_rules.specs.declared.end.End.{End}
use Rattle.run_rules.specs.declared.limits.Limits.{Limits}
use Rattle.run_rules.specs.Designs.{Design, Settles}
use Rattle.run_rules.specs.Drives.{Driven}
use Rattle.four_state.specs.declared.bit.Bit3.{Bit3}
use Rattle.plain_run.specs.declared.cycles.Run.{Run}
use Rattle.plain_run.specs.declared.evaluate.work.Work.{Work}
use Rattle.plain_run.specs.declared.running.Record.{Record}
use Rattle.plain_run.specs.Begun.{IsBegun}
use Rattle.plain_run.specs.Outsides.{undriven}
use Rattle.plain_run.specs.Records.{CanRun, RanTo}
use Rattle.plain_run.specs.Standing.{StandsAt, StandsSomewhere, WentOn, HasEnded, CycleDone, state_of}
use Rattle.plain_run.specs.Work.{agenda_of, item_of}
use Rattle.plain_run.proofs.Runs.{first_state, begins, went_further, has_ended, is_final}
use Rattle.plain_run.proofs.WorkLists.{agenda_of-push}

pub record RunsSoFar (program : TypedProgram) (all : List SignalNets) (nets : ℕ) (device : DeviceState) (limits : Limits) (run : Run) : Type 0 where
  pub within : run.cycle ≤ limits.cycles
  pub went : (design : Design) → CanRun design program all nets device → WentOn design limits (first_state design (rest_of program.block)) run

pub at_first : (program : TypedProgram) (all : List SignalNets) (nets : ℕ) (device : DeviceState) (limits : Limits) (run : Run) → IsBegun run program → ((design : Design) → CanRun design program all nets device → StandsAt run design undriven (first_held design.netlist)) → RunsSoFar program all nets device limits run
at_first program all nets device limits run begun stands = record {
  within = subst (λ y. y ≤ limits.cycles) (sym begun.cycle) (omega arith);
  went = λ design can. begins design limits program run begun (stands design can);
}

pub somewhere : (program : TypedProgram) (all : List SignalNets) (nets : ℕ) (device : DeviceState) (limits : Limits) (run : Run) (design : Design) → CanRun design program all nets device → RunsSoFar program all nets device limits run → StandsSomewhere run
somewhere program all nets device limits run design can so =
    let w = so.went design can in
    record { design = design; driven = w.driven; held = w.held; stands = w.stands }

-- what a cycle was found to do
abbrev Done : Option End → Limits → Run → Run → Type 0
Done end limits run later = (design : Design) (serial : ℕ) (driven : Driven) (held : List Bit3) → Settles design.netlist design.settle → StandsAt run design driven held → CycleDone end design limits (state_of run serial driven held) later

pub further : (program : TypedProgram) (all : List SignalNets) (nets : ℕ) (device : DeviceState) (limits : Limits) (run later : Run) (end : Option End) → end ≡ None → Done end limits run later → later.cycle ≤ limits.cycles → RunsSoFar program all nets device limits run → RunsSoFar program all nets device limits later
further program all nets device limits run later end is done within so = record {
  within = within;
  went = λ design can.
      let w = so.went design can in
      went_further design limits (first_state design (rest_of program.block)) run later w
      (subst (λ e. CycleDone e design limits (state_of run w.serial w.driven w.held) later) is (done design w.serial w.driven w.held can.settles w.stands));
}

pub ran : (program : TypedProgram) (all : List SignalNets) (nets : ℕ) (device : DeviceState) (limits : Limits) (run later : Run) (found : Option End) (end : End) (told : Record) → found ≡ Some end → Done found limits run later → told ≡ record { end = end; cycle = later.cycle; printed = later.log.printed; applied = later.applied } → RunsSoFar program all nets device limits run → (design : Design) → CanRun design program all nets device → RanTo design program limits told
ran program all nets device limits run later found end told is done told_is so design can =
    let w = so.went design can in
    let ended : HasEnded design limits (state_of run w.serial w.driven w.held) end later.cycle later.log.printed.items later.applied.items = subst (λ e. CycleDone e design limits (state_of run w.serial w.driven w.held) later) is (done design w.serial w.driven w.held can.settles w.stands) in
    let h = has_ended design limits (first_state design (rest_of program.block)) run end later.cycle later.log.printed.items later.applied.items w ended in
    subst (RanTo design program limits) (sym told_is)
    (record {
      state = h.state;
      final = is_final design limits (rest_of program.block) end h.state h.moves;
      cycle = h.cycle_is;
      printed = h.printed_is;
      applied = h.applied_is;
    })

-- the first thing to do
pub first_item : (items later : List Work) (w : Work) (i : Item) → later ≡ items ++ w ∷ [] → items ≡ [] → item_of w ≡ i → agenda_of later ≡ i ∷ []
first_item items later w i pushed none is = ap agenda_of pushed ∙ (agenda_of-push items w ∙ (ap (λ l. item_of w ∷ agenda_of l) none ∙ ap (λ x. x ∷ []) is))
