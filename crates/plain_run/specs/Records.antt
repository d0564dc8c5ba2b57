-- What a run has told by its end.
use Rattle.std.specs.Prelude.{◌≡◌, ℕ, List, length}
use Rattle.vera_ast.specs.declared.typed.file.TypedProgram.{TypedProgram}
use Rattle.vera_ast.specs.declared.typed.stmt.TypedStmt.TheViews.{Block}
use Rattle.vera_ast.specs.Signals.{DrivesOutputs}
use Rattle.vera_meaning.specs.Rests.{Rest}
use Rattle.vera_meaning.specs.Slices.{rest_of}
use Rattle.blif_device.specs.Devices.{State as DeviceState, IsNew}
use Rattle.signal_link.specs.declared.linking.SignalNets.{SignalNets}
use Rattle.run_rules.specs.declared.limits.Limits.{Limits}
use Rattle.run_rules.specs.Designs.{Design, Settles}
use Rattle.run_rules.specs.Runs.{IsFinal}
use Rattle.run_rules.specs.Sources.{source_meaning}
use Rattle.run_rules.specs.States.{State}
use Rattle.plain_run.specs.declared.running.Record.{Record}
use Rattle.plain_run.specs.Outsides.{IsLinked}

-- a program may run: all signals of the design link to its netlist, which always settles, the device is new, and each
-- drive names an output
pub record CanRun (design : Design) (program : TypedProgram) (all : List SignalNets) (nets : ℕ) (device : DeviceState) : Type 0 where
  pub linked : IsLinked design all
  pub settles : Settles design.netlist design.settle
  pub count : nets ≡ length design.netlist.nets
  pub device_new : IsNew design.netlist device
  pub drives : DrivesOutputs design.signals (Block program.block)

-- the run's final state, within these limits, and what it told
pub record RanTo (design : Design) (program : TypedProgram) (limits : Limits) (told : Record) : Type 0 where
  pub state : State Rest
  pub final : IsFinal source_meaning design limits (rest_of program.block) told.end state
  pub cycle : state.cycle ≡ told.cycle
  pub printed : state.printed ≡ told.printed.items
  pub applied : state.applied ≡ told.applied.items
