-- The run of a testbench's source against a netlist.
use Rattle.std.specs.Prelude.{◌≡◌, Some}
use Rattle.vera_ast.specs.declared.typed.file.TypedProgram.{TypedProgram}
use Rattle.vera_ast.specs.declared.typed.file.TypedTree.{TypedTree}
use Rattle.vera_ast.specs.Signals.{signals_in, program_in}
use Rattle.vera_meaning.specs.Rests.{Rest}
use Rattle.vera_meaning.specs.Slices.{slice_of, rest_of}
use Rattle.slice_core.specs.Starts.{Meaning}
use Rattle.blif_read.specs.Netlists.{Parts}
use Rattle.run_rules.specs.Designs.{Settle, Settles, Design}
use Rattle.run_rules.specs.States.{State, Limits, End}
use Rattle.run_rules.specs.Runs.{IsFinal}

-- the meaning of the source's slices
abbrev pub source_meaning : Meaning Rest
source_meaning start = slice_of (record { thread = start.thread; cycle = start.cycle }) start.rest start.budget

abbrev pub design_of : TypedTree → Parts → Settle → Design
design_of tree netlist settle = record { netlist = netlist; settle = settle; signals = signals_in tree.items }

-- the one-thread run of a testbench against a netlist ends so, in this state
pub record RunEnds (tree : TypedTree) (netlist : Parts) (limits : Limits) (end : End) (state : State Rest) : Type 0 where
  pub program : TypedProgram
  pub is_program : program_in tree.items ≡ Some program
  pub settle : Settle
  pub settles : Settles netlist settle
  pub final : IsFinal source_meaning (design_of tree netlist settle) limits (rest_of program.block) end state
