use Rattle.std.proofs.Common.{◌≡◌, drop}
use Rattle.vera_ast.specs.Signals.{program_in}
use Rattle.testbench_run.proofs.linked.program_among.Given as goal

abbrev pub invariant-loop-item : goal.invariant-loop-item
invariant-loop-item l = program_in (drop l.item-index l.items) ≡ program_in l.items
