use Rattle.std.proofs.Common.{◌≡◌, ◌++◌, drop, map}
use Rattle.typing_rules.specs.Blocks.{name_of}
use Rattle.vera_types.proofs.blocks.with_variables.Given as goal

abbrev pub invariant-loop-placed : goal.invariant-loop-placed
invariant-loop-placed l = l.scope ++ map name_of (drop l.placed-index l.variables) ≡ l.initial.scope ++ map name_of l.variables
