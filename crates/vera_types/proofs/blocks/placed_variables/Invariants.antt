use Rattle.std.proofs.Common.{◌≡◌, ◌+◌, ◌++◌, drop}
use Rattle.typing_rules.specs.Blocks.{placed}
use Rattle.vera_types.specs.StmtForms.{place_at}
use Rattle.vera_types.proofs.blocks.placed_variables.Given as goal

-- the variables so far, and those that are left behind them
abbrev pub invariant-loop-at : goal.invariant-loop-at
invariant-loop-at l = l.done ++ placed (place_at l.owner) (l.first + l.at) (drop l.at l.variables) (drop l.at l.types) ≡ placed (place_at l.owner) l.first l.variables l.types
