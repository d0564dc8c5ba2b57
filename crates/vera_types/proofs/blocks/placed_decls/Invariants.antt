use Rattle.std.proofs.Common.{◌≡◌, ◌++◌, drop}
use Rattle.typing_rules.specs.Blocks.{placed_decls}
use Rattle.vera_types.specs.StmtForms.{place_at}
use Rattle.vera_types.proofs.blocks.placed_decls.Given as goal

-- the declarations so far, and those that are left behind them
abbrev pub invariant-loop-at : goal.invariant-loop-at
invariant-loop-at l = l.done ++ placed_decls (place_at l.owner) l.number (drop l.at l.decls) (drop l.at l.types) ≡ placed_decls (place_at l.owner) l.first l.decls l.types
