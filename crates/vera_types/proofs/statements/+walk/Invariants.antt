use Rattle.std.proofs.Common.{◌≡◌, drop}
use Rattle.typing_rules.specs.Checked.{each}
use Rattle.typing_rules.specs.Statements.{walk_stmt}
use Rattle.vera_names.specs.Lists.{behind}
use Rattle.vera_types.specs.StmtForms.{arm}
use Rattle.vera_types.proofs.statements.+walk.Given as goal

abbrev pub invariant-walk_stmts-loop-stmt : goal.invariant-walk_stmts-loop-stmt
invariant-walk_stmts-loop-stmt l = behind l.typed (each (walk_stmt l.sight) (drop l.stmt-index l.stmts)) ≡ each (walk_stmt l.sight) l.stmts

abbrev pub invariant-walk_arms-loop-arm : goal.invariant-walk_arms-loop-arm
invariant-walk_arms-loop-arm l = behind l.typed (each (arm l.sight) (drop l.arm-index l.arms)) ≡ each (arm l.sight) l.arms
