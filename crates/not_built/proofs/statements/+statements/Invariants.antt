use Rattle.std.proofs.Common.{◌≡◌, drop}
use Rattle.not_built.specs.Passing.{first_in}
use Rattle.not_built.specs.Statements.{stmt_lines}
use Rattle.not_built.proofs.statements.+statements.Given as goal

abbrev pub invariant-in_stmts-loop-stmt : goal.invariant-in_stmts-loop-stmt
invariant-in_stmts-loop-stmt l = first_in stmt_lines (drop l.stmt-index l.stmts) ≡ first_in stmt_lines l.stmts
