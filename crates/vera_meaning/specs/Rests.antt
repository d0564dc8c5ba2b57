-- What is still to do of a thread.
use Rattle.std.specs.Prelude.{ℕ, List, []}
use Rattle.vera_ast.specs.declared.typed.expr.TypedExpr.{TypedExpr}
use Rattle.vera_ast.specs.declared.typed.stmt.TypedStmt.{TypedStmt}

-- where and when a slice runs: its thread's number, and the cycle
pub record Here : Type 0 where
  pub thread : ℕ
  pub cycle : ℕ

-- one thing that is still to do
pub data Item : Type 0 where
  -- a statement
  Do : TypedStmt → Item
  -- a loop at its next test: the loop's line, its condition and its body
  Again : (line : ℕ) → TypedExpr → TypedStmt → Item

-- the rest of a thread: what is still to do, in order
pub record Rest : Type 0 where
  pub agenda : List Item

-- nothing is left
abbrev pub nothing_left : Rest
nothing_left = record { agenda = [] }
