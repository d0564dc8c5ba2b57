-- Statements that hold statements: the parts of their definitions, as the code has them.
use Rattle.std.specs.Prelude.{ℕ, not, nat_lt, List, [], ◌∷◌, length, Ok}
use Rattle.vera_ast.specs.declared.tree.expressions.Expr.{Expr}
use Rattle.vera_ast.specs.declared.tree.statements.Arm.{Arm}
use Rattle.vera_ast.specs.declared.tree.statements.For.{For}
use Rattle.vera_ast.specs.declared.tree.statements.Fork.{Fork}
use Rattle.vera_ast.specs.declared.tree.statements.If.{If}
use Rattle.vera_ast.specs.declared.tree.statements.Repeat.{Repeat}
use Rattle.vera_ast.specs.declared.tree.statements.While.{While}
use Rattle.vera_ast.specs.declared.typed.stmt.TypedArm.{TypedArm}
use Rattle.vera_ast.specs.declared.typed.stmt.TypedStmt.{TypedStmt}
use Rattle.vera_ast.specs.declared.typed.stmt.TypedStmt.TheVariants as typed
use Rattle.typing_rules.specs.Assignments.{step}
use Rattle.typing_rules.specs.Calls.{is_function}
use Rattle.typing_rules.specs.Checked.{Checked, ◌>>◌, keeps, each, perhaps, wrong_type, not_here, past_limit, ◌>>=◌}
use Rattle.typing_rules.specs.Statements.{vector, arm_label, in_loop, in_branch, walk_stmt}
use Rattle.vera_types.specs.declared.blocks.Owner.{Owner}
use Rattle.vera_types.specs.declared.blocks.Owner.TheVariants as owner
use Rattle.vera_ast.specs.declared.typed.names.VariablePlace.{VariablePlace}
use Rattle.vera_ast.specs.declared.typed.names.VariablePlace.TheVariants as place
use Rattle.typing_rules.specs.declared.context.Context.{Context}

-- ---- variables

-- the place of a variable by its number
abbrev pub place_at : Owner → ℕ → VariablePlace
place_at owner.Program n = place.Program n
place_at owner.Body n = place.Local n

-- ---- statements

-- a statement that stands in a loop alone
abbrev pub in_loop_only : Context → ℕ → TypedStmt → Checked TypedStmt
in_loop_only c line s = keeps line ((wrong_type, not c.is_in_loop) ∷ []) >> Ok s

unfoldable pub if_stmt : Context → If → Checked TypedStmt
if_stmt c x = do
  test ← vector c x.line x.condition
  when_true ← walk_stmt c x.when_true
  when_false ← perhaps (walk_stmt c) x.when_false
  Ok (typed.If (record { line = x.line; condition = test; when_true = when_true; when_false = when_false }))

unfoldable pub while_stmt : Context → While → Checked TypedStmt
while_stmt c w = do
  test ← vector c w.line w.condition
  inner ← walk_stmt (in_loop c) w.body
  Ok (typed.While (record { line = w.line; condition = test; body = inner }))

unfoldable pub repeat_stmt : Context → Repeat → Checked TypedStmt
repeat_stmt c r = do
  times ← vector c r.line r.count
  inner ← walk_stmt (in_loop c) r.body
  Ok (typed.Repeat (record { line = r.line; count = times; body = inner }))

unfoldable pub for_stmt : Context → For → Checked TypedStmt
for_stmt c f = do
  first ← step c f.start
  test ← vector c f.line f.condition
  after ← step c f.step
  inner ← walk_stmt (in_loop c) f.body
  Ok (typed.For (record { line = f.line; start = first; condition = test; step = after; body = inner }))

unfoldable pub arm : Context → Arm → Checked TypedArm
arm c a = do
  found ← arm_label c a.line a.label
  inner ← walk_stmt c a.body
  Ok (record { line = a.line; label = found; body = inner })

unfoldable pub case_stmt : Context → ℕ → Expr → List Arm → Checked TypedStmt
case_stmt c line value arms = do
  v ← vector c line value
  all ← each (arm c) arms
  Ok (typed.Case line v all)

unfoldable pub fork_stmt : Context → Fork → Checked TypedStmt
fork_stmt c f = do
  keeps f.line ((not_here, is_function c.body) ∷ (past_limit, nat_lt 4096 (length f.branches)) ∷ [])
  all ← each (walk_stmt (in_branch c)) f.branches
  Ok (typed.Fork (record { line = f.line; branches = all; join = f.join }))
