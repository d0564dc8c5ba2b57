-- Statements, one definition a production, in text order.
use Rattle.std.specs.Prelude.{ℕ, zero, suc, not, nat_lt, true, false, List, [], ◌∷◌, Option, Some, None, Ok}
use Rattle.vera_ast.specs.declared.tree.expressions.Expr.{Expr}
use Rattle.vera_ast.specs.declared.tree.expressions.Expr.TheVariants as x
use Rattle.vera_ast.specs.declared.tree.expressions.Postfix.{Postfix}
use Rattle.vera_ast.specs.declared.tree.statements.ArmLabel.{ArmLabel}
use Rattle.vera_ast.specs.declared.tree.statements.ArmLabel.TheVariants as label
use Rattle.vera_ast.specs.declared.tree.statements.Void.{Void}
use Rattle.vera_ast.specs.declared.tree.statements.Stmt.{Stmt, Row_of-Stmt, end_of-Stmt, more_of-Stmt}
use Rattle.vera_ast.specs.declared.tree.statements.Stmt.TheBlock.{Block', If', While', Repeat', For', Case', Fork', Row_of-Arm, end_of-Arm, more_of-Arm, Held-If-when_false, None', Some'}
use Rattle.vera_ast.specs.declared.tree.statements.Stmt.TheVariants as s
use Rattle.vera_ast.specs.declared.typed.expr.TypedExpr.{TypedExpr}
use Rattle.vera_ast.specs.declared.typed.stmt.TypedArm.{TypedArm}
use Rattle.vera_ast.specs.declared.typed.stmt.TypedArmLabel.{TypedArmLabel}
use Rattle.vera_ast.specs.declared.typed.stmt.TypedArmLabel.TheVariants as typed_label
use Rattle.vera_ast.specs.declared.typed.stmt.TypedStmt.{TypedStmt}
use Rattle.vera_ast.specs.declared.typed.stmt.TypedStmt.TheVariants as typed
use Rattle.typing_rules.specs.Assignments.{step}
use Rattle.typing_rules.specs.Blocks.{local_decls, inside, typed_decls}
use Rattle.typing_rules.specs.Calls.{is_function}
use Rattle.typing_rules.specs.Checked.{Checked, ◌>>=◌, ◌>>◌, keeps, each, wrong_type, not_here, past_limit}
use Rattle.typing_rules.specs.Expressions.{walk, expr}
use Rattle.typing_rules.specs.Heads.{value_of}
use Rattle.typing_rules.specs.Types.{is_vector}
use Rattle.typing_rules.specs.declared.context.Context.{Context}
use Rattle.typing_rules.specs.declared.head.Head.{Head}
use Rattle.typing_rules.specs.declared.head.Head.TheVariants as h
use Rattle.typing_rules.specs.declared.head.Stand.TheVariants as stand
use Rattle.typing_rules.specs.Drives.{drive_stmt}
use Rattle.typing_rules.specs.Waits.{edge_stmt, expect_stmt}

-- ---- values that are vectors

-- an expression that is a vector, for the part that begins on this line
unfoldable pub vector : Context → ℕ → Expr → Checked TypedExpr
vector c line e = do
  v ← expr c e
  keeps line ((wrong_type, not (is_vector v.of)) ∷ [])
  Ok v.expr

-- ---- "void" "=" post ";" and post ";"

-- what becomes of a `post` that is a statement; its value is dropped
abbrev pub alone : ℕ → ℕ → Head → Checked TypedStmt
alone line post_line (h.Task call) = Ok (typed.Call (record { line = line; call = call }))
alone line post_line (h.BuiltIn task operands targets) = Ok (typed.BuiltIn (record { line = line; task = task; operands = operands; targets = targets }))
alone line post_line (h.Waits call) = Ok (typed.Wait (record { line = line; call = call }))
alone line post_line (h.Prints format arguments) = Ok (typed.Printf (record { line = line; format = format; arguments = arguments }))
alone line post_line (h.PrintsInto target format arguments) = Ok (typed.Sprintf (record { line = line; target = target; format = format; arguments = arguments }))
alone line post_line head = value_of post_line head >>= (λ v. Ok (typed.Void (record { line = line; value = v.expr })))

unfoldable pub call_stmt : Context → Postfix → Checked TypedStmt
call_stmt c post = walk c stand.Statement (x.Postfix post) >>= alone post.line post.line

unfoldable pub void_stmt : Context → Void → Checked TypedStmt
void_stmt c v = walk c stand.Dropped (x.Postfix v.value) >>= alone v.line v.value.line

-- ---- arm = ( expr { "," expr } | "default" ) ":" stmt

abbrev pub arm_label : Context → ℕ → ArmLabel → Checked TypedArmLabel
arm_label c line (label.Values values) = do
  all ← each (expr c) values
  exprs ← each (λ v. keeps line ((wrong_type, not (is_vector v.of)) ∷ []) >> Ok v.expr) all
  Ok (typed_label.Values exprs)
arm_label c line label.Default = Ok typed_label.Default

-- ---- stmt

-- a loop's body, and a branch of a fork, whose own loops alone count
abbrev pub in_loop : Context → Context
in_loop c = record c { is_in_loop = true }

abbrev pub in_branch : Context → Context
in_branch c = record c { is_in_loop = false }

unfoldable pub branch_count : {m : _} → Row_of-Stmt m → ℕ
branch_count end_of-Stmt = zero
branch_count (more_of-Stmt first rest) = suc (branch_count rest)

unfoldable mutual
  pub walk_stmt : Context → Stmt → Checked TypedStmt
  walk_stmt c (Block' line decls p stmts) = do
    variables ← local_decls c decls
    typed_variables ← typed_decls (inside c variables) variables
    all ← walk_stmts (inside c variables) stmts
    Ok (typed.Block (record { line = line; decls = typed_variables; stmts = all }))
  walk_stmt c (s.Empty line) = Ok (typed.Empty line)
  walk_stmt c (s.Step a) = step c a
  walk_stmt c (s.Void v) = void_stmt c v
  walk_stmt c (s.Call post) = call_stmt c post
  walk_stmt c (s.Edge e) = edge_stmt c e
  walk_stmt c (If' line condition p (more_of-Stmt body end_of-Stmt) otherwise) = do
    test ← vector c line condition
    when_true ← walk_stmt c body
    when_false ← walk_otherwise c otherwise
    Ok (typed.If (record { line = line; condition = test; when_true = when_true; when_false = when_false }))
  walk_stmt c (While' line condition p (more_of-Stmt body end_of-Stmt)) = do
    test ← vector c line condition
    inner ← walk_stmt (in_loop c) body
    Ok (typed.While (record { line = line; condition = test; body = inner }))
  walk_stmt c (Repeat' line count p (more_of-Stmt body end_of-Stmt)) = do
    times ← vector c line count
    inner ← walk_stmt (in_loop c) body
    Ok (typed.Repeat (record { line = line; count = times; body = inner }))
  walk_stmt c (For' line start condition next p (more_of-Stmt body end_of-Stmt)) = do
    first ← step c start
    test ← vector c line condition
    after ← step c next
    inner ← walk_stmt (in_loop c) body
    Ok (typed.For (record { line = line; start = first; condition = test; step = after; body = inner }))
  walk_stmt c (Case' line value p arms) = do
    v ← vector c line value
    all ← walk_arms c arms
    Ok (typed.Case line v all)
  walk_stmt c (s.Break line) = keeps line ((wrong_type, not c.is_in_loop) ∷ []) >> Ok (typed.Break line)
  walk_stmt c (s.Continue line) = keeps line ((wrong_type, not c.is_in_loop) ∷ []) >> Ok (typed.Continue line)
  walk_stmt c (s.Return line) = Ok (typed.Return line)
  walk_stmt c (s.Terminate line) = keeps line ((not_here, is_function c.body) ∷ []) >> Ok (typed.Terminate line)
  walk_stmt c (Fork' line p branches join) = do
    keeps line ((not_here, is_function c.body) ∷ (past_limit, nat_lt 4096 (branch_count branches)) ∷ [])
    all ← walk_stmts (in_branch c) branches
    Ok (typed.Fork (record { line = line; branches = all; join = join }))
  walk_stmt c (s.Drive d) = drive_stmt c d
  walk_stmt c (s.Expect e) = expect_stmt c e

  pub walk_stmts : {m : _} → Context → Row_of-Stmt m → Checked (List TypedStmt)
  walk_stmts c end_of-Stmt = Ok []
  walk_stmts c (more_of-Stmt first rest) = do
    a ← walk_stmt c first
    more ← walk_stmts c rest
    Ok (a ∷ more)

  pub walk_otherwise : Context → Held-If-when_false → Checked (Option TypedStmt)
  walk_otherwise c None' = Ok None
  walk_otherwise c (Some' p (more_of-Stmt body end_of-Stmt)) = do
    inner ← walk_stmt c body
    Ok (Some inner)

  pub walk_arms : {m : _} → Context → Row_of-Arm m → Checked (List TypedArm)
  walk_arms c end_of-Arm = Ok []
  walk_arms c (more_of-Arm line values body rest) = do
    found ← arm_label c line values
    inner ← walk_stmt c body
    more ← walk_arms c rest
    Ok (record { line = line; label = found; body = inner } ∷ more)
