-- The statements that may begin with a postfix expression, with an `@`, or with `soft`, one definition for each production. They are open over the
-- languages of expressions, and of postfix expressions at the start of a statement (`post`) and elsewhere (`free`).
use Rattle.std.specs.Prelude.{ℕ, List, [], ◌∷◌, Option, Some, None, is_some}
use Rattle.grammar_laws.specs.Languages.{Lang, pure, ◌>>=◌, ◌>>◌, ◌<|>◌, many, maybe}
use Rattle.vera_ast.specs.declared.codes.TheConstants as code
use Rattle.vera_ast.specs.declared.token.Token.{Token}
use Rattle.vera_ast.specs.declared.tree.expressions.Expr.{Expr}
use Rattle.vera_ast.specs.declared.tree.expressions.Postfix.{Postfix}
use Rattle.vera_ast.specs.declared.tree.statements.Delay.{Delay}
use Rattle.vera_ast.specs.declared.tree.statements.DriveOperator.{DriveOperator}
use Rattle.vera_ast.specs.declared.tree.statements.DriveOperator.TheVariants.{Assign, Arrow}
use Rattle.vera_ast.specs.declared.tree.statements.Expect.{Expect}
use Rattle.vera_ast.specs.declared.tree.statements.Step.{Step}
use Rattle.vera_ast.specs.declared.tree.statements.Stmt.{Stmt}
use Rattle.vera_ast.specs.declared.tree.statements.Stmt.TheVariants as s
use Rattle.vera_ast.specs.declared.tree.statements.Term.{Term}
use Rattle.vera_ast.specs.declared.tree.statements.Window.{Window}
use Rattle.vera_ast.specs.declared.tree.statements.WindowKind.{WindowKind}
use Rattle.parse_cursor.specs.Tokens.{word, sign}
use Rattle.parse_stmts.specs.Parts.{at, edge, delay, window, step, term}

-- the line of the first token of an expect with this window, this `soft` before its terms, and a first term of this line
abbrev pub expect_line : Option Window → Option ℕ → ℕ → ℕ
expect_line (Some w) before line = w.line
expect_line None (Some soft_line) line = soft_line
expect_line None None line = line

abbrev pub expected : Option Window → Option ℕ → Term → List Term → Option ℕ → Expect
expected w before first more after = record {
  line = expect_line w before first.line;
  window = w;
  soft_before = is_some before;
  terms = first ∷ more;
  soft_after = is_some after;
}

module _ (expr : Lang Token Expr) (post free : Lang Token Postfix) where
  -- ";" after a step
  unfoldable pub stepped : Step → Lang Token Stmt
  stepped x = do
    word code.SEMICOLON
    pure (s.Step x)

  -- step ";"
  unfoldable pub step_stmt : Lang Token Stmt
  step_stmt = do
    x ← step expr post
    stepped x

  -- ";" after a postfix expression
  unfoldable pub called : Postfix → Lang Token Stmt
  called x = do
    word code.SEMICOLON
    pure (s.Call x)

  -- post ";"
  unfoldable pub call_stmt : Lang Token Stmt
  call_stmt = do
    x ← post
    called x

  -- edge ";"
  unfoldable pub edge_stmt : Lang Token Stmt
  edge_stmt = do
    e ← edge
    word code.SEMICOLON
    pure (s.Edge e)

  -- "=" | "<="
  unfoldable pub drive_sign : Lang Token (ℕ × DriveOperator)
  drive_sign = sign ((code.EQUALS, Assign) ∷ (code.LESS_EQUAL, Arrow) ∷ [])

  -- ( "=" | "<=" ) expr ";"
  unfoldable pub driven_value : Lang Token (DriveOperator × Expr)
  driven_value = do
    o ← drive_sign
    y ← expr
    word code.SEMICOLON
    pure (o.1, y)

  -- ( "=" | "<=" ) expr ";" after "@" delay and a signal
  unfoldable pub driven_at : ℕ × WindowKind → Delay → Postfix → Lang Token Stmt
  driven_at k first x = do
    v ← driven_value
    pure (s.Drive (record { line = k.0; delay = Some first; signal = x; operator = v.0; value = v.1 }))

  -- "<=" expr ";"
  unfoldable pub arrow_value : Lang Token Expr
  arrow_value = do
    word code.LESS_EQUAL
    y ← expr
    word code.SEMICOLON
    pure y

  -- "<=" expr ";" after a signal
  unfoldable pub driven : Postfix → Lang Token Stmt
  driven x = do
    y ← arrow_value
    pure (s.Drive (record { line = x.line; delay = None; signal = x; operator = Arrow; value = y }))

  -- [ "@" delay ] post ( "=" | "<=" ) expr ";", with `=` only after a delay: without one it is a step
  unfoldable pub drive_stmt : Lang Token Stmt
  drive_stmt = (do k ← at; first ← delay expr; x ← free; driven_at k first x) <|> (do x ← post; driven x)

  -- "," term
  unfoldable pub next_term : Lang Token Term
  next_term = do
    word code.COMMA
    term expr free

  -- [ "soft" ] ";"
  unfoldable pub expect_end : Lang Token (Option ℕ)
  expect_end = do
    after ← maybe (word code.SOFT)
    word code.SEMICOLON
    pure after

  -- { "," term } [ "soft" ] ";"
  unfoldable pub expect_tail : Lang Token (List Term × Option ℕ)
  expect_tail = do
    more ← many next_term
    after ← expect_end
    pure (more, after)

  -- { "," term } [ "soft" ] ";" after the first term
  unfoldable pub expect_rest : Option Window → Option ℕ → Term → Lang Token Stmt
  expect_rest w before first = do
    tail ← expect_tail
    pure (s.Expect (expected w before first tail.0 tail.1))

  -- the postfix expression of an expect's first term: it is at the start of the statement where neither a window nor a `soft` stands before it
  abbrev pub first_of : Option Window → Option ℕ → Lang Token Postfix
  first_of (Some w) before = free
  first_of None (Some line) = free
  first_of None None = post

  -- [ ( "@" | "@@" | "@@@" ) delay [ "," delay ] ] [ "soft" ] term { "," term } [ "soft" ] ";"
  unfoldable pub expect_stmt : Lang Token Stmt
  expect_stmt = do
    w ← maybe (window expr)
    before ← maybe (word code.SOFT)
    first ← term expr (first_of w before)
    expect_rest w before first

  -- step ";" | post ";" | edge ";" | [ "@" delay ] post ( "=" | "<=" ) expr ";" | [ .. delay [ "," delay ] ] [ "soft" ] term { "," term } [ "soft" ] ";"
  unfoldable pub simple_stmt : Lang Token Stmt
  simple_stmt = step_stmt <|> call_stmt <|> edge_stmt <|> drive_stmt <|> expect_stmt
