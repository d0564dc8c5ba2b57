-- The statements that may begin with a postfix expression, with an `@`, or with `soft`, as they are read: what several of them begin with is read
-- once, and the token behind it decides.
use Rattle.std.specs.Prelude.{ℕ, List, [], ◌∷◌, Option, Some, None}
use Rattle.grammar_laws.specs.Readers.{Parser, pure, ◌>>=◌, ◌>>◌}
use Rattle.vera_ast.specs.declared.codes.TheConstants as code
use Rattle.vera_ast.specs.declared.token.Token.{Token}
use Rattle.vera_ast.specs.declared.tree.expressions.Expr.{Expr}
use Rattle.vera_ast.specs.declared.tree.expressions.Postfix.{Postfix}
use Rattle.vera_ast.specs.declared.tree.statements.Delay.{Delay}
use Rattle.vera_ast.specs.declared.tree.statements.DriveOperator.{DriveOperator}
use Rattle.vera_ast.specs.declared.tree.statements.DriveOperator.TheVariants.{Assign, Arrow}
use Rattle.vera_ast.specs.declared.tree.statements.Step.{Step}
use Rattle.vera_ast.specs.declared.tree.statements.Stmt.{Stmt}
use Rattle.vera_ast.specs.declared.tree.statements.Stmt.TheVariants as s
use Rattle.vera_ast.specs.declared.tree.statements.Term.{Term}
use Rattle.vera_ast.specs.declared.tree.statements.Window.{Window}
use Rattle.vera_ast.specs.declared.tree.statements.WindowKind.{WindowKind}
use Rattle.parse_cursor.specs.TokenReading.{either, many, maybe, word, sign}
use Rattle.parse_stmts.specs.Parts.{window_of}
use Rattle.parse_stmts.specs.PartReading.{at, other_at, edge_rest, plain_delay, delay_rest, delay, second_delay, changed, compared, term}
use Rattle.parse_exprs.specs.Sets.{first_post, first_free}
use Rattle.parse_stmts.specs.Simple.{expected}
use Rattle.parse_stmts.specs.StatementSets.{first_change, first_plain_delay, drive_signs}

-- [ "soft" ]
abbrev pub soft : Parser Token (Option ℕ)
soft = maybe (code.SOFT ∷ []) (word code.SOFT)

module _ (expr : Parser Token Expr) (post free : Parser Token Postfix) where
  unfoldable pub stepped : Step → Parser Token Stmt
  stepped x = do
    word code.SEMICOLON
    pure (s.Step x)

  unfoldable pub called : Postfix → Parser Token Stmt
  called x = do
    word code.SEMICOLON
    pure (s.Call x)

  unfoldable pub drive_sign : Parser Token (ℕ × DriveOperator)
  drive_sign = sign ((code.EQUALS, Assign) ∷ (code.LESS_EQUAL, Arrow) ∷ [])

  unfoldable pub driven_value : Parser Token (DriveOperator × Expr)
  driven_value = do
    o ← drive_sign
    y ← expr
    word code.SEMICOLON
    pure (o.1, y)

  unfoldable pub driven_at : ℕ × WindowKind → Delay → Postfix → Parser Token Stmt
  driven_at k first x = do
    v ← driven_value
    pure (s.Drive (record { line = k.0; delay = Some first; signal = x; operator = v.0; value = v.1 }))

  unfoldable pub arrow_value : Parser Token Expr
  arrow_value = do
    word code.LESS_EQUAL
    y ← expr
    word code.SEMICOLON
    pure y

  unfoldable pub driven : Postfix → Parser Token Stmt
  driven x = do
    y ← arrow_value
    pure (s.Drive (record { line = x.line; delay = None; signal = x; operator = Arrow; value = y }))

  unfoldable pub next_term : Parser Token Term
  next_term = do
    word code.COMMA
    term expr free

  unfoldable pub expect_end : Parser Token (Option ℕ)
  expect_end = do
    after ← soft
    word code.SEMICOLON
    pure after

  unfoldable pub expect_tail : Parser Token (List Term × Option ℕ)
  expect_tail = do
    more ← many (code.COMMA ∷ []) next_term
    after ← expect_end
    pure (more, after)

  unfoldable pub expect_rest : Option Window → Option ℕ → Term → Parser Token Stmt
  expect_rest w before first = do
    tail ← expect_tail
    pure (s.Expect (expected w before first tail.0 tail.1))

  -- `soft` and the terms, after this window or none
  unfoldable pub soft_term : Option Window → Parser Token Stmt
  soft_term w = do
    line ← word code.SOFT
    first ← term expr free
    expect_rest w (Some line) first

  -- what follows a window
  unfoldable pub any_term : Window → Parser Token Stmt
  any_term w = either (code.SOFT ∷ []) (soft_term (Some w)) (do first ← term expr free; expect_rest (Some w) None first)

  -- what follows a postfix expression at the start
  unfoldable pub begun_by_post : Postfix → Parser Token Stmt
  begun_by_post x = either first_change (do t ← changed expr x; stepped t)
      (either (code.SEMICOLON ∷ []) (called x)
      (either (code.LESS_EQUAL ∷ []) (driven x)
      (do first ← compared expr x; expect_rest None None first)))

  -- what follows "@" delay and a postfix expression
  unfoldable pub timed_signal : ℕ × WindowKind → Delay → Postfix → Parser Token Stmt
  timed_signal k first x = either drive_signs (driven_at k first x) (do t ← compared expr x; expect_rest (Some (window_of k first None)) None t)

  -- "," delay and what follows this window
  unfoldable pub second_term : ℕ × WindowKind → Delay → Parser Token Stmt
  second_term k first = do
    second ← second_delay expr
    any_term (window_of k first (Some second))

  -- what follows "@" delay
  unfoldable pub timed : ℕ × WindowKind → Delay → Parser Token Stmt
  timed k first = either first_free (do x ← free; timed_signal k first x)
      (either (code.SOFT ∷ []) (soft_term (Some (window_of k first None)))
      (second_term k first))

  -- "posedge" .. ")" ";"
  unfoldable pub edge_end : ℕ → Parser Token Stmt
  edge_end line = do
    e ← edge_rest line
    word code.SEMICOLON
    pure (s.Edge e)

  -- what follows "@" "(", the `(` on this line
  unfoldable pub parenthesized : ℕ × WindowKind → ℕ → Parser Token Stmt
  parenthesized k line = either (code.POSEDGE ∷ []) (edge_end k.0) (do first ← delay_rest expr line; timed k first)

  -- what follows "@"
  unfoldable pub begun_by_at : ℕ × WindowKind → Parser Token Stmt
  begun_by_at k = either first_plain_delay (do first ← plain_delay; timed k first) (do line ← word code.LEFT_PARENTHESIS; parenthesized k line)

  -- what follows "@@" delay or "@@@" delay
  unfoldable pub windowed : ℕ × WindowKind → Delay → Parser Token Stmt
  windowed k first = either (code.COMMA ∷ []) (second_term k first) (any_term (window_of k first None))

  -- what follows "@@" or "@@@"
  unfoldable pub begun_by_other_at : ℕ × WindowKind → Parser Token Stmt
  begun_by_other_at k = do
    first ← delay expr
    windowed k first

  unfoldable pub simple_stmt : Parser Token Stmt
  simple_stmt = either first_post (do x ← post; begun_by_post x)
      (either (code.SOFT ∷ []) (soft_term None)
      (either (code.AT ∷ []) (do k ← at; begun_by_at k)
      (do k ← other_at; begun_by_other_at k)))
