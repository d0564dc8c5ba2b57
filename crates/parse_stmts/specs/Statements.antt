-- Statements, one definition for each production. They are open over the languages of what they nest: expressions (`expr`); postfix expressions
-- at the start of a statement, where none begins with a `{` (`post`), and elsewhere (`free`); declarations; and statements themselves.
use Rattle.std.specs.Prelude.{ℕ, zero, suc, List, [], ◌∷◌, Option}
use Rattle.grammar_laws.specs.Languages.{Lang, pure, ◌>>=◌, ◌>>◌, ◌<$>◌, ◌<|>◌, many, many_then}
use Rattle.vera_ast.specs.Lines.{line_of}
use Rattle.vera_ast.specs.declared.codes.TheConstants as code
use Rattle.vera_ast.specs.declared.token.Token.{Token}
use Rattle.vera_ast.specs.declared.tree.declarations.Decl.{Decl}
use Rattle.vera_ast.specs.declared.tree.expressions.Expr.{Expr}
use Rattle.vera_ast.specs.declared.tree.expressions.Postfix.{Postfix}
use Rattle.vera_ast.specs.declared.tree.statements.Arm.{Arm}
use Rattle.vera_ast.specs.declared.tree.statements.ArmLabel.{ArmLabel}
use Rattle.vera_ast.specs.declared.tree.statements.ArmLabel.TheVariants.{Values, Default}
use Rattle.vera_ast.specs.declared.tree.statements.Block.{Block}
use Rattle.vera_ast.specs.declared.tree.statements.Join.{Join}
use Rattle.vera_ast.specs.declared.tree.statements.Join.TheVariants as join
use Rattle.vera_ast.specs.declared.tree.statements.Step.{Step}
use Rattle.vera_ast.specs.declared.tree.statements.Stmt.{Stmt}
use Rattle.vera_ast.specs.declared.tree.statements.Stmt.TheVariants as s
use Rattle.parse_cursor.specs.Tokens.{word, nearest}
use Rattle.parse_exprs.specs.Expressions.{expr, unary, post, free}
use Rattle.parse_stmts.specs.Declarations.{decl}
use Rattle.parse_stmts.specs.Parts.{step}
use Rattle.parse_stmts.specs.Simple.{simple_stmt}

unfoldable pub empty : Lang Token Stmt
empty = s.Empty <$> word code.SEMICOLON

-- a keyword and ";", by its line
unfoldable pub lone : ℕ → Lang Token ℕ
lone keyword = do
  line ← word keyword
  word code.SEMICOLON
  pure line

-- "break" ";" | "continue" ";" | "return" ";" | "terminate" ";"
unfoldable pub jump : Lang Token Stmt
jump = (s.Break <$> lone code.BREAK) <|> (s.Continue <$> lone code.CONTINUE) <|> (s.Return <$> lone code.RETURN) <|> (s.Terminate <$> lone code.TERMINATE)

-- block = "{" { decl } { stmt } "}"
unfoldable pub block : Lang Token Decl → Lang Token Stmt → Lang Token Block
block decl stmt = do
  line ← word code.LEFT_BRACE
  both ← many_then decl stmt
  word code.RIGHT_BRACE
  pure (record { line = line; decls = both.0; stmts = both.1 })

-- [ "all" | "any" | "none" ]
unfoldable pub join_mode : Lang Token Join
join_mode = (do word code.ALL; pure join.All) <|> (do word code.ANY; pure join.Any) <|> (do word code.NONE; pure join.None) <|> pure join.All

-- stmt { stmt }
unfoldable pub branches : Lang Token Stmt → Lang Token (List Stmt)
branches stmt = do
  first ← stmt
  more ← many stmt
  pure (first ∷ more)

-- "join" [ "all" | "any" | "none" ]
unfoldable pub joined : Lang Token Join
joined = do
  word code.JOIN
  join_mode

-- "fork" stmt { stmt } "join" [ "all" | "any" | "none" ]
unfoldable pub fork_stmt : Lang Token Stmt → Lang Token Stmt
fork_stmt stmt = do
  line ← word code.FORK
  all ← branches stmt
  mode ← joined
  pure (s.Fork (record { line = line; branches = all; join = mode }))

-- "void" "=" post ";"
unfoldable pub void_stmt : Lang Token Postfix → Lang Token Stmt
void_stmt free = do
  line ← word code.VOID
  word code.EQUALS
  x ← free
  word code.SEMICOLON
  pure (s.Void (record { line = line; value = x }))

module _ (expr : Lang Token Expr) (stmt : Lang Token Stmt) where
  -- "(" expr ")"
  unfoldable pub condition : Lang Token Expr
  condition = do
    word code.LEFT_PARENTHESIS
    x ← expr
    word code.RIGHT_PARENTHESIS
    pure x

  -- "else" stmt
  unfoldable pub otherwise : Lang Token Stmt
  otherwise = do
    word code.ELSE
    stmt

  -- stmt [ "else" stmt ], the `else` that of the nearest `if`
  unfoldable pub choices : Lang Token (Stmt × Option Stmt)
  choices = do
    when_true ← stmt
    when_false ← nearest (code.ELSE ∷ []) otherwise
    pure (when_true, when_false)

  -- "if" "(" expr ")" stmt [ "else" stmt ]
  unfoldable pub if_stmt : Lang Token Stmt
  if_stmt = do
    line ← word code.IF
    x ← condition
    both ← choices
    pure (s.If (record { line = line; condition = x; when_true = both.0; when_false = both.1 }))

  -- "while" "(" expr ")" stmt
  unfoldable pub while_stmt : Lang Token Stmt
  while_stmt = do
    line ← word code.WHILE
    x ← condition
    body ← stmt
    pure (s.While (record { line = line; condition = x; body = body }))

  -- "repeat" "(" expr ")" stmt
  unfoldable pub repeat_stmt : Lang Token Stmt
  repeat_stmt = do
    line ← word code.REPEAT
    x ← condition
    body ← stmt
    pure (s.Repeat (record { line = line; count = x; body = body }))

  -- a step and this token
  unfoldable pub step_then : Lang Token Postfix → ℕ → Lang Token Step
  step_then free closing = do
    x ← step expr free
    word closing
    pure x

  -- expr ";"
  unfoldable pub for_condition : Lang Token Expr
  for_condition = do
    x ← expr
    word code.SEMICOLON
    pure x

  -- expr ";" step ")"
  unfoldable pub turn : Lang Token Postfix → Lang Token (Expr × Step)
  turn free = do
    x ← for_condition
    next ← step_then free code.RIGHT_PARENTHESIS
    pure (x, next)

  -- "(" step ";"
  unfoldable pub start : Lang Token Postfix → Lang Token Step
  start free = do
    word code.LEFT_PARENTHESIS
    step_then free code.SEMICOLON

  -- "(" step ";" expr ";" step ")"
  unfoldable pub turns : Lang Token Postfix → Lang Token (Step × (Expr × Step))
  turns free = do
    first ← start free
    each ← turn free
    pure (first, each)

  -- "for" "(" step ";" expr ";" step ")" stmt
  unfoldable pub for_stmt : Lang Token Postfix → Lang Token Stmt
  for_stmt free = do
    line ← word code.FOR
    all ← turns free
    body ← stmt
    pure (s.For (record { line = line; start = all.0; condition = all.1.0; step = all.1.1; body = body }))

  -- "while" .. | "repeat" .. | "for" ..
  unfoldable pub loop_stmt : Lang Token Postfix → Lang Token Stmt
  loop_stmt free = while_stmt <|> repeat_stmt <|> for_stmt free

  -- "," expr
  unfoldable pub next_value : Lang Token Expr
  next_value = do
    word code.COMMA
    expr

  -- expr { "," expr } | "default", with the line of its first token
  unfoldable pub arm_label : Lang Token (ℕ × ArmLabel)
  arm_label = (do x ← expr; more ← many next_value; pure (line_of x, Values (x ∷ more)))
      <|> (do line ← word code.DEFAULT; pure (line, Default))

  -- ( expr { "," expr } | "default" ) ":"
  unfoldable pub labelled : Lang Token (ℕ × ArmLabel)
  labelled = do
    label ← arm_label
    word code.COLON
    pure label

  -- arm = ( expr { "," expr } | "default" ) ":" stmt
  unfoldable pub arm : Lang Token Arm
  arm = do
    label ← labelled
    body ← stmt
    pure (record { line = label.0; label = label.1; body = body })

  -- "{" { arm } "}"
  unfoldable pub arms : Lang Token (List Arm)
  arms = do
    word code.LEFT_BRACE
    all ← many arm
    word code.RIGHT_BRACE
    pure all

  -- "case" "(" expr ")" "{" { arm } "}"
  unfoldable pub case_stmt : Lang Token Stmt
  case_stmt = do
    line ← word code.CASE
    x ← condition
    all ← arms
    pure (s.Case line x all)

module _ (expr : Lang Token Expr) (post free : Lang Token Postfix) (decl : Lang Token Decl) (stmt : Lang Token Stmt) where
  -- the alternatives of `stmt`: they exclude each other, so their order is of no import
  unfoldable pub body : Lang Token Stmt
  body = (s.Block <$> block decl stmt)
      <|> empty
      <|> void_stmt free
      <|> if_stmt expr stmt
      <|> loop_stmt expr stmt free
      <|> case_stmt expr stmt
      <|> jump
      <|> fork_stmt stmt
      <|> simple_stmt expr post free

-- by the height of the derivation, each one level of depth
unfoldable pub stmt : ℕ → Lang Token Stmt
stmt zero = λ d w rest x. ⊥
stmt (suc h) = λ d. body (expr h) (post (expr h) (unary h)) (free (expr h) (unary h)) (decl (expr h)) (stmt h) (suc d)
