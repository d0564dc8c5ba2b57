-- Statements as they are read: each production of Statements again, with the codes that decide, and recursion on the levels of depth that are left.
use Rattle.std.specs.Prelude.{ℕ, zero, suc, List, [], ◌∷◌, Option}
use Rattle.grammar_laws.specs.Readers.{Parser, pure, ◌>>=◌, ◌>>◌, ◌<$>◌, and_then}
use Rattle.grammar_laws.specs.Readers as readers
use Rattle.vera_ast.specs.Lines.{line_of}
use Rattle.vera_ast.specs.declared.codes.TheConstants as code
use Rattle.vera_ast.specs.declared.token.Token.{Token}
use Rattle.vera_ast.specs.declared.tree.declarations.Decl.{Decl}
use Rattle.vera_ast.specs.declared.tree.expressions.Expr.{Expr}
use Rattle.vera_ast.specs.declared.tree.expressions.Postfix.{Postfix}
use Rattle.vera_ast.specs.declared.tree.statements.Arm.{Arm}
use Rattle.vera_ast.specs.declared.tree.statements.ArmLabel.{ArmLabel}
use Rattle.vera_ast.specs.declared.tree.statements.ArmLabel.TheVariants.{Values, Default}
use Rattle.vera_ast.specs.declared.tree.statements.Block.{Block}
use Rattle.vera_ast.specs.declared.tree.statements.Join.{Join}
use Rattle.vera_ast.specs.declared.tree.statements.Join.TheVariants as join
use Rattle.vera_ast.specs.declared.tree.statements.Step.{Step}
use Rattle.vera_ast.specs.declared.tree.statements.Stmt.{Stmt}
use Rattle.vera_ast.specs.declared.tree.statements.Stmt.TheVariants as s
use Rattle.parse_cursor.specs.Tokens.{kind_of}
use Rattle.parse_cursor.specs.TokenReading.{either, many, maybe, too_deep, word}
use Rattle.parse_exprs.specs.ExpressionReading.{expr, unary, post, free}
use Rattle.parse_stmts.specs.DeclarationReading.{decl}
use Rattle.parse_stmts.specs.PartReading.{step}
use Rattle.parse_stmts.specs.SimpleReading.{simple_stmt}
use Rattle.parse_exprs.specs.Sets.{first_expr, first_own_type}
use Rattle.parse_stmts.specs.StatementSets.{loop_words, jump_words, first_stmt, first_arm, after_name}

unfoldable pub empty : Parser Token Stmt
empty = s.Empty <$> word code.SEMICOLON

unfoldable pub lone : ℕ → Parser Token ℕ
lone keyword = do
  line ← word keyword
  word code.SEMICOLON
  pure line

unfoldable pub jump : Parser Token Stmt
jump = either (code.BREAK ∷ []) (s.Break <$> lone code.BREAK)
    (either (code.CONTINUE ∷ []) (s.Continue <$> lone code.CONTINUE)
    (either (code.RETURN ∷ []) (s.Return <$> lone code.RETURN)
    (s.Terminate <$> lone code.TERMINATE)))

-- { decl }, and the statements after it
abbrev pub decls : Parser Token Decl → Parser Token (List Decl)
decls decl = readers.firsts kind_of first_own_type code.NAME decl

abbrev pub stmts : Parser Token Stmt → Parser Token (List Stmt)
stmts stmt = readers.past_stray kind_of code.NAME after_name (many first_stmt stmt)

abbrev pub items : Parser Token Decl → Parser Token Stmt → Parser Token (List Decl × List Stmt)
items decl stmt = readers.many_then kind_of first_own_type code.NAME after_name first_stmt decl stmt

unfoldable pub block : Parser Token Decl → Parser Token Stmt → Parser Token Block
block decl stmt = do
  line ← word code.LEFT_BRACE
  both ← items decl stmt
  word code.RIGHT_BRACE
  pure (record { line = line; decls = both.0; stmts = both.1 })

unfoldable pub join_mode : Parser Token Join
join_mode = either (code.ALL ∷ []) (do word code.ALL; pure join.All)
    (either (code.ANY ∷ []) (do word code.ANY; pure join.Any)
    (either (code.NONE ∷ []) (do word code.NONE; pure join.None)
    (pure join.All)))

unfoldable pub branches : Parser Token Stmt → Parser Token (List Stmt)
branches stmt = do
  first ← stmt
  more ← many first_stmt stmt
  pure (first ∷ more)

unfoldable pub joined : Parser Token Join
joined = do
  word code.JOIN
  join_mode

unfoldable pub fork_stmt : Parser Token Stmt → Parser Token Stmt
fork_stmt stmt = do
  line ← word code.FORK
  all ← branches stmt
  mode ← joined
  pure (s.Fork (record { line = line; branches = all; join = mode }))

unfoldable pub void_stmt : Parser Token Postfix → Parser Token Stmt
void_stmt free = do
  line ← word code.VOID
  word code.EQUALS
  x ← free
  word code.SEMICOLON
  pure (s.Void (record { line = line; value = x }))

module _ (expr : Parser Token Expr) (stmt : Parser Token Stmt) where
  unfoldable pub condition : Parser Token Expr
  condition = do
    word code.LEFT_PARENTHESIS
    x ← expr
    word code.RIGHT_PARENTHESIS
    pure x

  unfoldable pub otherwise : Parser Token Stmt
  otherwise = do
    word code.ELSE
    stmt

  unfoldable pub choices : Parser Token (Stmt × Option Stmt)
  choices = do
    when_true ← stmt
    when_false ← maybe (code.ELSE ∷ []) otherwise
    pure (when_true, when_false)

  unfoldable pub if_stmt : Parser Token Stmt
  if_stmt = do
    line ← word code.IF
    x ← condition
    both ← choices
    pure (s.If (record { line = line; condition = x; when_true = both.0; when_false = both.1 }))

  unfoldable pub while_stmt : Parser Token Stmt
  while_stmt = do
    line ← word code.WHILE
    x ← condition
    body ← stmt
    pure (s.While (record { line = line; condition = x; body = body }))

  unfoldable pub repeat_stmt : Parser Token Stmt
  repeat_stmt = do
    line ← word code.REPEAT
    x ← condition
    body ← stmt
    pure (s.Repeat (record { line = line; count = x; body = body }))

  unfoldable pub step_then : Parser Token Postfix → ℕ → Parser Token Step
  step_then free closing = do
    x ← step expr free
    word closing
    pure x

  unfoldable pub for_condition : Parser Token Expr
  for_condition = do
    x ← expr
    word code.SEMICOLON
    pure x

  unfoldable pub turn : Parser Token Postfix → Parser Token (Expr × Step)
  turn free = do
    x ← for_condition
    next ← step_then free code.RIGHT_PARENTHESIS
    pure (x, next)

  unfoldable pub start : Parser Token Postfix → Parser Token Step
  start free = do
    word code.LEFT_PARENTHESIS
    step_then free code.SEMICOLON

  unfoldable pub turns : Parser Token Postfix → Parser Token (Step × (Expr × Step))
  turns free = do
    first ← start free
    each ← turn free
    pure (first, each)

  unfoldable pub for_stmt : Parser Token Postfix → Parser Token Stmt
  for_stmt free = do
    line ← word code.FOR
    all ← turns free
    body ← stmt
    pure (s.For (record { line = line; start = all.0; condition = all.1.0; step = all.1.1; body = body }))

  unfoldable pub loop_stmt : Parser Token Postfix → Parser Token Stmt
  loop_stmt free = either (code.WHILE ∷ []) while_stmt (either (code.REPEAT ∷ []) repeat_stmt (for_stmt free))

  unfoldable pub next_value : Parser Token Expr
  next_value = do
    word code.COMMA
    expr

  unfoldable pub arm_label : Parser Token (ℕ × ArmLabel)
  arm_label = either first_expr (do x ← expr; more ← many (code.COMMA ∷ []) next_value; pure (line_of x, Values (x ∷ more)))
      (do line ← word code.DEFAULT; pure (line, Default))

  unfoldable pub labelled : Parser Token (ℕ × ArmLabel)
  labelled = do
    label ← arm_label
    word code.COLON
    pure label

  unfoldable pub arm : Parser Token Arm
  arm = do
    label ← labelled
    body ← stmt
    pure (record { line = label.0; label = label.1; body = body })

  unfoldable pub all_arms : Parser Token (List Arm)
  all_arms = many first_arm arm

  unfoldable pub arms : Parser Token (List Arm)
  arms = do
    word code.LEFT_BRACE
    all ← all_arms
    word code.RIGHT_BRACE
    pure all

  unfoldable pub case_stmt : Parser Token Stmt
  case_stmt = do
    line ← word code.CASE
    x ← condition
    all ← arms
    pure (s.Case line x all)

module _ (expr : Parser Token Expr) (post free : Parser Token Postfix) (decl : Parser Token Decl) (stmt : Parser Token Stmt) where
  unfoldable pub block_stmt : Parser Token Stmt
  block_stmt = s.Block <$> block decl stmt

  -- what begins with none of the words of `body`
  unfoldable pub other_body : Parser Token Stmt
  other_body = either (code.CASE ∷ []) (case_stmt expr stmt)
      (either jump_words jump
      (either (code.FORK ∷ []) (fork_stmt stmt)
      (simple_stmt expr post free)))

  unfoldable pub body : Parser Token Stmt
  body = either (code.LEFT_BRACE ∷ []) block_stmt
      (either (code.SEMICOLON ∷ []) empty
      (either (code.VOID ∷ []) (void_stmt free)
      (either (code.IF ∷ []) (if_stmt expr stmt)
      (either loop_words (loop_stmt expr stmt free)
      other_body))))

-- by the levels of depth that are left
unfoldable pub stmt : ℕ → Parser Token Stmt
stmt zero = too_deep first_stmt
stmt (suc n) = body (expr n) (post (expr n) (unary n)) (free (expr n) (unary n)) (decl (expr n)) (stmt n)
