-- The laws of the productions of statements.
use Rattle.std.proofs.Common.{ℕ, ◌≤◌, Bool, true, false, [], ◌∷◌, ◌++◌, refl, ◌≡◌}
use Rattle.std.specs.Prelude.{◌&&◌}
use Rattle.grammar_laws.specs.Languages.{Lang, sequence, pure}
use Rattle.grammar_laws.specs.Readers.{Parser, and_then}
use Rattle.grammar_laws.specs.Readers as readers
use Rattle.grammar_laws.proofs.Law.{Heights, Law}
use Rattle.grammar_laws.proofs.Leaf as leaf
use Rattle.grammar_laws.proofs.Bind.{bind}
use Rattle.grammar_laws.proofs.Choice.{choose}
use Rattle.grammar_laws.proofs.Many.{many}
use Rattle.grammar_laws.proofs.ManyThen.{many_then}
use Rattle.grammar_laws.proofs.Nearest.{nearest}
use Rattle.grammar_laws.proofs.Seconds.{Next, next_second, next_none, next_choice, Alone, choice_opens_right}
use Rattle.grammar_laws.proofs.Sets.{disjoint}
use Rattle.grammar_laws.proofs.Settle.{grow}
use Rattle.grammar_laws.proofs.TwoKinds.{Second, OpensWith}
use Rattle.vera_ast.specs.declared.codes.TheConstants as code
use Rattle.vera_ast.specs.declared.token.Token.{Token}
use Rattle.vera_ast.specs.declared.tree.declarations.Decl.{Decl}
use Rattle.vera_ast.specs.declared.tree.expressions.Expr.{Expr}
use Rattle.vera_ast.specs.declared.tree.expressions.Postfix.{Postfix}
use Rattle.vera_ast.specs.declared.tree.statements.Stmt.{Stmt}
use Rattle.vera_ast.specs.declared.tree.statements.Stmt.TheVariants as s
use Rattle.parse_stmts.specs.Statements as g
use Rattle.parse_stmts.specs.StatementReading as r
use Rattle.parse_exprs.specs.Sets.{first_expr, first_free, first_post, first_own_type, first_suffix, first_type}
use Rattle.parse_stmts.specs.StatementSets.{loop_words, jump_words, first_arm, first_stmt, after_name, join_words}
use Rattle.parse_cursor.specs.Tokens.{kind_of}
use Rattle.parse_exprs.proofs.ExpressionLaws.{clash_expr, clash_post}
use Rattle.parse_stmts.proofs.PartLaws as part
use Rattle.parse_cursor.proofs.Samples.{is_code}
use Rattle.parse_stmts.proofs.SimpleLaws as simple
use Rattle.parse_cursor.proofs.TokenLaws as token

-- what needs no expression
module _ (Tall : Heights) (limit d : ℕ) (fits : (h : ℕ) → Tall.tall h → d ≤ limit) where
  empty : Law kind_of Tall limit d false true (code.SEMICOLON ∷ []) [] [] r.empty (λ h. g.empty d)
  unfolding r.empty g.empty
  empty = bind _ _ d (token.word d fits code.SEMICOLON refl) (λ line. leaf.pure _ d) refl refl

  lone : (keyword : ℕ) → is_code keyword ≡ true → Law kind_of Tall limit d false true (keyword ∷ []) [] [] (r.lone keyword) (λ h. g.lone keyword d)
  unfolding r.lone g.lone
  lone keyword e = bind _ _ d (token.word d fits keyword e) (λ line. bind _ _ d (token.word d fits code.SEMICOLON refl) (λ t. leaf.pure _ d) refl refl) refl refl

  jump : Law kind_of Tall limit d false true jump_words [] [] r.jump (λ h. g.jump d)
  unfolding r.jump g.jump
  jump =
      choose (code.BREAK ∷ []) _ _ d (bind _ _ d (lone code.BREAK refl) (λ line. leaf.pure _ d) refl refl)
      (choose (code.CONTINUE ∷ []) _ _ d (bind _ _ d (lone code.CONTINUE refl) (λ line. leaf.pure _ d) refl refl)
      (choose (code.RETURN ∷ []) _ _ d (bind _ _ d (lone code.RETURN refl) (λ line. leaf.pure _ d) refl refl)
      (bind _ _ d (lone code.TERMINATE refl) (λ line. leaf.pure _ d) refl refl)
      refl refl refl) refl refl refl) refl refl refl

  join_mode : Law kind_of Tall limit d true true join_words join_words [] r.join_mode (λ h. g.join_mode d)
  unfolding r.join_mode g.join_mode
  join_mode =
      choose (code.ALL ∷ []) _ _ d (bind _ _ d (token.word d fits code.ALL refl) (λ t. leaf.pure _ d) refl refl)
      (choose (code.ANY ∷ []) _ _ d (bind _ _ d (token.word d fits code.ANY refl) (λ t. leaf.pure _ d) refl refl)
      (choose (code.NONE ∷ []) _ _ d (bind _ _ d (token.word d fits code.NONE refl) (λ t. leaf.pure _ d) refl refl)
      (leaf.pure _ d)
      refl refl refl) refl refl refl) refl refl refl

  void_stmt : (pf : Parser Token Postfix) (lf : ℕ → Lang Token Postfix) → Law kind_of Tall limit d false true first_free clash_post [] pf (λ h. lf h d) → Law kind_of Tall limit d false true (code.VOID ∷ []) [] [] (r.void_stmt pf) (λ h. g.void_stmt (lf h) d)
  unfolding r.void_stmt g.void_stmt
  void_stmt pf lf F =
      bind _ _ d (token.word d fits code.VOID refl) (λ line. bind _ _ d (token.word d fits code.EQUALS refl) (λ t. bind _ _ d F (λ x.
      bind _ _ d (token.word d fits code.SEMICOLON refl) (λ t. leaf.pure _ d) refl refl) refl refl) refl refl) refl refl

  -- statements that nest statements alone
  module _ (os : Bool) (ps : Parser Token Stmt) (ls : ℕ → Lang Token Stmt) (S : Law kind_of Tall limit d false os first_stmt join_words (code.ELSE ∷ []) ps (λ h. ls h d)) where
    branches : Law kind_of Tall limit d false os first_stmt (join_words ++ first_stmt) (code.ELSE ∷ []) (r.branches ps) (λ h. g.branches (ls h) d)
    unfolding r.branches g.branches
    branches = grow (join_words ++ first_stmt) (code.ELSE ∷ []) refl refl (bind _ _ d S (λ first. bind _ _ d (many first_stmt _ d S refl refl refl refl) (λ more. leaf.pure _ d) refl refl) refl refl)

    joined : Law kind_of Tall limit d false true (code.JOIN ∷ []) join_words [] r.joined (λ h. g.joined d)
    unfolding r.joined g.joined
    joined = bind _ _ d (token.word d fits code.JOIN refl) (λ t. join_mode) refl refl

    fork_stmt : Law kind_of Tall limit d false true (code.FORK ∷ []) join_words [] (r.fork_stmt ps) (λ h. g.fork_stmt (ls h) d)
    unfolding r.fork_stmt g.fork_stmt
    fork_stmt = bind _ _ d (token.word d fits code.FORK refl) (λ line. bind _ _ d branches (λ all. bind _ _ d joined (λ mode. leaf.pure _ d) refl refl) refl refl) refl refl

    pub block : (od : Bool) (pd : Parser Token Decl) (ld : ℕ → Lang Token Decl) → Law kind_of Tall limit d false od first_type [] [] pd (λ h. ld h d)
        → ((h : ℕ) → Second kind_of code.NAME (code.NAME ∷ []) (ld h d)) → ((h : ℕ) → Second kind_of code.NAME after_name (ls h d))
        → ((h : ℕ) → Tall.tall h → OpensWith kind_of code.NAME (code.NAME ∷ []) (λ k. k ≤ limit) (ld h d)) → ((h : ℕ) → Tall.tall h → OpensWith kind_of code.NAME after_name (λ k. Unit {0}) (ls h d))
        → Law kind_of Tall limit d false true (code.LEFT_BRACE ∷ []) [] [] (r.block pd ps) (λ h. g.block (ld h) (ls h) d)
    unfolding r.block g.block
    block od pd ld D second_decl second_stmt opens_decl opens_stmt =
        bind _ _ d (token.word d fits code.LEFT_BRACE refl) (λ line. bind _ _ d
        (many_then first_own_type code.NAME after_name first_stmt ld ls d D S refl refl refl refl refl refl refl refl refl refl second_decl second_stmt opens_decl opens_stmt)
        (λ both. bind _ _ d (token.word d fits code.RIGHT_BRACE refl) (λ t. leaf.pure _ d) refl refl) refl refl) refl refl

-- what nests expressions and statements
module _ (Tall : Heights) (limit d : ℕ) (fits : (h : ℕ) → Tall.tall h → d ≤ limit) (oe os : Bool) (pe : Parser Token Expr) (ps : Parser Token Stmt) (le : ℕ → Lang Token Expr) (ls : ℕ → Lang Token Stmt)
    (E : Law kind_of Tall limit d false oe first_expr clash_expr [] pe (λ h. le h d)) (S : Law kind_of Tall limit d false os first_stmt join_words (code.ELSE ∷ []) ps (λ h. ls h d)) where
  condition : Law kind_of Tall limit d false true (code.LEFT_PARENTHESIS ∷ []) [] [] (r.condition pe ps) (λ h. g.condition (le h) (ls h) d)
  unfolding r.condition g.condition
  condition =
      bind _ _ d (token.word d fits code.LEFT_PARENTHESIS refl) (λ t. bind _ _ d E (λ x. bind _ _ d (token.word d fits code.RIGHT_PARENTHESIS refl) (λ t. leaf.pure _ d) refl refl) refl refl) refl refl

  otherwise : Law kind_of Tall limit d false true (code.ELSE ∷ []) join_words (code.ELSE ∷ []) (r.otherwise pe ps) (λ h. g.otherwise (le h) (ls h) d)
  unfolding r.otherwise g.otherwise
  otherwise = bind _ _ d (token.word d fits code.ELSE refl) (λ t. S) refl refl

  choices : Law kind_of Tall limit d false os first_stmt join_words (code.ELSE ∷ []) (r.choices pe ps) (λ h. g.choices (le h) (ls h) d)
  unfolding r.choices g.choices
  choices = grow join_words (code.ELSE ∷ []) refl refl (
      bind _ _ d S (λ when_true. bind _ _ d (nearest (code.ELSE ∷ []) _ d otherwise refl refl) (λ when_false. leaf.pure _ d) refl refl) refl refl)

  if_stmt : Law kind_of Tall limit d false true (code.IF ∷ []) join_words (code.ELSE ∷ []) (r.if_stmt pe ps) (λ h. g.if_stmt (le h) (ls h) d)
  unfolding r.if_stmt g.if_stmt
  if_stmt = bind _ _ d (token.word d fits code.IF refl) (λ line. bind _ _ d condition (λ x. bind _ _ d choices (λ both. leaf.pure _ d) refl refl) refl refl) refl refl

  while_stmt : Law kind_of Tall limit d false true (code.WHILE ∷ []) join_words (code.ELSE ∷ []) (r.while_stmt pe ps) (λ h. g.while_stmt (le h) (ls h) d)
  unfolding r.while_stmt g.while_stmt
  while_stmt = bind _ _ d (token.word d fits code.WHILE refl) (λ line. bind _ _ d condition (λ x. bind _ _ d S (λ body. leaf.pure _ d) refl refl) refl refl) refl refl

  repeat_stmt : Law kind_of Tall limit d false true (code.REPEAT ∷ []) join_words (code.ELSE ∷ []) (r.repeat_stmt pe ps) (λ h. g.repeat_stmt (le h) (ls h) d)
  unfolding r.repeat_stmt g.repeat_stmt
  repeat_stmt = bind _ _ d (token.word d fits code.REPEAT refl) (λ line. bind _ _ d condition (λ x. bind _ _ d S (λ body. leaf.pure _ d) refl refl) refl refl) refl refl

  for_condition : Law kind_of Tall limit d false oe first_expr [] [] (r.for_condition pe ps) (λ h. g.for_condition (le h) (ls h) d)
  unfolding r.for_condition g.for_condition
  for_condition = bind _ _ d E (λ x. bind _ _ d (token.word d fits code.SEMICOLON refl) (λ t. leaf.pure _ d) refl refl) refl refl

  module _ (pf : Parser Token Postfix) (lf : ℕ → Lang Token Postfix) (F : Law kind_of Tall limit d false true first_free clash_post [] pf (λ h. lf h d)) where
    step_then : (c : ℕ) → is_code c ≡ true → disjoint (c ∷ []) clash_expr ≡ true → Law kind_of Tall limit d false true first_free [] [] (r.step_then pe ps pf c) (λ h. g.step_then (le h) (ls h) (lf h) c d)
    unfolding r.step_then g.step_then
    step_then c e apart = bind _ _ d (part.step Tall limit d fits oe pe le E pf lf F) (λ x. bind _ _ d (token.word d fits c e) (λ t. leaf.pure _ d) refl refl) apart refl

    start : Law kind_of Tall limit d false true (code.LEFT_PARENTHESIS ∷ []) [] [] (r.start pe ps pf) (λ h. g.start (le h) (ls h) (lf h) d)
    unfolding r.start g.start
    start = bind _ _ d (token.word d fits code.LEFT_PARENTHESIS refl) (λ t. step_then code.SEMICOLON refl refl) refl refl

    turn : Law kind_of Tall limit d false oe first_expr [] [] (r.turn pe ps pf) (λ h. g.turn (le h) (ls h) (lf h) d)
    unfolding r.turn g.turn
    turn = bind _ _ d for_condition (λ x. bind _ _ d (step_then code.RIGHT_PARENTHESIS refl refl) (λ next. leaf.pure _ d) refl refl) refl refl

    turns : Law kind_of Tall limit d false true (code.LEFT_PARENTHESIS ∷ []) [] [] (r.turns pe ps pf) (λ h. g.turns (le h) (ls h) (lf h) d)
    unfolding r.turns g.turns
    turns = bind _ _ d start (λ first. bind _ _ d turn (λ each. leaf.pure _ d) refl refl) refl refl

    for_stmt : Law kind_of Tall limit d false true (code.FOR ∷ []) join_words (code.ELSE ∷ []) (r.for_stmt pe ps pf) (λ h. g.for_stmt (le h) (ls h) (lf h) d)
    unfolding r.for_stmt g.for_stmt
    for_stmt = bind _ _ d (token.word d fits code.FOR refl) (λ line. bind _ _ d turns (λ all. bind _ _ d S (λ body. leaf.pure _ d) refl refl) refl refl) refl refl

  loop : (pf : Parser Token Postfix) (lf : ℕ → Lang Token Postfix) → Law kind_of Tall limit d false true first_free clash_post [] pf (λ h. lf h d)
      → Law kind_of Tall limit d false true loop_words join_words (code.ELSE ∷ []) (r.loop_stmt pe ps pf) (λ h. g.loop_stmt (le h) (ls h) (lf h) d)
  unfolding r.loop_stmt g.loop_stmt
  loop pf lf F = grow join_words (code.ELSE ∷ []) refl refl (
      choose (code.WHILE ∷ []) _ _ d while_stmt (choose (code.REPEAT ∷ []) _ _ d repeat_stmt (for_stmt pf lf F) refl refl refl) refl refl refl)

  next_value : Law kind_of Tall limit d false true (code.COMMA ∷ []) clash_expr [] (r.next_value pe ps) (λ h. g.next_value (le h) (ls h) d)
  unfolding r.next_value g.next_value
  next_value = bind _ _ d (token.word d fits code.COMMA refl) (λ t. E) refl refl

  arm_label : Law kind_of Tall limit d false (oe && true) first_arm (clash_expr ++ code.COMMA ∷ []) [] (r.arm_label pe ps) (λ h. g.arm_label (le h) (ls h) d)
  unfolding r.arm_label g.arm_label
  arm_label = grow (clash_expr ++ code.COMMA ∷ []) [] refl refl (
      choose first_expr _ _ d (bind _ _ d E (λ x. bind _ _ d (many (code.COMMA ∷ []) _ d next_value refl refl refl refl) (λ more. leaf.pure _ d) refl refl) refl refl)
      (bind _ _ d (token.word d fits code.DEFAULT refl) (λ line. leaf.pure _ d) refl refl) refl refl refl)

  labelled : Law kind_of Tall limit d false (oe && true) first_arm [] [] (r.labelled pe ps) (λ h. g.labelled (le h) (ls h) d)
  unfolding r.labelled g.labelled
  labelled = bind _ _ d arm_label (λ label. bind _ _ d (token.word d fits code.COLON refl) (λ t. leaf.pure _ d) refl refl) refl refl

  arm : Law kind_of Tall limit d false (oe && true) first_arm join_words (code.ELSE ∷ []) (r.arm pe ps) (λ h. g.arm (le h) (ls h) d)
  unfolding r.arm g.arm
  arm = bind _ _ d labelled (λ label. bind _ _ d S (λ body. leaf.pure _ d) refl refl) refl refl

  arms : Law kind_of Tall limit d false true (code.LEFT_BRACE ∷ []) [] [] (r.arms pe ps) (λ h. g.arms (le h) (ls h) d)
  unfolding r.arms r.all_arms g.arms
  arms =
      bind _ _ d (token.word d fits code.LEFT_BRACE refl) (λ t. bind _ _ d (many first_arm _ d arm refl refl refl refl) (λ all.
      bind _ _ d (token.word d fits code.RIGHT_BRACE refl) (λ t. leaf.pure _ d) refl refl) refl refl) refl refl

  case_stmt : Law kind_of Tall limit d false true (code.CASE ∷ []) [] [] (r.case_stmt pe ps) (λ h. g.case_stmt (le h) (ls h) d)
  unfolding r.case_stmt g.case_stmt
  case_stmt = bind _ _ d (token.word d fits code.CASE refl) (λ line. bind _ _ d condition (λ x. bind _ _ d arms (λ all. leaf.pure _ d) refl refl) refl refl) refl refl

-- all of them
module _ (Tall : Heights) (limit d : ℕ) (fits : (h : ℕ) → Tall.tall h → d ≤ limit) (oe od os : Bool) (pe : Parser Token Expr) (pp pf : Parser Token Postfix) (pd : Parser Token Decl) (ps : Parser Token Stmt)
    (le : ℕ → Lang Token Expr) (lp lf : ℕ → Lang Token Postfix) (ld : ℕ → Lang Token Decl) (ls : ℕ → Lang Token Stmt)
    (E : Law kind_of Tall limit d false oe first_expr clash_expr [] pe (λ h. le h d))
    (O : Law kind_of Tall limit d false true first_post clash_post [] pp (λ h. lp h d)) (F : Law kind_of Tall limit d false true first_free clash_post [] pf (λ h. lf h d))
    (D : Law kind_of Tall limit d false od first_type [] [] pd (λ h. ld h d)) (S : Law kind_of Tall limit d false os first_stmt join_words (code.ELSE ∷ []) ps (λ h. ls h d))
    (second_decl : (h : ℕ) → Second kind_of code.NAME (code.NAME ∷ []) (ld h d)) (second_stmt : (h : ℕ) → Second kind_of code.NAME after_name (ls h d))
    (opens_decl : (h : ℕ) → Tall.tall h → OpensWith kind_of code.NAME (code.NAME ∷ []) (λ k. k ≤ limit) (ld h d)) (opens_stmt : (h : ℕ) → Tall.tall h → OpensWith kind_of code.NAME after_name (λ k. Unit {0}) (ls h d)) where
  block_stmt : Law kind_of Tall limit d false true (code.LEFT_BRACE ∷ []) [] [] (λ ts. and_then (r.block pd ps ts) (λ b. readers.pure (s.Block b))) (λ h. sequence (g.block (ld h) (ls h)) (λ b. pure (s.Block b)) d)
  block_stmt = bind _ _ d (block Tall limit d fits os ps ls S od pd ld D second_decl second_stmt opens_decl opens_stmt) (λ b. leaf.pure _ d) refl refl

  pub body : Law kind_of Tall limit d false true first_stmt join_words (code.ELSE ∷ []) (r.body pe pp pf pd ps) (λ h. g.body (le h) (lp h) (lf h) (ld h) (ls h) d)
  unfolding r.body r.other_body r.block_stmt g.body
  body = grow join_words (code.ELSE ∷ []) refl refl (
      choose (code.LEFT_BRACE ∷ []) _ _ d block_stmt
      (choose (code.SEMICOLON ∷ []) _ _ d (empty Tall limit d fits)
      (choose (code.VOID ∷ []) _ _ d (void_stmt Tall limit d fits pf lf F)
      (choose (code.IF ∷ []) _ _ d (if_stmt Tall limit d fits oe os pe ps le ls E S)
      (choose loop_words _ _ d (loop Tall limit d fits oe os pe ps le ls E S pf lf F)
      (choose (code.CASE ∷ []) _ _ d (case_stmt Tall limit d fits oe os pe ps le ls E S)
      (choose jump_words _ _ d (jump Tall limit d fits)
      (choose (code.FORK ∷ []) _ _ d (fork_stmt Tall limit d fits os ps ls S)
      (simple.simple_stmt Tall limit d fits oe pe pp pf le lp lf E O F)
      refl refl refl) refl refl refl) refl refl refl) refl refl refl) refl refl refl) refl refl refl) refl refl refl) refl refl refl)

  -- ---- a name at the start of a statement

  pub second_body : (h : ℕ) → Next kind_of code.NAME true first_suffix (lp h d) → Second kind_of code.NAME after_name (g.body (le h) (lp h) (lf h) (ld h) (ls h) d)
  unfolding g.body
  second_body h next = next_second kind_of code.NAME after_name _ (
      next_choice kind_of code.NAME false false [] _ _ _ d (next_none kind_of code.NAME d false (code.LEFT_BRACE ∷ []) [] _ (block_stmt.shape h) refl)
      (next_choice kind_of code.NAME false false [] _ _ _ d (next_none kind_of code.NAME d false (code.SEMICOLON ∷ []) [] _ ((empty Tall limit d fits).shape h) refl)
      (next_choice kind_of code.NAME false false [] _ _ _ d (next_none kind_of code.NAME d false (code.VOID ∷ []) [] _ ((void_stmt Tall limit d fits pf lf F).shape h) refl)
      (next_choice kind_of code.NAME false false [] _ _ _ d (next_none kind_of code.NAME d false (code.IF ∷ []) (code.ELSE ∷ []) _ ((if_stmt Tall limit d fits oe os pe ps le ls E S).shape h) refl)
      (next_choice kind_of code.NAME false false [] _ _ _ d (next_none kind_of code.NAME d false loop_words (code.ELSE ∷ []) _ ((loop Tall limit d fits oe os pe ps le ls E S pf lf F).shape h) refl)
      (next_choice kind_of code.NAME false false [] _ _ _ d (next_none kind_of code.NAME d false (code.CASE ∷ []) [] _ ((case_stmt Tall limit d fits oe os pe ps le ls E S).shape h) refl)
      (next_choice kind_of code.NAME false false [] _ _ _ d (next_none kind_of code.NAME d false jump_words [] _ ((jump Tall limit d fits).shape h) refl)
      (next_choice kind_of code.NAME false false [] _ _ _ d (next_none kind_of code.NAME d false (code.FORK ∷ []) [] _ ((fork_stmt Tall limit d fits os ps ls S).shape h) refl)
      (simple.next_simple Tall limit d fits oe pe pp pf le lp lf E O F h next)))))))))

  pub opens_body : (h : ℕ) → Tall.some h → Alone kind_of code.NAME (λ k. Unit {0}) (lp h d) → OpensWith kind_of code.NAME first_suffix (λ k. Unit {0}) (lp h d) → OpensWith kind_of code.NAME after_name (λ k. Unit {0}) (g.body (le h) (lp h) (lf h) (ld h) (ls h) d)
  unfolding g.body
  opens_body h some alone opens =
      choice_opens_right kind_of code.NAME after_name _ _ _ d (choice_opens_right kind_of code.NAME after_name _ _ _ d (choice_opens_right kind_of code.NAME after_name _ _ _ d (choice_opens_right kind_of code.NAME after_name _ _ _ d (choice_opens_right kind_of code.NAME after_name _ _ _ d (choice_opens_right kind_of code.NAME after_name _ _ _ d (choice_opens_right kind_of code.NAME after_name _ _ _ d (choice_opens_right kind_of code.NAME after_name _ _ _ d
      (simple.opens_simple Tall limit d fits oe pe pp pf le lp lf E O F h some alone opens))))))))
