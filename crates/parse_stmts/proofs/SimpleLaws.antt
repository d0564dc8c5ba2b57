-- The laws of the statements that may begin with a postfix expression, with an `@`, or with `soft`.
use Rattle.std.proofs.Common.{ℕ, ◌≤◌, Bool, true, false, Option, Some, None, [], ◌∷◌, ◌++◌, refl}
use Rattle.grammar_laws.specs.Languages.{Lang, choice, sequence}
use Rattle.grammar_laws.specs.Readers.{Parser, and_then}
use Rattle.grammar_laws.specs.Shared as shared
use Rattle.grammar_laws.proofs.Law.{Heights, Law}
use Rattle.grammar_laws.proofs.Leaf as leaf
use Rattle.grammar_laws.proofs.Bind.{bind}
use Rattle.grammar_laws.proofs.Choice.{choose}
use Rattle.grammar_laws.proofs.Many.{many}
use Rattle.grammar_laws.proofs.Regroup.{assoc_to, assoc_back, inside, swap}
use Rattle.grammar_laws.proofs.Seconds.{Next, next_none, next_choice, next_bind, next_grow, next_as, Alone, bind_opens_next, bind_opens_with, choice_opens_left, opens_both, opens_as}
use Rattle.grammar_laws.proofs.Settle.{restate}
use Rattle.grammar_laws.proofs.TwoKinds.{OpensWith}
use Rattle.vera_ast.specs.declared.codes.TheConstants as code
use Rattle.vera_ast.specs.declared.token.Token.{Token}
use Rattle.vera_ast.specs.declared.tree.expressions.Expr.{Expr}
use Rattle.vera_ast.specs.declared.tree.expressions.Postfix.{Postfix}
use Rattle.vera_ast.specs.declared.tree.statements.Delay.{Delay}
use Rattle.vera_ast.specs.declared.tree.statements.DriveOperator.TheVariants.{Assign, Arrow}
use Rattle.vera_ast.specs.declared.tree.statements.Step.{Step}
use Rattle.vera_ast.specs.declared.tree.statements.Term.{Term}
use Rattle.vera_ast.specs.declared.tree.statements.Window.{Window}
use Rattle.vera_ast.specs.declared.tree.statements.WindowKind.{WindowKind}
use Rattle.parse_stmts.specs.Parts as parts
use Rattle.parse_stmts.specs.PartReading as reading
use Rattle.parse_stmts.specs.Simple as g
use Rattle.parse_stmts.specs.SimpleReading as r
use Rattle.parse_exprs.specs.Sets.{first_expr, first_free, first_post, first_suffix}
use Rattle.parse_stmts.specs.StatementSets.{first_change, first_plain_delay, drive_signs, first_simple, after_name}
use Rattle.parse_cursor.specs.TokenReading as token_reading
use Rattle.parse_cursor.specs.TokenReading.{either}
use Rattle.parse_cursor.specs.Tokens.{kind_of}
use Rattle.parse_cursor.specs.Tokens as tokens
use Rattle.parse_exprs.proofs.ExpressionLaws.{clash_expr, clash_post}
use Rattle.parse_stmts.proofs.PartLaws as part
use Rattle.parse_stmts.proofs.Regrouped as v
use Rattle.parse_cursor.proofs.TokenLaws as token

module _ (Tall : Heights) (limit d : ℕ) (fits : (h : ℕ) → Tall.tall h → d ≤ limit) (oe : Bool) (pe : Parser Token Expr) (pp pf : Parser Token Postfix) (le : ℕ → Lang Token Expr) (lp lf : ℕ → Lang Token Postfix)
    (E : Law kind_of Tall limit d false oe first_expr clash_expr [] pe (λ h. le h d))
    (O : Law kind_of Tall limit d false true first_post clash_post [] pp (λ h. lp h d)) (F : Law kind_of Tall limit d false true first_free clash_post [] pf (λ h. lf h d)) where
  term : Law kind_of Tall limit d false true first_free clash_expr [] (reading.term pe pf) (λ h. parts.term (le h) (lf h) d)
  term = part.term Tall limit d fits oe pe le E pf lf F

  semicolon : Law kind_of Tall limit d false true (code.SEMICOLON ∷ []) [] [] (token_reading.word code.SEMICOLON) (λ h. tokens.word code.SEMICOLON d)
  semicolon = token.word d fits code.SEMICOLON refl

  pub stepped : (x : Step) → Law kind_of Tall limit d false true (code.SEMICOLON ∷ []) [] [] (r.stepped pe pp pf x) (λ h. g.stepped (le h) (lp h) (lf h) x d)
  unfolding r.stepped g.stepped
  stepped x = bind _ _ d semicolon (λ t. leaf.pure _ d) refl refl

  pub called : (x : Postfix) → Law kind_of Tall limit d false true (code.SEMICOLON ∷ []) [] [] (r.called pe pp pf x) (λ h. g.called (le h) (lp h) (lf h) x d)
  unfolding r.called g.called
  called x = bind _ _ d semicolon (λ t. leaf.pure _ d) refl refl

  drive_sign : Law kind_of Tall limit d false true drive_signs [] [] (r.drive_sign pe pp pf) (λ h. g.drive_sign (le h) (lp h) (lf h) d)
  unfolding r.drive_sign g.drive_sign
  drive_sign = token.sign d fits (code.EQUALS, Assign) ((code.LESS_EQUAL, Arrow) ∷ []) refl refl

  driven_value : Law kind_of Tall limit d false true drive_signs [] [] (r.driven_value pe pp pf) (λ h. g.driven_value (le h) (lp h) (lf h) d)
  unfolding r.driven_value g.driven_value
  driven_value = bind _ _ d drive_sign (λ o. bind _ _ d E (λ y. bind _ _ d semicolon (λ t. leaf.pure _ d) refl refl) refl refl) refl refl

  driven_at : (k : ℕ × WindowKind) (first : Delay) (x : Postfix) → Law kind_of Tall limit d false true drive_signs [] [] (r.driven_at pe pp pf k first x) (λ h. g.driven_at (le h) (lp h) (lf h) k first x d)
  unfolding r.driven_at g.driven_at
  driven_at k first x = bind _ _ d driven_value (λ y. leaf.pure _ d) refl refl

  arrow_value : Law kind_of Tall limit d false true (code.LESS_EQUAL ∷ []) [] [] (r.arrow_value pe pp pf) (λ h. g.arrow_value (le h) (lp h) (lf h) d)
  unfolding r.arrow_value g.arrow_value
  arrow_value = bind _ _ d (token.word d fits code.LESS_EQUAL refl) (λ t. bind _ _ d E (λ y. bind _ _ d semicolon (λ t. leaf.pure _ d) refl refl) refl refl) refl refl

  pub driven : (x : Postfix) → Law kind_of Tall limit d false true (code.LESS_EQUAL ∷ []) [] [] (r.driven pe pp pf x) (λ h. g.driven (le h) (lp h) (lf h) x d)
  unfolding r.driven g.driven
  driven x = bind _ _ d arrow_value (λ y. leaf.pure _ d) refl refl

  next_term : Law kind_of Tall limit d false true (code.COMMA ∷ []) clash_expr [] (r.next_term pe pp pf) (λ h. g.next_term (le h) (lp h) (lf h) d)
  unfolding r.next_term g.next_term
  next_term = bind _ _ d (token.word d fits code.COMMA refl) (λ t. term) refl refl

  expect_end : Law kind_of Tall limit d false true (code.SOFT ∷ code.SEMICOLON ∷ []) [] [] (r.expect_end pe pp pf) (λ h. g.expect_end (le h) (lp h) (lf h) d)
  unfolding r.expect_end g.expect_end
  expect_end =
      bind _ _ d (choose (code.SOFT ∷ []) _ _ d (bind _ _ d (token.word d fits code.SOFT refl) (λ t. leaf.pure _ d) refl refl) (leaf.pure _ d) refl refl refl)
      (λ after. bind _ _ d semicolon (λ t. leaf.pure _ d) refl refl) refl refl

  expect_tail : Law kind_of Tall limit d false true (code.COMMA ∷ code.SOFT ∷ code.SEMICOLON ∷ []) [] [] (r.expect_tail pe pp pf) (λ h. g.expect_tail (le h) (lp h) (lf h) d)
  unfolding r.expect_tail g.expect_tail
  expect_tail = bind _ _ d (many (code.COMMA ∷ []) _ d next_term refl refl refl refl) (λ more. bind _ _ d expect_end (λ after. leaf.pure _ d) refl refl) refl refl

  pub expect_rest : (w : Option Window) (b : Option ℕ) (m : Term) → Law kind_of Tall limit d false true (code.COMMA ∷ code.SOFT ∷ code.SEMICOLON ∷ []) [] [] (r.expect_rest pe pp pf w b m) (λ h. g.expect_rest (le h) (lp h) (lf h) w b m d)
  unfolding r.expect_rest g.expect_rest
  expect_rest w b m = bind _ _ d expect_tail (λ tail. leaf.pure _ d) refl refl

  -- `soft`, a term behind it and the rest
  soft_parts : (w : Option Window) → Law kind_of Tall limit d false true (code.SOFT ∷ []) [] [] (r.soft_term pe pp pf w)
      (λ h. sequence (tokens.word code.SOFT) (λ b. sequence (sequence (lf h) (parts.compared (le h))) (g.expect_rest (le h) (lp h) (lf h) w (Some b))) d)
  unfolding r.soft_term parts.term
  soft_parts w = bind _ _ d (token.word d fits code.SOFT refl) (λ b. bind _ _ d term (expect_rest w (Some b)) refl refl) refl refl

  pub soft_term : (w : Option Window) → Law kind_of Tall limit d false true (code.SOFT ∷ []) [] [] (r.soft_term pe pp pf w) (λ h. v.soft_term (le h) (lp h) (lf h) w d)
  unfolding shared.soft_term
  soft_term (Some w) = restate (λ h. inside _ _ _ (λ b. assoc_to (lf h) _ _) d) (λ h. inside _ _ _ (λ b. assoc_back (lf h) _ _) d) (soft_parts (Some w))
  soft_term None = restate (λ h. inside _ _ _ (λ b. assoc_to (lf h) _ _) d) (λ h. inside _ _ _ (λ b. assoc_back (lf h) _ _) d) (soft_parts None)

  -- a term after a window, and the rest
  plain_term : (w : Window) → Law kind_of Tall limit d false true first_free [] [] (λ ts. and_then (reading.term pe pf ts) (r.expect_rest pe pp pf (Some w) None))
      (λ h. v.plain_term (le h) (lp h) (lf h) (Some w) d)
  unfolding shared.plain_term parts.term
  plain_term w = restate (λ h. assoc_to (lf h) _ _ d) (λ h. assoc_back (lf h) _ _ d) (bind _ _ d term (expect_rest (Some w) None) refl refl)

  pub any_term : (w : Window) → Law kind_of Tall limit d false true (code.SOFT ∷ first_free) [] [] (r.any_term pe pp pf w) (λ h. v.any_term (le h) (lp h) (lf h) w d)
  unfolding r.any_term shared.any_term
  any_term w = choose (code.SOFT ∷ []) _ _ d (soft_term (Some w)) (plain_term w) refl refl refl

  begun_by_post : (x : Postfix) → Law kind_of Tall limit d false true (first_change ++ code.SEMICOLON ∷ code.LESS_EQUAL ∷ code.EQUAL ∷ code.NOT_EQUAL ∷ []) [] [] (r.begun_by_post pe pp pf x) (λ h. v.begun_by_post (le h) (lp h) (lf h) x d)
  unfolding r.begun_by_post shared.begun_by_post
  begun_by_post x =
      choose first_change _ _ d (bind _ _ d (part.changed Tall limit d fits oe pe le E x) stepped refl refl)
      (choose (code.SEMICOLON ∷ []) _ _ d (called x) (choose (code.LESS_EQUAL ∷ []) _ _ d (driven x)
      (bind _ _ d (part.compared Tall limit d fits oe pe le E x) (expect_rest None None) refl refl)
      refl refl refl) refl refl refl) refl refl refl

  timed_signal : (k : ℕ × WindowKind) (first : Delay) (x : Postfix) → Law kind_of Tall limit d false true (drive_signs ++ code.EQUAL ∷ code.NOT_EQUAL ∷ []) [] [] (r.timed_signal pe pp pf k first x)
      (λ h. choice (g.driven_at (le h) (lp h) (lf h) k first x) (sequence (parts.compared (le h) x) (g.expect_rest (le h) (lp h) (lf h) (Some (parts.window_of k first None)) None)) d)
  unfolding r.timed_signal
  timed_signal k first x =
      choose drive_signs _ _ d (driven_at k first x) (bind _ _ d (part.compared Tall limit d fits oe pe le E x) (expect_rest (Some (parts.window_of k first None)) None) refl refl) refl refl refl

  second_delay : Law kind_of Tall limit d false true (code.COMMA ∷ []) [] [] (reading.second_delay pe) (λ h. parts.second_delay (le h) d)
  second_delay = part.second_delay Tall limit d fits oe pe le E

  second_term : (k : ℕ × WindowKind) (first : Delay) → Law kind_of Tall limit d false true (code.COMMA ∷ []) [] [] (r.second_term pe pp pf k first)
      (λ h. sequence (parts.second_delay (le h)) (λ second. v.any_term (le h) (lp h) (lf h) (parts.window_of k first (Some second))) d)
  unfolding r.second_term
  second_term k first = bind _ _ d second_delay (λ second. any_term (parts.window_of k first (Some second))) refl refl

  timed : (k : ℕ × WindowKind) (first : Delay) → Law kind_of Tall limit d false true (first_free ++ code.SOFT ∷ code.COMMA ∷ []) [] [] (r.timed pe pp pf k first) (λ h. v.timed (le h) (lp h) (lf h) k first d)
  unfolding r.timed shared.timed
  timed k first =
      choose first_free _ _ d (bind _ _ d F (timed_signal k first) refl refl)
      (choose (code.SOFT ∷ []) _ _ d (soft_term (Some (parts.window_of k first None)))
      (second_term k first)
      refl refl refl) refl refl refl

  edge_end : (k : ℕ × WindowKind) (line : ℕ) → Law kind_of Tall limit d false true (code.POSEDGE ∷ []) [] [] (r.edge_end pe pp pf k.0) (λ h. v.edge_tail k line d)
  unfolding r.edge_end
  edge_end k line = bind _ _ d (part.edge_rest Tall limit d fits k.0) (λ e. bind _ _ d semicolon (λ t. leaf.pure _ d) refl refl) refl refl

  parenthesized : (k : ℕ × WindowKind) (line : ℕ) → Law kind_of Tall limit d false oe (code.POSEDGE ∷ first_expr) [] [] (r.parenthesized pe pp pf k line)
      (λ h. choice (v.edge_tail k line) (sequence (parts.delay_rest (le h) line) (v.timed (le h) (lp h) (lf h) k)) d)
  unfolding r.parenthesized
  parenthesized k line = choose (code.POSEDGE ∷ []) _ _ d (edge_end k line) (bind _ _ d (part.delay_rest Tall limit d fits oe pe le E line) (timed k) refl refl) refl refl refl

  begun_by_at : (k : ℕ × WindowKind) → Law kind_of Tall limit d false true (first_plain_delay ++ code.LEFT_PARENTHESIS ∷ []) [] [] (r.begun_by_at pe pp pf k) (λ h. v.begun_by_at (le h) (lp h) (lf h) k d)
  unfolding r.begun_by_at shared.begun_by_at
  begun_by_at k =
      choose first_plain_delay _ _ d (bind _ _ d (part.plain_delay Tall limit d fits) (timed k) refl refl)
      (bind _ _ d (token.word d fits code.LEFT_PARENTHESIS refl) (parenthesized k) refl refl) refl refl refl

  windowed : (k : ℕ × WindowKind) (first : Delay) → Law kind_of Tall limit d false true (code.COMMA ∷ code.SOFT ∷ first_free) [] [] (r.windowed pe pp pf k first) (λ h. v.windowed (le h) (lp h) (lf h) k first d)
  unfolding r.windowed shared.windowed
  windowed k first = restate (λ h. swap _ _ d) (λ h. swap _ _ d) (
      choose (code.COMMA ∷ []) _ _ d (second_term k first) (any_term (parts.window_of k first None)) refl refl refl)

  begun_by_others : (k : ℕ × WindowKind) → Law kind_of Tall limit d false true (first_plain_delay ++ code.LEFT_PARENTHESIS ∷ []) [] [] (r.begun_by_other_at pe pp pf k) (λ h. v.begun_by_others (le h) (lp h) (lf h) k d)
  unfolding r.begun_by_other_at shared.begun_by_others parts.delay shared.delay
  begun_by_others k = bind _ _ d (part.delay Tall limit d fits oe pe le E) (windowed k) refl refl

  -- what begins with no postfix expression
  not_post : Law kind_of Tall limit d false true (code.SOFT ∷ code.AT ∷ code.AT_AT ∷ code.AT_AT_AT ∷ []) [] []
      (either (code.SOFT ∷ []) (r.soft_term pe pp pf None) (either (code.AT ∷ []) (λ ts. and_then (reading.at ts) (r.begun_by_at pe pp pf)) (λ ts. and_then (reading.other_at ts) (r.begun_by_other_at pe pp pf))))
      (λ h. choice (v.soft_term (le h) (lp h) (lf h) None) (choice (sequence parts.at (v.begun_by_at (le h) (lp h) (lf h))) (sequence parts.other_at (v.begun_by_others (le h) (lp h) (lf h)))) d)
  not_post =
      choose (code.SOFT ∷ []) _ _ d (soft_term None)
      (choose (code.AT ∷ []) _ _ d (bind _ _ d (part.at Tall limit d fits) begun_by_at refl refl)
      (bind _ _ d (part.other_at Tall limit d fits) begun_by_others refl refl)
      refl refl refl) refl refl refl

  as_read : Law kind_of Tall limit d false true first_simple [] [] (r.simple_stmt pe pp pf) (λ h. v.as_read (le h) (lp h) (lf h) d)
  unfolding r.simple_stmt shared.as_read
  as_read = choose first_post _ _ d (bind _ _ d O begun_by_post refl refl) not_post refl refl refl

  pub simple_stmt : Law kind_of Tall limit d false true first_simple [] [] (r.simple_stmt pe pp pf) (λ h. v.simple (le h) (lp h) (lf h) d)
  simple_stmt = restate (λ h. v.from_read (le h) (lp h) (lf h) d) (λ h. v.to_read (le h) (lp h) (lf h) d) as_read

  -- ---- a name at the start

  next_read : (h : ℕ) → Next kind_of code.NAME true first_suffix (lp h d) → Next kind_of code.NAME false after_name (v.as_read (le h) (lp h) (lf h) d)
  unfolding shared.as_read
  next_read h next = next_grow kind_of code.NAME false (((first_change ++ code.SEMICOLON ∷ code.LESS_EQUAL ∷ code.EQUAL ∷ code.NOT_EQUAL ∷ []) ++ first_suffix) ++ []) after_name _ refl (
      next_choice kind_of code.NAME false false _ [] _ _ d
      (next_bind kind_of code.NAME d true false first_suffix first_post [] (first_change ++ code.SEMICOLON ∷ code.LESS_EQUAL ∷ code.EQUAL ∷ code.NOT_EQUAL ∷ []) [] _ _ d (O.shape h) (λ x. (begun_by_post x).shape h) next)
      (next_none kind_of code.NAME d false (code.SOFT ∷ code.AT ∷ code.AT_AT ∷ code.AT_AT_AT ∷ []) [] _ (not_post.shape h) refl))

  pub next_simple : (h : ℕ) → Next kind_of code.NAME true first_suffix (lp h d) → Next kind_of code.NAME false after_name (v.simple (le h) (lp h) (lf h) d)
  next_simple h next = next_as kind_of code.NAME false after_name (v.as_read (le h) (lp h) (lf h) d) _ (v.to_read (le h) (lp h) (lf h) d) (next_read h next)

  opens_read : (h : ℕ) → Tall.some h → Alone kind_of code.NAME (λ k. Unit {0}) (lp h d) → OpensWith kind_of code.NAME first_suffix (λ k. Unit {0}) (lp h d) → OpensWith kind_of code.NAME after_name (λ k. Unit {0}) (v.as_read (le h) (lp h) (lf h) d)
  unfolding shared.as_read
  opens_read h some alone opens =
      choice_opens_left kind_of code.NAME after_name _ _ _ d (opens_both kind_of code.NAME first_suffix (first_change ++ code.SEMICOLON ∷ code.LESS_EQUAL ∷ code.EQUAL ∷ code.NOT_EQUAL ∷ []) _ _
      (bind_opens_with kind_of code.NAME d false false first_post [] (first_change ++ code.SEMICOLON ∷ code.LESS_EQUAL ∷ code.EQUAL ∷ code.NOT_EQUAL ∷ []) [] first_suffix _ _ _ d (O.shape h) (λ x. (begun_by_post x).shape h) (λ x. (begun_by_post x).least h some) refl opens)
      (bind_opens_next kind_of code.NAME d false first_post [] (first_change ++ code.SEMICOLON ∷ code.LESS_EQUAL ∷ code.EQUAL ∷ code.NOT_EQUAL ∷ []) _ _ _ d (O.shape h) alone (λ x. (begun_by_post x).opens h some refl) refl))

  pub opens_simple : (h : ℕ) → Tall.some h → Alone kind_of code.NAME (λ k. Unit {0}) (lp h d) → OpensWith kind_of code.NAME first_suffix (λ k. Unit {0}) (lp h d) → OpensWith kind_of code.NAME after_name (λ k. Unit {0}) (v.simple (le h) (lp h) (lf h) d)
  opens_simple h some alone opens = opens_as kind_of code.NAME after_name _ (v.as_read (le h) (lp h) (lf h) d) _ (v.from_read (le h) (lp h) (lf h) d) (opens_read h some alone opens)
