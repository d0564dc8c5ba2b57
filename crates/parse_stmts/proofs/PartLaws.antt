-- The laws of what statements are made of.
use Rattle.std.proofs.Common.{ℕ, ◌≤◌, Bool, true, false, [], ◌∷◌, refl}
use Rattle.grammar_laws.specs.Languages.{Lang}
use Rattle.grammar_laws.specs.Readers.{Parser}
use Rattle.grammar_laws.proofs.Law.{Heights, Law}
use Rattle.grammar_laws.proofs.Leaf as leaf
use Rattle.grammar_laws.proofs.Bind.{bind}
use Rattle.grammar_laws.proofs.Choice.{choose}
use Rattle.grammar_laws.proofs.Settle.{grow}
use Rattle.vera_ast.specs.declared.codes.TheConstants as code
use Rattle.vera_ast.specs.declared.token.Token.{Token}
use Rattle.vera_ast.specs.declared.tree.expressions.Expr.{Expr}
use Rattle.vera_ast.specs.declared.tree.expressions.Postfix.{Postfix}
use Rattle.vera_ast.specs.declared.tree.statements.TermOperator.TheVariants.{Equal, NotEqual}
use Rattle.vera_ast.specs.declared.tree.statements.WindowKind.TheVariants.{Simple, Full, Restricted}
use Rattle.parse_stmts.specs.Parts as g
use Rattle.parse_stmts.specs.PartReading as r
use Rattle.parse_exprs.specs.Sets.{first_expr, first_free}
use Rattle.parse_stmts.specs.StatementSets.{first_change, first_plain_delay}
use Rattle.parse_cursor.specs.Tokens.{kind_of}
use Rattle.parse_exprs.proofs.ExpressionLaws.{clash_expr, clash_post}
use Rattle.parse_cursor.proofs.TokenLaws as token

module _ (Tall : Heights) (limit d : ℕ) (fits : (h : ℕ) → Tall.tall h → d ≤ limit) where
  pub at : Law kind_of Tall limit d false true (code.AT ∷ []) [] [] r.at (λ h. g.at d)
  unfolding r.at g.at
  at = token.sign d fits (code.AT, Simple) [] refl refl

  pub other_at : Law kind_of Tall limit d false true (code.AT_AT ∷ code.AT_AT_AT ∷ []) [] [] r.other_at (λ h. g.other_at d)
  unfolding r.other_at g.other_at
  other_at = token.sign d fits (code.AT_AT, Full) ((code.AT_AT_AT, Restricted) ∷ []) refl refl

  edge_clock : Law kind_of Tall limit d false true (code.CLOCK ∷ code.NAME ∷ []) [] [] r.edge_clock (λ h. g.edge_clock d)
  unfolding r.edge_clock g.edge_clock
  edge_clock =
      choose (code.CLOCK ∷ []) _ _ d
      (bind _ _ d (token.word d fits code.CLOCK refl) (λ t. leaf.pure _ d) refl refl)
      (bind _ _ d (token.name d fits) (λ n. bind _ _ d (token.word d fits code.DOT refl) (λ t. bind _ _ d (token.name d fits) (λ s. leaf.pure _ d) refl refl) refl refl) refl refl)
      refl refl refl

  pub edge_rest : (line : ℕ) → Law kind_of Tall limit d false true (code.POSEDGE ∷ []) [] [] (r.edge_rest line) (λ h. g.edge_rest line d)
  unfolding r.edge_rest g.edge_rest
  edge_rest line =
      bind _ _ d (token.word d fits code.POSEDGE refl) (λ t. bind _ _ d edge_clock (λ c. bind _ _ d (token.word d fits code.RIGHT_PARENTHESIS refl) (λ u. leaf.pure _ d) refl refl) refl refl) refl refl

  pub edge : Law kind_of Tall limit d false true (code.AT ∷ []) [] [] r.edge (λ h. g.edge d)
  unfolding r.edge g.edge
  edge = bind _ _ d at (λ k. bind _ _ d (token.word d fits code.LEFT_PARENTHESIS refl) (λ t. edge_rest k.0) refl refl) refl refl

  pub plain_delay : Law kind_of Tall limit d false true first_plain_delay [] [] r.plain_delay (λ h. g.plain_delay d)
  unfolding r.plain_delay g.plain_delay
  plain_delay =
      choose (code.NUMBER ∷ []) _ _ d
      (bind _ _ d (token.number d fits) (λ n. leaf.pure _ d) refl refl)
      (bind _ _ d (token.name d fits) (λ n. leaf.pure _ d) refl refl)
      refl refl refl

module _ (Tall : Heights) (limit d : ℕ) (fits : (h : ℕ) → Tall.tall h → d ≤ limit) (oe : Bool) (pe : Parser Token Expr) (le : ℕ → Lang Token Expr)
    (E : Law kind_of Tall limit d false oe first_expr clash_expr [] pe (λ h. le h d)) where
  pub delay_rest : (line : ℕ) → Law kind_of Tall limit d false oe first_expr [] [] (r.delay_rest pe line) (λ h. g.delay_rest (le h) line d)
  unfolding r.delay_rest g.delay_rest
  delay_rest line = bind _ _ d E (λ x. bind _ _ d (token.word d fits code.RIGHT_PARENTHESIS refl) (λ t. leaf.pure _ d) refl refl) refl refl

  pub delay : Law kind_of Tall limit d false true (code.NUMBER ∷ code.NAME ∷ code.LEFT_PARENTHESIS ∷ []) [] [] (r.delay pe) (λ h. g.delay (le h) d)
  unfolding r.delay g.delay
  delay = choose first_plain_delay _ _ d (plain_delay Tall limit d fits) (bind _ _ d (token.word d fits code.LEFT_PARENTHESIS refl) delay_rest refl refl) refl refl refl

  pub second_delay : Law kind_of Tall limit d false true (code.COMMA ∷ []) [] [] (r.second_delay pe) (λ h. g.second_delay (le h) d)
  unfolding r.second_delay g.second_delay
  second_delay = bind _ _ d (token.word d fits code.COMMA refl) (λ t. delay) refl refl

  change : Law kind_of Tall limit d false true first_change clash_expr [] (r.change pe) (λ h. g.change (le h) d)
  unfolding r.change r.assigned r.added r.subtracted r.counted g.change
  change = grow clash_expr [] refl refl (
      choose (code.EQUALS ∷ []) _ _ d (bind _ _ d (token.word d fits code.EQUALS refl) (λ t. bind _ _ d E (λ y. leaf.pure _ d) refl refl) refl refl)
      (choose (code.PLUS_EQUALS ∷ []) _ _ d (bind _ _ d (token.word d fits code.PLUS_EQUALS refl) (λ t. bind _ _ d E (λ y. leaf.pure _ d) refl refl) refl refl)
      (choose (code.MINUS_EQUALS ∷ []) _ _ d (bind _ _ d (token.word d fits code.MINUS_EQUALS refl) (λ t. bind _ _ d E (λ y. leaf.pure _ d) refl refl) refl refl)
      (choose (code.PLUS_PLUS ∷ []) _ _ d (bind _ _ d (token.word d fits code.PLUS_PLUS refl) (λ t. leaf.pure _ d) refl refl)
      (bind _ _ d (token.word d fits code.MINUS_MINUS refl) (λ t. leaf.pure _ d) refl refl)
      refl refl refl) refl refl refl) refl refl refl) refl refl refl)

  pub changed : (x : Postfix) → Law kind_of Tall limit d false true first_change clash_expr [] (r.changed pe x) (λ h. g.changed (le h) x d)
  unfolding r.changed g.changed
  changed x = bind _ _ d change (λ c. leaf.pure _ d) refl refl

  pub compared : (x : Postfix) → Law kind_of Tall limit d false true (code.EQUAL ∷ code.NOT_EQUAL ∷ []) clash_expr [] (r.compared pe x) (λ h. g.compared (le h) x d)
  unfolding r.compared g.compared
  compared x = bind _ _ d (token.sign d fits (code.EQUAL, Equal) ((code.NOT_EQUAL, NotEqual) ∷ []) refl refl) (λ o. bind _ _ d E (λ y. leaf.pure _ d) refl refl) refl refl

  -- elsewhere than at the start of a statement
  module _ (pf : Parser Token Postfix) (lf : ℕ → Lang Token Postfix) (F : Law kind_of Tall limit d false true first_free clash_post [] pf (λ h. lf h d)) where
    pub step : Law kind_of Tall limit d false true first_free clash_expr [] (r.step pe pf) (λ h. g.step (le h) (lf h) d)
    unfolding r.step g.step
    step = bind _ _ d F changed refl refl

    pub term : Law kind_of Tall limit d false true first_free clash_expr [] (r.term pe pf) (λ h. g.term (le h) (lf h) d)
    unfolding r.term g.term
    term = bind _ _ d F compared refl refl
