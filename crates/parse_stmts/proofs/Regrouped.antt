-- The statements that may begin with a postfix expression, with an `@` or with `soft`, in the form in which they are read.
use Rattle.std.proofs.Common.{ℕ, Option, Some, None}
use Rattle.grammar_laws.specs.Languages.{Lang, sequence, pure}
use Rattle.grammar_laws.specs.Shared as shared
use Rattle.grammar_laws.proofs.Shared as sharing
use Rattle.grammar_laws.proofs.Regroup.{Into, assoc_to, assoc_back, inside, beside, then_into, same_into}
use Rattle.vera_ast.specs.declared.codes.TheConstants as code
use Rattle.vera_ast.specs.declared.token.Token.{Token}
use Rattle.vera_ast.specs.declared.tree.expressions.Expr.{Expr}
use Rattle.vera_ast.specs.declared.tree.expressions.Postfix.{Postfix}
use Rattle.vera_ast.specs.declared.tree.statements.Delay.{Delay}
use Rattle.vera_ast.specs.declared.tree.statements.Edge.{Edge}
use Rattle.vera_ast.specs.declared.tree.statements.Step.{Step}
use Rattle.vera_ast.specs.declared.tree.statements.Stmt.{Stmt}
use Rattle.vera_ast.specs.declared.tree.statements.Stmt.TheVariants as s
use Rattle.vera_ast.specs.declared.tree.statements.Term.{Term}
use Rattle.vera_ast.specs.declared.tree.statements.Window.{Window}
use Rattle.vera_ast.specs.declared.tree.statements.WindowKind.{WindowKind}
use Rattle.parse_stmts.specs.Parts as p
use Rattle.parse_stmts.specs.Simple as g
use Rattle.parse_cursor.specs.Tokens.{word}

abbrev edge_done : Edge → Lang Token Stmt
edge_done e = sequence (word code.SEMICOLON) (λ _. pure (s.Edge e))

abbrev pub edge_tail : ℕ × WindowKind → ℕ → Lang Token Stmt
edge_tail k line = sequence (p.edge_rest k.0) edge_done

module _ (expr : Lang Token Expr) (post free : Lang Token Postfix) where
  abbrev pub post_of : Option Window → Option ℕ → Lang Token Postfix
  post_of = shared.post_of Token Postfix Step (ℕ × WindowKind) Delay Window Term ℕ Stmt post free (p.changed expr) (g.stepped expr post free) (g.called expr post free) (g.driven expr post free)
      (g.driven_at expr post free) p.at p.other_at (word code.LEFT_PARENTHESIS) edge_tail p.plain_delay (p.delay_rest expr) (p.second_delay expr) p.window_of (word code.SOFT) (p.compared expr) (g.expect_rest expr post free)

  abbrev pub published : Lang Token Stmt
  published = shared.published Token Postfix Step (ℕ × WindowKind) Delay Window Term ℕ Stmt post free (p.changed expr) (g.stepped expr post free) (g.called expr post free) (g.driven expr post free)
      (g.driven_at expr post free) p.at p.other_at (word code.LEFT_PARENTHESIS) edge_tail p.plain_delay (p.delay_rest expr) (p.second_delay expr) p.window_of (word code.SOFT) (p.compared expr) (g.expect_rest expr post free)

  abbrev pub begun_by_post : Postfix → Lang Token Stmt
  begun_by_post = shared.begun_by_post Token Postfix Step (ℕ × WindowKind) Delay Window Term ℕ Stmt post free (p.changed expr) (g.stepped expr post free) (g.called expr post free) (g.driven expr post free)
      (g.driven_at expr post free) p.at p.other_at (word code.LEFT_PARENTHESIS) edge_tail p.plain_delay (p.delay_rest expr) (p.second_delay expr) p.window_of (word code.SOFT) (p.compared expr) (g.expect_rest expr post free)

  abbrev pub soft_term : Option Window → Lang Token Stmt
  soft_term = shared.soft_term Token Postfix Step (ℕ × WindowKind) Delay Window Term ℕ Stmt post free (p.changed expr) (g.stepped expr post free) (g.called expr post free) (g.driven expr post free)
      (g.driven_at expr post free) p.at p.other_at (word code.LEFT_PARENTHESIS) edge_tail p.plain_delay (p.delay_rest expr) (p.second_delay expr) p.window_of (word code.SOFT) (p.compared expr) (g.expect_rest expr post free)

  abbrev pub plain_term : Option Window → Lang Token Stmt
  plain_term = shared.plain_term Token Postfix Step (ℕ × WindowKind) Delay Window Term ℕ Stmt post free (p.changed expr) (g.stepped expr post free) (g.called expr post free) (g.driven expr post free)
      (g.driven_at expr post free) p.at p.other_at (word code.LEFT_PARENTHESIS) edge_tail p.plain_delay (p.delay_rest expr) (p.second_delay expr) p.window_of (word code.SOFT) (p.compared expr) (g.expect_rest expr post free)

  abbrev pub any_term : Window → Lang Token Stmt
  any_term = shared.any_term Token Postfix Step (ℕ × WindowKind) Delay Window Term ℕ Stmt post free (p.changed expr) (g.stepped expr post free) (g.called expr post free) (g.driven expr post free)
      (g.driven_at expr post free) p.at p.other_at (word code.LEFT_PARENTHESIS) edge_tail p.plain_delay (p.delay_rest expr) (p.second_delay expr) p.window_of (word code.SOFT) (p.compared expr) (g.expect_rest expr post free)

  abbrev pub timed : ℕ × WindowKind → Delay → Lang Token Stmt
  timed = shared.timed Token Postfix Step (ℕ × WindowKind) Delay Window Term ℕ Stmt post free (p.changed expr) (g.stepped expr post free) (g.called expr post free) (g.driven expr post free)
      (g.driven_at expr post free) p.at p.other_at (word code.LEFT_PARENTHESIS) edge_tail p.plain_delay (p.delay_rest expr) (p.second_delay expr) p.window_of (word code.SOFT) (p.compared expr) (g.expect_rest expr post free)

  abbrev pub begun_by_at : ℕ × WindowKind → Lang Token Stmt
  begun_by_at = shared.begun_by_at Token Postfix Step (ℕ × WindowKind) Delay Window Term ℕ Stmt post free (p.changed expr) (g.stepped expr post free) (g.called expr post free) (g.driven expr post free)
      (g.driven_at expr post free) p.at p.other_at (word code.LEFT_PARENTHESIS) edge_tail p.plain_delay (p.delay_rest expr) (p.second_delay expr) p.window_of (word code.SOFT) (p.compared expr) (g.expect_rest expr post free)

  abbrev pub windowed : ℕ × WindowKind → Delay → Lang Token Stmt
  windowed = shared.windowed Token Postfix Step (ℕ × WindowKind) Delay Window Term ℕ Stmt post free (p.changed expr) (g.stepped expr post free) (g.called expr post free) (g.driven expr post free)
      (g.driven_at expr post free) p.at p.other_at (word code.LEFT_PARENTHESIS) edge_tail p.plain_delay (p.delay_rest expr) (p.second_delay expr) p.window_of (word code.SOFT) (p.compared expr) (g.expect_rest expr post free)

  abbrev pub begun_by_others : ℕ × WindowKind → Lang Token Stmt
  begun_by_others = shared.begun_by_others Token Postfix Step (ℕ × WindowKind) Delay Window Term ℕ Stmt post free (p.changed expr) (g.stepped expr post free) (g.called expr post free) (g.driven expr post free)
      (g.driven_at expr post free) p.at p.other_at (word code.LEFT_PARENTHESIS) edge_tail p.plain_delay (p.delay_rest expr) (p.second_delay expr) p.window_of (word code.SOFT) (p.compared expr) (g.expect_rest expr post free)

  abbrev pub as_read : Lang Token Stmt
  as_read = shared.as_read Token Postfix Step (ℕ × WindowKind) Delay Window Term ℕ Stmt post free (p.changed expr) (g.stepped expr post free) (g.called expr post free) (g.driven expr post free)
      (g.driven_at expr post free) p.at p.other_at (word code.LEFT_PARENTHESIS) edge_tail p.plain_delay (p.delay_rest expr) (p.second_delay expr) p.window_of (word code.SOFT) (p.compared expr) (g.expect_rest expr post free)

  -- as the grammar lists them
  abbrev pub simple : Lang Token Stmt
  simple = g.simple_stmt expr post free

  edge_to : Into (g.edge_stmt expr post free) (sequence p.at (λ k. sequence (word code.LEFT_PARENTHESIS) (edge_tail k)))
  unfolding g.edge_stmt p.edge
  edge_to = then_into _ _ _ (assoc_to p.at _ edge_done) (inside p.at _ _ (λ k. assoc_to (word code.LEFT_PARENTHESIS) _ edge_done))

  edge_back : Into (sequence p.at (λ k. sequence (word code.LEFT_PARENTHESIS) (edge_tail k))) (g.edge_stmt expr post free)
  unfolding g.edge_stmt p.edge
  edge_back = then_into _ _ _ (inside p.at _ _ (λ k. assoc_back (word code.LEFT_PARENTHESIS) _ edge_done)) (assoc_back p.at _ edge_done)

  first_to : (w : Option Window) (b : Option ℕ) (f : Term → Lang Token Stmt) → Into (sequence (p.term expr (g.first_of expr post free w b)) f) (sequence (sequence (post_of w b) (p.compared expr)) f)
  unfolding p.term
  first_to (Some w) b f = same_into _
  first_to None (Some line) f = same_into _
  first_to None None f = same_into _

  first_back : (w : Option Window) (b : Option ℕ) (f : Term → Lang Token Stmt) → Into (sequence (sequence (post_of w b) (p.compared expr)) f) (sequence (p.term expr (g.first_of expr post free w b)) f)
  unfolding p.term
  first_back (Some w) b f = same_into _
  first_back None (Some line) f = same_into _
  first_back None None f = same_into _

  to_published : Into simple published
  unfolding shared.published shared.step_stmt shared.step shared.call_stmt shared.edge_stmt shared.drive_stmt shared.delay shared.expect_stmt shared.window shared.term g.simple_stmt g.step_stmt g.call_stmt g.drive_stmt g.expect_stmt p.step p.delay p.window
  to_published =
      beside _ _ _ _ (same_into _) (beside _ _ _ _ (same_into _) (beside _ _ _ _ edge_to (beside _ _ _ _ (same_into _)
      (inside _ _ _ (λ w. inside _ _ _ (λ b. first_to w b (g.expect_rest expr post free w b)))))))

  from_published : Into published simple
  unfolding shared.published shared.step_stmt shared.step shared.call_stmt shared.edge_stmt shared.drive_stmt shared.delay shared.expect_stmt shared.window shared.term g.simple_stmt g.step_stmt g.call_stmt g.drive_stmt g.expect_stmt p.step p.delay p.window
  from_published =
      beside _ _ _ _ (same_into _) (beside _ _ _ _ (same_into _) (beside _ _ _ _ edge_back (beside _ _ _ _ (same_into _)
      (inside _ _ _ (λ w. inside _ _ _ (λ b. first_back w b (g.expect_rest expr post free w b)))))))

  pub to_read : Into simple as_read
  to_read = then_into _ _ _ to_published (sharing.to_read Token Postfix Step (ℕ × WindowKind) Delay Window Term ℕ Stmt post free (p.changed expr) (g.stepped expr post free) (g.called expr post free) (g.driven expr post free)
      (g.driven_at expr post free) p.at p.other_at (word code.LEFT_PARENTHESIS) edge_tail p.plain_delay (p.delay_rest expr) (p.second_delay expr) p.window_of (word code.SOFT) (p.compared expr) (g.expect_rest expr post free))

  pub from_read : Into as_read simple
  from_read = then_into _ _ _ (sharing.from_read Token Postfix Step (ℕ × WindowKind) Delay Window Term ℕ Stmt post free (p.changed expr) (g.stepped expr post free) (g.called expr post free) (g.driven expr post free)
      (g.driven_at expr post free) p.at p.other_at (word code.LEFT_PARENTHESIS) edge_tail p.plain_delay (p.delay_rest expr) (p.second_delay expr) p.window_of (word code.SOFT) (p.compared expr) (g.expect_rest expr post free)) from_published
