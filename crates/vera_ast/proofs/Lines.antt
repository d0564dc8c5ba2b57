-- The line of a node, as the code reads it.
use Rattle.std.proofs.Common.{◌≡◌, refl, ℕ, List}
use Rattle.vera_ast.specs.Lines.{line_of, stmt_line}
use Rattle.vera_ast.proofs.ExprViews.{conditional-is, chain-is, unary-is, postfix-is}
use Rattle.vera_ast.proofs.StmtViews.{block-is, if-is, while-is, repeat-is, for-is, case-is, fork-is}
use Rattle.vera_ast.specs.declared.tree.expressions.Expr.{Expr}
use Rattle.vera_ast.specs.declared.tree.expressions.Expr.TheViews as expr
use Rattle.vera_ast.specs.declared.tree.expressions.Conditional.{Conditional}
use Rattle.vera_ast.specs.declared.tree.expressions.Link.{Link}
use Rattle.vera_ast.specs.declared.tree.expressions.Postfix.{Postfix}
use Rattle.vera_ast.specs.declared.tree.expressions.Unary.{Unary}
use Rattle.vera_ast.specs.declared.tree.statements.Stmt.TheViews as stmt
use Rattle.vera_ast.specs.declared.tree.statements.Arm.{Arm}
use Rattle.vera_ast.specs.declared.tree.statements.Block.{Block}
use Rattle.vera_ast.specs.declared.tree.statements.For.{For}
use Rattle.vera_ast.specs.declared.tree.statements.Fork.{Fork}
use Rattle.vera_ast.specs.declared.tree.statements.If.{If}
use Rattle.vera_ast.specs.declared.tree.statements.Repeat.{Repeat}
use Rattle.vera_ast.specs.declared.tree.statements.While.{While}

pub conditional_line : (c : Conditional) → line_of (expr.Conditional c) ≡ c.line
conditional_line c = conditional-is (λ e. line_of e ≡ c.line) c (λ p q r. refl)

pub chain_line : (line : ℕ) (first : Expr) (ls : List Link) → line_of (expr.Chain line first ls) ≡ line
chain_line line first ls = chain-is (λ e. line_of e ≡ line) line first ls (λ p. refl)

pub unary_line : (u : Unary) → line_of (expr.Unary u) ≡ u.line
unary_line u = unary-is (λ e. line_of e ≡ u.line) u (λ p. refl)

pub postfix_line : (x : Postfix) → line_of (expr.Postfix x) ≡ x.line
postfix_line x = postfix-is (λ e. line_of e ≡ x.line) x refl

pub block_line : (b : Block) → stmt_line (stmt.Block b) ≡ b.line
block_line b = block-is (λ s. stmt_line s ≡ b.line) b refl

pub if_line : (x : If) → stmt_line (stmt.If x) ≡ x.line
if_line x = if-is (λ s. stmt_line s ≡ x.line) x (λ p. refl)

pub while_line : (w : While) → stmt_line (stmt.While w) ≡ w.line
while_line w = while-is (λ s. stmt_line s ≡ w.line) w (λ p. refl)

pub repeat_line : (r : Repeat) → stmt_line (stmt.Repeat r) ≡ r.line
repeat_line r = repeat-is (λ s. stmt_line s ≡ r.line) r (λ p. refl)

pub for_line : (f : For) → stmt_line (stmt.For f) ≡ f.line
for_line f = for-is (λ s. stmt_line s ≡ f.line) f (λ p. refl)

pub case_line : (line : ℕ) (value : Expr) (arms : List Arm) → stmt_line (stmt.Case line value arms) ≡ line
case_line line value arms = case-is (λ s. stmt_line s ≡ line) line value arms refl

pub fork_line : (f : Fork) → stmt_line (stmt.Fork f) ≡ f.line
fork_line f = fork-is (λ s. stmt_line s ≡ f.line) f refl
