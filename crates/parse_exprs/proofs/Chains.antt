-- Operands of one level, as they are put together.
use Rattle.std.proofs.Common.{◌≡◌, ℕ, List, [], ◌∷◌, refl}
use Rattle.vera_ast.specs.declared.tree.expressions.Expr.{Expr}
use Rattle.vera_ast.specs.declared.tree.expressions.Expr.TheViews as expr
use Rattle.vera_ast.specs.declared.tree.expressions.Link.{Link}
use Rattle.vera_ast.specs.Lines.{line_of}
use Rattle.parse_exprs.specs.Operators.{chained}

pub chained_nil : (x : Expr) (ls : List Link) → ls ≡ [] → x ≡ chained x ls
unfolding chained
chained_nil x [] h = refl
chained_nil x (l ∷ ls) h = absurd cc

pub chained_some : (x y : Expr) (ls : List Link) (line : ℕ) → (ls ≡ [] → ⊥) → line ≡ line_of x → y ≡ x → expr.Chain line y ls ≡ chained x ls
unfolding chained
chained_some x y [] line h e same = absurd (h refl)
chained_some x y (l ∷ ls) line h e same = rw (same, e) refl
