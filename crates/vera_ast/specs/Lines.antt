-- The line of a node's first token.
use Rattle.std.specs.Prelude.{ℕ}
use Rattle.vera_ast.specs.declared.tree.expressions.Expr.{Expr}
use Rattle.vera_ast.specs.declared.tree.expressions.Expr.TheVariants.{Chain', Conditional', Unary', Postfix'}
use Rattle.vera_ast.specs.declared.tree.statements.Stmt.{Stmt}
use Rattle.vera_ast.specs.declared.tree.statements.Stmt.TheVariants.{Block', Empty, Step, Void, Call, Edge, If', While', Repeat', For', Case', Break, Continue, Return, Terminate, Fork', Drive, Expect}

abbrev pub line_of : Expr → ℕ
line_of (Conditional' line p condition q when_true r when_false) = line
line_of (Chain' line p first q links) = line
line_of (Unary' line operator p operand) = line
line_of (Postfix' line primary_line form p suffixes) = line

abbrev pub stmt_line : Stmt → ℕ
stmt_line (Block' line decls p stmts) = line
stmt_line (Empty line) = line
stmt_line (Step s) = s.line
stmt_line (Void v) = v.line
stmt_line (Call x) = x.line
stmt_line (Edge e) = e.line
stmt_line (If' line condition p when_true when_false) = line
stmt_line (While' line condition p body) = line
stmt_line (Repeat' line count p body) = line
stmt_line (For' line start condition step p body) = line
stmt_line (Case' line value p arms) = line
stmt_line (Break line) = line
stmt_line (Continue line) = line
stmt_line (Return line) = line
stmt_line (Terminate line) = line
stmt_line (Fork' line p branches join) = line
stmt_line (Drive d) = d.line
stmt_line (Expect e) = e.line
