-- The grammar of a whole file, by the height of a derivation. The depth of a token is the number of productions `stmt`, `expr` and `unary` that it
-- lies in, so items begin at 0.
use Rattle.std.specs.Prelude.{ℕ}
use Rattle.grammar_laws.specs.Languages.{Lang}
use Rattle.vera_ast.specs.declared.token.Token.{Token}
use Rattle.vera_ast.specs.declared.tree.items.Tree.{Tree}
use Rattle.parse_exprs.specs.Expressions.{expr}
use Rattle.parse_stmts.specs.Declarations.{range, data_type, decl, params}
use Rattle.parse_stmts.specs.Parts.{edge}
use Rattle.parse_stmts.specs.Statements.{block, stmt}
use Rattle.vera_parse.specs.Interfaces.{iface}
use Rattle.vera_parse.specs.Coverage.{group}
use Rattle.vera_parse.specs.Items.{items}

unfoldable pub file : ℕ → Lang Token Tree
file h = items (iface (range (expr h))) (group (expr h) edge) (data_type (expr h)) (params (expr h)) (decl (expr h)) (block (decl (expr h)) (stmt h))
