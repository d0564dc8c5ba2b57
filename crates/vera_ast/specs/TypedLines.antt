-- The line of a typed statement.
use Rattle.std.specs.Prelude.{ℕ}
use Rattle.vera_ast.specs.declared.typed.stmt.TypedStmt.{TypedStmt}
use Rattle.vera_ast.specs.declared.typed.stmt.TypedStmt.TheVariants.{Block', Empty, Step, Void, Call, BuiltIn, Wait, Printf, Sprintf, Edge, If', While', Repeat', For', Case', Break, Continue, Return, Terminate, Fork', Drive, Expect}

abbrev pub typed_line : TypedStmt → ℕ
typed_line (Block' line decls p stmts) = line
typed_line (Empty line) = line
typed_line (Step s) = s.line
typed_line (Void v) = v.line
typed_line (Call c) = c.line
typed_line (BuiltIn b) = b.line
typed_line (Wait w) = w.line
typed_line (Printf p) = p.line
typed_line (Sprintf p) = p.line
typed_line (Edge e) = e.line
typed_line (If' line condition p when_true when_false) = line
typed_line (While' line condition p body) = line
typed_line (Repeat' line count p body) = line
typed_line (For' line p start condition q step r body) = line
typed_line (Case' line value p arms) = line
typed_line (Break line) = line
typed_line (Continue line) = line
typed_line (Return line) = line
typed_line (Terminate line) = line
typed_line (Fork' line p branches join) = line
typed_line (Drive d) = d.line
typed_line (Expect e) = e.line
