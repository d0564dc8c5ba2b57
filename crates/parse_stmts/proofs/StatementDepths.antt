-- One level of depth of statements.
use Rattle.std.proofs.Common.{◌≡◌, ℕ, suc, ◌-◌, ◌<◌, List, Err, ap, ◌∙◌, arith}
use Rattle.vera_ast.specs.declared.token.Token.{Token}
use Rattle.grammar_laws.specs.declared.fault.Fault.{Fault}
use Rattle.grammar_laws.specs.Readers.{fault_at}
use Rattle.grammar_laws.proofs.Knot.{too_deep_is}
use Rattle.parse_cursor.specs.Tokens.{kind_of}
use Rattle.parse_stmts.specs.DeclarationReading.{decl}
use Rattle.parse_exprs.specs.ExpressionReading.{expr}
use Rattle.parse_stmts.specs.PartReading.{post_at, free_at}
use Rattle.parse_stmts.specs.StatementReading as r
use Rattle.parse_stmts.specs.StatementSets.{first_stmt}

pub stmt_end : (d : ℕ) (ts : List Token) (f : Fault) → d ≡ 0 → f ≡ fault_at kind_of first_stmt ts → r.stmt d ts ≡ Err f
unfolding r.stmt
stmt_end d ts f e g = ap (λ (d : ℕ). r.stmt d ts) e ∙ too_deep_is kind_of first_stmt ts f g

pub stmt_next : (d : ℕ) (ts : List Token) → 0 < d → r.stmt d ts ≡ r.body (expr (d - 1)) (post_at (d - 1)) (free_at (d - 1)) (decl (expr (d - 1))) (r.stmt (d - 1)) ts
unfolding r.stmt
stmt_next d ts lt = let e : d ≡ suc (d - 1) = omega arith in ap (λ (d : ℕ). r.stmt d ts) e
