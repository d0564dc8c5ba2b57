-- One level of depth.
use Rattle.std.proofs.Common.{◌≡◌, ℕ, suc, ◌-◌, ◌<◌, List, Err, ap, ◌∙◌, arith}
use Rattle.vera_ast.specs.declared.token.Token.{Token}
use Rattle.grammar_laws.specs.declared.fault.Fault.{Fault}
use Rattle.grammar_laws.specs.Readers.{fault_at}
use Rattle.grammar_laws.proofs.Knot.{too_deep_is}
use Rattle.parse_cursor.specs.Tokens.{kind_of}
use Rattle.parse_exprs.specs.Sets.{first_expr}
use Rattle.parse_exprs.specs.ExpressionReading as r

pub expr_end : (d : ℕ) (ts : List Token) (f : Fault) → d ≡ 0 → f ≡ fault_at kind_of first_expr ts → r.expr d ts ≡ Err f
unfolding r.expr
expr_end d ts f e g = ap (λ (d : ℕ). r.expr d ts) e ∙ too_deep_is kind_of first_expr ts f g

pub unary_end : (d : ℕ) (ts : List Token) (f : Fault) → d ≡ 0 → f ≡ fault_at kind_of first_expr ts → r.unary d ts ≡ Err f
unfolding r.unary
unary_end d ts f e g = ap (λ (d : ℕ). r.unary d ts) e ∙ too_deep_is kind_of first_expr ts f g

pub expr_next : (d : ℕ) (ts : List Token) → 0 < d → r.expr d ts ≡ r.whole (r.expr (d - 1)) (r.unary (d - 1)) ts
unfolding r.expr
expr_next d ts lt = let e : d ≡ suc (d - 1) = omega arith in ap (λ (d : ℕ). r.expr d ts) e

pub unary_next : (d : ℕ) (ts : List Token) → 0 < d → r.unary d ts ≡ r.operand (r.expr (d - 1)) (r.unary (d - 1)) ts
unfolding r.unary
unary_next d ts lt = let e : d ≡ suc (d - 1) = omega arith in ap (λ (d : ℕ). r.unary d ts) e
