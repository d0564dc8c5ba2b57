use Rattle.std.proofs.Common.{◌≡◌, ◌∙◌, ℕ, sym, ap, subst, refl, List, Result, Ok, Err}
use Rattle.std.proofs.lemmas.Result.{err_from_is_err_and}
use Rattle.grammar_laws.specs.declared.fault.Fault.{Fault}
use Rattle.grammar_laws.specs.Readers.{Reads, and_then}
use Rattle.vera_ast.specs.declared.codes.TheConstants as code
use Rattle.vera_ast.specs.declared.token.Token.{Token}
use Rattle.vera_ast.specs.declared.tree.expressions.Expr.{Expr}
use Rattle.vera_ast.specs.declared.tree.statements.Step.{Step}
use Rattle.vera_ast.specs.declared.tree.statements.Stmt.{Stmt}
use Rattle.parse_exprs.specs.ExpressionReading.{expr}
use Rattle.parse_stmts.specs.PartReading.{free_at}
use Rattle.parse_stmts.specs.StatementReading as r
use Rattle.parse_cursor.specs.TokenReading.{word}
use Rattle.parse_stmts.proofs.stmts.Statements.for_stmt.Goals as goal

-- where the body is refused, so is the whole
fails : (d : ℕ) (ts t1 t2 : List Token) (line : ℕ) (all : Step × (Expr × Step)) (e : Fault) → word code.FOR ts ≡ Ok (line, t1) → r.turns (expr d) (r.stmt d) (free_at d) t1 ≡ Ok (all, t2)
    → r.stmt d t2 ≡ Err e → r.for_stmt (expr d) (r.stmt d) (free_at d) ts ≡ Err e
unfolding r.for_stmt and_then
fails d ts t1 t2 line all e a b c = rw a (rw b (rw c refl))

pub returns-in_err-body : goal.returns-in_err-body
returns-in_err-body g c =
    let d = c.args.self.now.depth in
    let ts = c.args.tokens.now.rest.now in
    let h : Reads (r.stmt d c.turns.new.tokens.rest.now) (Err c.in_err-body.field-0.0) c.boxed.new.tokens.rest.now = c.in_err-body.ensures in
    let x = err_from_is_err_and c.from_residual-in_err-body.result c.from_residual-in_err-body.ensures.1 in
    let same : c.from_residual-in_err-body.result ≡ Err c.in_err-body.field-0.0 = x.1 ∙ ap (λ (e : Fault). Err e) x.2 in
    subst (λ (o : Result Stmt Fault). Reads (r.for_stmt (expr d) (r.stmt d) (free_at d) ts) o c.boxed.new.tokens.rest.now) (sym same)
    (λ ne. fails d ts c.word.new.self.rest.now c.turns.new.tokens.rest.now c.in_ok-line.line c.in_ok-all.all c.in_err-body.field-0.0 c.in_ok-line.ensures c.in_ok-all.ensures (h ne))
