use Rattle.std.proofs.Common.{◌≡◌, ◌≤◌, length, ap, sym, subst, Err, ◌∙◌}
use Rattle.std.proofs.lemmas.Result.{err_from_is_err_and}
use Rattle.std.proofs.lemmas.List.{take_rest}
use Rattle.std.proofs.lemmas.Bool.{eqb-true}
use Rattle.vera_ast.specs.declared.refusal.FrontError.{FrontError}
use Rattle.vera_lex.specs.Seen.{IsAnswer}
use Rattle.vera_lex.proofs.Whole.{begin, further, fails, whole, not_empty}
use Rattle.vera_lex.proofs.lexer.lex.Goals as goal

pub pieces-init : goal.pieces-init
pieces-init c = begin c.args.bytes.now c.new-lexer.result c.new-lexer.ensures.line c.new-lexer.ensures

pub returns-in_err-count : goal.returns-in_err-count
returns-in_err-count c =
    let x = err_from_is_err_and c.from_residual.result c.from_residual.ensures.1 in
    let same : c.from_residual.result ≡ Err c.in_err-count.field-0.0 = x.1 ∙ ap (λ (e : FrontError). Err e) x.2 in
    let some = not_empty (length c.pieces.rest.now) (sym c.is_empty.ensures ∙ c.pieces-test.true) in
    subst (λ r. IsAnswer c.args.bytes.now r) (sym same)
    (fails c.args.bytes.now c.pieces.lexer c.step.new.self c.pieces.rest.now c.in_err-count.field-0.0 some c.pieces.invariant c.in_err-count.ensures.state)

pub pieces-preserved : goal.pieces-preserved
pieces-preserved c =
    let le : c.in_ok-count.count ≤ length c.pieces.rest.now = c.in_ok-count.ensures.within.1 in
    rw (take_rest c.pieces.rest.now c.in_ok-count.count)
    (further c.args.bytes.now c.pieces.lexer c.step.new.self c.pieces.rest.now c.in_ok-count.count c.pieces.invariant c.in_ok-count.ensures.state c.in_ok-count.ensures.within.0 c.in_ok-count.ensures.within.1 c.in_ok-count.ensures.lines)

pub returns : goal.returns
returns c =
    let none = eqb-true (length c.pieces.rest.now) 0 (sym c.is_empty.ensures ∙ c.pieces-test.false) in
    whole c.args.bytes.now c.pieces.lexer c.pieces.rest.now none c.pieces.invariant
