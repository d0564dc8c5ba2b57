use Rattle.std.proofs.Common.{◌≡◌, ◌∙◌, ap, Err}
use Rattle.std.proofs.lemmas.Result.{err_from_is_err_and}
use Rattle.vera_ast.specs.declared.refusal.FrontError.{FrontError}
use Rattle.vera_lex.specs.Tokens.{behind}
use Rattle.vera_lex.specs.Seen.{ended}
use Rattle.vera_lex.proofs.States.{not_refused}
use Rattle.vera_lex.proofs.lexer.Lexer.go_behind.Goals as goal

pub returns-in_err-end_definition-clause-state : goal.returns-in_err-end_definition-clause-state
returns-in_err-end_definition-clause-state c = λ s h.
    let x = err_from_is_err_and c.from_residual.result c.from_residual.ensures.1 in
    let same : c.from_residual.result ≡ Err c.in_err-end_definition.field-0.0 = x.1 ∙ ap (λ (e : FrontError). Err e) x.2 in
    rw same (not_refused s.line c.end_definition.new.self (ended c.newlines-lines.result s) (behind c.args.bytes.now s) c.in_err-end_definition.field-0.0 (c.in_err-end_definition.ensures.state s h))
