use Rattle.std.proofs.Common.{◌≡◌, ◌∙◌, sym, subst, ap, Err, arith}
use Rattle.std.proofs.lemmas.List.{length-take}
use Rattle.std.proofs.lemmas.Result.{err_from_is_err_and}
use Rattle.vera_ast.specs.declared.refusal.FrontError.{FrontError}
use Rattle.vera_lex.specs.Seen.{Steps, seen}
use Rattle.vera_lex.proofs.States.{stepped, piece_fails, end_fails, takes_line}
use Rattle.vera_lex.proofs.Fronts.{front_bounds}
use Rattle.vera_lex.proofs.lexer.Lexer.step.Goals as goal

pub returns-in_err-place-in-Ok-clause-state : goal.returns-in_err-place-in-Ok-clause-state
returns-in_err-place-in-Ok-clause-state c =
    let x = err_from_is_err_and c.from_residual.result c.from_residual.ensures.1 in
    let same : c.from_residual.result ≡ Err c.in_err-place-in-Ok.field-0.0 = x.1 ∙ ap (λ (e : FrontError). Err e) x.2 in
    subst (λ r. Steps c.args.self.now c.args.text.now c.place.new.self r) (sym same)
    (piece_fails c.args.self.now c.place.new.self c.args.text.now (seen c.in-Ok.found.piece) c.in-Ok.found.count c.in_err-place-in-Ok.field-0.0 c.in-Ok.ensures c.in_err-place-in-Ok.ensures)

pub slice_bounds-go_behind-end : goal.slice_bounds-go_behind-end
slice_bounds-go_behind-end c =
    let b = front_bounds c.args.text.now (seen c.in-Ok.found.piece) c.in-Ok.found.count c.requires.some c.in-Ok.ensures in
    let le = b.1 in
    let n = length-take c.in-Ok.found.count c.args.text.now in
    omega arith

pub go_behind-requires-clause-lines : goal.go_behind-requires-clause-lines
go_behind-requires-clause-lines c =
    let b = front_bounds c.args.text.now (seen c.in-Ok.found.piece) c.in-Ok.found.count c.requires.some c.in-Ok.ensures in
    let n = length-take c.in-Ok.found.count c.args.text.now in
    let line = takes_line c.args.self.now c.place.new.self (seen c.in-Ok.found.piece) c.in_ok-place-in-Ok.ensures in
    let lines = c.requires.lines in
    omega arith

pub returns-in_err-go_behind-in-Ok-clause-state : goal.returns-in_err-go_behind-in-Ok-clause-state
returns-in_err-go_behind-in-Ok-clause-state c =
    let x = err_from_is_err_and c.from_residual-in_err-go_behind-in-Ok.result c.from_residual-in_err-go_behind-in-Ok.ensures.1 in
    let same : c.from_residual-in_err-go_behind-in-Ok.result ≡ Err c.in_err-go_behind-in-Ok.field-0.0 = x.1 ∙ ap (λ (e : FrontError). Err e) x.2 in
    subst (λ r. Steps c.args.self.now c.args.text.now c.go_behind.new.self r) (sym same)
    (end_fails c.args.self.now c.place.new.self c.go_behind.new.self c.args.text.now (seen c.in-Ok.found.piece) c.in-Ok.found.count c.in_err-go_behind-in-Ok.field-0.0 c.in-Ok.ensures c.in_ok-place-in-Ok.ensures c.in_err-go_behind-in-Ok.ensures.state)

pub returns-in_ok-go_behind-in-Ok-clause-state : goal.returns-in_ok-go_behind-in-Ok-clause-state
returns-in_ok-go_behind-in-Ok-clause-state c =
    stepped c.args.self.now c.place.new.self c.go_behind.new.self c.args.text.now (seen c.in-Ok.found.piece) c.in-Ok.found.count c.in-Ok.ensures c.in_ok-place-in-Ok.ensures c.in_ok-go_behind-in-Ok.ensures.state

pub returns-in_ok-go_behind-in-Ok-clause-within : goal.returns-in_ok-go_behind-in-Ok-clause-within
returns-in_ok-go_behind-in-Ok-clause-within c = front_bounds c.args.text.now (seen c.in-Ok.found.piece) c.in-Ok.found.count c.requires.some c.in-Ok.ensures

pub returns-in_ok-go_behind-in-Ok-clause-lines : goal.returns-in_ok-go_behind-in-Ok-clause-lines
returns-in_ok-go_behind-in-Ok-clause-lines c =
    let b = front_bounds c.args.text.now (seen c.in-Ok.found.piece) c.in-Ok.found.count c.requires.some c.in-Ok.ensures in
    let n = length-take c.in-Ok.found.count c.args.text.now in
    let line = takes_line c.args.self.now c.place.new.self (seen c.in-Ok.found.piece) c.in_ok-place-in-Ok.ensures in
    let lines = c.in_ok-go_behind-in-Ok.ensures.lines in
    omega arith
