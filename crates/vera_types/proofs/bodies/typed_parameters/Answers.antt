use Rattle.std.proofs.Common.{ℕ, ◌++◌, ◌∷◌, [], ap, ◌∙◌, rules}
use Rattle.vera_ast.specs.declared.typed.file.TypedParameter.{TypedParameter}
use Rattle.std.specs.Prelude.{Err}
use Rattle.typing_rules.specs.Answers.{Answers}
use Rattle.typing_rules.specs.Bodies.{parameter_place, typed_parameters}
use Rattle.vera_types.proofs.BodySteps.{types_go, types_stop, types_end}
use Rattle.vera_types.proofs.bodies.typed_parameters.Goals as goal

pub returns-in_err-of : goal.returns-in_err-of
returns-in_err-of c =
    let h : Answers (typed_parameters c.args.scopes.now 0 c.args.parameters.now) (Err c.in_err-of.field-0.0) = types_stop c.args.scopes.now c.args.parameters.now c.loop-parameter.parameter-index c.parameter-item.result c.loop-parameter.typed _ _ c.loop-parameter-test.true c.parameter-item.is c.in_err-of.ensures c.loop-parameter.invariant in
    search rules

pub loop-parameter-preserved : goal.loop-parameter-preserved
loop-parameter-preserved c =
    types_go c.args.scopes.now c.args.parameters.now c.loop-parameter.parameter-index c.parameter-item.result c.in_ok-of.of c.loop-parameter.typed c.push.new.self _ c.loop-parameter-test.true c.parameter-item.is c.in_ok-of.ensures
    (c.in_ok-push.ensures.ok ∙ ap (λ (t : TypedParameter). c.loop-parameter.typed ++ t ∷ []) c.typed_parameter.ensures
    ∙ ap (λ (n : ℕ). c.loop-parameter.typed ++ record { line = c.parameter-item.result.line; place = parameter_place c.parameter-item.result.is_var n; of = c.in_ok-of.of } ∷ []) (c.in_ok-number.ensures ∙ c.len.ensures))
    c.loop-parameter.invariant

pub returns : goal.returns
returns c = types_end c.args.scopes.now c.args.parameters.now c.loop-parameter.parameter-index c.loop-parameter.typed _ c.loop-parameter-test.false c.loop-parameter.invariant
