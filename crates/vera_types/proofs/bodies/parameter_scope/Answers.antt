use Rattle.std.proofs.Common.{◌++◌, ◌∷◌, [], ap, ◌∙◌}
use Rattle.vera_ast.specs.declared.typed.types.VariableType.TheVariants.{Value}
use Rattle.vera_names.specs.Named.{declared_as}
use Rattle.typing_rules.specs.Bodies.{parameter_scope}
use Rattle.typing_rules.specs.Scopes.{Name}
use Rattle.typing_rules.specs.declared.names.Meaning.TheVariants as means
use Rattle.vera_types.proofs.BodySteps.{parameters_go, parameters_short, parameters_end}
use Rattle.vera_types.proofs.bodies.parameter_scope.Goals as goal

pub returns-in-None : goal.returns-in-None
returns-in-None c = parameters_short c.args.parameters.now c.args.typed.now c.loop-at.at c.loop-at.scope _ c.in-None.ensures.lookup.3 c.loop-at.invariant

pub loop-at-preserved : goal.loop-at-preserved
loop-at-preserved c =
    parameters_go c.args.parameters.now c.args.typed.now c.loop-at.at c.index-parameters-at.result c.in-Some.of.now c.loop-at.scope c.in_ok-scope-in-Some.scope (parameter_scope c.args.parameters.now c.args.typed.now)
    c.loop-at-test.true c.index-parameters-at.is c.in-Some.ensures.lookup.3.0 c.in-Some.ensures.lookup.1
    (c.in_ok-scope-in-Some.ensures ∙ ap (λ (n : Name). c.loop-at.scope ++ declared_as n (means.Variable c.in-Some.of.now.place (Value c.in-Some.of.now.of)) ∷ []) c.as_slice.ensures)
    c.loop-at.invariant

pub returns : goal.returns
returns c = parameters_end c.args.parameters.now c.args.typed.now c.loop-at.at c.loop-at.scope _ c.loop-at-test.false c.loop-at.invariant
