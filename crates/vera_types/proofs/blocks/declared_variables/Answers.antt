use Rattle.std.proofs.Common.{rules}
use Rattle.std.specs.Prelude.{Err}
use Rattle.typing_rules.specs.Answers.{Answers}
use Rattle.typing_rules.specs.Checked.{each}
use Rattle.typing_rules.specs.Blocks.{declared_variable}
use Rattle.vera_names.proofs.Items.{each_ends}
use Rattle.vera_steps.proofs.Carried.{carried_stops, carried_goes}
use Rattle.vera_types.proofs.blocks.declared_variables.Goals as goal

pub returns-in_err-before : goal.returns-in_err-before
returns-in_err-before c =
    let h : Answers (each (declared_variable c.args.sight.now) c.args.variables.now) (Err c.in_err-before.field-0.0) = carried_stops (declared_variable c.args.sight.now) c.args.variables.now c.loop-variable.variable-index c.variable-item.result _ c.loop-variable.typed _ _ c.loop-variable-test.true c.variable-item.is c.declared_variable.ensures c.in_err-before.ensures.refused c.loop-variable.invariant in
    search rules

pub loop-variable-preserved : goal.loop-variable-preserved
loop-variable-preserved c =
    carried_goes (declared_variable c.args.sight.now) c.args.variables.now c.loop-variable.variable-index c.variable-item.result _ _ c.loop-variable.typed _ _ _ c.loop-variable-test.true c.variable-item.is c.declared_variable.ensures c.in_ok-before.ensures.second c.in_ok-before.ensures.first c.in_ok-typed.ensures c.loop-variable.invariant

pub returns : goal.returns
returns c = each_ends _ _ _ _ _ c.loop-variable-test.false c.loop-variable.invariant
