use Rattle.std.proofs.Common.{rules}
use Rattle.std.specs.Prelude.{Err}
use Rattle.typing_rules.specs.Answers.{Answers}
use Rattle.typing_rules.specs.Checked.{each}
use Rattle.typing_rules.specs.Expressions.{expr}
use Rattle.vera_names.proofs.Items.{each_ends}
use Rattle.vera_steps.proofs.Carried.{carried_stops, carried_goes}
use Rattle.vera_steps.proofs.labels.exprs.Goals as goal

pub returns-in_err-before : goal.returns-in_err-before
returns-in_err-before c =
    let h : Answers (each (expr c.args.sight.now) c.args.values.now) (Err c.in_err-before.field-0.0) = carried_stops (expr c.args.sight.now) c.args.values.now c.loop-value.value-index c.value-item.result _ c.loop-value.typed _ _ c.loop-value-test.true c.value-item.is c.expr.ensures c.in_err-before.ensures.refused c.loop-value.invariant in
    search rules

pub loop-value-preserved : goal.loop-value-preserved
loop-value-preserved c =
    carried_goes (expr c.args.sight.now) c.args.values.now c.loop-value.value-index c.value-item.result _ _ c.loop-value.typed _ _ _ c.loop-value-test.true c.value-item.is c.expr.ensures c.in_ok-before.ensures.second c.in_ok-before.ensures.first c.in_ok-typed.ensures c.loop-value.invariant

pub returns : goal.returns
returns c = each_ends _ _ _ _ _ c.loop-value-test.false c.loop-value.invariant
