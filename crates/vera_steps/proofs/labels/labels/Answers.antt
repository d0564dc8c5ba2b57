use Rattle.std.proofs.Common.{◌≡◌, length, rules, arith}
use Rattle.std.specs.Prelude.{Err}
use Rattle.std.specs.Vec.Iter.{into_iter_items}
use Rattle.typing_rules.specs.Answers.{Answers}
use Rattle.typing_rules.specs.Checked.{each}
use Rattle.vera_steps.specs.SimpleForms.{label}
use Rattle.vera_names.proofs.Items.{taken_ends}
use Rattle.vera_steps.proofs.Carried.{carried_stops_taken, carried_goes_taken}
use Rattle.vera_steps.proofs.labels.labels.Goals as goal

pub returns-in_err-before : goal.returns-in_err-before
returns-in_err-before c =
    let h : Answers (each (label c.args.line) c.args.values) (Err c.in_err-before.field-0.0) = carried_stops_taken (label c.args.line) (into_iter_items c.loop-value.value-iterator) c.in-Some.value (into_iter_items c.next.new.self) _ c.loop-value.typed _ _ c.in-Some.ensures.steps.0 c.label.ensures c.in_err-before.ensures.refused c.loop-value.invariant in
    search rules

pub loop-value-preserved : goal.loop-value-preserved
loop-value-preserved c =
    carried_goes_taken (label c.args.line) (into_iter_items c.loop-value.value-iterator) c.in-Some.value (into_iter_items c.next.new.self) _ _ c.loop-value.typed _ _ _ c.in-Some.ensures.steps.0 c.label.ensures c.in_ok-before.ensures.second c.in_ok-before.ensures.first c.in_ok-typed.ensures c.loop-value.invariant

pub returns : goal.returns
returns c =
    let none : length (into_iter_items c.loop-value.value-iterator) ≡ 0 = omega (arith, c.loop-value.value-iterator.rest.ok.0, c.in-None.ensures.steps.0) in
    taken_ends (label c.args.line) (into_iter_items c.loop-value.value-iterator) c.loop-value.typed _ none c.loop-value.invariant
