use Rattle.std.proofs.Common.{rules}
use Rattle.std.specs.Prelude.{Err}
use Rattle.typing_rules.specs.Answers.{Answers}
use Rattle.typing_rules.specs.Checked.{each}
use Rattle.typing_rules.specs.Typing.{expected}
use Rattle.vera_names.proofs.Items.{each_stops, each_goes, each_ends}
use Rattle.vera_types.proofs.outlines.all_expected.Goals as goal

pub returns-in_err-expected : goal.returns-in_err-expected
returns-in_err-expected c =
    let h : Answers (each (expected c.args.scopes.now) c.args.parameters.now) (Err c.in_err-expected.field-0.0) = each_stops (expected c.args.scopes.now) c.args.parameters.now c.loop-parameter.parameter-index c.parameter-item.result c.loop-parameter.found _ _ c.loop-parameter-test.true c.parameter-item.is c.in_err-expected.ensures c.loop-parameter.invariant in
    search rules

pub loop-parameter-preserved : goal.loop-parameter-preserved
loop-parameter-preserved c =
    each_goes (expected c.args.scopes.now) c.args.parameters.now c.loop-parameter.parameter-index c.parameter-item.result c.in_ok-expected.field-0 c.loop-parameter.found c.push.new.self _ c.loop-parameter-test.true c.parameter-item.is c.in_ok-expected.ensures c.in_ok-push.ensures.ok c.loop-parameter.invariant

pub returns : goal.returns
returns c = each_ends _ _ _ _ _ c.loop-parameter-test.false c.loop-parameter.invariant
