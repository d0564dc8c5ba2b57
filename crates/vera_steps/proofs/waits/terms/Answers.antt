use Rattle.std.proofs.Common.{rules}
use Rattle.std.specs.Prelude.{Err}
use Rattle.typing_rules.specs.Answers.{Answers}
use Rattle.typing_rules.specs.Checked.{each}
use Rattle.typing_rules.specs.Waits.{term}
use Rattle.vera_names.proofs.Items.{each_ends}
use Rattle.vera_steps.proofs.Carried.{carried_stops, carried_goes}
use Rattle.vera_steps.proofs.waits.terms.Goals as goal

pub returns-in_err-before : goal.returns-in_err-before
returns-in_err-before c =
    let h : Answers (each (term c.args.sight.now) c.args.terms.now) (Err c.in_err-before.field-0.0) = carried_stops (term c.args.sight.now) c.args.terms.now c.loop-next.next-index c.next-item.result _ c.loop-next.typed _ _ c.loop-next-test.true c.next-item.is c.term.ensures c.in_err-before.ensures.refused c.loop-next.invariant in
    search rules

pub loop-next-preserved : goal.loop-next-preserved
loop-next-preserved c =
    carried_goes (term c.args.sight.now) c.args.terms.now c.loop-next.next-index c.next-item.result _ _ c.loop-next.typed _ _ _ c.loop-next-test.true c.next-item.is c.term.ensures c.in_ok-before.ensures.second c.in_ok-before.ensures.first c.in_ok-typed.ensures c.loop-next.invariant

pub returns : goal.returns
returns c = each_ends _ _ _ _ _ c.loop-next-test.false c.loop-next.invariant
