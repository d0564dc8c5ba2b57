use Rattle.std.proofs.Common.{◌+◌, List, drop, ap, ◌∙◌, arith}
use Rattle.std.proofs.lemmas.Result.{err_from_is_err_and}
use Rattle.typing_rules.specs.Productions.{Link}
use Rattle.typing_rules.specs.declared.head.Argument.{Argument}
use Rattle.typing_rules.specs.declared.head.Typed.{Typed}
use Rattle.vera_calls.proofs.Wants.{after_from}
use Rattle.vera_calls.specs.Wanting.{wants_told, modes_told, wants_from}
use Rattle.vera_exprs.proofs.WalkSteps.{links_more, links_done, exprs_more, exprs_done, arguments_on, arguments_done, suffixes_on, suffixes_stop, call_stops, call_goes}
use Rattle.vera_exprs.specs.WalkLists.{all_before, links_walked, exprs_walked, arguments_walked}
use Rattle.vera_exprs.proofs.expressions.+walk.Goals as goal

pub walk_links-loop-link-preserved : goal.walk_links-loop-link-preserved
walk_links-loop-link-preserved t c =
    ap (λ (xs : List Link). all_before xs (links_walked c.args.sight.now (drop (c.loop-link.link-index + 1) c.args.links.now))) c.in_ok-push.ensures.items
    ∙ links_more c.args.sight.now c.args.links.now c.loop-link.link-index c.link-item.result c.loop-link.walked.items c.in_ok-operand.operand _ c.loop-link-test.true c.link-item.is c.loop-link.invariant c.in_ok-operand.ensures

pub walk_links-returns : goal.walk_links-returns
walk_links-returns t c = links_done c.args.sight.now c.args.links.now c.loop-link.link-index c.loop-link.walked.items _ c.loop-link-test.false c.loop-link.invariant

pub walk_values-loop-part-preserved : goal.walk_values-loop-part-preserved
walk_values-loop-part-preserved t c =
    ap (λ (xs : List Typed). all_before xs (exprs_walked c.args.sight.now (drop (c.loop-part.part-index + 1) c.args.exprs.now))) c.in_ok-push.ensures.items
    ∙ exprs_more c.args.sight.now c.args.exprs.now c.loop-part.part-index c.part-item.result c.loop-part.walked.items c.in_ok-value.value _ c.loop-part-test.true c.part-item.is c.loop-part.invariant c.in_ok-value.ensures

pub walk_values-returns : goal.walk_values-returns
walk_values-returns t c = exprs_done c.args.sight.now c.args.exprs.now c.loop-part.part-index c.loop-part.walked.items _ c.loop-part-test.false c.loop-part.invariant

pub walk_suffixes-loop-at-preserved : goal.walk_suffixes-loop-at-preserved
walk_suffixes-loop-at-preserved t c =
    suffixes_on c.args.sight.now c.args.stand c.stand_before-before.result c.args.line c.loop-at.head c.in_ok-head.head c.args.suffixes.now c.loop-at.at c.index-suffixes-at.result _ (omega arith) c.index-suffixes-at.is c.stand_before-before.ensures
    c.loop-at.invariant c.in_ok-head.ensures

pub walk_suffixes-returns-in_err-head : goal.walk_suffixes-returns-in_err-head
walk_suffixes-returns-in_err-head t c =
    let p = err_from_is_err_and c.from_residual.result c.from_residual.ensures.1 in
    rw (p.1, p.2)
    (suffixes_stop c.args.sight.now c.args.stand c.stand_before-before.result c.args.line c.loop-at.head c.args.suffixes.now c.loop-at.at c.index-suffixes-at.result _ _ (omega arith) c.index-suffixes-at.is c.stand_before-before.ensures
    c.loop-at.invariant c.in_err-head.ensures)

pub walk_arguments-loop-place-preserved : goal.walk_arguments-loop-place-preserved
walk_arguments-loop-place-preserved t c =
    ap (λ (xs : List Argument). all_before xs (arguments_walked c.args.sight.now (modes_told c.args.wanted.now) (wants_from (wants_told c.args.wanted.now) (c.loop-place.place + 1)) (drop (c.loop-place.place + 1) c.args.exprs.now))) c.in_ok-push.ensures.items
    ∙ arguments_on c.args.sight.now (modes_told c.args.wanted.now) (wants_from (wants_told c.args.wanted.now) c.loop-place.place) (wants_from (wants_told c.args.wanted.now) (c.loop-place.place + 1)) c.at-want.result c.args.exprs.now c.loop-place.place
    c.index-exprs-place.result c.loop-place.given.items c.in_ok-next.next _ (omega arith) c.index-exprs-place.is c.at-want.ensures (after_from (wants_told c.args.wanted.now) c.loop-place.place) c.loop-place.invariant c.in_ok-next.ensures

pub walk_call-returns-in-Ok : goal.walk_call-returns-in-Ok
walk_call-returns-in-Ok t c =
    call_goes c.args.sight.now c.args.stand c.args.line c.args.head c.args.exprs.now (modes_told c.wanted_of-wanted.result) (wants_told c.wanted_of-wanted.result) c.in-Ok.arguments.items _ c.wanted_of-wanted.ensures.modes
    (rw c.outline.ensures at c.wanted_of-wanted.ensures.wants) c.in-Ok.ensures c.call.ensures

pub walk_call-returns-in-Err : goal.walk_call-returns-in-Err
walk_call-returns-in-Err t c =
    call_stops c.args.sight.now c.args.stand c.args.line c.args.head c.args.exprs.now (modes_told c.wanted_of-wanted.result) (wants_told c.wanted_of-wanted.result) c.in-Err.error c.wanted_of-wanted.ensures.modes
    (rw c.outline.ensures at c.wanted_of-wanted.ensures.wants) c.in-Err.ensures

pub walk_arguments-returns : goal.walk_arguments-returns
walk_arguments-returns t c =
    arguments_done c.args.sight.now (modes_told c.args.wanted.now) (wants_from (wants_told c.args.wanted.now) c.loop-place.place) c.args.exprs.now c.loop-place.place c.loop-place.given.items _ (omega arith) c.loop-place.invariant
