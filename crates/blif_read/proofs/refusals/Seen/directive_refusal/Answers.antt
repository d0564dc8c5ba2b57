use Rattle.std.proofs.Common.{sym, ◌∙◌, ap, cond, Some, None}
use Rattle.blif_read.specs.Checking.{refusal_at}
use Rattle.blif_read.proofs.Directed.{number_2, number_6, number_7, number_8, number_9_or_none}
use Rattle.blif_read.proofs.refusals.Seen.directive_refusal.Goals as goal

pub returns-then-is_driven_again-clause-refusal : goal.returns-then-is_driven_again-clause-refusal
returns-then-is_driven_again-clause-refusal c = λ all before k. number_2 all before c.args.block.now c.is_driven_again.result (c.is_driven_again.ensures.again all before k) c.if-is_driven_again.true

pub returns-then-is_unknown-clause-refusal : goal.returns-then-is_unknown-clause-refusal
returns-then-is_unknown-clause-refusal c = λ all before k.
    let n = c.if-is_driven_again.ensures.driven all before k in
    number_6 all before c.args.block.now c.is_driven_again.result c.is_unknown.result (c.is_driven_again.ensures.again all before k) c.if-is_driven_again.false (c.is_unknown.ensures before n.model) c.if-is_unknown.true

pub returns-then-is_bad_latch-clause-refusal : goal.returns-then-is_bad_latch-clause-refusal
returns-then-is_bad_latch-clause-refusal c = λ all before k.
    let n = c.if-is_driven_again.ensures.driven all before k in
    number_7 all before c.args.block.now c.is_driven_again.result c.is_unknown.result c.is_bad_latch.result (c.is_driven_again.ensures.again all before k) c.if-is_driven_again.false (c.is_unknown.ensures before n.model) c.if-is_unknown.false (c.is_bad_latch.ensures all n.sources) c.if-is_bad_latch.true

pub returns-then-is_second_clock-clause-refusal : goal.returns-then-is_second_clock-clause-refusal
returns-then-is_second_clock-clause-refusal c = λ all before k.
    let n = c.if-is_driven_again.ensures.driven all before k in
    number_8 all before c.args.block.now c.is_driven_again.result c.is_unknown.result c.is_bad_latch.result c.is_second_clock.result (c.is_driven_again.ensures.again all before k) c.if-is_driven_again.false (c.is_unknown.ensures before n.model) c.if-is_unknown.false (c.is_bad_latch.ensures all n.sources) c.if-is_bad_latch.false (c.is_second_clock.ensures before n.clock) c.if-is_second_clock.true

pub returns-then-is_past_last_net-clause-refusal : goal.returns-then-is_past_last_net-clause-refusal
returns-then-is_past_last_net-clause-refusal c = λ all before k.
    let n = c.if-is_driven_again.ensures.driven all before k in
    sym (ap (λ b. cond b (Some (refusal_at c.args.block.now.line 9)) None) c.if-is_past_last_net.true)
    ∙ number_9_or_none all before c.args.block.now c.is_driven_again.result c.is_unknown.result c.is_bad_latch.result c.is_second_clock.result c.is_past_last_net.result (c.is_driven_again.ensures.again all before k) c.if-is_driven_again.false (c.is_unknown.ensures before n.model) c.if-is_unknown.false (c.is_bad_latch.ensures all n.sources) c.if-is_bad_latch.false (c.is_second_clock.ensures before n.clock) c.if-is_second_clock.false c.is_past_last_net.ensures

pub returns-clause-refusal : goal.returns-clause-refusal
returns-clause-refusal c = λ all before k.
    let n = c.if-is_driven_again.ensures.driven all before k in
    sym (ap (λ b. cond b (Some (refusal_at c.args.block.now.line 9)) None) c.if-is_past_last_net.false)
    ∙ number_9_or_none all before c.args.block.now c.is_driven_again.result c.is_unknown.result c.is_bad_latch.result c.is_second_clock.result c.is_past_last_net.result (c.is_driven_again.ensures.again all before k) c.if-is_driven_again.false (c.is_unknown.ensures before n.model) c.if-is_unknown.false (c.is_bad_latch.ensures all n.sources) c.if-is_bad_latch.false (c.is_second_clock.ensures before n.clock) c.if-is_second_clock.false c.is_past_last_net.ensures

pub returns-clause-knows : goal.returns-clause-knows
returns-clause-knows c = λ all before k. c.note.ensures.knows all before (c.if-is_driven_again.ensures.driven all before k)
