use Rattle.std.proofs.Common.{◌++◌, sym, ◌∙◌, ap}
use Rattle.blif_read.specs.Sets.{clashes}
use Rattle.blif_read.specs.Refusals.{each, drives, clocks, gates, meet, inputs}
use Rattle.blif_read.proofs.Firsts.{again_by_clash, again_by_gate, again_by_clock}
use Rattle.blif_read.proofs.refusals.Seen.is_driven_again.Goals as goal

pub returns-then-not-insert_both-clause-again : goal.returns-then-not-insert_both-clause-again
returns-then-not-insert_both-clause-again c = λ all before k.
    let d = c.args.block.now.directive in
    again_by_clash before d (ap (clashes (each drives before)) (sym (ap (λ xs. xs ++ c.gates.result.now) c.inputs.ensures.nets ∙ ap (λ xs. inputs d ++ xs) c.gates.ensures.nets)) ∙ c.if-not-insert_both.ensures.clash (each drives before) k.driven)

pub returns-then-has_any-clause-again : goal.returns-then-has_any-clause-again
returns-then-has_any-clause-again c = λ all before k.
    let d = c.args.block.now.directive in
    again_by_gate before d c.has_any.result
    (ap (clashes (each drives before)) (sym (ap (λ xs. xs ++ c.gates.result.now) c.inputs.ensures.nets ∙ ap (λ xs. inputs d ++ xs) c.gates.ensures.nets)) ∙ c.if-not-insert_both.ensures.clash (each drives before) k.driven)
    (c.has_any.ensures (each clocks before) k.clocked ∙ ap (meet (each clocks before)) c.gates-2.ensures.nets)
    c.if-has_any.true

pub returns-else-has_any-clause-again : goal.returns-else-has_any-clause-again
returns-else-has_any-clause-again c = λ all before k.
    let d = c.args.block.now.directive in
    again_by_clock before d c.has_any.result c.has_any-else-has_any.result
    (ap (clashes (each drives before)) (sym (ap (λ xs. xs ++ c.gates.result.now) c.inputs.ensures.nets ∙ ap (λ xs. inputs d ++ xs) c.gates.ensures.nets)) ∙ c.if-not-insert_both.ensures.clash (each drives before) k.driven)
    (c.has_any.ensures (each clocks before) k.clocked ∙ ap (meet (each clocks before)) c.gates-2.ensures.nets)
    c.if-has_any.false
    (c.has_any-else-has_any.ensures (each gates before) k.gated ∙ ap (meet (each gates before)) c.clocks.ensures.nets)
