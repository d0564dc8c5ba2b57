use Rattle.std.proofs.Common.{◌∷◌, [], ◌++◌, length, take, ap, sym, ◌∙◌, arith}
use Rattle.run_rules.specs.Drives.{meet}
use Rattle.plain_run.proofs.Meeting.{meet-more, meet-one_more, meet_front-length, meet-whole}
use Rattle.plain_run.proofs.vectors.meet.Goals as goal

pub loop-at-init : goal.loop-at-init
loop-at-init c =
    c.one_bit-met.ensures ∙ (ap (λ b. b ∷ []) c.meet_bit.ensures ∙ sym (meet-more _ _ 0 _ _ c.bit.ensures c.bit-2.ensures))

pub with_bit-met-requires : goal.with_bit-met-requires
with_bit-met-requires c =
    let value = c.width-width.ensures.value in
    let high = c.width-width.ensures.high in
    let below = c.loop-at-test.true in
    let size = meet_front-length _ _ c.loop-at.at c.requires (omega arith) in
    let same = ap (λ xs. length xs) c.loop-at.invariant in
    omega (arith, size, same)

pub loop-at-preserved : goal.loop-at-preserved
loop-at-preserved c =
    c.with_bit-met.ensures
    ∙ (ap (λ xs. xs ++ c.meet_bit-in-loop-at.result ∷ []) c.loop-at.invariant
    ∙ (ap (λ b. meet (take c.loop-at.at c.args.a.now) (take c.loop-at.at c.args.b.now) ++ b ∷ []) c.meet_bit-in-loop-at.ensures
    ∙ sym (meet-one_more _ _ c.loop-at.at _ _ c.bit-in-loop-at.ensures c.bit-in-loop-at-2.ensures)))

pub returns : goal.returns
returns c =
    let value = c.width-width.ensures.value in
    let past = c.loop-at-test.false in
    c.loop-at.invariant ∙ meet-whole _ _ c.loop-at.at c.requires (omega arith)
