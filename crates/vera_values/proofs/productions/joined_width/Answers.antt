use Rattle.std.proofs.Common.{ℕ, ◌*◌, ◌≡◌, sym, ap, ◌∙◌, arith}
use Rattle.typing_rules.specs.Types.{width_from}
use Rattle.vera_values.specs.Steps.{bits_in}
use Rattle.vera_values.proofs.ProductionSteps.{bits_more, bits_over, bits_ended, too_wide_times}
use Rattle.vera_values.proofs.productions.joined_width.Goals as goal

pub loop-part-preserved : goal.loop-part-preserved
loop-part-preserved c =
    let more = bits_more c.args.parts.now c.loop-part.part-index c.part-item.result c.loop-part.bits (bits_in c.args.parts.now) (omega arith) c.part-item.is c.loop-part.invariant.0 in
    (omega (arith, more), omega arith)

pub returns-then-bits-gt128 : goal.returns-then-bits-gt128
returns-then-bits-gt128 c =
    let over = bits_over c.args.parts.now c.loop-part.part-index c.part-item.result c.loop-part.bits (bits_in c.args.parts.now) (omega arith) c.part-item.is c.loop-part.invariant.0 (omega arith) in
    sym (too_wide_times c.args.count (bits_in c.args.parts.now) over)

pub returns : goal.returns
returns c =
    let all : c.loop-part.bits ≡ bits_in c.args.parts.now = bits_ended c.args.parts.now c.loop-part.part-index c.loop-part.bits (bits_in c.args.parts.now) (omega arith) c.loop-part.invariant.0 in
    c.times.ensures ∙ ap (λ (n : ℕ). width_from (c.args.count * n)) all
