use Rattle.std.proofs.Common.{[], ◌∷◌, ◌++◌, length, take, sym, ap, ◌∙◌, arith}
use Rattle.std.proofs.lemmas.Option.{slice_get-get_or}
use Rattle.blif_device.specs.Valuations.{valuation}
use Rattle.run_rules.specs.Designs.{on_nets}
use Rattle.run_rules.specs.Nets.{bits_of}
use Rattle.plain_run.proofs.Sampling.{bits_more, bits_front, bits_all}
use Rattle.plain_run.proofs.outside.sample.Goals as goal

pub loop-at-init : goal.loop-at-init
loop-at-init c =
    let value = on_nets c.args.count (valuation c.args.device.now.values) in
    let is = slice_get-get_or c.args.nets.now 0 0 (omega arith) in
    c.one_bit-bits.ensures ∙ ap (λ b. b ∷ []) c.value.ensures ∙ sym (bits_more value c.args.nets.now 0 _ is)

pub with_bit-bits-requires : goal.with_bit-bits-requires
with_bit-bits-requires c =
    let value = on_nets c.args.count (valuation c.args.device.now.values) in
    let size = bits_front value c.args.nets.now c.loop-at.at (omega arith) in
    let same = ap (λ bits. length bits) c.loop-at.invariant in
    omega (arith, size, same)

pub loop-at-preserved : goal.loop-at-preserved
loop-at-preserved c =
    let value = on_nets c.args.count (valuation c.args.device.now.values) in
    let is = slice_get-get_or c.args.nets.now c.loop-at.at 0 (omega arith) in
    c.with_bit-bits.ensures
    ∙ ap (λ bits. bits ++ c.value-in-loop-at.result ∷ []) c.loop-at.invariant
    ∙ ap (λ b. bits_of value (take c.loop-at.at c.args.nets.now) ++ b ∷ []) c.value-in-loop-at.ensures
    ∙ sym (bits_more value c.args.nets.now c.loop-at.at _ is)

pub returns : goal.returns
returns c = c.loop-at.invariant ∙ bits_all (on_nets c.args.count (valuation c.args.device.now.values)) c.args.nets.now c.loop-at.at (omega arith)
