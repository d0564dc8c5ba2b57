use Rattle.std.proofs.Common.{◌≡◌, ◌<◌, Contains, Some, length, get_or, slice_get, sym, ap, ◌∙◌, subst, arith}
use Rattle.std.proofs.Math.ListN.{set, length-set}
use Rattle.std.proofs.lemmas.Option.{slice_get-get_or}
use Rattle.blif_read.specs.Netlists.{Parts}
use Rattle.blif_device.specs.Devices.{State}
use Rattle.blif_device.specs.Valuations.{valuation}
use Rattle.plain_run.proofs.Putting.{put_step, put_all}
use Rattle.plain_run.proofs.outside.put.Goals as goal

pub set_input-requires : goal.set_input-requires
set_input-requires c =
    let within : c.from.result < length c.args.nets.now = omega arith in
    subst (λ (p : Parts). Contains p.inputs (get_or c.args.nets.now c.from.result 0)) (sym c.loop-at.invariant.netlist)
    (c.requires.inputs c.from.result 0 within)

pub loop-at-preserved : goal.loop-at-preserved
loop-at-preserved c =
    let at = c.loop-at.at in
    let net = get_or c.args.nets.now c.from.result 0 in
    let place : c.from.result ≡ at = c.from.ensures in
    let within : at < length c.args.nets.now = omega arith in
    let is : slice_get c.args.nets.now at ≡ Some net = slice_get-get_or c.args.nets.now at 0 within ∙ ap (λ i. Some (get_or c.args.nets.now i 0)) (sym place) in
    let below : net < length c.loop-at.device.driven = subst (λ n. net < n) (sym c.loop-at.invariant.size) (c.requires.below c.from.result 0 (omega arith)) in
    record {
      netlist = ap (λ (s : State). s.netlist) c.set_input.ensures ∙ c.loop-at.invariant.netlist;
      held = ap (λ (s : State). s.held) c.set_input.ensures ∙ c.loop-at.invariant.held;
      size = ap (λ (s : State). length s.driven) c.set_input.ensures ∙ length-set c.loop-at.device.driven net c.net_bit.result ∙ c.loop-at.invariant.size;
      driven =
          ap (λ (s : State). valuation s.driven) c.set_input.ensures
          ∙ ap (λ v. valuation (set c.loop-at.device.driven net v)) c.net_bit.ensures
          ∙ put_step c.args.nets.now c.args.bits.now at net c.bit.result c.args.device.now.driven c.loop-at.device.driven is c.bit.ensures below c.loop-at.invariant.driven;
    }

pub returns : goal.returns
returns c =
    let value = c.width-at-end.ensures.value in
    let past = c.loop-at-test.false in
    record {
      netlist = c.loop-at.invariant.netlist;
      held = c.loop-at.invariant.held;
      size = c.loop-at.invariant.size;
      driven = put_all c.args.nets.now c.args.bits.now c.loop-at.at c.args.device.now.driven c.loop-at.device.driven c.requires.width (omega arith) c.loop-at.invariant.driven;
    }
