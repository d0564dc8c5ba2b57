use Rattle.std.proofs.Common.{◌<◌, All, Contains, length, ap, sym, ◌∙◌, subst, refl, arith}
use Rattle.blif_device.specs.Valuations.{valuation}
use Rattle.run_rules.specs.Nets.{put_bits}
use Rattle.signal_link.specs.declared.linking.SignalNets.{SignalNets}
use Rattle.plain_run.proofs.Applying.{last_is, signal_below, signal_at, inputs_there, nets_below, nets_many, may_join, joined_fits, one_more_applied}
use Rattle.plain_run.proofs.ApplyingAll.{begins_set}
use Rattle.plain_run.proofs.outside.Outside.apply.Goals as goal

pub joined-bits-requires : goal.joined-bits-requires
joined-bits-requires c = λ l is same.
    let r = c.requires in
    let size = r.applied.stands.signals_size in
    let below = signal_below r.design.signals c.args.drive.now.signal c.args.drive.now.bits r.fits in
    may_join c.args.self.now r.design r.former r.held r.done c.args.drive.now r.applied r.fits l
    (last_is c.args.self.now.driven.items c.args.drive.now.signal c.index.result.now (omega (arith, size, below)) c.index.ensures ∙ is)

pub index_mut-requires : goal.index_mut-requires
index_mut-requires c =
    let r = c.requires in
    let size = r.applied.stands.signals_size in
    let below = signal_below r.design.signals c.args.drive.now.signal c.args.drive.now.bits r.fits in
    let kept = c.args.self.now.driven.ok.0 in
    omega (arith, size, below, kept)

pub bounds-nets-signal : goal.bounds-nets-signal
bounds-nets-signal c =
    let r = c.requires in
    let size = r.applied.stands.linked.nets.length in
    let below = signal_below r.design.signals c.args.drive.now.signal c.args.drive.now.bits r.fits in
    omega (arith, size, below)

pub put-requires-clause-inputs : goal.put-requires-clause-inputs
put-requires-clause-inputs c =
    let r = c.requires in
    let found = signal_at r.design.netlist.nets r.design.signals c.args.self.now.nets.now c.args.drive.now.signal r.fits.named c.index-nets-signal.result r.applied.stands.linked.nets r.fits.is c.index-nets-signal.is in
    let its = c.as_slice.ensures ∙ ap (λ (s : SignalNets). s.nets) (sym c.index-nets-signal.is ∙ found) in
    subst (λ ks. All (λ net. Contains c.args.self.now.device.netlist.inputs net) ks) (sym its)
    (inputs_there c.args.self.now r.design _ r.held c.args.drive.now.signal c.args.drive.now.bits r.applied.stands r.fits)

pub put-requires-clause-below : goal.put-requires-clause-below
put-requires-clause-below c =
    let r = c.requires in
    let found = signal_at r.design.netlist.nets r.design.signals c.args.self.now.nets.now c.args.drive.now.signal r.fits.named c.index-nets-signal.result r.applied.stands.linked.nets r.fits.is c.index-nets-signal.is in
    let its = c.as_slice.ensures ∙ ap (λ (s : SignalNets). s.nets) (sym c.index-nets-signal.is ∙ found) in
    subst (λ ks. All (λ net. net < length c.args.self.now.device.driven) ks) (sym its)
    (nets_below c.args.self.now r.design _ r.held c.args.drive.now.signal c.args.drive.now.bits r.applied.stands r.fits)

pub put-requires-clause-width : goal.put-requires-clause-width
put-requires-clause-width c =
    let r = c.requires in
    let found = signal_at r.design.netlist.nets r.design.signals c.args.self.now.nets.now c.args.drive.now.signal r.fits.named c.index-nets-signal.result r.applied.stands.linked.nets r.fits.is c.index-nets-signal.is in
    let its = c.as_slice.ensures ∙ ap (λ (s : SignalNets). s.nets) (sym c.index-nets-signal.is ∙ found) in
    let size = r.applied.stands.signals_size in
    let below = signal_below r.design.signals c.args.drive.now.signal c.args.drive.now.bits r.fits in
    let last = last_is c.args.self.now.driven.items c.args.drive.now.signal c.index.result.now (omega (arith, size, below)) c.index.ensures in
    let fits = joined_fits c.args.self.now r.design r.former r.held r.done c.args.drive.now r.applied r.fits c.index.result.now last in
    ap (λ ks. length ks) its
    ∙ nets_many c.args.self.now r.design _ r.held c.args.drive.now.signal c.args.drive.now.bits r.applied.stands r.fits
    ∙ fits
    ∙ sym (ap (λ bits. length bits) c.joined-bits.ensures)

pub returns-clause-applied : goal.returns-clause-applied
returns-clause-applied c = λ design former held done fits before.
    let size = before.stands.signals_size in
    let below = signal_below design.signals c.args.drive.now.signal c.args.drive.now.bits fits in
    let last = last_is c.args.self.now.driven.items c.args.drive.now.signal c.index.result.now (omega (arith, size, below)) c.index.ensures in
    one_more_applied c.args.self.now _ design former held done c.args.drive.now c.index.result.now c.joined-bits.result fits last c.joined-bits.ensures
    (λ s linked is.
    let found = signal_at design.netlist.nets design.signals c.args.self.now.nets.now c.args.drive.now.signal s c.index-nets-signal.result linked.nets is c.index-nets-signal.is in
    let its = c.as_slice.ensures ∙ ap (λ (n : SignalNets). n.nets) (sym c.index-nets-signal.is ∙ found) in
    record {
      nets = refl;
      count = refl;
      netlist = c.put.ensures.netlist;
      held = c.put.ensures.held;
      size = c.put.ensures.size;
      put = c.put.ensures.driven ∙ ap (λ ks. put_bits ks c.joined-bits.result (valuation c.args.self.now.device.driven)) its;
      driven = refl;
    })
    before

pub returns-clause-begins : goal.returns-clause-begins
returns-clause-begins c = λ cycle before begins. begins_set c.args.self.now.driven.items c.args.drive.now.signal (record { cycle = c.args.drive.now.cycle; bits = c.joined-bits.result }) cycle before begins
