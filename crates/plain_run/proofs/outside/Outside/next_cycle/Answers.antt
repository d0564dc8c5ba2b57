use Rattle.std.proofs.Common.{◌≡◌, ◌≤◌, length, ap, subst, refl, arith}
use Rattle.blif_device.specs.Devices.{State}
use Rattle.blif_device.specs.Valuations.{valuation}
use Rattle.run_rules.specs.Designs.{on_nets}
use Rattle.plain_run.specs.Values.{contents_of}
use Rattle.plain_run.proofs.Beginning.{Sampled, signal_width, sampled_goes_on, next_begins}
use Rattle.plain_run.proofs.outside.Outside.next_cycle.Goals as goal

pub take_sample-requires-clause-some : goal.take_sample-requires-clause-some
take_sample-requires-clause-some c =
    let stands = c.requires.3 in
    (signal_width c.requires.0.netlist.nets c.requires.0.signals c.args.self.now.nets.now c.loop-signal.signal c.index-nets-signal.result stands.linked.nets (omega arith) c.index-nets-signal.is).0

pub take_sample-requires-clause-few : goal.take_sample-requires-clause-few
take_sample-requires-clause-few c =
    let stands = c.requires.3 in
    (signal_width c.requires.0.netlist.nets c.requires.0.signals c.args.self.now.nets.now c.loop-signal.signal c.index-nets-signal.result stands.linked.nets (omega arith) c.index-nets-signal.is).1

pub loop-signal-preserved : goal.loop-signal-preserved
loop-signal-preserved c =
    let h = c.in_ok-take_sample.ensures in
    sampled_goes_on c.args.self.now.nets.now (on_nets c.args.self.now.count (valuation c.settle.new.self.values)) c.loop-signal.signal (contents_of c.args.values.now) (contents_of c.loop-signal.values) _ c.index-nets-signal.result (omega arith) c.index-nets-signal.is h c.loop-signal.invariant

pub returns-clause-next : goal.returns-clause-next
returns-clause-next c = λ design driven held settles stands.
    let past : length c.args.self.now.nets.now ≤ c.loop-signal.signal = c.loop-signal-test.false in
    let all : c.loop-signal.signal ≡ length c.args.self.now.nets.now = omega arith in
    next_begins c.args.self.now _ c.settle.new.self design driven held (contents_of c.args.values.now) (contents_of c.loop-signal.values) settles stands refl refl refl
    (record {
      netlist = ap (λ (s : State). s.netlist) c.settle.ensures.others;
      driven = ap (λ (s : State). s.driven) c.settle.ensures.others;
      held = ap (λ (s : State). s.held) c.settle.ensures.others;
      tells = c.settle.ensures.settled;
    })
    (record {
      netlist = ap (λ (s : State). s.netlist) c.edge.ensures;
      driven = ap (λ (s : State). s.driven) c.edge.ensures;
      held = ap (λ (s : State). s.held) c.edge.ensures;
    })
    (subst (λ n. Sampled c.args.self.now.nets.now (on_nets c.args.self.now.count (valuation c.settle.new.self.values)) n (contents_of c.args.values.now) (contents_of c.loop-signal.values)) all c.loop-signal.invariant)
