use Rattle.std.proofs.Common.{subst, Option}
use Rattle.vera_ast.specs.declared.typed.interface.TypedSignal.{TypedSignal}
use Rattle.run_rules.specs.Links.{Links}
use Rattle.signal_link.specs.declared.linking.SignalNets.{SignalNets}
use Rattle.signal_link.specs.Linking.{IsAnswerFor}
use Rattle.signal_link.proofs.Orders.{linked_next, stops_by}
use Rattle.signal_link.proofs.linking.Linker.link_signal.Goals as goal

pub returns-in_ok-push-in-Some : goal.returns-in_ok-push-in-Some
returns-in_ok-push-in-Some c = λ p known s h l e.
    let answer = subst (λ (o : Option SignalNets). IsAnswerFor p c.args.signal.now o) c.in-Some.is (c.in_ok-nets.ensures p h) in
    linked_next p known c.args.found.now _ s c.args.signal.now c.in-Some.nets l e answer c.in_ok-push-in-Some.ensures.ok

pub returns-in-None : goal.returns-in-None
returns-in-None c = λ p known s h l e.
    let answer = subst (λ (o : Option SignalNets). IsAnswerFor p c.args.signal.now o) c.in-None.is (c.in_ok-nets.ensures p h) in
    stops_by p known c.args.found.now c.args.found.now s c.len.result _ l (λ k. answer (subst (λ (t : TypedSignal). Links p t) e k)) c.len.ensures c.unlinked.ensures
