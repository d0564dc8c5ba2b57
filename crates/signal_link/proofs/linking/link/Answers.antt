use Rattle.std.proofs.lemmas.Result.{err_from_is_err_and}
use Rattle.std.proofs.Common.{◌≡◌, ap, ◌+◌, Result, Err, List, ◌++◌, subst, map, take, drop, refl, arith, sym}
use Rattle.std.proofs.lemmas.List.{take_all}
use Rattle.std.proofs.Common.{◌∙◌}
use Rattle.vera_ast.specs.declared.typed.file.TypedItem.{TypedItem}
use Rattle.vera_ast.specs.Signals.{NamedSignal, signals_in}
use Rattle.blif_read.specs.Reading.{parts_of}
use Rattle.std.specs.Prelude.{IfErr}
use Rattle.signal_link.specs.declared.linking.LinkError.{LinkError}
use Rattle.signal_link.specs.declared.linking.SignalNets.{SignalNets}
use Rattle.signal_link.specs.Linked.{IsLinkError}
use Rattle.signal_link.specs.Linking.{Continues, AreLinked}
use Rattle.signal_link.proofs.Labelled.{signals-more, signals-rest}
use Rattle.signal_link.proofs.Orders.{refused_more, link_error, are_nets}
use Rattle.signal_link.proofs.linking.link.Goals as goal

pub returns-in_err-link_item-clause-unlinked : goal.returns-in_err-link_item-clause-unlinked
returns-in_err-link_item-clause-unlinked c =
    let p = parts_of c.args.netlist.now in
    let items = c.as_slice-item-items.result.now in
    let x = err_from_is_err_and c.from_residual-in_err-link_item.result c.from_residual-in_err-link_item.ensures.1 in
    let same : c.from_residual-in_err-link_item.result ≡ Err c.in_err-link_item.field-0.0 = x.1 ∙ ap (λ (e : LinkError). Err e) x.2 in
    let stays = refused_more p _ (signals_in (drop (c.loop-item.item-index + 1) items)) c.link_item.new.found c.link_item.new.found c.in_err-link_item.field-0.0
    (c.in_err-link_item.ensures p (signals_in (take c.loop-item.item-index items)) c.in_ok-linker.ensures (c.loop-item.invariant p c.in_ok-linker.ensures)) in
    let whole = signals-rest items c.loop-item.item-index c.item-item.result (omega arith) c.item-item.is ∙ ap signals_in c.as_slice-item-items.ensures in
    let refused = link_error p (signals_in c.args.tree.now.items) c.link_item.new.found c.in_err-link_item.field-0.0
    (subst (λ (xs : List NamedSignal). Continues p xs c.link_item.new.found (Err c.in_err-link_item.field-0.0)) whole stays) in
    subst (λ (r : Result (List SignalNets) LinkError). IfErr r (λ e. IsLinkError p (signals_in c.args.tree.now.items) e)) (sym same) refused

pub loop-item-preserved : goal.loop-item-preserved
loop-item-preserved c = λ p h.
    subst (λ (xs : List NamedSignal). AreLinked p xs c.link_item.new.found)
    (sym (signals-more c.as_slice-item-items.result.now c.loop-item.item-index c.item-item.result (omega arith) c.item-item.is))
    (c.in_ok-link_item.ensures p (signals_in (take c.loop-item.item-index c.as_slice-item-items.result.now)) h (c.loop-item.invariant p h))

pub returns-clause-linked : goal.returns-clause-linked
returns-clause-linked c =
    let linked = subst (λ (items : List TypedItem). AreLinked (parts_of c.args.netlist.now) (signals_in items) c.loop-item.found)
    (take_all c.loop-item.item-index c.as_slice-item-items.result.now (omega arith) ∙ c.as_slice-item-items.ensures)
    (c.loop-item.invariant (parts_of c.args.netlist.now) c.in_ok-linker.ensures) in
    (linked.all, are_nets (parts_of c.args.netlist.now) (signals_in c.args.tree.now.items) c.loop-item.found linked)
