use Rattle.std.proofs.Common.{[], arith}
use Rattle.std.proofs.lemmas.Result.{err_from_is_err_and}
use Rattle.vera_decls.proofs.Families.{put_item, items_first, items_none}
use Rattle.vera_decls.proofs.Going.{goes_start, goes_on, goes_stops, goes_end}
use Rattle.vera_decls.proofs.ItemWalks.{no_file_names, no_outputs, declarations_stop, declarations_pass}
use Rattle.typing_rules.specs.Declarations.{item_parts, parts_behind}
use Rattle.typing_rules.specs.FileNames.{file_names, signals_in}
use Rattle.vera_decls.specs.Walks.{OutputsStand}
use Rattle.vera_names.specs.NameSets.{SameNames}
use Rattle.vera_decls.proofs.declarations.declarations.Goals as goal

pub loop-next-init : goal.loop-next-init
loop-next-init c =
    goes_start (parts_behind c.args.scopes.now) put_item [] c.args.items.now 0 (λ s. SameNames (file_names s) c.new.result × OutputsStand (signals_in s) c.new-2.result 0) (omega arith)
    (no_file_names c.new.result c.new.ensures, no_outputs c.new-2.result c.new-2.ensures)

pub item-requires : goal.item-requires
item-requires c = c.loop-next.invariant.within

pub loop-next-preserved : goal.loop-next-preserved
loop-next-preserved c =
    goes_on (parts_behind c.args.scopes.now) (item_parts c.args.scopes.now) put_item [] c.args.items.now 0
    (λ s. SameNames (file_names s) c.loop-next.filed.names × OutputsStand (signals_in s) c.loop-next.filed.outputs c.loop-next.filed.signals)
    (λ s. SameNames (file_names s) c.in_ok-filed.filed.names × OutputsStand (signals_in s) c.in_ok-filed.filed.outputs c.in_ok-filed.filed.signals)
    c.loop-next.next-index c.loop-next.filed.count c.in_ok-filed.filed.count c.next-item.result (items_first c.args.scopes.now) (omega arith) c.next-item.is c.loop-next.invariant
    (λ s h. c.in_ok-filed.ensures s h.0 h.1)

pub returns-in_err-filed : goal.returns-in_err-filed
returns-in_err-filed c =
    let p = err_from_is_err_and c.from_residual.result c.from_residual.ensures.1 in
    rw (p.1, p.2) (declarations_stop c.args.scopes.now c.args.items.now _ (goes_stops (parts_behind c.args.scopes.now) (item_parts c.args.scopes.now) put_item [] c.args.items.now 0
    (λ s. SameNames (file_names s) c.loop-next.filed.names × OutputsStand (signals_in s) c.loop-next.filed.outputs c.loop-next.filed.signals)
    c.loop-next.next-index c.loop-next.filed.count c.next-item.result _ (items_first c.args.scopes.now) (omega arith) c.next-item.is c.loop-next.invariant
    (λ s h. c.in_err-filed.ensures s h.0 h.1)))

pub returns : goal.returns
returns c =
    let all = goes_end (parts_behind c.args.scopes.now) put_item [] c.args.items.now 0
    (λ s. SameNames (file_names s) c.loop-next.filed.names × OutputsStand (signals_in s) c.loop-next.filed.outputs c.loop-next.filed.signals) c.loop-next.next-index c.loop-next.filed.count
    (items_none c.args.scopes.now) (omega arith) c.loop-next.invariant in
    declarations_pass c.args.scopes.now c.args.items.now c.loop-next.filed.count all.0
