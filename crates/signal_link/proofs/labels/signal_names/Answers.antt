use Rattle.std.proofs.Common.{arith}
use Rattle.signal_link.proofs.Labelled.{names-more}
use Rattle.signal_link.proofs.labels.signal_names.Goals as goal

pub loop-item-preserved : goal.loop-item-preserved
loop-item-preserved c =
    names-more c.as_slice-item-items.result.now c.loop-item.item-index c.item-item.result c.loop-item.names.items c.push_item_labels.new.names.items
    (omega arith) c.item-item.is c.loop-item.invariant c.in_ok-push_item_labels.ensures
