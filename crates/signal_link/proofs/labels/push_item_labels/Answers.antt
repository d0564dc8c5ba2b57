use Rattle.std.proofs.Common.{List, ℕ, ◌≡◌, ◌++◌, subst}
use Rattle.std.specs.Prelude.{OnOk}
use Rattle.signal_link.proofs.Labelled.{item_names}
use Rattle.signal_link.proofs.labels.push_item_labels.Goals as goal

pub returns-in-Interface : goal.returns-in-Interface
returns-in-Interface c =
    subst (λ (ls : List (List ℕ)). OnOk c.push_labels.result (c.push_labels.new.names.items ≡ c.args.names.now.items ++ ls))
    (item_names c.args.item.now c.in-Interface.interface c.in-Interface.is) c.push_labels.ensures
