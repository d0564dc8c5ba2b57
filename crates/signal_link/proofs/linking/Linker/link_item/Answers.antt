use Rattle.std.proofs.Common.{List, ◌++◌, subst}
use Rattle.vera_ast.specs.Signals.{NamedSignal}
use Rattle.signal_link.specs.Linking.{Continues, AreLinked}
use Rattle.signal_link.proofs.Labelled.{interface_signals, other_signals}
use Rattle.signal_link.proofs.linking.Linker.link_item.Goals as goal

pub returns-in-Interface : goal.returns-in-Interface
returns-in-Interface c = λ p known h l.
    subst (λ (xs : List NamedSignal). Continues p (known ++ xs) c.link_signals.new.found c.link_signals.result)
    (interface_signals c.args.item.now c.in-Interface.interface c.as_slice.result.now c.in-Interface.is c.as_slice.ensures)
    (c.link_signals.ensures p known c.in-Interface.interface.name h l)

pub returns-in_default : goal.returns-in_default
returns-in_default c = λ p known h l.
    subst (λ (xs : List NamedSignal). AreLinked p xs c.args.found.now) (other_signals known c.args.item.now c.in_default.not-Interface) l
