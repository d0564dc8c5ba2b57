use Rattle.vera_decls.proofs.ItemWalks.{signal_walks, interface_signals}
use Rattle.vera_decls.proofs.declarations.with_signals.Goals as goal

pub returns-in-Interface : goal.returns-in-Interface
returns-in-Interface c =
    signal_walks c.args.scopes.now c.args.outputs c.args.signals c.args.count c.as_slice.result.now _ c.signals.result
    (interface_signals c.args.of.now c.in-Interface.of c.as_slice.result.now c.in-Interface.is c.as_slice.ensures) c.signals.ensures
