use Rattle.vera_types.proofs.OutlineSteps.{interface_leads}
use Rattle.vera_types.proofs.outlines.with_interface.Goals as goal

pub returns-in-Interface : goal.returns-in-Interface
returns-in-Interface c left = interface_leads c.args.scopes.now c.args.known.count c.args.item.now c.in-Interface.interface _ left c.args.known.interfaces.items _ _ c.in-Interface.is c.as_slice.ensures (c.with_signals.ensures left)
