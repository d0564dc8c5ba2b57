use Rattle.signal_link.proofs.Allowed.{used_output, used_input}
use Rattle.signal_link.proofs.roles.Roles.allow_nets.Goals as goal

pub returns-in-Output : goal.returns-in-Output
returns-in-Output c = λ p h. used_output p _ _ c.args.nets.now _ _ c.in-Output.is h.drivable c.deref.ensures.value c.all_marked.ensures

pub returns-in-Input : goal.returns-in-Input
returns-in-Input c = λ p h. used_input p _ _ c.args.nets.now _ _ c.in-Input.is h.sampled c.deref-in-Input.ensures.value c.all_marked-in-Input.ensures
