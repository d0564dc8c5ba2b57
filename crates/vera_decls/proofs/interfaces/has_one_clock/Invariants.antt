use Rattle.std.proofs.Common.{◌≡◌, drop}
use Rattle.vera_decls.proofs.InterfaceSteps.{one_so_far, clocks_in}
use Rattle.typing_rules.specs.Interfaces.{is_one_clock}
use Rattle.vera_decls.proofs.interfaces.has_one_clock.Given as goal

abbrev pub invariant-loop-signal : goal.invariant-loop-signal
invariant-loop-signal l = one_so_far l.found (clocks_in (drop l.signal-index l.signals)) ≡ is_one_clock (clocks_in l.signals)
