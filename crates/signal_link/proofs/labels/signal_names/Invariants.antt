use Rattle.std.proofs.Common.{◌≡◌, map, take, Some}
use Rattle.vera_ast.specs.Signals.{signals_in}
use Rattle.run_rules.specs.Reports.{signal_name}
use Rattle.signal_link.proofs.labels.signal_names.Given as goal

abbrev pub invariant-loop-item : goal.invariant-loop-item
invariant-loop-item l = l.names.items ≡ map (λ s. signal_name (Some s)) (signals_in (take l.item-index l.item-items))
