use Rattle.std.proofs.Common.{◌≡◌, List}
use Rattle.blif_read.specs.Directives.{Name}
use Rattle.run_rules.specs.Nets.{lowest_nets}
use Rattle.signal_link.specs.Numbering.{IsNumbering}
use Rattle.signal_link.proofs.numbers.NetNumbers.nets_of.Given as goal

abbrev pub invariant-loop-bit : goal.invariant-loop-bit
invariant-loop-bit l = (known : List Name) → IsNumbering l.self known → l.nets.items ≡ lowest_nets known l.signal l.bit
