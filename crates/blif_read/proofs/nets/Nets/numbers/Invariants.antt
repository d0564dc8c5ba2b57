use Rattle.std.proofs.Common.{take}
use Rattle.blif_read.specs.Known.{NumbersAll}
use Rattle.blif_read.proofs.nets.Nets.numbers.Given as goal

abbrev pub invariant-loop-name : goal.invariant-loop-name
invariant-loop-name l = NumbersAll l.fn.self l.self (take l.name-index l.names) l.numbers.items
