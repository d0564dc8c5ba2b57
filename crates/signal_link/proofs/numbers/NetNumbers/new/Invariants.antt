use Rattle.std.proofs.Common.{take}
use Rattle.signal_link.specs.Numbering.{FindsFirst}
use Rattle.signal_link.proofs.numbers.NetNumbers.new.Given as goal

abbrev pub invariant-loop-number : goal.invariant-loop-number
invariant-loop-number l = FindsFirst l.numbers (take l.number l.nets)
