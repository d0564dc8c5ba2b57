use Rattle.std.proofs.Common.{◌≡◌, ◌++◌, take}
use Rattle.blif_read.proofs.parts.push_numbers.Given as goal

abbrev pub invariant-loop-net : goal.invariant-loop-net
invariant-loop-net l = l.numbers.items ≡ l.fn.numbers.items ++ take l.net-index l.nets
