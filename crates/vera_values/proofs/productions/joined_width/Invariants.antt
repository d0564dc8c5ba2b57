use Rattle.std.proofs.Common.{◌≡◌, ◌+◌, ◌≤◌, drop}
use Rattle.vera_values.specs.Steps.{bits_in}
use Rattle.vera_values.proofs.productions.joined_width.Given as goal

abbrev pub invariant-loop-part : goal.invariant-loop-part
invariant-loop-part l = (l.bits + bits_in (drop l.part-index l.parts) ≡ bits_in l.parts) × (l.bits ≤ 128)
