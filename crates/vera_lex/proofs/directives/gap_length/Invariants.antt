use Rattle.std.proofs.Common.{◌≡◌, ◌+◌, ◌-◌, ◌≤◌, drop, length, false}
use Rattle.vera_lex.specs.Directives.{gap}
use Rattle.vera_lex.proofs.directives.gap_length.Given as goal

abbrev pub invariant-gap : goal.invariant-gap
invariant-gap l = record {
  read : l.at + gap l.inside (drop l.at l.bytes) ≡ gap false l.bytes;
  within : l.at ≤ length l.bytes;
}

abbrev pub decreases-gap : goal.decreases-gap
decreases-gap l = length l.bytes - l.at
