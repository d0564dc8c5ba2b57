use Rattle.std.proofs.Common.{◌≤◌}
use Rattle.four_state.proofs.LiteralReads.{HasRead}
use Rattle.four_state.proofs.vec4.literals.by_places.Given as goal

abbrev pub invariant-loop-digit : goal.invariant-loop-digit
invariant-loop-digit l = record {
  read : HasRead l.places l.digits l.digit-index l.count l.ones l.unknown;
  counted : l.count ≤ l.digit-index;
}
