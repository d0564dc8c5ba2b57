use Rattle.std.proofs.Common.{◌≡◌, drop}
use Rattle.std.specs.List.{list_all}
use Rattle.typing_rules.specs.Types.{is_vector}
use Rattle.vera_values.proofs.productions.are_vectors.Given as goal

abbrev pub invariant-loop-part : goal.invariant-loop-part
invariant-loop-part l = list_all (λ x. is_vector x.of) (drop l.part-index l.parts) ≡ list_all (λ x. is_vector x.of) l.parts
