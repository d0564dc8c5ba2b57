use Rattle.std.proofs.Common.{◌≡◌, drop}
use Rattle.std.specs.List.{list_all}
use Rattle.typing_rules.specs.Arguments.{is_str}
use Rattle.vera_values.proofs.productions.are_strs.Given as goal

abbrev pub invariant-loop-part : goal.invariant-loop-part
invariant-loop-part l = list_all (λ x. is_str x.of) (drop l.part-index l.parts) ≡ list_all (λ x. is_str x.of) l.parts
