use Rattle.std.proofs.Common.{◌≡◌, drop}
use Rattle.typing_rules.specs.Checked.{keeps}
use Rattle.vera_names.proofs.rules.keeps.Given as goal

-- the rules that are left tell what all do
abbrev pub invariant-loop-code : goal.invariant-loop-code
invariant-loop-code l = keeps l.line (drop l.code-index l.rules) ≡ keeps l.line l.rules
