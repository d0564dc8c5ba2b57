use Rattle.std.proofs.Common.{◌≡◌, drop}
use Rattle.vera_names.specs.Named.{seen}
use Rattle.typing_rules.specs.Scopes.{callee_of}
use Rattle.vera_names.proofs.scope.callee_among.Given as goal

-- the scopes that are left tell what all do
abbrev pub invariant-loop-scope : goal.invariant-loop-scope
invariant-loop-scope l = callee_of (seen (drop l.scope-index l.scopes)) l.name ≡ callee_of (seen l.scopes) l.name
