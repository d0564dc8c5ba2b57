use Rattle.std.proofs.Common.{◌≡◌, drop}
use Rattle.vera_names.specs.Named.{seen}
use Rattle.typing_rules.specs.Scopes.{meaning_of}
use Rattle.vera_names.proofs.scope.meaning_among.Given as goal

-- the scopes that are left tell what all do
abbrev pub invariant-loop-scope : goal.invariant-loop-scope
invariant-loop-scope l = meaning_of (seen (drop l.scope-index l.scopes)) l.name ≡ meaning_of (seen l.scopes) l.name
