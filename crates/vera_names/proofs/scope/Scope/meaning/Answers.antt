use Rattle.std.proofs.Common.{sym}
use Rattle.vera_names.proofs.ScopeMaps.{meaning_absent, meaning_found}
use Rattle.vera_names.proofs.scope.Scope.meaning.Goals as goal

pub returns-in_err-place : goal.returns-in_err-place
returns-in_err-place c = let e = meaning_absent c.self.inside.names.items _ c.args.name.now c.self.invariant (sym c.in_err-place.ensures.value) in cc

pub returns : goal.returns
returns c = let e = meaning_found c.self.inside.names.items _ c.args.name.now _ c.self.invariant (sym c.in_ok-place.ensures.value) in cc
