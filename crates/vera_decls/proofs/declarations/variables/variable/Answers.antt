use Rattle.std.proofs.Common.{◌∷◌, subst, arith}
use Rattle.std.proofs.lemmas.Result.{err_from_is_err_and}
use Rattle.vera_decls.proofs.WalkParts.{variable_stops, variable_over, variable_stands}
use Rattle.typing_rules.specs.Scopes.{Name}
use Rattle.vera_names.specs.NameSets.{SameNames}
use Rattle.vera_decls.proofs.declarations.variables.variable.Goals as goal

pub returns-in_err-variable_type : goal.returns-in_err-variable_type
returns-in_err-variable_type c = λ d typed before same.
    let p = err_from_is_err_and c.from_residual.result c.from_residual.ensures.1 in
    rw (p.1, p.2) (variable_stops c.args.count c.args.scopes.now before d c.args.of c.args.variable.now _ typed (c.in_err-variable_type.ensures before same))

pub returns-in_err-count : goal.returns-in_err-count
returns-in_err-count c = λ d typed before same.
    let p = err_from_is_err_and c.from_residual-in_err-count.result c.from_residual-in_err-count.ensures.1 in
    rw (p.1, p.2) (variable_over c.args.count c.args.scopes.now before d c.args.of c.args.variable.now _ _ typed (c.in_ok-variable_type.ensures before same) c.in_err-count.ensures.0 c.in_err-count.ensures.1)

pub returns : goal.returns
returns c = λ d typed before same. (
  variable_stands c.args.count c.args.scopes.now before d c.args.of c.args.variable.now _ _ typed (c.in_ok-variable_type.ensures before same) c.in_ok-count.ensures.0 c.in_ok-count.ensures.1,
  omega (arith, c.in_ok-count.ensures.0, c.in_ok-count.ensures.1),
  subst (λ (n : Name). SameNames (n ∷ before) c.in_ok-names.names) c.as_slice.ensures (c.in_ok-names.ensures before same),
)
