use Rattle.std.proofs.Common.{List, ◌++◌, map, subst}
use Rattle.std.proofs.lemmas.Result.{err_from_is_err_and}
use Rattle.vera_ast.specs.declared.tree.declarations.Variable.{Variable}
use Rattle.vera_decls.proofs.WalkParts.{rules_stop, rules_stand, stops_first, walks_behind}
use Rattle.typing_rules.specs.Declarations.{variable_parts}
use Rattle.vera_decls.specs.Walks.{Walks}
use Rattle.vera_names.specs.NameSets.{SameNames}
use Rattle.vera_decls.specs.declared.declarations.counting.Walked.{Walked}
use Rattle.vera_decls.proofs.declarations.variables.decl.Goals as goal

pub returns-in_err-of : goal.returns-in_err-of
returns-in_err-of c = λ before same.
    let p = err_from_is_err_and c.from_residual.result c.from_residual.ensures.1 in
    rw (p.1, p.2) (stops_first c.args.count _ _ _ (rules_stop c.args.count c.args.decl.now.line _ _ c.in_err-of.ensures))

pub returns : goal.returns
returns c = λ before same.
    let P : List Variable → Type 0 = λ vs. Walks (λ (w : Walked). w.count) (λ (w : Walked). SameNames (map (λ v. v.name) vs ++ before) w.names) c.args.count (variable_parts c.args.scopes.now before c.args.decl.now.of vs) c.variables.result in
    walks_behind (λ (w : Walked). w.count) (λ (w : Walked). SameNames (map (λ v. v.name) c.args.decl.now.variables ++ before) w.names) c.args.count _ _ c.args.count c.variables.result
    (rules_stand c.args.count c.args.decl.now.line _ _ c.in_ok-of.ensures c.requires) (subst P c.as_slice.ensures (c.variables.ensures _ c.in_ok-of.ensures before same))
