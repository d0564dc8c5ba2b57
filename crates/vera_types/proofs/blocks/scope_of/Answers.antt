use Rattle.std.proofs.Common.{List, ◌++◌, map, ap, ◌∙◌}
use Rattle.typing_rules.specs.Blocks.{Placed, name_of, scope_of}
use Rattle.vera_types.proofs.BlockSteps.{scopes_go, scopes_end}
use Rattle.vera_types.proofs.blocks.scope_of.Goals as goal

pub loop-decl-preserved : goal.loop-decl-preserved
loop-decl-preserved c =
    scopes_go c.args.decls.now c.loop-decl.decl-index c.decl-item.result c.loop-decl.scope c.in_ok-scope.scope (scope_of c.args.decls.now) c.loop-decl-test.true c.decl-item.is
    (c.in_ok-scope.ensures ∙ ap (λ (ps : List Placed). c.loop-decl.scope ++ map name_of ps) c.variables.ensures) c.loop-decl.invariant

pub returns : goal.returns
returns c = scopes_end c.args.decls.now c.loop-decl.decl-index c.loop-decl.scope _ c.loop-decl-test.false c.loop-decl.invariant
