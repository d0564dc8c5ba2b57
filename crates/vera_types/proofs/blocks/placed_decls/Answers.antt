use Rattle.std.proofs.Common.{ℕ, ◌+◌, ◌++◌, ◌∷◌, [], ap, ◌∙◌}
use Rattle.vera_types.proofs.BlockSteps.{decls_go, decls_short, decls_end}
use Rattle.typing_rules.specs.Blocks.{PlacedDecl, placed_decls}
use Rattle.vera_types.specs.StmtForms.{place_at}
use Rattle.vera_types.proofs.blocks.placed_decls.Goals as goal

pub returns-in-None : goal.returns-in-None
returns-in-None c =
    decls_short (place_at c.args.owner) c.loop-at.number c.loop-at.at c.args.decls.now c.args.types.now c.loop-at.done _ c.in-None.ensures.lookup.3 c.loop-at.invariant

pub loop-at-preserved : goal.loop-at-preserved
loop-at-preserved c =
    decls_go (place_at c.args.owner) c.loop-at.number c.in_ok-number-in-Some.number c.loop-at.at c.args.decls.now c.args.types.now c.index-decls-at.result c.in-Some.of.now c.loop-at.done c.push.new.self (placed_decls (place_at c.args.owner) c.args.first c.args.decls.now c.args.types.now)
    c.loop-at-test.true c.index-decls-at.is c.in-Some.ensures.lookup.3.0 c.in-Some.ensures.lookup.1
    (c.in_ok-number-in-Some.ensures ∙ ap (λ (k : ℕ). c.loop-at.number + k) c.len.ensures)
    (c.in_ok-push-in-Some.ensures.ok ∙ ap (λ (d : PlacedDecl). c.loop-at.done ++ d ∷ []) c.in_ok-placed_decl-in-Some.ensures)
    c.loop-at.invariant

pub returns : goal.returns
returns c =
    decls_end (place_at c.args.owner) c.loop-at.number c.loop-at.at c.args.decls.now c.args.types.now c.loop-at.done _ c.loop-at-test.false c.loop-at.invariant
