use Rattle.std.proofs.Common.{ℕ, ◌+◌, ◌++◌, ◌∷◌, [], ap, ◌∙◌}
use Rattle.vera_types.proofs.BlockSteps.{placed_goes, placed_short, placed_ends}
use Rattle.typing_rules.specs.Blocks.{Placed, placed}
use Rattle.vera_types.specs.StmtForms.{place_at}
use Rattle.vera_types.proofs.blocks.placed_variables.Goals as goal

pub returns-in-None : goal.returns-in-None
returns-in-None c =
    placed_short (place_at c.args.owner) (c.args.first + c.loop-at.at) c.loop-at.at c.args.variables.now c.args.types.now c.loop-at.done _ c.in-None.ensures.lookup.3 c.loop-at.invariant

pub loop-at-preserved : goal.loop-at-preserved
loop-at-preserved c =
    placed_goes (place_at c.args.owner) c.args.first c.loop-at.at c.args.variables.now c.args.types.now c.index-variables-at.result c.in-Some.of.now c.loop-at.done c.push.new.self (placed (place_at c.args.owner) c.args.first c.args.variables.now c.args.types.now)
    c.loop-at-test.true c.index-variables-at.is c.in-Some.ensures.lookup.3.0 c.in-Some.ensures.lookup.1
    (c.in_ok-push-in-Some.ensures.ok ∙ ap (λ (p : Placed). c.loop-at.done ++ p ∷ []) c.placed_at.ensures
    ∙ ap (λ (n : ℕ). c.loop-at.done ++ record { variable = c.index-variables-at.result; place = place_at c.args.owner n; of = c.in-Some.of.now } ∷ []) c.in_ok-number-in-Some.ensures)
    c.loop-at.invariant

pub returns : goal.returns
returns c =
    placed_ends (place_at c.args.owner) (c.args.first + c.loop-at.at) c.loop-at.at c.args.variables.now c.args.types.now c.loop-at.done _ c.loop-at-test.false c.loop-at.invariant
