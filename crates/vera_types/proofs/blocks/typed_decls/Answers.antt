use Rattle.std.proofs.Common.{rules}
use Rattle.std.specs.Prelude.{Err}
use Rattle.typing_rules.specs.Answers.{Answers}
use Rattle.typing_rules.specs.Checked.{each}
use Rattle.typing_rules.specs.Blocks.{typed_decl, typed_decls}
use Rattle.vera_names.proofs.Items.{each_ends}
use Rattle.vera_steps.proofs.Carried.{carried_stops, carried_goes}
use Rattle.vera_types.proofs.blocks.typed_decls.Goals as goal

pub returns-in_err-before : goal.returns-in_err-before
unfolding typed_decls
returns-in_err-before c =
    let h : Answers (each (typed_decl c.args.sight.now) c.args.decls.now) (Err c.in_err-before.field-0.0) = carried_stops (typed_decl c.args.sight.now) c.args.decls.now c.loop-decl.decl-index c.decl-item.result _ c.loop-decl.typed _ _ c.loop-decl-test.true c.decl-item.is c.typed_decl.ensures c.in_err-before.ensures.refused c.loop-decl.invariant in
    search rules

pub loop-decl-preserved : goal.loop-decl-preserved
loop-decl-preserved c =
    carried_goes (typed_decl c.args.sight.now) c.args.decls.now c.loop-decl.decl-index c.decl-item.result _ _ c.loop-decl.typed _ _ _ c.loop-decl-test.true c.decl-item.is c.typed_decl.ensures c.in_ok-before.ensures.second c.in_ok-before.ensures.first c.in_ok-typed.ensures c.loop-decl.invariant

pub returns : goal.returns
unfolding typed_decls
returns c = each_ends _ _ _ _ _ c.loop-decl-test.false c.loop-decl.invariant
