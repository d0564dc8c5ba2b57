use Rattle.std.proofs.Common.{sym, ◌∙◌, length, arith}
use Rattle.vera_names.proofs.Descents.{way_up}
use Rattle.vera_names.proofs.fitting.descends.Goals as goal

pub loop-step-preserved : goal.loop-step-preserved
loop-step-preserved c =
    way_up (length c.args.parents.now) c.loop-step._step c.args.parents.now c.loop-step.below c.in-Some.parent c.args.ancestor _ (omega arith) c.if-below-ancestor.false (sym c.parent_of.ensures ∙ c.in-Some.is) c.loop-step.invariant
