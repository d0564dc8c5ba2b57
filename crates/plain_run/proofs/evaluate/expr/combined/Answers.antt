use Rattle.std.proofs.Common.{length, sym, ap, ◌∙◌}
use Rattle.vera_meaning.proofs.Widths.{length-extended}
use Rattle.plain_run.proofs.evaluate.expr.combined.Goals as goal

pub apply-requires : goal.apply-requires
apply-requires c =
    ap length c.fitted-a.ensures ∙ length-extended _ _ _ ∙ sym (ap length c.fitted-b.ensures ∙ length-extended _ _ _)
