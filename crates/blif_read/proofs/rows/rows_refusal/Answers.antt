use Rattle.std.proofs.Common.{sym, ◌∙◌, ap, arith}
use Rattle.std.specs.List.{flat_map}
use Rattle.blif_read.specs.Refusals.{row_refusals}
use Rattle.blif_read.specs.Checking.{first}
use Rattle.blif_read.proofs.Firsts.{flat-next_some, flat-next_none}
use Rattle.blif_read.proofs.rows.rows_refusal.Goals as goal

pub returns-in-Some : goal.returns-in-Some
returns-in-Some c =
    sym (flat-next_some (row_refusals c.args.block.now) c.as_slice-row-items.result.now c.loop-row.row-index c.row-item.result c.in-Some.refusal (omega arith) c.row-item.is (sym c.row_refusal.ensures ∙ c.in-Some.is))
    ∙ c.loop-row.invariant ∙ ap (λ rows. first (flat_map (row_refusals c.args.block.now) rows)) c.as_slice-row-items.ensures

pub loop-row-preserved : goal.loop-row-preserved
loop-row-preserved c =
    sym (flat-next_none (row_refusals c.args.block.now) c.as_slice-row-items.result.now c.loop-row.row-index c.row-item.result (omega arith) c.row-item.is (sym c.row_refusal.ensures ∙ c.in_default.is))
    ∙ c.loop-row.invariant
