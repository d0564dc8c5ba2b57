use Rattle.std.proofs.Common.{◌∷◌, [], ◌++◌, ap, ◌∙◌, sym}
use Rattle.blif_read.specs.Grouping.{with_row}
use Rattle.blif_read.proofs.Grouped.{blocks-push_row, blocks-push_directive, block_of, block_of-is, no_block}
use Rattle.blif_read.proofs.blocks.blocks.Goals as goal

pub loop-line-init : goal.loop-line-init
loop-line-init c = c.new-found.ensures.items ∙ sym no_block

pub loop-line-preserved-in_ok-push_row : goal.loop-line-preserved-in_ok-push_row
loop-line-preserved-in_ok-push_row c =
    c.in_ok-push_row.ensures
    ∙ ap (λ r. with_row r c.loop-line.found.items) c.row.ensures
    ∙ ap (with_row _) c.loop-line.invariant
    ∙ sym (blocks-push_row c.loop-line.yielded c.in-Some.line (sym c.is_row.ensures ∙ c.if-is_row.true))

pub loop-line-preserved : goal.loop-line-preserved
loop-line-preserved c =
    c.in_ok-push.ensures.items
    ∙ ap (λ b. c.loop-line.found.items ++ b ∷ []) (c.in_ok-block.ensures ∙ sym (block_of-is c.in-Some.line []))
    ∙ ap (λ bs. bs ++ block_of c.in-Some.line [] ∷ []) c.loop-line.invariant
    ∙ sym (blocks-push_directive c.loop-line.yielded c.in-Some.line (sym c.is_row.ensures ∙ c.if-is_row.false))
