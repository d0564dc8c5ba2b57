use Rattle.std.proofs.Common.{◌-◌, ap, ◌∙◌, set, rules}
use Rattle.blif_read.proofs.Grouped.{with_row-at}
use Rattle.blif_read.proofs.blocks.push_row.Goals as goal

pub returns-in_ok-push : goal.returns-in_ok-push
returns-in_ok-push c =
    let xs = c.args.blocks.now.items in
    ap (λ rows. set xs (c.len-last.result - 1) (record c.index_mut.result.now { rows = rows })) c.in_ok-push.ensures.ok
    ∙ with_row-at xs c.args.row c.index_mut.result.now (c.len-last.result - 1) (search rules) (search rules)
