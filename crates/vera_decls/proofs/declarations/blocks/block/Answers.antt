use Rattle.std.proofs.lemmas.Result.{err_from_is_err_and}
use Rattle.vera_decls.proofs.BlockWalks.{whole_block_stops, whole_block_walks}
use Rattle.vera_decls.proofs.declarations.blocks.block.Goals as goal

pub returns-in_err-count : goal.returns-in_err-count
returns-in_err-count c =
    let p = err_from_is_err_and c.from_residual.result c.from_residual.ensures.1 in
    rw (p.1, p.2) (whole_block_stops c.args.count c.args.scopes.now c.args.block.now _ _ c.as_slice.ensures c.in_err-count.ensures)

pub stmts-requires : goal.stmts-requires
stmts-requires c = c.in_ok-count.ensures.1

pub returns : goal.returns
returns c = whole_block_walks c.args.count c.args.scopes.now c.args.block.now _ _ c.in_ok-count.count c.stmts.result c.as_slice.ensures c.as_slice-2.ensures c.in_ok-count.ensures.0 c.stmts.ensures
