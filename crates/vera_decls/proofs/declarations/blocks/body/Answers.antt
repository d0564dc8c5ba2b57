use Rattle.vera_decls.proofs.BlockWalks.{body_walks}
use Rattle.vera_decls.proofs.declarations.blocks.body.Goals as goal

pub returns : goal.returns
returns c = body_walks c.args.count c.args.scopes.now c.args.block.now _ _ c.inner_block.result c.as_slice.ensures c.as_slice-2.ensures c.inner_block.ensures
