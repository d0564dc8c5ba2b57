use Rattle.std.proofs.Common.{◌∷◌}
use Rattle.vera_decls.proofs.ItemWalks.{body_sees}
use Rattle.vera_decls.proofs.declarations.body_among.Goals as goal

pub returns : goal.returns
returns c = body_sees c.args.count (c.args.parameters.now ∷ c.args.outer.now) c.in_ok-inner.inner c.args.block.now c.body.result c.in_ok-inner.ensures c.body.ensures
