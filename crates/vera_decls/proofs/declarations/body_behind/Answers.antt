use Rattle.std.proofs.Common.{◌∷◌}
use Rattle.vera_decls.proofs.ItemWalks.{body_sees, sees_more}
use Rattle.vera_decls.proofs.declarations.body_behind.Goals as goal

pub returns : goal.returns
returns c = body_sees c.args.count _ (c.in_ok-names.names ∷ c.args.outer.now) c.args.block.now c.body_among.result (sees_more c.args.outer.now c.in_ok-names.names _ c.in_ok-names.ensures) c.body_among.ensures
