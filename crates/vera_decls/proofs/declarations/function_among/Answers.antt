use Rattle.std.proofs.Common.{◌∷◌, ◌∙◌}
use Rattle.vera_decls.proofs.ItemWalks.{body_sees, sees_around, sees_parameters}
use Rattle.typing_rules.specs.Declarations.{parameter_names}
use Rattle.typing_rules.specs.Scopes.{later}
use Rattle.vera_decls.proofs.declarations.function_among.Goals as goal

pub returns : goal.returns
returns c =
    body_sees c.args.count _ (later (parameter_names c.as_slice.result.now) ∷ c.in_ok-outer.outer) c.args.of.now.block c.body_behind.result
    (sees_around (later (parameter_names c.as_slice.result.now)) c.in_ok-outer.outer (c.args.named.now ∷ c.args.scopes.now) c.in_ok-outer.ensures ∙ sees_parameters (c.args.named.now ∷ c.args.scopes.now) c.as_slice.result.now c.args.of.now.parameters c.as_slice.ensures)
    c.body_behind.ensures
