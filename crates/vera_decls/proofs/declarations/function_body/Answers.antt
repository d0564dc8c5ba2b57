use Rattle.std.proofs.Common.{◌∷◌}
use Rattle.vera_decls.proofs.ItemWalks.{body_sees, sees_name}
use Rattle.typing_rules.specs.Declarations.{parameter_names}
use Rattle.typing_rules.specs.Scopes.{later}
use Rattle.vera_decls.proofs.declarations.function_body.Goals as goal

pub returns : goal.returns
returns c =
    body_sees c.args.count _ (later (parameter_names c.args.of.now.parameters) ∷ c.in_ok-names.names ∷ c.args.scopes.now) c.args.of.now.block c.function_among.result
    (sees_name (later (parameter_names c.args.of.now.parameters)) c.args.scopes.now c.in_ok-names.names c.as_slice.result.now c.args.of.now.name c.in_ok-names.ensures c.as_slice.ensures) c.function_among.ensures
