use Rattle.std.proofs.Common.{sym, ap, ◌∙◌}
use Rattle.typing_rules.specs.Answers.{answered}
use Rattle.vera_names.proofs.DataTypeSteps.{named_found, named_unknown}
use Rattle.vera_names.proofs.data_types.named_type.Goals as goal

pub returns-in-Some : goal.returns-in-Some
returns-in-Some c = named_found c.args.scopes.now c.args.line c.args.name.now _ _ (sym c.in-Some.ensures) (c.answered.ensures.same ∙ ap answered c.type_named.ensures)

pub returns-in-None : goal.returns-in-None
returns-in-None c = named_unknown c.args.scopes.now c.args.line c.args.name.now _ (sym c.in-None.ensures) c.refused.ensures
