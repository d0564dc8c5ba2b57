use Rattle.std.proofs.Common.{ap, ◌∙◌}
use Rattle.std.specs.Prelude.{is_some}
use Rattle.vera_names.proofs.name_sets.has_name.Goals as goal

pub returns : goal.returns
returns c = λ before same. c.is_some.ensures ∙ ap is_some c.meaning.ensures ∙ same.same c.args.name.now
