use Rattle.std.proofs.Common.{sym, ◌∙◌}
use Rattle.vera_calls.proofs.Wants.{parameter_some}
use Rattle.vera_calls.proofs.wanted.parameter_at.Goals as goal

pub returns-in-Some : goal.returns-in-Some
returns-in-Some c = c.taken_by.ensures ∙ sym (parameter_some c.args.parameters.now c.args.place c.in-Some.parameter.now c.in-Some.ensures.lookup.3.0 c.in-Some.ensures.lookup.1)
