use Rattle.std.proofs.Common.{sym, ap, ◌∙◌}
use Rattle.typing_rules.specs.Calls.{modes_taken}
use Rattle.vera_calls.proofs.wanted.wanted_of.Goals as goal

pub returns-in-Named-clause-modes : goal.returns-in-Named-clause-modes
returns-in-Named-clause-modes c = c.wanted_by.ensures.modes ∙ ap modes_taken (sym c.in-Named.is)
