use Rattle.vera_meaning.proofs.Budgets.{ended-alike}
use Rattle.vera_meaning.proofs.laws.slices.larger_budget_changes_spent_slices_alone.Goals as goal

pub returns : goal.returns
returns c = ended-alike
