-- The numbers that a request's limits may have.
use Rattle.std.specs.Prelude.{ℕ, ◌≤◌}
use Rattle.run_rules.specs.declared.limits.Limits.{Limits}
use Rattle.run_words.specs.declared.modes.OptionName.{OptionName}
use Rattle.run_words.specs.declared.modes.OptionName.TheVariants as options
use Rattle.run_words.specs.Words.{least, most}

-- a number that the option takes
abbrev pub IsTaken : OptionName → ℕ → Type 0
IsTaken option n = (least option ≤ n) × (n ≤ most option)

-- each limit is a number that its option takes
pub record AreTaken (limits : Limits) : Type 0 where
  pub cycles : IsTaken options.Cycles limits.cycles
  pub budget : IsTaken options.Budget limits.budget
  pub turns : IsTaken options.Turns limits.turns
