-- What calls want as their arguments, as the code has it.
use Rattle.std.specs.Prelude.{ℕ, Bool, false, [], drop}
use Rattle.typing_rules.specs.Signatures.{Wants, exactly, takes, wants_of, wants_by}
use Rattle.vera_calls.specs.declared.wanted.Wanted.{Wanted}
use Rattle.vera_calls.specs.declared.wanted.Wanted.TheVariants as w
use Rattle.typing_rules.specs.declared.words.Mode.{Mode}

abbrev pub wants_told : Wanted → Wants
wants_told w.Nothing = exactly []
wants_told (w.BuiltIn b) = wants_of b
wants_told (w.User parameters) = wants_by parameters.now

abbrev pub modes_told : Wanted → Mode → Bool
modes_told (w.BuiltIn b) mode = takes b mode
modes_told _ mode = false

-- what is wanted behind so many arguments
abbrev pub wants_from : Wants → ℕ → Wants
wants_from wants n = record { first = drop n wants.first; more = wants.more }
