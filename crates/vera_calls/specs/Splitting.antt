-- Arguments of a built-in call, taken apart one after the other as the code does.
use Rattle.std.specs.Prelude.{true, false, if◌then◌else◌, List, [], ◌∷◌, ◌++◌}
use Rattle.typing_rules.specs.Heads.{place}
use Rattle.typing_rules.specs.declared.head.Argument.{Argument}
use Rattle.typing_rules.specs.declared.head.Argument.TheVariants as a
use Rattle.vera_calls.specs.declared.split.Split.{Split}
use Rattle.typing_rules.specs.declared.head.Typed.{Typed}

-- a value, before a format or behind it
abbrev pub put_value : Split → Typed → Split
put_value s v = if s.is_behind then record s { behind = s.behind ++ v.expr ∷ [] } else record s { values = s.values ++ v.expr ∷ [] }

-- one more argument
abbrev pub put : Split → Argument → Split
put s (a.Value v) = put_value s v
put s (a.Whole x) = record s { places = s.places ++ place x ∷ [] }
put s (a.Literal text) = record s { is_behind = true }
put s _ = s

abbrev pub split_from : Split → List Argument → Split
split_from s [] = s
split_from s (x ∷ xs) = split_from (put s x) xs

abbrev pub nothing : Split
nothing = record { values = []; behind = []; places = []; is_behind = false }
