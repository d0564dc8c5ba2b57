-- The names of a scope, as the code keeps and finds them.
use Rattle.std.specs.Prelude.{◌≡◌, ℕ, suc, if◌then◌else◌, List, [], ◌∷◌, map, Option, Some, None, option_map, slice_get}
use denote.Ref.{Bor}
use Rattle.std.specs.Option.{option_and_then}
use Rattle.std.specs.Str.{bytes_eq}
use Rattle.typing_rules.specs.Scopes.{Name, Scope, Scopes}
use Rattle.typing_rules.specs.declared.names.Declared.{Declared}
use Rattle.typing_rules.specs.declared.context.Outline.{Outline}
use Rattle.typing_rules.specs.declared.names.KnownSignal.{KnownSignal}
use Rattle.typing_rules.specs.declared.names.Meaning.{Meaning}
use Rattle.typing_rules.specs.declared.names.Meaning.TheVariants.{Later}
use Rattle.typing_rules.specs.Posts.{signal_named}
use Rattle.vera_names.specs.declared.scope.Named.{Named}

abbrev pub declared_as : Name → Meaning → Declared
declared_as name means = record { name = name; means = means }

abbrev pub shown_name : Named → Declared
shown_name n = declared_as n.name.now n.means

abbrev pub shown : List Named → Scope
shown names = map shown_name names

-- where a name stands first
abbrev pub place_in : Scope → Name → Option ℕ
place_in [] name = None
place_in (d ∷ ds) name = if bytes_eq d.name name then Some 0 else option_map suc (place_in ds name)

-- what the name at a place stands for
abbrev pub meaning_at : List Named → Option ℕ → Option Meaning
meaning_at names None = None
meaning_at names (Some place) = option_map (λ n. n.means) (slice_get names place)

abbrev pub seen : List (Bor Scope) → Scopes
seen scopes = map (λ s. s.now) scopes

-- each name is found where it stands first, and no other one
pub record FindsFirst (names : Scope) (find : Name → Option ℕ) : Type 0 where
  pub finds : (name : Name) → find name ≡ place_in names name

-- ---- signals of an interface

-- their names, as those of a scope
abbrev pub signal_names : List KnownSignal → Scope
signal_names signals = map (λ s. declared_as s.name Later) signals

-- the signal at a place
abbrev pub signal_at : List KnownSignal → Option ℕ → Option KnownSignal
signal_at signals None = None
signal_at signals (Some place) = slice_get signals place

-- a signal by the number of its interface and its name
abbrev pub signal_in : Outline → ℕ → Name → Option KnownSignal
signal_in outline n word = option_and_then (λ signals. signal_named signals word) (slice_get outline.interfaces n)
