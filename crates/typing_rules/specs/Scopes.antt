-- Scopes as lists of declared names, and what a name means where some scopes are in sight.
use Rattle.std.specs.Prelude.{ℕ, Bool, false, ◌||◌, if◌then◌else◌, List, [], ◌∷◌, map, Option, Some, None}
use Rattle.std.specs.Str.{bytes_eq}
use Rattle.typing_rules.specs.declared.names.Declared.{Declared}
use Rattle.typing_rules.specs.declared.names.Meaning.{Meaning}
use Rattle.typing_rules.specs.declared.names.Meaning.TheVariants.{Later, Result}

abbrev pub Name : Type 0
Name = List ℕ

-- the names of one scope, in text order
abbrev pub Scope : Type 0
Scope = List Declared

-- the scopes in sight, the innermost first
abbrev pub Scopes : Type 0
Scopes = List Scope

-- whether a name is among these
unfoldable pub is_among : List Name → Name → Bool
is_among [] name = false
is_among (other ∷ others) name = bytes_eq other name || is_among others name

-- the first, or else the second
abbrev pub or_else : Option Meaning → Option Meaning → Option Meaning
or_else None second = second
or_else (Some first) second = Some first

-- what a name means in one scope
unfoldable pub meaning_in : Scope → Name → Option Meaning
meaning_in [] name = None
meaning_in (d ∷ ds) name = if bytes_eq d.name name then Some d.means else meaning_in ds name

-- what a name means: the innermost scope that has it says so
unfoldable pub meaning_of : Scopes → Name → Option Meaning
meaning_of [] name = None
meaning_of (scope ∷ scopes) name = or_else (meaning_in scope name) (meaning_of scopes name)

-- a function's name in front of arguments is the function, and not the variable of its result
abbrev pub as_callee : Option Meaning → Option Meaning
as_callee (Some (Result variable)) = None
as_callee found = found

-- what a name in front of arguments means
unfoldable pub callee_of : Scopes → Name → Option Meaning
callee_of [] name = None
callee_of (scope ∷ scopes) name = or_else (as_callee (meaning_in scope name)) (callee_of scopes name)

-- variables whose types aren't told yet
unfoldable pub later : List Name → Scope
later names = map (λ name. record { name = name; means = Later }) names
