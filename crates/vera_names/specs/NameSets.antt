-- The names of one scope while its declarations are walked through.
use Rattle.std.specs.Prelude.{◌≡◌, List, [], ◌∷◌, is_some}
use Rattle.typing_rules.specs.Scopes.{Name, Scope, is_among, meaning_in}

-- the names of a scope are these, in any order
pub record SameNames (names : List Name) (scope : Scope) : Type 0 where
  pub same : (name : Name) → is_some (meaning_in scope name) ≡ is_among names name

-- names put before others, one after the other
abbrev pub names_behind : List Name → List Name → List Name
names_behind before [] = before
names_behind before (name ∷ names) = names_behind (name ∷ before) names
