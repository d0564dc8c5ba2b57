-- The declarations of a block: the places and types of its variables, and what is in sight inside.
use Rattle.std.specs.Prelude.{ℕ, suc, ◌+◌, List, [], ◌∷◌, ◌++◌, map, length, Ok}
use Rattle.vera_ast.specs.declared.tree.declarations.Decl.{Decl}
use Rattle.vera_ast.specs.declared.tree.declarations.Variable.{Variable}
use Rattle.vera_ast.specs.declared.typed.names.VariablePlace.{VariablePlace}
use Rattle.vera_ast.specs.declared.typed.names.VariablePlace.TheVariants.{Local}
use Rattle.vera_ast.specs.declared.typed.stmt.DeclaredVariable.{DeclaredVariable}
use Rattle.vera_ast.specs.declared.typed.stmt.TypedDecl.{TypedDecl}
use Rattle.vera_ast.specs.declared.typed.types.VariableType.{VariableType}
use Rattle.typing_rules.specs.Assignments.{declared_value}
use Rattle.typing_rules.specs.Checked.{Checked, ◌>>=◌, each}
use Rattle.typing_rules.specs.DataTypes.{names_in, decl_types}
use Rattle.typing_rules.specs.Scopes.{Scope, Scopes, later}
use Rattle.typing_rules.specs.declared.context.Context.{Context}
use Rattle.typing_rules.specs.declared.names.Declared.{Declared}
use Rattle.typing_rules.specs.declared.names.Meaning.TheVariants as means

-- ---- places

-- a variable with its place and type
pub record Placed : Type 0 where
  pub variable : Variable
  pub place : VariablePlace
  pub of : VariableType

pub record PlacedDecl : Type 0 where
  pub line : ℕ
  pub variables : List Placed

-- variables numbered from a number on, in text order
unfoldable pub placed : (ℕ → VariablePlace) → ℕ → List Variable → List VariableType → List Placed
placed at n (v ∷ vs) (of ∷ types) = record { variable = v; place = at n; of = of } ∷ placed at (suc n) vs types
placed at n _ _ = []

unfoldable pub placed_decls : (ℕ → VariablePlace) → ℕ → List Decl → List (List VariableType) → List PlacedDecl
placed_decls at n (d ∷ ds) (types ∷ more) = record { line = d.line; variables = placed at n d.variables types } ∷ placed_decls at (n + length types) ds more
placed_decls at n _ _ = []

-- the variables of some declarations, where these scopes surround them; they are in sight in all of them
unfoldable pub declared_in : Scopes → (ℕ → VariablePlace) → ℕ → List Decl → Checked (List PlacedDecl)
declared_in scopes at n decls = do
  types ← decl_types (later (names_in decls) ∷ scopes) [] decls
  Ok (placed_decls at n decls types)

-- ---- what is in sight inside

abbrev pub name_of : Placed → Declared
name_of p = record { name = p.variable.name; means = means.Variable p.place p.of }

unfoldable pub scope_of : List PlacedDecl → Scope
scope_of [] = []
scope_of (d ∷ ds) = map name_of d.variables ++ scope_of ds

-- a block's variables take the next slots
unfoldable pub inside : Context → List PlacedDecl → Context
inside c decls = record c { scopes = scope_of decls ∷ c.scopes; slots = c.slots + length (scope_of decls) }

unfoldable pub local_decls : Context → List Decl → Checked (List PlacedDecl)
local_decls c decls = declared_in c.scopes Local c.slots decls

-- ---- declarations with values are statements

unfoldable pub declared_variable : Context → Placed → Checked DeclaredVariable
declared_variable c p = do
  value ← declared_value c p.variable.line p.of p.variable.value
  Ok (record { place = p.place; of = p.of; value = value })

unfoldable pub typed_decl : Context → PlacedDecl → Checked TypedDecl
typed_decl c d = do
  vars ← each (declared_variable c) d.variables
  Ok (record { line = d.line; vars = vars })

unfoldable pub typed_decls : Context → List PlacedDecl → Checked (List TypedDecl)
typed_decls c decls = each (typed_decl c) decls
