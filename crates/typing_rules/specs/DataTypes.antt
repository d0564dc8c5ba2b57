-- The types that declarations name.
use Rattle.std.specs.Prelude.{ℕ, suc, not, ◌==◌, ◌||◌, nat_lt, Bool, true, false, List, [], ◌∷◌, ◌++◌, map, Option, Some, None, Ok}
use Rattle.vera_ast.specs.Types.{one_bit}
use Rattle.vera_ast.specs.declared.tree.declarations.Bracket.{Bracket}
use Rattle.vera_ast.specs.declared.tree.declarations.Bracket.TheVariants as bracket
use Rattle.vera_ast.specs.declared.tree.declarations.DataType.{DataType}
use Rattle.vera_ast.specs.declared.tree.declarations.Decl.{Decl}
use Rattle.vera_ast.specs.declared.tree.declarations.Range.{Range}
use Rattle.vera_ast.specs.declared.tree.declarations.TypeForm.{TypeForm}
use Rattle.vera_ast.specs.declared.tree.declarations.TypeForm.TheVariants as form
use Rattle.vera_ast.specs.declared.tree.declarations.Variable.{Variable}
use Rattle.vera_ast.specs.declared.typed.types.ArrayLength.TheVariants.{Fixed}
use Rattle.vera_ast.specs.declared.typed.types.ValueType.{ValueType}
use Rattle.vera_ast.specs.declared.typed.types.ValueType.TheVariants as t
use Rattle.vera_ast.specs.declared.typed.types.VariableType.{VariableType}
use Rattle.vera_ast.specs.declared.typed.types.VariableType.TheVariants as variable
use Rattle.vera_ast.specs.declared.typed.types.VectorType.TheVariants as vector
use Rattle.vera_ast.specs.declared.typed.types.Width.{Width}
use Rattle.typing_rules.specs.Checked.{Checked, ◌>>=◌, ◌>>◌, refuse, keeps, known, unknown_name, declared_twice, wrong_type, past_limit}
use Rattle.typing_rules.specs.Constants.{constant}
use Rattle.typing_rules.specs.Scopes.{Scopes, Name, meaning_of, is_among}
use Rattle.typing_rules.specs.Types.{width_from}
use Rattle.typing_rules.specs.declared.names.Meaning.{Meaning}
use Rattle.typing_rules.specs.declared.names.Meaning.TheVariants as means

-- ---- type = "integer" | ( "bit" | "reg" ) [ range ] | "string" | "event" | name

-- range = "[" expr ":" expr "]": the second number is 0
unfoldable pub range : Scopes → Range → Checked Width
range scopes r = do
  high ← constant scopes r.high
  low ← constant scopes r.low
  keeps r.line ((wrong_type, not (low == 0)) ∷ [])
  known past_limit r.line (width_from (suc high))

-- `bit` and `reg` are the same
unfoldable pub bits : Scopes → Option Range → Checked ValueType
bits scopes None = Ok (t.Vector one_bit)
bits scopes (Some r) = do
  width ← range scopes r
  Ok (t.Vector (vector.Bits width))

abbrev pub type_named : ℕ → Meaning → Checked ValueType
type_named line (means.Enumeration n) = Ok (t.Enumeration n)
type_named line (means.Class n) = Ok (t.Class n)
type_named line (means.Group n) = Ok (t.Group n)
type_named line _ = refuse wrong_type line

-- the type of a name in sight
abbrev pub named_type : Scopes → ℕ → Name → Checked ValueType
named_type scopes line name = known unknown_name line (meaning_of scopes name) >>= type_named line

abbrev pub type_of_form : Scopes → ℕ → TypeForm → Checked ValueType
type_of_form scopes line form.Integer = Ok (t.Vector vector.Integer)
type_of_form scopes line (form.Bit r) = bits scopes r
type_of_form scopes line (form.Reg r) = bits scopes r
type_of_form scopes line form.Str = Ok t.Str
type_of_form scopes line form.Event = Ok t.Event
type_of_form scopes line (form.Named name) = named_type scopes line name

unfoldable pub data_type : Scopes → DataType → Checked ValueType
data_type scopes d = type_of_form scopes d.line d.form

-- ---- var = name [ "[" expr "]" ] [ "=" expr ]

-- how many elements are declared, where it is an array
abbrev pub elements : Scopes → ℕ → Bracket → Checked (Option ℕ)
elements scopes line bracket.None = Ok None
elements scopes line (bracket.Fixed x) = constant scopes x >>= (λ n. Ok (Some n))
elements scopes line bracket.Keys = refuse wrong_type line

-- arrays hold vectors, strings, values of enumerations, or objects
abbrev pub is_element_type : ValueType → Bool
is_element_type t.Event = false
is_element_type (t.Group n) = false
is_element_type _ = true

abbrev pub is_wrong_array : ValueType → Option ℕ → Bool
is_wrong_array of None = false
is_wrong_array of (Some n) = not (is_element_type of)

-- an array has 1 to 65,536 elements
abbrev pub is_wrong_length : Option ℕ → Bool
is_wrong_length None = false
is_wrong_length (Some n) = (n == 0) || nat_lt 65536 n

abbrev pub variable_of : ValueType → Option ℕ → VariableType
variable_of of None = variable.Value of
variable_of of (Some n) = variable.Array of (Fixed n)

-- a variable of this type behind variables of these names
unfoldable pub variable_type : Scopes → List Name → ValueType → Variable → Checked VariableType
variable_type scopes before of v = do
  count ← elements scopes v.line v.bracket
  keeps v.line ((declared_twice, is_among before v.name) ∷ (wrong_type, is_wrong_array of count) ∷ (past_limit, is_wrong_length count) ∷ [])
  Ok (variable_of of count)

-- ---- decl = type var { "," var } ";"

unfoldable pub variable_types : Scopes → List Name → ValueType → List Variable → Checked (List VariableType)
variable_types scopes before of [] = Ok []
variable_types scopes before of (v ∷ more) = do
  first ← variable_type scopes before of v
  others ← variable_types scopes (v.name ∷ before) of more
  Ok (first ∷ others)

abbrev pub names_of : Decl → List Name
names_of d = map (λ v. v.name) d.variables

-- the names that some declarations declare
unfoldable pub names_in : List Decl → List Name
names_in [] = []
names_in (d ∷ ds) = names_of d ++ names_in ds

-- the types of the variables of each declaration
unfoldable pub decl_types : Scopes → List Name → List Decl → Checked (List (List VariableType))
decl_types scopes before [] = Ok []
decl_types scopes before (d ∷ more) = do
  of ← data_type scopes d.of
  first ← variable_types scopes before of d.variables
  others ← decl_types scopes (names_of d ++ before) more
  Ok (first ∷ others)
