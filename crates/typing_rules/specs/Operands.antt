-- What a typed call takes of its arguments.
use Rattle.std.specs.Prelude.{ℕ, suc, ◌==◌, Bool, true, List, [], ◌∷◌, ◌++◌, length, Option, Some, None}
use Rattle.vera_ast.specs.declared.typed.invocation.TypedArgument.{TypedArgument}
use Rattle.vera_ast.specs.declared.typed.invocation.TypedArgument.TheVariants as ta
use Rattle.vera_ast.specs.declared.typed.expr.TypedExpr.{TypedExpr}
use Rattle.vera_ast.specs.declared.typed.format.FormatPart.{FormatPart}
use Rattle.vera_ast.specs.declared.typed.place.TypedPlace.{TypedPlace}
use Rattle.vera_ast.specs.declared.typed.types.ValueType.{ValueType}
use Rattle.typing_rules.specs.Formats.{format, conversions, all_print}
use Rattle.typing_rules.specs.Heads.{place}
use Rattle.typing_rules.specs.declared.head.Argument.{Argument}
use Rattle.typing_rules.specs.declared.head.Argument.TheVariants as a
use Rattle.typing_rules.specs.declared.words.Mode.{Mode}

-- ---- of a user's task or function

abbrev pub typed_argument : Argument → List TypedArgument
typed_argument (a.Value v) = ta.Value v.expr ∷ []
typed_argument (a.Whole x) = ta.Variable (place x) ∷ []
typed_argument _ = []

unfoldable pub typed_arguments : List Argument → List TypedArgument
typed_arguments [] = []
typed_arguments (x ∷ xs) = typed_argument x ++ typed_arguments xs

-- ---- what a built-in call takes of them: its mode, its values and its variables, each in their order

unfoldable pub mode_in : List Argument → Option Mode
mode_in [] = None
mode_in (a.Mode mode ∷ xs) = Some mode
mode_in (_ ∷ xs) = mode_in xs

-- how many there are, mode words left out
unfoldable pub count_in : List Argument → ℕ
count_in [] = 0
count_in (a.Mode mode ∷ xs) = count_in xs
count_in (_ ∷ xs) = suc (count_in xs)

unfoldable pub operands_in : List Argument → List TypedExpr
operands_in [] = []
operands_in (a.Value v ∷ xs) = v.expr ∷ operands_in xs
operands_in (_ ∷ xs) = operands_in xs

unfoldable pub types_in : List Argument → List ValueType
types_in [] = []
types_in (a.Value v ∷ xs) = v.of ∷ types_in xs
types_in (_ ∷ xs) = types_in xs

unfoldable pub places_in : List Argument → List TypedPlace
places_in [] = []
places_in (a.Whole x ∷ xs) = place x ∷ places_in xs
places_in (_ ∷ xs) = places_in xs

unfoldable pub format_in : List Argument → Option (List FormatPart)
format_in [] = None
format_in (a.Literal s ∷ xs) = format s
format_in (_ ∷ xs) = format_in xs

-- the arguments behind a format
unfoldable pub behind_format : List Argument → List Argument
behind_format [] = []
behind_format (a.Literal s ∷ xs) = xs
behind_format (_ ∷ xs) = behind_format xs

-- the values behind a format are printed by its conversions, as many as there are
abbrev pub types_printed : Option (List FormatPart) → List ValueType → Bool
types_printed None types = true
types_printed (Some parts) types = all_print (conversions parts) types

abbrev pub count_printed : Option (List FormatPart) → List ValueType → Bool
count_printed None types = true
count_printed (Some parts) types = length (conversions parts) == length types
