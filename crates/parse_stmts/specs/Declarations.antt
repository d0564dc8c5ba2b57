-- Types, declarations and parameters, as the published grammar has them, open over expressions.
use Rattle.std.specs.Prelude.{ℕ, List, ◌∷◌, Option, Some, None, is_some}
use Rattle.vera_ast.specs.declared.codes.TheConstants as code
use Rattle.vera_ast.specs.declared.token.Token.{Token}
use Rattle.vera_ast.specs.declared.tree.expressions.Expr.{Expr}
use Rattle.vera_ast.specs.declared.tree.declarations.Bracket.{Bracket}
use Rattle.vera_ast.specs.declared.tree.declarations.Bracket.TheVariants as bracket
use Rattle.vera_ast.specs.declared.tree.declarations.DataType.{DataType}
use Rattle.vera_ast.specs.declared.tree.declarations.Decl.{Decl}
use Rattle.vera_ast.specs.declared.tree.declarations.Range.{Range}
use Rattle.vera_ast.specs.declared.tree.declarations.TypeForm.{TypeForm}
use Rattle.vera_ast.specs.declared.tree.declarations.TypeForm.TheVariants as form
use Rattle.vera_ast.specs.declared.tree.declarations.Variable.{Variable}
use Rattle.vera_ast.specs.declared.tree.items.Parameter.{Parameter}
use Rattle.grammar_laws.specs.Languages.{Lang, pure, ◌>>=◌, ◌>>◌, ◌<$>◌, ◌<|>◌, many, maybe}
use Rattle.parse_cursor.specs.Tokens.{word, name}

abbrev pub type_at : TypeForm → ℕ → DataType
type_at f line = record { line = line; form = f }

-- what stands in brackets behind a variable's name
abbrev pub bracket_of : Option Expr → Bracket
bracket_of None = bracket.None
bracket_of (Some size) = bracket.Fixed size

-- a parameter's line is that of `var` where it is there
abbrev pub first_line : Option ℕ → ℕ → ℕ
first_line (Some line) other = line
first_line None other = other

module _ (expr : Lang Token Expr) where
  -- range = "[" expr ":" expr "]"
  unfoldable pub range : Lang Token Range
  range = do
    line ← word code.LEFT_BRACKET
    high ← expr
    word code.COLON
    low ← expr
    word code.RIGHT_BRACKET
    pure (record { line = line; high = high; low = low })

  unfoldable pub integer : Lang Token DataType
  integer = type_at form.Integer <$> word code.INTEGER

  -- "bit" [ range ]
  unfoldable pub bit : Lang Token DataType
  bit = do line ← word code.BIT; r ← maybe range; pure (record { line = line; form = form.Bit r })

  -- "reg" [ range ]
  unfoldable pub reg : Lang Token DataType
  reg = do line ← word code.REG; r ← maybe range; pure (record { line = line; form = form.Reg r })

  unfoldable pub string_type : Lang Token DataType
  string_type = type_at form.Str <$> word code.STRING

  unfoldable pub event : Lang Token DataType
  event = type_at form.Event <$> word code.EVENT

  unfoldable pub named : Lang Token DataType
  named = (λ n. record { line = n.line; form = form.Named n.text }) <$> name

  -- type = "integer" | ( "bit" | "reg" ) [ range ] | "string" | "event" | name
  unfoldable pub data_type : Lang Token DataType
  data_type = integer <|> bit <|> reg <|> string_type <|> event <|> named

  -- "[" expr "]"
  unfoldable pub size : Lang Token Expr
  size = do word code.LEFT_BRACKET; x ← expr; word code.RIGHT_BRACKET; pure x

  -- "=" expr
  unfoldable pub initial : Lang Token Expr
  initial = word code.EQUALS >> expr

  -- var = name [ "[" expr "]" ] [ "=" expr ]
  unfoldable pub variable : Lang Token Variable
  variable = do
    n ← name
    count ← maybe size
    value ← maybe initial
    pure (record { line = n.line; name = n.text; bracket = bracket_of count; value = value })

  unfoldable pub further_variable : Lang Token Variable
  further_variable = word code.COMMA >> variable

  -- var { "," var }
  unfoldable pub variables : Lang Token (List Variable)
  variables = do first ← variable; more ← many further_variable; pure (first ∷ more)

  -- var { "," var } ";" after this type
  unfoldable pub declared : DataType → Lang Token Decl
  declared t = do all ← variables; word code.SEMICOLON; pure (record { line = t.line; of = t; variables = all })

  -- decl = type var { "," var } ";"
  unfoldable pub decl : Lang Token Decl
  decl = do
    t ← data_type
    declared t

  unfoldable pub var_mark : Lang Token ℕ
  var_mark = word code.VAR

  -- param = [ "var" ] type name
  unfoldable pub param : Lang Token Parameter
  param = do
    mark ← maybe var_mark
    t ← data_type
    n ← name
    pure (record { line = first_line mark t.line; is_var = is_some mark; of = t; name = n.text })

  unfoldable pub further_param : Lang Token Parameter
  further_param = word code.COMMA >> param

  -- params = param { "," param }
  unfoldable pub params : Lang Token (List Parameter)
  params = do first ← param; more ← many further_param; pure (first ∷ more)
