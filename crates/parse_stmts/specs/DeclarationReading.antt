-- Types, declarations and parameters as a function on lists of tokens: each production of Declarations again, with the codes that decide.
use Rattle.std.specs.Prelude.{ℕ, List, [], ◌∷◌, is_some}
use Rattle.vera_ast.specs.declared.codes.TheConstants as code
use Rattle.vera_ast.specs.declared.token.Token.{Token}
use Rattle.vera_ast.specs.declared.tree.expressions.Expr.{Expr}
use Rattle.vera_ast.specs.declared.tree.declarations.DataType.{DataType}
use Rattle.vera_ast.specs.declared.tree.declarations.Decl.{Decl}
use Rattle.vera_ast.specs.declared.tree.declarations.Range.{Range}
use Rattle.vera_ast.specs.declared.tree.declarations.TypeForm.TheVariants as form
use Rattle.vera_ast.specs.declared.tree.declarations.Variable.{Variable}
use Rattle.vera_ast.specs.declared.tree.items.Parameter.{Parameter}
use Rattle.grammar_laws.specs.Readers.{Parser, pure, ◌>>=◌, ◌>>◌, ◌<$>◌}
use Rattle.parse_cursor.specs.TokenReading.{either, many, maybe, word, name}
use Rattle.parse_stmts.specs.Declarations.{type_at, bracket_of, first_line}

module _ (expr : Parser Token Expr) where
  unfoldable pub range : Parser Token Range
  range = do
    line ← word code.LEFT_BRACKET
    high ← expr
    word code.COLON
    low ← expr
    word code.RIGHT_BRACKET
    pure (record { line = line; high = high; low = low })

  unfoldable pub integer : Parser Token DataType
  integer = type_at form.Integer <$> word code.INTEGER

  unfoldable pub bit : Parser Token DataType
  bit = do line ← word code.BIT; r ← maybe (code.LEFT_BRACKET ∷ []) range; pure (record { line = line; form = form.Bit r })

  unfoldable pub reg : Parser Token DataType
  reg = do line ← word code.REG; r ← maybe (code.LEFT_BRACKET ∷ []) range; pure (record { line = line; form = form.Reg r })

  unfoldable pub string_type : Parser Token DataType
  string_type = type_at form.Str <$> word code.STRING

  unfoldable pub event : Parser Token DataType
  event = type_at form.Event <$> word code.EVENT

  unfoldable pub named : Parser Token DataType
  named = (λ n. record { line = n.line; form = form.Named n.text }) <$> name

  unfoldable pub data_type : Parser Token DataType
  data_type =
      either (code.INTEGER ∷ []) integer (either (code.BIT ∷ []) bit (either (code.REG ∷ []) reg
      (either (code.STRING ∷ []) string_type (either (code.EVENT ∷ []) event named))))

  unfoldable pub size : Parser Token Expr
  size = do word code.LEFT_BRACKET; x ← expr; word code.RIGHT_BRACKET; pure x

  unfoldable pub initial : Parser Token Expr
  initial = word code.EQUALS >> expr

  unfoldable pub variable : Parser Token Variable
  variable = do
    n ← name
    count ← maybe (code.LEFT_BRACKET ∷ []) size
    value ← maybe (code.EQUALS ∷ []) initial
    pure (record { line = n.line; name = n.text; bracket = bracket_of count; value = value })

  unfoldable pub further_variable : Parser Token Variable
  further_variable = word code.COMMA >> variable

  unfoldable pub variables : Parser Token (List Variable)
  variables = do first ← variable; more ← many (code.COMMA ∷ []) further_variable; pure (first ∷ more)

  unfoldable pub declared : DataType → Parser Token Decl
  declared t = do all ← variables; word code.SEMICOLON; pure (record { line = t.line; of = t; variables = all })

  unfoldable pub decl : Parser Token Decl
  decl = do
    t ← data_type
    declared t

  unfoldable pub var_mark : Parser Token ℕ
  var_mark = word code.VAR

  unfoldable pub param : Parser Token Parameter
  param = do
    mark ← maybe (code.VAR ∷ []) var_mark
    t ← data_type
    n ← name
    pure (record { line = first_line mark t.line; is_var = is_some mark; of = t; name = n.text })

  unfoldable pub further_param : Parser Token Parameter
  further_param = word code.COMMA >> param

  unfoldable pub params : Parser Token (List Parameter)
  params = do first ← param; more ← many (code.COMMA ∷ []) further_param; pure (first ∷ more)
