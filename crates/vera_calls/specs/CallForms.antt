-- Parts of calls, as the code takes them.
use Rattle.std.specs.Prelude.{ℕ, not, List, [], ◌∷◌, None, Ok}
use Rattle.vera_ast.specs.declared.typed.builtin.BuiltInFunction.TheVariants as f
use Rattle.vera_ast.specs.declared.typed.expr.TypedExpr.{TypedExpr}
use Rattle.vera_ast.specs.declared.typed.expr.TypedExpr.TheVariants as e
use Rattle.typing_rules.specs.Calls.{is_len, integer_value}
use Rattle.typing_rules.specs.Checked.{Checked, ◌>>◌, keeps, wrong_count}
use Rattle.typing_rules.specs.declared.head.Argument.{Argument}
use Rattle.typing_rules.specs.declared.head.Head.{Head}

-- the length of a string, called
abbrev pub called_length : ℕ → TypedExpr → List Argument → Checked Head
called_length line x xs = keeps line ((wrong_count, not (is_len xs)) ∷ []) >> Ok (integer_value (e.BuiltIn f.Length (x ∷ []) None))
