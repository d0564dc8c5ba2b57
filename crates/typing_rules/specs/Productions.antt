-- What the walk makes of an expression once its parts were walked, one definition a production.
use Rattle.std.specs.Prelude.{ℕ, not, ◌*◌, ◌==◌, if◌then◌else◌, List, [], ◌∷◌, map, sum, Option, Some, None, Ok}
use Rattle.std.specs.List.{list_all}
use Rattle.vera_ast.specs.Types.{common, width_of, vector_of, chain_type, unary_type}
use Rattle.vera_ast.specs.declared.tree.expressions.ChainOperator.{ChainOperator}
use Rattle.vera_ast.specs.declared.tree.expressions.UnaryOperator.{UnaryOperator}
use Rattle.vera_ast.specs.declared.typed.expr.TypedExpr.{TypedExpr}
use Rattle.vera_ast.specs.declared.typed.expr.TypedExpr.TheVariants as e
use Rattle.vera_ast.specs.declared.typed.expr.TypedLink.{TypedLink}
use Rattle.vera_ast.specs.declared.typed.types.ValueType.{ValueType}
use Rattle.vera_ast.specs.declared.typed.types.ValueType.TheVariants as t
use Rattle.vera_ast.specs.declared.typed.types.VectorType.{VectorType}
use Rattle.vera_ast.specs.declared.typed.types.VectorType.TheVariants as vector
use Rattle.typing_rules.specs.Arguments.{is_str}
use Rattle.typing_rules.specs.Checked.{Checked, ◌>>=◌, ◌>>◌, refuse, keeps, known, wrong_type}
use Rattle.typing_rules.specs.Heads.{typed}
use Rattle.typing_rules.specs.Operators.{works_in}
use Rattle.typing_rules.specs.Types.{is_vector, width_from}
use Rattle.typing_rules.specs.declared.head.Head.{Head}
use Rattle.typing_rules.specs.declared.head.Head.TheVariants as h
use Rattle.typing_rules.specs.declared.head.Typed.{Typed}

-- ---- expr = lor [ "?" expr ":" expr ]: vectors alone

abbrev pub chosen_by : ℕ → Typed → Typed → Typed → Option VectorType → Option VectorType → Checked Head
chosen_by line c x y (Some v) (Some w) =
    Ok (h.Value (typed (e.Conditional (record { condition = c.expr; when_true = x.expr; when_false = y.expr; of = common v w })) (t.Vector (common v w))))
chosen_by line c x y _ _ = refuse wrong_type line

unfoldable pub conditional : ℕ → Typed → Typed → Typed → Checked Head
conditional line c x y = keeps line ((wrong_type, not (is_vector c.of)) ∷ []) >> chosen_by line c x y (vector_of x.of) (vector_of y.of)

-- ---- a level of the chain of operators, grouped from the left

abbrev pub Link : Type 0
Link = ChainOperator × Typed

abbrev pub typed_link : Link → ValueType → TypedLink
typed_link link works = record { operator = link.0; works_in = works; operand = link.1.expr }

-- the links behind operands of a type, and the type of the whole
unfoldable pub chained : List (Option ℕ) → ℕ → ValueType → List Link → Checked (List TypedLink × ValueType)
chained parents line left [] = Ok ([], left)
chained parents line left (link ∷ links) = do
  works ← known wrong_type line (works_in parents left link.0 link.1.of)
  rest ← chained parents line (chain_type link.0 works) links
  Ok (typed_link link works ∷ rest.0, rest.1)

unfoldable pub chain : List (Option ℕ) → ℕ → Typed → List Link → Checked Head
chain parents line first links = do
  all ← chained parents line first.of links
  Ok (h.Value (typed (e.Chain first.expr all.0) all.1))

-- ---- an operator before its operand

unfoldable pub unary : ℕ → UnaryOperator → Typed → Checked Head
unary line operator x = keeps line ((wrong_type, not (is_vector x.of)) ∷ []) >> Ok (h.Value (typed (e.Unary operator x.expr) (unary_type operator x.of)))

-- ---- `{ a, b }` and `{ n { a, b } }`: vectors are joined to at most 128 bits, and strings where all parts are strings

abbrev pub bits_of : Option VectorType → ℕ
bits_of None = 0
bits_of (Some v) = width_of v

abbrev pub joined_type : ℕ → ℕ → List Typed → Checked ValueType
joined_type line count parts =
    if list_all (λ x. is_str x.of) parts then Ok t.Str
    else (if list_all (λ x. is_vector x.of) parts then known wrong_type line (width_from (count * sum (map (λ x. bits_of (vector_of x.of)) parts))) >>= (λ v. Ok (t.Vector (vector.Bits v)))
    else refuse wrong_type line)

abbrev pub exprs_of : List Typed → List TypedExpr
exprs_of parts = map (λ x. x.expr) parts

unfoldable pub concatenation : ℕ → List Typed → Checked Head
concatenation line parts = do
  of ← joined_type line 1 parts
  Ok (h.Value (typed (e.Concatenation (exprs_of parts) of) of))

unfoldable pub replication : ℕ → ℕ → List Typed → Checked Head
replication line count parts = do
  keeps line ((wrong_type, count == 0) ∷ [])
  of ← joined_type line count parts
  Ok (h.Value (typed (e.Replication count (exprs_of parts) of) of))
