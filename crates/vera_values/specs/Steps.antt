-- The walk's definitions over lists, as the code steps through them: what is done, in front of what is left; and the
-- types that productions have, where they have one.
use Rattle.std.specs.Prelude.{ℕ, ◌+◌, ◌*◌, if◌then◌else◌, List, [], ◌∷◌, ◌++◌, option_map, Option, Some, None, Ok, Err}
use Rattle.std.specs.List.{list_all}
use Rattle.vera_ast.specs.Types.{common, vector_of, one}
use Rattle.vera_ast.specs.declared.typed.expr.TypedExpr.TheVariants as e
use Rattle.vera_ast.specs.declared.typed.expr.TypedLink.{TypedLink}
use Rattle.vera_ast.specs.declared.typed.types.ValueType.{ValueType}
use Rattle.vera_ast.specs.declared.typed.types.ValueType.TheVariants as t
use Rattle.vera_ast.specs.declared.typed.types.VectorType.{VectorType}
use Rattle.vera_ast.specs.declared.typed.types.VectorType.TheVariants as vector
use Rattle.typing_rules.specs.Arguments.{is_str}
use Rattle.typing_rules.specs.Checked.{Checked, ◌>>=◌, ◌>>◌}
use Rattle.typing_rules.specs.Heads.{typed}
use Rattle.typing_rules.specs.Posts.{value_cut, cut_head, range_cut, too_wide}
use Rattle.typing_rules.specs.Productions.{bits_of}
use Rattle.typing_rules.specs.Types.{is_vector, width_from}
use Rattle.typing_rules.specs.declared.head.Cut.{Cut}
use Rattle.typing_rules.specs.declared.head.Head.{Head}
use Rattle.typing_rules.specs.declared.head.Head.TheVariants as h
use Rattle.typing_rules.specs.declared.head.Stand.{Stand}
use Rattle.typing_rules.specs.declared.head.Typed.{Typed}

-- links of a chain, in front of those behind them
abbrev pub links_before : List TypedLink → Checked (List TypedLink × ValueType) → Checked (List TypedLink × ValueType)
links_before done (Ok all) = Ok (done ++ all.0, all.1)
links_before done (Err r) = Err r

-- the type of a choice between two sides
abbrev pub side_type : Option VectorType → Option VectorType → Option VectorType
side_type (Some v) (Some w) = Some (common v w)
side_type _ _ = None

abbrev pub choice_type : ValueType → ValueType → ValueType → Option VectorType
choice_type c x y = if is_vector c then side_type (vector_of x) (vector_of y) else None

-- a choice of a type
abbrev pub choice_head : Typed → Typed → Typed → VectorType → Head
choice_head c x y of = h.Value (typed (e.Conditional (record { condition = c.expr; when_true = x.expr; when_false = y.expr; of = of })) (t.Vector of))

-- the bits of parts that are joined
unfoldable pub part_bits : Typed → ℕ
part_bits x = bits_of (vector_of x.of)

unfoldable pub bits_in : List Typed → ℕ
bits_in [] = 0
bits_in (x ∷ xs) = part_bits x + bits_in xs

-- the type of parts that are joined, so many times
abbrev pub joined : ℕ → List Typed → Option ValueType
joined count parts =
    if list_all (λ x. is_str x.of) parts then Some t.Str
    else (if list_all (λ x. is_vector x.of) parts then option_map (λ w. t.Vector (vector.Bits w)) (width_from (count * bits_in parts))
    else None)

-- the value that bits are taken of, and then the bits
abbrev pub cut_behind : ℕ → Checked Typed → Cut → Checked Head
cut_behind line m c = m >>= (λ x. value_cut line x c)

-- what too many bits are: what they are bits of is told before their number
abbrev pub wide_cut : Stand → ℕ → Head → ℕ → Checked Head
wide_cut s line head low = cut_head s line head (range_cut low one) >> Err (record { code = too_wide s head; line = line })
