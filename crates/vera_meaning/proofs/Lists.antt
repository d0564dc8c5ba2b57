-- The value of a chain over a plain list of its links, as code walks them.
use Rattle.std.specs.Prelude.{ℕ, List, [], ◌∷◌}
use Rattle.four_state.specs.declared.bit.Bit.{Bit}
use Rattle.slice_core.specs.Tree.{Tree}
use Rattle.vera_ast.specs.declared.typed.expr.TypedLink.{TypedLink}
use Rattle.vera_ast.specs.declared.typed.types.ValueType.{ValueType}
use Rattle.vera_meaning.specs.Rests.{Rest}
use Rattle.vera_ast.specs.ExprTypes.{type_of}
use Rattle.vera_ast.specs.Types.{chain_type}
use Rattle.vera_meaning.specs.Operators.{fitted, applied}
use Rattle.vera_meaning.specs.Expressions.{value, Next}

abbrev pub chained_links : List TypedLink → ValueType → List Bit → ℕ → Next → Tree Rest
chained_links [] ty bits ticks next = next bits ticks
chained_links (l ∷ links) ty bits ticks next =
    value l.operand ticks (λ other left.
    chained_links links (chain_type l.operator l.works_in) (applied l.operator l.works_in (fitted ty l.works_in bits) (fitted (type_of l.operand) l.works_in other)) left next)
