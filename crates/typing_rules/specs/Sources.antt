-- Pieces of sources, to write trees by.
use Rattle.std.specs.Prelude.{ℕ, true, false, List}
use Rattle.four_state.specs.Numbers.{vector_of}
use Rattle.four_state.specs.declared.bit.Bit.{Bit}
use Rattle.vera_ast.specs.declared.tree.expressions.Number.{Number}
use Rattle.vera_ast.specs.declared.tree.expressions.Postfix.{Postfix}
use Rattle.vera_ast.specs.declared.tree.expressions.PrimaryForm.{PrimaryForm}
use Rattle.vera_ast.specs.declared.tree.expressions.Suffix.{Suffix}
use Rattle.vera_ast.specs.declared.tree.items.Item.{Item}
use Rattle.vera_ast.specs.declared.tree.items.Tree.{Tree}

abbrev pub post : ℕ → PrimaryForm → List Suffix → Postfix
post line form suffixes = record { line = line; primary = record { line = line; form = form }; suffixes = suffixes }

-- an unsized decimal
abbrev pub decimal : ℕ → Number
decimal n = record { value = vector_of 32 n; is_decimal = true }

-- a based literal, its lowest bit first
abbrev pub based : List Bit → Number
based bits = record { value = bits; is_decimal = false }

abbrev pub tree : List Item → Tree
tree items = record { items = items }
