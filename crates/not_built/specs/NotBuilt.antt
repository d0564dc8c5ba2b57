-- The constructs of a testbench that aren't built yet. Built are those of the form that testbenches have today: an
-- interface with all its signals and a program with `integer` variables, blocks, assignments, drives, `while`, clock edges
-- and `printf("%0d\n", ..)`, over sums and comparisons of names and decimal numbers. How many of them there are, in which
-- order, and how deep they nest is no construct. Neither is a signal's kind, whichever it is; but the two bounds of its
-- range are expressions, and what isn't built in an expression counts there too, and so does a based literal as its skew.
use Rattle.std.specs.Prelude.{ℕ, List, [], ◌∷◌, Option}
use Rattle.vera_ast.specs.declared.tree.items.Item.{Item}
use Rattle.vera_ast.specs.declared.tree.items.Item.TheVariants as item
use Rattle.vera_ast.specs.declared.tree.items.Tree.{Tree}
use Rattle.not_built.specs.Interfaces.{interface_lines}
use Rattle.not_built.specs.Lines.{first, each}
use Rattle.not_built.specs.Statements.{block_lines}

-- ---- what programs can't be run with yet

unfoldable pub item_lines : Item → List ℕ
item_lines (item.Enumeration e) = e.line ∷ []
item_lines (item.Class c) = c.line ∷ []
item_lines (item.Interface i) = interface_lines i
item_lines (item.Group g) = g.line ∷ []
item_lines (item.Task t) = t.line ∷ []
item_lines (item.Function f) = f.line ∷ []
item_lines (item.Program p) = block_lines p.block

abbrev pub tree_lines : Tree → List ℕ
tree_lines t = each item_lines t.items

-- the line of the first token of the first construct that isn't built
abbrev pub first_not_built : Tree → Option ℕ
first_not_built t = first (tree_lines t)

-- ---- what can't be checked yet: classes and coverage groups alone

unfoldable pub unchecked_lines : Item → List ℕ
unchecked_lines (item.Class c) = c.line ∷ []
unchecked_lines (item.Group g) = g.line ∷ []
unchecked_lines _ = []

abbrev pub first_not_checked : Tree → Option ℕ
first_not_checked t = first (each unchecked_lines t.items)
