-- The walk over a whole tree: first the number of programs, then the declarations in text order, then the bodies in
-- text order. What it gives is the typed tree, or the first refusal.
use Rattle.std.specs.Prelude.{ℕ, ◌+◌, List, [], ◌∷◌, length, Some, None, Ok}
use Rattle.vera_ast.specs.declared.tree.items.Item.{Item}
use Rattle.vera_ast.specs.declared.tree.items.Item.TheVariants as item
use Rattle.vera_ast.specs.declared.tree.items.Parameter.{Parameter}
use Rattle.vera_ast.specs.declared.tree.items.Program.{Program as ProgramItem}
use Rattle.vera_ast.specs.declared.tree.items.Tree.{Tree}
use Rattle.vera_ast.specs.declared.typed.file.TypedTree.{TypedTree}
use Rattle.vera_ast.specs.declared.typed.names.VariablePlace.TheVariants.{Program}
use Rattle.typing_rules.specs.Blocks.{declared_in, scope_of}
use Rattle.typing_rules.specs.Bodies.{item_of}
use Rattle.typing_rules.specs.Checked.{Checked, ◌>>=◌, ◌>>◌, refuse, each, not_one_program}
use Rattle.typing_rules.specs.DataTypes.{data_type, names_in}
use Rattle.typing_rules.specs.Declarations.{declarations}
use Rattle.typing_rules.specs.FileNames.{file_scope, programs_in}
use Rattle.typing_rules.specs.Interfaces.{known_signals}
use Rattle.typing_rules.specs.Scopes.{Scopes, later}
use Rattle.typing_rules.specs.declared.context.Outline.{Outline}
use Rattle.typing_rules.specs.declared.names.Expected.{Expected}
use Rattle.typing_rules.specs.declared.names.KnownSignal.{KnownSignal}
use Rattle.typing_rules.specs.declared.names.Routine.{Routine}

-- ---- exactly one program: a file without one is refused on line 1, and else the second one is

abbrev pub one_of : List ProgramItem → Checked ProgramItem
one_of [] = refuse not_one_program 1
one_of (p ∷ []) = Ok p
one_of (p ∷ second ∷ more) = refuse not_one_program second.line

unfoldable pub one_program : List Item → Checked ProgramItem
one_program items = one_of (programs_in items)

-- ---- what the file declares, as its bodies see it

unfoldable pub expected : Scopes → Parameter → Checked Expected
expected scopes p = do
  of ← data_type scopes p.of
  Ok (record { is_var = p.is_var; of = of })

unfoldable pub tasks_in : Scopes → List Item → Checked (List Routine)
tasks_in scopes [] = Ok []
tasks_in scopes (item.Task t ∷ items) = do
  parameters ← each (expected scopes) t.parameters
  others ← tasks_in scopes items
  Ok (record { parameters = parameters; gives = None } ∷ others)
tasks_in scopes (_ ∷ items) = tasks_in scopes items

unfoldable pub functions_in : Scopes → List Item → Checked (List Routine)
functions_in scopes [] = Ok []
functions_in scopes (item.Function f ∷ items) = do
  of ← data_type scopes f.result
  parameters ← each (expected scopes) f.parameters
  others ← functions_in scopes items
  Ok (record { parameters = parameters; gives = Some of } ∷ others)
functions_in scopes (_ ∷ items) = functions_in scopes items

-- behind so many signals
unfoldable pub interfaces_in : Scopes → ℕ → List Item → Checked (List (List KnownSignal))
interfaces_in scopes n [] = Ok []
interfaces_in scopes n (item.Interface i ∷ items) = do
  signals ← known_signals scopes n i.signals
  others ← interfaces_in scopes (n + length signals) items
  Ok (signals ∷ others)
interfaces_in scopes n (_ ∷ items) = interfaces_in scopes n items

unfoldable pub outline_of : Scopes → List Item → Checked Outline
outline_of scopes items = do
  interfaces ← interfaces_in scopes 0 items
  tasks ← tasks_in scopes items
  functions ← functions_in scopes items
  Ok (record { classes = []; interfaces = interfaces; tasks = tasks; functions = functions })

-- ---- the whole

-- the typed tree, or the first refusal. The variables of the program's outermost block are numbered in text order, and
-- seen everywhere.
unfoldable pub typed : Tree → Checked TypedTree
typed tree = do
  main ← one_program tree.items
  declarations (later (names_in main.block.decls) ∷ file_scope tree.items ∷ []) tree.items
  variables ← declared_in (file_scope tree.items ∷ []) Program 0 main.block.decls
  outline ← outline_of (scope_of variables ∷ file_scope tree.items ∷ []) tree.items
  items ← each (item_of outline (scope_of variables ∷ file_scope tree.items ∷ []) variables) tree.items
  Ok (record { items = items })
