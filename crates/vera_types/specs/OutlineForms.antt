-- What a file declares, and the whole walk: the parts of their definitions, as the code has them.
use Rattle.std.specs.Prelude.{◌≡◌, ℕ, ◌+◌, List, [], ◌∷◌, length, Some, None, Result, Ok, Err}
use Rattle.vera_ast.specs.declared.refusal.FrontError.{FrontError}
use Rattle.vera_ast.specs.declared.tree.interfaces.Signal.{Signal}
use Rattle.vera_ast.specs.declared.tree.items.Function.{Function}
use Rattle.vera_ast.specs.declared.tree.items.Item.{Item}
use Rattle.vera_ast.specs.declared.tree.items.Program.{Program as ProgramItem}
use Rattle.vera_ast.specs.declared.tree.items.Task.{Task}
use Rattle.vera_ast.specs.declared.typed.file.TypedItem.{TypedItem}
use Rattle.vera_ast.specs.declared.typed.names.VariablePlace.TheVariants.{Program}
use Rattle.typing_rules.specs.Answers.{Answers}
use Rattle.typing_rules.specs.Blocks.{PlacedDecl, declared_in, scope_of}
use Rattle.typing_rules.specs.Bodies.{item_of}
use Rattle.typing_rules.specs.Checked.{Checked, ◌>>=◌, ◌>>◌, each}
use Rattle.typing_rules.specs.DataTypes.{data_type, names_in}
use Rattle.typing_rules.specs.Declarations.{declarations}
use Rattle.typing_rules.specs.FileNames.{file_scope}
use Rattle.typing_rules.specs.Interfaces.{known_signals}
use Rattle.typing_rules.specs.Scopes.{Scopes, later}
use Rattle.typing_rules.specs.Typing.{expected, interfaces_in, outline_of, one_program}
use Rattle.typing_rules.specs.declared.names.KnownSignal.{KnownSignal}
use Rattle.typing_rules.specs.declared.names.Routine.{Routine}

-- ---- one more part of a list

-- a walk comes to the same as what is left of it behind the answer; or it is refused, or memory ran out
abbrev pub Leads : {S B : Type 0} → Checked B → (S → Checked B) → Result S FrontError → Type 0
Leads whole after (Ok new) = whole ≡ after new
Leads whole after (Err e) = Answers whole (Err e)

-- ---- what the file declares

unfoldable pub task_routine : Scopes → Task → Checked Routine
task_routine scopes t = do
  parameters ← each (expected scopes) t.parameters
  Ok (record { parameters = parameters; gives = None })

unfoldable pub function_routine : Scopes → Function → Checked Routine
function_routine scopes f = do
  of ← data_type scopes f.result
  parameters ← each (expected scopes) f.parameters
  Ok (record { parameters = parameters; gives = Some of })

-- the signals of an interface behind so many others, and the interfaces that follow
unfoldable pub signals_and : Scopes → ℕ → List Signal → List Item → Checked (List (List KnownSignal))
signals_and scopes n signals items = do
  found ← known_signals scopes n signals
  others ← interfaces_in scopes (n + length found) items
  Ok (found ∷ others)

-- ---- the whole

-- the items, where the program's variables are in sight already
unfoldable pub items_in : Scopes → List PlacedDecl → List Item → Checked (List TypedItem)
items_in scopes variables items = do
  outline ← outline_of scopes items
  each (item_of outline scopes variables) items

-- the items, where these scopes surround the program's variables
unfoldable pub items_behind : Scopes → ProgramItem → List Item → Checked (List TypedItem)
items_behind outer main items = do
  variables ← declared_in outer Program 0 main.block.decls
  items_in (scope_of variables ∷ outer) variables items

-- the items of a file with this program, where the names of the file are in sight
unfoldable pub file_items : Scopes → ProgramItem → List Item → Checked (List TypedItem)
file_items outer main items = do
  declarations (later (names_in main.block.decls) ∷ outer) items
  items_behind outer main items

-- the items of a file with exactly one program
unfoldable pub checked_items : List Item → Checked (List TypedItem)
checked_items items = do
  main ← one_program items
  file_items (file_scope items ∷ []) main items
