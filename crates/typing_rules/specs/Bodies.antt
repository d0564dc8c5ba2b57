-- The bodies of items, where the names of the file are in sight.
use Rattle.std.specs.Prelude.{ℕ, suc, if◌then◌else◌, Bool, false, List, [], ◌∷◌, length, Ok}
use Rattle.vera_ast.specs.declared.tree.items.Function.{Function}
use Rattle.vera_ast.specs.declared.tree.items.Item.{Item}
use Rattle.vera_ast.specs.declared.tree.items.Item.TheVariants as item
use Rattle.vera_ast.specs.declared.tree.items.Parameter.{Parameter}
use Rattle.vera_ast.specs.declared.tree.items.Program.{Program}
use Rattle.vera_ast.specs.declared.tree.items.Task.{Task}
use Rattle.vera_ast.specs.declared.tree.items.TaskName.{TaskName}
use Rattle.vera_ast.specs.declared.tree.items.TaskName.TheVariants.{Named, New}
use Rattle.vera_ast.specs.declared.tree.statements.Block.{Block}
use Rattle.vera_ast.specs.declared.typed.file.TypedFunction.{TypedFunction}
use Rattle.vera_ast.specs.declared.typed.file.TypedItem.{TypedItem}
use Rattle.vera_ast.specs.declared.typed.file.TypedItem.TheVariants as typed
use Rattle.vera_ast.specs.declared.typed.file.TypedParameter.{TypedParameter}
use Rattle.vera_ast.specs.declared.typed.file.TypedProgram.{TypedProgram}
use Rattle.vera_ast.specs.declared.typed.file.TypedTask.{TypedTask}
use Rattle.vera_ast.specs.declared.typed.names.TypedVariable.{TypedVariable}
use Rattle.vera_ast.specs.declared.typed.names.VariablePlace.{VariablePlace}
use Rattle.vera_ast.specs.declared.typed.names.VariablePlace.TheVariants.{Local, Reference}
use Rattle.vera_ast.specs.declared.typed.stmt.TypedBlock.{TypedBlock}
use Rattle.vera_ast.specs.declared.typed.types.ValueType.{ValueType}
use Rattle.vera_ast.specs.declared.typed.types.VariableType.TheVariants.{Value}
use Rattle.typing_rules.specs.Blocks.{PlacedDecl, local_decls, inside, typed_decls}
use Rattle.typing_rules.specs.Checked.{Checked, ◌>>=◌, refuse, each}
use Rattle.typing_rules.specs.DataTypes.{data_type}
use Rattle.typing_rules.specs.Interfaces.{typed_interface}
use Rattle.typing_rules.specs.Scopes.{Scope, Scopes, Name}
use Rattle.typing_rules.specs.Statements.{walk_stmt}
use Rattle.typing_rules.specs.declared.context.Body.{Body}
use Rattle.typing_rules.specs.declared.context.Body.TheVariants as body
use Rattle.typing_rules.specs.declared.context.Context.{Context}
use Rattle.typing_rules.specs.declared.context.Outline.{Outline}
use Rattle.typing_rules.specs.declared.names.Meaning.TheVariants as means

-- classes and coverage groups: a tree that has them is refused before
abbrev pub not_built : ℕ
not_built = 90

-- ---- blocks

-- a block whose variables are these, and in sight already
unfoldable pub block_with : Context → List PlacedDecl → Block → Checked TypedBlock
block_with c variables b = do
  decls ← typed_decls c variables
  stmts ← each (walk_stmt c) b.stmts
  Ok (record { line = b.line; decls = decls; stmts = stmts })

unfoldable pub block : Context → Block → Checked TypedBlock
block c b = do
  variables ← local_decls c b.decls
  block_with (inside c variables) variables b

-- ---- parameters take the first slots; a `var` parameter stands for its argument's variable

abbrev pub parameter_place : Bool → ℕ → VariablePlace
parameter_place is_var n = if is_var then Reference n else Local n

unfoldable pub typed_parameters : Scopes → ℕ → List Parameter → Checked (List TypedParameter)
typed_parameters scopes n [] = Ok []
typed_parameters scopes n (p ∷ more) = do
  of ← data_type scopes p.of
  others ← typed_parameters scopes (suc n) more
  Ok (record { line = p.line; place = parameter_place p.is_var n; of = of } ∷ others)

unfoldable pub parameter_scope : List Parameter → List TypedParameter → Scope
parameter_scope (p ∷ ps) (t ∷ ts) = record { name = p.name; means = means.Variable t.place (Value t.of) } ∷ parameter_scope ps ts
parameter_scope _ _ = []

-- ---- what is in sight in a body: its parameters, of a function the variable of its name, and the outer scopes

abbrev pub in_body : Outline → Scopes → ℕ → Body → Context
in_body outline scopes slots of = record { outline = outline; scopes = scopes; slots = slots; body = of; is_in_loop = false }

-- `new` is checked like a function
abbrev pub task_body : TaskName → Body
task_body (Named name) = body.Task
task_body New = body.Function

unfoldable pub task : Outline → Scopes → Task → Checked TypedTask
task outline scopes t = do
  parameters ← typed_parameters scopes 0 t.parameters
  b ← block (in_body outline (parameter_scope t.parameters parameters ∷ scopes) (length parameters) (task_body t.name)) t.block
  Ok (record { line = t.line; name = t.name; parameters = parameters; block = b })

abbrev pub result_variable : ℕ → ValueType → TypedVariable
result_variable n of = record { place = Local n; of = of }

abbrev pub result_scope : Name → TypedVariable → Scope
result_scope name v = record { name = name; means = means.Result v } ∷ []

unfoldable pub function : Outline → Scopes → Function → Checked TypedFunction
function outline scopes f = do
  of ← data_type scopes f.result
  parameters ← typed_parameters scopes 0 f.parameters
  b ← block (in_body outline (parameter_scope f.parameters parameters ∷ result_scope f.name (result_variable (length parameters) of) ∷ scopes) (suc (length parameters)) body.Function) f.block
  Ok (record { line = f.line; name = f.name; result = result_variable (length parameters) of; parameters = parameters; block = b })

-- the program's variables are in these scopes already
unfoldable pub program : Outline → Scopes → List PlacedDecl → Program → Checked TypedProgram
program outline scopes variables p = do
  b ← block_with (in_body outline scopes 0 body.Program) variables p.block
  Ok (record { line = p.line; name = p.name; block = b })

-- ---- items

abbrev pub item_of : Outline → Scopes → List PlacedDecl → Item → Checked TypedItem
item_of outline scopes variables (item.Enumeration e) = Ok (typed.Enumeration (record { line = e.line; name = e.name; values = e.values }))
item_of outline scopes variables (item.Class c) = refuse not_built c.line
item_of outline scopes variables (item.Interface i) = typed_interface scopes i >>= (λ t. Ok (typed.Interface t))
item_of outline scopes variables (item.Group g) = refuse not_built g.line
item_of outline scopes variables (item.Task t) = task outline scopes t >>= (λ t. Ok (typed.Task t))
item_of outline scopes variables (item.Function f) = function outline scopes f >>= (λ t. Ok (typed.Function t))
item_of outline scopes variables (item.Program p) = program outline scopes variables p >>= (λ t. Ok (typed.Program t))
