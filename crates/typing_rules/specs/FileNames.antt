-- The names of a file: those of its items and of the values of its enumerations. Things of one kind are numbered from
-- 0 in text order.
use Rattle.std.specs.Prelude.{ℕ, suc, Bool, true, false, List, [], ◌∷◌, ◌++◌, count_by, codes}
use Rattle.vera_ast.specs.declared.tree.interfaces.Direction.{Direction}
use Rattle.vera_ast.specs.declared.tree.interfaces.Direction.TheVariants.{Input, Output}
use Rattle.vera_ast.specs.declared.tree.interfaces.Signal.{Signal}
use Rattle.vera_ast.specs.declared.tree.items.Item.{Item}
use Rattle.vera_ast.specs.declared.tree.items.Item.TheVariants as item
use Rattle.vera_ast.specs.declared.tree.items.Program.{Program}
use Rattle.vera_ast.specs.declared.tree.items.TaskName.{TaskName}
use Rattle.vera_ast.specs.declared.tree.items.TaskName.TheVariants.{Named, New}
use Rattle.typing_rules.specs.Scopes.{Name, Scope}
use Rattle.typing_rules.specs.declared.names.Declared.{Declared}
use Rattle.typing_rules.specs.declared.names.Meaning.{Meaning}
use Rattle.typing_rules.specs.declared.names.Meaning.TheVariants as means

-- `new` is declared like a name, though none can name it
abbrev pub task_name : TaskName → Name
task_name (Named name) = name
task_name New = codes "new"

-- the names that an item declares in the file, its own first
abbrev pub item_names : Item → List Name
item_names (item.Enumeration e) = e.name ∷ e.values
item_names (item.Class c) = c.name ∷ []
item_names (item.Interface i) = i.name ∷ []
item_names (item.Group g) = g.name ∷ []
item_names (item.Task t) = task_name t.name ∷ []
item_names (item.Function f) = f.name ∷ []
item_names (item.Program p) = p.name ∷ []

unfoldable pub file_names : List Item → List Name
file_names [] = []
file_names (i ∷ items) = item_names i ++ file_names items

-- ---- kinds

abbrev pub is_enumeration : Item → Bool
is_enumeration (item.Enumeration e) = true
is_enumeration _ = false

abbrev pub is_class : Item → Bool
is_class (item.Class c) = true
is_class _ = false

abbrev pub is_interface : Item → Bool
is_interface (item.Interface i) = true
is_interface _ = false

abbrev pub is_group : Item → Bool
is_group (item.Group g) = true
is_group _ = false

abbrev pub is_task : Item → Bool
is_task (item.Task t) = true
is_task _ = false

abbrev pub is_function : Item → Bool
is_function (item.Function f) = true
is_function _ = false

-- ---- what the names mean

abbrev pub declared : Meaning → Name → Declared
declared meaning name = record { name = name; means = meaning }

-- the values 0, 1, 2 and so on of an enumeration
unfoldable pub values_from : ℕ → ℕ → List Name → Scope
values_from enumeration n [] = []
values_from enumeration n (name ∷ names) = declared (means.EnumName (record { enumeration = enumeration; value = n })) name ∷ values_from enumeration (suc n) names

-- the names of an item behind these items
abbrev pub declared_by : List Item → Item → Scope
declared_by before (item.Enumeration e) = declared (means.Enumeration (count_by is_enumeration before)) e.name ∷ values_from (count_by is_enumeration before) 0 e.values
declared_by before (item.Class c) = declared (means.Class (count_by is_class before)) c.name ∷ []
declared_by before (item.Interface i) = declared (means.Interface (count_by is_interface before)) i.name ∷ []
declared_by before (item.Group g) = declared (means.Group (count_by is_group before)) g.name ∷ []
declared_by before (item.Task t) = declared (means.Task (count_by is_task before)) (task_name t.name) ∷ []
declared_by before (item.Function f) = declared (means.Function (count_by is_function before)) f.name ∷ []
declared_by before (item.Program p) = declared means.Program p.name ∷ []

unfoldable pub scope_behind : List Item → List Item → Scope
scope_behind before [] = []
scope_behind before (i ∷ items) = declared_by before i ++ scope_behind (before ++ i ∷ []) items

-- the outermost scope
unfoldable pub file_scope : List Item → Scope
file_scope items = scope_behind [] items

-- ---- signals and programs

abbrev pub signals_of : Item → List Signal
signals_of (item.Interface i) = i.signals
signals_of _ = []

unfoldable pub signals_in : List Item → List Signal
signals_in [] = []
signals_in (i ∷ items) = signals_of i ++ signals_in items

abbrev pub output_name : Direction → Name → List Name
output_name Input name = []
output_name Output name = name ∷ []

unfoldable pub output_names : List Signal → List Name
output_names [] = []
output_names (s ∷ signals) = output_name s.direction s.name ++ output_names signals

abbrev pub programs_of : Item → List Program
programs_of (item.Program p) = p ∷ []
programs_of _ = []

unfoldable pub programs_in : List Item → List Program
programs_in [] = []
programs_in (i ∷ items) = programs_of i ++ programs_in items
