-- Each drive of a typed tree names an output of the tree.
use Rattle.std.proofs.Common.{◌≡◌, refl, List, [], ◌∷◌, Some, Ok, subst}
use Rattle.vera_ast.specs.Signals.{NamedSignal, signals_in, program_in, DrivesOutputs}
use Rattle.vera_ast.specs.declared.tree.items.Function.{Function}
use Rattle.vera_ast.specs.declared.tree.items.Item.{Item}
use Rattle.vera_ast.specs.declared.tree.items.Item.TheVariants as item
use Rattle.vera_ast.specs.declared.tree.items.Program.{Program}
use Rattle.vera_ast.specs.declared.tree.items.Task.{Task}
use Rattle.vera_ast.specs.declared.tree.items.Tree.{Tree}
use Rattle.vera_ast.specs.declared.tree.statements.Block.{Block}
use Rattle.vera_ast.specs.declared.tree.statements.Stmt.{Stmt}
use Rattle.vera_ast.specs.declared.typed.file.TypedFunction.{TypedFunction}
use Rattle.vera_ast.specs.declared.typed.file.TypedItem.{TypedItem}
use Rattle.vera_ast.specs.declared.typed.file.TypedItem.TheVariants as typed_item
use Rattle.vera_ast.specs.declared.typed.file.TypedProgram.{TypedProgram}
use Rattle.vera_ast.specs.declared.typed.file.TypedTask.{TypedTask}
use Rattle.vera_ast.specs.declared.typed.file.TypedTree.{TypedTree}
use Rattle.vera_ast.specs.declared.typed.stmt.TypedBlock.{TypedBlock}
use Rattle.vera_ast.specs.declared.typed.stmt.TypedStmt.TheVariants as stmt
use Rattle.typing_rules.proofs.Sound.{with, from}
use Rattle.typing_rules.specs.Blocks.{PlacedDecl, inside}
use Rattle.typing_rules.specs.Bodies.{block_with, block, task, function, program, item_of}
use Rattle.typing_rules.specs.Checked.{refuse, each}
use Rattle.typing_rules.specs.Laws.{Holds}
use Rattle.typing_rules.specs.Scopes.{Scopes}
use Rattle.typing_rules.specs.Statements.{walk_stmt}
use Rattle.typing_rules.specs.Typing.{one_program, outline_of, interfaces_in, tasks_in, functions_in, typed}
use Rattle.typing_rules.specs.declared.context.Context.{Context}
use Rattle.typing_rules.specs.declared.context.Outline.{Outline}
use Rattle.typing_laws.proofs.Binds.{holds_at, bound, ok_same}
use Rattle.typing_laws.proofs.DriveStatements.{AllDrive, block_drives, in_sight_inside, stmt_drives}
use Rattle.typing_laws.proofs.OneProgram.{one_program_there}
use Rattle.typing_laws.proofs.SignalPlaces.{AllKnown, outline_known}
use Rattle.typing_laws.specs.Trees.{ItemDrivesOutputs, AllItemsDriveOutputs, NamesItsSignals}

module _ (signals : List NamedSignal) where
  abbrev BlockDrives : TypedBlock → Type 0
  BlockDrives b = DrivesOutputs signals (stmt.Block b)

  each_drives : (c : Context) → AllKnown signals c.outline.interfaces → (stmts : List Stmt) → Holds (AllDrive signals) (each (walk_stmt c) stmts)
  unfolding each
  each_drives c k [] = tt
  each_drives c k (a ∷ more) =
      from (DrivesOutputs signals) (AllDrive signals) _ _ (stmt_drives signals c k a) λ first d. from (AllDrive signals) (AllDrive signals) _ _ (each_drives c k more) λ rest e. (d, e)

  block_with_drives : (c : Context) → AllKnown signals c.outline.interfaces → (variables : List PlacedDecl) (b : Block) → Holds BlockDrives (block_with c variables b)
  unfolding block_with
  block_with_drives c k variables b =
      with BlockDrives _ _ λ decls. from (AllDrive signals) BlockDrives _ _ (each_drives c k b.stmts) λ stmts d.
      let made : TypedBlock = record { line = b.line; decls = decls; stmts = stmts } in block_drives signals made d

  block_of_drives : (c : Context) → AllKnown signals c.outline.interfaces → (b : Block) → Holds BlockDrives (block c b)
  unfolding block
  block_of_drives c k b = with BlockDrives _ _ λ variables. block_with_drives (inside c variables) (in_sight_inside signals c variables k) variables b

  abbrev ItemDrives : TypedItem → Type 0
  ItemDrives = ItemDrivesOutputs signals

  module _ (outline : Outline) (k : AllKnown signals outline.interfaces) (scopes : Scopes) (variables : List PlacedDecl) where
    task_drives : (t : Task) → Holds (λ (a : TypedTask). BlockDrives a.block) (task outline scopes t)
    unfolding task
    task_drives t = with (λ (a : TypedTask). BlockDrives a.block) _ _ λ parameters. from BlockDrives (λ (a : TypedTask). BlockDrives a.block) _ _ (block_of_drives _ k t.block) λ b d. d

    function_drives : (f : Function) → Holds (λ (a : TypedFunction). BlockDrives a.block) (function outline scopes f)
    unfolding function
    function_drives f =
        with (λ (a : TypedFunction). BlockDrives a.block) _ _ λ of. with (λ (a : TypedFunction). BlockDrives a.block) _ _ λ parameters.
        from BlockDrives (λ (a : TypedFunction). BlockDrives a.block) _ _ (block_of_drives _ k f.block) λ b d. d

    program_drives : (p : Program) → Holds (λ (a : TypedProgram). BlockDrives a.block) (program outline scopes variables p)
    unfolding program
    program_drives p = from BlockDrives (λ (a : TypedProgram). BlockDrives a.block) _ _ (block_with_drives _ k variables p.block) λ b d. d

    item_drives : (i : Item) → Holds ItemDrives (item_of outline scopes variables i)
    unfolding refuse
    item_drives (item.Enumeration e) = tt
    item_drives (item.Class c) = tt
    item_drives (item.Interface i) = with ItemDrives _ _ λ t. tt
    item_drives (item.Group g) = tt
    item_drives (item.Task t) = from (λ (a : TypedTask). BlockDrives a.block) ItemDrives _ _ (task_drives t) λ a d. d
    item_drives (item.Function f) = from (λ (a : TypedFunction). BlockDrives a.block) ItemDrives _ _ (function_drives f) λ a d. d
    item_drives (item.Program p) = from (λ (a : TypedProgram). BlockDrives a.block) ItemDrives _ _ (program_drives p) λ a d. d

    pub items_drive : (items : List Item) → Holds (AllItemsDriveOutputs signals) (each (item_of outline scopes variables) items)
    unfolding each
    items_drive [] = tt
    items_drive (i ∷ items) = from ItemDrives (AllItemsDriveOutputs signals) _ _ (item_drives i) λ t d. from (AllItemsDriveOutputs signals) (AllItemsDriveOutputs signals) _ _ (items_drive items) λ ts e. (d, e)

  -- the program is one of the items
  program_of_items : (items : List TypedItem) (p : TypedProgram) → program_in items ≡ Some p → AllItemsDriveOutputs signals items → BlockDrives p.block
  program_of_items [] p e d = absurd cc
  program_of_items (typed_item.Enumeration x ∷ items) p e d = program_of_items items p e d.1
  program_of_items (typed_item.Class x ∷ items) p e d = program_of_items items p e d.1
  program_of_items (typed_item.Interface x ∷ items) p e d = program_of_items items p e d.1
  program_of_items (typed_item.Group x ∷ items) p e d = program_of_items items p e d.1
  program_of_items (typed_item.Task x ∷ items) p e d = program_of_items items p e d.1
  program_of_items (typed_item.Function x ∷ items) p e d = program_of_items items p e d.1
  program_of_items (typed_item.Program x ∷ items) p e d = let same : x ≡ p = cc in subst (λ (q : TypedProgram). BlockDrives q.block) same d.0

-- ---- the whole

-- the outline has the interfaces that its scopes give
record OutlineHas (scopes : Scopes) (items : List Item) (outline : Outline) : Type 0 where
  interfaces : interfaces_in scopes 0 items ≡ Ok outline.interfaces

outline_has : (scopes : Scopes) (items : List Item) (outline : Outline) → outline_of scopes items ≡ Ok outline → OutlineHas scopes items outline
unfolding outline_of
outline_has scopes items outline e =
    let a = bound (interfaces_in scopes 0 items) _ outline e in
    let b = bound (tasks_in scopes items) _ outline a.rest in
    let c = bound (functions_in scopes items) _ outline b.rest in
    subst (OutlineHas scopes items) (ok_same _ outline c.rest) (record { interfaces = a.first })

all_drive : (scopes : Scopes) (items : List Item) (outline : Outline) (variables : List PlacedDecl) (ts : List TypedItem) → outline_of scopes items ≡ Ok outline → each (item_of outline scopes variables) items ≡ Ok ts
    → AllItemsDriveOutputs (signals_in ts) ts
all_drive scopes items outline variables ts e f =
    let has = outline_has scopes items outline e in
    let known : AllKnown (signals_in ts) outline.interfaces = outline_known outline scopes variables (signals_in ts) items outline.interfaces ts has.interfaces f refl in
    holds_at (AllItemsDriveOutputs (signals_in ts)) _ ts (items_drive (signals_in ts) outline known scopes variables items) f

tree_drives : (tree : Tree) (t : TypedTree) → typed tree ≡ Ok t → AllItemsDriveOutputs (signals_in t.items) t.items
unfolding typed
tree_drives tree t e =
    let main = bound (one_program tree.items) _ t e in
    let declared = bound _ _ t main.rest in
    let variables = bound _ _ t declared.rest in
    let outline = bound _ _ t variables.rest in
    let items = bound _ _ t outline.rest in
    subst (λ (t : TypedTree). AllItemsDriveOutputs (signals_in t.items) t.items) (ok_same _ t items.rest) (all_drive _ tree.items outline.value variables.value items.value outline.first items.first)

pub names_its_signals : (tree : Tree) (t : TypedTree) → typed tree ≡ Ok t → NamesItsSignals t
names_its_signals tree t e =
    let one = one_program_there tree t e in
    let all = tree_drives tree t e in
    record { program = one.program; is_program = one.is_program; drives = program_of_items (signals_in t.items) t.items one.program one.is_program all; all_drive = all }
