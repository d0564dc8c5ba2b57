-- The walk through the declarations, in text order: names that are declared twice, the types of what is declared, and
-- the limits on numbers.
use Rattle.std.specs.Prelude.{ℕ, suc, ◌+◌, ◌||◌, ◌&&◌, nat_le, nat_lt, Bool, List, [], ◌∷◌, ◌++◌, map, length, Ok}
use Rattle.vera_ast.specs.declared.tree.declarations.DataType.{DataType}
use Rattle.vera_ast.specs.declared.tree.declarations.Decl.{Decl}
use Rattle.vera_ast.specs.declared.tree.declarations.Variable.{Variable}
use Rattle.vera_ast.specs.declared.tree.interfaces.Signal.{Signal}
use Rattle.vera_ast.specs.declared.tree.items.Item.{Item}
use Rattle.vera_ast.specs.declared.tree.items.Item.TheVariants as item
use Rattle.vera_ast.specs.declared.tree.items.Parameter.{Parameter}
use Rattle.vera_ast.specs.declared.tree.statements.Block.{Block}
use Rattle.vera_ast.specs.declared.tree.statements.Stmt.{Stmt, Row_of-Stmt, end_of-Stmt, more_of-Stmt}
use Rattle.vera_ast.specs.declared.tree.statements.Stmt.TheBlock.{Block', If', While', Repeat', For', Case', Fork', Row_of-Arm, end_of-Arm, more_of-Arm, Held-If-when_false, None', Some'}
use Rattle.typing_rules.specs.Checked.{Checked, ◌>>=◌, ◌>>◌, keeps, declared_twice, past_limit}
use Rattle.typing_rules.specs.DataTypes.{data_type, variable_type, names_of, names_in}
use Rattle.typing_rules.specs.FileNames.{task_name, file_names, signals_in, output_names}
use Rattle.typing_rules.specs.Heads.{is_output}
use Rattle.typing_rules.specs.Interfaces.{signal_width}
use Rattle.typing_rules.specs.Scopes.{Name, Scopes, is_among, later}

-- a part of the walk: its line, how many names it declares, and its own rules
pub record Part : Type 0 where
  pub line : ℕ
  pub names : ℕ
  pub check : Checked (Unit {0})

abbrev pub rules : ℕ → Checked (Unit {0}) → Part
rules line check = record { line = line; names = 0; check = check }

abbrev pub declares : ℕ → Checked (Unit {0}) → Part
declares line check = record { line = line; names = 1; check = check }

abbrev pub unit : {A : Type 0} → Checked A → Checked (Unit {0})
unit checked = checked >> Ok tt

-- the parts one after the other, behind so many names; there are at most 65,535
unfoldable pub walk_parts : ℕ → List Part → Checked (Unit {0})
walk_parts n [] = Ok tt
walk_parts n (p ∷ parts) = do
  p.check
  keeps p.line ((past_limit, nat_lt 65535 (n + p.names)) ∷ [])
  walk_parts (n + p.names) parts

-- ---- names of one line, behind names of the same scope

unfoldable pub name_parts : ℕ → List Name → List Name → List Part
name_parts line before [] = []
name_parts line before (name ∷ names) = declares line (keeps line ((declared_twice, is_among before name) ∷ [])) ∷ name_parts line (name ∷ before) names

-- ---- variables and parameters

unfoldable pub variable_parts : Scopes → List Name → DataType → List Variable → List Part
variable_parts scopes before of [] = []
variable_parts scopes before of (v ∷ more) =
    declares v.line (unit (data_type scopes of >>= (λ t. variable_type scopes before t v))) ∷ variable_parts scopes (v.name ∷ before) of more

unfoldable pub decl_parts : Scopes → List Name → List Decl → List Part
decl_parts scopes before [] = []
decl_parts scopes before (d ∷ more) =
    rules d.line (unit (data_type scopes d.of)) ∷ variable_parts scopes before d.of d.variables ++ decl_parts scopes (names_of d ++ before) more

-- a task or function has at most 64 parameters, whose types don't see them
unfoldable pub parameter_parts : Scopes → ℕ → List Name → List Parameter → List Part
parameter_parts scopes n before [] = []
parameter_parts scopes n before (p ∷ more) =
    rules p.line (unit (data_type scopes p.of))
    ∷ declares p.line (keeps p.line ((declared_twice, is_among before p.name) ∷ (past_limit, nat_le 64 n) ∷ []))
    ∷ parameter_parts scopes (suc n) (p.name ∷ before) more

abbrev pub parameter_names : List Parameter → List Name
parameter_names parameters = map (λ p. p.name) parameters

-- ---- the blocks in a statement

unfoldable mutual
  pub stmt_parts : Scopes → Stmt → List Part
  stmt_parts scopes (Block' line decls p stmts) =
      decl_parts (later (names_in decls) ∷ scopes) [] decls ++ stmts_parts (later (names_in decls) ∷ scopes) stmts
  stmt_parts scopes (If' line condition p (more_of-Stmt body end_of-Stmt) otherwise) = stmt_parts scopes body ++ otherwise_parts scopes otherwise
  stmt_parts scopes (While' line condition p (more_of-Stmt body end_of-Stmt)) = stmt_parts scopes body
  stmt_parts scopes (Repeat' line count p (more_of-Stmt body end_of-Stmt)) = stmt_parts scopes body
  stmt_parts scopes (For' line start condition next p (more_of-Stmt body end_of-Stmt)) = stmt_parts scopes body
  stmt_parts scopes (Case' line value p arms) = arms_parts scopes arms
  stmt_parts scopes (Fork' line p branches join) = stmts_parts scopes branches
  stmt_parts scopes _ = []

  pub stmts_parts : {m : _} → Scopes → Row_of-Stmt m → List Part
  stmts_parts scopes end_of-Stmt = []
  stmts_parts scopes (more_of-Stmt first rest) = stmt_parts scopes first ++ stmts_parts scopes rest

  pub otherwise_parts : Scopes → Held-If-when_false → List Part
  otherwise_parts scopes None' = []
  otherwise_parts scopes (Some' p (more_of-Stmt body end_of-Stmt)) = stmt_parts scopes body

  pub arms_parts : {m : _} → Scopes → Row_of-Arm m → List Part
  arms_parts scopes end_of-Arm = []
  arms_parts scopes (more_of-Arm line values body rest) = stmt_parts scopes body ++ arms_parts scopes rest

unfoldable pub each_parts : Scopes → List Stmt → List Part
each_parts scopes [] = []
each_parts scopes (s ∷ stmts) = stmt_parts scopes s ++ each_parts scopes stmts

-- a block whose variables are in sight in these scopes already
unfoldable pub block_parts : Scopes → Block → List Part
block_parts scopes b = decl_parts scopes [] b.decls ++ each_parts scopes b.stmts

abbrev pub body_parts : Scopes → Block → List Part
body_parts scopes b = block_parts (later (names_in b.decls) ∷ scopes) b

-- ---- signals: there are at most 4,096 of them, and no two outputs have one name

abbrev pub is_second_output : List Signal → Signal → Bool
is_second_output before s = is_output s.direction && is_among (output_names before) s.name

-- behind the signals of the interfaces before, and behind names of the same interface
unfoldable pub signal_parts : Scopes → List Signal → List Name → List Signal → List Part
signal_parts scopes before names [] = []
signal_parts scopes before names (s ∷ more) =
    rules s.line (unit (signal_width scopes s.range))
    ∷ declares s.line (keeps s.line ((declared_twice, is_among names s.name || is_second_output before s) ∷ (past_limit, nat_le 4096 (length before)) ∷ []))
    ∷ signal_parts scopes (before ++ s ∷ []) (s.name ∷ names) more

-- ---- items, behind the items before them

abbrev pub item_parts : Scopes → List Item → Item → List Part
item_parts scopes before (item.Enumeration e) = name_parts e.line (file_names before) (e.name ∷ e.values)
item_parts scopes before (item.Class c) = name_parts c.line (file_names before) (c.name ∷ [])
item_parts scopes before (item.Interface i) = name_parts i.line (file_names before) (i.name ∷ []) ++ signal_parts scopes (signals_in before) [] i.signals
item_parts scopes before (item.Group g) = name_parts g.line (file_names before) (g.name ∷ [])
item_parts scopes before (item.Task t) =
    name_parts t.line (file_names before) (task_name t.name ∷ []) ++ parameter_parts scopes 0 [] t.parameters
    ++ body_parts (later (parameter_names t.parameters) ∷ scopes) t.block
item_parts scopes before (item.Function f) =
    rules f.line (unit (data_type scopes f.result)) ∷ name_parts f.line (file_names before) (f.name ∷ []) ++ parameter_parts scopes 0 [] f.parameters
    ++ body_parts (later (parameter_names f.parameters) ∷ later (f.name ∷ []) ∷ scopes) f.block
item_parts scopes before (item.Program p) = name_parts p.line (file_names before) (p.name ∷ []) ++ block_parts scopes p.block

unfoldable pub parts_behind : Scopes → List Item → List Item → List Part
parts_behind scopes before [] = []
parts_behind scopes before (i ∷ items) = item_parts scopes before i ++ parts_behind scopes (before ++ i ∷ []) items

unfoldable pub declarations : Scopes → List Item → Checked (Unit {0})
declarations scopes items = walk_parts 0 (parts_behind scopes [] items)
