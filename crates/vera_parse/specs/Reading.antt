-- Items and a whole file as they are read, by the levels of depth that are left.
use Rattle.std.specs.Prelude.{ℕ, Bool, List}
use Rattle.grammar_laws.specs.Readers.{Parser, whole}
use Rattle.vera_ast.specs.declared.token.Token.{Token}
use Rattle.vera_ast.specs.declared.tree.classes.Class.{Class}
use Rattle.vera_ast.specs.declared.tree.classes.Member.{Member}
use Rattle.vera_ast.specs.declared.tree.coverage.CoverageGroup.{CoverageGroup}
use Rattle.vera_ast.specs.declared.tree.interfaces.Interface.{Interface}
use Rattle.vera_ast.specs.declared.tree.items.Function.{Function}
use Rattle.vera_ast.specs.declared.tree.items.Item.{Item}
use Rattle.vera_ast.specs.declared.tree.items.Program.{Program}
use Rattle.vera_ast.specs.declared.tree.items.Parameter.{Parameter}
use Rattle.vera_ast.specs.declared.tree.items.Task.{Task}
use Rattle.vera_ast.specs.declared.tree.items.TaskName.{TaskName}
use Rattle.vera_ast.specs.declared.tree.declarations.DataType.{DataType}
use Rattle.vera_ast.specs.declared.tree.items.Tree.{Tree}
use Rattle.vera_ast.specs.declared.tree.statements.Block.{Block}
use Rattle.parse_exprs.specs.ExpressionReading.{expr}
use Rattle.parse_stmts.specs.DeclarationReading.{range, data_type, decl, params}
use Rattle.parse_stmts.specs.PartReading.{edge}
use Rattle.parse_stmts.specs.StatementReading as statements
use Rattle.vera_parse.specs.InterfaceReading as interfaces
use Rattle.vera_parse.specs.CoverageReading as coverage
use Rattle.vera_parse.specs.ItemReading as items

module _ (n : ℕ) where
  abbrev pub block : Parser Token Block
  block = statements.block (decl (expr n)) (statements.stmt n)

  abbrev pub iface : Parser Token Interface
  iface = interfaces.iface (range (expr n))

  abbrev pub group : Parser Token CoverageGroup
  group = coverage.group (expr n) edge

  abbrev pub task_head : Parser Token (TaskName × List Parameter)
  task_head = items.task_head (params (expr n))

  abbrev pub signature : Parser Token (DataType × (List ℕ × List Parameter))
  signature = items.signature (data_type (expr n)) (params (expr n))

  abbrev pub task : Parser Token Task
  task = items.task (params (expr n)) block

  abbrev pub func : Parser Token Function
  func = items.func (data_type (expr n)) (params (expr n)) block

  abbrev pub prog : Parser Token Program
  prog = items.prog block

  abbrev pub method : Bool → Parser Token Member
  method = items.method (data_type (expr n)) (params (expr n)) block

  abbrev pub class_member : Parser Token Member
  class_member = items.class_member (data_type (expr n)) (params (expr n)) (decl (expr n)) block

  abbrev pub all_members : Parser Token (List Member)
  all_members = items.all_members (data_type (expr n)) (params (expr n)) (decl (expr n)) block

  abbrev pub class_body : Parser Token (List Member)
  class_body = items.class_body (data_type (expr n)) (params (expr n)) (decl (expr n)) block

  abbrev pub class : Parser Token Class
  class = items.class (data_type (expr n)) (params (expr n)) (decl (expr n)) block

  abbrev pub routine_item : Parser Token Item
  routine_item = items.routine_item iface group (data_type (expr n)) (params (expr n)) (decl (expr n)) block

  abbrev pub design_item : Parser Token Item
  design_item = items.design_item iface group (data_type (expr n)) (params (expr n)) (decl (expr n)) block

  abbrev pub any_item : Parser Token Item
  any_item = items.any_item iface group (data_type (expr n)) (params (expr n)) (decl (expr n)) block

  abbrev pub all_items : Parser Token (List Item)
  all_items = items.all_items iface group (data_type (expr n)) (params (expr n)) (decl (expr n)) block

  -- any number of items
  unfoldable pub file_items : Parser Token Tree
  file_items = items.items iface group (data_type (expr n)) (params (expr n)) (decl (expr n)) block

  -- all tokens
  unfoldable pub file : Parser Token Tree
  file = whole file_items
