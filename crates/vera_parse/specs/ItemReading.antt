-- The readers of Items.
use Rattle.std.specs.Prelude.{ℕ, Bool, true, false, List, [], ◌∷◌}
use Rattle.grammar_laws.specs.Readers.{Parser, pure, ◌>>=◌, ◌>>◌, ◌<$>◌}
use Rattle.vera_ast.specs.declared.codes.TheConstants as code
use Rattle.vera_ast.specs.declared.token.Token.{Token}
use Rattle.vera_ast.specs.declared.tree.classes.Class.{Class}
use Rattle.vera_ast.specs.declared.tree.classes.Member.{Member}
use Rattle.vera_ast.specs.declared.tree.classes.Member.TheVariants as member
use Rattle.vera_ast.specs.declared.tree.coverage.CoverageGroup.{CoverageGroup}
use Rattle.vera_ast.specs.declared.tree.declarations.DataType.{DataType}
use Rattle.vera_ast.specs.declared.tree.declarations.Decl.{Decl}
use Rattle.vera_ast.specs.declared.tree.interfaces.Interface.{Interface}
use Rattle.vera_ast.specs.declared.tree.items.Enumeration.{Enumeration}
use Rattle.vera_ast.specs.declared.tree.items.Function.{Function}
use Rattle.vera_ast.specs.declared.tree.items.Item.{Item}
use Rattle.vera_ast.specs.declared.tree.items.Item.TheVariants as item
use Rattle.vera_ast.specs.declared.tree.items.Parameter.{Parameter}
use Rattle.vera_ast.specs.declared.tree.items.Program.{Program}
use Rattle.vera_ast.specs.declared.tree.items.Task.{Task}
use Rattle.vera_ast.specs.declared.tree.items.TaskName.{TaskName}
use Rattle.vera_ast.specs.declared.tree.items.TaskName.TheVariants.{Named, New}
use Rattle.vera_ast.specs.declared.tree.items.Tree.{Tree}
use Rattle.vera_ast.specs.declared.tree.statements.Block.{Block}
use Rattle.parse_cursor.specs.TokenReading.{word, either, many, maybe}
use Rattle.parse_cursor.specs.ListReading.{title, after, listed}
use Rattle.parse_exprs.specs.Sets.{first_type, first_param}

unfoldable pub enumeration : Parser Token Enumeration
enumeration = do
  line ← word code.ENUM
  name ← title
  word code.EQUALS
  values ← listed code.COMMA title
  word code.SEMICOLON
  pure (record { line = line; name = name; values = values })

unfoldable pub task_name : Parser Token TaskName
task_name = either (code.NAME ∷ []) (Named <$> title) ((λ t. New) <$> word code.NEW)

abbrev pub first_member : List ℕ
first_member = code.VIRTUAL ∷ code.TASK ∷ code.FUNCTION ∷ first_type

abbrev pub first_item : List ℕ
first_item = code.ENUM ∷ code.CLASS ∷ code.INTERFACE ∷ code.COVERAGE_GROUP ∷ code.TASK ∷ code.FUNCTION ∷ code.PROGRAM ∷ []

module _ (params : Parser Token (List Parameter)) where
  abbrev pub any_params : Parser Token (List Parameter)
  any_params = either first_param params (pure [])

  unfoldable pub parameters : Parser Token (List Parameter)
  parameters = do
    word code.LEFT_PARENTHESIS
    all ← any_params
    word code.RIGHT_PARENTHESIS
    pure all

module _ (params : Parser Token (List Parameter)) where
  unfoldable pub task_head : Parser Token (TaskName × List Parameter)
  task_head = do
    name ← task_name
    parameters ← parameters params
    pure (name, parameters)

module _ (params : Parser Token (List Parameter)) (block : Parser Token Block) where
  unfoldable pub task : Parser Token Task
  task = do
    line ← word code.TASK
    head ← task_head params
    block ← block
    pure (record { line = line; name = head.0; parameters = head.1; block = block })

module _ (data_type : Parser Token DataType) (params : Parser Token (List Parameter)) where
  unfoldable pub signature : Parser Token (DataType × (List ℕ × List Parameter))
  signature = do
    result ← data_type
    name ← title
    parameters ← parameters params
    pure (result, (name, parameters))

module _ (data_type : Parser Token DataType) (params : Parser Token (List Parameter)) (block : Parser Token Block) where
  unfoldable pub func : Parser Token Function
  func = do
    line ← word code.FUNCTION
    head ← signature data_type params
    block ← block
    pure (record { line = line; result = head.0; name = head.1.0; parameters = head.1.1; block = block })

  -- a method with or without `virtual` before it
  unfoldable pub method : Bool → Parser Token Member
  method is_virtual = either (code.TASK ∷ []) (member.Task is_virtual <$> task params block) (member.Function is_virtual <$> func)

module _ (block : Parser Token Block) where
  unfoldable pub prog : Parser Token Program
  prog = do
    line ← word code.PROGRAM
    name ← title
    block ← block
    pure (record { line = line; name = name; block = block })

module _ (data_type : Parser Token DataType) (params : Parser Token (List Parameter)) (decl : Parser Token Decl) (block : Parser Token Block) where
  unfoldable pub class_member : Parser Token Member
  class_member = either (code.VIRTUAL ∷ []) (word code.VIRTUAL >> method data_type params block true)
      (either (code.TASK ∷ code.FUNCTION ∷ []) (method data_type params block false) (member.Field <$> decl))

  abbrev pub all_members : Parser Token (List Member)
  all_members = many first_member class_member

  unfoldable pub class_body : Parser Token (List Member)
  class_body = do
    word code.LEFT_BRACE
    all ← all_members
    word code.RIGHT_BRACE
    pure all

  unfoldable pub class : Parser Token Class
  class = do
    line ← word code.CLASS
    name ← title
    parent ← maybe (code.EXTENDS ∷ []) (after code.EXTENDS title)
    members ← class_body
    pure (record { line = line; name = name; parent = parent; members = members })

module _ (iface : Parser Token Interface) (group : Parser Token CoverageGroup) (data_type : Parser Token DataType) (params : Parser Token (List Parameter)) (decl : Parser Token Decl) (block : Parser Token Block) where
  -- task | func | prog
  unfoldable pub routine_item : Parser Token Item
  routine_item = either (code.TASK ∷ []) (item.Task <$> task params block)
      (either (code.FUNCTION ∷ []) (item.Function <$> func data_type params block) (item.Program <$> prog block))

  -- iface | group | task | func | prog
  unfoldable pub design_item : Parser Token Item
  design_item = either (code.INTERFACE ∷ []) (item.Interface <$> iface) (either (code.COVERAGE_GROUP ∷ []) (item.Group <$> group) routine_item)

  unfoldable pub any_item : Parser Token Item
  any_item = either (code.ENUM ∷ []) (item.Enumeration <$> enumeration) (either (code.CLASS ∷ []) (item.Class <$> class data_type params decl block) design_item)

  abbrev pub all_items : Parser Token (List Item)
  all_items = many first_item any_item

  unfoldable pub items : Parser Token Tree
  items = do
    all ← all_items
    pure (record { items = all })
