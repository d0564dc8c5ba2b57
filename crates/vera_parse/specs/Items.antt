-- Items and the file, over the languages of types, parameters, declarations, blocks, interfaces and coverage groups.
use Rattle.std.specs.Prelude.{ℕ, List, []}
use Rattle.grammar_laws.specs.Languages.{Lang, pure, ◌>>=◌, ◌>>◌, ◌<$>◌, ◌<|>◌, many, maybe}
use Rattle.vera_ast.specs.declared.codes.TheConstants as code
use Rattle.vera_ast.specs.declared.token.Token.{Token}
use Rattle.vera_ast.specs.declared.tree.classes.Class.{Class}
use Rattle.vera_ast.specs.declared.tree.classes.Member.{Member}
use Rattle.vera_ast.specs.declared.tree.classes.Member.TheVariants as member
use Rattle.vera_ast.specs.declared.tree.coverage.CoverageGroup.{CoverageGroup}
use Rattle.vera_ast.specs.declared.tree.declarations.DataType.{DataType}
use Rattle.vera_ast.specs.declared.tree.declarations.Decl.{Decl}
use Rattle.vera_ast.specs.declared.tree.interfaces.Interface.{Interface}
use Rattle.vera_ast.specs.declared.tree.items.Enumeration.{Enumeration}
use Rattle.vera_ast.specs.declared.tree.items.Function.{Function}
use Rattle.vera_ast.specs.declared.tree.items.Item.{Item}
use Rattle.vera_ast.specs.declared.tree.items.Item.TheVariants as item
use Rattle.vera_ast.specs.declared.tree.items.Parameter.{Parameter}
use Rattle.vera_ast.specs.declared.tree.items.Program.{Program}
use Rattle.vera_ast.specs.declared.tree.items.Task.{Task}
use Rattle.vera_ast.specs.declared.tree.items.TaskName.{TaskName}
use Rattle.vera_ast.specs.declared.tree.items.TaskName.TheVariants.{Named, New}
use Rattle.vera_ast.specs.declared.tree.items.Tree.{Tree}
use Rattle.vera_ast.specs.declared.tree.statements.Block.{Block}
use Rattle.parse_cursor.specs.Tokens.{word}
use Rattle.parse_cursor.specs.Lists.{title, flag, after, listed}

-- enum = "enum" name "=" name { "," name } ";"
unfoldable pub enumeration : Lang Token Enumeration
enumeration = do
  line ← word code.ENUM
  name ← title
  word code.EQUALS
  values ← listed code.COMMA title
  word code.SEMICOLON
  pure (record { line = line; name = name; values = values })

-- name | "new"
unfoldable pub task_name : Lang Token TaskName
task_name = (Named <$> title) <|> ((λ t. New) <$> word code.NEW)

module _ (params : Lang Token (List Parameter)) where
  -- "(" [ params ] ")"
  unfoldable pub parameters : Lang Token (List Parameter)
  parameters = do
    word code.LEFT_PARENTHESIS
    all ← (params <|> pure [])
    word code.RIGHT_PARENTHESIS
    pure all

module _ (params : Lang Token (List Parameter)) where
  -- ( name | "new" ) "(" [ params ] ")"
  unfoldable pub task_head : Lang Token (TaskName × List Parameter)
  task_head = do
    name ← task_name
    parameters ← parameters params
    pure (name, parameters)

module _ (params : Lang Token (List Parameter)) (block : Lang Token Block) where
  -- task = "task" ( name | "new" ) "(" [ params ] ")" block
  unfoldable pub task : Lang Token Task
  task = do
    line ← word code.TASK
    head ← task_head params
    block ← block
    pure (record { line = line; name = head.0; parameters = head.1; block = block })

module _ (data_type : Lang Token DataType) (params : Lang Token (List Parameter)) where
  -- type name "(" [ params ] ")"
  unfoldable pub signature : Lang Token (DataType × (List ℕ × List Parameter))
  signature = do
    result ← data_type
    name ← title
    parameters ← parameters params
    pure (result, (name, parameters))

module _ (data_type : Lang Token DataType) (params : Lang Token (List Parameter)) (block : Lang Token Block) where
  -- func = "function" type name "(" [ params ] ")" block
  unfoldable pub func : Lang Token Function
  func = do
    line ← word code.FUNCTION
    head ← signature data_type params
    block ← block
    pure (record { line = line; result = head.0; name = head.1.0; parameters = head.1.1; block = block })

module _ (block : Lang Token Block) where
  -- prog = "program" name block
  unfoldable pub prog : Lang Token Program
  prog = do
    line ← word code.PROGRAM
    name ← title
    block ← block
    pure (record { line = line; name = name; block = block })

module _ (data_type : Lang Token DataType) (params : Lang Token (List Parameter)) (decl : Lang Token Decl) (block : Lang Token Block) where
  -- [ "virtual" ] task
  unfoldable pub task_member : Lang Token Member
  task_member = do
    is_virtual ← flag code.VIRTUAL
    task ← task params block
    pure (member.Task is_virtual task)

  -- [ "virtual" ] func
  unfoldable pub func_member : Lang Token Member
  func_member = do
    is_virtual ← flag code.VIRTUAL
    func ← func data_type params block
    pure (member.Function is_virtual func)

  -- decl | [ "virtual" ] task | [ "virtual" ] func
  unfoldable pub class_member : Lang Token Member
  class_member = (member.Field <$> decl) <|> task_member <|> func_member

  -- "{" { decl | [ "virtual" ] task | [ "virtual" ] func } "}"
  unfoldable pub class_body : Lang Token (List Member)
  class_body = do
    word code.LEFT_BRACE
    all ← many class_member
    word code.RIGHT_BRACE
    pure all

  -- class = "class" name [ "extends" name ] "{" { decl | [ "virtual" ] task | [ "virtual" ] func } "}"
  unfoldable pub class : Lang Token Class
  class = do
    line ← word code.CLASS
    name ← title
    parent ← maybe (after code.EXTENDS title)
    members ← class_body
    pure (record { line = line; name = name; parent = parent; members = members })

module _ (iface : Lang Token Interface) (group : Lang Token CoverageGroup) (data_type : Lang Token DataType) (params : Lang Token (List Parameter)) (decl : Lang Token Decl) (block : Lang Token Block) where
  -- item = enum | class | iface | group | task | func | prog
  unfoldable pub any_item : Lang Token Item
  any_item = (item.Enumeration <$> enumeration) <|> (item.Class <$> class data_type params decl block) <|> (item.Interface <$> iface) <|> (item.Group <$> group)
      <|> (item.Task <$> task params block) <|> (item.Function <$> func data_type params block) <|> (item.Program <$> prog block)

  -- file = { item }
  unfoldable pub items : Lang Token Tree
  items = do
    all ← many any_item
    pure (record { items = all })
