use Rattle.vera_ast.specs.declared.tree.items.Item.TheVariants as item
use Rattle.vera_decls.proofs.ItemWalks.{name_walks, own_walks}
use Rattle.vera_decls.proofs.declarations.own.Goals as goal

pub returns-in-Enumeration : goal.returns-in-Enumeration
returns-in-Enumeration c = own_walks c.args.scopes.now c.args.names c.args.count c.args.of.now (item.Enumeration c.in-Enumeration.of) c.enumeration.result c.in-Enumeration.is c.enumeration.ensures

pub returns-in-Class : goal.returns-in-Class
returns-in-Class c =
    own_walks c.args.scopes.now c.args.names c.args.count c.args.of.now (item.Class c.in-Class.of) c.only_name.result c.in-Class.is
    (name_walks c.args.names c.args.count c.in-Class.of.line c.as_slice.result.now c.in-Class.of.name c.only_name.result c.as_slice.ensures c.only_name.ensures)

pub returns-in-Interface : goal.returns-in-Interface
returns-in-Interface c =
    own_walks c.args.scopes.now c.args.names c.args.count c.args.of.now (item.Interface c.in-Interface.of) c.only_name-in-Interface.result c.in-Interface.is
    (name_walks c.args.names c.args.count c.in-Interface.of.line c.as_slice-in-Interface.result.now c.in-Interface.of.name c.only_name-in-Interface.result c.as_slice-in-Interface.ensures c.only_name-in-Interface.ensures)

pub returns-in-Group : goal.returns-in-Group
returns-in-Group c =
    own_walks c.args.scopes.now c.args.names c.args.count c.args.of.now (item.Group c.in-Group.of) c.only_name-in-Group.result c.in-Group.is
    (name_walks c.args.names c.args.count c.in-Group.of.line c.as_slice-in-Group.result.now c.in-Group.of.name c.only_name-in-Group.result c.as_slice-in-Group.ensures c.only_name-in-Group.ensures)

pub returns-in-Task : goal.returns-in-Task
returns-in-Task c = own_walks c.args.scopes.now c.args.names c.args.count c.args.of.now (item.Task c.in-Task.of) c.task.result c.in-Task.is c.task.ensures

pub returns-in-Function : goal.returns-in-Function
returns-in-Function c = own_walks c.args.scopes.now c.args.names c.args.count c.args.of.now (item.Function c.in-Function.of) c.function.result c.in-Function.is c.function.ensures

pub returns-in-Program : goal.returns-in-Program
returns-in-Program c = own_walks c.args.scopes.now c.args.names c.args.count c.args.of.now (item.Program c.in-Program.of) c.program.result c.in-Program.is c.program.ensures
