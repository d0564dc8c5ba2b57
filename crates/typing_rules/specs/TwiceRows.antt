-- Names that are declared twice in one scope.
use Rattle.std.specs.Prelude.{false, List, [], ◌∷◌, None, codes}
use Rattle.vera_ast.specs.declared.tree.declarations.Bracket.TheVariants as bracket
use Rattle.vera_ast.specs.declared.tree.declarations.TypeForm.TheVariants as type_form
use Rattle.vera_ast.specs.declared.tree.expressions.Expr.TheVariants as x
use Rattle.vera_ast.specs.declared.tree.expressions.PrimaryForm.TheVariants as form
use Rattle.vera_ast.specs.declared.tree.interfaces.Direction.TheVariants.{Input, Output}
use Rattle.vera_ast.specs.declared.tree.interfaces.SignalForm.TheVariants.{Clock, Timed}
use Rattle.vera_ast.specs.declared.tree.interfaces.SignalTime.TheVariants.{PositiveHold, PositiveSample}
use Rattle.vera_ast.specs.declared.tree.items.Item.TheVariants as item
use Rattle.vera_ast.specs.declared.tree.items.TaskName.TheVariants.{Named, New}
use Rattle.vera_ast.specs.declared.tree.statements.Change.TheVariants as change
use Rattle.vera_ast.specs.declared.tree.statements.Stmt.TheVariants as s
use Rattle.typing_rules.specs.Sources.{tree, post, decimal}
use Rattle.typing_rules.specs.Told.{Row, Accepted, Refused}

-- program p {
--  integer a;
--  integer a; }
abbrev pub twice_variable_line : Row
twice_variable_line = record { told = Refused 31 3; source = (tree ((item.Program (record { line = 1; name = (codes "p"); block = (record { line = 1; decls = (record { line = 2; of = (record { line = 2; form = type_form.Integer }); variables = (record { line = 2; name = (codes "a"); bracket = bracket.None; value = None } ∷ []) } ∷ record { line = 3; of = (record { line = 3; form = type_form.Integer }); variables = (record { line = 3; name = (codes "a"); bracket = bracket.None; value = None } ∷ []) } ∷ []); stmts = [] }) })) ∷ [])) }

-- task t() { }
-- function integer t() { } program p { }
abbrev pub twice_item : Row
twice_item = record { told = Refused 31 2; source = (tree ((item.Task (record { line = 1; name = (Named (codes "t")); parameters = []; block = (record { line = 1; decls = []; stmts = [] }) })) ∷ (item.Function (record { line = 2; result = (record { line = 2; form = type_form.Integer }); name = (codes "t"); parameters = []; block = (record { line = 2; decls = []; stmts = [] }) })) ∷ (item.Program (record { line = 2; name = (codes "p"); block = (record { line = 2; decls = []; stmts = [] }) })) ∷ [])) }

-- enum e = A, B;
-- enum f = C, A; program p { }
abbrev pub twice_enum_value : Row
twice_enum_value = record { told = Refused 31 2; source = (tree ((item.Enumeration (record { line = 1; name = (codes "e"); values = ((codes "A") ∷ (codes "B") ∷ []) })) ∷ (item.Enumeration (record { line = 2; name = (codes "f"); values = ((codes "C") ∷ (codes "A") ∷ []) })) ∷ (item.Program (record { line = 2; name = (codes "p"); block = (record { line = 2; decls = []; stmts = [] }) })) ∷ [])) }

-- task t(integer a,
--  integer a) { } program p { }
abbrev pub twice_parameter : Row
twice_parameter = record { told = Refused 31 2; source = (tree ((item.Task (record { line = 1; name = (Named (codes "t")); parameters = (record { line = 1; is_var = false; of = (record { line = 1; form = type_form.Integer }); name = (codes "a") } ∷ record { line = 2; is_var = false; of = (record { line = 2; form = type_form.Integer }); name = (codes "a") } ∷ []); block = (record { line = 2; decls = []; stmts = [] }) })) ∷ (item.Program (record { line = 2; name = (codes "p"); block = (record { line = 2; decls = []; stmts = [] }) })) ∷ [])) }

-- task t(integer a) { integer a; } program p { }
abbrev pub parameter_and_local : Row
parameter_and_local = record { told = Accepted; source = (tree ((item.Task (record { line = 1; name = (Named (codes "t")); parameters = (record { line = 1; is_var = false; of = (record { line = 1; form = type_form.Integer }); name = (codes "a") } ∷ []); block = (record { line = 1; decls = (record { line = 1; of = (record { line = 1; form = type_form.Integer }); variables = (record { line = 1; name = (codes "a"); bracket = bracket.None; value = None } ∷ []) } ∷ []); stmts = [] }) })) ∷ (item.Program (record { line = 1; name = (codes "p"); block = (record { line = 1; decls = []; stmts = [] }) })) ∷ [])) }

-- task t() { integer a; a = 1; } program p { integer a; }
abbrev pub local_hides_program : Row
local_hides_program = record { told = Accepted; source = (tree ((item.Task (record { line = 1; name = (Named (codes "t")); parameters = []; block = (record { line = 1; decls = (record { line = 1; of = (record { line = 1; form = type_form.Integer }); variables = (record { line = 1; name = (codes "a"); bracket = bracket.None; value = None } ∷ []) } ∷ []); stmts = ((s.Step (record { line = 1; target = (post 1 (form.Name (codes "a")) []); change = (change.Assign (x.Postfix (post 1 (form.Number (decimal 1)) []))) })) ∷ []) }) })) ∷ (item.Program (record { line = 1; name = (codes "p"); block = (record { line = 1; decls = (record { line = 1; of = (record { line = 1; form = type_form.Integer }); variables = (record { line = 1; name = (codes "a"); bracket = bracket.None; value = None } ∷ []) } ∷ []); stmts = [] }) })) ∷ [])) }

-- interface i { input clk CLOCK; input q PSAMPLE;
--  input q PSAMPLE; } program p { }
abbrev pub twice_signal : Row
twice_signal = record { told = Refused 31 2; source = (tree ((item.Interface (record { line = 1; name = (codes "i"); signals = (record { line = 1; direction = Input; range = None; name = (codes "clk"); kind = record { line = 1; form = Clock } } ∷ record { line = 1; direction = Input; range = None; name = (codes "q"); kind = record { line = 1; form = (Timed PositiveSample None) } } ∷ record { line = 2; direction = Input; range = None; name = (codes "q"); kind = record { line = 2; form = (Timed PositiveSample None) } } ∷ []) })) ∷ (item.Program (record { line = 2; name = (codes "p"); block = (record { line = 2; decls = []; stmts = [] }) })) ∷ [])) }

-- interface i { input clk CLOCK; output b PHOLD; }
-- interface j { input clk CLOCK;
--  output b PHOLD; } program p { }
abbrev pub twice_output : Row
twice_output = record { told = Refused 31 3; source = (tree ((item.Interface (record { line = 1; name = (codes "i"); signals = (record { line = 1; direction = Input; range = None; name = (codes "clk"); kind = record { line = 1; form = Clock } } ∷ record { line = 1; direction = Output; range = None; name = (codes "b"); kind = record { line = 1; form = (Timed PositiveHold None) } } ∷ []) })) ∷ (item.Interface (record { line = 2; name = (codes "j"); signals = (record { line = 2; direction = Input; range = None; name = (codes "clk"); kind = record { line = 2; form = Clock } } ∷ record { line = 3; direction = Output; range = None; name = (codes "b"); kind = record { line = 3; form = (Timed PositiveHold None) } } ∷ []) })) ∷ (item.Program (record { line = 3; name = (codes "p"); block = (record { line = 3; decls = []; stmts = [] }) })) ∷ [])) }

-- interface i { input clk CLOCK; output b PHOLD; }
-- interface j { input clk CLOCK;
--  input b PSAMPLE; } program p { }
abbrev pub input_and_output_apart : Row
input_and_output_apart = record { told = Accepted; source = (tree ((item.Interface (record { line = 1; name = (codes "i"); signals = (record { line = 1; direction = Input; range = None; name = (codes "clk"); kind = record { line = 1; form = Clock } } ∷ record { line = 1; direction = Output; range = None; name = (codes "b"); kind = record { line = 1; form = (Timed PositiveHold None) } } ∷ []) })) ∷ (item.Interface (record { line = 2; name = (codes "j"); signals = (record { line = 2; direction = Input; range = None; name = (codes "clk"); kind = record { line = 2; form = Clock } } ∷ record { line = 3; direction = Input; range = None; name = (codes "b"); kind = record { line = 3; form = (Timed PositiveSample None) } } ∷ []) })) ∷ (item.Program (record { line = 3; name = (codes "p"); block = (record { line = 3; decls = []; stmts = [] }) })) ∷ [])) }

-- task p() { }
-- program p { }
abbrev pub program_named_as_task : Row
program_named_as_task = record { told = Refused 31 2; source = (tree ((item.Task (record { line = 1; name = (Named (codes "p")); parameters = []; block = (record { line = 1; decls = []; stmts = [] }) })) ∷ (item.Program (record { line = 2; name = (codes "p"); block = (record { line = 2; decls = []; stmts = [] }) })) ∷ [])) }

-- function integer f(integer f) { f = 1; } program p { }
abbrev pub function_name_as_parameter : Row
function_name_as_parameter = record { told = Accepted; source = (tree ((item.Function (record { line = 1; result = (record { line = 1; form = type_form.Integer }); name = (codes "f"); parameters = (record { line = 1; is_var = false; of = (record { line = 1; form = type_form.Integer }); name = (codes "f") } ∷ []); block = (record { line = 1; decls = []; stmts = ((s.Step (record { line = 1; target = (post 1 (form.Name (codes "f")) []); change = (change.Assign (x.Postfix (post 1 (form.Number (decimal 1)) []))) })) ∷ []) }) })) ∷ (item.Program (record { line = 1; name = (codes "p"); block = (record { line = 1; decls = []; stmts = [] }) })) ∷ [])) }

-- task new() { }
-- task new() { } program p { }
abbrev pub twice_new : Row
twice_new = record { told = Refused 31 2; source = (tree ((item.Task (record { line = 1; name = New; parameters = []; block = (record { line = 1; decls = []; stmts = [] }) })) ∷ (item.Task (record { line = 2; name = New; parameters = []; block = (record { line = 2; decls = []; stmts = [] }) })) ∷ (item.Program (record { line = 2; name = (codes "p"); block = (record { line = 2; decls = []; stmts = [] }) })) ∷ [])) }

-- program p { if (1) {
--  integer a, a; } }
abbrev pub twice_in_nested : Row
twice_in_nested = record { told = Refused 31 2; source = (tree ((item.Program (record { line = 1; name = (codes "p"); block = (record { line = 1; decls = []; stmts = ((s.If (record { line = 1; condition = (x.Postfix (post 1 (form.Number (decimal 1)) [])); when_true = (s.Block (record { line = 1; decls = (record { line = 2; of = (record { line = 2; form = type_form.Integer }); variables = (record { line = 2; name = (codes "a"); bracket = bracket.None; value = None } ∷ record { line = 2; name = (codes "a"); bracket = bracket.None; value = None } ∷ []) } ∷ []); stmts = [] })); when_false = None })) ∷ []) }) })) ∷ [])) }

-- program p { zz = 1; {
--  integer a, a; } }
abbrev pub twice_before_body : Row
twice_before_body = record { told = Refused 31 2; source = (tree ((item.Program (record { line = 1; name = (codes "p"); block = (record { line = 1; decls = []; stmts = ((s.Step (record { line = 1; target = (post 1 (form.Name (codes "zz")) []); change = (change.Assign (x.Postfix (post 1 (form.Number (decimal 1)) []))) })) ∷ (s.Block (record { line = 1; decls = (record { line = 2; of = (record { line = 2; form = type_form.Integer }); variables = (record { line = 2; name = (codes "a"); bracket = bracket.None; value = None } ∷ record { line = 2; name = (codes "a"); bracket = bracket.None; value = None } ∷ []) } ∷ []); stmts = [] })) ∷ []) }) })) ∷ [])) }

-- task t() { zz = 1; }
-- enum e = A, A; program p { }
abbrev pub declarations_before_bodies : Row
declarations_before_bodies = record { told = Refused 31 2; source = (tree ((item.Task (record { line = 1; name = (Named (codes "t")); parameters = []; block = (record { line = 1; decls = []; stmts = ((s.Step (record { line = 1; target = (post 1 (form.Name (codes "zz")) []); change = (change.Assign (x.Postfix (post 1 (form.Number (decimal 1)) []))) })) ∷ []) }) })) ∷ (item.Enumeration (record { line = 2; name = (codes "e"); values = ((codes "A") ∷ (codes "A") ∷ []) })) ∷ (item.Program (record { line = 2; name = (codes "p"); block = (record { line = 2; decls = []; stmts = [] }) })) ∷ [])) }

-- program p { integer a; { integer a; { integer a; a = 1; } } }
abbrev pub inner_block_hides : Row
inner_block_hides = record { told = Accepted; source = (tree ((item.Program (record { line = 1; name = (codes "p"); block = (record { line = 1; decls = (record { line = 1; of = (record { line = 1; form = type_form.Integer }); variables = (record { line = 1; name = (codes "a"); bracket = bracket.None; value = None } ∷ []) } ∷ []); stmts = ((s.Block (record { line = 1; decls = (record { line = 1; of = (record { line = 1; form = type_form.Integer }); variables = (record { line = 1; name = (codes "a"); bracket = bracket.None; value = None } ∷ []) } ∷ []); stmts = ((s.Block (record { line = 1; decls = (record { line = 1; of = (record { line = 1; form = type_form.Integer }); variables = (record { line = 1; name = (codes "a"); bracket = bracket.None; value = None } ∷ []) } ∷ []); stmts = ((s.Step (record { line = 1; target = (post 1 (form.Name (codes "a")) []); change = (change.Assign (x.Postfix (post 1 (form.Number (decimal 1)) []))) })) ∷ []) })) ∷ []) })) ∷ []) }) })) ∷ [])) }

-- task a() { } program p { integer a; a = 1; }
abbrev pub item_and_variable : Row
item_and_variable = record { told = Accepted; source = (tree ((item.Task (record { line = 1; name = (Named (codes "a")); parameters = []; block = (record { line = 1; decls = []; stmts = [] }) })) ∷ (item.Program (record { line = 1; name = (codes "p"); block = (record { line = 1; decls = (record { line = 1; of = (record { line = 1; form = type_form.Integer }); variables = (record { line = 1; name = (codes "a"); bracket = bracket.None; value = None } ∷ []) } ∷ []); stmts = ((s.Step (record { line = 1; target = (post 1 (form.Name (codes "a")) []); change = (change.Assign (x.Postfix (post 1 (form.Number (decimal 1)) []))) })) ∷ []) }) })) ∷ [])) }

abbrev pub twice_rows : List Row
twice_rows = twice_variable_line ∷ twice_item ∷ twice_enum_value ∷ twice_parameter ∷ parameter_and_local ∷ local_hides_program ∷ twice_signal ∷ twice_output ∷ input_and_output_apart ∷ program_named_as_task ∷ function_name_as_parameter ∷ twice_new ∷ twice_in_nested ∷ twice_before_body ∷ declarations_before_bodies ∷ inner_block_hides ∷ item_and_variable ∷ []
