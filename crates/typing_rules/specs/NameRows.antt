-- Names that are unknown where they stand.
use Rattle.std.specs.Prelude.{true, false, List, [], ◌∷◌, Some, None, codes}
use Rattle.vera_ast.specs.declared.tree.declarations.Bracket.TheVariants as bracket
use Rattle.vera_ast.specs.declared.tree.declarations.TypeForm.TheVariants as type_form
use Rattle.vera_ast.specs.declared.tree.expressions.Expr.TheVariants as x
use Rattle.vera_ast.specs.declared.tree.expressions.PrimaryForm.TheVariants as form
use Rattle.vera_ast.specs.declared.tree.expressions.Suffix.TheVariants as suffix
use Rattle.vera_ast.specs.declared.tree.interfaces.Direction.TheVariants.{Input, Output}
use Rattle.vera_ast.specs.declared.tree.interfaces.SignalForm.TheVariants.{Clock, Timed}
use Rattle.vera_ast.specs.declared.tree.interfaces.SignalTime.TheVariants.{PositiveHold, PositiveSample}
use Rattle.vera_ast.specs.declared.tree.items.Item.TheVariants as item
use Rattle.vera_ast.specs.declared.tree.items.TaskName.TheVariants.{Named}
use Rattle.vera_ast.specs.declared.tree.statements.Change.TheVariants as change
use Rattle.vera_ast.specs.declared.tree.statements.DelayForm.TheVariants as delay_form
use Rattle.vera_ast.specs.declared.tree.statements.DriveOperator.TheVariants.{Assign as Plain}
use Rattle.vera_ast.specs.declared.tree.statements.EdgeClock.TheVariants as clock
use Rattle.vera_ast.specs.declared.tree.statements.Stmt.TheVariants as s
use Rattle.typing_rules.specs.Sources.{tree, post, decimal}
use Rattle.typing_rules.specs.Told.{Row, Accepted, Refused}

-- program p {
--  foo x; }
abbrev pub unknown_type : Row
unknown_type = record { told = Refused 30 2; source = (tree ((item.Program (record { line = 1; name = (codes "p"); block = (record { line = 1; decls = (record { line = 2; of = (record { line = 2; form = (type_form.Named (codes "foo")) }); variables = (record { line = 2; name = (codes "x"); bracket = bracket.None; value = None } ∷ []) } ∷ []); stmts = [] }) })) ∷ [])) }

-- interface i { input clk CLOCK; output [3:0] b PHOLD #1; input [3:0] q PSAMPLE #-1; }
-- program p { i.z = 1; }
abbrev pub unknown_signal : Row
unknown_signal = record { told = Refused 30 2; source = (tree ((item.Interface (record { line = 1; name = (codes "i"); signals = (record { line = 1; direction = Input; range = None; name = (codes "clk"); kind = record { line = 1; form = Clock } } ∷ record { line = 1; direction = Output; range = (Some (record { line = 1; high = (x.Postfix (post 1 (form.Number (decimal 3)) [])); low = (x.Postfix (post 1 (form.Number (decimal 0)) [])) })); name = (codes "b"); kind = record { line = 1; form = (Timed PositiveHold (Some (record { is_negative = false; amount = (decimal 1) }))) } } ∷ record { line = 1; direction = Input; range = (Some (record { line = 1; high = (x.Postfix (post 1 (form.Number (decimal 3)) [])); low = (x.Postfix (post 1 (form.Number (decimal 0)) [])) })); name = (codes "q"); kind = record { line = 1; form = (Timed PositiveSample (Some (record { is_negative = true; amount = (decimal 1) }))) } } ∷ []) })) ∷ (item.Program (record { line = 2; name = (codes "p"); block = (record { line = 2; decls = []; stmts = ((s.Step (record { line = 2; target = (post 2 (form.Name (codes "i")) (suffix.Member (codes "z") ∷ [])); change = (change.Assign (x.Postfix (post 2 (form.Number (decimal 1)) []))) })) ∷ []) }) })) ∷ [])) }

-- program p { f(1); }
abbrev pub unknown_callee : Row
unknown_callee = record { told = Refused 30 1; source = (tree ((item.Program (record { line = 1; name = (codes "p"); block = (record { line = 1; decls = []; stmts = ((s.Call (post 1 (form.Name (codes "f")) (suffix.Call ((x.Postfix (post 1 (form.Number (decimal 1)) [])) ∷ []) ∷ []))) ∷ []) }) })) ∷ [])) }

-- program p { integer a = b, b; }
abbrev pub unknown_before_use : Row
unknown_before_use = record { told = Accepted; source = (tree ((item.Program (record { line = 1; name = (codes "p"); block = (record { line = 1; decls = (record { line = 1; of = (record { line = 1; form = type_form.Integer }); variables = (record { line = 1; name = (codes "a"); bracket = bracket.None; value = (Some (x.Postfix (post 1 (form.Name (codes "b")) []))) } ∷ record { line = 1; name = (codes "b"); bracket = bracket.None; value = None } ∷ []) } ∷ []); stmts = [] }) })) ∷ [])) }

-- enum e = A; program p { e x; x = B; }
abbrev pub unknown_enum_name : Row
unknown_enum_name = record { told = Refused 30 1; source = (tree ((item.Enumeration (record { line = 1; name = (codes "e"); values = ((codes "A") ∷ []) })) ∷ (item.Program (record { line = 1; name = (codes "p"); block = (record { line = 1; decls = (record { line = 1; of = (record { line = 1; form = (type_form.Named (codes "e")) }); variables = (record { line = 1; name = (codes "x"); bracket = bracket.None; value = None } ∷ []) } ∷ []); stmts = ((s.Step (record { line = 1; target = (post 1 (form.Name (codes "x")) []); change = (change.Assign (x.Postfix (post 1 (form.Name (codes "B")) []))) })) ∷ []) }) })) ∷ [])) }

-- program p {
--  bit [N:0] v; }
abbrev pub unknown_range : Row
unknown_range = record { told = Refused 30 2; source = (tree ((item.Program (record { line = 1; name = (codes "p"); block = (record { line = 1; decls = (record { line = 2; of = (record { line = 2; form = (type_form.Bit (Some (record { line = 2; high = (x.Postfix (post 2 (form.Name (codes "N")) [])); low = (x.Postfix (post 2 (form.Number (decimal 0)) [])) }))) }); variables = (record { line = 2; name = (codes "v"); bracket = bracket.None; value = None } ∷ []) } ∷ []); stmts = [] }) })) ∷ [])) }

-- interface i { input clk CLOCK; output [3:0] b PHOLD #1; input [3:0] q PSAMPLE #-1; }
-- program p { @(posedge i.z); }
abbrev pub unknown_edge_signal : Row
unknown_edge_signal = record { told = Refused 30 2; source = (tree ((item.Interface (record { line = 1; name = (codes "i"); signals = (record { line = 1; direction = Input; range = None; name = (codes "clk"); kind = record { line = 1; form = Clock } } ∷ record { line = 1; direction = Output; range = (Some (record { line = 1; high = (x.Postfix (post 1 (form.Number (decimal 3)) [])); low = (x.Postfix (post 1 (form.Number (decimal 0)) [])) })); name = (codes "b"); kind = record { line = 1; form = (Timed PositiveHold (Some (record { is_negative = false; amount = (decimal 1) }))) } } ∷ record { line = 1; direction = Input; range = (Some (record { line = 1; high = (x.Postfix (post 1 (form.Number (decimal 3)) [])); low = (x.Postfix (post 1 (form.Number (decimal 0)) [])) })); name = (codes "q"); kind = record { line = 1; form = (Timed PositiveSample (Some (record { is_negative = true; amount = (decimal 1) }))) } } ∷ []) })) ∷ (item.Program (record { line = 2; name = (codes "p"); block = (record { line = 2; decls = []; stmts = ((s.Edge (record { line = 2; negative = false; clock = (clock.Signal (codes "i") (codes "z")) })) ∷ []) }) })) ∷ [])) }

-- program p { @(posedge j.clk); }
abbrev pub unknown_edge_interface : Row
unknown_edge_interface = record { told = Refused 30 1; source = (tree ((item.Program (record { line = 1; name = (codes "p"); block = (record { line = 1; decls = []; stmts = ((s.Edge (record { line = 1; negative = false; clock = (clock.Signal (codes "j") (codes "clk")) })) ∷ []) }) })) ∷ [])) }

-- program p { a =
--  b; }
abbrev pub unknown_left_first : Row
unknown_left_first = record { told = Refused 30 1; source = (tree ((item.Program (record { line = 1; name = (codes "p"); block = (record { line = 1; decls = []; stmts = ((s.Step (record { line = 1; target = (post 1 (form.Name (codes "a")) []); change = (change.Assign (x.Postfix (post 2 (form.Name (codes "b")) []))) })) ∷ []) }) })) ∷ [])) }

-- program p { { integer a; } a = 1; }
abbrev pub unknown_inner_block : Row
unknown_inner_block = record { told = Refused 30 1; source = (tree ((item.Program (record { line = 1; name = (codes "p"); block = (record { line = 1; decls = []; stmts = ((s.Block (record { line = 1; decls = (record { line = 1; of = (record { line = 1; form = type_form.Integer }); variables = (record { line = 1; name = (codes "a"); bracket = bracket.None; value = None } ∷ []) } ∷ []); stmts = [] })) ∷ (s.Step (record { line = 1; target = (post 1 (form.Name (codes "a")) []); change = (change.Assign (x.Postfix (post 1 (form.Number (decimal 1)) []))) })) ∷ []) }) })) ∷ [])) }

-- task t(integer a) { } program p { a = 1; }
abbrev pub unknown_parameter_elsewhere : Row
unknown_parameter_elsewhere = record { told = Refused 30 1; source = (tree ((item.Task (record { line = 1; name = (Named (codes "t")); parameters = (record { line = 1; is_var = false; of = (record { line = 1; form = type_form.Integer }); name = (codes "a") } ∷ []); block = (record { line = 1; decls = []; stmts = [] }) })) ∷ (item.Program (record { line = 1; name = (codes "p"); block = (record { line = 1; decls = []; stmts = ((s.Step (record { line = 1; target = (post 1 (form.Name (codes "a")) []); change = (change.Assign (x.Postfix (post 1 (form.Number (decimal 1)) []))) })) ∷ []) }) })) ∷ [])) }

-- program p { bit [f(zz):0] v; }
abbrev pub unknown_in_bad_constant : Row
unknown_in_bad_constant = record { told = Refused 30 1; source = (tree ((item.Program (record { line = 1; name = (codes "p"); block = (record { line = 1; decls = (record { line = 1; of = (record { line = 1; form = (type_form.Bit (Some (record { line = 1; high = (x.Postfix (post 1 (form.Name (codes "f")) (suffix.Call ((x.Postfix (post 1 (form.Name (codes "zz")) [])) ∷ []) ∷ []))); low = (x.Postfix (post 1 (form.Number (decimal 0)) [])) }))) }); variables = (record { line = 1; name = (codes "v"); bracket = bracket.None; value = None } ∷ []) } ∷ []); stmts = [] }) })) ∷ [])) }

-- interface i { input clk CLOCK; output [3:0] b PHOLD #1; input [3:0] q PSAMPLE #-1; }
-- program p { @n i.b = 1; }
abbrev pub unknown_delay_name : Row
unknown_delay_name = record { told = Refused 30 2; source = (tree ((item.Interface (record { line = 1; name = (codes "i"); signals = (record { line = 1; direction = Input; range = None; name = (codes "clk"); kind = record { line = 1; form = Clock } } ∷ record { line = 1; direction = Output; range = (Some (record { line = 1; high = (x.Postfix (post 1 (form.Number (decimal 3)) [])); low = (x.Postfix (post 1 (form.Number (decimal 0)) [])) })); name = (codes "b"); kind = record { line = 1; form = (Timed PositiveHold (Some (record { is_negative = false; amount = (decimal 1) }))) } } ∷ record { line = 1; direction = Input; range = (Some (record { line = 1; high = (x.Postfix (post 1 (form.Number (decimal 3)) [])); low = (x.Postfix (post 1 (form.Number (decimal 0)) [])) })); name = (codes "q"); kind = record { line = 1; form = (Timed PositiveSample (Some (record { is_negative = true; amount = (decimal 1) }))) } } ∷ []) })) ∷ (item.Program (record { line = 2; name = (codes "p"); block = (record { line = 2; decls = []; stmts = ((s.Drive (record { line = 2; delay = (Some (record { line = 2; form = (delay_form.Name (codes "n")) })); signal = (post 2 (form.Name (codes "i")) (suffix.Member (codes "b") ∷ [])); operator = Plain; value = (x.Postfix (post 2 (form.Number (decimal 1)) [])) })) ∷ []) }) })) ∷ [])) }

-- task t() { integer a; } task u() { a = 1; } program p { }
abbrev pub local_of_other_task : Row
local_of_other_task = record { told = Refused 30 1; source = (tree ((item.Task (record { line = 1; name = (Named (codes "t")); parameters = []; block = (record { line = 1; decls = (record { line = 1; of = (record { line = 1; form = type_form.Integer }); variables = (record { line = 1; name = (codes "a"); bracket = bracket.None; value = None } ∷ []) } ∷ []); stmts = [] }) })) ∷ (item.Task (record { line = 1; name = (Named (codes "u")); parameters = []; block = (record { line = 1; decls = []; stmts = ((s.Step (record { line = 1; target = (post 1 (form.Name (codes "a")) []); change = (change.Assign (x.Postfix (post 1 (form.Number (decimal 1)) []))) })) ∷ []) }) })) ∷ (item.Program (record { line = 1; name = (codes "p"); block = (record { line = 1; decls = []; stmts = [] }) })) ∷ [])) }

-- task t() { a = 1; } program p { integer a; t(); }
abbrev pub program_variable_everywhere : Row
program_variable_everywhere = record { told = Accepted; source = (tree ((item.Task (record { line = 1; name = (Named (codes "t")); parameters = []; block = (record { line = 1; decls = []; stmts = ((s.Step (record { line = 1; target = (post 1 (form.Name (codes "a")) []); change = (change.Assign (x.Postfix (post 1 (form.Number (decimal 1)) []))) })) ∷ []) }) })) ∷ (item.Program (record { line = 1; name = (codes "p"); block = (record { line = 1; decls = (record { line = 1; of = (record { line = 1; form = type_form.Integer }); variables = (record { line = 1; name = (codes "a"); bracket = bracket.None; value = None } ∷ []) } ∷ []); stmts = ((s.Call (post 1 (form.Name (codes "t")) (suffix.Call [] ∷ []))) ∷ []) }) })) ∷ [])) }

-- function foo f() { } program p { }
abbrev pub unknown_result_type : Row
unknown_result_type = record { told = Refused 30 1; source = (tree ((item.Function (record { line = 1; result = (record { line = 1; form = (type_form.Named (codes "foo")) }); name = (codes "f"); parameters = []; block = (record { line = 1; decls = []; stmts = [] }) })) ∷ (item.Program (record { line = 1; name = (codes "p"); block = (record { line = 1; decls = []; stmts = [] }) })) ∷ [])) }

-- task t(
-- foo a) { } program p { }
abbrev pub unknown_parameter_type : Row
unknown_parameter_type = record { told = Refused 30 2; source = (tree ((item.Task (record { line = 1; name = (Named (codes "t")); parameters = (record { line = 2; is_var = false; of = (record { line = 2; form = (type_form.Named (codes "foo")) }); name = (codes "a") } ∷ []); block = (record { line = 2; decls = []; stmts = [] }) })) ∷ (item.Program (record { line = 2; name = (codes "p"); block = (record { line = 2; decls = []; stmts = [] }) })) ∷ [])) }

-- program p { e x; x = A; } enum e = A;
abbrev pub enum_after_use : Row
enum_after_use = record { told = Accepted; source = (tree ((item.Program (record { line = 1; name = (codes "p"); block = (record { line = 1; decls = (record { line = 1; of = (record { line = 1; form = (type_form.Named (codes "e")) }); variables = (record { line = 1; name = (codes "x"); bracket = bracket.None; value = None } ∷ []) } ∷ []); stmts = ((s.Step (record { line = 1; target = (post 1 (form.Name (codes "x")) []); change = (change.Assign (x.Postfix (post 1 (form.Name (codes "A")) []))) })) ∷ []) }) })) ∷ (item.Enumeration (record { line = 1; name = (codes "e"); values = ((codes "A") ∷ []) })) ∷ [])) }

-- interface i { input clk CLOCK; output [3:0] b PHOLD #1; input [3:0] q PSAMPLE #-1; }
-- function integer f() { @(posedge i.z); } program p { }
abbrev pub function_edge_unknown : Row
function_edge_unknown = record { told = Refused 30 2; source = (tree ((item.Interface (record { line = 1; name = (codes "i"); signals = (record { line = 1; direction = Input; range = None; name = (codes "clk"); kind = record { line = 1; form = Clock } } ∷ record { line = 1; direction = Output; range = (Some (record { line = 1; high = (x.Postfix (post 1 (form.Number (decimal 3)) [])); low = (x.Postfix (post 1 (form.Number (decimal 0)) [])) })); name = (codes "b"); kind = record { line = 1; form = (Timed PositiveHold (Some (record { is_negative = false; amount = (decimal 1) }))) } } ∷ record { line = 1; direction = Input; range = (Some (record { line = 1; high = (x.Postfix (post 1 (form.Number (decimal 3)) [])); low = (x.Postfix (post 1 (form.Number (decimal 0)) [])) })); name = (codes "q"); kind = record { line = 1; form = (Timed PositiveSample (Some (record { is_negative = true; amount = (decimal 1) }))) } } ∷ []) })) ∷ (item.Function (record { line = 2; result = (record { line = 2; form = type_form.Integer }); name = (codes "f"); parameters = []; block = (record { line = 2; decls = []; stmts = ((s.Edge (record { line = 2; negative = false; clock = (clock.Signal (codes "i") (codes "z")) })) ∷ []) }) })) ∷ (item.Program (record { line = 2; name = (codes "p"); block = (record { line = 2; decls = []; stmts = [] }) })) ∷ [])) }

abbrev pub name_rows : List Row
name_rows = unknown_type ∷ unknown_signal ∷ unknown_callee ∷ unknown_before_use ∷ unknown_enum_name ∷ unknown_range ∷ unknown_edge_signal ∷ unknown_edge_interface ∷ unknown_left_first ∷ unknown_inner_block ∷ unknown_parameter_elsewhere ∷ unknown_in_bad_constant ∷ unknown_delay_name ∷ local_of_other_task ∷ program_variable_everywhere ∷ unknown_result_type ∷ unknown_parameter_type ∷ enum_after_use ∷ function_edge_unknown ∷ []
