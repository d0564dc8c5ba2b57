-- What can and cannot be assigned.
use Rattle.std.specs.Prelude.{true, false, List, [], ◌∷◌, Some, None, codes}
use Rattle.four_state.specs.declared.bit.Bit.TheVariants.{Zero, One, X, Z}
use Rattle.vera_ast.specs.declared.tree.declarations.Bracket.TheVariants as bracket
use Rattle.vera_ast.specs.declared.tree.declarations.TypeForm.TheVariants as type_form
use Rattle.vera_ast.specs.declared.tree.expressions.ChainOperator.TheVariants as o
use Rattle.vera_ast.specs.declared.tree.expressions.UnaryOperator.TheVariants as u
use Rattle.vera_ast.specs.declared.tree.expressions.Expr.TheVariants as x
use Rattle.vera_ast.specs.declared.tree.expressions.PrimaryForm.TheVariants as form
use Rattle.vera_ast.specs.declared.tree.expressions.Suffix.TheVariants as suffix
use Rattle.vera_ast.specs.declared.tree.interfaces.Direction.TheVariants.{Input, Output}
use Rattle.vera_ast.specs.declared.tree.interfaces.SignalForm.TheVariants.{Clock, Timed}
use Rattle.vera_ast.specs.declared.tree.interfaces.SignalTime.TheVariants.{PositiveHold, PositiveSample, NegativeHold, NegativeSample}
use Rattle.vera_ast.specs.declared.tree.items.Item.TheVariants as item
use Rattle.vera_ast.specs.declared.tree.items.TaskName.TheVariants.{Named, New}
use Rattle.vera_ast.specs.declared.tree.items.Tree.{Tree}
use Rattle.vera_ast.specs.declared.tree.statements.ArmLabel.TheVariants as label
use Rattle.vera_ast.specs.declared.tree.statements.Change.TheVariants as change
use Rattle.vera_ast.specs.declared.tree.statements.DelayForm.TheVariants as delay_form
use Rattle.vera_ast.specs.declared.tree.statements.DriveOperator.TheVariants.{Assign as Plain, Arrow}
use Rattle.vera_ast.specs.declared.tree.statements.EdgeClock.TheVariants as clock
use Rattle.vera_ast.specs.declared.tree.statements.Join.TheVariants as join
use Rattle.vera_ast.specs.declared.tree.statements.Stmt.TheVariants as s
use Rattle.vera_ast.specs.declared.tree.statements.TermOperator.TheVariants as term
use Rattle.vera_ast.specs.declared.tree.statements.WindowKind.TheVariants as window
use Rattle.typing_rules.specs.Sources.{tree, post, decimal, based}
use Rattle.typing_rules.specs.Told.{Row, Accepted, Refused}

-- program p { 1 = 2; }
abbrev pub assign_number : Row
assign_number = record { told = Refused 34 1; source = (tree ((item.Program (record { line = 1; name = (codes "p"); block = (record { line = 1; decls = []; stmts = ((s.Step (record { line = 1; target = (post 1 (form.Number (decimal 1)) []); change = (change.Assign (x.Postfix (post 1 (form.Number (decimal 2)) []))) })) ∷ []) }) })) ∷ [])) }

-- program p { 1 = b; }
abbrev pub assign_number_unknown : Row
assign_number_unknown = record { told = Refused 30 1; source = (tree ((item.Program (record { line = 1; name = (codes "p"); block = (record { line = 1; decls = []; stmts = ((s.Step (record { line = 1; target = (post 1 (form.Number (decimal 1)) []); change = (change.Assign (x.Postfix (post 1 (form.Name (codes "b")) []))) })) ∷ []) }) })) ∷ [])) }

-- program p { 1 = "s"; }
abbrev pub assign_number_string : Row
assign_number_string = record { told = Refused 32 1; source = (tree ((item.Program (record { line = 1; name = (codes "p"); block = (record { line = 1; decls = []; stmts = ((s.Step (record { line = 1; target = (post 1 (form.Number (decimal 1)) []); change = (change.Assign (x.Postfix (post 1 (form.Str (115 ∷ [])) []))) })) ∷ []) }) })) ∷ [])) }

-- enum e = A; program p { A = A; }
abbrev pub assign_enum_name : Row
assign_enum_name = record { told = Refused 34 1; source = (tree ((item.Enumeration (record { line = 1; name = (codes "e"); values = ((codes "A") ∷ []) })) ∷ (item.Program (record { line = 1; name = (codes "p"); block = (record { line = 1; decls = []; stmts = ((s.Step (record { line = 1; target = (post 1 (form.Name (codes "A")) []); change = (change.Assign (x.Postfix (post 1 (form.Name (codes "A")) []))) })) ∷ []) }) })) ∷ [])) }

-- program p { integer a; (a) = 1; }
abbrev pub assign_sum : Row
assign_sum = record { told = Refused 34 1; source = (tree ((item.Program (record { line = 1; name = (codes "p"); block = (record { line = 1; decls = (record { line = 1; of = (record { line = 1; form = type_form.Integer }); variables = (record { line = 1; name = (codes "a"); bracket = bracket.None; value = None } ∷ []) } ∷ []); stmts = ((s.Step (record { line = 1; target = (post 1 (form.Parentheses (x.Postfix (post 1 (form.Name (codes "a")) []))) []); change = (change.Assign (x.Postfix (post 1 (form.Number (decimal 1)) []))) })) ∷ []) }) })) ∷ [])) }

-- function integer f() { } program p { f() = 1; }
abbrev pub assign_call : Row
assign_call = record { told = Refused 34 1; source = (tree ((item.Function (record { line = 1; result = (record { line = 1; form = type_form.Integer }); name = (codes "f"); parameters = []; block = (record { line = 1; decls = []; stmts = [] }) })) ∷ (item.Program (record { line = 1; name = (codes "p"); block = (record { line = 1; decls = []; stmts = ((s.Step (record { line = 1; target = (post 1 (form.Name (codes "f")) (suffix.Call [] ∷ [])); change = (change.Assign (x.Postfix (post 1 (form.Number (decimal 1)) []))) })) ∷ []) }) })) ∷ [])) }

-- task t() { } program p { t = 1; }
abbrev pub assign_task : Row
assign_task = record { told = Refused 34 1; source = (tree ((item.Task (record { line = 1; name = (Named (codes "t")); parameters = []; block = (record { line = 1; decls = []; stmts = [] }) })) ∷ (item.Program (record { line = 1; name = (codes "p"); block = (record { line = 1; decls = []; stmts = ((s.Step (record { line = 1; target = (post 1 (form.Name (codes "t")) []); change = (change.Assign (x.Postfix (post 1 (form.Number (decimal 1)) []))) })) ∷ []) }) })) ∷ [])) }

-- program p { event e, f; e = f; }
abbrev pub assign_event : Row
assign_event = record { told = Refused 34 1; source = (tree ((item.Program (record { line = 1; name = (codes "p"); block = (record { line = 1; decls = (record { line = 1; of = (record { line = 1; form = type_form.Event }); variables = (record { line = 1; name = (codes "e"); bracket = bracket.None; value = None } ∷ record { line = 1; name = (codes "f"); bracket = bracket.None; value = None } ∷ []) } ∷ []); stmts = ((s.Step (record { line = 1; target = (post 1 (form.Name (codes "e")) []); change = (change.Assign (x.Postfix (post 1 (form.Name (codes "f")) []))) })) ∷ []) }) })) ∷ [])) }

-- program p { event e, f = e; }
abbrev pub event_initial : Row
event_initial = record { told = Refused 34 1; source = (tree ((item.Program (record { line = 1; name = (codes "p"); block = (record { line = 1; decls = (record { line = 1; of = (record { line = 1; form = type_form.Event }); variables = (record { line = 1; name = (codes "e"); bracket = bracket.None; value = None } ∷ record { line = 1; name = (codes "f"); bracket = bracket.None; value = (Some (x.Postfix (post 1 (form.Name (codes "e")) []))) } ∷ []) } ∷ []); stmts = [] }) })) ∷ [])) }

-- enum e = A; program p { e x; x[0] = 1; }
abbrev pub assign_enum_bit : Row
assign_enum_bit = record { told = Refused 34 1; source = (tree ((item.Enumeration (record { line = 1; name = (codes "e"); values = ((codes "A") ∷ []) })) ∷ (item.Program (record { line = 1; name = (codes "p"); block = (record { line = 1; decls = (record { line = 1; of = (record { line = 1; form = (type_form.Named (codes "e")) }); variables = (record { line = 1; name = (codes "x"); bracket = bracket.None; value = None } ∷ []) } ∷ []); stmts = ((s.Step (record { line = 1; target = (post 1 (form.Name (codes "x")) (suffix.Index (x.Postfix (post 1 (form.Number (decimal 0)) [])) ∷ [])); change = (change.Assign (x.Postfix (post 1 (form.Number (decimal 1)) []))) })) ∷ []) }) })) ∷ [])) }

-- program p { integer x; x[3:0][0] = 1; }
abbrev pub assign_bits_of_bits : Row
assign_bits_of_bits = record { told = Refused 34 1; source = (tree ((item.Program (record { line = 1; name = (codes "p"); block = (record { line = 1; decls = (record { line = 1; of = (record { line = 1; form = type_form.Integer }); variables = (record { line = 1; name = (codes "x"); bracket = bracket.None; value = None } ∷ []) } ∷ []); stmts = ((s.Step (record { line = 1; target = (post 1 (form.Name (codes "x")) (suffix.Bits (x.Postfix (post 1 (form.Number (decimal 3)) [])) (x.Postfix (post 1 (form.Number (decimal 0)) [])) ∷ suffix.Index (x.Postfix (post 1 (form.Number (decimal 0)) [])) ∷ [])); change = (change.Assign (x.Postfix (post 1 (form.Number (decimal 1)) []))) })) ∷ []) }) })) ∷ [])) }

-- enum e = A; program p { integer x; e y; x = x[3:0][0] + y[0] + (x + 1)[2]; }
abbrev pub read_bits_of_bits : Row
read_bits_of_bits = record { told = Accepted; source = (tree ((item.Enumeration (record { line = 1; name = (codes "e"); values = ((codes "A") ∷ []) })) ∷ (item.Program (record { line = 1; name = (codes "p"); block = (record { line = 1; decls = (record { line = 1; of = (record { line = 1; form = type_form.Integer }); variables = (record { line = 1; name = (codes "x"); bracket = bracket.None; value = None } ∷ []) } ∷ record { line = 1; of = (record { line = 1; form = (type_form.Named (codes "e")) }); variables = (record { line = 1; name = (codes "y"); bracket = bracket.None; value = None } ∷ []) } ∷ []); stmts = ((s.Step (record { line = 1; target = (post 1 (form.Name (codes "x")) []); change = (change.Assign (x.Chain 1 (x.Postfix (post 1 (form.Name (codes "x")) (suffix.Bits (x.Postfix (post 1 (form.Number (decimal 3)) [])) (x.Postfix (post 1 (form.Number (decimal 0)) [])) ∷ suffix.Index (x.Postfix (post 1 (form.Number (decimal 0)) [])) ∷ []))) (record { operator = o.Add; operand = (x.Postfix (post 1 (form.Name (codes "y")) (suffix.Index (x.Postfix (post 1 (form.Number (decimal 0)) [])) ∷ []))) } ∷ record { operator = o.Add; operand = (x.Postfix (post 1 (form.Parentheses (x.Chain 1 (x.Postfix (post 1 (form.Name (codes "x")) [])) (record { operator = o.Add; operand = (x.Postfix (post 1 (form.Number (decimal 1)) [])) } ∷ []))) (suffix.Index (x.Postfix (post 1 (form.Number (decimal 2)) [])) ∷ []))) } ∷ []))) })) ∷ []) }) })) ∷ [])) }

-- task t(var integer v) { } program p { t(1); }
abbrev pub var_number : Row
var_number = record { told = Refused 34 1; source = (tree ((item.Task (record { line = 1; name = (Named (codes "t")); parameters = (record { line = 1; is_var = true; of = (record { line = 1; form = type_form.Integer }); name = (codes "v") } ∷ []); block = (record { line = 1; decls = []; stmts = [] }) })) ∷ (item.Program (record { line = 1; name = (codes "p"); block = (record { line = 1; decls = []; stmts = ((s.Call (post 1 (form.Name (codes "t")) (suffix.Call ((x.Postfix (post 1 (form.Number (decimal 1)) [])) ∷ []) ∷ []))) ∷ []) }) })) ∷ [])) }

-- task t(var bit v) { } program p { integer a; t(a[0]); }
abbrev pub var_bits : Row
var_bits = record { told = Refused 34 1; source = (tree ((item.Task (record { line = 1; name = (Named (codes "t")); parameters = (record { line = 1; is_var = true; of = (record { line = 1; form = (type_form.Bit None) }); name = (codes "v") } ∷ []); block = (record { line = 1; decls = []; stmts = [] }) })) ∷ (item.Program (record { line = 1; name = (codes "p"); block = (record { line = 1; decls = (record { line = 1; of = (record { line = 1; form = type_form.Integer }); variables = (record { line = 1; name = (codes "a"); bracket = bracket.None; value = None } ∷ []) } ∷ []); stmts = ((s.Call (post 1 (form.Name (codes "t")) (suffix.Call ((x.Postfix (post 1 (form.Name (codes "a")) (suffix.Index (x.Postfix (post 1 (form.Number (decimal 0)) [])) ∷ []))) ∷ []) ∷ []))) ∷ []) }) })) ∷ [])) }

-- task t(var integer v) { v = 1; } program p { integer a[4]; t(a[0]); }
abbrev pub var_element : Row
var_element = record { told = Accepted; source = (tree ((item.Task (record { line = 1; name = (Named (codes "t")); parameters = (record { line = 1; is_var = true; of = (record { line = 1; form = type_form.Integer }); name = (codes "v") } ∷ []); block = (record { line = 1; decls = []; stmts = ((s.Step (record { line = 1; target = (post 1 (form.Name (codes "v")) []); change = (change.Assign (x.Postfix (post 1 (form.Number (decimal 1)) []))) })) ∷ []) }) })) ∷ (item.Program (record { line = 1; name = (codes "p"); block = (record { line = 1; decls = (record { line = 1; of = (record { line = 1; form = type_form.Integer }); variables = (record { line = 1; name = (codes "a"); bracket = (bracket.Fixed (x.Postfix (post 1 (form.Number (decimal 4)) []))); value = None } ∷ []) } ∷ []); stmts = ((s.Call (post 1 (form.Name (codes "t")) (suffix.Call ((x.Postfix (post 1 (form.Name (codes "a")) (suffix.Index (x.Postfix (post 1 (form.Number (decimal 0)) [])) ∷ []))) ∷ []) ∷ []))) ∷ []) }) })) ∷ [])) }

-- interface i { input clk CLOCK; output [3:0] b PHOLD #1; input [3:0] q PSAMPLE #-1; }
-- task t(var bit [3:0] v) { } program p { t(i.q); }
abbrev pub var_signal : Row
var_signal = record { told = Refused 34 2; source = (tree ((item.Interface (record { line = 1; name = (codes "i"); signals = (record { line = 1; direction = Input; range = None; name = (codes "clk"); kind = record { line = 1; form = Clock } } ∷ record { line = 1; direction = Output; range = (Some (record { line = 1; high = (x.Postfix (post 1 (form.Number (decimal 3)) [])); low = (x.Postfix (post 1 (form.Number (decimal 0)) [])) })); name = (codes "b"); kind = record { line = 1; form = (Timed PositiveHold (Some (record { is_negative = false; amount = (decimal 1) }))) } } ∷ record { line = 1; direction = Input; range = (Some (record { line = 1; high = (x.Postfix (post 1 (form.Number (decimal 3)) [])); low = (x.Postfix (post 1 (form.Number (decimal 0)) [])) })); name = (codes "q"); kind = record { line = 1; form = (Timed PositiveSample (Some (record { is_negative = true; amount = (decimal 1) }))) } } ∷ []) })) ∷ (item.Task (record { line = 2; name = (Named (codes "t")); parameters = (record { line = 2; is_var = true; of = (record { line = 2; form = (type_form.Bit (Some (record { line = 2; high = (x.Postfix (post 2 (form.Number (decimal 3)) [])); low = (x.Postfix (post 2 (form.Number (decimal 0)) [])) }))) }); name = (codes "v") } ∷ []); block = (record { line = 2; decls = []; stmts = [] }) })) ∷ (item.Program (record { line = 2; name = (codes "p"); block = (record { line = 2; decls = []; stmts = ((s.Call (post 2 (form.Name (codes "t")) (suffix.Call ((x.Postfix (post 2 (form.Name (codes "i")) (suffix.Member (codes "q") ∷ []))) ∷ []) ∷ []))) ∷ []) }) })) ∷ [])) }

-- interface i { input clk CLOCK; output [3:0] b PHOLD #1; input [3:0] q PSAMPLE #-1; }
-- task t(var bit [3:0] v) { } program p { t(i.b); }
abbrev pub var_output_signal : Row
var_output_signal = record { told = Refused 34 2; source = (tree ((item.Interface (record { line = 1; name = (codes "i"); signals = (record { line = 1; direction = Input; range = None; name = (codes "clk"); kind = record { line = 1; form = Clock } } ∷ record { line = 1; direction = Output; range = (Some (record { line = 1; high = (x.Postfix (post 1 (form.Number (decimal 3)) [])); low = (x.Postfix (post 1 (form.Number (decimal 0)) [])) })); name = (codes "b"); kind = record { line = 1; form = (Timed PositiveHold (Some (record { is_negative = false; amount = (decimal 1) }))) } } ∷ record { line = 1; direction = Input; range = (Some (record { line = 1; high = (x.Postfix (post 1 (form.Number (decimal 3)) [])); low = (x.Postfix (post 1 (form.Number (decimal 0)) [])) })); name = (codes "q"); kind = record { line = 1; form = (Timed PositiveSample (Some (record { is_negative = true; amount = (decimal 1) }))) } } ∷ []) })) ∷ (item.Task (record { line = 2; name = (Named (codes "t")); parameters = (record { line = 2; is_var = true; of = (record { line = 2; form = (type_form.Bit (Some (record { line = 2; high = (x.Postfix (post 2 (form.Number (decimal 3)) [])); low = (x.Postfix (post 2 (form.Number (decimal 0)) [])) }))) }); name = (codes "v") } ∷ []); block = (record { line = 2; decls = []; stmts = [] }) })) ∷ (item.Program (record { line = 2; name = (codes "p"); block = (record { line = 2; decls = []; stmts = ((s.Call (post 2 (form.Name (codes "t")) (suffix.Call ((x.Postfix (post 2 (form.Name (codes "i")) (suffix.Member (codes "b") ∷ []))) ∷ []) ∷ []))) ∷ []) }) })) ∷ [])) }

-- task t(var event v) { } program p { event e; t(e); }
abbrev pub var_event : Row
var_event = record { told = Refused 34 1; source = (tree ((item.Task (record { line = 1; name = (Named (codes "t")); parameters = (record { line = 1; is_var = true; of = (record { line = 1; form = type_form.Event }); name = (codes "v") } ∷ []); block = (record { line = 1; decls = []; stmts = [] }) })) ∷ (item.Program (record { line = 1; name = (codes "p"); block = (record { line = 1; decls = (record { line = 1; of = (record { line = 1; form = type_form.Event }); variables = (record { line = 1; name = (codes "e"); bracket = bracket.None; value = None } ∷ []) } ∷ []); stmts = ((s.Call (post 1 (form.Name (codes "t")) (suffix.Call ((x.Postfix (post 1 (form.Name (codes "e")) [])) ∷ []) ∷ []))) ∷ []) }) })) ∷ [])) }

-- task t(event v) { sync(ANY, v); } program p { event e; t(e); }
abbrev pub value_event : Row
value_event = record { told = Accepted; source = (tree ((item.Task (record { line = 1; name = (Named (codes "t")); parameters = (record { line = 1; is_var = false; of = (record { line = 1; form = type_form.Event }); name = (codes "v") } ∷ []); block = (record { line = 1; decls = []; stmts = ((s.Call (post 1 (form.Name (codes "sync")) (suffix.Call ((x.Postfix (post 1 (form.Name (codes "ANY")) [])) ∷ (x.Postfix (post 1 (form.Name (codes "v")) [])) ∷ []) ∷ []))) ∷ []) }) })) ∷ (item.Program (record { line = 1; name = (codes "p"); block = (record { line = 1; decls = (record { line = 1; of = (record { line = 1; form = type_form.Event }); variables = (record { line = 1; name = (codes "e"); bracket = bracket.None; value = None } ∷ []) } ∷ []); stmts = ((s.Call (post 1 (form.Name (codes "t")) (suffix.Call ((x.Postfix (post 1 (form.Name (codes "e")) [])) ∷ []) ∷ []))) ∷ []) }) })) ∷ [])) }

-- program p { integer a[4]; wait_var(a[0]); }
abbrev pub wait_var_element : Row
wait_var_element = record { told = Refused 34 1; source = (tree ((item.Program (record { line = 1; name = (codes "p"); block = (record { line = 1; decls = (record { line = 1; of = (record { line = 1; form = type_form.Integer }); variables = (record { line = 1; name = (codes "a"); bracket = (bracket.Fixed (x.Postfix (post 1 (form.Number (decimal 4)) []))); value = None } ∷ []) } ∷ []); stmts = ((s.Call (post 1 (form.Name (codes "wait_var")) (suffix.Call ((x.Postfix (post 1 (form.Name (codes "a")) (suffix.Index (x.Postfix (post 1 (form.Number (decimal 0)) [])) ∷ []))) ∷ []) ∷ []))) ∷ []) }) })) ∷ [])) }

-- program p { integer a; wait_var(a[0]); }
abbrev pub wait_var_bit : Row
wait_var_bit = record { told = Refused 34 1; source = (tree ((item.Program (record { line = 1; name = (codes "p"); block = (record { line = 1; decls = (record { line = 1; of = (record { line = 1; form = type_form.Integer }); variables = (record { line = 1; name = (codes "a"); bracket = bracket.None; value = None } ∷ []) } ∷ []); stmts = ((s.Call (post 1 (form.Name (codes "wait_var")) (suffix.Call ((x.Postfix (post 1 (form.Name (codes "a")) (suffix.Index (x.Postfix (post 1 (form.Number (decimal 0)) [])) ∷ []))) ∷ []) ∷ []))) ∷ []) }) })) ∷ [])) }

-- program p { event e; wait_var(e); }
abbrev pub wait_var_event : Row
wait_var_event = record { told = Refused 34 1; source = (tree ((item.Program (record { line = 1; name = (codes "p"); block = (record { line = 1; decls = (record { line = 1; of = (record { line = 1; form = type_form.Event }); variables = (record { line = 1; name = (codes "e"); bracket = bracket.None; value = None } ∷ []) } ∷ []); stmts = ((s.Call (post 1 (form.Name (codes "wait_var")) (suffix.Call ((x.Postfix (post 1 (form.Name (codes "e")) [])) ∷ []) ∷ []))) ∷ []) }) })) ∷ [])) }

-- program p { integer a; mailbox_get(WAIT, 1, a[0]); }
abbrev pub mailbox_get_bits : Row
mailbox_get_bits = record { told = Refused 34 1; source = (tree ((item.Program (record { line = 1; name = (codes "p"); block = (record { line = 1; decls = (record { line = 1; of = (record { line = 1; form = type_form.Integer }); variables = (record { line = 1; name = (codes "a"); bracket = bracket.None; value = None } ∷ []) } ∷ []); stmts = ((s.Call (post 1 (form.Name (codes "mailbox_get")) (suffix.Call ((x.Postfix (post 1 (form.Name (codes "WAIT")) [])) ∷ (x.Postfix (post 1 (form.Number (decimal 1)) [])) ∷ (x.Postfix (post 1 (form.Name (codes "a")) (suffix.Index (x.Postfix (post 1 (form.Number (decimal 0)) [])) ∷ []))) ∷ []) ∷ []))) ∷ []) }) })) ∷ [])) }

-- program p { integer a[3]; mailbox_get(WAIT, 1, a[0]); }
abbrev pub mailbox_get_element : Row
mailbox_get_element = record { told = Accepted; source = (tree ((item.Program (record { line = 1; name = (codes "p"); block = (record { line = 1; decls = (record { line = 1; of = (record { line = 1; form = type_form.Integer }); variables = (record { line = 1; name = (codes "a"); bracket = (bracket.Fixed (x.Postfix (post 1 (form.Number (decimal 3)) []))); value = None } ∷ []) } ∷ []); stmts = ((s.Call (post 1 (form.Name (codes "mailbox_get")) (suffix.Call ((x.Postfix (post 1 (form.Name (codes "WAIT")) [])) ∷ (x.Postfix (post 1 (form.Number (decimal 1)) [])) ∷ (x.Postfix (post 1 (form.Name (codes "a")) (suffix.Index (x.Postfix (post 1 (form.Number (decimal 0)) [])) ∷ []))) ∷ []) ∷ []))) ∷ []) }) })) ∷ [])) }

-- program p { sprintf("a", "b"); }
abbrev pub sprintf_literal : Row
sprintf_literal = record { told = Refused 34 1; source = (tree ((item.Program (record { line = 1; name = (codes "p"); block = (record { line = 1; decls = []; stmts = ((s.Call (post 1 (form.Name (codes "sprintf")) (suffix.Call ((x.Postfix (post 1 (form.Str (97 ∷ [])) [])) ∷ (x.Postfix (post 1 (form.Str (98 ∷ [])) [])) ∷ []) ∷ []))) ∷ []) }) })) ∷ [])) }

-- program p { string s; sprintf(s, "b%d", 3); }
abbrev pub sprintf : Row
sprintf = record { told = Accepted; source = (tree ((item.Program (record { line = 1; name = (codes "p"); block = (record { line = 1; decls = (record { line = 1; of = (record { line = 1; form = type_form.Str }); variables = (record { line = 1; name = (codes "s"); bracket = bracket.None; value = None } ∷ []) } ∷ []); stmts = ((s.Call (post 1 (form.Name (codes "sprintf")) (suffix.Call ((x.Postfix (post 1 (form.Name (codes "s")) [])) ∷ (x.Postfix (post 1 (form.Str (98 ∷ 37 ∷ 100 ∷ [])) [])) ∷ (x.Postfix (post 1 (form.Number (decimal 3)) [])) ∷ []) ∷ []))) ∷ []) }) })) ∷ [])) }

-- interface i { input clk CLOCK; output [3:0] b PHOLD #1; input [3:0] q PSAMPLE #-1; }
-- program p { i.b[0] = 1; }
abbrev pub signal_bit_assigned : Row
signal_bit_assigned = record { told = Refused 34 2; source = (tree ((item.Interface (record { line = 1; name = (codes "i"); signals = (record { line = 1; direction = Input; range = None; name = (codes "clk"); kind = record { line = 1; form = Clock } } ∷ record { line = 1; direction = Output; range = (Some (record { line = 1; high = (x.Postfix (post 1 (form.Number (decimal 3)) [])); low = (x.Postfix (post 1 (form.Number (decimal 0)) [])) })); name = (codes "b"); kind = record { line = 1; form = (Timed PositiveHold (Some (record { is_negative = false; amount = (decimal 1) }))) } } ∷ record { line = 1; direction = Input; range = (Some (record { line = 1; high = (x.Postfix (post 1 (form.Number (decimal 3)) [])); low = (x.Postfix (post 1 (form.Number (decimal 0)) [])) })); name = (codes "q"); kind = record { line = 1; form = (Timed PositiveSample (Some (record { is_negative = true; amount = (decimal 1) }))) } } ∷ []) })) ∷ (item.Program (record { line = 2; name = (codes "p"); block = (record { line = 2; decls = []; stmts = ((s.Step (record { line = 2; target = (post 2 (form.Name (codes "i")) (suffix.Member (codes "b") ∷ suffix.Index (x.Postfix (post 2 (form.Number (decimal 0)) [])) ∷ [])); change = (change.Assign (x.Postfix (post 2 (form.Number (decimal 1)) []))) })) ∷ []) }) })) ∷ [])) }

-- interface i { input clk CLOCK; output [3:0] b PHOLD #1; input [3:0] q PSAMPLE #-1; }
-- program p { i.b += 1; }
abbrev pub signal_added : Row
signal_added = record { told = Refused 34 2; source = (tree ((item.Interface (record { line = 1; name = (codes "i"); signals = (record { line = 1; direction = Input; range = None; name = (codes "clk"); kind = record { line = 1; form = Clock } } ∷ record { line = 1; direction = Output; range = (Some (record { line = 1; high = (x.Postfix (post 1 (form.Number (decimal 3)) [])); low = (x.Postfix (post 1 (form.Number (decimal 0)) [])) })); name = (codes "b"); kind = record { line = 1; form = (Timed PositiveHold (Some (record { is_negative = false; amount = (decimal 1) }))) } } ∷ record { line = 1; direction = Input; range = (Some (record { line = 1; high = (x.Postfix (post 1 (form.Number (decimal 3)) [])); low = (x.Postfix (post 1 (form.Number (decimal 0)) [])) })); name = (codes "q"); kind = record { line = 1; form = (Timed PositiveSample (Some (record { is_negative = true; amount = (decimal 1) }))) } } ∷ []) })) ∷ (item.Program (record { line = 2; name = (codes "p"); block = (record { line = 2; decls = []; stmts = ((s.Step (record { line = 2; target = (post 2 (form.Name (codes "i")) (suffix.Member (codes "b") ∷ [])); change = (change.Add (x.Postfix (post 2 (form.Number (decimal 1)) []))) })) ∷ []) }) })) ∷ [])) }

-- interface i { input clk CLOCK; output [3:0] b PHOLD #1; input [3:0] q PSAMPLE #-1; }
-- program p { i.b++; }
abbrev pub signal_counted : Row
signal_counted = record { told = Refused 34 2; source = (tree ((item.Interface (record { line = 1; name = (codes "i"); signals = (record { line = 1; direction = Input; range = None; name = (codes "clk"); kind = record { line = 1; form = Clock } } ∷ record { line = 1; direction = Output; range = (Some (record { line = 1; high = (x.Postfix (post 1 (form.Number (decimal 3)) [])); low = (x.Postfix (post 1 (form.Number (decimal 0)) [])) })); name = (codes "b"); kind = record { line = 1; form = (Timed PositiveHold (Some (record { is_negative = false; amount = (decimal 1) }))) } } ∷ record { line = 1; direction = Input; range = (Some (record { line = 1; high = (x.Postfix (post 1 (form.Number (decimal 3)) [])); low = (x.Postfix (post 1 (form.Number (decimal 0)) [])) })); name = (codes "q"); kind = record { line = 1; form = (Timed PositiveSample (Some (record { is_negative = true; amount = (decimal 1) }))) } } ∷ []) })) ∷ (item.Program (record { line = 2; name = (codes "p"); block = (record { line = 2; decls = []; stmts = ((s.Step (record { line = 2; target = (post 2 (form.Name (codes "i")) (suffix.Member (codes "b") ∷ [])); change = change.Increment })) ∷ []) }) })) ∷ [])) }

-- interface i { input clk CLOCK; output [3:0] b PHOLD #1; input [3:0] q PSAMPLE #-1; }
-- program p { i.q[0] = 1; }
abbrev pub input_bit_assigned : Row
input_bit_assigned = record { told = Refused 34 2; source = (tree ((item.Interface (record { line = 1; name = (codes "i"); signals = (record { line = 1; direction = Input; range = None; name = (codes "clk"); kind = record { line = 1; form = Clock } } ∷ record { line = 1; direction = Output; range = (Some (record { line = 1; high = (x.Postfix (post 1 (form.Number (decimal 3)) [])); low = (x.Postfix (post 1 (form.Number (decimal 0)) [])) })); name = (codes "b"); kind = record { line = 1; form = (Timed PositiveHold (Some (record { is_negative = false; amount = (decimal 1) }))) } } ∷ record { line = 1; direction = Input; range = (Some (record { line = 1; high = (x.Postfix (post 1 (form.Number (decimal 3)) [])); low = (x.Postfix (post 1 (form.Number (decimal 0)) [])) })); name = (codes "q"); kind = record { line = 1; form = (Timed PositiveSample (Some (record { is_negative = true; amount = (decimal 1) }))) } } ∷ []) })) ∷ (item.Program (record { line = 2; name = (codes "p"); block = (record { line = 2; decls = []; stmts = ((s.Step (record { line = 2; target = (post 2 (form.Name (codes "i")) (suffix.Member (codes "q") ∷ suffix.Index (x.Postfix (post 2 (form.Number (decimal 0)) [])) ∷ [])); change = (change.Assign (x.Postfix (post 2 (form.Number (decimal 1)) []))) })) ∷ []) }) })) ∷ [])) }

-- interface i { input clk CLOCK; output [3:0] b PHOLD #1; input [3:0] q PSAMPLE #-1; }
-- program p { i.q -= 1; }
abbrev pub input_added : Row
input_added = record { told = Refused 34 2; source = (tree ((item.Interface (record { line = 1; name = (codes "i"); signals = (record { line = 1; direction = Input; range = None; name = (codes "clk"); kind = record { line = 1; form = Clock } } ∷ record { line = 1; direction = Output; range = (Some (record { line = 1; high = (x.Postfix (post 1 (form.Number (decimal 3)) [])); low = (x.Postfix (post 1 (form.Number (decimal 0)) [])) })); name = (codes "b"); kind = record { line = 1; form = (Timed PositiveHold (Some (record { is_negative = false; amount = (decimal 1) }))) } } ∷ record { line = 1; direction = Input; range = (Some (record { line = 1; high = (x.Postfix (post 1 (form.Number (decimal 3)) [])); low = (x.Postfix (post 1 (form.Number (decimal 0)) [])) })); name = (codes "q"); kind = record { line = 1; form = (Timed PositiveSample (Some (record { is_negative = true; amount = (decimal 1) }))) } } ∷ []) })) ∷ (item.Program (record { line = 2; name = (codes "p"); block = (record { line = 2; decls = []; stmts = ((s.Step (record { line = 2; target = (post 2 (form.Name (codes "i")) (suffix.Member (codes "q") ∷ [])); change = (change.Subtract (x.Postfix (post 2 (form.Number (decimal 1)) []))) })) ∷ []) }) })) ∷ [])) }

-- interface i { input clk CLOCK; output [3:0] b PHOLD #1; input [3:0] q PSAMPLE #-1; }
-- program p { i.b[1:0] = 1; }
abbrev pub signal_bits_assigned : Row
signal_bits_assigned = record { told = Refused 34 2; source = (tree ((item.Interface (record { line = 1; name = (codes "i"); signals = (record { line = 1; direction = Input; range = None; name = (codes "clk"); kind = record { line = 1; form = Clock } } ∷ record { line = 1; direction = Output; range = (Some (record { line = 1; high = (x.Postfix (post 1 (form.Number (decimal 3)) [])); low = (x.Postfix (post 1 (form.Number (decimal 0)) [])) })); name = (codes "b"); kind = record { line = 1; form = (Timed PositiveHold (Some (record { is_negative = false; amount = (decimal 1) }))) } } ∷ record { line = 1; direction = Input; range = (Some (record { line = 1; high = (x.Postfix (post 1 (form.Number (decimal 3)) [])); low = (x.Postfix (post 1 (form.Number (decimal 0)) [])) })); name = (codes "q"); kind = record { line = 1; form = (Timed PositiveSample (Some (record { is_negative = true; amount = (decimal 1) }))) } } ∷ []) })) ∷ (item.Program (record { line = 2; name = (codes "p"); block = (record { line = 2; decls = []; stmts = ((s.Step (record { line = 2; target = (post 2 (form.Name (codes "i")) (suffix.Member (codes "b") ∷ suffix.Bits (x.Postfix (post 2 (form.Number (decimal 1)) [])) (x.Postfix (post 2 (form.Number (decimal 0)) [])) ∷ [])); change = (change.Assign (x.Postfix (post 2 (form.Number (decimal 1)) []))) })) ∷ []) }) })) ∷ [])) }

-- function integer f() { integer a[2]; wait_var(a[0]); } program p { }
abbrev pub function_watches_element : Row
function_watches_element = record { told = Refused 34 1; source = (tree ((item.Function (record { line = 1; result = (record { line = 1; form = type_form.Integer }); name = (codes "f"); parameters = []; block = (record { line = 1; decls = (record { line = 1; of = (record { line = 1; form = type_form.Integer }); variables = (record { line = 1; name = (codes "a"); bracket = (bracket.Fixed (x.Postfix (post 1 (form.Number (decimal 2)) []))); value = None } ∷ []) } ∷ []); stmts = ((s.Call (post 1 (form.Name (codes "wait_var")) (suffix.Call ((x.Postfix (post 1 (form.Name (codes "a")) (suffix.Index (x.Postfix (post 1 (form.Number (decimal 0)) [])) ∷ []))) ∷ []) ∷ []))) ∷ []) }) })) ∷ (item.Program (record { line = 1; name = (codes "p"); block = (record { line = 1; decls = []; stmts = [] }) })) ∷ [])) }

-- task t(var integer a, integer b) { wait_var(a, b); a = b; } program p { }
abbrev pub watched_parameter : Row
watched_parameter = record { told = Accepted; source = (tree ((item.Task (record { line = 1; name = (Named (codes "t")); parameters = (record { line = 1; is_var = true; of = (record { line = 1; form = type_form.Integer }); name = (codes "a") } ∷ record { line = 1; is_var = false; of = (record { line = 1; form = type_form.Integer }); name = (codes "b") } ∷ []); block = (record { line = 1; decls = []; stmts = ((s.Call (post 1 (form.Name (codes "wait_var")) (suffix.Call ((x.Postfix (post 1 (form.Name (codes "a")) [])) ∷ (x.Postfix (post 1 (form.Name (codes "b")) [])) ∷ []) ∷ []))) ∷ (s.Step (record { line = 1; target = (post 1 (form.Name (codes "a")) []); change = (change.Assign (x.Postfix (post 1 (form.Name (codes "b")) []))) })) ∷ []) }) })) ∷ (item.Program (record { line = 1; name = (codes "p"); block = (record { line = 1; decls = []; stmts = [] }) })) ∷ [])) }

-- interface i { input clk CLOCK; output [3:0] b PHOLD #1; input [3:0] q PSAMPLE #-1; }
-- program p { i = 1; }
abbrev pub assign_interface : Row
assign_interface = record { told = Refused 34 2; source = (tree ((item.Interface (record { line = 1; name = (codes "i"); signals = (record { line = 1; direction = Input; range = None; name = (codes "clk"); kind = record { line = 1; form = Clock } } ∷ record { line = 1; direction = Output; range = (Some (record { line = 1; high = (x.Postfix (post 1 (form.Number (decimal 3)) [])); low = (x.Postfix (post 1 (form.Number (decimal 0)) [])) })); name = (codes "b"); kind = record { line = 1; form = (Timed PositiveHold (Some (record { is_negative = false; amount = (decimal 1) }))) } } ∷ record { line = 1; direction = Input; range = (Some (record { line = 1; high = (x.Postfix (post 1 (form.Number (decimal 3)) [])); low = (x.Postfix (post 1 (form.Number (decimal 0)) [])) })); name = (codes "q"); kind = record { line = 1; form = (Timed PositiveSample (Some (record { is_negative = true; amount = (decimal 1) }))) } } ∷ []) })) ∷ (item.Program (record { line = 2; name = (codes "p"); block = (record { line = 2; decls = []; stmts = ((s.Step (record { line = 2; target = (post 2 (form.Name (codes "i")) []); change = (change.Assign (x.Postfix (post 2 (form.Number (decimal 1)) []))) })) ∷ []) }) })) ∷ [])) }

-- program p { string s; s.len = 1; }
abbrev pub assign_string_length : Row
assign_string_length = record { told = Refused 32 1; source = (tree ((item.Program (record { line = 1; name = (codes "p"); block = (record { line = 1; decls = (record { line = 1; of = (record { line = 1; form = type_form.Str }); variables = (record { line = 1; name = (codes "s"); bracket = bracket.None; value = None } ∷ []) } ∷ []); stmts = ((s.Step (record { line = 1; target = (post 1 (form.Name (codes "s")) (suffix.Member (codes "len") ∷ [])); change = (change.Assign (x.Postfix (post 1 (form.Number (decimal 1)) []))) })) ∷ []) }) })) ∷ [])) }

-- program p { string s; s.len() = 1; }
abbrev pub assign_string_length_call : Row
assign_string_length_call = record { told = Refused 34 1; source = (tree ((item.Program (record { line = 1; name = (codes "p"); block = (record { line = 1; decls = (record { line = 1; of = (record { line = 1; form = type_form.Str }); variables = (record { line = 1; name = (codes "s"); bracket = bracket.None; value = None } ∷ []) } ∷ []); stmts = ((s.Step (record { line = 1; target = (post 1 (form.Name (codes "s")) (suffix.Member (codes "len") ∷ suffix.Call [] ∷ [])); change = (change.Assign (x.Postfix (post 1 (form.Number (decimal 1)) []))) })) ∷ []) }) })) ∷ [])) }

-- interface i { input clk CLOCK; output [3:0] b PHOLD #1; input [3:0] q PSAMPLE #-1; }
-- program p { i.b[0][1] = 1; }
abbrev pub output_bit_of_bit : Row
output_bit_of_bit = record { told = Refused 34 2; source = (tree ((item.Interface (record { line = 1; name = (codes "i"); signals = (record { line = 1; direction = Input; range = None; name = (codes "clk"); kind = record { line = 1; form = Clock } } ∷ record { line = 1; direction = Output; range = (Some (record { line = 1; high = (x.Postfix (post 1 (form.Number (decimal 3)) [])); low = (x.Postfix (post 1 (form.Number (decimal 0)) [])) })); name = (codes "b"); kind = record { line = 1; form = (Timed PositiveHold (Some (record { is_negative = false; amount = (decimal 1) }))) } } ∷ record { line = 1; direction = Input; range = (Some (record { line = 1; high = (x.Postfix (post 1 (form.Number (decimal 3)) [])); low = (x.Postfix (post 1 (form.Number (decimal 0)) [])) })); name = (codes "q"); kind = record { line = 1; form = (Timed PositiveSample (Some (record { is_negative = true; amount = (decimal 1) }))) } } ∷ []) })) ∷ (item.Program (record { line = 2; name = (codes "p"); block = (record { line = 2; decls = []; stmts = ((s.Step (record { line = 2; target = (post 2 (form.Name (codes "i")) (suffix.Member (codes "b") ∷ suffix.Index (x.Postfix (post 2 (form.Number (decimal 0)) [])) ∷ suffix.Index (x.Postfix (post 2 (form.Number (decimal 1)) [])) ∷ [])); change = (change.Assign (x.Postfix (post 2 (form.Number (decimal 1)) []))) })) ∷ []) }) })) ∷ [])) }

-- interface i { input clk CLOCK; output [3:0] b PHOLD #1; input [3:0] q PSAMPLE #-1; }
-- program p { i.b[3:0][0]++; }
abbrev pub output_bit_of_bits_counted : Row
output_bit_of_bits_counted = record { told = Refused 34 2; source = (tree ((item.Interface (record { line = 1; name = (codes "i"); signals = (record { line = 1; direction = Input; range = None; name = (codes "clk"); kind = record { line = 1; form = Clock } } ∷ record { line = 1; direction = Output; range = (Some (record { line = 1; high = (x.Postfix (post 1 (form.Number (decimal 3)) [])); low = (x.Postfix (post 1 (form.Number (decimal 0)) [])) })); name = (codes "b"); kind = record { line = 1; form = (Timed PositiveHold (Some (record { is_negative = false; amount = (decimal 1) }))) } } ∷ record { line = 1; direction = Input; range = (Some (record { line = 1; high = (x.Postfix (post 1 (form.Number (decimal 3)) [])); low = (x.Postfix (post 1 (form.Number (decimal 0)) [])) })); name = (codes "q"); kind = record { line = 1; form = (Timed PositiveSample (Some (record { is_negative = true; amount = (decimal 1) }))) } } ∷ []) })) ∷ (item.Program (record { line = 2; name = (codes "p"); block = (record { line = 2; decls = []; stmts = ((s.Step (record { line = 2; target = (post 2 (form.Name (codes "i")) (suffix.Member (codes "b") ∷ suffix.Bits (x.Postfix (post 2 (form.Number (decimal 3)) [])) (x.Postfix (post 2 (form.Number (decimal 0)) [])) ∷ suffix.Index (x.Postfix (post 2 (form.Number (decimal 0)) [])) ∷ [])); change = change.Increment })) ∷ []) }) })) ∷ [])) }

-- interface i { input clk CLOCK; output [3:0] b PHOLD #1; input [3:0] q PSAMPLE #-1; }
-- program p { i.b[1:0][0] += 1; }
abbrev pub output_bit_of_bits_added : Row
output_bit_of_bits_added = record { told = Refused 34 2; source = (tree ((item.Interface (record { line = 1; name = (codes "i"); signals = (record { line = 1; direction = Input; range = None; name = (codes "clk"); kind = record { line = 1; form = Clock } } ∷ record { line = 1; direction = Output; range = (Some (record { line = 1; high = (x.Postfix (post 1 (form.Number (decimal 3)) [])); low = (x.Postfix (post 1 (form.Number (decimal 0)) [])) })); name = (codes "b"); kind = record { line = 1; form = (Timed PositiveHold (Some (record { is_negative = false; amount = (decimal 1) }))) } } ∷ record { line = 1; direction = Input; range = (Some (record { line = 1; high = (x.Postfix (post 1 (form.Number (decimal 3)) [])); low = (x.Postfix (post 1 (form.Number (decimal 0)) [])) })); name = (codes "q"); kind = record { line = 1; form = (Timed PositiveSample (Some (record { is_negative = true; amount = (decimal 1) }))) } } ∷ []) })) ∷ (item.Program (record { line = 2; name = (codes "p"); block = (record { line = 2; decls = []; stmts = ((s.Step (record { line = 2; target = (post 2 (form.Name (codes "i")) (suffix.Member (codes "b") ∷ suffix.Bits (x.Postfix (post 2 (form.Number (decimal 1)) [])) (x.Postfix (post 2 (form.Number (decimal 0)) [])) ∷ suffix.Index (x.Postfix (post 2 (form.Number (decimal 0)) [])) ∷ [])); change = (change.Add (x.Postfix (post 2 (form.Number (decimal 1)) []))) })) ∷ []) }) })) ∷ [])) }

-- interface i { input clk CLOCK; output [3:0] b PHOLD #1; input [3:0] q PSAMPLE #-1; }
-- program p { i.b[0][1] <= 1; }
abbrev pub output_bit_of_bit_driven : Row
output_bit_of_bit_driven = record { told = Refused 32 2; source = (tree ((item.Interface (record { line = 1; name = (codes "i"); signals = (record { line = 1; direction = Input; range = None; name = (codes "clk"); kind = record { line = 1; form = Clock } } ∷ record { line = 1; direction = Output; range = (Some (record { line = 1; high = (x.Postfix (post 1 (form.Number (decimal 3)) [])); low = (x.Postfix (post 1 (form.Number (decimal 0)) [])) })); name = (codes "b"); kind = record { line = 1; form = (Timed PositiveHold (Some (record { is_negative = false; amount = (decimal 1) }))) } } ∷ record { line = 1; direction = Input; range = (Some (record { line = 1; high = (x.Postfix (post 1 (form.Number (decimal 3)) [])); low = (x.Postfix (post 1 (form.Number (decimal 0)) [])) })); name = (codes "q"); kind = record { line = 1; form = (Timed PositiveSample (Some (record { is_negative = true; amount = (decimal 1) }))) } } ∷ []) })) ∷ (item.Program (record { line = 2; name = (codes "p"); block = (record { line = 2; decls = []; stmts = ((s.Drive (record { line = 2; delay = None; signal = (post 2 (form.Name (codes "i")) (suffix.Member (codes "b") ∷ suffix.Index (x.Postfix (post 2 (form.Number (decimal 0)) [])) ∷ suffix.Index (x.Postfix (post 2 (form.Number (decimal 1)) [])) ∷ [])); operator = Arrow; value = (x.Postfix (post 2 (form.Number (decimal 1)) [])) })) ∷ []) }) })) ∷ [])) }

-- interface i { input clk CLOCK; output [3:0] b PHOLD #1; input [3:0] q PSAMPLE #-1; }
-- program p { @1 i.b[0][1] = 1; }
abbrev pub output_bit_of_bit_delayed : Row
output_bit_of_bit_delayed = record { told = Refused 32 2; source = (tree ((item.Interface (record { line = 1; name = (codes "i"); signals = (record { line = 1; direction = Input; range = None; name = (codes "clk"); kind = record { line = 1; form = Clock } } ∷ record { line = 1; direction = Output; range = (Some (record { line = 1; high = (x.Postfix (post 1 (form.Number (decimal 3)) [])); low = (x.Postfix (post 1 (form.Number (decimal 0)) [])) })); name = (codes "b"); kind = record { line = 1; form = (Timed PositiveHold (Some (record { is_negative = false; amount = (decimal 1) }))) } } ∷ record { line = 1; direction = Input; range = (Some (record { line = 1; high = (x.Postfix (post 1 (form.Number (decimal 3)) [])); low = (x.Postfix (post 1 (form.Number (decimal 0)) [])) })); name = (codes "q"); kind = record { line = 1; form = (Timed PositiveSample (Some (record { is_negative = true; amount = (decimal 1) }))) } } ∷ []) })) ∷ (item.Program (record { line = 2; name = (codes "p"); block = (record { line = 2; decls = []; stmts = ((s.Drive (record { line = 2; delay = (Some (record { line = 2; form = (delay_form.Number (decimal 1)) })); signal = (post 2 (form.Name (codes "i")) (suffix.Member (codes "b") ∷ suffix.Index (x.Postfix (post 2 (form.Number (decimal 0)) [])) ∷ suffix.Index (x.Postfix (post 2 (form.Number (decimal 1)) [])) ∷ [])); operator = Plain; value = (x.Postfix (post 2 (form.Number (decimal 1)) [])) })) ∷ []) }) })) ∷ [])) }

-- interface i { input clk CLOCK; output [3:0] b PHOLD #1; input [3:0] q PSAMPLE #-1; }
-- program p { i.b[0][1] == 1; }
abbrev pub output_bit_of_bit_expected : Row
output_bit_of_bit_expected = record { told = Refused 32 2; source = (tree ((item.Interface (record { line = 1; name = (codes "i"); signals = (record { line = 1; direction = Input; range = None; name = (codes "clk"); kind = record { line = 1; form = Clock } } ∷ record { line = 1; direction = Output; range = (Some (record { line = 1; high = (x.Postfix (post 1 (form.Number (decimal 3)) [])); low = (x.Postfix (post 1 (form.Number (decimal 0)) [])) })); name = (codes "b"); kind = record { line = 1; form = (Timed PositiveHold (Some (record { is_negative = false; amount = (decimal 1) }))) } } ∷ record { line = 1; direction = Input; range = (Some (record { line = 1; high = (x.Postfix (post 1 (form.Number (decimal 3)) [])); low = (x.Postfix (post 1 (form.Number (decimal 0)) [])) })); name = (codes "q"); kind = record { line = 1; form = (Timed PositiveSample (Some (record { is_negative = true; amount = (decimal 1) }))) } } ∷ []) })) ∷ (item.Program (record { line = 2; name = (codes "p"); block = (record { line = 2; decls = []; stmts = ((s.Expect (record { line = 2; window = None; soft_before = false; terms = (record { line = 2; signal = (post 2 (form.Name (codes "i")) (suffix.Member (codes "b") ∷ suffix.Index (x.Postfix (post 2 (form.Number (decimal 0)) [])) ∷ suffix.Index (x.Postfix (post 2 (form.Number (decimal 1)) [])) ∷ [])); operator = term.Equal; value = (x.Postfix (post 2 (form.Number (decimal 1)) [])) } ∷ []); soft_after = false })) ∷ []) }) })) ∷ [])) }

-- interface i { input clk CLOCK; output [3:0] b PHOLD #1; input [3:0] q PSAMPLE #-1; }
-- task t(var bit v) { } program p { t(i.b[0][1]); }
abbrev pub var_output_bit_of_bit : Row
var_output_bit_of_bit = record { told = Refused 34 2; source = (tree ((item.Interface (record { line = 1; name = (codes "i"); signals = (record { line = 1; direction = Input; range = None; name = (codes "clk"); kind = record { line = 1; form = Clock } } ∷ record { line = 1; direction = Output; range = (Some (record { line = 1; high = (x.Postfix (post 1 (form.Number (decimal 3)) [])); low = (x.Postfix (post 1 (form.Number (decimal 0)) [])) })); name = (codes "b"); kind = record { line = 1; form = (Timed PositiveHold (Some (record { is_negative = false; amount = (decimal 1) }))) } } ∷ record { line = 1; direction = Input; range = (Some (record { line = 1; high = (x.Postfix (post 1 (form.Number (decimal 3)) [])); low = (x.Postfix (post 1 (form.Number (decimal 0)) [])) })); name = (codes "q"); kind = record { line = 1; form = (Timed PositiveSample (Some (record { is_negative = true; amount = (decimal 1) }))) } } ∷ []) })) ∷ (item.Task (record { line = 2; name = (Named (codes "t")); parameters = (record { line = 2; is_var = true; of = (record { line = 2; form = (type_form.Bit None) }); name = (codes "v") } ∷ []); block = (record { line = 2; decls = []; stmts = [] }) })) ∷ (item.Program (record { line = 2; name = (codes "p"); block = (record { line = 2; decls = []; stmts = ((s.Call (post 2 (form.Name (codes "t")) (suffix.Call ((x.Postfix (post 2 (form.Name (codes "i")) (suffix.Member (codes "b") ∷ suffix.Index (x.Postfix (post 2 (form.Number (decimal 0)) [])) ∷ suffix.Index (x.Postfix (post 2 (form.Number (decimal 1)) [])) ∷ []))) ∷ []) ∷ []))) ∷ []) }) })) ∷ [])) }

-- interface i { input clk CLOCK; output [3:0] b PHOLD #1; input [3:0] q PSAMPLE #-1; }
-- program p { i.q[0][1] = 1; }
abbrev pub input_bit_of_bit : Row
input_bit_of_bit = record { told = Refused 34 2; source = (tree ((item.Interface (record { line = 1; name = (codes "i"); signals = (record { line = 1; direction = Input; range = None; name = (codes "clk"); kind = record { line = 1; form = Clock } } ∷ record { line = 1; direction = Output; range = (Some (record { line = 1; high = (x.Postfix (post 1 (form.Number (decimal 3)) [])); low = (x.Postfix (post 1 (form.Number (decimal 0)) [])) })); name = (codes "b"); kind = record { line = 1; form = (Timed PositiveHold (Some (record { is_negative = false; amount = (decimal 1) }))) } } ∷ record { line = 1; direction = Input; range = (Some (record { line = 1; high = (x.Postfix (post 1 (form.Number (decimal 3)) [])); low = (x.Postfix (post 1 (form.Number (decimal 0)) [])) })); name = (codes "q"); kind = record { line = 1; form = (Timed PositiveSample (Some (record { is_negative = true; amount = (decimal 1) }))) } } ∷ []) })) ∷ (item.Program (record { line = 2; name = (codes "p"); block = (record { line = 2; decls = []; stmts = ((s.Step (record { line = 2; target = (post 2 (form.Name (codes "i")) (suffix.Member (codes "q") ∷ suffix.Index (x.Postfix (post 2 (form.Number (decimal 0)) [])) ∷ suffix.Index (x.Postfix (post 2 (form.Number (decimal 1)) [])) ∷ [])); change = (change.Assign (x.Postfix (post 2 (form.Number (decimal 1)) []))) })) ∷ []) }) })) ∷ [])) }

-- interface i { input clk CLOCK; output [3:0] b PHOLD #1; input [3:0] q PSAMPLE #-1; }
-- program p { integer a; a = i.b[0][1]; }
abbrev pub output_bit_of_bit_read : Row
output_bit_of_bit_read = record { told = Refused 37 2; source = (tree ((item.Interface (record { line = 1; name = (codes "i"); signals = (record { line = 1; direction = Input; range = None; name = (codes "clk"); kind = record { line = 1; form = Clock } } ∷ record { line = 1; direction = Output; range = (Some (record { line = 1; high = (x.Postfix (post 1 (form.Number (decimal 3)) [])); low = (x.Postfix (post 1 (form.Number (decimal 0)) [])) })); name = (codes "b"); kind = record { line = 1; form = (Timed PositiveHold (Some (record { is_negative = false; amount = (decimal 1) }))) } } ∷ record { line = 1; direction = Input; range = (Some (record { line = 1; high = (x.Postfix (post 1 (form.Number (decimal 3)) [])); low = (x.Postfix (post 1 (form.Number (decimal 0)) [])) })); name = (codes "q"); kind = record { line = 1; form = (Timed PositiveSample (Some (record { is_negative = true; amount = (decimal 1) }))) } } ∷ []) })) ∷ (item.Program (record { line = 2; name = (codes "p"); block = (record { line = 2; decls = (record { line = 2; of = (record { line = 2; form = type_form.Integer }); variables = (record { line = 2; name = (codes "a"); bracket = bracket.None; value = None } ∷ []) } ∷ []); stmts = ((s.Step (record { line = 2; target = (post 2 (form.Name (codes "a")) []); change = (change.Assign (x.Postfix (post 2 (form.Name (codes "i")) (suffix.Member (codes "b") ∷ suffix.Index (x.Postfix (post 2 (form.Number (decimal 0)) [])) ∷ suffix.Index (x.Postfix (post 2 (form.Number (decimal 1)) [])) ∷ [])))) })) ∷ []) }) })) ∷ [])) }

-- interface i { input clk CLOCK; output [3:0] b PHOLD #1; input [3:0] q PSAMPLE #-1; }
-- program p { integer a; a[i.b[0]] = 1; }
abbrev pub output_bit_as_index : Row
output_bit_as_index = record { told = Refused 37 2; source = (tree ((item.Interface (record { line = 1; name = (codes "i"); signals = (record { line = 1; direction = Input; range = None; name = (codes "clk"); kind = record { line = 1; form = Clock } } ∷ record { line = 1; direction = Output; range = (Some (record { line = 1; high = (x.Postfix (post 1 (form.Number (decimal 3)) [])); low = (x.Postfix (post 1 (form.Number (decimal 0)) [])) })); name = (codes "b"); kind = record { line = 1; form = (Timed PositiveHold (Some (record { is_negative = false; amount = (decimal 1) }))) } } ∷ record { line = 1; direction = Input; range = (Some (record { line = 1; high = (x.Postfix (post 1 (form.Number (decimal 3)) [])); low = (x.Postfix (post 1 (form.Number (decimal 0)) [])) })); name = (codes "q"); kind = record { line = 1; form = (Timed PositiveSample (Some (record { is_negative = true; amount = (decimal 1) }))) } } ∷ []) })) ∷ (item.Program (record { line = 2; name = (codes "p"); block = (record { line = 2; decls = (record { line = 2; of = (record { line = 2; form = type_form.Integer }); variables = (record { line = 2; name = (codes "a"); bracket = bracket.None; value = None } ∷ []) } ∷ []); stmts = ((s.Step (record { line = 2; target = (post 2 (form.Name (codes "a")) (suffix.Index (x.Postfix (post 2 (form.Name (codes "i")) (suffix.Member (codes "b") ∷ suffix.Index (x.Postfix (post 2 (form.Number (decimal 0)) [])) ∷ []))) ∷ [])); change = (change.Assign (x.Postfix (post 2 (form.Number (decimal 1)) []))) })) ∷ []) }) })) ∷ [])) }

abbrev pub assign_rows : List Row
assign_rows = assign_number ∷ assign_number_unknown ∷ assign_number_string ∷ assign_enum_name ∷ assign_sum ∷ assign_call ∷ assign_task ∷ assign_event ∷ event_initial ∷ assign_enum_bit ∷ assign_bits_of_bits ∷ read_bits_of_bits ∷ var_number ∷ var_bits ∷ var_element ∷ var_signal ∷ var_output_signal ∷ var_event ∷ value_event ∷ wait_var_element ∷ wait_var_bit ∷ wait_var_event ∷ mailbox_get_bits ∷ mailbox_get_element ∷ sprintf_literal ∷ sprintf ∷ signal_bit_assigned ∷ signal_added ∷ signal_counted ∷ input_bit_assigned ∷ input_added ∷ signal_bits_assigned ∷ function_watches_element ∷ watched_parameter ∷ assign_interface ∷ assign_string_length ∷ assign_string_length_call ∷ output_bit_of_bit ∷ output_bit_of_bits_counted ∷ output_bit_of_bits_added ∷ output_bit_of_bit_driven ∷ output_bit_of_bit_delayed ∷ output_bit_of_bit_expected ∷ var_output_bit_of_bit ∷ input_bit_of_bit ∷ output_bit_of_bit_read ∷ output_bit_as_index ∷ []
