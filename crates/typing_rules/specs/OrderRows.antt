-- Two refusals in one source: the first of the walk is told.
use Rattle.std.specs.Prelude.{true, false, List, [], ◌∷◌, Some, None, codes}
use Rattle.four_state.specs.declared.bit.Bit.TheVariants.{Zero, One, X, Z}
use Rattle.vera_ast.specs.declared.tree.declarations.Bracket.TheVariants as bracket
use Rattle.vera_ast.specs.declared.tree.declarations.TypeForm.TheVariants as type_form
use Rattle.vera_ast.specs.declared.tree.expressions.ChainOperator.TheVariants as o
use Rattle.vera_ast.specs.declared.tree.expressions.UnaryOperator.TheVariants as u
use Rattle.vera_ast.specs.declared.tree.expressions.Expr.TheVariants as x
use Rattle.vera_ast.specs.declared.tree.expressions.PrimaryForm.TheVariants as form
use Rattle.vera_ast.specs.declared.tree.expressions.Suffix.TheVariants as suffix
use Rattle.vera_ast.specs.declared.tree.interfaces.Direction.TheVariants.{Input, Output}
use Rattle.vera_ast.specs.declared.tree.interfaces.SignalForm.TheVariants.{Clock, Timed}
use Rattle.vera_ast.specs.declared.tree.interfaces.SignalTime.TheVariants.{PositiveHold, PositiveSample, NegativeHold, NegativeSample}
use Rattle.vera_ast.specs.declared.tree.items.Item.TheVariants as item
use Rattle.vera_ast.specs.declared.tree.items.TaskName.TheVariants.{Named, New}
use Rattle.vera_ast.specs.declared.tree.items.Tree.{Tree}
use Rattle.vera_ast.specs.declared.tree.statements.ArmLabel.TheVariants as label
use Rattle.vera_ast.specs.declared.tree.statements.Change.TheVariants as change
use Rattle.vera_ast.specs.declared.tree.statements.DelayForm.TheVariants as delay_form
use Rattle.vera_ast.specs.declared.tree.statements.DriveOperator.TheVariants.{Assign as Plain, Arrow}
use Rattle.vera_ast.specs.declared.tree.statements.EdgeClock.TheVariants as clock
use Rattle.vera_ast.specs.declared.tree.statements.Join.TheVariants as join
use Rattle.vera_ast.specs.declared.tree.statements.Stmt.TheVariants as s
use Rattle.vera_ast.specs.declared.tree.statements.TermOperator.TheVariants as term
use Rattle.vera_ast.specs.declared.tree.statements.WindowKind.TheVariants as window
use Rattle.typing_rules.specs.Sources.{tree, post, decimal, based}
use Rattle.typing_rules.specs.Told.{Row, Accepted, Refused}

-- program p { integer a;
-- bit [128:0] a; }
abbrev pub order_type_then_twice : Row
order_type_then_twice = record { told = Refused 39 2; source = (tree ((item.Program (record { line = 1; name = (codes "p"); block = (record { line = 1; decls = (record { line = 1; of = (record { line = 1; form = type_form.Integer }); variables = (record { line = 1; name = (codes "a"); bracket = bracket.None; value = None } ∷ []) } ∷ record { line = 2; of = (record { line = 2; form = (type_form.Bit (Some (record { line = 2; high = (x.Postfix (post 2 (form.Number (decimal 128)) [])); low = (x.Postfix (post 2 (form.Number (decimal 0)) [])) }))) }); variables = (record { line = 2; name = (codes "a"); bracket = bracket.None; value = None } ∷ []) } ∷ []); stmts = [] }) })) ∷ [])) }

-- program p { integer a, a[0]; }
abbrev pub order_twice_then_length : Row
order_twice_then_length = record { told = Refused 31 1; source = (tree ((item.Program (record { line = 1; name = (codes "p"); block = (record { line = 1; decls = (record { line = 1; of = (record { line = 1; form = type_form.Integer }); variables = (record { line = 1; name = (codes "a"); bracket = bracket.None; value = None } ∷ record { line = 1; name = (codes "a"); bracket = (bracket.Fixed (x.Postfix (post 1 (form.Number (decimal 0)) []))); value = None } ∷ []) } ∷ []); stmts = [] }) })) ∷ [])) }

-- program p { integer a; a = ("a" + 1) + zz; }
abbrev pub order_left_then_right : Row
order_left_then_right = record { told = Refused 32 1; source = (tree ((item.Program (record { line = 1; name = (codes "p"); block = (record { line = 1; decls = (record { line = 1; of = (record { line = 1; form = type_form.Integer }); variables = (record { line = 1; name = (codes "a"); bracket = bracket.None; value = None } ∷ []) } ∷ []); stmts = ((s.Step (record { line = 1; target = (post 1 (form.Name (codes "a")) []); change = (change.Assign (x.Chain 1 (x.Postfix (post 1 (form.Parentheses (x.Chain 1 (x.Postfix (post 1 (form.Str (97 ∷ [])) [])) (record { operator = o.Add; operand = (x.Postfix (post 1 (form.Number (decimal 1)) [])) } ∷ []))) [])) (record { operator = o.Add; operand = (x.Postfix (post 1 (form.Name (codes "zz")) [])) } ∷ []))) })) ∷ []) }) })) ∷ [])) }

-- program p { integer a; a = "a" + zz; }
abbrev pub order_operands_then_chain : Row
order_operands_then_chain = record { told = Refused 30 1; source = (tree ((item.Program (record { line = 1; name = (codes "p"); block = (record { line = 1; decls = (record { line = 1; of = (record { line = 1; form = type_form.Integer }); variables = (record { line = 1; name = (codes "a"); bracket = bracket.None; value = None } ∷ []) } ∷ []); stmts = ((s.Step (record { line = 1; target = (post 1 (form.Name (codes "a")) []); change = (change.Assign (x.Chain 1 (x.Postfix (post 1 (form.Str (97 ∷ [])) [])) (record { operator = o.Add; operand = (x.Postfix (post 1 (form.Name (codes "zz")) [])) } ∷ []))) })) ∷ []) }) })) ∷ [])) }

-- task t() { } program p { t(zz); }
abbrev pub order_arguments_then_count : Row
order_arguments_then_count = record { told = Refused 30 1; source = (tree ((item.Task (record { line = 1; name = (Named (codes "t")); parameters = []; block = (record { line = 1; decls = []; stmts = [] }) })) ∷ (item.Program (record { line = 1; name = (codes "p"); block = (record { line = 1; decls = []; stmts = ((s.Call (post 1 (form.Name (codes "t")) (suffix.Call ((x.Postfix (post 1 (form.Name (codes "zz")) [])) ∷ []) ∷ []))) ∷ []) }) })) ∷ [])) }

-- program p { if ("s")
--  zz = 1; }
abbrev pub order_condition_then_body : Row
order_condition_then_body = record { told = Refused 32 1; source = (tree ((item.Program (record { line = 1; name = (codes "p"); block = (record { line = 1; decls = []; stmts = ((s.If (record { line = 1; condition = (x.Postfix (post 1 (form.Str (115 ∷ [])) [])); when_true = (s.Step (record { line = 2; target = (post 2 (form.Name (codes "zz")) []); change = (change.Assign (x.Postfix (post 2 (form.Number (decimal 1)) []))) })); when_false = None })) ∷ []) }) })) ∷ [])) }

-- program p { if (1)
--  zz = 1;
--  1 = 2; }
abbrev pub order_body_before_next : Row
order_body_before_next = record { told = Refused 30 2; source = (tree ((item.Program (record { line = 1; name = (codes "p"); block = (record { line = 1; decls = []; stmts = ((s.If (record { line = 1; condition = (x.Postfix (post 1 (form.Number (decimal 1)) [])); when_true = (s.Step (record { line = 2; target = (post 2 (form.Name (codes "zz")) []); change = (change.Assign (x.Postfix (post 2 (form.Number (decimal 1)) []))) })); when_false = None })) ∷ (s.Step (record { line = 3; target = (post 3 (form.Number (decimal 1)) []); change = (change.Assign (x.Postfix (post 3 (form.Number (decimal 2)) []))) })) ∷ []) }) })) ∷ [])) }

-- task t() { zz = 1; }
-- program p { yy = 1; }
abbrev pub order_task_then_program : Row
order_task_then_program = record { told = Refused 30 1; source = (tree ((item.Task (record { line = 1; name = (Named (codes "t")); parameters = []; block = (record { line = 1; decls = []; stmts = ((s.Step (record { line = 1; target = (post 1 (form.Name (codes "zz")) []); change = (change.Assign (x.Postfix (post 1 (form.Number (decimal 1)) []))) })) ∷ []) }) })) ∷ (item.Program (record { line = 2; name = (codes "p"); block = (record { line = 2; decls = []; stmts = ((s.Step (record { line = 2; target = (post 2 (form.Name (codes "yy")) []); change = (change.Assign (x.Postfix (post 2 (form.Number (decimal 1)) []))) })) ∷ []) }) })) ∷ [])) }

-- program p { yy = 1; }
-- task t() { zz = 1; }
abbrev pub order_program_then_task : Row
order_program_then_task = record { told = Refused 30 1; source = (tree ((item.Program (record { line = 1; name = (codes "p"); block = (record { line = 1; decls = []; stmts = ((s.Step (record { line = 1; target = (post 1 (form.Name (codes "yy")) []); change = (change.Assign (x.Postfix (post 1 (form.Number (decimal 1)) []))) })) ∷ []) }) })) ∷ (item.Task (record { line = 2; name = (Named (codes "t")); parameters = []; block = (record { line = 2; decls = []; stmts = ((s.Step (record { line = 2; target = (post 2 (form.Name (codes "zz")) []); change = (change.Assign (x.Postfix (post 2 (form.Number (decimal 1)) []))) })) ∷ []) }) })) ∷ [])) }

-- function integer f(integer n) { if (n == 0) f = 1; else f = n * f(n - 1); f = f + 1; } program p { printf("%0d", f(3)); }
abbrev pub result_variable : Row
result_variable = record { told = Accepted; source = (tree ((item.Function (record { line = 1; result = (record { line = 1; form = type_form.Integer }); name = (codes "f"); parameters = (record { line = 1; is_var = false; of = (record { line = 1; form = type_form.Integer }); name = (codes "n") } ∷ []); block = (record { line = 1; decls = []; stmts = ((s.If (record { line = 1; condition = (x.Chain 1 (x.Postfix (post 1 (form.Name (codes "n")) [])) (record { operator = o.Equal; operand = (x.Postfix (post 1 (form.Number (decimal 0)) [])) } ∷ [])); when_true = (s.Step (record { line = 1; target = (post 1 (form.Name (codes "f")) []); change = (change.Assign (x.Postfix (post 1 (form.Number (decimal 1)) []))) })); when_false = (Some (s.Step (record { line = 1; target = (post 1 (form.Name (codes "f")) []); change = (change.Assign (x.Chain 1 (x.Postfix (post 1 (form.Name (codes "n")) [])) (record { operator = o.Multiply; operand = (x.Postfix (post 1 (form.Name (codes "f")) (suffix.Call ((x.Chain 1 (x.Postfix (post 1 (form.Name (codes "n")) [])) (record { operator = o.Subtract; operand = (x.Postfix (post 1 (form.Number (decimal 1)) [])) } ∷ [])) ∷ []) ∷ []))) } ∷ []))) }))) })) ∷ (s.Step (record { line = 1; target = (post 1 (form.Name (codes "f")) []); change = (change.Assign (x.Chain 1 (x.Postfix (post 1 (form.Name (codes "f")) [])) (record { operator = o.Add; operand = (x.Postfix (post 1 (form.Number (decimal 1)) [])) } ∷ []))) })) ∷ []) }) })) ∷ (item.Program (record { line = 1; name = (codes "p"); block = (record { line = 1; decls = []; stmts = ((s.Call (post 1 (form.Name (codes "printf")) (suffix.Call ((x.Postfix (post 1 (form.Str (37 ∷ 48 ∷ 100 ∷ [])) [])) ∷ (x.Postfix (post 1 (form.Name (codes "f")) (suffix.Call ((x.Postfix (post 1 (form.Number (decimal 3)) [])) ∷ []) ∷ []))) ∷ []) ∷ []))) ∷ []) }) })) ∷ [])) }

-- interface i { input clk CLOCK; output [3:0] b PHOLD #1; input [3:0] q PSAMPLE #-1; }
-- program p { string s;
-- @(s)
--  i.q == zz; }
abbrev pub order_terms_then_window : Row
order_terms_then_window = record { told = Refused 30 4; source = (tree ((item.Interface (record { line = 1; name = (codes "i"); signals = (record { line = 1; direction = Input; range = None; name = (codes "clk"); kind = record { line = 1; form = Clock } } ∷ record { line = 1; direction = Output; range = (Some (record { line = 1; high = (x.Postfix (post 1 (form.Number (decimal 3)) [])); low = (x.Postfix (post 1 (form.Number (decimal 0)) [])) })); name = (codes "b"); kind = record { line = 1; form = (Timed PositiveHold (Some (record { is_negative = false; amount = (decimal 1) }))) } } ∷ record { line = 1; direction = Input; range = (Some (record { line = 1; high = (x.Postfix (post 1 (form.Number (decimal 3)) [])); low = (x.Postfix (post 1 (form.Number (decimal 0)) [])) })); name = (codes "q"); kind = record { line = 1; form = (Timed PositiveSample (Some (record { is_negative = true; amount = (decimal 1) }))) } } ∷ []) })) ∷ (item.Program (record { line = 2; name = (codes "p"); block = (record { line = 2; decls = (record { line = 2; of = (record { line = 2; form = type_form.Str }); variables = (record { line = 2; name = (codes "s"); bracket = bracket.None; value = None } ∷ []) } ∷ []); stmts = ((s.Expect (record { line = 3; window = (Some (record { line = 3; kind = window.Simple; first = (record { line = 3; form = (delay_form.Parentheses (x.Postfix (post 3 (form.Name (codes "s")) []))) }); second = None })); soft_before = false; terms = (record { line = 4; signal = (post 4 (form.Name (codes "i")) (suffix.Member (codes "q") ∷ [])); operator = term.Equal; value = (x.Postfix (post 4 (form.Name (codes "zz")) [])) } ∷ []); soft_after = false })) ∷ []) }) })) ∷ [])) }

-- interface i { input clk CLOCK; output [3:0] b PHOLD #1; input [3:0] q PSAMPLE #-1; }
-- function integer f() { @("s") i.q == 1; } program p { }
abbrev pub order_window_then_function : Row
order_window_then_function = record { told = Refused 32 2; source = (tree ((item.Interface (record { line = 1; name = (codes "i"); signals = (record { line = 1; direction = Input; range = None; name = (codes "clk"); kind = record { line = 1; form = Clock } } ∷ record { line = 1; direction = Output; range = (Some (record { line = 1; high = (x.Postfix (post 1 (form.Number (decimal 3)) [])); low = (x.Postfix (post 1 (form.Number (decimal 0)) [])) })); name = (codes "b"); kind = record { line = 1; form = (Timed PositiveHold (Some (record { is_negative = false; amount = (decimal 1) }))) } } ∷ record { line = 1; direction = Input; range = (Some (record { line = 1; high = (x.Postfix (post 1 (form.Number (decimal 3)) [])); low = (x.Postfix (post 1 (form.Number (decimal 0)) [])) })); name = (codes "q"); kind = record { line = 1; form = (Timed PositiveSample (Some (record { is_negative = true; amount = (decimal 1) }))) } } ∷ []) })) ∷ (item.Function (record { line = 2; result = (record { line = 2; form = type_form.Integer }); name = (codes "f"); parameters = []; block = (record { line = 2; decls = []; stmts = ((s.Expect (record { line = 2; window = (Some (record { line = 2; kind = window.Simple; first = (record { line = 2; form = (delay_form.Parentheses (x.Postfix (post 2 (form.Str (115 ∷ [])) []))) }); second = None })); soft_before = false; terms = (record { line = 2; signal = (post 2 (form.Name (codes "i")) (suffix.Member (codes "q") ∷ [])); operator = term.Equal; value = (x.Postfix (post 2 (form.Number (decimal 1)) [])) } ∷ []); soft_after = false })) ∷ []) }) })) ∷ (item.Program (record { line = 2; name = (codes "p"); block = (record { line = 2; decls = []; stmts = [] }) })) ∷ [])) }

-- interface i { input clk CLOCK; output [3:0] b PHOLD #1; input [3:0] q PSAMPLE #-1; }
-- program p { string s;
-- @(s)
--  i.b <= zz; }
abbrev pub order_drive_value_then_delay : Row
order_drive_value_then_delay = record { told = Refused 30 4; source = (tree ((item.Interface (record { line = 1; name = (codes "i"); signals = (record { line = 1; direction = Input; range = None; name = (codes "clk"); kind = record { line = 1; form = Clock } } ∷ record { line = 1; direction = Output; range = (Some (record { line = 1; high = (x.Postfix (post 1 (form.Number (decimal 3)) [])); low = (x.Postfix (post 1 (form.Number (decimal 0)) [])) })); name = (codes "b"); kind = record { line = 1; form = (Timed PositiveHold (Some (record { is_negative = false; amount = (decimal 1) }))) } } ∷ record { line = 1; direction = Input; range = (Some (record { line = 1; high = (x.Postfix (post 1 (form.Number (decimal 3)) [])); low = (x.Postfix (post 1 (form.Number (decimal 0)) [])) })); name = (codes "q"); kind = record { line = 1; form = (Timed PositiveSample (Some (record { is_negative = true; amount = (decimal 1) }))) } } ∷ []) })) ∷ (item.Program (record { line = 2; name = (codes "p"); block = (record { line = 2; decls = (record { line = 2; of = (record { line = 2; form = type_form.Str }); variables = (record { line = 2; name = (codes "s"); bracket = bracket.None; value = None } ∷ []) } ∷ []); stmts = ((s.Drive (record { line = 3; delay = (Some (record { line = 3; form = (delay_form.Parentheses (x.Postfix (post 3 (form.Name (codes "s")) []))) })); signal = (post 4 (form.Name (codes "i")) (suffix.Member (codes "b") ∷ [])); operator = Arrow; value = (x.Postfix (post 4 (form.Name (codes "zz")) [])) })) ∷ []) }) })) ∷ [])) }

abbrev pub order_rows : List Row
order_rows = order_type_then_twice ∷ order_twice_then_length ∷ order_left_then_right ∷ order_operands_then_chain ∷ order_arguments_then_count ∷ order_condition_then_body ∷ order_body_before_next ∷ order_task_then_program ∷ order_program_then_task ∷ result_variable ∷ order_terms_then_window ∷ order_window_then_function ∷ order_drive_value_then_delay ∷ []
