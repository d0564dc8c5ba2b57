-- What stands in functions, and where calls that may wait stand.
use Rattle.std.specs.Prelude.{true, false, List, [], ◌∷◌, Some, None, codes}
use Rattle.vera_ast.specs.declared.tree.declarations.Bracket.TheVariants as bracket
use Rattle.vera_ast.specs.declared.tree.declarations.TypeForm.TheVariants as type_form
use Rattle.vera_ast.specs.declared.tree.expressions.ChainOperator.TheVariants as o
use Rattle.vera_ast.specs.declared.tree.expressions.Expr.TheVariants as x
use Rattle.vera_ast.specs.declared.tree.expressions.PrimaryForm.TheVariants as form
use Rattle.vera_ast.specs.declared.tree.expressions.Suffix.TheVariants as suffix
use Rattle.vera_ast.specs.declared.tree.interfaces.Direction.TheVariants.{Input, Output}
use Rattle.vera_ast.specs.declared.tree.interfaces.SignalForm.TheVariants.{Clock, Timed}
use Rattle.vera_ast.specs.declared.tree.interfaces.SignalTime.TheVariants.{PositiveHold, PositiveSample}
use Rattle.vera_ast.specs.declared.tree.items.Item.TheVariants as item
use Rattle.vera_ast.specs.declared.tree.items.TaskName.TheVariants.{Named, New}
use Rattle.vera_ast.specs.declared.tree.statements.Change.TheVariants as change
use Rattle.vera_ast.specs.declared.tree.statements.DriveOperator.TheVariants.{Arrow}
use Rattle.vera_ast.specs.declared.tree.statements.EdgeClock.TheVariants as clock
use Rattle.vera_ast.specs.declared.tree.statements.Join.TheVariants as join
use Rattle.vera_ast.specs.declared.tree.statements.Stmt.TheVariants as s
use Rattle.vera_ast.specs.declared.tree.statements.TermOperator.TheVariants as term
use Rattle.typing_rules.specs.Sources.{tree, post, decimal}
use Rattle.typing_rules.specs.Told.{Row, Accepted, Refused}

-- function integer f() {
--  fork ; join } program p { }
abbrev pub function_fork : Row
function_fork = record { told = Refused 35 2; source = (tree ((item.Function (record { line = 1; result = (record { line = 1; form = type_form.Integer }); name = (codes "f"); parameters = []; block = (record { line = 1; decls = []; stmts = ((s.Fork (record { line = 2; branches = ((s.Empty 2) ∷ []); join = join.All })) ∷ []) }) })) ∷ (item.Program (record { line = 2; name = (codes "p"); block = (record { line = 2; decls = []; stmts = [] }) })) ∷ [])) }

-- interface i { input clk CLOCK; output [3:0] b PHOLD #1; input [3:0] q PSAMPLE #-1; }
-- function integer f() { i.b = 1; } program p { }
abbrev pub function_drive : Row
function_drive = record { told = Refused 35 2; source = (tree ((item.Interface (record { line = 1; name = (codes "i"); signals = (record { line = 1; direction = Input; range = None; name = (codes "clk"); kind = record { line = 1; form = Clock } } ∷ record { line = 1; direction = Output; range = (Some (record { line = 1; high = (x.Postfix (post 1 (form.Number (decimal 3)) [])); low = (x.Postfix (post 1 (form.Number (decimal 0)) [])) })); name = (codes "b"); kind = record { line = 1; form = (Timed PositiveHold (Some (record { is_negative = false; amount = (decimal 1) }))) } } ∷ record { line = 1; direction = Input; range = (Some (record { line = 1; high = (x.Postfix (post 1 (form.Number (decimal 3)) [])); low = (x.Postfix (post 1 (form.Number (decimal 0)) [])) })); name = (codes "q"); kind = record { line = 1; form = (Timed PositiveSample (Some (record { is_negative = true; amount = (decimal 1) }))) } } ∷ []) })) ∷ (item.Function (record { line = 2; result = (record { line = 2; form = type_form.Integer }); name = (codes "f"); parameters = []; block = (record { line = 2; decls = []; stmts = ((s.Step (record { line = 2; target = (post 2 (form.Name (codes "i")) (suffix.Member (codes "b") ∷ [])); change = (change.Assign (x.Postfix (post 2 (form.Number (decimal 1)) []))) })) ∷ []) }) })) ∷ (item.Program (record { line = 2; name = (codes "p"); block = (record { line = 2; decls = []; stmts = [] }) })) ∷ [])) }

-- interface i { input clk CLOCK; output [3:0] b PHOLD #1; input [3:0] q PSAMPLE #-1; }
-- function integer f() { i.b <= 1; } program p { }
abbrev pub function_arrow : Row
function_arrow = record { told = Refused 35 2; source = (tree ((item.Interface (record { line = 1; name = (codes "i"); signals = (record { line = 1; direction = Input; range = None; name = (codes "clk"); kind = record { line = 1; form = Clock } } ∷ record { line = 1; direction = Output; range = (Some (record { line = 1; high = (x.Postfix (post 1 (form.Number (decimal 3)) [])); low = (x.Postfix (post 1 (form.Number (decimal 0)) [])) })); name = (codes "b"); kind = record { line = 1; form = (Timed PositiveHold (Some (record { is_negative = false; amount = (decimal 1) }))) } } ∷ record { line = 1; direction = Input; range = (Some (record { line = 1; high = (x.Postfix (post 1 (form.Number (decimal 3)) [])); low = (x.Postfix (post 1 (form.Number (decimal 0)) [])) })); name = (codes "q"); kind = record { line = 1; form = (Timed PositiveSample (Some (record { is_negative = true; amount = (decimal 1) }))) } } ∷ []) })) ∷ (item.Function (record { line = 2; result = (record { line = 2; form = type_form.Integer }); name = (codes "f"); parameters = []; block = (record { line = 2; decls = []; stmts = ((s.Drive (record { line = 2; delay = None; signal = (post 2 (form.Name (codes "i")) (suffix.Member (codes "b") ∷ [])); operator = Arrow; value = (x.Postfix (post 2 (form.Number (decimal 1)) [])) })) ∷ []) }) })) ∷ (item.Program (record { line = 2; name = (codes "p"); block = (record { line = 2; decls = []; stmts = [] }) })) ∷ [])) }

-- interface i { input clk CLOCK; output [3:0] b PHOLD #1; input [3:0] q PSAMPLE #-1; }
-- function integer f() { i.q == 1; } program p { }
abbrev pub function_expect : Row
function_expect = record { told = Refused 35 2; source = (tree ((item.Interface (record { line = 1; name = (codes "i"); signals = (record { line = 1; direction = Input; range = None; name = (codes "clk"); kind = record { line = 1; form = Clock } } ∷ record { line = 1; direction = Output; range = (Some (record { line = 1; high = (x.Postfix (post 1 (form.Number (decimal 3)) [])); low = (x.Postfix (post 1 (form.Number (decimal 0)) [])) })); name = (codes "b"); kind = record { line = 1; form = (Timed PositiveHold (Some (record { is_negative = false; amount = (decimal 1) }))) } } ∷ record { line = 1; direction = Input; range = (Some (record { line = 1; high = (x.Postfix (post 1 (form.Number (decimal 3)) [])); low = (x.Postfix (post 1 (form.Number (decimal 0)) [])) })); name = (codes "q"); kind = record { line = 1; form = (Timed PositiveSample (Some (record { is_negative = true; amount = (decimal 1) }))) } } ∷ []) })) ∷ (item.Function (record { line = 2; result = (record { line = 2; form = type_form.Integer }); name = (codes "f"); parameters = []; block = (record { line = 2; decls = []; stmts = ((s.Expect (record { line = 2; window = None; soft_before = false; terms = (record { line = 2; signal = (post 2 (form.Name (codes "i")) (suffix.Member (codes "q") ∷ [])); operator = term.Equal; value = (x.Postfix (post 2 (form.Number (decimal 1)) [])) } ∷ []); soft_after = false })) ∷ []) }) })) ∷ (item.Program (record { line = 2; name = (codes "p"); block = (record { line = 2; decls = []; stmts = [] }) })) ∷ [])) }

-- function integer f() { @(posedge CLOCK); } program p { }
abbrev pub function_edge : Row
function_edge = record { told = Refused 35 1; source = (tree ((item.Function (record { line = 1; result = (record { line = 1; form = type_form.Integer }); name = (codes "f"); parameters = []; block = (record { line = 1; decls = []; stmts = ((s.Edge (record { line = 1; negative = false; clock = clock.Clock })) ∷ []) }) })) ∷ (item.Program (record { line = 1; name = (codes "p"); block = (record { line = 1; decls = []; stmts = [] }) })) ∷ [])) }

-- function integer f() { terminate; } program p { }
abbrev pub function_terminate : Row
function_terminate = record { told = Refused 35 1; source = (tree ((item.Function (record { line = 1; result = (record { line = 1; form = type_form.Integer }); name = (codes "f"); parameters = []; block = (record { line = 1; decls = []; stmts = ((s.Terminate 1) ∷ []) }) })) ∷ (item.Program (record { line = 1; name = (codes "p"); block = (record { line = 1; decls = []; stmts = [] }) })) ∷ [])) }

-- function integer f() { exit(1); } program p { }
abbrev pub function_exit : Row
function_exit = record { told = Refused 35 1; source = (tree ((item.Function (record { line = 1; result = (record { line = 1; form = type_form.Integer }); name = (codes "f"); parameters = []; block = (record { line = 1; decls = []; stmts = ((s.Call (post 1 (form.Name (codes "exit")) (suffix.Call ((x.Postfix (post 1 (form.Number (decimal 1)) [])) ∷ []) ∷ []))) ∷ []) }) })) ∷ (item.Program (record { line = 1; name = (codes "p"); block = (record { line = 1; decls = []; stmts = [] }) })) ∷ [])) }

-- function integer f() { wait_child(); } program p { }
abbrev pub function_wait_child : Row
function_wait_child = record { told = Refused 35 1; source = (tree ((item.Function (record { line = 1; result = (record { line = 1; form = type_form.Integer }); name = (codes "f"); parameters = []; block = (record { line = 1; decls = []; stmts = ((s.Call (post 1 (form.Name (codes "wait_child")) (suffix.Call [] ∷ []))) ∷ []) }) })) ∷ (item.Program (record { line = 1; name = (codes "p"); block = (record { line = 1; decls = []; stmts = [] }) })) ∷ [])) }

-- function integer f() { integer a; wait_var(a); } program p { }
abbrev pub function_wait_var : Row
function_wait_var = record { told = Refused 35 1; source = (tree ((item.Function (record { line = 1; result = (record { line = 1; form = type_form.Integer }); name = (codes "f"); parameters = []; block = (record { line = 1; decls = (record { line = 1; of = (record { line = 1; form = type_form.Integer }); variables = (record { line = 1; name = (codes "a"); bracket = bracket.None; value = None } ∷ []) } ∷ []); stmts = ((s.Call (post 1 (form.Name (codes "wait_var")) (suffix.Call ((x.Postfix (post 1 (form.Name (codes "a")) [])) ∷ []) ∷ []))) ∷ []) }) })) ∷ (item.Program (record { line = 1; name = (codes "p"); block = (record { line = 1; decls = []; stmts = [] }) })) ∷ [])) }

-- task t() { } function integer f() { t(); } program p { }
abbrev pub function_task : Row
function_task = record { told = Refused 35 1; source = (tree ((item.Task (record { line = 1; name = (Named (codes "t")); parameters = []; block = (record { line = 1; decls = []; stmts = [] }) })) ∷ (item.Function (record { line = 1; result = (record { line = 1; form = type_form.Integer }); name = (codes "f"); parameters = []; block = (record { line = 1; decls = []; stmts = ((s.Call (post 1 (form.Name (codes "t")) (suffix.Call [] ∷ []))) ∷ []) }) })) ∷ (item.Program (record { line = 1; name = (codes "p"); block = (record { line = 1; decls = []; stmts = [] }) })) ∷ [])) }

-- function integer f() { semaphore_get(WAIT, 1, 1); } program p { }
abbrev pub function_wait : Row
function_wait = record { told = Refused 35 1; source = (tree ((item.Function (record { line = 1; result = (record { line = 1; form = type_form.Integer }); name = (codes "f"); parameters = []; block = (record { line = 1; decls = []; stmts = ((s.Call (post 1 (form.Name (codes "semaphore_get")) (suffix.Call ((x.Postfix (post 1 (form.Name (codes "WAIT")) [])) ∷ (x.Postfix (post 1 (form.Number (decimal 1)) [])) ∷ (x.Postfix (post 1 (form.Number (decimal 1)) [])) ∷ []) ∷ []))) ∷ []) }) })) ∷ (item.Program (record { line = 1; name = (codes "p"); block = (record { line = 1; decls = []; stmts = [] }) })) ∷ [])) }

-- function integer f() { semaphore_get(NO_WAIT, 1, 1); semaphore_put(1, 1); printf("x"); } program p { }
abbrev pub function_no_wait : Row
function_no_wait = record { told = Accepted; source = (tree ((item.Function (record { line = 1; result = (record { line = 1; form = type_form.Integer }); name = (codes "f"); parameters = []; block = (record { line = 1; decls = []; stmts = ((s.Call (post 1 (form.Name (codes "semaphore_get")) (suffix.Call ((x.Postfix (post 1 (form.Name (codes "NO_WAIT")) [])) ∷ (x.Postfix (post 1 (form.Number (decimal 1)) [])) ∷ (x.Postfix (post 1 (form.Number (decimal 1)) [])) ∷ []) ∷ []))) ∷ (s.Call (post 1 (form.Name (codes "semaphore_put")) (suffix.Call ((x.Postfix (post 1 (form.Number (decimal 1)) [])) ∷ (x.Postfix (post 1 (form.Number (decimal 1)) [])) ∷ []) ∷ []))) ∷ (s.Call (post 1 (form.Name (codes "printf")) (suffix.Call ((x.Postfix (post 1 (form.Str (120 ∷ [])) [])) ∷ []) ∷ []))) ∷ []) }) })) ∷ (item.Program (record { line = 1; name = (codes "p"); block = (record { line = 1; decls = []; stmts = [] }) })) ∷ [])) }

-- program p { integer a; a = 1 + semaphore_get(WAIT, 1, 1); }
abbrev pub wait_inside : Row
wait_inside = record { told = Refused 35 1; source = (tree ((item.Program (record { line = 1; name = (codes "p"); block = (record { line = 1; decls = (record { line = 1; of = (record { line = 1; form = type_form.Integer }); variables = (record { line = 1; name = (codes "a"); bracket = bracket.None; value = None } ∷ []) } ∷ []); stmts = ((s.Step (record { line = 1; target = (post 1 (form.Name (codes "a")) []); change = (change.Assign (x.Chain 1 (x.Postfix (post 1 (form.Number (decimal 1)) [])) (record { operator = o.Add; operand = (x.Postfix (post 1 (form.Name (codes "semaphore_get")) (suffix.Call ((x.Postfix (post 1 (form.Name (codes "WAIT")) [])) ∷ (x.Postfix (post 1 (form.Number (decimal 1)) [])) ∷ (x.Postfix (post 1 (form.Number (decimal 1)) [])) ∷ []) ∷ []))) } ∷ []))) })) ∷ []) }) })) ∷ [])) }

-- program p { integer a; a = (semaphore_get(WAIT, 1, 1)); }
abbrev pub wait_parens : Row
wait_parens = record { told = Refused 35 1; source = (tree ((item.Program (record { line = 1; name = (codes "p"); block = (record { line = 1; decls = (record { line = 1; of = (record { line = 1; form = type_form.Integer }); variables = (record { line = 1; name = (codes "a"); bracket = bracket.None; value = None } ∷ []) } ∷ []); stmts = ((s.Step (record { line = 1; target = (post 1 (form.Name (codes "a")) []); change = (change.Assign (x.Postfix (post 1 (form.Parentheses (x.Postfix (post 1 (form.Name (codes "semaphore_get")) (suffix.Call ((x.Postfix (post 1 (form.Name (codes "WAIT")) [])) ∷ (x.Postfix (post 1 (form.Number (decimal 1)) [])) ∷ (x.Postfix (post 1 (form.Number (decimal 1)) [])) ∷ []) ∷ [])))) []))) })) ∷ []) }) })) ∷ [])) }

-- program p { event e; printf("%d", sync(ALL, e)); }
abbrev pub wait_argument : Row
wait_argument = record { told = Refused 35 1; source = (tree ((item.Program (record { line = 1; name = (codes "p"); block = (record { line = 1; decls = (record { line = 1; of = (record { line = 1; form = type_form.Event }); variables = (record { line = 1; name = (codes "e"); bracket = bracket.None; value = None } ∷ []) } ∷ []); stmts = ((s.Call (post 1 (form.Name (codes "printf")) (suffix.Call ((x.Postfix (post 1 (form.Str (37 ∷ 100 ∷ [])) [])) ∷ (x.Postfix (post 1 (form.Name (codes "sync")) (suffix.Call ((x.Postfix (post 1 (form.Name (codes "ALL")) [])) ∷ (x.Postfix (post 1 (form.Name (codes "e")) [])) ∷ []) ∷ []))) ∷ []) ∷ []))) ∷ []) }) })) ∷ [])) }

-- program p { integer a; a += semaphore_get(WAIT, 1, 1); }
abbrev pub wait_add : Row
wait_add = record { told = Refused 35 1; source = (tree ((item.Program (record { line = 1; name = (codes "p"); block = (record { line = 1; decls = (record { line = 1; of = (record { line = 1; form = type_form.Integer }); variables = (record { line = 1; name = (codes "a"); bracket = bracket.None; value = None } ∷ []) } ∷ []); stmts = ((s.Step (record { line = 1; target = (post 1 (form.Name (codes "a")) []); change = (change.Add (x.Postfix (post 1 (form.Name (codes "semaphore_get")) (suffix.Call ((x.Postfix (post 1 (form.Name (codes "WAIT")) [])) ∷ (x.Postfix (post 1 (form.Number (decimal 1)) [])) ∷ (x.Postfix (post 1 (form.Number (decimal 1)) [])) ∷ []) ∷ [])))) })) ∷ []) }) })) ∷ [])) }

-- interface i { input clk CLOCK; output [3:0] b PHOLD #1; input [3:0] q PSAMPLE #-1; }
-- program p { i.b = semaphore_get(WAIT, 1, 1); }
abbrev pub wait_drive : Row
wait_drive = record { told = Refused 35 2; source = (tree ((item.Interface (record { line = 1; name = (codes "i"); signals = (record { line = 1; direction = Input; range = None; name = (codes "clk"); kind = record { line = 1; form = Clock } } ∷ record { line = 1; direction = Output; range = (Some (record { line = 1; high = (x.Postfix (post 1 (form.Number (decimal 3)) [])); low = (x.Postfix (post 1 (form.Number (decimal 0)) [])) })); name = (codes "b"); kind = record { line = 1; form = (Timed PositiveHold (Some (record { is_negative = false; amount = (decimal 1) }))) } } ∷ record { line = 1; direction = Input; range = (Some (record { line = 1; high = (x.Postfix (post 1 (form.Number (decimal 3)) [])); low = (x.Postfix (post 1 (form.Number (decimal 0)) [])) })); name = (codes "q"); kind = record { line = 1; form = (Timed PositiveSample (Some (record { is_negative = true; amount = (decimal 1) }))) } } ∷ []) })) ∷ (item.Program (record { line = 2; name = (codes "p"); block = (record { line = 2; decls = []; stmts = ((s.Step (record { line = 2; target = (post 2 (form.Name (codes "i")) (suffix.Member (codes "b") ∷ [])); change = (change.Assign (x.Postfix (post 2 (form.Name (codes "semaphore_get")) (suffix.Call ((x.Postfix (post 2 (form.Name (codes "WAIT")) [])) ∷ (x.Postfix (post 2 (form.Number (decimal 1)) [])) ∷ (x.Postfix (post 2 (form.Number (decimal 1)) [])) ∷ []) ∷ [])))) })) ∷ []) }) })) ∷ [])) }

-- program p { if (semaphore_get(WAIT, 1, 1)) ; }
abbrev pub wait_condition : Row
wait_condition = record { told = Refused 35 1; source = (tree ((item.Program (record { line = 1; name = (codes "p"); block = (record { line = 1; decls = []; stmts = ((s.If (record { line = 1; condition = (x.Postfix (post 1 (form.Name (codes "semaphore_get")) (suffix.Call ((x.Postfix (post 1 (form.Name (codes "WAIT")) [])) ∷ (x.Postfix (post 1 (form.Number (decimal 1)) [])) ∷ (x.Postfix (post 1 (form.Number (decimal 1)) [])) ∷ []) ∷ []))); when_true = (s.Empty 1); when_false = None })) ∷ []) }) })) ∷ [])) }

-- program p { event e; integer a = sync(ANY, e); a = region_enter(WAIT, 1, 2); void = sync(ALL, e); mailbox_get(COPY_WAIT, 1, a); a = sync(CHECK, e) + 1; }
abbrev pub wait_allowed : Row
wait_allowed = record { told = Accepted; source = (tree ((item.Program (record { line = 1; name = (codes "p"); block = (record { line = 1; decls = (record { line = 1; of = (record { line = 1; form = type_form.Event }); variables = (record { line = 1; name = (codes "e"); bracket = bracket.None; value = None } ∷ []) } ∷ record { line = 1; of = (record { line = 1; form = type_form.Integer }); variables = (record { line = 1; name = (codes "a"); bracket = bracket.None; value = (Some (x.Postfix (post 1 (form.Name (codes "sync")) (suffix.Call ((x.Postfix (post 1 (form.Name (codes "ANY")) [])) ∷ (x.Postfix (post 1 (form.Name (codes "e")) [])) ∷ []) ∷ [])))) } ∷ []) } ∷ []); stmts = ((s.Step (record { line = 1; target = (post 1 (form.Name (codes "a")) []); change = (change.Assign (x.Postfix (post 1 (form.Name (codes "region_enter")) (suffix.Call ((x.Postfix (post 1 (form.Name (codes "WAIT")) [])) ∷ (x.Postfix (post 1 (form.Number (decimal 1)) [])) ∷ (x.Postfix (post 1 (form.Number (decimal 2)) [])) ∷ []) ∷ [])))) })) ∷ (s.Void (record { line = 1; value = (post 1 (form.Name (codes "sync")) (suffix.Call ((x.Postfix (post 1 (form.Name (codes "ALL")) [])) ∷ (x.Postfix (post 1 (form.Name (codes "e")) [])) ∷ []) ∷ [])) })) ∷ (s.Call (post 1 (form.Name (codes "mailbox_get")) (suffix.Call ((x.Postfix (post 1 (form.Name (codes "COPY_WAIT")) [])) ∷ (x.Postfix (post 1 (form.Number (decimal 1)) [])) ∷ (x.Postfix (post 1 (form.Name (codes "a")) [])) ∷ []) ∷ []))) ∷ (s.Step (record { line = 1; target = (post 1 (form.Name (codes "a")) []); change = (change.Assign (x.Chain 1 (x.Postfix (post 1 (form.Name (codes "sync")) (suffix.Call ((x.Postfix (post 1 (form.Name (codes "CHECK")) [])) ∷ (x.Postfix (post 1 (form.Name (codes "e")) [])) ∷ []) ∷ []))) (record { operator = o.Add; operand = (x.Postfix (post 1 (form.Number (decimal 1)) [])) } ∷ []))) })) ∷ []) }) })) ∷ [])) }

-- task new() { fork ; join } program p { }
abbrev pub new_task_fork : Row
new_task_fork = record { told = Refused 35 1; source = (tree ((item.Task (record { line = 1; name = New; parameters = []; block = (record { line = 1; decls = []; stmts = ((s.Fork (record { line = 1; branches = ((s.Empty 1) ∷ []); join = join.All })) ∷ []) }) })) ∷ (item.Program (record { line = 1; name = (codes "p"); block = (record { line = 1; decls = []; stmts = [] }) })) ∷ [])) }

-- function integer f() { exit(zz); } program p { }
abbrev pub function_unknown_first : Row
function_unknown_first = record { told = Refused 30 1; source = (tree ((item.Function (record { line = 1; result = (record { line = 1; form = type_form.Integer }); name = (codes "f"); parameters = []; block = (record { line = 1; decls = []; stmts = ((s.Call (post 1 (form.Name (codes "exit")) (suffix.Call ((x.Postfix (post 1 (form.Name (codes "zz")) [])) ∷ []) ∷ []))) ∷ []) }) })) ∷ (item.Program (record { line = 1; name = (codes "p"); block = (record { line = 1; decls = []; stmts = [] }) })) ∷ [])) }

-- task t() { } function integer f() { f = t(); } program p { }
abbrev pub task_as_value_in_function : Row
task_as_value_in_function = record { told = Refused 32 1; source = (tree ((item.Task (record { line = 1; name = (Named (codes "t")); parameters = []; block = (record { line = 1; decls = []; stmts = [] }) })) ∷ (item.Function (record { line = 1; result = (record { line = 1; form = type_form.Integer }); name = (codes "f"); parameters = []; block = (record { line = 1; decls = []; stmts = ((s.Step (record { line = 1; target = (post 1 (form.Name (codes "f")) []); change = (change.Assign (x.Postfix (post 1 (form.Name (codes "t")) (suffix.Call [] ∷ [])))) })) ∷ []) }) })) ∷ (item.Program (record { line = 1; name = (codes "p"); block = (record { line = 1; decls = []; stmts = [] }) })) ∷ [])) }

-- interface i { input clk CLOCK; output [3:0] b PHOLD #1; input [3:0] q PSAMPLE #-1; }
-- function integer f() { i.q = 1; } program p { }
abbrev pub function_drives_input : Row
function_drives_input = record { told = Refused 35 2; source = (tree ((item.Interface (record { line = 1; name = (codes "i"); signals = (record { line = 1; direction = Input; range = None; name = (codes "clk"); kind = record { line = 1; form = Clock } } ∷ record { line = 1; direction = Output; range = (Some (record { line = 1; high = (x.Postfix (post 1 (form.Number (decimal 3)) [])); low = (x.Postfix (post 1 (form.Number (decimal 0)) [])) })); name = (codes "b"); kind = record { line = 1; form = (Timed PositiveHold (Some (record { is_negative = false; amount = (decimal 1) }))) } } ∷ record { line = 1; direction = Input; range = (Some (record { line = 1; high = (x.Postfix (post 1 (form.Number (decimal 3)) [])); low = (x.Postfix (post 1 (form.Number (decimal 0)) [])) })); name = (codes "q"); kind = record { line = 1; form = (Timed PositiveSample (Some (record { is_negative = true; amount = (decimal 1) }))) } } ∷ []) })) ∷ (item.Function (record { line = 2; result = (record { line = 2; form = type_form.Integer }); name = (codes "f"); parameters = []; block = (record { line = 2; decls = []; stmts = ((s.Step (record { line = 2; target = (post 2 (form.Name (codes "i")) (suffix.Member (codes "q") ∷ [])); change = (change.Assign (x.Postfix (post 2 (form.Number (decimal 1)) []))) })) ∷ []) }) })) ∷ (item.Program (record { line = 2; name = (codes "p"); block = (record { line = 2; decls = []; stmts = [] }) })) ∷ [])) }

-- interface i { input clk CLOCK; output [3:0] b PHOLD #1; input [3:0] q PSAMPLE #-1; }
-- function integer f() { @(posedge i.q); } program p { }
abbrev pub function_edge_of_input : Row
function_edge_of_input = record { told = Refused 35 2; source = (tree ((item.Interface (record { line = 1; name = (codes "i"); signals = (record { line = 1; direction = Input; range = None; name = (codes "clk"); kind = record { line = 1; form = Clock } } ∷ record { line = 1; direction = Output; range = (Some (record { line = 1; high = (x.Postfix (post 1 (form.Number (decimal 3)) [])); low = (x.Postfix (post 1 (form.Number (decimal 0)) [])) })); name = (codes "b"); kind = record { line = 1; form = (Timed PositiveHold (Some (record { is_negative = false; amount = (decimal 1) }))) } } ∷ record { line = 1; direction = Input; range = (Some (record { line = 1; high = (x.Postfix (post 1 (form.Number (decimal 3)) [])); low = (x.Postfix (post 1 (form.Number (decimal 0)) [])) })); name = (codes "q"); kind = record { line = 1; form = (Timed PositiveSample (Some (record { is_negative = true; amount = (decimal 1) }))) } } ∷ []) })) ∷ (item.Function (record { line = 2; result = (record { line = 2; form = type_form.Integer }); name = (codes "f"); parameters = []; block = (record { line = 2; decls = []; stmts = ((s.Edge (record { line = 2; negative = false; clock = (clock.Signal (codes "i") (codes "q")) })) ∷ []) }) })) ∷ (item.Program (record { line = 2; name = (codes "p"); block = (record { line = 2; decls = []; stmts = [] }) })) ∷ [])) }

-- function integer f() { event e; f = sync(CHECK, e) + get_cycle() + flag(); } program p { }
abbrev pub function_checks : Row
function_checks = record { told = Accepted; source = (tree ((item.Function (record { line = 1; result = (record { line = 1; form = type_form.Integer }); name = (codes "f"); parameters = []; block = (record { line = 1; decls = (record { line = 1; of = (record { line = 1; form = type_form.Event }); variables = (record { line = 1; name = (codes "e"); bracket = bracket.None; value = None } ∷ []) } ∷ []); stmts = ((s.Step (record { line = 1; target = (post 1 (form.Name (codes "f")) []); change = (change.Assign (x.Chain 1 (x.Postfix (post 1 (form.Name (codes "sync")) (suffix.Call ((x.Postfix (post 1 (form.Name (codes "CHECK")) [])) ∷ (x.Postfix (post 1 (form.Name (codes "e")) [])) ∷ []) ∷ []))) (record { operator = o.Add; operand = (x.Postfix (post 1 (form.Name (codes "get_cycle")) (suffix.Call [] ∷ []))) } ∷ record { operator = o.Add; operand = (x.Postfix (post 1 (form.Name (codes "flag")) (suffix.Call [] ∷ []))) } ∷ []))) })) ∷ []) }) })) ∷ (item.Program (record { line = 1; name = (codes "p"); block = (record { line = 1; decls = []; stmts = [] }) })) ∷ [])) }

-- task t(event e) { fork t(e); join none terminate; sync(ORDER, e, e); @(posedge CLOCK); exit(1); } program p { }
abbrev pub tasks_wait : Row
tasks_wait = record { told = Accepted; source = (tree ((item.Task (record { line = 1; name = (Named (codes "t")); parameters = (record { line = 1; is_var = false; of = (record { line = 1; form = type_form.Event }); name = (codes "e") } ∷ []); block = (record { line = 1; decls = []; stmts = ((s.Fork (record { line = 1; branches = ((s.Call (post 1 (form.Name (codes "t")) (suffix.Call ((x.Postfix (post 1 (form.Name (codes "e")) [])) ∷ []) ∷ []))) ∷ []); join = join.None })) ∷ (s.Terminate 1) ∷ (s.Call (post 1 (form.Name (codes "sync")) (suffix.Call ((x.Postfix (post 1 (form.Name (codes "ORDER")) [])) ∷ (x.Postfix (post 1 (form.Name (codes "e")) [])) ∷ (x.Postfix (post 1 (form.Name (codes "e")) [])) ∷ []) ∷ []))) ∷ (s.Edge (record { line = 1; negative = false; clock = clock.Clock })) ∷ (s.Call (post 1 (form.Name (codes "exit")) (suffix.Call ((x.Postfix (post 1 (form.Number (decimal 1)) [])) ∷ []) ∷ []))) ∷ []) }) })) ∷ (item.Program (record { line = 1; name = (codes "p"); block = (record { line = 1; decls = []; stmts = [] }) })) ∷ [])) }

abbrev pub stand_rows : List Row
stand_rows = function_fork ∷ function_drive ∷ function_arrow ∷ function_expect ∷ function_edge ∷ function_terminate ∷ function_exit ∷ function_wait_child ∷ function_wait_var ∷ function_task ∷ function_wait ∷ function_no_wait ∷ wait_inside ∷ wait_parens ∷ wait_argument ∷ wait_add ∷ wait_drive ∷ wait_condition ∷ wait_allowed ∷ new_task_fork ∷ function_unknown_first ∷ task_as_value_in_function ∷ function_drives_input ∷ function_edge_of_input ∷ function_checks ∷ tasks_wait ∷ []
