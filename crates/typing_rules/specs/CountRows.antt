-- Wrong numbers of arguments.
use Rattle.std.specs.Prelude.{true, false, List, [], ◌∷◌, Some, None, codes}
use Rattle.four_state.specs.declared.bit.Bit.TheVariants.{Zero, One, X, Z}
use Rattle.vera_ast.specs.declared.tree.declarations.Bracket.TheVariants as bracket
use Rattle.vera_ast.specs.declared.tree.declarations.TypeForm.TheVariants as type_form
use Rattle.vera_ast.specs.declared.tree.expressions.ChainOperator.TheVariants as o
use Rattle.vera_ast.specs.declared.tree.expressions.UnaryOperator.TheVariants as u
use Rattle.vera_ast.specs.declared.tree.expressions.Expr.TheVariants as x
use Rattle.vera_ast.specs.declared.tree.expressions.PrimaryForm.TheVariants as form
use Rattle.vera_ast.specs.declared.tree.expressions.Suffix.TheVariants as suffix
use Rattle.vera_ast.specs.declared.tree.interfaces.Direction.TheVariants.{Input, Output}
use Rattle.vera_ast.specs.declared.tree.interfaces.SignalForm.TheVariants.{Clock, Timed}
use Rattle.vera_ast.specs.declared.tree.interfaces.SignalTime.TheVariants.{PositiveHold, PositiveSample, NegativeHold, NegativeSample}
use Rattle.vera_ast.specs.declared.tree.items.Item.TheVariants as item
use Rattle.vera_ast.specs.declared.tree.items.TaskName.TheVariants.{Named, New}
use Rattle.vera_ast.specs.declared.tree.items.Tree.{Tree}
use Rattle.vera_ast.specs.declared.tree.statements.ArmLabel.TheVariants as label
use Rattle.vera_ast.specs.declared.tree.statements.Change.TheVariants as change
use Rattle.vera_ast.specs.declared.tree.statements.DelayForm.TheVariants as delay_form
use Rattle.vera_ast.specs.declared.tree.statements.DriveOperator.TheVariants.{Assign as Plain, Arrow}
use Rattle.vera_ast.specs.declared.tree.statements.EdgeClock.TheVariants as clock
use Rattle.vera_ast.specs.declared.tree.statements.Join.TheVariants as join
use Rattle.vera_ast.specs.declared.tree.statements.Stmt.TheVariants as s
use Rattle.vera_ast.specs.declared.tree.statements.TermOperator.TheVariants as term
use Rattle.vera_ast.specs.declared.tree.statements.WindowKind.TheVariants as window
use Rattle.typing_rules.specs.Sources.{tree, post, decimal, based}
use Rattle.typing_rules.specs.Told.{Row, Accepted, Refused}

-- task t(integer a) { } program p { t(); }
abbrev pub few_arguments : Row
few_arguments = record { told = Refused 33 1; source = (tree ((item.Task (record { line = 1; name = (Named (codes "t")); parameters = (record { line = 1; is_var = false; of = (record { line = 1; form = type_form.Integer }); name = (codes "a") } ∷ []); block = (record { line = 1; decls = []; stmts = [] }) })) ∷ (item.Program (record { line = 1; name = (codes "p"); block = (record { line = 1; decls = []; stmts = ((s.Call (post 1 (form.Name (codes "t")) (suffix.Call [] ∷ []))) ∷ []) }) })) ∷ [])) }

-- function integer f() { } program p { f(1); }
abbrev pub many_arguments : Row
many_arguments = record { told = Refused 33 1; source = (tree ((item.Function (record { line = 1; result = (record { line = 1; form = type_form.Integer }); name = (codes "f"); parameters = []; block = (record { line = 1; decls = []; stmts = [] }) })) ∷ (item.Program (record { line = 1; name = (codes "p"); block = (record { line = 1; decls = []; stmts = ((s.Call (post 1 (form.Name (codes "f")) (suffix.Call ((x.Postfix (post 1 (form.Number (decimal 1)) [])) ∷ []) ∷ []))) ∷ []) }) })) ∷ [])) }

-- program p { printf("%d %d", 1); }
abbrev pub format_few : Row
format_few = record { told = Refused 33 1; source = (tree ((item.Program (record { line = 1; name = (codes "p"); block = (record { line = 1; decls = []; stmts = ((s.Call (post 1 (form.Name (codes "printf")) (suffix.Call ((x.Postfix (post 1 (form.Str (37 ∷ 100 ∷ 32 ∷ 37 ∷ 100 ∷ [])) [])) ∷ (x.Postfix (post 1 (form.Number (decimal 1)) [])) ∷ []) ∷ []))) ∷ []) }) })) ∷ [])) }

-- program p { printf("x", 1); }
abbrev pub format_many : Row
format_many = record { told = Refused 33 1; source = (tree ((item.Program (record { line = 1; name = (codes "p"); block = (record { line = 1; decls = []; stmts = ((s.Call (post 1 (form.Name (codes "printf")) (suffix.Call ((x.Postfix (post 1 (form.Str (120 ∷ [])) [])) ∷ (x.Postfix (post 1 (form.Number (decimal 1)) [])) ∷ []) ∷ []))) ∷ []) }) })) ∷ [])) }

-- program p { printf(); }
abbrev pub printf_none : Row
printf_none = record { told = Refused 33 1; source = (tree ((item.Program (record { line = 1; name = (codes "p"); block = (record { line = 1; decls = []; stmts = ((s.Call (post 1 (form.Name (codes "printf")) (suffix.Call [] ∷ []))) ∷ []) }) })) ∷ [])) }

-- program p { integer a; a = alloc(MAILBOX, 0, 1, 1); }
abbrev pub alloc_count : Row
alloc_count = record { told = Refused 33 1; source = (tree ((item.Program (record { line = 1; name = (codes "p"); block = (record { line = 1; decls = (record { line = 1; of = (record { line = 1; form = type_form.Integer }); variables = (record { line = 1; name = (codes "a"); bracket = bracket.None; value = None } ∷ []) } ∷ []); stmts = ((s.Step (record { line = 1; target = (post 1 (form.Name (codes "a")) []); change = (change.Assign (x.Postfix (post 1 (form.Name (codes "alloc")) (suffix.Call ((x.Postfix (post 1 (form.Name (codes "MAILBOX")) [])) ∷ (x.Postfix (post 1 (form.Number (decimal 0)) [])) ∷ (x.Postfix (post 1 (form.Number (decimal 1)) [])) ∷ (x.Postfix (post 1 (form.Number (decimal 1)) [])) ∷ []) ∷ [])))) })) ∷ []) }) })) ∷ [])) }

-- program p { integer a; a = alloc(SEMAPHORE, 0, 1); }
abbrev pub alloc_semaphore_count : Row
alloc_semaphore_count = record { told = Refused 33 1; source = (tree ((item.Program (record { line = 1; name = (codes "p"); block = (record { line = 1; decls = (record { line = 1; of = (record { line = 1; form = type_form.Integer }); variables = (record { line = 1; name = (codes "a"); bracket = bracket.None; value = None } ∷ []) } ∷ []); stmts = ((s.Step (record { line = 1; target = (post 1 (form.Name (codes "a")) []); change = (change.Assign (x.Postfix (post 1 (form.Name (codes "alloc")) (suffix.Call ((x.Postfix (post 1 (form.Name (codes "SEMAPHORE")) [])) ∷ (x.Postfix (post 1 (form.Number (decimal 0)) [])) ∷ (x.Postfix (post 1 (form.Number (decimal 1)) [])) ∷ []) ∷ [])))) })) ∷ []) }) })) ∷ [])) }

-- program p { mailbox_get(WAIT, 1); }
abbrev pub mailbox_get_wait_size : Row
mailbox_get_wait_size = record { told = Refused 33 1; source = (tree ((item.Program (record { line = 1; name = (codes "p"); block = (record { line = 1; decls = []; stmts = ((s.Call (post 1 (form.Name (codes "mailbox_get")) (suffix.Call ((x.Postfix (post 1 (form.Name (codes "WAIT")) [])) ∷ (x.Postfix (post 1 (form.Number (decimal 1)) [])) ∷ []) ∷ []))) ∷ []) }) })) ∷ [])) }

-- program p { printf("%d", mailbox_get(NO_WAIT, 1)); }
abbrev pub mailbox_get_size : Row
mailbox_get_size = record { told = Accepted; source = (tree ((item.Program (record { line = 1; name = (codes "p"); block = (record { line = 1; decls = []; stmts = ((s.Call (post 1 (form.Name (codes "printf")) (suffix.Call ((x.Postfix (post 1 (form.Str (37 ∷ 100 ∷ [])) [])) ∷ (x.Postfix (post 1 (form.Name (codes "mailbox_get")) (suffix.Call ((x.Postfix (post 1 (form.Name (codes "NO_WAIT")) [])) ∷ (x.Postfix (post 1 (form.Number (decimal 1)) [])) ∷ []) ∷ []))) ∷ []) ∷ []))) ∷ []) }) })) ∷ [])) }

-- program p { sync(ANY); }
abbrev pub sync_none : Row
sync_none = record { told = Refused 33 1; source = (tree ((item.Program (record { line = 1; name = (codes "p"); block = (record { line = 1; decls = []; stmts = ((s.Call (post 1 (form.Name (codes "sync")) (suffix.Call ((x.Postfix (post 1 (form.Name (codes "ANY")) [])) ∷ []) ∷ []))) ∷ []) }) })) ∷ [])) }

-- program p { event e; integer a; a = sync(CHECK, e, e); }
abbrev pub check_two : Row
check_two = record { told = Refused 33 1; source = (tree ((item.Program (record { line = 1; name = (codes "p"); block = (record { line = 1; decls = (record { line = 1; of = (record { line = 1; form = type_form.Event }); variables = (record { line = 1; name = (codes "e"); bracket = bracket.None; value = None } ∷ []) } ∷ record { line = 1; of = (record { line = 1; form = type_form.Integer }); variables = (record { line = 1; name = (codes "a"); bracket = bracket.None; value = None } ∷ []) } ∷ []); stmts = ((s.Step (record { line = 1; target = (post 1 (form.Name (codes "a")) []); change = (change.Assign (x.Postfix (post 1 (form.Name (codes "sync")) (suffix.Call ((x.Postfix (post 1 (form.Name (codes "CHECK")) [])) ∷ (x.Postfix (post 1 (form.Name (codes "e")) [])) ∷ (x.Postfix (post 1 (form.Name (codes "e")) [])) ∷ []) ∷ [])))) })) ∷ []) }) })) ∷ [])) }

-- program p { integer a; a = flag(1); }
abbrev pub flag_argument : Row
flag_argument = record { told = Refused 33 1; source = (tree ((item.Program (record { line = 1; name = (codes "p"); block = (record { line = 1; decls = (record { line = 1; of = (record { line = 1; form = type_form.Integer }); variables = (record { line = 1; name = (codes "a"); bracket = bracket.None; value = None } ∷ []) } ∷ []); stmts = ((s.Step (record { line = 1; target = (post 1 (form.Name (codes "a")) []); change = (change.Assign (x.Postfix (post 1 (form.Name (codes "flag")) (suffix.Call ((x.Postfix (post 1 (form.Number (decimal 1)) [])) ∷ []) ∷ [])))) })) ∷ []) }) })) ∷ [])) }

-- program p { string s; integer a; a = s.len(1); }
abbrev pub len_argument : Row
len_argument = record { told = Refused 33 1; source = (tree ((item.Program (record { line = 1; name = (codes "p"); block = (record { line = 1; decls = (record { line = 1; of = (record { line = 1; form = type_form.Str }); variables = (record { line = 1; name = (codes "s"); bracket = bracket.None; value = None } ∷ []) } ∷ record { line = 1; of = (record { line = 1; form = type_form.Integer }); variables = (record { line = 1; name = (codes "a"); bracket = bracket.None; value = None } ∷ []) } ∷ []); stmts = ((s.Step (record { line = 1; target = (post 1 (form.Name (codes "a")) []); change = (change.Assign (x.Postfix (post 1 (form.Name (codes "s")) (suffix.Member (codes "len") ∷ suffix.Call ((x.Postfix (post 1 (form.Number (decimal 1)) [])) ∷ []) ∷ [])))) })) ∷ []) }) })) ∷ [])) }

-- program p { region_enter(WAIT, 1); }
abbrev pub region_without_value : Row
region_without_value = record { told = Refused 33 1; source = (tree ((item.Program (record { line = 1; name = (codes "p"); block = (record { line = 1; decls = []; stmts = ((s.Call (post 1 (form.Name (codes "region_enter")) (suffix.Call ((x.Postfix (post 1 (form.Name (codes "WAIT")) [])) ∷ (x.Postfix (post 1 (form.Number (decimal 1)) [])) ∷ []) ∷ []))) ∷ []) }) })) ∷ [])) }

-- program p { wait_var(); }
abbrev pub wait_var_none : Row
wait_var_none = record { told = Refused 33 1; source = (tree ((item.Program (record { line = 1; name = (codes "p"); block = (record { line = 1; decls = []; stmts = ((s.Call (post 1 (form.Name (codes "wait_var")) (suffix.Call [] ∷ []))) ∷ []) }) })) ∷ [])) }

-- task t(string a, string b) { } program p { t(1); }
abbrev pub type_before_count : Row
type_before_count = record { told = Refused 32 1; source = (tree ((item.Task (record { line = 1; name = (Named (codes "t")); parameters = (record { line = 1; is_var = false; of = (record { line = 1; form = type_form.Str }); name = (codes "a") } ∷ record { line = 1; is_var = false; of = (record { line = 1; form = type_form.Str }); name = (codes "b") } ∷ []); block = (record { line = 1; decls = []; stmts = [] }) })) ∷ (item.Program (record { line = 1; name = (codes "p"); block = (record { line = 1; decls = []; stmts = ((s.Call (post 1 (form.Name (codes "t")) (suffix.Call ((x.Postfix (post 1 (form.Number (decimal 1)) [])) ∷ []) ∷ []))) ∷ []) }) })) ∷ [])) }

-- program p { wait_child(1); }
abbrev pub wait_child_argument : Row
wait_child_argument = record { told = Refused 33 1; source = (tree ((item.Program (record { line = 1; name = (codes "p"); block = (record { line = 1; decls = []; stmts = ((s.Call (post 1 (form.Name (codes "wait_child")) (suffix.Call ((x.Postfix (post 1 (form.Number (decimal 1)) [])) ∷ []) ∷ []))) ∷ []) }) })) ∷ [])) }

-- program p { trigger(); }
abbrev pub trigger_none : Row
trigger_none = record { told = Refused 33 1; source = (tree ((item.Program (record { line = 1; name = (codes "p"); block = (record { line = 1; decls = []; stmts = ((s.Call (post 1 (form.Name (codes "trigger")) (suffix.Call [] ∷ []))) ∷ []) }) })) ∷ [])) }

-- program p { trigger(ON); }
abbrev pub trigger_mode_alone : Row
trigger_mode_alone = record { told = Refused 33 1; source = (tree ((item.Program (record { line = 1; name = (codes "p"); block = (record { line = 1; decls = []; stmts = ((s.Call (post 1 (form.Name (codes "trigger")) (suffix.Call ((x.Postfix (post 1 (form.Name (codes "ON")) [])) ∷ []) ∷ []))) ∷ []) }) })) ∷ [])) }

-- program p { region_exit(1); }
abbrev pub region_exit_id_alone : Row
region_exit_id_alone = record { told = Refused 33 1; source = (tree ((item.Program (record { line = 1; name = (codes "p"); block = (record { line = 1; decls = []; stmts = ((s.Call (post 1 (form.Name (codes "region_exit")) (suffix.Call ((x.Postfix (post 1 (form.Number (decimal 1)) [])) ∷ []) ∷ []))) ∷ []) }) })) ∷ [])) }

-- program p { semaphore_put(1); }
abbrev pub semaphore_put_few : Row
semaphore_put_few = record { told = Refused 33 1; source = (tree ((item.Program (record { line = 1; name = (codes "p"); block = (record { line = 1; decls = []; stmts = ((s.Call (post 1 (form.Name (codes "semaphore_put")) (suffix.Call ((x.Postfix (post 1 (form.Number (decimal 1)) [])) ∷ []) ∷ []))) ∷ []) }) })) ∷ [])) }

-- function integer f() { exit(); } program p { }
abbrev pub function_exit_count : Row
function_exit_count = record { told = Refused 33 1; source = (tree ((item.Function (record { line = 1; result = (record { line = 1; form = type_form.Integer }); name = (codes "f"); parameters = []; block = (record { line = 1; decls = []; stmts = ((s.Call (post 1 (form.Name (codes "exit")) (suffix.Call [] ∷ []))) ∷ []) }) })) ∷ (item.Program (record { line = 1; name = (codes "p"); block = (record { line = 1; decls = []; stmts = [] }) })) ∷ [])) }

-- program p { integer a; a = alloc(MAILBOX, 0, 1, "x"); }
abbrev pub alloc_surplus_string : Row
alloc_surplus_string = record { told = Refused 33 1; source = (tree ((item.Program (record { line = 1; name = (codes "p"); block = (record { line = 1; decls = (record { line = 1; of = (record { line = 1; form = type_form.Integer }); variables = (record { line = 1; name = (codes "a"); bracket = bracket.None; value = None } ∷ []) } ∷ []); stmts = ((s.Step (record { line = 1; target = (post 1 (form.Name (codes "a")) []); change = (change.Assign (x.Postfix (post 1 (form.Name (codes "alloc")) (suffix.Call ((x.Postfix (post 1 (form.Name (codes "MAILBOX")) [])) ∷ (x.Postfix (post 1 (form.Number (decimal 0)) [])) ∷ (x.Postfix (post 1 (form.Number (decimal 1)) [])) ∷ (x.Postfix (post 1 (form.Str (120 ∷ [])) [])) ∷ []) ∷ [])))) })) ∷ []) }) })) ∷ [])) }

-- program p { event e; integer a; a = alloc(REGION, 0, 1, e); }
abbrev pub alloc_region_surplus_event : Row
alloc_region_surplus_event = record { told = Refused 33 1; source = (tree ((item.Program (record { line = 1; name = (codes "p"); block = (record { line = 1; decls = (record { line = 1; of = (record { line = 1; form = type_form.Event }); variables = (record { line = 1; name = (codes "e"); bracket = bracket.None; value = None } ∷ []) } ∷ record { line = 1; of = (record { line = 1; form = type_form.Integer }); variables = (record { line = 1; name = (codes "a"); bracket = bracket.None; value = None } ∷ []) } ∷ []); stmts = ((s.Step (record { line = 1; target = (post 1 (form.Name (codes "a")) []); change = (change.Assign (x.Postfix (post 1 (form.Name (codes "alloc")) (suffix.Call ((x.Postfix (post 1 (form.Name (codes "REGION")) [])) ∷ (x.Postfix (post 1 (form.Number (decimal 0)) [])) ∷ (x.Postfix (post 1 (form.Number (decimal 1)) [])) ∷ (x.Postfix (post 1 (form.Name (codes "e")) [])) ∷ []) ∷ [])))) })) ∷ []) }) })) ∷ [])) }

-- program p { integer a; a = alloc(SEMAPHORE, 0, 1, "x"); }
abbrev pub alloc_semaphore_string : Row
alloc_semaphore_string = record { told = Refused 32 1; source = (tree ((item.Program (record { line = 1; name = (codes "p"); block = (record { line = 1; decls = (record { line = 1; of = (record { line = 1; form = type_form.Integer }); variables = (record { line = 1; name = (codes "a"); bracket = bracket.None; value = None } ∷ []) } ∷ []); stmts = ((s.Step (record { line = 1; target = (post 1 (form.Name (codes "a")) []); change = (change.Assign (x.Postfix (post 1 (form.Name (codes "alloc")) (suffix.Call ((x.Postfix (post 1 (form.Name (codes "SEMAPHORE")) [])) ∷ (x.Postfix (post 1 (form.Number (decimal 0)) [])) ∷ (x.Postfix (post 1 (form.Number (decimal 1)) [])) ∷ (x.Postfix (post 1 (form.Str (120 ∷ [])) [])) ∷ []) ∷ [])))) })) ∷ []) }) })) ∷ [])) }

-- program p { event e; integer a; a = sync(CHECK, e, 5); }
abbrev pub check_surplus_number : Row
check_surplus_number = record { told = Refused 33 1; source = (tree ((item.Program (record { line = 1; name = (codes "p"); block = (record { line = 1; decls = (record { line = 1; of = (record { line = 1; form = type_form.Event }); variables = (record { line = 1; name = (codes "e"); bracket = bracket.None; value = None } ∷ []) } ∷ record { line = 1; of = (record { line = 1; form = type_form.Integer }); variables = (record { line = 1; name = (codes "a"); bracket = bracket.None; value = None } ∷ []) } ∷ []); stmts = ((s.Step (record { line = 1; target = (post 1 (form.Name (codes "a")) []); change = (change.Assign (x.Postfix (post 1 (form.Name (codes "sync")) (suffix.Call ((x.Postfix (post 1 (form.Name (codes "CHECK")) [])) ∷ (x.Postfix (post 1 (form.Name (codes "e")) [])) ∷ (x.Postfix (post 1 (form.Number (decimal 5)) [])) ∷ []) ∷ [])))) })) ∷ []) }) })) ∷ [])) }

-- program p { event e; integer a; a = sync(CHECK, 5, e); }
abbrev pub check_number : Row
check_number = record { told = Refused 32 1; source = (tree ((item.Program (record { line = 1; name = (codes "p"); block = (record { line = 1; decls = (record { line = 1; of = (record { line = 1; form = type_form.Event }); variables = (record { line = 1; name = (codes "e"); bracket = bracket.None; value = None } ∷ []) } ∷ record { line = 1; of = (record { line = 1; form = type_form.Integer }); variables = (record { line = 1; name = (codes "a"); bracket = bracket.None; value = None } ∷ []) } ∷ []); stmts = ((s.Step (record { line = 1; target = (post 1 (form.Name (codes "a")) []); change = (change.Assign (x.Postfix (post 1 (form.Name (codes "sync")) (suffix.Call ((x.Postfix (post 1 (form.Name (codes "CHECK")) [])) ∷ (x.Postfix (post 1 (form.Number (decimal 5)) [])) ∷ (x.Postfix (post 1 (form.Name (codes "e")) [])) ∷ []) ∷ [])))) })) ∷ []) }) })) ∷ [])) }

abbrev pub count_rows : List Row
count_rows = few_arguments ∷ many_arguments ∷ format_few ∷ format_many ∷ printf_none ∷ alloc_count ∷ alloc_semaphore_count ∷ mailbox_get_wait_size ∷ mailbox_get_size ∷ sync_none ∷ check_two ∷ flag_argument ∷ len_argument ∷ region_without_value ∷ wait_var_none ∷ type_before_count ∷ wait_child_argument ∷ trigger_none ∷ trigger_mode_alone ∷ region_exit_id_alone ∷ semaphore_put_few ∷ function_exit_count ∷ alloc_surplus_string ∷ alloc_region_surplus_event ∷ alloc_semaphore_string ∷ check_surplus_number ∷ check_number ∷ []
