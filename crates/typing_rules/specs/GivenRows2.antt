-- Sources of whole runs.
use Rattle.std.specs.Prelude.{true, false, List, [], ◌∷◌, Some, None, codes}
use Rattle.four_state.specs.declared.bit.Bit.TheVariants.{Zero, One, X}
use Rattle.vera_ast.specs.declared.tree.declarations.Bracket.TheVariants as bracket
use Rattle.vera_ast.specs.declared.tree.declarations.TypeForm.TheVariants as type_form
use Rattle.vera_ast.specs.declared.tree.expressions.ChainOperator.TheVariants as o
use Rattle.vera_ast.specs.declared.tree.expressions.Expr.TheVariants as x
use Rattle.vera_ast.specs.declared.tree.expressions.PrimaryForm.TheVariants as form
use Rattle.vera_ast.specs.declared.tree.expressions.Suffix.TheVariants as suffix
use Rattle.vera_ast.specs.declared.tree.interfaces.Direction.TheVariants.{Input, Output}
use Rattle.vera_ast.specs.declared.tree.interfaces.SignalForm.TheVariants.{Clock, Timed}
use Rattle.vera_ast.specs.declared.tree.interfaces.SignalTime.TheVariants.{PositiveHold, PositiveSample}
use Rattle.vera_ast.specs.declared.tree.items.Item.TheVariants as item
use Rattle.vera_ast.specs.declared.tree.statements.Change.TheVariants as change
use Rattle.vera_ast.specs.declared.tree.statements.DelayForm.TheVariants as delay_form
use Rattle.vera_ast.specs.declared.tree.statements.DriveOperator.TheVariants.{Assign as Plain}
use Rattle.vera_ast.specs.declared.tree.statements.EdgeClock.TheVariants as clock
use Rattle.vera_ast.specs.declared.tree.statements.Join.TheVariants as join
use Rattle.vera_ast.specs.declared.tree.statements.Stmt.TheVariants as s
use Rattle.typing_rules.specs.Sources.{tree, post, decimal, based}
use Rattle.typing_rules.specs.Told.{Row, Accepted, Refused}

-- program p { integer a; a = 4 * 4; }
--
abbrev pub given_product_check : Row
given_product_check = record { told = Accepted; source = (tree ((item.Program (record { line = 1; name = (codes "p"); block = (record { line = 1; decls = (record { line = 1; of = (record { line = 1; form = type_form.Integer }); variables = (record { line = 1; name = (codes "a"); bracket = bracket.None; value = None } ∷ []) } ∷ []); stmts = ((s.Step (record { line = 1; target = (post 1 (form.Name (codes "a")) []); change = (change.Assign (x.Chain 1 (x.Postfix (post 1 (form.Number (decimal 4)) [])) (record { operator = o.Multiply; operand = (x.Postfix (post 1 (form.Number (decimal 4)) [])) } ∷ []))) })) ∷ []) }) })) ∷ [])) }

-- program p { integer a; integer b; a = 0; b = 0; fork { a = a + 1; } { b = a; } join all printf("%0d %0d\n", a, b); }
--
abbrev pub given_replay_reruns_stale_packet : Row
given_replay_reruns_stale_packet = record { told = Accepted; source = (tree ((item.Program (record { line = 1; name = (codes "p"); block = (record { line = 1; decls = (record { line = 1; of = (record { line = 1; form = type_form.Integer }); variables = (record { line = 1; name = (codes "a"); bracket = bracket.None; value = None } ∷ []) } ∷ record { line = 1; of = (record { line = 1; form = type_form.Integer }); variables = (record { line = 1; name = (codes "b"); bracket = bracket.None; value = None } ∷ []) } ∷ []); stmts = ((s.Step (record { line = 1; target = (post 1 (form.Name (codes "a")) []); change = (change.Assign (x.Postfix (post 1 (form.Number (decimal 0)) []))) })) ∷ (s.Step (record { line = 1; target = (post 1 (form.Name (codes "b")) []); change = (change.Assign (x.Postfix (post 1 (form.Number (decimal 0)) []))) })) ∷ (s.Fork (record { line = 1; branches = ((s.Block (record { line = 1; decls = []; stmts = ((s.Step (record { line = 1; target = (post 1 (form.Name (codes "a")) []); change = (change.Assign (x.Chain 1 (x.Postfix (post 1 (form.Name (codes "a")) [])) (record { operator = o.Add; operand = (x.Postfix (post 1 (form.Number (decimal 1)) [])) } ∷ []))) })) ∷ []) })) ∷ (s.Block (record { line = 1; decls = []; stmts = ((s.Step (record { line = 1; target = (post 1 (form.Name (codes "b")) []); change = (change.Assign (x.Postfix (post 1 (form.Name (codes "a")) []))) })) ∷ []) })) ∷ []); join = join.All })) ∷ (s.Call (post 1 (form.Name (codes "printf")) (suffix.Call ((x.Postfix (post 1 (form.Str (37 ∷ 48 ∷ 100 ∷ 32 ∷ 37 ∷ 48 ∷ 100 ∷ 10 ∷ [])) [])) ∷ (x.Postfix (post 1 (form.Name (codes "a")) [])) ∷ (x.Postfix (post 1 (form.Name (codes "b")) [])) ∷ []) ∷ []))) ∷ []) }) })) ∷ [])) }

-- program p { integer r; r = alloc(REGION, 0, 1); region_enter(WAIT, r, 5); printf("%0d\n", region_enter(NO_WAIT, r, 5)); region_exit(r, 5); region_exit(r, 5); }
--
abbrev pub given_region_exit_of_free_value_check : Row
given_region_exit_of_free_value_check = record { told = Accepted; source = (tree ((item.Program (record { line = 1; name = (codes "p"); block = (record { line = 1; decls = (record { line = 1; of = (record { line = 1; form = type_form.Integer }); variables = (record { line = 1; name = (codes "r"); bracket = bracket.None; value = None } ∷ []) } ∷ []); stmts = ((s.Step (record { line = 1; target = (post 1 (form.Name (codes "r")) []); change = (change.Assign (x.Postfix (post 1 (form.Name (codes "alloc")) (suffix.Call ((x.Postfix (post 1 (form.Name (codes "REGION")) [])) ∷ (x.Postfix (post 1 (form.Number (decimal 0)) [])) ∷ (x.Postfix (post 1 (form.Number (decimal 1)) [])) ∷ []) ∷ [])))) })) ∷ (s.Call (post 1 (form.Name (codes "region_enter")) (suffix.Call ((x.Postfix (post 1 (form.Name (codes "WAIT")) [])) ∷ (x.Postfix (post 1 (form.Name (codes "r")) [])) ∷ (x.Postfix (post 1 (form.Number (decimal 5)) [])) ∷ []) ∷ []))) ∷ (s.Call (post 1 (form.Name (codes "printf")) (suffix.Call ((x.Postfix (post 1 (form.Str (37 ∷ 48 ∷ 100 ∷ 10 ∷ [])) [])) ∷ (x.Postfix (post 1 (form.Name (codes "region_enter")) (suffix.Call ((x.Postfix (post 1 (form.Name (codes "NO_WAIT")) [])) ∷ (x.Postfix (post 1 (form.Name (codes "r")) [])) ∷ (x.Postfix (post 1 (form.Number (decimal 5)) [])) ∷ []) ∷ []))) ∷ []) ∷ []))) ∷ (s.Call (post 1 (form.Name (codes "region_exit")) (suffix.Call ((x.Postfix (post 1 (form.Name (codes "r")) [])) ∷ (x.Postfix (post 1 (form.Number (decimal 5)) [])) ∷ []) ∷ []))) ∷ (s.Call (post 1 (form.Name (codes "region_exit")) (suffix.Call ((x.Postfix (post 1 (form.Name (codes "r")) [])) ∷ (x.Postfix (post 1 (form.Number (decimal 5)) [])) ∷ []) ∷ []))) ∷ []) }) })) ∷ [])) }

-- program p { integer a; integer b; a = 0; b = 0; fork { a = a; } { b = a; } join all printf("%0d %0d\n", a, b); }
--
abbrev pub given_same_value_run_2_workers : Row
given_same_value_run_2_workers = record { told = Accepted; source = (tree ((item.Program (record { line = 1; name = (codes "p"); block = (record { line = 1; decls = (record { line = 1; of = (record { line = 1; form = type_form.Integer }); variables = (record { line = 1; name = (codes "a"); bracket = bracket.None; value = None } ∷ []) } ∷ record { line = 1; of = (record { line = 1; form = type_form.Integer }); variables = (record { line = 1; name = (codes "b"); bracket = bracket.None; value = None } ∷ []) } ∷ []); stmts = ((s.Step (record { line = 1; target = (post 1 (form.Name (codes "a")) []); change = (change.Assign (x.Postfix (post 1 (form.Number (decimal 0)) []))) })) ∷ (s.Step (record { line = 1; target = (post 1 (form.Name (codes "b")) []); change = (change.Assign (x.Postfix (post 1 (form.Number (decimal 0)) []))) })) ∷ (s.Fork (record { line = 1; branches = ((s.Block (record { line = 1; decls = []; stmts = ((s.Step (record { line = 1; target = (post 1 (form.Name (codes "a")) []); change = (change.Assign (x.Postfix (post 1 (form.Name (codes "a")) []))) })) ∷ []) })) ∷ (s.Block (record { line = 1; decls = []; stmts = ((s.Step (record { line = 1; target = (post 1 (form.Name (codes "b")) []); change = (change.Assign (x.Postfix (post 1 (form.Name (codes "a")) []))) })) ∷ []) })) ∷ []); join = join.All })) ∷ (s.Call (post 1 (form.Name (codes "printf")) (suffix.Call ((x.Postfix (post 1 (form.Str (37 ∷ 48 ∷ 100 ∷ 32 ∷ 37 ∷ 48 ∷ 100 ∷ 10 ∷ [])) [])) ∷ (x.Postfix (post 1 (form.Name (codes "a")) [])) ∷ (x.Postfix (post 1 (form.Name (codes "b")) [])) ∷ []) ∷ []))) ∷ []) }) })) ∷ [])) }

-- program p { integer a; a = 1; fork { a = 0; } { while (a == 1) a = 1; } join all }
--
abbrev pub given_stale_endless_loop_run_2_workers : Row
given_stale_endless_loop_run_2_workers = record { told = Accepted; source = (tree ((item.Program (record { line = 1; name = (codes "p"); block = (record { line = 1; decls = (record { line = 1; of = (record { line = 1; form = type_form.Integer }); variables = (record { line = 1; name = (codes "a"); bracket = bracket.None; value = None } ∷ []) } ∷ []); stmts = ((s.Step (record { line = 1; target = (post 1 (form.Name (codes "a")) []); change = (change.Assign (x.Postfix (post 1 (form.Number (decimal 1)) []))) })) ∷ (s.Fork (record { line = 1; branches = ((s.Block (record { line = 1; decls = []; stmts = ((s.Step (record { line = 1; target = (post 1 (form.Name (codes "a")) []); change = (change.Assign (x.Postfix (post 1 (form.Number (decimal 0)) []))) })) ∷ []) })) ∷ (s.Block (record { line = 1; decls = []; stmts = ((s.While (record { line = 1; condition = (x.Chain 1 (x.Postfix (post 1 (form.Name (codes "a")) [])) (record { operator = o.Equal; operand = (x.Postfix (post 1 (form.Number (decimal 1)) [])) } ∷ [])); body = (s.Step (record { line = 1; target = (post 1 (form.Name (codes "a")) []); change = (change.Assign (x.Postfix (post 1 (form.Number (decimal 1)) []))) })) })) ∷ []) })) ∷ []); join = join.All })) ∷ []) }) })) ∷ [])) }

-- program p { integer s; s = alloc(SEMAPHORE, 0, 1, 0); printf("%0d\n", semaphore_get(NO_WAIT, s, 1)); semaphore_put(s + 1, 1); }
--
abbrev pub given_semaphore_put_on_unknown_id_check : Row
given_semaphore_put_on_unknown_id_check = record { told = Accepted; source = (tree ((item.Program (record { line = 1; name = (codes "p"); block = (record { line = 1; decls = (record { line = 1; of = (record { line = 1; form = type_form.Integer }); variables = (record { line = 1; name = (codes "s"); bracket = bracket.None; value = None } ∷ []) } ∷ []); stmts = ((s.Step (record { line = 1; target = (post 1 (form.Name (codes "s")) []); change = (change.Assign (x.Postfix (post 1 (form.Name (codes "alloc")) (suffix.Call ((x.Postfix (post 1 (form.Name (codes "SEMAPHORE")) [])) ∷ (x.Postfix (post 1 (form.Number (decimal 0)) [])) ∷ (x.Postfix (post 1 (form.Number (decimal 1)) [])) ∷ (x.Postfix (post 1 (form.Number (decimal 0)) [])) ∷ []) ∷ [])))) })) ∷ (s.Call (post 1 (form.Name (codes "printf")) (suffix.Call ((x.Postfix (post 1 (form.Str (37 ∷ 48 ∷ 100 ∷ 10 ∷ [])) [])) ∷ (x.Postfix (post 1 (form.Name (codes "semaphore_get")) (suffix.Call ((x.Postfix (post 1 (form.Name (codes "NO_WAIT")) [])) ∷ (x.Postfix (post 1 (form.Name (codes "s")) [])) ∷ (x.Postfix (post 1 (form.Number (decimal 1)) [])) ∷ []) ∷ []))) ∷ []) ∷ []))) ∷ (s.Call (post 1 (form.Name (codes "semaphore_put")) (suffix.Call ((x.Chain 1 (x.Postfix (post 1 (form.Name (codes "s")) [])) (record { operator = o.Add; operand = (x.Postfix (post 1 (form.Number (decimal 1)) [])) } ∷ [])) ∷ (x.Postfix (post 1 (form.Number (decimal 1)) [])) ∷ []) ∷ []))) ∷ []) }) })) ∷ [])) }

-- function integer f() { n = n + 1; f = 1; } program p { integer n; n = 0; if (0 && f()) n = 9; if (1 || f()) n = n + 10; printf("%0d\n", n); }
--
abbrev pub given_skipped_side_of_and_or : Row
given_skipped_side_of_and_or = record { told = Accepted; source = (tree ((item.Function (record { line = 1; result = (record { line = 1; form = type_form.Integer }); name = (codes "f"); parameters = []; block = (record { line = 1; decls = []; stmts = ((s.Step (record { line = 1; target = (post 1 (form.Name (codes "n")) []); change = (change.Assign (x.Chain 1 (x.Postfix (post 1 (form.Name (codes "n")) [])) (record { operator = o.Add; operand = (x.Postfix (post 1 (form.Number (decimal 1)) [])) } ∷ []))) })) ∷ (s.Step (record { line = 1; target = (post 1 (form.Name (codes "f")) []); change = (change.Assign (x.Postfix (post 1 (form.Number (decimal 1)) []))) })) ∷ []) }) })) ∷ (item.Program (record { line = 1; name = (codes "p"); block = (record { line = 1; decls = (record { line = 1; of = (record { line = 1; form = type_form.Integer }); variables = (record { line = 1; name = (codes "n"); bracket = bracket.None; value = None } ∷ []) } ∷ []); stmts = ((s.Step (record { line = 1; target = (post 1 (form.Name (codes "n")) []); change = (change.Assign (x.Postfix (post 1 (form.Number (decimal 0)) []))) })) ∷ (s.If (record { line = 1; condition = (x.Chain 1 (x.Postfix (post 1 (form.Number (decimal 0)) [])) (record { operator = o.LogicalAnd; operand = (x.Postfix (post 1 (form.Name (codes "f")) (suffix.Call [] ∷ []))) } ∷ [])); when_true = (s.Step (record { line = 1; target = (post 1 (form.Name (codes "n")) []); change = (change.Assign (x.Postfix (post 1 (form.Number (decimal 9)) []))) })); when_false = None })) ∷ (s.If (record { line = 1; condition = (x.Chain 1 (x.Postfix (post 1 (form.Number (decimal 1)) [])) (record { operator = o.LogicalOr; operand = (x.Postfix (post 1 (form.Name (codes "f")) (suffix.Call [] ∷ []))) } ∷ [])); when_true = (s.Step (record { line = 1; target = (post 1 (form.Name (codes "n")) []); change = (change.Assign (x.Chain 1 (x.Postfix (post 1 (form.Name (codes "n")) [])) (record { operator = o.Add; operand = (x.Postfix (post 1 (form.Number (decimal 10)) [])) } ∷ []))) })); when_false = None })) ∷ (s.Call (post 1 (form.Name (codes "printf")) (suffix.Call ((x.Postfix (post 1 (form.Str (37 ∷ 48 ∷ 100 ∷ 10 ∷ [])) [])) ∷ (x.Postfix (post 1 (form.Name (codes "n")) [])) ∷ []) ∷ []))) ∷ []) }) })) ∷ [])) }

-- program p { integer i; integer s; i = 0; s = 0; while (i < 4) { s = s + i; i = i + 1; } printf("%0d\n", s - 10); }
--
abbrev pub given_sum_by_while_check : Row
given_sum_by_while_check = record { told = Accepted; source = (tree ((item.Program (record { line = 1; name = (codes "p"); block = (record { line = 1; decls = (record { line = 1; of = (record { line = 1; form = type_form.Integer }); variables = (record { line = 1; name = (codes "i"); bracket = bracket.None; value = None } ∷ []) } ∷ record { line = 1; of = (record { line = 1; form = type_form.Integer }); variables = (record { line = 1; name = (codes "s"); bracket = bracket.None; value = None } ∷ []) } ∷ []); stmts = ((s.Step (record { line = 1; target = (post 1 (form.Name (codes "i")) []); change = (change.Assign (x.Postfix (post 1 (form.Number (decimal 0)) []))) })) ∷ (s.Step (record { line = 1; target = (post 1 (form.Name (codes "s")) []); change = (change.Assign (x.Postfix (post 1 (form.Number (decimal 0)) []))) })) ∷ (s.While (record { line = 1; condition = (x.Chain 1 (x.Postfix (post 1 (form.Name (codes "i")) [])) (record { operator = o.Less; operand = (x.Postfix (post 1 (form.Number (decimal 4)) [])) } ∷ [])); body = (s.Block (record { line = 1; decls = []; stmts = ((s.Step (record { line = 1; target = (post 1 (form.Name (codes "s")) []); change = (change.Assign (x.Chain 1 (x.Postfix (post 1 (form.Name (codes "s")) [])) (record { operator = o.Add; operand = (x.Postfix (post 1 (form.Name (codes "i")) [])) } ∷ []))) })) ∷ (s.Step (record { line = 1; target = (post 1 (form.Name (codes "i")) []); change = (change.Assign (x.Chain 1 (x.Postfix (post 1 (form.Name (codes "i")) [])) (record { operator = o.Add; operand = (x.Postfix (post 1 (form.Number (decimal 1)) [])) } ∷ []))) })) ∷ []) })) })) ∷ (s.Call (post 1 (form.Name (codes "printf")) (suffix.Call ((x.Postfix (post 1 (form.Str (37 ∷ 48 ∷ 100 ∷ 10 ∷ [])) [])) ∷ (x.Chain 1 (x.Postfix (post 1 (form.Name (codes "s")) [])) (record { operator = o.Subtract; operand = (x.Postfix (post 1 (form.Number (decimal 10)) [])) } ∷ [])) ∷ []) ∷ []))) ∷ []) }) })) ∷ [])) }

-- program p { event a; event b; fork { sync(ALL, a, b); printf("all\n"); } { sync(ANY, a, b); printf("any\n"); } { trigger(b); trigger(ON, a); } join all }
--
abbrev pub given_sync_all_and_any_by_two_triggers_check : Row
given_sync_all_and_any_by_two_triggers_check = record { told = Accepted; source = (tree ((item.Program (record { line = 1; name = (codes "p"); block = (record { line = 1; decls = (record { line = 1; of = (record { line = 1; form = type_form.Event }); variables = (record { line = 1; name = (codes "a"); bracket = bracket.None; value = None } ∷ []) } ∷ record { line = 1; of = (record { line = 1; form = type_form.Event }); variables = (record { line = 1; name = (codes "b"); bracket = bracket.None; value = None } ∷ []) } ∷ []); stmts = ((s.Fork (record { line = 1; branches = ((s.Block (record { line = 1; decls = []; stmts = ((s.Call (post 1 (form.Name (codes "sync")) (suffix.Call ((x.Postfix (post 1 (form.Name (codes "ALL")) [])) ∷ (x.Postfix (post 1 (form.Name (codes "a")) [])) ∷ (x.Postfix (post 1 (form.Name (codes "b")) [])) ∷ []) ∷ []))) ∷ (s.Call (post 1 (form.Name (codes "printf")) (suffix.Call ((x.Postfix (post 1 (form.Str (97 ∷ 108 ∷ 108 ∷ 10 ∷ [])) [])) ∷ []) ∷ []))) ∷ []) })) ∷ (s.Block (record { line = 1; decls = []; stmts = ((s.Call (post 1 (form.Name (codes "sync")) (suffix.Call ((x.Postfix (post 1 (form.Name (codes "ANY")) [])) ∷ (x.Postfix (post 1 (form.Name (codes "a")) [])) ∷ (x.Postfix (post 1 (form.Name (codes "b")) [])) ∷ []) ∷ []))) ∷ (s.Call (post 1 (form.Name (codes "printf")) (suffix.Call ((x.Postfix (post 1 (form.Str (97 ∷ 110 ∷ 121 ∷ 10 ∷ [])) [])) ∷ []) ∷ []))) ∷ []) })) ∷ (s.Block (record { line = 1; decls = []; stmts = ((s.Call (post 1 (form.Name (codes "trigger")) (suffix.Call ((x.Postfix (post 1 (form.Name (codes "b")) [])) ∷ []) ∷ []))) ∷ (s.Call (post 1 (form.Name (codes "trigger")) (suffix.Call ((x.Postfix (post 1 (form.Name (codes "ON")) [])) ∷ (x.Postfix (post 1 (form.Name (codes "a")) [])) ∷ []) ∷ []))) ∷ []) })) ∷ []); join = join.All })) ∷ []) }) })) ∷ [])) }

-- program p { fork { printf("a\n"); } { printf("b\n"); } join none terminate; printf("c\n"); }
--
abbrev pub given_terminate_at_once_check : Row
given_terminate_at_once_check = record { told = Accepted; source = (tree ((item.Program (record { line = 1; name = (codes "p"); block = (record { line = 1; decls = []; stmts = ((s.Fork (record { line = 1; branches = ((s.Block (record { line = 1; decls = []; stmts = ((s.Call (post 1 (form.Name (codes "printf")) (suffix.Call ((x.Postfix (post 1 (form.Str (97 ∷ 10 ∷ [])) [])) ∷ []) ∷ []))) ∷ []) })) ∷ (s.Block (record { line = 1; decls = []; stmts = ((s.Call (post 1 (form.Name (codes "printf")) (suffix.Call ((x.Postfix (post 1 (form.Str (98 ∷ 10 ∷ [])) [])) ∷ []) ∷ []))) ∷ []) })) ∷ []); join = join.None })) ∷ (s.Terminate 1) ∷ (s.Call (post 1 (form.Name (codes "printf")) (suffix.Call ((x.Postfix (post 1 (form.Str (99 ∷ 10 ∷ [])) [])) ∷ []) ∷ []))) ∷ []) }) })) ∷ [])) }

-- program p { while (1) printf("%999d", 0); }
--
abbrev pub given_text_past_64_mib : Row
given_text_past_64_mib = record { told = Accepted; source = (tree ((item.Program (record { line = 1; name = (codes "p"); block = (record { line = 1; decls = []; stmts = ((s.While (record { line = 1; condition = (x.Postfix (post 1 (form.Number (decimal 1)) [])); body = (s.Call (post 1 (form.Name (codes "printf")) (suffix.Call ((x.Postfix (post 1 (form.Str (37 ∷ 57 ∷ 57 ∷ 57 ∷ 100 ∷ [])) [])) ∷ (x.Postfix (post 1 (form.Number (decimal 0)) [])) ∷ []) ∷ []))) })) ∷ []) }) })) ∷ [])) }

-- interface n { input clk CLOCK; output [1:0] b PHOLD #1; input [1:0] y PSAMPLE #-1; }
-- program p { n.b = 2'b01; n.b = 2'b11; @(posedge n.clk); printf("%b\n", n.y); }
--
abbrev pub given_two_drives_meet : Row
given_two_drives_meet = record { told = Accepted; source = (tree ((item.Interface (record { line = 1; name = (codes "n"); signals = (record { line = 1; direction = Input; range = None; name = (codes "clk"); kind = record { line = 1; form = Clock } } ∷ record { line = 1; direction = Output; range = (Some (record { line = 1; high = (x.Postfix (post 1 (form.Number (decimal 1)) [])); low = (x.Postfix (post 1 (form.Number (decimal 0)) [])) })); name = (codes "b"); kind = record { line = 1; form = (Timed PositiveHold (Some (record { is_negative = false; amount = (decimal 1) }))) } } ∷ record { line = 1; direction = Input; range = (Some (record { line = 1; high = (x.Postfix (post 1 (form.Number (decimal 1)) [])); low = (x.Postfix (post 1 (form.Number (decimal 0)) [])) })); name = (codes "y"); kind = record { line = 1; form = (Timed PositiveSample (Some (record { is_negative = true; amount = (decimal 1) }))) } } ∷ []) })) ∷ (item.Program (record { line = 2; name = (codes "p"); block = (record { line = 2; decls = []; stmts = ((s.Step (record { line = 2; target = (post 2 (form.Name (codes "n")) (suffix.Member (codes "b") ∷ [])); change = (change.Assign (x.Postfix (post 2 (form.Number (based (One ∷ Zero ∷ []))) []))) })) ∷ (s.Step (record { line = 2; target = (post 2 (form.Name (codes "n")) (suffix.Member (codes "b") ∷ [])); change = (change.Assign (x.Postfix (post 2 (form.Number (based (One ∷ One ∷ []))) []))) })) ∷ (s.Edge (record { line = 2; negative = false; clock = (clock.Signal (codes "n") (codes "clk")) })) ∷ (s.Call (post 2 (form.Name (codes "printf")) (suffix.Call ((x.Postfix (post 2 (form.Str (37 ∷ 98 ∷ 10 ∷ [])) [])) ∷ (x.Postfix (post 2 (form.Name (codes "n")) (suffix.Member (codes "y") ∷ []))) ∷ []) ∷ []))) ∷ []) }) })) ∷ [])) }

-- program p { while (1) fork { } join all }
--
abbrev pub given_turns_spent_check : Row
given_turns_spent_check = record { told = Accepted; source = (tree ((item.Program (record { line = 1; name = (codes "p"); block = (record { line = 1; decls = []; stmts = ((s.While (record { line = 1; condition = (x.Postfix (post 1 (form.Number (decimal 1)) [])); body = (s.Fork (record { line = 1; branches = ((s.Block (record { line = 1; decls = []; stmts = [] })) ∷ []); join = join.All })) })) ∷ []) }) })) ∷ [])) }

-- interface t {
--   input clk CLOCK;
--   output a PHOLD #1;
--   input q PSAMPLE #-1;
--   input y PSAMPLE #-1;
-- }
-- program p { integer n; @n t.a = 1; }
--
abbrev pub given_unknown_delay : Row
given_unknown_delay = record { told = Accepted; source = (tree ((item.Interface (record { line = 1; name = (codes "t"); signals = (record { line = 2; direction = Input; range = None; name = (codes "clk"); kind = record { line = 2; form = Clock } } ∷ record { line = 3; direction = Output; range = None; name = (codes "a"); kind = record { line = 3; form = (Timed PositiveHold (Some (record { is_negative = false; amount = (decimal 1) }))) } } ∷ record { line = 4; direction = Input; range = None; name = (codes "q"); kind = record { line = 4; form = (Timed PositiveSample (Some (record { is_negative = true; amount = (decimal 1) }))) } } ∷ record { line = 5; direction = Input; range = None; name = (codes "y"); kind = record { line = 5; form = (Timed PositiveSample (Some (record { is_negative = true; amount = (decimal 1) }))) } } ∷ []) })) ∷ (item.Program (record { line = 7; name = (codes "p"); block = (record { line = 7; decls = (record { line = 7; of = (record { line = 7; form = type_form.Integer }); variables = (record { line = 7; name = (codes "n"); bracket = bracket.None; value = None } ∷ []) } ∷ []); stmts = ((s.Drive (record { line = 7; delay = (Some (record { line = 7; form = (delay_form.Name (codes "n")) })); signal = (post 7 (form.Name (codes "t")) (suffix.Member (codes "a") ∷ [])); operator = Plain; value = (x.Postfix (post 7 (form.Number (decimal 1)) [])) })) ∷ []) }) })) ∷ [])) }

-- program p { integer a; while (a < 1) a = 0; printf("%0d\n", a); }
--
abbrev pub given_unknown_loop_test : Row
given_unknown_loop_test = record { told = Accepted; source = (tree ((item.Program (record { line = 1; name = (codes "p"); block = (record { line = 1; decls = (record { line = 1; of = (record { line = 1; form = type_form.Integer }); variables = (record { line = 1; name = (codes "a"); bracket = bracket.None; value = None } ∷ []) } ∷ []); stmts = ((s.While (record { line = 1; condition = (x.Chain 1 (x.Postfix (post 1 (form.Name (codes "a")) [])) (record { operator = o.Less; operand = (x.Postfix (post 1 (form.Number (decimal 1)) [])) } ∷ [])); body = (s.Step (record { line = 1; target = (post 1 (form.Name (codes "a")) []); change = (change.Assign (x.Postfix (post 1 (form.Number (decimal 0)) []))) })) })) ∷ (s.Call (post 1 (form.Name (codes "printf")) (suffix.Call ((x.Postfix (post 1 (form.Str (37 ∷ 48 ∷ 100 ∷ 10 ∷ [])) [])) ∷ (x.Postfix (post 1 (form.Name (codes "a")) [])) ∷ []) ∷ []))) ∷ []) }) })) ∷ [])) }

-- program p { integer a;
-- a = b + c; }
--
abbrev pub given_unknown_name_check : Row
given_unknown_name_check = record { told = Refused 30 2; source = (tree ((item.Program (record { line = 1; name = (codes "p"); block = (record { line = 1; decls = (record { line = 1; of = (record { line = 1; form = type_form.Integer }); variables = (record { line = 1; name = (codes "a"); bracket = bracket.None; value = None } ∷ []) } ∷ []); stmts = ((s.Step (record { line = 2; target = (post 2 (form.Name (codes "a")) []); change = (change.Assign (x.Chain 2 (x.Postfix (post 2 (form.Name (codes "b")) [])) (record { operator = o.Add; operand = (x.Postfix (post 2 (form.Name (codes "c")) [])) } ∷ []))) })) ∷ []) }) })) ∷ [])) }

-- program p { printf("%b %h\n", 4'b10x1 + 4'b0001, 128'hffffffffffffffffffffffffffffffff + 1); }
--
abbrev pub given_vectors_unknown_and_widest : Row
given_vectors_unknown_and_widest = record { told = Accepted; source = (tree ((item.Program (record { line = 1; name = (codes "p"); block = (record { line = 1; decls = []; stmts = ((s.Call (post 1 (form.Name (codes "printf")) (suffix.Call ((x.Postfix (post 1 (form.Str (37 ∷ 98 ∷ 32 ∷ 37 ∷ 104 ∷ 10 ∷ [])) [])) ∷ (x.Chain 1 (x.Postfix (post 1 (form.Number (based (One ∷ X ∷ Zero ∷ One ∷ []))) [])) (record { operator = o.Add; operand = (x.Postfix (post 1 (form.Number (based (One ∷ Zero ∷ Zero ∷ Zero ∷ []))) [])) } ∷ [])) ∷ (x.Chain 1 (x.Postfix (post 1 (form.Number (based (One ∷ One ∷ One ∷ One ∷ One ∷ One ∷ One ∷ One ∷ One ∷ One ∷ One ∷ One ∷ One ∷ One ∷ One ∷ One ∷ One ∷ One ∷ One ∷ One ∷ One ∷ One ∷ One ∷ One ∷ One ∷ One ∷ One ∷ One ∷ One ∷ One ∷ One ∷ One ∷ One ∷ One ∷ One ∷ One ∷ One ∷ One ∷ One ∷ One ∷ One ∷ One ∷ One ∷ One ∷ One ∷ One ∷ One ∷ One ∷ One ∷ One ∷ One ∷ One ∷ One ∷ One ∷ One ∷ One ∷ One ∷ One ∷ One ∷ One ∷ One ∷ One ∷ One ∷ One ∷ One ∷ One ∷ One ∷ One ∷ One ∷ One ∷ One ∷ One ∷ One ∷ One ∷ One ∷ One ∷ One ∷ One ∷ One ∷ One ∷ One ∷ One ∷ One ∷ One ∷ One ∷ One ∷ One ∷ One ∷ One ∷ One ∷ One ∷ One ∷ One ∷ One ∷ One ∷ One ∷ One ∷ One ∷ One ∷ One ∷ One ∷ One ∷ One ∷ One ∷ One ∷ One ∷ One ∷ One ∷ One ∷ One ∷ One ∷ One ∷ One ∷ One ∷ One ∷ One ∷ One ∷ One ∷ One ∷ One ∷ One ∷ One ∷ One ∷ One ∷ One ∷ One ∷ One ∷ One ∷ []))) [])) (record { operator = o.Add; operand = (x.Postfix (post 1 (form.Number (decimal 1)) [])) } ∷ [])) ∷ []) ∷ []))) ∷ []) }) })) ∷ [])) }

-- program p { fork { @(posedge CLOCK); printf("k\n"); } join none wait_child(); printf("m\n"); }
--
abbrev pub given_wait_child_over_an_edge_check : Row
given_wait_child_over_an_edge_check = record { told = Accepted; source = (tree ((item.Program (record { line = 1; name = (codes "p"); block = (record { line = 1; decls = []; stmts = ((s.Fork (record { line = 1; branches = ((s.Block (record { line = 1; decls = []; stmts = ((s.Edge (record { line = 1; negative = false; clock = clock.Clock })) ∷ (s.Call (post 1 (form.Name (codes "printf")) (suffix.Call ((x.Postfix (post 1 (form.Str (107 ∷ 10 ∷ [])) [])) ∷ []) ∷ []))) ∷ []) })) ∷ []); join = join.None })) ∷ (s.Call (post 1 (form.Name (codes "wait_child")) (suffix.Call [] ∷ []))) ∷ (s.Call (post 1 (form.Name (codes "printf")) (suffix.Call ((x.Postfix (post 1 (form.Str (109 ∷ 10 ∷ [])) [])) ∷ []) ∷ []))) ∷ []) }) })) ∷ [])) }

-- program p { integer v; v = 0; fork { wait_var(v); printf("w %0d\n", v); } { v = 5; v = 0; } { v = 3; } join all }
--
abbrev pub given_wait_var_sees_end_of_slice_check : Row
given_wait_var_sees_end_of_slice_check = record { told = Accepted; source = (tree ((item.Program (record { line = 1; name = (codes "p"); block = (record { line = 1; decls = (record { line = 1; of = (record { line = 1; form = type_form.Integer }); variables = (record { line = 1; name = (codes "v"); bracket = bracket.None; value = None } ∷ []) } ∷ []); stmts = ((s.Step (record { line = 1; target = (post 1 (form.Name (codes "v")) []); change = (change.Assign (x.Postfix (post 1 (form.Number (decimal 0)) []))) })) ∷ (s.Fork (record { line = 1; branches = ((s.Block (record { line = 1; decls = []; stmts = ((s.Call (post 1 (form.Name (codes "wait_var")) (suffix.Call ((x.Postfix (post 1 (form.Name (codes "v")) [])) ∷ []) ∷ []))) ∷ (s.Call (post 1 (form.Name (codes "printf")) (suffix.Call ((x.Postfix (post 1 (form.Str (119 ∷ 32 ∷ 37 ∷ 48 ∷ 100 ∷ 10 ∷ [])) [])) ∷ (x.Postfix (post 1 (form.Name (codes "v")) [])) ∷ []) ∷ []))) ∷ []) })) ∷ (s.Block (record { line = 1; decls = []; stmts = ((s.Step (record { line = 1; target = (post 1 (form.Name (codes "v")) []); change = (change.Assign (x.Postfix (post 1 (form.Number (decimal 5)) []))) })) ∷ (s.Step (record { line = 1; target = (post 1 (form.Name (codes "v")) []); change = (change.Assign (x.Postfix (post 1 (form.Number (decimal 0)) []))) })) ∷ []) })) ∷ (s.Block (record { line = 1; decls = []; stmts = ((s.Step (record { line = 1; target = (post 1 (form.Name (codes "v")) []); change = (change.Assign (x.Postfix (post 1 (form.Number (decimal 3)) []))) })) ∷ []) })) ∷ []); join = join.All })) ∷ []) }) })) ∷ [])) }

abbrev pub given_rows_2 : List Row
given_rows_2 = given_product_check ∷ given_replay_reruns_stale_packet ∷ given_region_exit_of_free_value_check ∷ given_same_value_run_2_workers ∷ given_stale_endless_loop_run_2_workers ∷ given_semaphore_put_on_unknown_id_check ∷ given_skipped_side_of_and_or ∷ given_sum_by_while_check ∷ given_sync_all_and_any_by_two_triggers_check ∷ given_terminate_at_once_check ∷ given_text_past_64_mib ∷ given_two_drives_meet ∷ given_turns_spent_check ∷ given_unknown_delay ∷ given_unknown_loop_test ∷ given_unknown_name_check ∷ given_vectors_unknown_and_widest ∷ given_wait_child_over_an_edge_check ∷ given_wait_var_sees_end_of_slice_check ∷ []
