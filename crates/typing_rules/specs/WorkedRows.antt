-- Sources that are worked out by hand.
use Rattle.std.specs.Prelude.{false, List, [], ◌∷◌, Some, None, codes}
use Rattle.four_state.specs.declared.bit.Bit.TheVariants.{Zero, One, X}
use Rattle.vera_ast.specs.declared.tree.declarations.Bracket.TheVariants as bracket
use Rattle.vera_ast.specs.declared.tree.declarations.TypeForm.TheVariants as type_form
use Rattle.vera_ast.specs.declared.tree.expressions.ChainOperator.TheVariants as o
use Rattle.vera_ast.specs.declared.tree.expressions.Expr.TheVariants as x
use Rattle.vera_ast.specs.declared.tree.expressions.PrimaryForm.TheVariants as form
use Rattle.vera_ast.specs.declared.tree.expressions.Suffix.TheVariants as suffix
use Rattle.vera_ast.specs.declared.tree.items.Item.TheVariants as item
use Rattle.vera_ast.specs.declared.tree.statements.Change.TheVariants as change
use Rattle.vera_ast.specs.declared.tree.statements.DelayForm.TheVariants as delay_form
use Rattle.vera_ast.specs.declared.tree.statements.DriveOperator.TheVariants.{Assign as Plain}
use Rattle.vera_ast.specs.declared.tree.statements.EdgeClock.TheVariants as clock
use Rattle.vera_ast.specs.declared.tree.statements.Join.TheVariants as join
use Rattle.vera_ast.specs.declared.tree.statements.Stmt.TheVariants as s
use Rattle.typing_rules.specs.Sources.{tree, post, decimal, based}
use Rattle.typing_rules.specs.Told.{Row, Accepted, Refused}

-- program p { }
abbrev pub worked_empty : Row
worked_empty = record { told = Accepted; source = (tree ((item.Program (record { line = 1; name = (codes "p"); block = (record { line = 1; decls = []; stmts = [] }) })) ∷ [])) }

-- program p { printf("%b %h\n", 4'b10x1 + 4'b0001, 128'hffffffffffffffffffffffffffffffff + 1); }
abbrev pub worked_vectors : Row
worked_vectors = record { told = Accepted; source = (tree ((item.Program (record { line = 1; name = (codes "p"); block = (record { line = 1; decls = []; stmts = ((s.Call (post 1 (form.Name (codes "printf")) (suffix.Call ((x.Postfix (post 1 (form.Str (37 ∷ 98 ∷ 32 ∷ 37 ∷ 104 ∷ 10 ∷ [])) [])) ∷ (x.Chain 1 (x.Postfix (post 1 (form.Number (based (One ∷ X ∷ Zero ∷ One ∷ []))) [])) (record { operator = o.Add; operand = (x.Postfix (post 1 (form.Number (based (One ∷ Zero ∷ Zero ∷ Zero ∷ []))) [])) } ∷ [])) ∷ (x.Chain 1 (x.Postfix (post 1 (form.Number (based (One ∷ One ∷ One ∷ One ∷ One ∷ One ∷ One ∷ One ∷ One ∷ One ∷ One ∷ One ∷ One ∷ One ∷ One ∷ One ∷ One ∷ One ∷ One ∷ One ∷ One ∷ One ∷ One ∷ One ∷ One ∷ One ∷ One ∷ One ∷ One ∷ One ∷ One ∷ One ∷ One ∷ One ∷ One ∷ One ∷ One ∷ One ∷ One ∷ One ∷ One ∷ One ∷ One ∷ One ∷ One ∷ One ∷ One ∷ One ∷ One ∷ One ∷ One ∷ One ∷ One ∷ One ∷ One ∷ One ∷ One ∷ One ∷ One ∷ One ∷ One ∷ One ∷ One ∷ One ∷ One ∷ One ∷ One ∷ One ∷ One ∷ One ∷ One ∷ One ∷ One ∷ One ∷ One ∷ One ∷ One ∷ One ∷ One ∷ One ∷ One ∷ One ∷ One ∷ One ∷ One ∷ One ∷ One ∷ One ∷ One ∷ One ∷ One ∷ One ∷ One ∷ One ∷ One ∷ One ∷ One ∷ One ∷ One ∷ One ∷ One ∷ One ∷ One ∷ One ∷ One ∷ One ∷ One ∷ One ∷ One ∷ One ∷ One ∷ One ∷ One ∷ One ∷ One ∷ One ∷ One ∷ One ∷ One ∷ One ∷ One ∷ One ∷ One ∷ One ∷ One ∷ One ∷ One ∷ One ∷ []))) [])) (record { operator = o.Add; operand = (x.Postfix (post 1 (form.Number (decimal 1)) [])) } ∷ [])) ∷ []) ∷ []))) ∷ []) }) })) ∷ [])) }

-- program p { fork { printf("a\n"); } { printf("b\n"); } join any printf("c\n"); }
abbrev pub worked_join_any : Row
worked_join_any = record { told = Accepted; source = (tree ((item.Program (record { line = 1; name = (codes "p"); block = (record { line = 1; decls = []; stmts = ((s.Fork (record { line = 1; branches = ((s.Block (record { line = 1; decls = []; stmts = ((s.Call (post 1 (form.Name (codes "printf")) (suffix.Call ((x.Postfix (post 1 (form.Str (97 ∷ 10 ∷ [])) [])) ∷ []) ∷ []))) ∷ []) })) ∷ (s.Block (record { line = 1; decls = []; stmts = ((s.Call (post 1 (form.Name (codes "printf")) (suffix.Call ((x.Postfix (post 1 (form.Str (98 ∷ 10 ∷ [])) [])) ∷ []) ∷ []))) ∷ []) })) ∷ []); join = join.Any })) ∷ (s.Call (post 1 (form.Name (codes "printf")) (suffix.Call ((x.Postfix (post 1 (form.Str (99 ∷ 10 ∷ [])) [])) ∷ []) ∷ []))) ∷ []) }) })) ∷ [])) }

-- program p { event e; trigger(HAND_SHAKE, e); trigger(HAND_SHAKE, e); fork { sync(ANY, e); printf("one\n"); } { sync(ANY, e); printf("two\n"); } join none }
abbrev pub worked_hand_shake : Row
worked_hand_shake = record { told = Accepted; source = (tree ((item.Program (record { line = 1; name = (codes "p"); block = (record { line = 1; decls = (record { line = 1; of = (record { line = 1; form = type_form.Event }); variables = (record { line = 1; name = (codes "e"); bracket = bracket.None; value = None } ∷ []) } ∷ []); stmts = ((s.Call (post 1 (form.Name (codes "trigger")) (suffix.Call ((x.Postfix (post 1 (form.Name (codes "HAND_SHAKE")) [])) ∷ (x.Postfix (post 1 (form.Name (codes "e")) [])) ∷ []) ∷ []))) ∷ (s.Call (post 1 (form.Name (codes "trigger")) (suffix.Call ((x.Postfix (post 1 (form.Name (codes "HAND_SHAKE")) [])) ∷ (x.Postfix (post 1 (form.Name (codes "e")) [])) ∷ []) ∷ []))) ∷ (s.Fork (record { line = 1; branches = ((s.Block (record { line = 1; decls = []; stmts = ((s.Call (post 1 (form.Name (codes "sync")) (suffix.Call ((x.Postfix (post 1 (form.Name (codes "ANY")) [])) ∷ (x.Postfix (post 1 (form.Name (codes "e")) [])) ∷ []) ∷ []))) ∷ (s.Call (post 1 (form.Name (codes "printf")) (suffix.Call ((x.Postfix (post 1 (form.Str (111 ∷ 110 ∷ 101 ∷ 10 ∷ [])) [])) ∷ []) ∷ []))) ∷ []) })) ∷ (s.Block (record { line = 1; decls = []; stmts = ((s.Call (post 1 (form.Name (codes "sync")) (suffix.Call ((x.Postfix (post 1 (form.Name (codes "ANY")) [])) ∷ (x.Postfix (post 1 (form.Name (codes "e")) [])) ∷ []) ∷ []))) ∷ (s.Call (post 1 (form.Name (codes "printf")) (suffix.Call ((x.Postfix (post 1 (form.Str (116 ∷ 119 ∷ 111 ∷ 10 ∷ [])) [])) ∷ []) ∷ []))) ∷ []) })) ∷ []); join = join.None })) ∷ []) }) })) ∷ [])) }

-- program p { integer a; integer b; a = 0; b = 0; fork { a = a + 1; } { b = a; } join all printf("%0d %0d\n", a, b); }
abbrev pub worked_rerun : Row
worked_rerun = record { told = Accepted; source = (tree ((item.Program (record { line = 1; name = (codes "p"); block = (record { line = 1; decls = (record { line = 1; of = (record { line = 1; form = type_form.Integer }); variables = (record { line = 1; name = (codes "a"); bracket = bracket.None; value = None } ∷ []) } ∷ record { line = 1; of = (record { line = 1; form = type_form.Integer }); variables = (record { line = 1; name = (codes "b"); bracket = bracket.None; value = None } ∷ []) } ∷ []); stmts = ((s.Step (record { line = 1; target = (post 1 (form.Name (codes "a")) []); change = (change.Assign (x.Postfix (post 1 (form.Number (decimal 0)) []))) })) ∷ (s.Step (record { line = 1; target = (post 1 (form.Name (codes "b")) []); change = (change.Assign (x.Postfix (post 1 (form.Number (decimal 0)) []))) })) ∷ (s.Fork (record { line = 1; branches = ((s.Block (record { line = 1; decls = []; stmts = ((s.Step (record { line = 1; target = (post 1 (form.Name (codes "a")) []); change = (change.Assign (x.Chain 1 (x.Postfix (post 1 (form.Name (codes "a")) [])) (record { operator = o.Add; operand = (x.Postfix (post 1 (form.Number (decimal 1)) [])) } ∷ []))) })) ∷ []) })) ∷ (s.Block (record { line = 1; decls = []; stmts = ((s.Step (record { line = 1; target = (post 1 (form.Name (codes "b")) []); change = (change.Assign (x.Postfix (post 1 (form.Name (codes "a")) []))) })) ∷ []) })) ∷ []); join = join.All })) ∷ (s.Call (post 1 (form.Name (codes "printf")) (suffix.Call ((x.Postfix (post 1 (form.Str (37 ∷ 48 ∷ 100 ∷ 32 ∷ 37 ∷ 48 ∷ 100 ∷ 10 ∷ [])) [])) ∷ (x.Postfix (post 1 (form.Name (codes "a")) [])) ∷ (x.Postfix (post 1 (form.Name (codes "b")) [])) ∷ []) ∷ []))) ∷ []) }) })) ∷ [])) }

-- program p { integer a; a = 1; fork { a = 0; } { while (a == 1) a = 1; } join all }
abbrev pub worked_stale_loop : Row
worked_stale_loop = record { told = Accepted; source = (tree ((item.Program (record { line = 1; name = (codes "p"); block = (record { line = 1; decls = (record { line = 1; of = (record { line = 1; form = type_form.Integer }); variables = (record { line = 1; name = (codes "a"); bracket = bracket.None; value = None } ∷ []) } ∷ []); stmts = ((s.Step (record { line = 1; target = (post 1 (form.Name (codes "a")) []); change = (change.Assign (x.Postfix (post 1 (form.Number (decimal 1)) []))) })) ∷ (s.Fork (record { line = 1; branches = ((s.Block (record { line = 1; decls = []; stmts = ((s.Step (record { line = 1; target = (post 1 (form.Name (codes "a")) []); change = (change.Assign (x.Postfix (post 1 (form.Number (decimal 0)) []))) })) ∷ []) })) ∷ (s.Block (record { line = 1; decls = []; stmts = ((s.While (record { line = 1; condition = (x.Chain 1 (x.Postfix (post 1 (form.Name (codes "a")) [])) (record { operator = o.Equal; operand = (x.Postfix (post 1 (form.Number (decimal 1)) [])) } ∷ [])); body = (s.Step (record { line = 1; target = (post 1 (form.Name (codes "a")) []); change = (change.Assign (x.Postfix (post 1 (form.Number (decimal 1)) []))) })) })) ∷ []) })) ∷ []); join = join.All })) ∷ []) }) })) ∷ [])) }

-- program p { integer s; s = alloc(SEMAPHORE, 0, 1, 1); fork { semaphore_get(WAIT, s, 2); printf("a\n"); } { semaphore_get(WAIT, s, 1); printf("b\n"); } { semaphore_put(s, 1); } join all }
abbrev pub worked_oldest_waiter : Row
worked_oldest_waiter = record { told = Accepted; source = (tree ((item.Program (record { line = 1; name = (codes "p"); block = (record { line = 1; decls = (record { line = 1; of = (record { line = 1; form = type_form.Integer }); variables = (record { line = 1; name = (codes "s"); bracket = bracket.None; value = None } ∷ []) } ∷ []); stmts = ((s.Step (record { line = 1; target = (post 1 (form.Name (codes "s")) []); change = (change.Assign (x.Postfix (post 1 (form.Name (codes "alloc")) (suffix.Call ((x.Postfix (post 1 (form.Name (codes "SEMAPHORE")) [])) ∷ (x.Postfix (post 1 (form.Number (decimal 0)) [])) ∷ (x.Postfix (post 1 (form.Number (decimal 1)) [])) ∷ (x.Postfix (post 1 (form.Number (decimal 1)) [])) ∷ []) ∷ [])))) })) ∷ (s.Fork (record { line = 1; branches = ((s.Block (record { line = 1; decls = []; stmts = ((s.Call (post 1 (form.Name (codes "semaphore_get")) (suffix.Call ((x.Postfix (post 1 (form.Name (codes "WAIT")) [])) ∷ (x.Postfix (post 1 (form.Name (codes "s")) [])) ∷ (x.Postfix (post 1 (form.Number (decimal 2)) [])) ∷ []) ∷ []))) ∷ (s.Call (post 1 (form.Name (codes "printf")) (suffix.Call ((x.Postfix (post 1 (form.Str (97 ∷ 10 ∷ [])) [])) ∷ []) ∷ []))) ∷ []) })) ∷ (s.Block (record { line = 1; decls = []; stmts = ((s.Call (post 1 (form.Name (codes "semaphore_get")) (suffix.Call ((x.Postfix (post 1 (form.Name (codes "WAIT")) [])) ∷ (x.Postfix (post 1 (form.Name (codes "s")) [])) ∷ (x.Postfix (post 1 (form.Number (decimal 1)) [])) ∷ []) ∷ []))) ∷ (s.Call (post 1 (form.Name (codes "printf")) (suffix.Call ((x.Postfix (post 1 (form.Str (98 ∷ 10 ∷ [])) [])) ∷ []) ∷ []))) ∷ []) })) ∷ (s.Block (record { line = 1; decls = []; stmts = ((s.Call (post 1 (form.Name (codes "semaphore_put")) (suffix.Call ((x.Postfix (post 1 (form.Name (codes "s")) [])) ∷ (x.Postfix (post 1 (form.Number (decimal 1)) [])) ∷ []) ∷ []))) ∷ []) })) ∷ []); join = join.All })) ∷ []) }) })) ∷ [])) }

-- program p { event e; fork { sync(ANY, e); printf("dead\n"); } join none @(posedge CLOCK); terminate; trigger(HAND_SHAKE, e); fork { sync(ANY, e); printf("live\n"); } join all }
abbrev pub worked_dead_waiter : Row
worked_dead_waiter = record { told = Accepted; source = (tree ((item.Program (record { line = 1; name = (codes "p"); block = (record { line = 1; decls = (record { line = 1; of = (record { line = 1; form = type_form.Event }); variables = (record { line = 1; name = (codes "e"); bracket = bracket.None; value = None } ∷ []) } ∷ []); stmts = ((s.Fork (record { line = 1; branches = ((s.Block (record { line = 1; decls = []; stmts = ((s.Call (post 1 (form.Name (codes "sync")) (suffix.Call ((x.Postfix (post 1 (form.Name (codes "ANY")) [])) ∷ (x.Postfix (post 1 (form.Name (codes "e")) [])) ∷ []) ∷ []))) ∷ (s.Call (post 1 (form.Name (codes "printf")) (suffix.Call ((x.Postfix (post 1 (form.Str (100 ∷ 101 ∷ 97 ∷ 100 ∷ 10 ∷ [])) [])) ∷ []) ∷ []))) ∷ []) })) ∷ []); join = join.None })) ∷ (s.Edge (record { line = 1; negative = false; clock = clock.Clock })) ∷ (s.Terminate 1) ∷ (s.Call (post 1 (form.Name (codes "trigger")) (suffix.Call ((x.Postfix (post 1 (form.Name (codes "HAND_SHAKE")) [])) ∷ (x.Postfix (post 1 (form.Name (codes "e")) [])) ∷ []) ∷ []))) ∷ (s.Fork (record { line = 1; branches = ((s.Block (record { line = 1; decls = []; stmts = ((s.Call (post 1 (form.Name (codes "sync")) (suffix.Call ((x.Postfix (post 1 (form.Name (codes "ANY")) [])) ∷ (x.Postfix (post 1 (form.Name (codes "e")) [])) ∷ []) ∷ []))) ∷ (s.Call (post 1 (form.Name (codes "printf")) (suffix.Call ((x.Postfix (post 1 (form.Str (108 ∷ 105 ∷ 118 ∷ 101 ∷ 10 ∷ [])) [])) ∷ []) ∷ []))) ∷ []) })) ∷ []); join = join.All })) ∷ []) }) })) ∷ [])) }

-- function integer f() { n = n + 1; f = 1; } program p { integer n; n = 0; if (0 && f()) n = 9; if (1 || f()) n = n + 10; printf("%0d\n", n); }
abbrev pub worked_skipped_side : Row
worked_skipped_side = record { told = Accepted; source = (tree ((item.Function (record { line = 1; result = (record { line = 1; form = type_form.Integer }); name = (codes "f"); parameters = []; block = (record { line = 1; decls = []; stmts = ((s.Step (record { line = 1; target = (post 1 (form.Name (codes "n")) []); change = (change.Assign (x.Chain 1 (x.Postfix (post 1 (form.Name (codes "n")) [])) (record { operator = o.Add; operand = (x.Postfix (post 1 (form.Number (decimal 1)) [])) } ∷ []))) })) ∷ (s.Step (record { line = 1; target = (post 1 (form.Name (codes "f")) []); change = (change.Assign (x.Postfix (post 1 (form.Number (decimal 1)) []))) })) ∷ []) }) })) ∷ (item.Program (record { line = 1; name = (codes "p"); block = (record { line = 1; decls = (record { line = 1; of = (record { line = 1; form = type_form.Integer }); variables = (record { line = 1; name = (codes "n"); bracket = bracket.None; value = None } ∷ []) } ∷ []); stmts = ((s.Step (record { line = 1; target = (post 1 (form.Name (codes "n")) []); change = (change.Assign (x.Postfix (post 1 (form.Number (decimal 0)) []))) })) ∷ (s.If (record { line = 1; condition = (x.Chain 1 (x.Postfix (post 1 (form.Number (decimal 0)) [])) (record { operator = o.LogicalAnd; operand = (x.Postfix (post 1 (form.Name (codes "f")) (suffix.Call [] ∷ []))) } ∷ [])); when_true = (s.Step (record { line = 1; target = (post 1 (form.Name (codes "n")) []); change = (change.Assign (x.Postfix (post 1 (form.Number (decimal 9)) []))) })); when_false = None })) ∷ (s.If (record { line = 1; condition = (x.Chain 1 (x.Postfix (post 1 (form.Number (decimal 1)) [])) (record { operator = o.LogicalOr; operand = (x.Postfix (post 1 (form.Name (codes "f")) (suffix.Call [] ∷ []))) } ∷ [])); when_true = (s.Step (record { line = 1; target = (post 1 (form.Name (codes "n")) []); change = (change.Assign (x.Chain 1 (x.Postfix (post 1 (form.Name (codes "n")) [])) (record { operator = o.Add; operand = (x.Postfix (post 1 (form.Number (decimal 10)) [])) } ∷ []))) })); when_false = None })) ∷ (s.Call (post 1 (form.Name (codes "printf")) (suffix.Call ((x.Postfix (post 1 (form.Str (37 ∷ 48 ∷ 100 ∷ 10 ∷ [])) [])) ∷ (x.Postfix (post 1 (form.Name (codes "n")) [])) ∷ []) ∷ []))) ∷ []) }) })) ∷ [])) }

-- program p { integer v; v = 0; fork { wait_var(v); printf("w %0d\n", v); } { v = 5; v = 0; } { v = 3; } join all }
abbrev pub worked_wait_var : Row
worked_wait_var = record { told = Accepted; source = (tree ((item.Program (record { line = 1; name = (codes "p"); block = (record { line = 1; decls = (record { line = 1; of = (record { line = 1; form = type_form.Integer }); variables = (record { line = 1; name = (codes "v"); bracket = bracket.None; value = None } ∷ []) } ∷ []); stmts = ((s.Step (record { line = 1; target = (post 1 (form.Name (codes "v")) []); change = (change.Assign (x.Postfix (post 1 (form.Number (decimal 0)) []))) })) ∷ (s.Fork (record { line = 1; branches = ((s.Block (record { line = 1; decls = []; stmts = ((s.Call (post 1 (form.Name (codes "wait_var")) (suffix.Call ((x.Postfix (post 1 (form.Name (codes "v")) [])) ∷ []) ∷ []))) ∷ (s.Call (post 1 (form.Name (codes "printf")) (suffix.Call ((x.Postfix (post 1 (form.Str (119 ∷ 32 ∷ 37 ∷ 48 ∷ 100 ∷ 10 ∷ [])) [])) ∷ (x.Postfix (post 1 (form.Name (codes "v")) [])) ∷ []) ∷ []))) ∷ []) })) ∷ (s.Block (record { line = 1; decls = []; stmts = ((s.Step (record { line = 1; target = (post 1 (form.Name (codes "v")) []); change = (change.Assign (x.Postfix (post 1 (form.Number (decimal 5)) []))) })) ∷ (s.Step (record { line = 1; target = (post 1 (form.Name (codes "v")) []); change = (change.Assign (x.Postfix (post 1 (form.Number (decimal 0)) []))) })) ∷ []) })) ∷ (s.Block (record { line = 1; decls = []; stmts = ((s.Step (record { line = 1; target = (post 1 (form.Name (codes "v")) []); change = (change.Assign (x.Postfix (post 1 (form.Number (decimal 3)) []))) })) ∷ []) })) ∷ []); join = join.All })) ∷ []) }) })) ∷ [])) }

-- program p { integer r; r = alloc(REGION, 0, 1); region_enter(WAIT, r, 5); printf("%0d\n", region_enter(NO_WAIT, r, 5)); region_exit(r, 5); region_exit(r, 5); }
abbrev pub worked_region : Row
worked_region = record { told = Accepted; source = (tree ((item.Program (record { line = 1; name = (codes "p"); block = (record { line = 1; decls = (record { line = 1; of = (record { line = 1; form = type_form.Integer }); variables = (record { line = 1; name = (codes "r"); bracket = bracket.None; value = None } ∷ []) } ∷ []); stmts = ((s.Step (record { line = 1; target = (post 1 (form.Name (codes "r")) []); change = (change.Assign (x.Postfix (post 1 (form.Name (codes "alloc")) (suffix.Call ((x.Postfix (post 1 (form.Name (codes "REGION")) [])) ∷ (x.Postfix (post 1 (form.Number (decimal 0)) [])) ∷ (x.Postfix (post 1 (form.Number (decimal 1)) [])) ∷ []) ∷ [])))) })) ∷ (s.Call (post 1 (form.Name (codes "region_enter")) (suffix.Call ((x.Postfix (post 1 (form.Name (codes "WAIT")) [])) ∷ (x.Postfix (post 1 (form.Name (codes "r")) [])) ∷ (x.Postfix (post 1 (form.Number (decimal 5)) [])) ∷ []) ∷ []))) ∷ (s.Call (post 1 (form.Name (codes "printf")) (suffix.Call ((x.Postfix (post 1 (form.Str (37 ∷ 48 ∷ 100 ∷ 10 ∷ [])) [])) ∷ (x.Postfix (post 1 (form.Name (codes "region_enter")) (suffix.Call ((x.Postfix (post 1 (form.Name (codes "NO_WAIT")) [])) ∷ (x.Postfix (post 1 (form.Name (codes "r")) [])) ∷ (x.Postfix (post 1 (form.Number (decimal 5)) [])) ∷ []) ∷ []))) ∷ []) ∷ []))) ∷ (s.Call (post 1 (form.Name (codes "region_exit")) (suffix.Call ((x.Postfix (post 1 (form.Name (codes "r")) [])) ∷ (x.Postfix (post 1 (form.Number (decimal 5)) [])) ∷ []) ∷ []))) ∷ (s.Call (post 1 (form.Name (codes "region_exit")) (suffix.Call ((x.Postfix (post 1 (form.Name (codes "r")) [])) ∷ (x.Postfix (post 1 (form.Number (decimal 5)) [])) ∷ []) ∷ []))) ∷ []) }) })) ∷ [])) }

-- program p { integer a;
-- a = b + c; }
abbrev pub worked_unknown : Row
worked_unknown = record { told = Refused 30 2; source = (tree ((item.Program (record { line = 1; name = (codes "p"); block = (record { line = 1; decls = (record { line = 1; of = (record { line = 1; form = type_form.Integer }); variables = (record { line = 1; name = (codes "a"); bracket = bracket.None; value = None } ∷ []) } ∷ []); stmts = ((s.Step (record { line = 2; target = (post 2 (form.Name (codes "a")) []); change = (change.Assign (x.Chain 2 (x.Postfix (post 2 (form.Name (codes "b")) [])) (record { operator = o.Add; operand = (x.Postfix (post 2 (form.Name (codes "c")) [])) } ∷ []))) })) ∷ []) }) })) ∷ [])) }

-- program p { integer a, a; a = "s"; }
abbrev pub worked_twice : Row
worked_twice = record { told = Refused 31 1; source = (tree ((item.Program (record { line = 1; name = (codes "p"); block = (record { line = 1; decls = (record { line = 1; of = (record { line = 1; form = type_form.Integer }); variables = (record { line = 1; name = (codes "a"); bracket = bracket.None; value = None } ∷ record { line = 1; name = (codes "a"); bracket = bracket.None; value = None } ∷ []) } ∷ []); stmts = ((s.Step (record { line = 1; target = (post 1 (form.Name (codes "a")) []); change = (change.Assign (x.Postfix (post 1 (form.Str (115 ∷ [])) []))) })) ∷ []) }) })) ∷ [])) }

-- program p { @0 t.a = 1; }
abbrev pub worked_delay : Row
worked_delay = record { told = Refused 30 1; source = (tree ((item.Program (record { line = 1; name = (codes "p"); block = (record { line = 1; decls = []; stmts = ((s.Drive (record { line = 1; delay = (Some (record { line = 1; form = (delay_form.Number (decimal 0)) })); signal = (post 1 (form.Name (codes "t")) (suffix.Member (codes "a") ∷ [])); operator = Plain; value = (x.Postfix (post 1 (form.Number (decimal 1)) [])) })) ∷ []) }) })) ∷ [])) }

abbrev pub worked_rows : List Row
worked_rows = worked_empty ∷ worked_vectors ∷ worked_join_any ∷ worked_hand_shake ∷ worked_rerun ∷ worked_stale_loop ∷ worked_oldest_waiter ∷ worked_dead_waiter ∷ worked_skipped_side ∷ worked_wait_var ∷ worked_region ∷ worked_unknown ∷ worked_twice ∷ worked_delay ∷ []
