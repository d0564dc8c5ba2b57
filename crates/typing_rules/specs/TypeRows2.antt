-- Types that do not fit.
use Rattle.std.specs.Prelude.{true, false, List, [], ◌∷◌, Some, None, codes}
use Rattle.four_state.specs.declared.bit.Bit.TheVariants.{Zero}
use Rattle.vera_ast.specs.declared.tree.declarations.Bracket.TheVariants as bracket
use Rattle.vera_ast.specs.declared.tree.declarations.TypeForm.TheVariants as type_form
use Rattle.vera_ast.specs.declared.tree.expressions.ChainOperator.TheVariants as o
use Rattle.vera_ast.specs.declared.tree.expressions.Expr.TheVariants as x
use Rattle.vera_ast.specs.declared.tree.expressions.PrimaryForm.TheVariants as form
use Rattle.vera_ast.specs.declared.tree.expressions.Suffix.TheVariants as suffix
use Rattle.vera_ast.specs.declared.tree.interfaces.Direction.TheVariants.{Input, Output}
use Rattle.vera_ast.specs.declared.tree.interfaces.SignalForm.TheVariants.{Clock, Timed}
use Rattle.vera_ast.specs.declared.tree.interfaces.SignalTime.TheVariants.{PositiveHold, PositiveSample}
use Rattle.vera_ast.specs.declared.tree.items.Item.TheVariants as item
use Rattle.vera_ast.specs.declared.tree.statements.Change.TheVariants as change
use Rattle.vera_ast.specs.declared.tree.statements.DelayForm.TheVariants as delay_form
use Rattle.vera_ast.specs.declared.tree.statements.DriveOperator.TheVariants.{Assign as Plain, Arrow}
use Rattle.vera_ast.specs.declared.tree.statements.EdgeClock.TheVariants as clock
use Rattle.vera_ast.specs.declared.tree.statements.Join.TheVariants as join
use Rattle.vera_ast.specs.declared.tree.statements.Stmt.TheVariants as s
use Rattle.typing_rules.specs.Sources.{tree, post, decimal, based}
use Rattle.typing_rules.specs.Told.{Row, Accepted, Refused}

-- program p { integer a; a = alloc(MAILBOX, 1'b0, 1); }
abbrev pub alloc_second_based : Row
alloc_second_based = record { told = Refused 32 1; source = (tree ((item.Program (record { line = 1; name = (codes "p"); block = (record { line = 1; decls = (record { line = 1; of = (record { line = 1; form = type_form.Integer }); variables = (record { line = 1; name = (codes "a"); bracket = bracket.None; value = None } ∷ []) } ∷ []); stmts = ((s.Step (record { line = 1; target = (post 1 (form.Name (codes "a")) []); change = (change.Assign (x.Postfix (post 1 (form.Name (codes "alloc")) (suffix.Call ((x.Postfix (post 1 (form.Name (codes "MAILBOX")) [])) ∷ (x.Postfix (post 1 (form.Number (based (Zero ∷ []))) [])) ∷ (x.Postfix (post 1 (form.Number (decimal 1)) [])) ∷ []) ∷ [])))) })) ∷ []) }) })) ∷ [])) }

-- program p { integer a; a = alloc(MAILBOX, (0), 1); }
abbrev pub alloc_second_parens : Row
alloc_second_parens = record { told = Refused 32 1; source = (tree ((item.Program (record { line = 1; name = (codes "p"); block = (record { line = 1; decls = (record { line = 1; of = (record { line = 1; form = type_form.Integer }); variables = (record { line = 1; name = (codes "a"); bracket = bracket.None; value = None } ∷ []) } ∷ []); stmts = ((s.Step (record { line = 1; target = (post 1 (form.Name (codes "a")) []); change = (change.Assign (x.Postfix (post 1 (form.Name (codes "alloc")) (suffix.Call ((x.Postfix (post 1 (form.Name (codes "MAILBOX")) [])) ∷ (x.Postfix (post 1 (form.Parentheses (x.Postfix (post 1 (form.Number (decimal 0)) []))) [])) ∷ (x.Postfix (post 1 (form.Number (decimal 1)) [])) ∷ []) ∷ [])))) })) ∷ []) }) })) ∷ [])) }

-- program p { integer a; a = alloc(MAILBOX, 0, 1); a = alloc(REGION, 0, a); }
abbrev pub alloc_ok : Row
alloc_ok = record { told = Accepted; source = (tree ((item.Program (record { line = 1; name = (codes "p"); block = (record { line = 1; decls = (record { line = 1; of = (record { line = 1; form = type_form.Integer }); variables = (record { line = 1; name = (codes "a"); bracket = bracket.None; value = None } ∷ []) } ∷ []); stmts = ((s.Step (record { line = 1; target = (post 1 (form.Name (codes "a")) []); change = (change.Assign (x.Postfix (post 1 (form.Name (codes "alloc")) (suffix.Call ((x.Postfix (post 1 (form.Name (codes "MAILBOX")) [])) ∷ (x.Postfix (post 1 (form.Number (decimal 0)) [])) ∷ (x.Postfix (post 1 (form.Number (decimal 1)) [])) ∷ []) ∷ [])))) })) ∷ (s.Step (record { line = 1; target = (post 1 (form.Name (codes "a")) []); change = (change.Assign (x.Postfix (post 1 (form.Name (codes "alloc")) (suffix.Call ((x.Postfix (post 1 (form.Name (codes "REGION")) [])) ∷ (x.Postfix (post 1 (form.Number (decimal 0)) [])) ∷ (x.Postfix (post 1 (form.Name (codes "a")) [])) ∷ []) ∷ [])))) })) ∷ []) }) })) ∷ [])) }

-- program p { break; }
abbrev pub break_outside : Row
break_outside = record { told = Refused 32 1; source = (tree ((item.Program (record { line = 1; name = (codes "p"); block = (record { line = 1; decls = []; stmts = ((s.Break 1) ∷ []) }) })) ∷ [])) }

-- program p { while (1) fork break; join }
abbrev pub break_in_branch : Row
break_in_branch = record { told = Refused 32 1; source = (tree ((item.Program (record { line = 1; name = (codes "p"); block = (record { line = 1; decls = []; stmts = ((s.While (record { line = 1; condition = (x.Postfix (post 1 (form.Number (decimal 1)) [])); body = (s.Fork (record { line = 1; branches = ((s.Break 1) ∷ []); join = join.All })) })) ∷ []) }) })) ∷ [])) }

-- program p { fork while (1) break; join }
abbrev pub break_in_loop_in_branch : Row
break_in_loop_in_branch = record { told = Accepted; source = (tree ((item.Program (record { line = 1; name = (codes "p"); block = (record { line = 1; decls = []; stmts = ((s.Fork (record { line = 1; branches = ((s.While (record { line = 1; condition = (x.Postfix (post 1 (form.Number (decimal 1)) [])); body = (s.Break 1) })) ∷ []); join = join.All })) ∷ []) }) })) ∷ [])) }

-- program p { repeat (3) { if (1) continue; } }
abbrev pub continue_in_repeat : Row
continue_in_repeat = record { told = Accepted; source = (tree ((item.Program (record { line = 1; name = (codes "p"); block = (record { line = 1; decls = []; stmts = ((s.Repeat (record { line = 1; count = (x.Postfix (post 1 (form.Number (decimal 3)) [])); body = (s.Block (record { line = 1; decls = []; stmts = ((s.If (record { line = 1; condition = (x.Postfix (post 1 (form.Number (decimal 1)) [])); when_true = (s.Continue 1); when_false = None })) ∷ []) })) })) ∷ []) }) })) ∷ [])) }

-- program p { integer a; a = a.x; }
abbrev pub member_of_vector : Row
member_of_vector = record { told = Refused 32 1; source = (tree ((item.Program (record { line = 1; name = (codes "p"); block = (record { line = 1; decls = (record { line = 1; of = (record { line = 1; form = type_form.Integer }); variables = (record { line = 1; name = (codes "a"); bracket = bracket.None; value = None } ∷ []) } ∷ []); stmts = ((s.Step (record { line = 1; target = (post 1 (form.Name (codes "a")) []); change = (change.Assign (x.Postfix (post 1 (form.Name (codes "a")) (suffix.Member (codes "x") ∷ [])))) })) ∷ []) }) })) ∷ [])) }

-- program p { string s; integer a; a = s.size(); }
abbrev pub member_of_string : Row
member_of_string = record { told = Refused 32 1; source = (tree ((item.Program (record { line = 1; name = (codes "p"); block = (record { line = 1; decls = (record { line = 1; of = (record { line = 1; form = type_form.Str }); variables = (record { line = 1; name = (codes "s"); bracket = bracket.None; value = None } ∷ []) } ∷ record { line = 1; of = (record { line = 1; form = type_form.Integer }); variables = (record { line = 1; name = (codes "a"); bracket = bracket.None; value = None } ∷ []) } ∷ []); stmts = ((s.Step (record { line = 1; target = (post 1 (form.Name (codes "a")) []); change = (change.Assign (x.Postfix (post 1 (form.Name (codes "s")) (suffix.Member (codes "size") ∷ suffix.Call [] ∷ [])))) })) ∷ []) }) })) ∷ [])) }

-- program p { string s; integer a; a = s.len() + "abc".len(); }
abbrev pub len : Row
len = record { told = Accepted; source = (tree ((item.Program (record { line = 1; name = (codes "p"); block = (record { line = 1; decls = (record { line = 1; of = (record { line = 1; form = type_form.Str }); variables = (record { line = 1; name = (codes "s"); bracket = bracket.None; value = None } ∷ []) } ∷ record { line = 1; of = (record { line = 1; form = type_form.Integer }); variables = (record { line = 1; name = (codes "a"); bracket = bracket.None; value = None } ∷ []) } ∷ []); stmts = ((s.Step (record { line = 1; target = (post 1 (form.Name (codes "a")) []); change = (change.Assign (x.Chain 1 (x.Postfix (post 1 (form.Name (codes "s")) (suffix.Member (codes "len") ∷ suffix.Call [] ∷ []))) (record { operator = o.Add; operand = (x.Postfix (post 1 (form.Str (97 ∷ 98 ∷ 99 ∷ [])) (suffix.Member (codes "len") ∷ suffix.Call [] ∷ []))) } ∷ []))) })) ∷ []) }) })) ∷ [])) }

-- program p { string s; integer a; a = s.len; }
abbrev pub len_without_call : Row
len_without_call = record { told = Refused 32 1; source = (tree ((item.Program (record { line = 1; name = (codes "p"); block = (record { line = 1; decls = (record { line = 1; of = (record { line = 1; form = type_form.Str }); variables = (record { line = 1; name = (codes "s"); bracket = bracket.None; value = None } ∷ []) } ∷ record { line = 1; of = (record { line = 1; form = type_form.Integer }); variables = (record { line = 1; name = (codes "a"); bracket = bracket.None; value = None } ∷ []) } ∷ []); stmts = ((s.Step (record { line = 1; target = (post 1 (form.Name (codes "a")) []); change = (change.Assign (x.Postfix (post 1 (form.Name (codes "s")) (suffix.Member (codes "len") ∷ [])))) })) ∷ []) }) })) ∷ [])) }

-- program p { integer a; a = exit(1); }
abbrev pub exit_as_value : Row
exit_as_value = record { told = Refused 32 1; source = (tree ((item.Program (record { line = 1; name = (codes "p"); block = (record { line = 1; decls = (record { line = 1; of = (record { line = 1; form = type_form.Integer }); variables = (record { line = 1; name = (codes "a"); bracket = bracket.None; value = None } ∷ []) } ∷ []); stmts = ((s.Step (record { line = 1; target = (post 1 (form.Name (codes "a")) []); change = (change.Assign (x.Postfix (post 1 (form.Name (codes "exit")) (suffix.Call ((x.Postfix (post 1 (form.Number (decimal 1)) [])) ∷ []) ∷ [])))) })) ∷ []) }) })) ∷ [])) }

-- program p { string s; printf(s); }
abbrev pub format_not_literal : Row
format_not_literal = record { told = Refused 32 1; source = (tree ((item.Program (record { line = 1; name = (codes "p"); block = (record { line = 1; decls = (record { line = 1; of = (record { line = 1; form = type_form.Str }); variables = (record { line = 1; name = (codes "s"); bracket = bracket.None; value = None } ∷ []) } ∷ []); stmts = ((s.Call (post 1 (form.Name (codes "printf")) (suffix.Call ((x.Postfix (post 1 (form.Name (codes "s")) [])) ∷ []) ∷ []))) ∷ []) }) })) ∷ [])) }

-- program p { printf(("x")); }
abbrev pub format_parens : Row
format_parens = record { told = Refused 32 1; source = (tree ((item.Program (record { line = 1; name = (codes "p"); block = (record { line = 1; decls = []; stmts = ((s.Call (post 1 (form.Name (codes "printf")) (suffix.Call ((x.Postfix (post 1 (form.Parentheses (x.Postfix (post 1 (form.Str (120 ∷ [])) []))) [])) ∷ []) ∷ []))) ∷ []) }) })) ∷ [])) }

-- program p { printf("%q", 1); }
abbrev pub format_conversion : Row
format_conversion = record { told = Refused 32 1; source = (tree ((item.Program (record { line = 1; name = (codes "p"); block = (record { line = 1; decls = []; stmts = ((s.Call (post 1 (form.Name (codes "printf")) (suffix.Call ((x.Postfix (post 1 (form.Str (37 ∷ 113 ∷ [])) [])) ∷ (x.Postfix (post 1 (form.Number (decimal 1)) [])) ∷ []) ∷ []))) ∷ []) }) })) ∷ [])) }

-- program p { printf("%"); }
abbrev pub format_open : Row
format_open = record { told = Refused 32 1; source = (tree ((item.Program (record { line = 1; name = (codes "p"); block = (record { line = 1; decls = []; stmts = ((s.Call (post 1 (form.Name (codes "printf")) (suffix.Call ((x.Postfix (post 1 (form.Str (37 ∷ [])) [])) ∷ []) ∷ []))) ∷ []) }) })) ∷ [])) }

-- program p { printf("%0999d %5b %% %08x %h", 1, 2, 3, 4); }
abbrev pub format_width : Row
format_width = record { told = Accepted; source = (tree ((item.Program (record { line = 1; name = (codes "p"); block = (record { line = 1; decls = []; stmts = ((s.Call (post 1 (form.Name (codes "printf")) (suffix.Call ((x.Postfix (post 1 (form.Str (37 ∷ 48 ∷ 57 ∷ 57 ∷ 57 ∷ 100 ∷ 32 ∷ 37 ∷ 53 ∷ 98 ∷ 32 ∷ 37 ∷ 37 ∷ 32 ∷ 37 ∷ 48 ∷ 56 ∷ 120 ∷ 32 ∷ 37 ∷ 104 ∷ [])) [])) ∷ (x.Postfix (post 1 (form.Number (decimal 1)) [])) ∷ (x.Postfix (post 1 (form.Number (decimal 2)) [])) ∷ (x.Postfix (post 1 (form.Number (decimal 3)) [])) ∷ (x.Postfix (post 1 (form.Number (decimal 4)) [])) ∷ []) ∷ []))) ∷ []) }) })) ∷ [])) }

-- program p { printf("%1000d", 1); }
abbrev pub format_width_over : Row
format_width_over = record { told = Refused 32 1; source = (tree ((item.Program (record { line = 1; name = (codes "p"); block = (record { line = 1; decls = []; stmts = ((s.Call (post 1 (form.Name (codes "printf")) (suffix.Call ((x.Postfix (post 1 (form.Str (37 ∷ 49 ∷ 48 ∷ 48 ∷ 48 ∷ 100 ∷ [])) [])) ∷ (x.Postfix (post 1 (form.Number (decimal 1)) [])) ∷ []) ∷ []))) ∷ []) }) })) ∷ [])) }

-- program p { printf("%000d", 1); }
abbrev pub format_width_zeros : Row
format_width_zeros = record { told = Refused 32 1; source = (tree ((item.Program (record { line = 1; name = (codes "p"); block = (record { line = 1; decls = []; stmts = ((s.Call (post 1 (form.Name (codes "printf")) (suffix.Call ((x.Postfix (post 1 (form.Str (37 ∷ 48 ∷ 48 ∷ 48 ∷ 100 ∷ [])) [])) ∷ (x.Postfix (post 1 (form.Number (decimal 1)) [])) ∷ []) ∷ []))) ∷ []) }) })) ∷ [])) }

-- program p { printf("%s", 1); }
abbrev pub format_wrong_type : Row
format_wrong_type = record { told = Refused 32 1; source = (tree ((item.Program (record { line = 1; name = (codes "p"); block = (record { line = 1; decls = []; stmts = ((s.Call (post 1 (form.Name (codes "printf")) (suffix.Call ((x.Postfix (post 1 (form.Str (37 ∷ 115 ∷ [])) [])) ∷ (x.Postfix (post 1 (form.Number (decimal 1)) [])) ∷ []) ∷ []))) ∷ []) }) })) ∷ [])) }

-- program p { printf("%d", "a"); }
abbrev pub format_wrong_type_2 : Row
format_wrong_type_2 = record { told = Refused 32 1; source = (tree ((item.Program (record { line = 1; name = (codes "p"); block = (record { line = 1; decls = []; stmts = ((s.Call (post 1 (form.Name (codes "printf")) (suffix.Call ((x.Postfix (post 1 (form.Str (37 ∷ 100 ∷ [])) [])) ∷ (x.Postfix (post 1 (form.Str (97 ∷ [])) [])) ∷ []) ∷ []))) ∷ []) }) })) ∷ [])) }

-- enum e = A; program p { printf("%d %s", A, "x"); }
abbrev pub format_enum : Row
format_enum = record { told = Accepted; source = (tree ((item.Enumeration (record { line = 1; name = (codes "e"); values = ((codes "A") ∷ []) })) ∷ (item.Program (record { line = 1; name = (codes "p"); block = (record { line = 1; decls = []; stmts = ((s.Call (post 1 (form.Name (codes "printf")) (suffix.Call ((x.Postfix (post 1 (form.Str (37 ∷ 100 ∷ 32 ∷ 37 ∷ 115 ∷ [])) [])) ∷ (x.Postfix (post 1 (form.Name (codes "A")) [])) ∷ (x.Postfix (post 1 (form.Str (120 ∷ [])) [])) ∷ []) ∷ []))) ∷ []) }) })) ∷ [])) }

-- program p { integer a[4]; integer b; b = a; }
abbrev pub array_as_value : Row
array_as_value = record { told = Refused 32 1; source = (tree ((item.Program (record { line = 1; name = (codes "p"); block = (record { line = 1; decls = (record { line = 1; of = (record { line = 1; form = type_form.Integer }); variables = (record { line = 1; name = (codes "a"); bracket = (bracket.Fixed (x.Postfix (post 1 (form.Number (decimal 4)) []))); value = None } ∷ []) } ∷ record { line = 1; of = (record { line = 1; form = type_form.Integer }); variables = (record { line = 1; name = (codes "b"); bracket = bracket.None; value = None } ∷ []) } ∷ []); stmts = ((s.Step (record { line = 1; target = (post 1 (form.Name (codes "b")) []); change = (change.Assign (x.Postfix (post 1 (form.Name (codes "a")) []))) })) ∷ []) }) })) ∷ [])) }

-- program p { integer a[4]; a = 1; }
abbrev pub array_assigned : Row
array_assigned = record { told = Refused 32 1; source = (tree ((item.Program (record { line = 1; name = (codes "p"); block = (record { line = 1; decls = (record { line = 1; of = (record { line = 1; form = type_form.Integer }); variables = (record { line = 1; name = (codes "a"); bracket = (bracket.Fixed (x.Postfix (post 1 (form.Number (decimal 4)) []))); value = None } ∷ []) } ∷ []); stmts = ((s.Step (record { line = 1; target = (post 1 (form.Name (codes "a")) []); change = (change.Assign (x.Postfix (post 1 (form.Number (decimal 1)) []))) })) ∷ []) }) })) ∷ [])) }

-- program p { integer a[4] = 1; }
abbrev pub array_initial : Row
array_initial = record { told = Refused 32 1; source = (tree ((item.Program (record { line = 1; name = (codes "p"); block = (record { line = 1; decls = (record { line = 1; of = (record { line = 1; form = type_form.Integer }); variables = (record { line = 1; name = (codes "a"); bracket = (bracket.Fixed (x.Postfix (post 1 (form.Number (decimal 4)) []))); value = (Some (x.Postfix (post 1 (form.Number (decimal 1)) []))) } ∷ []) } ∷ []); stmts = [] }) })) ∷ [])) }

-- program p { event a[4]; }
abbrev pub array_of_events : Row
array_of_events = record { told = Refused 32 1; source = (tree ((item.Program (record { line = 1; name = (codes "p"); block = (record { line = 1; decls = (record { line = 1; of = (record { line = 1; form = type_form.Event }); variables = (record { line = 1; name = (codes "a"); bracket = (bracket.Fixed (x.Postfix (post 1 (form.Number (decimal 4)) []))); value = None } ∷ []) } ∷ []); stmts = [] }) })) ∷ [])) }

-- program p { integer a[4]; string s[2]; a[1] = a[2] + 1; s[0] = "x"; a[0]++; a[a[1]] += 2; }
abbrev pub array_element : Row
array_element = record { told = Accepted; source = (tree ((item.Program (record { line = 1; name = (codes "p"); block = (record { line = 1; decls = (record { line = 1; of = (record { line = 1; form = type_form.Integer }); variables = (record { line = 1; name = (codes "a"); bracket = (bracket.Fixed (x.Postfix (post 1 (form.Number (decimal 4)) []))); value = None } ∷ []) } ∷ record { line = 1; of = (record { line = 1; form = type_form.Str }); variables = (record { line = 1; name = (codes "s"); bracket = (bracket.Fixed (x.Postfix (post 1 (form.Number (decimal 2)) []))); value = None } ∷ []) } ∷ []); stmts = ((s.Step (record { line = 1; target = (post 1 (form.Name (codes "a")) (suffix.Index (x.Postfix (post 1 (form.Number (decimal 1)) [])) ∷ [])); change = (change.Assign (x.Chain 1 (x.Postfix (post 1 (form.Name (codes "a")) (suffix.Index (x.Postfix (post 1 (form.Number (decimal 2)) [])) ∷ []))) (record { operator = o.Add; operand = (x.Postfix (post 1 (form.Number (decimal 1)) [])) } ∷ []))) })) ∷ (s.Step (record { line = 1; target = (post 1 (form.Name (codes "s")) (suffix.Index (x.Postfix (post 1 (form.Number (decimal 0)) [])) ∷ [])); change = (change.Assign (x.Postfix (post 1 (form.Str (120 ∷ [])) []))) })) ∷ (s.Step (record { line = 1; target = (post 1 (form.Name (codes "a")) (suffix.Index (x.Postfix (post 1 (form.Number (decimal 0)) [])) ∷ [])); change = change.Increment })) ∷ (s.Step (record { line = 1; target = (post 1 (form.Name (codes "a")) (suffix.Index (x.Postfix (post 1 (form.Name (codes "a")) (suffix.Index (x.Postfix (post 1 (form.Number (decimal 1)) [])) ∷ []))) ∷ [])); change = (change.Add (x.Postfix (post 1 (form.Number (decimal 2)) []))) })) ∷ []) }) })) ∷ [])) }

-- program p { integer a[4]; a["x"] = 1; }
abbrev pub array_index_string : Row
array_index_string = record { told = Refused 32 1; source = (tree ((item.Program (record { line = 1; name = (codes "p"); block = (record { line = 1; decls = (record { line = 1; of = (record { line = 1; form = type_form.Integer }); variables = (record { line = 1; name = (codes "a"); bracket = (bracket.Fixed (x.Postfix (post 1 (form.Number (decimal 4)) []))); value = None } ∷ []) } ∷ []); stmts = ((s.Step (record { line = 1; target = (post 1 (form.Name (codes "a")) (suffix.Index (x.Postfix (post 1 (form.Str (120 ∷ [])) [])) ∷ [])); change = (change.Assign (x.Postfix (post 1 (form.Number (decimal 1)) []))) })) ∷ []) }) })) ∷ [])) }

-- program p { integer a; @(posedge a.b); }
abbrev pub not_an_interface : Row
not_an_interface = record { told = Refused 32 1; source = (tree ((item.Program (record { line = 1; name = (codes "p"); block = (record { line = 1; decls = (record { line = 1; of = (record { line = 1; form = type_form.Integer }); variables = (record { line = 1; name = (codes "a"); bracket = bracket.None; value = None } ∷ []) } ∷ []); stmts = ((s.Edge (record { line = 1; negative = false; clock = (clock.Signal (codes "a") (codes "b")) })) ∷ []) }) })) ∷ [])) }

-- program p { integer a; @1 a = 1; }
abbrev pub delayed_variable : Row
delayed_variable = record { told = Refused 32 1; source = (tree ((item.Program (record { line = 1; name = (codes "p"); block = (record { line = 1; decls = (record { line = 1; of = (record { line = 1; form = type_form.Integer }); variables = (record { line = 1; name = (codes "a"); bracket = bracket.None; value = None } ∷ []) } ∷ []); stmts = ((s.Drive (record { line = 1; delay = (Some (record { line = 1; form = (delay_form.Number (decimal 1)) })); signal = (post 1 (form.Name (codes "a")) []); operator = Plain; value = (x.Postfix (post 1 (form.Number (decimal 1)) [])) })) ∷ []) }) })) ∷ [])) }

-- program p { integer a; a <= 1; }
abbrev pub arrow_variable : Row
arrow_variable = record { told = Refused 32 1; source = (tree ((item.Program (record { line = 1; name = (codes "p"); block = (record { line = 1; decls = (record { line = 1; of = (record { line = 1; form = type_form.Integer }); variables = (record { line = 1; name = (codes "a"); bracket = bracket.None; value = None } ∷ []) } ∷ []); stmts = ((s.Drive (record { line = 1; delay = None; signal = (post 1 (form.Name (codes "a")) []); operator = Arrow; value = (x.Postfix (post 1 (form.Number (decimal 1)) [])) })) ∷ []) }) })) ∷ [])) }

-- interface i { input clk CLOCK; output [3:0] b PHOLD #1; input [3:0] q PSAMPLE #-1; }
-- program p { i.b[0] <= 1; }
abbrev pub arrow_bits : Row
arrow_bits = record { told = Refused 32 2; source = (tree ((item.Interface (record { line = 1; name = (codes "i"); signals = (record { line = 1; direction = Input; range = None; name = (codes "clk"); kind = record { line = 1; form = Clock } } ∷ record { line = 1; direction = Output; range = (Some (record { line = 1; high = (x.Postfix (post 1 (form.Number (decimal 3)) [])); low = (x.Postfix (post 1 (form.Number (decimal 0)) [])) })); name = (codes "b"); kind = record { line = 1; form = (Timed PositiveHold (Some (record { is_negative = false; amount = (decimal 1) }))) } } ∷ record { line = 1; direction = Input; range = (Some (record { line = 1; high = (x.Postfix (post 1 (form.Number (decimal 3)) [])); low = (x.Postfix (post 1 (form.Number (decimal 0)) [])) })); name = (codes "q"); kind = record { line = 1; form = (Timed PositiveSample (Some (record { is_negative = true; amount = (decimal 1) }))) } } ∷ []) })) ∷ (item.Program (record { line = 2; name = (codes "p"); block = (record { line = 2; decls = []; stmts = ((s.Drive (record { line = 2; delay = None; signal = (post 2 (form.Name (codes "i")) (suffix.Member (codes "b") ∷ suffix.Index (x.Postfix (post 2 (form.Number (decimal 0)) [])) ∷ [])); operator = Arrow; value = (x.Postfix (post 2 (form.Number (decimal 1)) [])) })) ∷ []) }) })) ∷ [])) }

abbrev pub type_rows2 : List Row
type_rows2 = alloc_second_based ∷ alloc_second_parens ∷ alloc_ok ∷ break_outside ∷ break_in_branch ∷ break_in_loop_in_branch ∷ continue_in_repeat ∷ member_of_vector ∷ member_of_string ∷ len ∷ len_without_call ∷ exit_as_value ∷ format_not_literal ∷ format_parens ∷ format_conversion ∷ format_open ∷ format_width ∷ format_width_over ∷ format_width_zeros ∷ format_wrong_type ∷ format_wrong_type_2 ∷ format_enum ∷ array_as_value ∷ array_assigned ∷ array_initial ∷ array_of_events ∷ array_element ∷ array_index_string ∷ not_an_interface ∷ delayed_variable ∷ arrow_variable ∷ arrow_bits ∷ []
