-- Sources of whole runs.
use Rattle.std.specs.Prelude.{true, false, List, [], ◌∷◌, Some, None, codes}
use Rattle.four_state.specs.declared.bit.Bit.TheVariants.{Zero, One}
use Rattle.vera_ast.specs.declared.tree.declarations.Bracket.TheVariants as bracket
use Rattle.vera_ast.specs.declared.tree.declarations.TypeForm.TheVariants as type_form
use Rattle.vera_ast.specs.declared.tree.expressions.ChainOperator.TheVariants as o
use Rattle.vera_ast.specs.declared.tree.expressions.Expr.TheVariants as x
use Rattle.vera_ast.specs.declared.tree.expressions.PrimaryForm.TheVariants as form
use Rattle.vera_ast.specs.declared.tree.expressions.Suffix.TheVariants as suffix
use Rattle.vera_ast.specs.declared.tree.interfaces.Direction.TheVariants.{Input, Output}
use Rattle.vera_ast.specs.declared.tree.interfaces.SignalForm.TheVariants.{Clock, Timed}
use Rattle.vera_ast.specs.declared.tree.interfaces.SignalTime.TheVariants.{PositiveHold, PositiveSample}
use Rattle.vera_ast.specs.declared.tree.items.Item.TheVariants as item
use Rattle.vera_ast.specs.declared.tree.statements.Change.TheVariants as change
use Rattle.vera_ast.specs.declared.tree.statements.DelayForm.TheVariants as delay_form
use Rattle.vera_ast.specs.declared.tree.statements.DriveOperator.TheVariants.{Assign as Plain, Arrow}
use Rattle.vera_ast.specs.declared.tree.statements.EdgeClock.TheVariants as clock
use Rattle.vera_ast.specs.declared.tree.statements.Join.TheVariants as join
use Rattle.vera_ast.specs.declared.tree.statements.Stmt.TheVariants as s
use Rattle.vera_ast.specs.declared.tree.statements.TermOperator.TheVariants as term
use Rattle.vera_ast.specs.declared.tree.statements.WindowKind.TheVariants as window
use Rattle.typing_rules.specs.Sources.{tree, post, decimal, based}
use Rattle.typing_rules.specs.Told.{Row, Accepted, Refused}

-- #include <vera_defines.vrh>
-- #define OUTPUT_EDGE PHOLD
-- #define OUTPUT_SKEW #1
-- #define INPUT_EDGE PSAMPLE
-- #define INPUT_SKEW #-1
-- interface arb {
--   output reset OUTPUT_EDGE OUTPUT_SKEW;
--   output [1:0] request OUTPUT_EDGE OUTPUT_SKEW;
--   input [1:0] grant INPUT_EDGE INPUT_SKEW;
--   input clock CLOCK;
-- } // end of interface arb
-- program arb_test
-- { // start of top block
--   @0 arb.reset = 1'b1;
--   arb.request = 2'b00;
--   @1 arb.reset = 1'b0;
--   arb.request = 2'b11;
--   @1,4 arb.grant == 2'b01;
--   @1 arb.grant == 2'b10;
--   printf("grant %b at %0d\n", arb.grant, get_cycle());
--   @0 arb.request <= 2'b00;
--   @0,5 arb.grant == 2'b00;
-- } // end of program arb_test
--
abbrev pub given_trace_arbiter : Row
given_trace_arbiter = record { told = Accepted; source = (tree ((item.Interface (record { line = 6; name = (codes "arb"); signals = (record { line = 7; direction = Output; range = None; name = (codes "reset"); kind = record { line = 7; form = (Timed PositiveHold (Some (record { is_negative = false; amount = (decimal 1) }))) } } ∷ record { line = 8; direction = Output; range = (Some (record { line = 8; high = (x.Postfix (post 8 (form.Number (decimal 1)) [])); low = (x.Postfix (post 8 (form.Number (decimal 0)) [])) })); name = (codes "request"); kind = record { line = 8; form = (Timed PositiveHold (Some (record { is_negative = false; amount = (decimal 1) }))) } } ∷ record { line = 9; direction = Input; range = (Some (record { line = 9; high = (x.Postfix (post 9 (form.Number (decimal 1)) [])); low = (x.Postfix (post 9 (form.Number (decimal 0)) [])) })); name = (codes "grant"); kind = record { line = 9; form = (Timed PositiveSample (Some (record { is_negative = true; amount = (decimal 1) }))) } } ∷ record { line = 10; direction = Input; range = None; name = (codes "clock"); kind = record { line = 10; form = Clock } } ∷ []) })) ∷ (item.Program (record { line = 12; name = (codes "arb_test"); block = (record { line = 13; decls = []; stmts = ((s.Drive (record { line = 14; delay = (Some (record { line = 14; form = (delay_form.Number (decimal 0)) })); signal = (post 14 (form.Name (codes "arb")) (suffix.Member (codes "reset") ∷ [])); operator = Plain; value = (x.Postfix (post 14 (form.Number (based (One ∷ []))) [])) })) ∷ (s.Step (record { line = 15; target = (post 15 (form.Name (codes "arb")) (suffix.Member (codes "request") ∷ [])); change = (change.Assign (x.Postfix (post 15 (form.Number (based (Zero ∷ Zero ∷ []))) []))) })) ∷ (s.Drive (record { line = 16; delay = (Some (record { line = 16; form = (delay_form.Number (decimal 1)) })); signal = (post 16 (form.Name (codes "arb")) (suffix.Member (codes "reset") ∷ [])); operator = Plain; value = (x.Postfix (post 16 (form.Number (based (Zero ∷ []))) [])) })) ∷ (s.Step (record { line = 17; target = (post 17 (form.Name (codes "arb")) (suffix.Member (codes "request") ∷ [])); change = (change.Assign (x.Postfix (post 17 (form.Number (based (One ∷ One ∷ []))) []))) })) ∷ (s.Expect (record { line = 18; window = (Some (record { line = 18; kind = window.Simple; first = (record { line = 18; form = (delay_form.Number (decimal 1)) }); second = (Some (record { line = 18; form = (delay_form.Number (decimal 4)) })) })); soft_before = false; terms = (record { line = 18; signal = (post 18 (form.Name (codes "arb")) (suffix.Member (codes "grant") ∷ [])); operator = term.Equal; value = (x.Postfix (post 18 (form.Number (based (One ∷ Zero ∷ []))) [])) } ∷ []); soft_after = false })) ∷ (s.Expect (record { line = 19; window = (Some (record { line = 19; kind = window.Simple; first = (record { line = 19; form = (delay_form.Number (decimal 1)) }); second = None })); soft_before = false; terms = (record { line = 19; signal = (post 19 (form.Name (codes "arb")) (suffix.Member (codes "grant") ∷ [])); operator = term.Equal; value = (x.Postfix (post 19 (form.Number (based (Zero ∷ One ∷ []))) [])) } ∷ []); soft_after = false })) ∷ (s.Call (post 20 (form.Name (codes "printf")) (suffix.Call ((x.Postfix (post 20 (form.Str (103 ∷ 114 ∷ 97 ∷ 110 ∷ 116 ∷ 32 ∷ 37 ∷ 98 ∷ 32 ∷ 97 ∷ 116 ∷ 32 ∷ 37 ∷ 48 ∷ 100 ∷ 10 ∷ [])) [])) ∷ (x.Postfix (post 20 (form.Name (codes "arb")) (suffix.Member (codes "grant") ∷ []))) ∷ (x.Postfix (post 20 (form.Name (codes "get_cycle")) (suffix.Call [] ∷ []))) ∷ []) ∷ []))) ∷ (s.Drive (record { line = 21; delay = (Some (record { line = 21; form = (delay_form.Number (decimal 0)) })); signal = (post 21 (form.Name (codes "arb")) (suffix.Member (codes "request") ∷ [])); operator = Arrow; value = (x.Postfix (post 21 (form.Number (based (Zero ∷ Zero ∷ []))) [])) })) ∷ (s.Expect (record { line = 22; window = (Some (record { line = 22; kind = window.Simple; first = (record { line = 22; form = (delay_form.Number (decimal 0)) }); second = (Some (record { line = 22; form = (delay_form.Number (decimal 5)) })) })); soft_before = false; terms = (record { line = 22; signal = (post 22 (form.Name (codes "arb")) (suffix.Member (codes "grant") ∷ [])); operator = term.Equal; value = (x.Postfix (post 22 (form.Number (based (Zero ∷ Zero ∷ []))) [])) } ∷ []); soft_after = false })) ∷ []) }) })) ∷ [])) }

-- program p { integer a[2]; a[1] = 7; printf("%0d\n", a[1]); a[2] = 0; }
--
abbrev pub given_arrays_check : Row
given_arrays_check = record { told = Accepted; source = (tree ((item.Program (record { line = 1; name = (codes "p"); block = (record { line = 1; decls = (record { line = 1; of = (record { line = 1; form = type_form.Integer }); variables = (record { line = 1; name = (codes "a"); bracket = (bracket.Fixed (x.Postfix (post 1 (form.Number (decimal 2)) []))); value = None } ∷ []) } ∷ []); stmts = ((s.Step (record { line = 1; target = (post 1 (form.Name (codes "a")) (suffix.Index (x.Postfix (post 1 (form.Number (decimal 1)) [])) ∷ [])); change = (change.Assign (x.Postfix (post 1 (form.Number (decimal 7)) []))) })) ∷ (s.Call (post 1 (form.Name (codes "printf")) (suffix.Call ((x.Postfix (post 1 (form.Str (37 ∷ 48 ∷ 100 ∷ 10 ∷ [])) [])) ∷ (x.Postfix (post 1 (form.Name (codes "a")) (suffix.Index (x.Postfix (post 1 (form.Number (decimal 1)) [])) ∷ []))) ∷ []) ∷ []))) ∷ (s.Step (record { line = 1; target = (post 1 (form.Name (codes "a")) (suffix.Index (x.Postfix (post 1 (form.Number (decimal 2)) [])) ∷ [])); change = (change.Assign (x.Postfix (post 1 (form.Number (decimal 0)) []))) })) ∷ []) }) })) ∷ [])) }

-- program p { integer i; i = 0; while (i < 3) i = i + 1; }
--
abbrev pub given_budget_9_of_9_ticks : Row
given_budget_9_of_9_ticks = record { told = Accepted; source = (tree ((item.Program (record { line = 1; name = (codes "p"); block = (record { line = 1; decls = (record { line = 1; of = (record { line = 1; form = type_form.Integer }); variables = (record { line = 1; name = (codes "i"); bracket = bracket.None; value = None } ∷ []) } ∷ []); stmts = ((s.Step (record { line = 1; target = (post 1 (form.Name (codes "i")) []); change = (change.Assign (x.Postfix (post 1 (form.Number (decimal 0)) []))) })) ∷ (s.While (record { line = 1; condition = (x.Chain 1 (x.Postfix (post 1 (form.Name (codes "i")) [])) (record { operator = o.Less; operand = (x.Postfix (post 1 (form.Number (decimal 3)) [])) } ∷ [])); body = (s.Step (record { line = 1; target = (post 1 (form.Name (codes "i")) []); change = (change.Assign (x.Chain 1 (x.Postfix (post 1 (form.Name (codes "i")) [])) (record { operator = o.Add; operand = (x.Postfix (post 1 (form.Number (decimal 1)) [])) } ∷ []))) })) })) ∷ []) }) })) ∷ [])) }

-- function integer f(integer n) { f = n; if (n > 0) f = f(n - 1); } program p { printf("%0d\n", f(255)); printf("%0d\n", f(256)); }
--
abbrev pub given_calls_check : Row
given_calls_check = record { told = Accepted; source = (tree ((item.Function (record { line = 1; result = (record { line = 1; form = type_form.Integer }); name = (codes "f"); parameters = (record { line = 1; is_var = false; of = (record { line = 1; form = type_form.Integer }); name = (codes "n") } ∷ []); block = (record { line = 1; decls = []; stmts = ((s.Step (record { line = 1; target = (post 1 (form.Name (codes "f")) []); change = (change.Assign (x.Postfix (post 1 (form.Name (codes "n")) []))) })) ∷ (s.If (record { line = 1; condition = (x.Chain 1 (x.Postfix (post 1 (form.Name (codes "n")) [])) (record { operator = o.Greater; operand = (x.Postfix (post 1 (form.Number (decimal 0)) [])) } ∷ [])); when_true = (s.Step (record { line = 1; target = (post 1 (form.Name (codes "f")) []); change = (change.Assign (x.Postfix (post 1 (form.Name (codes "f")) (suffix.Call ((x.Chain 1 (x.Postfix (post 1 (form.Name (codes "n")) [])) (record { operator = o.Subtract; operand = (x.Postfix (post 1 (form.Number (decimal 1)) [])) } ∷ [])) ∷ []) ∷ [])))) })); when_false = None })) ∷ []) }) })) ∷ (item.Program (record { line = 1; name = (codes "p"); block = (record { line = 1; decls = []; stmts = ((s.Call (post 1 (form.Name (codes "printf")) (suffix.Call ((x.Postfix (post 1 (form.Str (37 ∷ 48 ∷ 100 ∷ 10 ∷ [])) [])) ∷ (x.Postfix (post 1 (form.Name (codes "f")) (suffix.Call ((x.Postfix (post 1 (form.Number (decimal 255)) [])) ∷ []) ∷ []))) ∷ []) ∷ []))) ∷ (s.Call (post 1 (form.Name (codes "printf")) (suffix.Call ((x.Postfix (post 1 (form.Str (37 ∷ 48 ∷ 100 ∷ 10 ∷ [])) [])) ∷ (x.Postfix (post 1 (form.Name (codes "f")) (suffix.Call ((x.Postfix (post 1 (form.Number (decimal 256)) [])) ∷ []) ∷ []))) ∷ []) ∷ []))) ∷ []) }) })) ∷ [])) }

-- interface u { input clk CLOCK; output a PHOLD #1; input one PSAMPLE #-1; input zero PSAMPLE #-1; input n PSAMPLE #-1; }
-- program p { @(posedge u.clk); printf("%b %b %b\n", u.one, u.zero, u.n); u.a = 0; @(posedge u.clk); printf("%b\n", u.n); }
--
abbrev pub given_covers_constant_and_off_set : Row
given_covers_constant_and_off_set = record { told = Accepted; source = (tree ((item.Interface (record { line = 1; name = (codes "u"); signals = (record { line = 1; direction = Input; range = None; name = (codes "clk"); kind = record { line = 1; form = Clock } } ∷ record { line = 1; direction = Output; range = None; name = (codes "a"); kind = record { line = 1; form = (Timed PositiveHold (Some (record { is_negative = false; amount = (decimal 1) }))) } } ∷ record { line = 1; direction = Input; range = None; name = (codes "one"); kind = record { line = 1; form = (Timed PositiveSample (Some (record { is_negative = true; amount = (decimal 1) }))) } } ∷ record { line = 1; direction = Input; range = None; name = (codes "zero"); kind = record { line = 1; form = (Timed PositiveSample (Some (record { is_negative = true; amount = (decimal 1) }))) } } ∷ record { line = 1; direction = Input; range = None; name = (codes "n"); kind = record { line = 1; form = (Timed PositiveSample (Some (record { is_negative = true; amount = (decimal 1) }))) } } ∷ []) })) ∷ (item.Program (record { line = 2; name = (codes "p"); block = (record { line = 2; decls = []; stmts = ((s.Edge (record { line = 2; negative = false; clock = (clock.Signal (codes "u") (codes "clk")) })) ∷ (s.Call (post 2 (form.Name (codes "printf")) (suffix.Call ((x.Postfix (post 2 (form.Str (37 ∷ 98 ∷ 32 ∷ 37 ∷ 98 ∷ 32 ∷ 37 ∷ 98 ∷ 10 ∷ [])) [])) ∷ (x.Postfix (post 2 (form.Name (codes "u")) (suffix.Member (codes "one") ∷ []))) ∷ (x.Postfix (post 2 (form.Name (codes "u")) (suffix.Member (codes "zero") ∷ []))) ∷ (x.Postfix (post 2 (form.Name (codes "u")) (suffix.Member (codes "n") ∷ []))) ∷ []) ∷ []))) ∷ (s.Step (record { line = 2; target = (post 2 (form.Name (codes "u")) (suffix.Member (codes "a") ∷ [])); change = (change.Assign (x.Postfix (post 2 (form.Number (decimal 0)) []))) })) ∷ (s.Edge (record { line = 2; negative = false; clock = (clock.Signal (codes "u") (codes "clk")) })) ∷ (s.Call (post 2 (form.Name (codes "printf")) (suffix.Call ((x.Postfix (post 2 (form.Str (37 ∷ 98 ∷ 10 ∷ [])) [])) ∷ (x.Postfix (post 2 (form.Name (codes "u")) (suffix.Member (codes "n") ∷ []))) ∷ []) ∷ []))) ∷ []) }) })) ∷ [])) }

-- program p { event e; fork { sync(ANY, e); printf("dead\n"); } join none @(posedge CLOCK); terminate; trigger(HAND_SHAKE, e); fork { sync(ANY, e); printf("live\n"); } join all }
--
abbrev pub given_dead_waiter_takes_no_hand_shake_check : Row
given_dead_waiter_takes_no_hand_shake_check = record { told = Accepted; source = (tree ((item.Program (record { line = 1; name = (codes "p"); block = (record { line = 1; decls = (record { line = 1; of = (record { line = 1; form = type_form.Event }); variables = (record { line = 1; name = (codes "e"); bracket = bracket.None; value = None } ∷ []) } ∷ []); stmts = ((s.Fork (record { line = 1; branches = ((s.Block (record { line = 1; decls = []; stmts = ((s.Call (post 1 (form.Name (codes "sync")) (suffix.Call ((x.Postfix (post 1 (form.Name (codes "ANY")) [])) ∷ (x.Postfix (post 1 (form.Name (codes "e")) [])) ∷ []) ∷ []))) ∷ (s.Call (post 1 (form.Name (codes "printf")) (suffix.Call ((x.Postfix (post 1 (form.Str (100 ∷ 101 ∷ 97 ∷ 100 ∷ 10 ∷ [])) [])) ∷ []) ∷ []))) ∷ []) })) ∷ []); join = join.None })) ∷ (s.Edge (record { line = 1; negative = false; clock = clock.Clock })) ∷ (s.Terminate 1) ∷ (s.Call (post 1 (form.Name (codes "trigger")) (suffix.Call ((x.Postfix (post 1 (form.Name (codes "HAND_SHAKE")) [])) ∷ (x.Postfix (post 1 (form.Name (codes "e")) [])) ∷ []) ∷ []))) ∷ (s.Fork (record { line = 1; branches = ((s.Block (record { line = 1; decls = []; stmts = ((s.Call (post 1 (form.Name (codes "sync")) (suffix.Call ((x.Postfix (post 1 (form.Name (codes "ANY")) [])) ∷ (x.Postfix (post 1 (form.Name (codes "e")) [])) ∷ []) ∷ []))) ∷ (s.Call (post 1 (form.Name (codes "printf")) (suffix.Call ((x.Postfix (post 1 (form.Str (108 ∷ 105 ∷ 118 ∷ 101 ∷ 10 ∷ [])) [])) ∷ []) ∷ []))) ∷ []) })) ∷ []); join = join.All })) ∷ []) }) })) ∷ [])) }

-- program p { @0 t.a = 1; }
--
abbrev pub given_delayed_drive_of_unknown_name_check : Row
given_delayed_drive_of_unknown_name_check = record { told = Refused 30 1; source = (tree ((item.Program (record { line = 1; name = (codes "p"); block = (record { line = 1; decls = []; stmts = ((s.Drive (record { line = 1; delay = (Some (record { line = 1; form = (delay_form.Number (decimal 0)) })); signal = (post 1 (form.Name (codes "t")) (suffix.Member (codes "a") ∷ [])); operator = Plain; value = (x.Postfix (post 1 (form.Number (decimal 1)) [])) })) ∷ []) }) })) ∷ [])) }

-- program p { }
--
abbrev pub given_words_option_before_mode : Row
given_words_option_before_mode = record { told = Accepted; source = (tree ((item.Program (record { line = 1; name = (codes "p"); block = (record { line = 1; decls = []; stmts = [] }) })) ∷ [])) }

-- program p { while (0 == 0) { } }
--
abbrev pub given_endless_loop_is_spent : Row
given_endless_loop_is_spent = record { told = Accepted; source = (tree ((item.Program (record { line = 1; name = (codes "p"); block = (record { line = 1; decls = []; stmts = ((s.While (record { line = 1; condition = (x.Chain 1 (x.Postfix (post 1 (form.Number (decimal 0)) [])) (record { operator = o.Equal; operand = (x.Postfix (post 1 (form.Number (decimal 0)) [])) } ∷ [])); body = (s.Block (record { line = 1; decls = []; stmts = [] })) })) ∷ []) }) })) ∷ [])) }

-- program p { exit(3); }
--
abbrev pub given_exit_3 : Row
given_exit_3 = record { told = Accepted; source = (tree ((item.Program (record { line = 1; name = (codes "p"); block = (record { line = 1; decls = []; stmts = ((s.Call (post 1 (form.Name (codes "exit")) (suffix.Call ((x.Postfix (post 1 (form.Number (decimal 3)) [])) ∷ []) ∷ []))) ∷ []) }) })) ∷ [])) }

-- interface t {
--   input clk CLOCK;
--   output a PHOLD #1;
--   input q PSAMPLE #-1;
--   input y PSAMPLE #-1;
-- }
-- program p {
--   t.a = 1;
--   @2 t.a <= 0;
--   @@1,2 t.y == 1 soft;
--   @@@1,2 t.y == 1 soft;
-- }
--
abbrev pub given_signals_without_netlist : Row
given_signals_without_netlist = record { told = Accepted; source = (tree ((item.Interface (record { line = 1; name = (codes "t"); signals = (record { line = 2; direction = Input; range = None; name = (codes "clk"); kind = record { line = 2; form = Clock } } ∷ record { line = 3; direction = Output; range = None; name = (codes "a"); kind = record { line = 3; form = (Timed PositiveHold (Some (record { is_negative = false; amount = (decimal 1) }))) } } ∷ record { line = 4; direction = Input; range = None; name = (codes "q"); kind = record { line = 4; form = (Timed PositiveSample (Some (record { is_negative = true; amount = (decimal 1) }))) } } ∷ record { line = 5; direction = Input; range = None; name = (codes "y"); kind = record { line = 5; form = (Timed PositiveSample (Some (record { is_negative = true; amount = (decimal 1) }))) } } ∷ []) })) ∷ (item.Program (record { line = 7; name = (codes "p"); block = (record { line = 7; decls = []; stmts = ((s.Step (record { line = 8; target = (post 8 (form.Name (codes "t")) (suffix.Member (codes "a") ∷ [])); change = (change.Assign (x.Postfix (post 8 (form.Number (decimal 1)) []))) })) ∷ (s.Drive (record { line = 9; delay = (Some (record { line = 9; form = (delay_form.Number (decimal 2)) })); signal = (post 9 (form.Name (codes "t")) (suffix.Member (codes "a") ∷ [])); operator = Arrow; value = (x.Postfix (post 9 (form.Number (decimal 0)) [])) })) ∷ (s.Expect (record { line = 10; window = (Some (record { line = 10; kind = window.Full; first = (record { line = 10; form = (delay_form.Number (decimal 1)) }); second = (Some (record { line = 10; form = (delay_form.Number (decimal 2)) })) })); soft_before = false; terms = (record { line = 10; signal = (post 10 (form.Name (codes "t")) (suffix.Member (codes "y") ∷ [])); operator = term.Equal; value = (x.Postfix (post 10 (form.Number (decimal 1)) [])) } ∷ []); soft_after = true })) ∷ (s.Expect (record { line = 11; window = (Some (record { line = 11; kind = window.Restricted; first = (record { line = 11; form = (delay_form.Number (decimal 1)) }); second = (Some (record { line = 11; form = (delay_form.Number (decimal 2)) })) })); soft_before = false; terms = (record { line = 11; signal = (post 11 (form.Name (codes "t")) (suffix.Member (codes "y") ∷ [])); operator = term.Equal; value = (x.Postfix (post 11 (form.Number (decimal 1)) [])) } ∷ []); soft_after = true })) ∷ []) }) })) ∷ [])) }

-- program p { while (1) fork { @(posedge CLOCK); } join none }
--
abbrev pub given_fork_past_65535_threads_check : Row
given_fork_past_65535_threads_check = record { told = Accepted; source = (tree ((item.Program (record { line = 1; name = (codes "p"); block = (record { line = 1; decls = []; stmts = ((s.While (record { line = 1; condition = (x.Postfix (post 1 (form.Number (decimal 1)) [])); body = (s.Fork (record { line = 1; branches = ((s.Block (record { line = 1; decls = []; stmts = ((s.Edge (record { line = 1; negative = false; clock = clock.Clock })) ∷ []) })) ∷ []); join = join.None })) })) ∷ []) }) })) ∷ [])) }

-- program p { event e; trigger(HAND_SHAKE, e); trigger(HAND_SHAKE, e); fork { sync(ANY, e); printf("one\n"); } { sync(ANY, e); printf("two\n"); } join none }
--
abbrev pub given_hand_shake_stays_pending_once_check : Row
given_hand_shake_stays_pending_once_check = record { told = Accepted; source = (tree ((item.Program (record { line = 1; name = (codes "p"); block = (record { line = 1; decls = (record { line = 1; of = (record { line = 1; form = type_form.Event }); variables = (record { line = 1; name = (codes "e"); bracket = bracket.None; value = None } ∷ []) } ∷ []); stmts = ((s.Call (post 1 (form.Name (codes "trigger")) (suffix.Call ((x.Postfix (post 1 (form.Name (codes "HAND_SHAKE")) [])) ∷ (x.Postfix (post 1 (form.Name (codes "e")) [])) ∷ []) ∷ []))) ∷ (s.Call (post 1 (form.Name (codes "trigger")) (suffix.Call ((x.Postfix (post 1 (form.Name (codes "HAND_SHAKE")) [])) ∷ (x.Postfix (post 1 (form.Name (codes "e")) [])) ∷ []) ∷ []))) ∷ (s.Fork (record { line = 1; branches = ((s.Block (record { line = 1; decls = []; stmts = ((s.Call (post 1 (form.Name (codes "sync")) (suffix.Call ((x.Postfix (post 1 (form.Name (codes "ANY")) [])) ∷ (x.Postfix (post 1 (form.Name (codes "e")) [])) ∷ []) ∷ []))) ∷ (s.Call (post 1 (form.Name (codes "printf")) (suffix.Call ((x.Postfix (post 1 (form.Str (111 ∷ 110 ∷ 101 ∷ 10 ∷ [])) [])) ∷ []) ∷ []))) ∷ []) })) ∷ (s.Block (record { line = 1; decls = []; stmts = ((s.Call (post 1 (form.Name (codes "sync")) (suffix.Call ((x.Postfix (post 1 (form.Name (codes "ANY")) [])) ∷ (x.Postfix (post 1 (form.Name (codes "e")) [])) ∷ []) ∷ []))) ∷ (s.Call (post 1 (form.Name (codes "printf")) (suffix.Call ((x.Postfix (post 1 (form.Str (116 ∷ 119 ∷ 111 ∷ 10 ∷ [])) [])) ∷ []) ∷ []))) ∷ []) })) ∷ []); join = join.None })) ∷ []) }) })) ∷ [])) }

-- interface t {
--   input clk CLOCK;
--   output a PHOLD #1;
--   input q PSAMPLE #-1;
--   input y PSAMPLE #-1;
-- }
-- program p {
--   t.a = 1;
--   @2 t.a <= 0;
--   @@1,2 t.y == 1;
-- }
--
abbrev pub given_hard_failed_expect_ends_the_run : Row
given_hard_failed_expect_ends_the_run = record { told = Accepted; source = (tree ((item.Interface (record { line = 1; name = (codes "t"); signals = (record { line = 2; direction = Input; range = None; name = (codes "clk"); kind = record { line = 2; form = Clock } } ∷ record { line = 3; direction = Output; range = None; name = (codes "a"); kind = record { line = 3; form = (Timed PositiveHold (Some (record { is_negative = false; amount = (decimal 1) }))) } } ∷ record { line = 4; direction = Input; range = None; name = (codes "q"); kind = record { line = 4; form = (Timed PositiveSample (Some (record { is_negative = true; amount = (decimal 1) }))) } } ∷ record { line = 5; direction = Input; range = None; name = (codes "y"); kind = record { line = 5; form = (Timed PositiveSample (Some (record { is_negative = true; amount = (decimal 1) }))) } } ∷ []) })) ∷ (item.Program (record { line = 7; name = (codes "p"); block = (record { line = 7; decls = []; stmts = ((s.Step (record { line = 8; target = (post 8 (form.Name (codes "t")) (suffix.Member (codes "a") ∷ [])); change = (change.Assign (x.Postfix (post 8 (form.Number (decimal 1)) []))) })) ∷ (s.Drive (record { line = 9; delay = (Some (record { line = 9; form = (delay_form.Number (decimal 2)) })); signal = (post 9 (form.Name (codes "t")) (suffix.Member (codes "a") ∷ [])); operator = Arrow; value = (x.Postfix (post 9 (form.Number (decimal 0)) [])) })) ∷ (s.Expect (record { line = 10; window = (Some (record { line = 10; kind = window.Full; first = (record { line = 10; form = (delay_form.Number (decimal 1)) }); second = (Some (record { line = 10; form = (delay_form.Number (decimal 2)) })) })); soft_before = false; terms = (record { line = 10; signal = (post 10 (form.Name (codes "t")) (suffix.Member (codes "y") ∷ [])); operator = term.Equal; value = (x.Postfix (post 10 (form.Number (decimal 1)) [])) } ∷ []); soft_after = false })) ∷ []) }) })) ∷ [])) }

-- program p { fork { printf("a\n"); } { printf("b\n"); } join any printf("c\n"); }
--
abbrev pub given_join_any_check : Row
given_join_any_check = record { told = Accepted; source = (tree ((item.Program (record { line = 1; name = (codes "p"); block = (record { line = 1; decls = []; stmts = ((s.Fork (record { line = 1; branches = ((s.Block (record { line = 1; decls = []; stmts = ((s.Call (post 1 (form.Name (codes "printf")) (suffix.Call ((x.Postfix (post 1 (form.Str (97 ∷ 10 ∷ [])) [])) ∷ []) ∷ []))) ∷ []) })) ∷ (s.Block (record { line = 1; decls = []; stmts = ((s.Call (post 1 (form.Name (codes "printf")) (suffix.Call ((x.Postfix (post 1 (form.Str (98 ∷ 10 ∷ [])) [])) ∷ []) ∷ []))) ∷ []) })) ∷ []); join = join.Any })) ∷ (s.Call (post 1 (form.Name (codes "printf")) (suffix.Call ((x.Postfix (post 1 (form.Str (99 ∷ 10 ∷ [])) [])) ∷ []) ∷ []))) ∷ []) }) })) ∷ [])) }

-- interface t {
--   input clk CLOCK;
--   output [1:0] d PHOLD #1;
--   input [1:0] q PSAMPLE #-1;
-- }
-- program p {
--   t.d = 2;
--   @(posedge t.clk);
--   printf("%0d\n", t.q);
--   t.d = 1;
--   t.d = 3;
--   @(posedge CLOCK);
--   printf("%0d\n", t.q);
--   @(posedge CLOCK);
--   printf("%0d\n", t.q);
-- }
--
abbrev pub given_latches_follow_drives_2_cycles : Row
given_latches_follow_drives_2_cycles = record { told = Accepted; source = (tree ((item.Interface (record { line = 1; name = (codes "t"); signals = (record { line = 2; direction = Input; range = None; name = (codes "clk"); kind = record { line = 2; form = Clock } } ∷ record { line = 3; direction = Output; range = (Some (record { line = 3; high = (x.Postfix (post 3 (form.Number (decimal 1)) [])); low = (x.Postfix (post 3 (form.Number (decimal 0)) [])) })); name = (codes "d"); kind = record { line = 3; form = (Timed PositiveHold (Some (record { is_negative = false; amount = (decimal 1) }))) } } ∷ record { line = 4; direction = Input; range = (Some (record { line = 4; high = (x.Postfix (post 4 (form.Number (decimal 1)) [])); low = (x.Postfix (post 4 (form.Number (decimal 0)) [])) })); name = (codes "q"); kind = record { line = 4; form = (Timed PositiveSample (Some (record { is_negative = true; amount = (decimal 1) }))) } } ∷ []) })) ∷ (item.Program (record { line = 6; name = (codes "p"); block = (record { line = 6; decls = []; stmts = ((s.Step (record { line = 7; target = (post 7 (form.Name (codes "t")) (suffix.Member (codes "d") ∷ [])); change = (change.Assign (x.Postfix (post 7 (form.Number (decimal 2)) []))) })) ∷ (s.Edge (record { line = 8; negative = false; clock = (clock.Signal (codes "t") (codes "clk")) })) ∷ (s.Call (post 9 (form.Name (codes "printf")) (suffix.Call ((x.Postfix (post 9 (form.Str (37 ∷ 48 ∷ 100 ∷ 10 ∷ [])) [])) ∷ (x.Postfix (post 9 (form.Name (codes "t")) (suffix.Member (codes "q") ∷ []))) ∷ []) ∷ []))) ∷ (s.Step (record { line = 10; target = (post 10 (form.Name (codes "t")) (suffix.Member (codes "d") ∷ [])); change = (change.Assign (x.Postfix (post 10 (form.Number (decimal 1)) []))) })) ∷ (s.Step (record { line = 11; target = (post 11 (form.Name (codes "t")) (suffix.Member (codes "d") ∷ [])); change = (change.Assign (x.Postfix (post 11 (form.Number (decimal 3)) []))) })) ∷ (s.Edge (record { line = 12; negative = false; clock = clock.Clock })) ∷ (s.Call (post 13 (form.Name (codes "printf")) (suffix.Call ((x.Postfix (post 13 (form.Str (37 ∷ 48 ∷ 100 ∷ 10 ∷ [])) [])) ∷ (x.Postfix (post 13 (form.Name (codes "t")) (suffix.Member (codes "q") ∷ []))) ∷ []) ∷ []))) ∷ (s.Edge (record { line = 14; negative = false; clock = clock.Clock })) ∷ (s.Call (post 15 (form.Name (codes "printf")) (suffix.Call ((x.Postfix (post 15 (form.Str (37 ∷ 48 ∷ 100 ∷ 10 ∷ [])) [])) ∷ (x.Postfix (post 15 (form.Name (codes "t")) (suffix.Member (codes "q") ∷ []))) ∷ []) ∷ []))) ∷ []) }) })) ∷ [])) }

-- program p { integer a; fork { a = 1; } { a = 2; } join none terminate; printf("%0d\n", a); }
--
abbrev pub given_replay_packet_is_late : Row
given_replay_packet_is_late = record { told = Accepted; source = (tree ((item.Program (record { line = 1; name = (codes "p"); block = (record { line = 1; decls = (record { line = 1; of = (record { line = 1; form = type_form.Integer }); variables = (record { line = 1; name = (codes "a"); bracket = bracket.None; value = None } ∷ []) } ∷ []); stmts = ((s.Fork (record { line = 1; branches = ((s.Block (record { line = 1; decls = []; stmts = ((s.Step (record { line = 1; target = (post 1 (form.Name (codes "a")) []); change = (change.Assign (x.Postfix (post 1 (form.Number (decimal 1)) []))) })) ∷ []) })) ∷ (s.Block (record { line = 1; decls = []; stmts = ((s.Step (record { line = 1; target = (post 1 (form.Name (codes "a")) []); change = (change.Assign (x.Postfix (post 1 (form.Number (decimal 2)) []))) })) ∷ []) })) ∷ []); join = join.None })) ∷ (s.Terminate 1) ∷ (s.Call (post 1 (form.Name (codes "printf")) (suffix.Call ((x.Postfix (post 1 (form.Str (37 ∷ 48 ∷ 100 ∷ 10 ∷ [])) [])) ∷ (x.Postfix (post 1 (form.Name (codes "a")) [])) ∷ []) ∷ []))) ∷ []) }) })) ∷ [])) }

-- program p {
--   integer m; integer v;
--   m = alloc(MAILBOX, 0, 1);
--   printf("%0d\n", mailbox_get(NO_WAIT, m, v));
--   mailbox_put(m, "hi");
--   printf("%0d\n", mailbox_get(NO_WAIT, m));
--   mailbox_get(WAIT, m, v);
-- }
--
abbrev pub given_mailbox_item_does_not_fit : Row
given_mailbox_item_does_not_fit = record { told = Accepted; source = (tree ((item.Program (record { line = 1; name = (codes "p"); block = (record { line = 1; decls = (record { line = 2; of = (record { line = 2; form = type_form.Integer }); variables = (record { line = 2; name = (codes "m"); bracket = bracket.None; value = None } ∷ []) } ∷ record { line = 2; of = (record { line = 2; form = type_form.Integer }); variables = (record { line = 2; name = (codes "v"); bracket = bracket.None; value = None } ∷ []) } ∷ []); stmts = ((s.Step (record { line = 3; target = (post 3 (form.Name (codes "m")) []); change = (change.Assign (x.Postfix (post 3 (form.Name (codes "alloc")) (suffix.Call ((x.Postfix (post 3 (form.Name (codes "MAILBOX")) [])) ∷ (x.Postfix (post 3 (form.Number (decimal 0)) [])) ∷ (x.Postfix (post 3 (form.Number (decimal 1)) [])) ∷ []) ∷ [])))) })) ∷ (s.Call (post 4 (form.Name (codes "printf")) (suffix.Call ((x.Postfix (post 4 (form.Str (37 ∷ 48 ∷ 100 ∷ 10 ∷ [])) [])) ∷ (x.Postfix (post 4 (form.Name (codes "mailbox_get")) (suffix.Call ((x.Postfix (post 4 (form.Name (codes "NO_WAIT")) [])) ∷ (x.Postfix (post 4 (form.Name (codes "m")) [])) ∷ (x.Postfix (post 4 (form.Name (codes "v")) [])) ∷ []) ∷ []))) ∷ []) ∷ []))) ∷ (s.Call (post 5 (form.Name (codes "mailbox_put")) (suffix.Call ((x.Postfix (post 5 (form.Name (codes "m")) [])) ∷ (x.Postfix (post 5 (form.Str (104 ∷ 105 ∷ [])) [])) ∷ []) ∷ []))) ∷ (s.Call (post 6 (form.Name (codes "printf")) (suffix.Call ((x.Postfix (post 6 (form.Str (37 ∷ 48 ∷ 100 ∷ 10 ∷ [])) [])) ∷ (x.Postfix (post 6 (form.Name (codes "mailbox_get")) (suffix.Call ((x.Postfix (post 6 (form.Name (codes "NO_WAIT")) [])) ∷ (x.Postfix (post 6 (form.Name (codes "m")) [])) ∷ []) ∷ []))) ∷ []) ∷ []))) ∷ (s.Call (post 7 (form.Name (codes "mailbox_get")) (suffix.Call ((x.Postfix (post 7 (form.Name (codes "WAIT")) [])) ∷ (x.Postfix (post 7 (form.Name (codes "m")) [])) ∷ (x.Postfix (post 7 (form.Name (codes "v")) [])) ∷ []) ∷ []))) ∷ []) }) })) ∷ [])) }

-- program p { integer a, a; a = "s"; }
--
abbrev pub given_name_declared_twice : Row
given_name_declared_twice = record { told = Refused 31 1; source = (tree ((item.Program (record { line = 1; name = (codes "p"); block = (record { line = 1; decls = (record { line = 1; of = (record { line = 1; form = type_form.Integer }); variables = (record { line = 1; name = (codes "a"); bracket = bracket.None; value = None } ∷ record { line = 1; name = (codes "a"); bracket = bracket.None; value = None } ∷ []) } ∷ []); stmts = ((s.Step (record { line = 1; target = (post 1 (form.Name (codes "a")) []); change = (change.Assign (x.Postfix (post 1 (form.Str (115 ∷ [])) []))) })) ∷ []) }) })) ∷ [])) }

-- program p { integer s; s = alloc(SEMAPHORE, 0, 1, 1); fork { semaphore_get(WAIT, s, 2); printf("a\n"); } { semaphore_get(WAIT, s, 1); printf("b\n"); } { semaphore_put(s, 1); } join all }
--
abbrev pub given_oldest_semaphore_waiter_first_check : Row
given_oldest_semaphore_waiter_first_check = record { told = Accepted; source = (tree ((item.Program (record { line = 1; name = (codes "p"); block = (record { line = 1; decls = (record { line = 1; of = (record { line = 1; form = type_form.Integer }); variables = (record { line = 1; name = (codes "s"); bracket = bracket.None; value = None } ∷ []) } ∷ []); stmts = ((s.Step (record { line = 1; target = (post 1 (form.Name (codes "s")) []); change = (change.Assign (x.Postfix (post 1 (form.Name (codes "alloc")) (suffix.Call ((x.Postfix (post 1 (form.Name (codes "SEMAPHORE")) [])) ∷ (x.Postfix (post 1 (form.Number (decimal 0)) [])) ∷ (x.Postfix (post 1 (form.Number (decimal 1)) [])) ∷ (x.Postfix (post 1 (form.Number (decimal 1)) [])) ∷ []) ∷ [])))) })) ∷ (s.Fork (record { line = 1; branches = ((s.Block (record { line = 1; decls = []; stmts = ((s.Call (post 1 (form.Name (codes "semaphore_get")) (suffix.Call ((x.Postfix (post 1 (form.Name (codes "WAIT")) [])) ∷ (x.Postfix (post 1 (form.Name (codes "s")) [])) ∷ (x.Postfix (post 1 (form.Number (decimal 2)) [])) ∷ []) ∷ []))) ∷ (s.Call (post 1 (form.Name (codes "printf")) (suffix.Call ((x.Postfix (post 1 (form.Str (97 ∷ 10 ∷ [])) [])) ∷ []) ∷ []))) ∷ []) })) ∷ (s.Block (record { line = 1; decls = []; stmts = ((s.Call (post 1 (form.Name (codes "semaphore_get")) (suffix.Call ((x.Postfix (post 1 (form.Name (codes "WAIT")) [])) ∷ (x.Postfix (post 1 (form.Name (codes "s")) [])) ∷ (x.Postfix (post 1 (form.Number (decimal 1)) [])) ∷ []) ∷ []))) ∷ (s.Call (post 1 (form.Name (codes "printf")) (suffix.Call ((x.Postfix (post 1 (form.Str (98 ∷ 10 ∷ [])) [])) ∷ []) ∷ []))) ∷ []) })) ∷ (s.Block (record { line = 1; decls = []; stmts = ((s.Call (post 1 (form.Name (codes "semaphore_put")) (suffix.Call ((x.Postfix (post 1 (form.Name (codes "s")) [])) ∷ (x.Postfix (post 1 (form.Number (decimal 1)) [])) ∷ []) ∷ []))) ∷ []) })) ∷ []); join = join.All })) ∷ []) }) })) ∷ [])) }

-- program p { integer a; a = ((((((((((((((((((((((((((((((((((((((((((((((((((((((((((((((((((((((((((((((((((((((((((((((((((1)))))))))))))))))))))))))))))))))))))))))))))))))))))))))))))))))))))))))))))))))))))))))))))))))); }
--
abbrev pub given_parentheses_98_deep : Row
given_parentheses_98_deep = record { told = Accepted; source = (tree ((item.Program (record { line = 1; name = (codes "p"); block = (record { line = 1; decls = (record { line = 1; of = (record { line = 1; form = type_form.Integer }); variables = (record { line = 1; name = (codes "a"); bracket = bracket.None; value = None } ∷ []) } ∷ []); stmts = ((s.Step (record { line = 1; target = (post 1 (form.Name (codes "a")) []); change = (change.Assign (x.Postfix (post 1 (form.Parentheses (x.Postfix (post 1 (form.Parentheses (x.Postfix (post 1 (form.Parentheses (x.Postfix (post 1 (form.Parentheses (x.Postfix (post 1 (form.Parentheses (x.Postfix (post 1 (form.Parentheses (x.Postfix (post 1 (form.Parentheses (x.Postfix (post 1 (form.Parentheses (x.Postfix (post 1 (form.Parentheses (x.Postfix (post 1 (form.Parentheses (x.Postfix (post 1 (form.Parentheses (x.Postfix (post 1 (form.Parentheses (x.Postfix (post 1 (form.Parentheses (x.Postfix (post 1 (form.Parentheses (x.Postfix (post 1 (form.Parentheses (x.Postfix (post 1 (form.Parentheses (x.Postfix (post 1 (form.Parentheses (x.Postfix (post 1 (form.Parentheses (x.Postfix (post 1 (form.Parentheses (x.Postfix (post 1 (form.Parentheses (x.Postfix (post 1 (form.Parentheses (x.Postfix (post 1 (form.Parentheses (x.Postfix (post 1 (form.Parentheses (x.Postfix (post 1 (form.Parentheses (x.Postfix (post 1 (form.Parentheses (x.Postfix (post 1 (form.Parentheses (x.Postfix (post 1 (form.Parentheses (x.Postfix (post 1 (form.Parentheses (x.Postfix (post 1 (form.Parentheses (x.Postfix (post 1 (form.Parentheses (x.Postfix (post 1 (form.Parentheses (x.Postfix (post 1 (form.Parentheses (x.Postfix (post 1 (form.Parentheses (x.Postfix (post 1 (form.Parentheses (x.Postfix (post 1 (form.Parentheses (x.Postfix (post 1 (form.Parentheses (x.Postfix (post 1 (form.Parentheses (x.Postfix (post 1 (form.Parentheses (x.Postfix (post 1 (form.Parentheses (x.Postfix (post 1 (form.Parentheses (x.Postfix (post 1 (form.Parentheses (x.Postfix (post 1 (form.Parentheses (x.Postfix (post 1 (form.Parentheses (x.Postfix (post 1 (form.Parentheses (x.Postfix (post 1 (form.Parentheses (x.Postfix (post 1 (form.Parentheses (x.Postfix (post 1 (form.Parentheses (x.Postfix (post 1 (form.Parentheses (x.Postfix (post 1 (form.Parentheses (x.Postfix (post 1 (form.Parentheses (x.Postfix (post 1 (form.Parentheses (x.Postfix (post 1 (form.Parentheses (x.Postfix (post 1 (form.Parentheses (x.Postfix (post 1 (form.Parentheses (x.Postfix (post 1 (form.Parentheses (x.Postfix (post 1 (form.Parentheses (x.Postfix (post 1 (form.Parentheses (x.Postfix (post 1 (form.Parentheses (x.Postfix (post 1 (form.Parentheses (x.Postfix (post 1 (form.Parentheses (x.Postfix (post 1 (form.Parentheses (x.Postfix (post 1 (form.Parentheses (x.Postfix (post 1 (form.Parentheses (x.Postfix (post 1 (form.Parentheses (x.Postfix (post 1 (form.Parentheses (x.Postfix (post 1 (form.Parentheses (x.Postfix (post 1 (form.Parentheses (x.Postfix (post 1 (form.Parentheses (x.Postfix (post 1 (form.Parentheses (x.Postfix (post 1 (form.Parentheses (x.Postfix (post 1 (form.Parentheses (x.Postfix (post 1 (form.Parentheses (x.Postfix (post 1 (form.Parentheses (x.Postfix (post 1 (form.Parentheses (x.Postfix (post 1 (form.Parentheses (x.Postfix (post 1 (form.Parentheses (x.Postfix (post 1 (form.Parentheses (x.Postfix (post 1 (form.Parentheses (x.Postfix (post 1 (form.Parentheses (x.Postfix (post 1 (form.Parentheses (x.Postfix (post 1 (form.Parentheses (x.Postfix (post 1 (form.Parentheses (x.Postfix (post 1 (form.Parentheses (x.Postfix (post 1 (form.Parentheses (x.Postfix (post 1 (form.Parentheses (x.Postfix (post 1 (form.Parentheses (x.Postfix (post 1 (form.Parentheses (x.Postfix (post 1 (form.Parentheses (x.Postfix (post 1 (form.Parentheses (x.Postfix (post 1 (form.Parentheses (x.Postfix (post 1 (form.Parentheses (x.Postfix (post 1 (form.Parentheses (x.Postfix (post 1 (form.Parentheses (x.Postfix (post 1 (form.Parentheses (x.Postfix (post 1 (form.Parentheses (x.Postfix (post 1 (form.Parentheses (x.Postfix (post 1 (form.Parentheses (x.Postfix (post 1 (form.Parentheses (x.Postfix (post 1 (form.Number (decimal 1)) []))) []))) []))) []))) []))) []))) []))) []))) []))) []))) []))) []))) []))) []))) []))) []))) []))) []))) []))) []))) []))) []))) []))) []))) []))) []))) []))) []))) []))) []))) []))) []))) []))) []))) []))) []))) []))) []))) []))) []))) []))) []))) []))) []))) []))) []))) []))) []))) []))) []))) []))) []))) []))) []))) []))) []))) []))) []))) []))) []))) []))) []))) []))) []))) []))) []))) []))) []))) []))) []))) []))) []))) []))) []))) []))) []))) []))) []))) []))) []))) []))) []))) []))) []))) []))) []))) []))) []))) []))) []))) []))) []))) []))) []))) []))) []))) []))) []))) []))) })) ∷ []) }) })) ∷ [])) }

abbrev pub given_rows_1 : List Row
given_rows_1 = given_trace_arbiter ∷ given_arrays_check ∷ given_budget_9_of_9_ticks ∷ given_calls_check ∷ given_covers_constant_and_off_set ∷ given_dead_waiter_takes_no_hand_shake_check ∷ given_delayed_drive_of_unknown_name_check ∷ given_words_option_before_mode ∷ given_endless_loop_is_spent ∷ given_exit_3 ∷ given_signals_without_netlist ∷ given_fork_past_65535_threads_check ∷ given_hand_shake_stays_pending_once_check ∷ given_hard_failed_expect_ends_the_run ∷ given_join_any_check ∷ given_latches_follow_drives_2_cycles ∷ given_replay_packet_is_late ∷ given_mailbox_item_does_not_fit ∷ given_name_declared_twice ∷ given_oldest_semaphore_waiter_first_check ∷ given_parentheses_98_deep ∷ []
