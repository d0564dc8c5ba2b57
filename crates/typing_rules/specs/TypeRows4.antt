-- Types that do not fit.
use Rattle.std.specs.Prelude.{true, false, List, [], ◌∷◌, Some, None, codes}
use Rattle.vera_ast.specs.declared.tree.declarations.Bracket.TheVariants as bracket
use Rattle.vera_ast.specs.declared.tree.declarations.TypeForm.TheVariants as type_form
use Rattle.vera_ast.specs.declared.tree.expressions.ChainOperator.TheVariants as o
use Rattle.vera_ast.specs.declared.tree.expressions.UnaryOperator.TheVariants as u
use Rattle.vera_ast.specs.declared.tree.expressions.Expr.TheVariants as x
use Rattle.vera_ast.specs.declared.tree.expressions.PrimaryForm.TheVariants as form
use Rattle.vera_ast.specs.declared.tree.expressions.Suffix.TheVariants as suffix
use Rattle.vera_ast.specs.declared.tree.interfaces.Direction.TheVariants.{Input, Output}
use Rattle.vera_ast.specs.declared.tree.interfaces.SignalForm.TheVariants.{Clock, Timed}
use Rattle.vera_ast.specs.declared.tree.interfaces.SignalTime.TheVariants.{PositiveHold, PositiveSample}
use Rattle.vera_ast.specs.declared.tree.items.Item.TheVariants as item
use Rattle.vera_ast.specs.declared.tree.statements.Change.TheVariants as change
use Rattle.vera_ast.specs.declared.tree.statements.DelayForm.TheVariants as delay_form
use Rattle.vera_ast.specs.declared.tree.statements.DriveOperator.TheVariants.{Assign as Plain, Arrow}
use Rattle.vera_ast.specs.declared.tree.statements.Stmt.TheVariants as s
use Rattle.vera_ast.specs.declared.tree.statements.TermOperator.TheVariants as term
use Rattle.vera_ast.specs.declared.tree.statements.WindowKind.TheVariants as window
use Rattle.typing_rules.specs.Sources.{tree, post, decimal}
use Rattle.typing_rules.specs.Told.{Row, Accepted, Refused}

-- program p { semaphore_put("a", 1); }
abbrev pub semaphore_string : Row
semaphore_string = record { told = Refused 32 1; source = (tree ((item.Program (record { line = 1; name = (codes "p"); block = (record { line = 1; decls = []; stmts = ((s.Call (post 1 (form.Name (codes "semaphore_put")) (suffix.Call ((x.Postfix (post 1 (form.Str (97 ∷ [])) [])) ∷ (x.Postfix (post 1 (form.Number (decimal 1)) [])) ∷ []) ∷ []))) ∷ []) }) })) ∷ [])) }

-- enum e = A; program p { string s; e x; mailbox_put(1, "s"); mailbox_put(1, null); mailbox_put(1, A); mailbox_get(COPY_NO_WAIT, 1, s); mailbox_get(NO_WAIT, 1, x); }
abbrev pub mailbox_items : Row
mailbox_items = record { told = Accepted; source = (tree ((item.Enumeration (record { line = 1; name = (codes "e"); values = ((codes "A") ∷ []) })) ∷ (item.Program (record { line = 1; name = (codes "p"); block = (record { line = 1; decls = (record { line = 1; of = (record { line = 1; form = type_form.Str }); variables = (record { line = 1; name = (codes "s"); bracket = bracket.None; value = None } ∷ []) } ∷ record { line = 1; of = (record { line = 1; form = (type_form.Named (codes "e")) }); variables = (record { line = 1; name = (codes "x"); bracket = bracket.None; value = None } ∷ []) } ∷ []); stmts = ((s.Call (post 1 (form.Name (codes "mailbox_put")) (suffix.Call ((x.Postfix (post 1 (form.Number (decimal 1)) [])) ∷ (x.Postfix (post 1 (form.Str (115 ∷ [])) [])) ∷ []) ∷ []))) ∷ (s.Call (post 1 (form.Name (codes "mailbox_put")) (suffix.Call ((x.Postfix (post 1 (form.Number (decimal 1)) [])) ∷ (x.Postfix (post 1 form.Null [])) ∷ []) ∷ []))) ∷ (s.Call (post 1 (form.Name (codes "mailbox_put")) (suffix.Call ((x.Postfix (post 1 (form.Number (decimal 1)) [])) ∷ (x.Postfix (post 1 (form.Name (codes "A")) [])) ∷ []) ∷ []))) ∷ (s.Call (post 1 (form.Name (codes "mailbox_get")) (suffix.Call ((x.Postfix (post 1 (form.Name (codes "COPY_NO_WAIT")) [])) ∷ (x.Postfix (post 1 (form.Number (decimal 1)) [])) ∷ (x.Postfix (post 1 (form.Name (codes "s")) [])) ∷ []) ∷ []))) ∷ (s.Call (post 1 (form.Name (codes "mailbox_get")) (suffix.Call ((x.Postfix (post 1 (form.Name (codes "NO_WAIT")) [])) ∷ (x.Postfix (post 1 (form.Number (decimal 1)) [])) ∷ (x.Postfix (post 1 (form.Name (codes "x")) [])) ∷ []) ∷ []))) ∷ []) }) })) ∷ [])) }

-- program p { event e; mailbox_get(WAIT, 1, e); }
abbrev pub mailbox_get_event : Row
mailbox_get_event = record { told = Refused 32 1; source = (tree ((item.Program (record { line = 1; name = (codes "p"); block = (record { line = 1; decls = (record { line = 1; of = (record { line = 1; form = type_form.Event }); variables = (record { line = 1; name = (codes "e"); bracket = bracket.None; value = None } ∷ []) } ∷ []); stmts = ((s.Call (post 1 (form.Name (codes "mailbox_get")) (suffix.Call ((x.Postfix (post 1 (form.Name (codes "WAIT")) [])) ∷ (x.Postfix (post 1 (form.Number (decimal 1)) [])) ∷ (x.Postfix (post 1 (form.Name (codes "e")) [])) ∷ []) ∷ []))) ∷ []) }) })) ∷ [])) }

-- program p { repeat ("s") ; }
abbrev pub repeat_string : Row
repeat_string = record { told = Refused 32 1; source = (tree ((item.Program (record { line = 1; name = (codes "p"); block = (record { line = 1; decls = []; stmts = ((s.Repeat (record { line = 1; count = (x.Postfix (post 1 (form.Str (115 ∷ [])) [])); body = (s.Empty 1) })) ∷ []) }) })) ∷ [])) }

-- program p { while ("s") ; }
abbrev pub while_string : Row
while_string = record { told = Refused 32 1; source = (tree ((item.Program (record { line = 1; name = (codes "p"); block = (record { line = 1; decls = []; stmts = ((s.While (record { line = 1; condition = (x.Postfix (post 1 (form.Str (115 ∷ [])) [])); body = (s.Empty 1) })) ∷ []) }) })) ∷ [])) }

-- program p { integer a; for (a = 0; "s"; a++) ; }
abbrev pub for_string : Row
for_string = record { told = Refused 32 1; source = (tree ((item.Program (record { line = 1; name = (codes "p"); block = (record { line = 1; decls = (record { line = 1; of = (record { line = 1; form = type_form.Integer }); variables = (record { line = 1; name = (codes "a"); bracket = bracket.None; value = None } ∷ []) } ∷ []); stmts = ((s.For (record { line = 1; start = (record { line = 1; target = (post 1 (form.Name (codes "a")) []); change = (change.Assign (x.Postfix (post 1 (form.Number (decimal 0)) []))) }); condition = (x.Postfix (post 1 (form.Str (115 ∷ [])) [])); step = (record { line = 1; target = (post 1 (form.Name (codes "a")) []); change = change.Increment }); body = (s.Empty 1) })) ∷ []) }) })) ∷ [])) }

-- program p { integer a; for (a = 0;
--  a < 3;
--  zz++) a = "s"; }
abbrev pub for_order : Row
for_order = record { told = Refused 30 3; source = (tree ((item.Program (record { line = 1; name = (codes "p"); block = (record { line = 1; decls = (record { line = 1; of = (record { line = 1; form = type_form.Integer }); variables = (record { line = 1; name = (codes "a"); bracket = bracket.None; value = None } ∷ []) } ∷ []); stmts = ((s.For (record { line = 1; start = (record { line = 1; target = (post 1 (form.Name (codes "a")) []); change = (change.Assign (x.Postfix (post 1 (form.Number (decimal 0)) []))) }); condition = (x.Chain 2 (x.Postfix (post 2 (form.Name (codes "a")) [])) (record { operator = o.Less; operand = (x.Postfix (post 2 (form.Number (decimal 3)) [])) } ∷ [])); step = (record { line = 3; target = (post 3 (form.Name (codes "zz")) []); change = change.Increment }); body = (s.Step (record { line = 3; target = (post 3 (form.Name (codes "a")) []); change = (change.Assign (x.Postfix (post 3 (form.Str (115 ∷ [])) []))) })) })) ∷ []) }) })) ∷ [])) }

-- program p { integer a; a = !"s"; }
abbrev pub not_of_string : Row
not_of_string = record { told = Refused 32 1; source = (tree ((item.Program (record { line = 1; name = (codes "p"); block = (record { line = 1; decls = (record { line = 1; of = (record { line = 1; form = type_form.Integer }); variables = (record { line = 1; name = (codes "a"); bracket = bracket.None; value = None } ∷ []) } ∷ []); stmts = ((s.Step (record { line = 1; target = (post 1 (form.Name (codes "a")) []); change = (change.Assign (x.Unary (record { line = 1; operator = u.LogicalNot; operand = (x.Postfix (post 1 (form.Str (115 ∷ [])) [])) }))) })) ∷ []) }) })) ∷ [])) }

-- enum e = A; program p { integer a; a = -A + ~A + &A; }
abbrev pub unary_enum : Row
unary_enum = record { told = Accepted; source = (tree ((item.Enumeration (record { line = 1; name = (codes "e"); values = ((codes "A") ∷ []) })) ∷ (item.Program (record { line = 1; name = (codes "p"); block = (record { line = 1; decls = (record { line = 1; of = (record { line = 1; form = type_form.Integer }); variables = (record { line = 1; name = (codes "a"); bracket = bracket.None; value = None } ∷ []) } ∷ []); stmts = ((s.Step (record { line = 1; target = (post 1 (form.Name (codes "a")) []); change = (change.Assign (x.Chain 1 (x.Unary (record { line = 1; operator = u.Minus; operand = (x.Postfix (post 1 (form.Name (codes "A")) [])) })) (record { operator = o.Add; operand = (x.Unary (record { line = 1; operator = u.Not; operand = (x.Postfix (post 1 (form.Name (codes "A")) [])) })) } ∷ record { operator = o.Add; operand = (x.Unary (record { line = 1; operator = u.And; operand = (x.Postfix (post 1 (form.Name (codes "A")) [])) })) } ∷ []))) })) ∷ []) }) })) ∷ [])) }

-- program p { integer a; a = {2{"s"}}; }
abbrev pub strings_to_vector : Row
strings_to_vector = record { told = Refused 32 1; source = (tree ((item.Program (record { line = 1; name = (codes "p"); block = (record { line = 1; decls = (record { line = 1; of = (record { line = 1; form = type_form.Integer }); variables = (record { line = 1; name = (codes "a"); bracket = bracket.None; value = None } ∷ []) } ∷ []); stmts = ((s.Step (record { line = 1; target = (post 1 (form.Name (codes "a")) []); change = (change.Assign (x.Postfix (post 1 (form.Replication (x.Postfix (post 1 (form.Number (decimal 2)) [])) ((x.Postfix (post 1 (form.Str (115 ∷ [])) [])) ∷ [])) []))) })) ∷ []) }) })) ∷ [])) }

-- interface i { input clk CLOCK; output [3:0] b PHOLD #1; input [3:0] q PSAMPLE #-1; }
-- program p { i.b[1:0] <= 1; }
abbrev pub signal_bits_arrow : Row
signal_bits_arrow = record { told = Refused 32 2; source = (tree ((item.Interface (record { line = 1; name = (codes "i"); signals = (record { line = 1; direction = Input; range = None; name = (codes "clk"); kind = record { line = 1; form = Clock } } ∷ record { line = 1; direction = Output; range = (Some (record { line = 1; high = (x.Postfix (post 1 (form.Number (decimal 3)) [])); low = (x.Postfix (post 1 (form.Number (decimal 0)) [])) })); name = (codes "b"); kind = record { line = 1; form = (Timed PositiveHold (Some (record { is_negative = false; amount = (decimal 1) }))) } } ∷ record { line = 1; direction = Input; range = (Some (record { line = 1; high = (x.Postfix (post 1 (form.Number (decimal 3)) [])); low = (x.Postfix (post 1 (form.Number (decimal 0)) [])) })); name = (codes "q"); kind = record { line = 1; form = (Timed PositiveSample (Some (record { is_negative = true; amount = (decimal 1) }))) } } ∷ []) })) ∷ (item.Program (record { line = 2; name = (codes "p"); block = (record { line = 2; decls = []; stmts = ((s.Drive (record { line = 2; delay = None; signal = (post 2 (form.Name (codes "i")) (suffix.Member (codes "b") ∷ suffix.Bits (x.Postfix (post 2 (form.Number (decimal 1)) [])) (x.Postfix (post 2 (form.Number (decimal 0)) [])) ∷ [])); operator = Arrow; value = (x.Postfix (post 2 (form.Number (decimal 1)) [])) })) ∷ []) }) })) ∷ [])) }

-- interface i { input clk CLOCK; output [3:0] b PHOLD #1; input [3:0] q PSAMPLE #-1; }
-- program p { @("s") i.b = 1; }
abbrev pub delay_string : Row
delay_string = record { told = Refused 32 2; source = (tree ((item.Interface (record { line = 1; name = (codes "i"); signals = (record { line = 1; direction = Input; range = None; name = (codes "clk"); kind = record { line = 1; form = Clock } } ∷ record { line = 1; direction = Output; range = (Some (record { line = 1; high = (x.Postfix (post 1 (form.Number (decimal 3)) [])); low = (x.Postfix (post 1 (form.Number (decimal 0)) [])) })); name = (codes "b"); kind = record { line = 1; form = (Timed PositiveHold (Some (record { is_negative = false; amount = (decimal 1) }))) } } ∷ record { line = 1; direction = Input; range = (Some (record { line = 1; high = (x.Postfix (post 1 (form.Number (decimal 3)) [])); low = (x.Postfix (post 1 (form.Number (decimal 0)) [])) })); name = (codes "q"); kind = record { line = 1; form = (Timed PositiveSample (Some (record { is_negative = true; amount = (decimal 1) }))) } } ∷ []) })) ∷ (item.Program (record { line = 2; name = (codes "p"); block = (record { line = 2; decls = []; stmts = ((s.Drive (record { line = 2; delay = (Some (record { line = 2; form = (delay_form.Parentheses (x.Postfix (post 2 (form.Str (115 ∷ [])) []))) })); signal = (post 2 (form.Name (codes "i")) (suffix.Member (codes "b") ∷ [])); operator = Plain; value = (x.Postfix (post 2 (form.Number (decimal 1)) [])) })) ∷ []) }) })) ∷ [])) }

-- interface i { input clk CLOCK; output [3:0] b PHOLD #1; input [3:0] q PSAMPLE #-1; }
-- program p { @1,("s") i.q == 1; }
abbrev pub window_string : Row
window_string = record { told = Refused 32 2; source = (tree ((item.Interface (record { line = 1; name = (codes "i"); signals = (record { line = 1; direction = Input; range = None; name = (codes "clk"); kind = record { line = 1; form = Clock } } ∷ record { line = 1; direction = Output; range = (Some (record { line = 1; high = (x.Postfix (post 1 (form.Number (decimal 3)) [])); low = (x.Postfix (post 1 (form.Number (decimal 0)) [])) })); name = (codes "b"); kind = record { line = 1; form = (Timed PositiveHold (Some (record { is_negative = false; amount = (decimal 1) }))) } } ∷ record { line = 1; direction = Input; range = (Some (record { line = 1; high = (x.Postfix (post 1 (form.Number (decimal 3)) [])); low = (x.Postfix (post 1 (form.Number (decimal 0)) [])) })); name = (codes "q"); kind = record { line = 1; form = (Timed PositiveSample (Some (record { is_negative = true; amount = (decimal 1) }))) } } ∷ []) })) ∷ (item.Program (record { line = 2; name = (codes "p"); block = (record { line = 2; decls = []; stmts = ((s.Expect (record { line = 2; window = (Some (record { line = 2; kind = window.Simple; first = (record { line = 2; form = (delay_form.Number (decimal 1)) }); second = (Some (record { line = 2; form = (delay_form.Parentheses (x.Postfix (post 2 (form.Str (115 ∷ [])) []))) })) })); soft_before = false; terms = (record { line = 2; signal = (post 2 (form.Name (codes "i")) (suffix.Member (codes "q") ∷ [])); operator = term.Equal; value = (x.Postfix (post 2 (form.Number (decimal 1)) [])) } ∷ []); soft_after = false })) ∷ []) }) })) ∷ [])) }

-- interface i { input clk CLOCK; output [3:0] b PHOLD #1; input [3:0] q PSAMPLE #-1; }
-- program p { i.q == "s"; }
abbrev pub term_string : Row
term_string = record { told = Refused 32 2; source = (tree ((item.Interface (record { line = 1; name = (codes "i"); signals = (record { line = 1; direction = Input; range = None; name = (codes "clk"); kind = record { line = 1; form = Clock } } ∷ record { line = 1; direction = Output; range = (Some (record { line = 1; high = (x.Postfix (post 1 (form.Number (decimal 3)) [])); low = (x.Postfix (post 1 (form.Number (decimal 0)) [])) })); name = (codes "b"); kind = record { line = 1; form = (Timed PositiveHold (Some (record { is_negative = false; amount = (decimal 1) }))) } } ∷ record { line = 1; direction = Input; range = (Some (record { line = 1; high = (x.Postfix (post 1 (form.Number (decimal 3)) [])); low = (x.Postfix (post 1 (form.Number (decimal 0)) [])) })); name = (codes "q"); kind = record { line = 1; form = (Timed PositiveSample (Some (record { is_negative = true; amount = (decimal 1) }))) } } ∷ []) })) ∷ (item.Program (record { line = 2; name = (codes "p"); block = (record { line = 2; decls = []; stmts = ((s.Expect (record { line = 2; window = None; soft_before = false; terms = (record { line = 2; signal = (post 2 (form.Name (codes "i")) (suffix.Member (codes "q") ∷ [])); operator = term.Equal; value = (x.Postfix (post 2 (form.Str (115 ∷ [])) [])) } ∷ []); soft_after = false })) ∷ []) }) })) ∷ [])) }

-- enum e = A, N; program p { integer N; bit [N:0] v; }
abbrev pub enum_name_hidden_in_range : Row
enum_name_hidden_in_range = record { told = Refused 32 1; source = (tree ((item.Enumeration (record { line = 1; name = (codes "e"); values = ((codes "A") ∷ (codes "N") ∷ []) })) ∷ (item.Program (record { line = 1; name = (codes "p"); block = (record { line = 1; decls = (record { line = 1; of = (record { line = 1; form = type_form.Integer }); variables = (record { line = 1; name = (codes "N"); bracket = bracket.None; value = None } ∷ []) } ∷ record { line = 1; of = (record { line = 1; form = (type_form.Bit (Some (record { line = 1; high = (x.Postfix (post 1 (form.Name (codes "N")) [])); low = (x.Postfix (post 1 (form.Number (decimal 0)) [])) }))) }); variables = (record { line = 1; name = (codes "v"); bracket = bracket.None; value = None } ∷ []) } ∷ []); stmts = [] }) })) ∷ [])) }

-- enum e = A, N; program p { bit [N:0] v; { integer N; v[1:0] = N; } }
abbrev pub enum_name_in_range : Row
enum_name_in_range = record { told = Accepted; source = (tree ((item.Enumeration (record { line = 1; name = (codes "e"); values = ((codes "A") ∷ (codes "N") ∷ []) })) ∷ (item.Program (record { line = 1; name = (codes "p"); block = (record { line = 1; decls = (record { line = 1; of = (record { line = 1; form = (type_form.Bit (Some (record { line = 1; high = (x.Postfix (post 1 (form.Name (codes "N")) [])); low = (x.Postfix (post 1 (form.Number (decimal 0)) [])) }))) }); variables = (record { line = 1; name = (codes "v"); bracket = bracket.None; value = None } ∷ []) } ∷ []); stmts = ((s.Block (record { line = 1; decls = (record { line = 1; of = (record { line = 1; form = type_form.Integer }); variables = (record { line = 1; name = (codes "N"); bracket = bracket.None; value = None } ∷ []) } ∷ []); stmts = ((s.Step (record { line = 1; target = (post 1 (form.Name (codes "v")) (suffix.Bits (x.Postfix (post 1 (form.Number (decimal 1)) [])) (x.Postfix (post 1 (form.Number (decimal 0)) [])) ∷ [])); change = (change.Assign (x.Postfix (post 1 (form.Name (codes "N")) []))) })) ∷ []) })) ∷ []) }) })) ∷ [])) }

-- enum e = A, N; program p { { integer N;
--  bit [N:0] v; } }
abbrev pub enum_name_hidden_in_block : Row
enum_name_hidden_in_block = record { told = Refused 32 2; source = (tree ((item.Enumeration (record { line = 1; name = (codes "e"); values = ((codes "A") ∷ (codes "N") ∷ []) })) ∷ (item.Program (record { line = 1; name = (codes "p"); block = (record { line = 1; decls = []; stmts = ((s.Block (record { line = 1; decls = (record { line = 1; of = (record { line = 1; form = type_form.Integer }); variables = (record { line = 1; name = (codes "N"); bracket = bracket.None; value = None } ∷ []) } ∷ record { line = 2; of = (record { line = 2; form = (type_form.Bit (Some (record { line = 2; high = (x.Postfix (post 2 (form.Name (codes "N")) [])); low = (x.Postfix (post 2 (form.Number (decimal 0)) [])) }))) }); variables = (record { line = 2; name = (codes "v"); bracket = bracket.None; value = None } ∷ []) } ∷ []); stmts = [] })) ∷ []) }) })) ∷ [])) }

-- enum e = A; program p { A(1); }
abbrev pub enum_name_called : Row
enum_name_called = record { told = Refused 32 1; source = (tree ((item.Enumeration (record { line = 1; name = (codes "e"); values = ((codes "A") ∷ []) })) ∷ (item.Program (record { line = 1; name = (codes "p"); block = (record { line = 1; decls = []; stmts = ((s.Call (post 1 (form.Name (codes "A")) (suffix.Call ((x.Postfix (post 1 (form.Number (decimal 1)) [])) ∷ []) ∷ []))) ∷ []) }) })) ∷ [])) }

-- interface i { input clk CLOCK; output [3:0] b PHOLD #1; input [3:0] q PSAMPLE #-1; }
-- program p { integer a; a = i; }
abbrev pub interface_as_value : Row
interface_as_value = record { told = Refused 32 2; source = (tree ((item.Interface (record { line = 1; name = (codes "i"); signals = (record { line = 1; direction = Input; range = None; name = (codes "clk"); kind = record { line = 1; form = Clock } } ∷ record { line = 1; direction = Output; range = (Some (record { line = 1; high = (x.Postfix (post 1 (form.Number (decimal 3)) [])); low = (x.Postfix (post 1 (form.Number (decimal 0)) [])) })); name = (codes "b"); kind = record { line = 1; form = (Timed PositiveHold (Some (record { is_negative = false; amount = (decimal 1) }))) } } ∷ record { line = 1; direction = Input; range = (Some (record { line = 1; high = (x.Postfix (post 1 (form.Number (decimal 3)) [])); low = (x.Postfix (post 1 (form.Number (decimal 0)) [])) })); name = (codes "q"); kind = record { line = 1; form = (Timed PositiveSample (Some (record { is_negative = true; amount = (decimal 1) }))) } } ∷ []) })) ∷ (item.Program (record { line = 2; name = (codes "p"); block = (record { line = 2; decls = (record { line = 2; of = (record { line = 2; form = type_form.Integer }); variables = (record { line = 2; name = (codes "a"); bracket = bracket.None; value = None } ∷ []) } ∷ []); stmts = ((s.Step (record { line = 2; target = (post 2 (form.Name (codes "a")) []); change = (change.Assign (x.Postfix (post 2 (form.Name (codes "i")) []))) })) ∷ []) }) })) ∷ [])) }

-- interface i { input clk CLOCK; output [3:0] b PHOLD #1; input [3:0] q PSAMPLE #-1; }
-- program p { i(1); }
abbrev pub interface_called : Row
interface_called = record { told = Refused 32 2; source = (tree ((item.Interface (record { line = 1; name = (codes "i"); signals = (record { line = 1; direction = Input; range = None; name = (codes "clk"); kind = record { line = 1; form = Clock } } ∷ record { line = 1; direction = Output; range = (Some (record { line = 1; high = (x.Postfix (post 1 (form.Number (decimal 3)) [])); low = (x.Postfix (post 1 (form.Number (decimal 0)) [])) })); name = (codes "b"); kind = record { line = 1; form = (Timed PositiveHold (Some (record { is_negative = false; amount = (decimal 1) }))) } } ∷ record { line = 1; direction = Input; range = (Some (record { line = 1; high = (x.Postfix (post 1 (form.Number (decimal 3)) [])); low = (x.Postfix (post 1 (form.Number (decimal 0)) [])) })); name = (codes "q"); kind = record { line = 1; form = (Timed PositiveSample (Some (record { is_negative = true; amount = (decimal 1) }))) } } ∷ []) })) ∷ (item.Program (record { line = 2; name = (codes "p"); block = (record { line = 2; decls = []; stmts = ((s.Call (post 2 (form.Name (codes "i")) (suffix.Call ((x.Postfix (post 2 (form.Number (decimal 1)) [])) ∷ []) ∷ []))) ∷ []) }) })) ∷ [])) }

-- interface i { input clk CLOCK; output [3:0] b PHOLD #1; input [3:0] q PSAMPLE #-1; }
-- program p { integer a; a = i.q.x; }
abbrev pub signal_member : Row
signal_member = record { told = Refused 32 2; source = (tree ((item.Interface (record { line = 1; name = (codes "i"); signals = (record { line = 1; direction = Input; range = None; name = (codes "clk"); kind = record { line = 1; form = Clock } } ∷ record { line = 1; direction = Output; range = (Some (record { line = 1; high = (x.Postfix (post 1 (form.Number (decimal 3)) [])); low = (x.Postfix (post 1 (form.Number (decimal 0)) [])) })); name = (codes "b"); kind = record { line = 1; form = (Timed PositiveHold (Some (record { is_negative = false; amount = (decimal 1) }))) } } ∷ record { line = 1; direction = Input; range = (Some (record { line = 1; high = (x.Postfix (post 1 (form.Number (decimal 3)) [])); low = (x.Postfix (post 1 (form.Number (decimal 0)) [])) })); name = (codes "q"); kind = record { line = 1; form = (Timed PositiveSample (Some (record { is_negative = true; amount = (decimal 1) }))) } } ∷ []) })) ∷ (item.Program (record { line = 2; name = (codes "p"); block = (record { line = 2; decls = (record { line = 2; of = (record { line = 2; form = type_form.Integer }); variables = (record { line = 2; name = (codes "a"); bracket = bracket.None; value = None } ∷ []) } ∷ []); stmts = ((s.Step (record { line = 2; target = (post 2 (form.Name (codes "a")) []); change = (change.Assign (x.Postfix (post 2 (form.Name (codes "i")) (suffix.Member (codes "q") ∷ suffix.Member (codes "x") ∷ [])))) })) ∷ []) }) })) ∷ [])) }

-- interface i { input clk CLOCK; output [3:0] b PHOLD #1; input [3:0] q PSAMPLE #-1; }
-- program p { integer a; a = i.q(1); }
abbrev pub signal_called : Row
signal_called = record { told = Refused 32 2; source = (tree ((item.Interface (record { line = 1; name = (codes "i"); signals = (record { line = 1; direction = Input; range = None; name = (codes "clk"); kind = record { line = 1; form = Clock } } ∷ record { line = 1; direction = Output; range = (Some (record { line = 1; high = (x.Postfix (post 1 (form.Number (decimal 3)) [])); low = (x.Postfix (post 1 (form.Number (decimal 0)) [])) })); name = (codes "b"); kind = record { line = 1; form = (Timed PositiveHold (Some (record { is_negative = false; amount = (decimal 1) }))) } } ∷ record { line = 1; direction = Input; range = (Some (record { line = 1; high = (x.Postfix (post 1 (form.Number (decimal 3)) [])); low = (x.Postfix (post 1 (form.Number (decimal 0)) [])) })); name = (codes "q"); kind = record { line = 1; form = (Timed PositiveSample (Some (record { is_negative = true; amount = (decimal 1) }))) } } ∷ []) })) ∷ (item.Program (record { line = 2; name = (codes "p"); block = (record { line = 2; decls = (record { line = 2; of = (record { line = 2; form = type_form.Integer }); variables = (record { line = 2; name = (codes "a"); bracket = bracket.None; value = None } ∷ []) } ∷ []); stmts = ((s.Step (record { line = 2; target = (post 2 (form.Name (codes "a")) []); change = (change.Assign (x.Postfix (post 2 (form.Name (codes "i")) (suffix.Member (codes "q") ∷ suffix.Call ((x.Postfix (post 2 (form.Number (decimal 1)) [])) ∷ []) ∷ [])))) })) ∷ []) }) })) ∷ [])) }

-- program p { integer a; a = p; }
abbrev pub program_as_value : Row
program_as_value = record { told = Refused 32 1; source = (tree ((item.Program (record { line = 1; name = (codes "p"); block = (record { line = 1; decls = (record { line = 1; of = (record { line = 1; form = type_form.Integer }); variables = (record { line = 1; name = (codes "a"); bracket = bracket.None; value = None } ∷ []) } ∷ []); stmts = ((s.Step (record { line = 1; target = (post 1 (form.Name (codes "a")) []); change = (change.Assign (x.Postfix (post 1 (form.Name (codes "p")) []))) })) ∷ []) }) })) ∷ [])) }

-- enum e = A; enum f = B; program p { integer a; a = A == B; a = A << 2; }
abbrev pub enums_compared : Row
enums_compared = record { told = Accepted; source = (tree ((item.Enumeration (record { line = 1; name = (codes "e"); values = ((codes "A") ∷ []) })) ∷ (item.Enumeration (record { line = 1; name = (codes "f"); values = ((codes "B") ∷ []) })) ∷ (item.Program (record { line = 1; name = (codes "p"); block = (record { line = 1; decls = (record { line = 1; of = (record { line = 1; form = type_form.Integer }); variables = (record { line = 1; name = (codes "a"); bracket = bracket.None; value = None } ∷ []) } ∷ []); stmts = ((s.Step (record { line = 1; target = (post 1 (form.Name (codes "a")) []); change = (change.Assign (x.Chain 1 (x.Postfix (post 1 (form.Name (codes "A")) [])) (record { operator = o.Equal; operand = (x.Postfix (post 1 (form.Name (codes "B")) [])) } ∷ []))) })) ∷ (s.Step (record { line = 1; target = (post 1 (form.Name (codes "a")) []); change = (change.Assign (x.Chain 1 (x.Postfix (post 1 (form.Name (codes "A")) [])) (record { operator = o.ShiftLeft; operand = (x.Postfix (post 1 (form.Number (decimal 2)) [])) } ∷ []))) })) ∷ []) }) })) ∷ [])) }

-- program p { integer a; a = null + 1; }
abbrev pub null_in_arithmetic : Row
null_in_arithmetic = record { told = Refused 32 1; source = (tree ((item.Program (record { line = 1; name = (codes "p"); block = (record { line = 1; decls = (record { line = 1; of = (record { line = 1; form = type_form.Integer }); variables = (record { line = 1; name = (codes "a"); bracket = bracket.None; value = None } ∷ []) } ∷ []); stmts = ((s.Step (record { line = 1; target = (post 1 (form.Name (codes "a")) []); change = (change.Assign (x.Chain 1 (x.Postfix (post 1 form.Null [])) (record { operator = o.Add; operand = (x.Postfix (post 1 (form.Number (decimal 1)) [])) } ∷ []))) })) ∷ []) }) })) ∷ [])) }

-- program p { integer a; a = "s" == null; }
abbrev pub string_and_null : Row
string_and_null = record { told = Refused 32 1; source = (tree ((item.Program (record { line = 1; name = (codes "p"); block = (record { line = 1; decls = (record { line = 1; of = (record { line = 1; form = type_form.Integer }); variables = (record { line = 1; name = (codes "a"); bracket = bracket.None; value = None } ∷ []) } ∷ []); stmts = ((s.Step (record { line = 1; target = (post 1 (form.Name (codes "a")) []); change = (change.Assign (x.Chain 1 (x.Postfix (post 1 (form.Str (115 ∷ [])) [])) (record { operator = o.Equal; operand = (x.Postfix (post 1 form.Null [])) } ∷ []))) })) ∷ []) }) })) ∷ [])) }

-- program p { event e; integer a; a = e == e; }
abbrev pub event_compared : Row
event_compared = record { told = Refused 32 1; source = (tree ((item.Program (record { line = 1; name = (codes "p"); block = (record { line = 1; decls = (record { line = 1; of = (record { line = 1; form = type_form.Event }); variables = (record { line = 1; name = (codes "e"); bracket = bracket.None; value = None } ∷ []) } ∷ record { line = 1; of = (record { line = 1; form = type_form.Integer }); variables = (record { line = 1; name = (codes "a"); bracket = bracket.None; value = None } ∷ []) } ∷ []); stmts = ((s.Step (record { line = 1; target = (post 1 (form.Name (codes "a")) []); change = (change.Assign (x.Chain 1 (x.Postfix (post 1 (form.Name (codes "e")) [])) (record { operator = o.Equal; operand = (x.Postfix (post 1 (form.Name (codes "e")) [])) } ∷ []))) })) ∷ []) }) })) ∷ [])) }

-- program p { event e; e; 1; "s"; void = e; }
abbrev pub event_dropped : Row
event_dropped = record { told = Accepted; source = (tree ((item.Program (record { line = 1; name = (codes "p"); block = (record { line = 1; decls = (record { line = 1; of = (record { line = 1; form = type_form.Event }); variables = (record { line = 1; name = (codes "e"); bracket = bracket.None; value = None } ∷ []) } ∷ []); stmts = ((s.Call (post 1 (form.Name (codes "e")) [])) ∷ (s.Call (post 1 (form.Number (decimal 1)) [])) ∷ (s.Call (post 1 (form.Str (115 ∷ [])) [])) ∷ (s.Void (record { line = 1; value = (post 1 (form.Name (codes "e")) []) })) ∷ []) }) })) ∷ [])) }

-- program p { integer a; a = new(1); }
abbrev pub new_called : Row
new_called = record { told = Refused 32 1; source = (tree ((item.Program (record { line = 1; name = (codes "p"); block = (record { line = 1; decls = (record { line = 1; of = (record { line = 1; form = type_form.Integer }); variables = (record { line = 1; name = (codes "a"); bracket = bracket.None; value = None } ∷ []) } ∷ []); stmts = ((s.Step (record { line = 1; target = (post 1 (form.Name (codes "a")) []); change = (change.Assign (x.Postfix (post 1 form.New (suffix.Call ((x.Postfix (post 1 (form.Number (decimal 1)) [])) ∷ []) ∷ [])))) })) ∷ []) }) })) ∷ [])) }

-- program p { integer a[2]; a[semaphore_get(WAIT, 1, 1)] = 1; }
abbrev pub nested_wait_in_index : Row
nested_wait_in_index = record { told = Refused 35 1; source = (tree ((item.Program (record { line = 1; name = (codes "p"); block = (record { line = 1; decls = (record { line = 1; of = (record { line = 1; form = type_form.Integer }); variables = (record { line = 1; name = (codes "a"); bracket = (bracket.Fixed (x.Postfix (post 1 (form.Number (decimal 2)) []))); value = None } ∷ []) } ∷ []); stmts = ((s.Step (record { line = 1; target = (post 1 (form.Name (codes "a")) (suffix.Index (x.Postfix (post 1 (form.Name (codes "semaphore_get")) (suffix.Call ((x.Postfix (post 1 (form.Name (codes "WAIT")) [])) ∷ (x.Postfix (post 1 (form.Number (decimal 1)) [])) ∷ (x.Postfix (post 1 (form.Number (decimal 1)) [])) ∷ []) ∷ []))) ∷ [])); change = (change.Assign (x.Postfix (post 1 (form.Number (decimal 1)) []))) })) ∷ []) }) })) ∷ [])) }

abbrev pub type_rows4 : List Row
type_rows4 = semaphore_string ∷ mailbox_items ∷ mailbox_get_event ∷ repeat_string ∷ while_string ∷ for_string ∷ for_order ∷ not_of_string ∷ unary_enum ∷ strings_to_vector ∷ signal_bits_arrow ∷ delay_string ∷ window_string ∷ term_string ∷ enum_name_hidden_in_range ∷ enum_name_in_range ∷ enum_name_hidden_in_block ∷ enum_name_called ∷ interface_as_value ∷ interface_called ∷ signal_member ∷ signal_called ∷ program_as_value ∷ enums_compared ∷ null_in_arithmetic ∷ string_and_null ∷ event_compared ∷ event_dropped ∷ new_called ∷ nested_wait_in_index ∷ []
