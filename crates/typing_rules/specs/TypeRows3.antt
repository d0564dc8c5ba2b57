-- Types that do not fit.
use Rattle.std.specs.Prelude.{true, false, List, [], ◌∷◌, Some, None, codes}
use Rattle.four_state.specs.declared.bit.Bit.TheVariants.{Zero, One}
use Rattle.vera_ast.specs.declared.tree.declarations.Bracket.TheVariants as bracket
use Rattle.vera_ast.specs.declared.tree.declarations.TypeForm.TheVariants as type_form
use Rattle.vera_ast.specs.declared.tree.expressions.Expr.TheVariants as x
use Rattle.vera_ast.specs.declared.tree.expressions.PrimaryForm.TheVariants as form
use Rattle.vera_ast.specs.declared.tree.expressions.Suffix.TheVariants as suffix
use Rattle.vera_ast.specs.declared.tree.interfaces.Direction.TheVariants.{Input, Output}
use Rattle.vera_ast.specs.declared.tree.interfaces.SignalForm.TheVariants.{Clock, Timed}
use Rattle.vera_ast.specs.declared.tree.interfaces.SignalTime.TheVariants.{PositiveHold, PositiveSample}
use Rattle.vera_ast.specs.declared.tree.items.Item.TheVariants as item
use Rattle.vera_ast.specs.declared.tree.items.TaskName.TheVariants.{Named}
use Rattle.vera_ast.specs.declared.tree.statements.ArmLabel.TheVariants as label
use Rattle.vera_ast.specs.declared.tree.statements.Change.TheVariants as change
use Rattle.vera_ast.specs.declared.tree.statements.Stmt.TheVariants as s
use Rattle.vera_ast.specs.declared.tree.statements.TermOperator.TheVariants as term
use Rattle.typing_rules.specs.Sources.{tree, post, decimal, based}
use Rattle.typing_rules.specs.Told.{Row, Accepted, Refused}

-- interface i { input clk CLOCK; output [3:0] b PHOLD #1; input [3:0] q PSAMPLE #-1; }
-- program p { i.b[0] == 1; }
abbrev pub expect_bits : Row
expect_bits = record { told = Refused 32 2; source = (tree ((item.Interface (record { line = 1; name = (codes "i"); signals = (record { line = 1; direction = Input; range = None; name = (codes "clk"); kind = record { line = 1; form = Clock } } ∷ record { line = 1; direction = Output; range = (Some (record { line = 1; high = (x.Postfix (post 1 (form.Number (decimal 3)) [])); low = (x.Postfix (post 1 (form.Number (decimal 0)) [])) })); name = (codes "b"); kind = record { line = 1; form = (Timed PositiveHold (Some (record { is_negative = false; amount = (decimal 1) }))) } } ∷ record { line = 1; direction = Input; range = (Some (record { line = 1; high = (x.Postfix (post 1 (form.Number (decimal 3)) [])); low = (x.Postfix (post 1 (form.Number (decimal 0)) [])) })); name = (codes "q"); kind = record { line = 1; form = (Timed PositiveSample (Some (record { is_negative = true; amount = (decimal 1) }))) } } ∷ []) })) ∷ (item.Program (record { line = 2; name = (codes "p"); block = (record { line = 2; decls = []; stmts = ((s.Expect (record { line = 2; window = None; soft_before = false; terms = (record { line = 2; signal = (post 2 (form.Name (codes "i")) (suffix.Member (codes "b") ∷ suffix.Index (x.Postfix (post 2 (form.Number (decimal 0)) [])) ∷ [])); operator = term.Equal; value = (x.Postfix (post 2 (form.Number (decimal 1)) [])) } ∷ []); soft_after = false })) ∷ []) }) })) ∷ [])) }

-- program p { integer a; a == 1; }
abbrev pub expect_variable : Row
expect_variable = record { told = Refused 32 1; source = (tree ((item.Program (record { line = 1; name = (codes "p"); block = (record { line = 1; decls = (record { line = 1; of = (record { line = 1; form = type_form.Integer }); variables = (record { line = 1; name = (codes "a"); bracket = bracket.None; value = None } ∷ []) } ∷ []); stmts = ((s.Expect (record { line = 1; window = None; soft_before = false; terms = (record { line = 1; signal = (post 1 (form.Name (codes "a")) []); operator = term.Equal; value = (x.Postfix (post 1 (form.Number (decimal 1)) [])) } ∷ []); soft_after = false })) ∷ []) }) })) ∷ [])) }

-- enum e = A; program p { integer e; { e x; } }
abbrev pub type_hidden : Row
type_hidden = record { told = Refused 32 1; source = (tree ((item.Enumeration (record { line = 1; name = (codes "e"); values = ((codes "A") ∷ []) })) ∷ (item.Program (record { line = 1; name = (codes "p"); block = (record { line = 1; decls = (record { line = 1; of = (record { line = 1; form = type_form.Integer }); variables = (record { line = 1; name = (codes "e"); bracket = bracket.None; value = None } ∷ []) } ∷ []); stmts = ((s.Block (record { line = 1; decls = (record { line = 1; of = (record { line = 1; form = (type_form.Named (codes "e")) }); variables = (record { line = 1; name = (codes "x"); bracket = bracket.None; value = None } ∷ []) } ∷ []); stmts = [] })) ∷ []) }) })) ∷ [])) }

-- task t() { } program p { t x; }
abbrev pub type_is_task : Row
type_is_task = record { told = Refused 32 1; source = (tree ((item.Task (record { line = 1; name = (Named (codes "t")); parameters = []; block = (record { line = 1; decls = []; stmts = [] }) })) ∷ (item.Program (record { line = 1; name = (codes "p"); block = (record { line = 1; decls = (record { line = 1; of = (record { line = 1; form = (type_form.Named (codes "t")) }); variables = (record { line = 1; name = (codes "x"); bracket = bracket.None; value = None } ∷ []) } ∷ []); stmts = [] }) })) ∷ [])) }

-- program p { string s; s = 1 ? "a" : "b"; }
abbrev pub conditional_string : Row
conditional_string = record { told = Refused 32 1; source = (tree ((item.Program (record { line = 1; name = (codes "p"); block = (record { line = 1; decls = (record { line = 1; of = (record { line = 1; form = type_form.Str }); variables = (record { line = 1; name = (codes "s"); bracket = bracket.None; value = None } ∷ []) } ∷ []); stmts = ((s.Step (record { line = 1; target = (post 1 (form.Name (codes "s")) []); change = (change.Assign (x.Conditional (record { line = 1; condition = (x.Postfix (post 1 (form.Number (decimal 1)) [])); when_true = (x.Postfix (post 1 (form.Str (97 ∷ [])) [])); when_false = (x.Postfix (post 1 (form.Str (98 ∷ [])) [])) }))) })) ∷ []) }) })) ∷ [])) }

-- enum e = A; program p { integer a; a = a ? A : 4'b1; }
abbrev pub conditional : Row
conditional = record { told = Accepted; source = (tree ((item.Enumeration (record { line = 1; name = (codes "e"); values = ((codes "A") ∷ []) })) ∷ (item.Program (record { line = 1; name = (codes "p"); block = (record { line = 1; decls = (record { line = 1; of = (record { line = 1; form = type_form.Integer }); variables = (record { line = 1; name = (codes "a"); bracket = bracket.None; value = None } ∷ []) } ∷ []); stmts = ((s.Step (record { line = 1; target = (post 1 (form.Name (codes "a")) []); change = (change.Assign (x.Conditional (record { line = 1; condition = (x.Postfix (post 1 (form.Name (codes "a")) [])); when_true = (x.Postfix (post 1 (form.Name (codes "A")) [])); when_false = (x.Postfix (post 1 (form.Number (based (One ∷ Zero ∷ Zero ∷ Zero ∷ []))) [])) }))) })) ∷ []) }) })) ∷ [])) }

-- program p { string s; s = {"a", 1}; }
abbrev pub concatenation_mixed : Row
concatenation_mixed = record { told = Refused 32 1; source = (tree ((item.Program (record { line = 1; name = (codes "p"); block = (record { line = 1; decls = (record { line = 1; of = (record { line = 1; form = type_form.Str }); variables = (record { line = 1; name = (codes "s"); bracket = bracket.None; value = None } ∷ []) } ∷ []); stmts = ((s.Step (record { line = 1; target = (post 1 (form.Name (codes "s")) []); change = (change.Assign (x.Postfix (post 1 (form.Concatenation ((x.Postfix (post 1 (form.Str (97 ∷ [])) [])) ∷ (x.Postfix (post 1 (form.Number (decimal 1)) [])) ∷ [])) []))) })) ∷ []) }) })) ∷ [])) }

-- program p { string s; s = {"a", s}; s = {3{"a", s}}; }
abbrev pub concatenation_string : Row
concatenation_string = record { told = Accepted; source = (tree ((item.Program (record { line = 1; name = (codes "p"); block = (record { line = 1; decls = (record { line = 1; of = (record { line = 1; form = type_form.Str }); variables = (record { line = 1; name = (codes "s"); bracket = bracket.None; value = None } ∷ []) } ∷ []); stmts = ((s.Step (record { line = 1; target = (post 1 (form.Name (codes "s")) []); change = (change.Assign (x.Postfix (post 1 (form.Concatenation ((x.Postfix (post 1 (form.Str (97 ∷ [])) [])) ∷ (x.Postfix (post 1 (form.Name (codes "s")) [])) ∷ [])) []))) })) ∷ (s.Step (record { line = 1; target = (post 1 (form.Name (codes "s")) []); change = (change.Assign (x.Postfix (post 1 (form.Replication (x.Postfix (post 1 (form.Number (decimal 3)) [])) ((x.Postfix (post 1 (form.Str (97 ∷ [])) [])) ∷ (x.Postfix (post 1 (form.Name (codes "s")) [])) ∷ [])) []))) })) ∷ []) }) })) ∷ [])) }

-- program p { bit [127:0] v; v = {v, 1'b0}; }
abbrev pub concatenation_wide : Row
concatenation_wide = record { told = Refused 32 1; source = (tree ((item.Program (record { line = 1; name = (codes "p"); block = (record { line = 1; decls = (record { line = 1; of = (record { line = 1; form = (type_form.Bit (Some (record { line = 1; high = (x.Postfix (post 1 (form.Number (decimal 127)) [])); low = (x.Postfix (post 1 (form.Number (decimal 0)) [])) }))) }); variables = (record { line = 1; name = (codes "v"); bracket = bracket.None; value = None } ∷ []) } ∷ []); stmts = ((s.Step (record { line = 1; target = (post 1 (form.Name (codes "v")) []); change = (change.Assign (x.Postfix (post 1 (form.Concatenation ((x.Postfix (post 1 (form.Name (codes "v")) [])) ∷ (x.Postfix (post 1 (form.Number (based (Zero ∷ []))) [])) ∷ [])) []))) })) ∷ []) }) })) ∷ [])) }

-- program p { bit [126:0] v; bit [127:0] w; w = {v, 1'b0}; w = {4{32'd1}}; }
abbrev pub concatenation_widest : Row
concatenation_widest = record { told = Accepted; source = (tree ((item.Program (record { line = 1; name = (codes "p"); block = (record { line = 1; decls = (record { line = 1; of = (record { line = 1; form = (type_form.Bit (Some (record { line = 1; high = (x.Postfix (post 1 (form.Number (decimal 126)) [])); low = (x.Postfix (post 1 (form.Number (decimal 0)) [])) }))) }); variables = (record { line = 1; name = (codes "v"); bracket = bracket.None; value = None } ∷ []) } ∷ record { line = 1; of = (record { line = 1; form = (type_form.Bit (Some (record { line = 1; high = (x.Postfix (post 1 (form.Number (decimal 127)) [])); low = (x.Postfix (post 1 (form.Number (decimal 0)) [])) }))) }); variables = (record { line = 1; name = (codes "w"); bracket = bracket.None; value = None } ∷ []) } ∷ []); stmts = ((s.Step (record { line = 1; target = (post 1 (form.Name (codes "w")) []); change = (change.Assign (x.Postfix (post 1 (form.Concatenation ((x.Postfix (post 1 (form.Name (codes "v")) [])) ∷ (x.Postfix (post 1 (form.Number (based (Zero ∷ []))) [])) ∷ [])) []))) })) ∷ (s.Step (record { line = 1; target = (post 1 (form.Name (codes "w")) []); change = (change.Assign (x.Postfix (post 1 (form.Replication (x.Postfix (post 1 (form.Number (decimal 4)) [])) ((x.Postfix (post 1 (form.Number (based (One ∷ Zero ∷ Zero ∷ Zero ∷ Zero ∷ Zero ∷ Zero ∷ Zero ∷ Zero ∷ Zero ∷ Zero ∷ Zero ∷ Zero ∷ Zero ∷ Zero ∷ Zero ∷ Zero ∷ Zero ∷ Zero ∷ Zero ∷ Zero ∷ Zero ∷ Zero ∷ Zero ∷ Zero ∷ Zero ∷ Zero ∷ Zero ∷ Zero ∷ Zero ∷ Zero ∷ Zero ∷ []))) [])) ∷ [])) []))) })) ∷ []) }) })) ∷ [])) }

-- program p { integer a; a = {0{1'b1}}; }
abbrev pub replication_zero : Row
replication_zero = record { told = Refused 32 1; source = (tree ((item.Program (record { line = 1; name = (codes "p"); block = (record { line = 1; decls = (record { line = 1; of = (record { line = 1; form = type_form.Integer }); variables = (record { line = 1; name = (codes "a"); bracket = bracket.None; value = None } ∷ []) } ∷ []); stmts = ((s.Step (record { line = 1; target = (post 1 (form.Name (codes "a")) []); change = (change.Assign (x.Postfix (post 1 (form.Replication (x.Postfix (post 1 (form.Number (decimal 0)) [])) ((x.Postfix (post 1 (form.Number (based (One ∷ []))) [])) ∷ [])) []))) })) ∷ []) }) })) ∷ [])) }

-- program p { integer a; a = {a{1'b1}}; }
abbrev pub replication_variable : Row
replication_variable = record { told = Refused 32 1; source = (tree ((item.Program (record { line = 1; name = (codes "p"); block = (record { line = 1; decls = (record { line = 1; of = (record { line = 1; form = type_form.Integer }); variables = (record { line = 1; name = (codes "a"); bracket = bracket.None; value = None } ∷ []) } ∷ []); stmts = ((s.Step (record { line = 1; target = (post 1 (form.Name (codes "a")) []); change = (change.Assign (x.Postfix (post 1 (form.Replication (x.Postfix (post 1 (form.Name (codes "a")) [])) ((x.Postfix (post 1 (form.Number (based (One ∷ []))) [])) ∷ [])) []))) })) ∷ []) }) })) ∷ [])) }

-- program p { case ("a") { default: ; } }
abbrev pub case_string : Row
case_string = record { told = Refused 32 1; source = (tree ((item.Program (record { line = 1; name = (codes "p"); block = (record { line = 1; decls = []; stmts = ((s.Case 1 (x.Postfix (post 1 (form.Str (97 ∷ [])) [])) (record { line = 1; label = label.Default; body = (s.Empty 1) } ∷ [])) ∷ []) }) })) ∷ [])) }

-- program p { case (1) {
--  "a": ; } }
abbrev pub case_item_string : Row
case_item_string = record { told = Refused 32 2; source = (tree ((item.Program (record { line = 1; name = (codes "p"); block = (record { line = 1; decls = []; stmts = ((s.Case 1 (x.Postfix (post 1 (form.Number (decimal 1)) [])) (record { line = 2; label = (label.Values ((x.Postfix (post 2 (form.Str (97 ∷ [])) [])) ∷ [])); body = (s.Empty 2) } ∷ [])) ∷ []) }) })) ∷ [])) }

-- program p { integer a; a = new; }
abbrev pub new_of_vector : Row
new_of_vector = record { told = Refused 32 1; source = (tree ((item.Program (record { line = 1; name = (codes "p"); block = (record { line = 1; decls = (record { line = 1; of = (record { line = 1; form = type_form.Integer }); variables = (record { line = 1; name = (codes "a"); bracket = bracket.None; value = None } ∷ []) } ∷ []); stmts = ((s.Step (record { line = 1; target = (post 1 (form.Name (codes "a")) []); change = (change.Assign (x.Postfix (post 1 form.New []))) })) ∷ []) }) })) ∷ [])) }

-- program p { void = new; }
abbrev pub new_in_void : Row
new_in_void = record { told = Refused 32 1; source = (tree ((item.Program (record { line = 1; name = (codes "p"); block = (record { line = 1; decls = []; stmts = ((s.Void (record { line = 1; value = (post 1 form.New []) })) ∷ []) }) })) ∷ [])) }

-- program p { integer a; a = this; }
abbrev pub this_outside : Row
this_outside = record { told = Refused 32 1; source = (tree ((item.Program (record { line = 1; name = (codes "p"); block = (record { line = 1; decls = (record { line = 1; of = (record { line = 1; form = type_form.Integer }); variables = (record { line = 1; name = (codes "a"); bracket = bracket.None; value = None } ∷ []) } ∷ []); stmts = ((s.Step (record { line = 1; target = (post 1 (form.Name (codes "a")) []); change = (change.Assign (x.Postfix (post 1 form.This []))) })) ∷ []) }) })) ∷ [])) }

-- task t(string s) { } program p { t(1); }
abbrev pub argument_type : Row
argument_type = record { told = Refused 32 1; source = (tree ((item.Task (record { line = 1; name = (Named (codes "t")); parameters = (record { line = 1; is_var = false; of = (record { line = 1; form = type_form.Str }); name = (codes "s") } ∷ []); block = (record { line = 1; decls = []; stmts = [] }) })) ∷ (item.Program (record { line = 1; name = (codes "p"); block = (record { line = 1; decls = []; stmts = ((s.Call (post 1 (form.Name (codes "t")) (suffix.Call ((x.Postfix (post 1 (form.Number (decimal 1)) [])) ∷ []) ∷ []))) ∷ []) }) })) ∷ [])) }

-- task t(string s) { } program p {
--  t(
-- 1); }
abbrev pub argument_type_line : Row
argument_type_line = record { told = Refused 32 2; source = (tree ((item.Task (record { line = 1; name = (Named (codes "t")); parameters = (record { line = 1; is_var = false; of = (record { line = 1; form = type_form.Str }); name = (codes "s") } ∷ []); block = (record { line = 1; decls = []; stmts = [] }) })) ∷ (item.Program (record { line = 1; name = (codes "p"); block = (record { line = 1; decls = []; stmts = ((s.Call (post 2 (form.Name (codes "t")) (suffix.Call ((x.Postfix (post 3 (form.Number (decimal 1)) [])) ∷ []) ∷ []))) ∷ []) }) })) ∷ [])) }

-- task t(var bit [3:0] v) { } program p { bit [4:0] v; t(v); }
abbrev pub var_width : Row
var_width = record { told = Refused 32 1; source = (tree ((item.Task (record { line = 1; name = (Named (codes "t")); parameters = (record { line = 1; is_var = true; of = (record { line = 1; form = (type_form.Bit (Some (record { line = 1; high = (x.Postfix (post 1 (form.Number (decimal 3)) [])); low = (x.Postfix (post 1 (form.Number (decimal 0)) [])) }))) }); name = (codes "v") } ∷ []); block = (record { line = 1; decls = []; stmts = [] }) })) ∷ (item.Program (record { line = 1; name = (codes "p"); block = (record { line = 1; decls = (record { line = 1; of = (record { line = 1; form = (type_form.Bit (Some (record { line = 1; high = (x.Postfix (post 1 (form.Number (decimal 4)) [])); low = (x.Postfix (post 1 (form.Number (decimal 0)) [])) }))) }); variables = (record { line = 1; name = (codes "v"); bracket = bracket.None; value = None } ∷ []) } ∷ []); stmts = ((s.Call (post 1 (form.Name (codes "t")) (suffix.Call ((x.Postfix (post 1 (form.Name (codes "v")) [])) ∷ []) ∷ []))) ∷ []) }) })) ∷ [])) }

-- task t(var integer v) { } program p { bit [31:0] v; t(v); }
abbrev pub var_integer_bits : Row
var_integer_bits = record { told = Refused 32 1; source = (tree ((item.Task (record { line = 1; name = (Named (codes "t")); parameters = (record { line = 1; is_var = true; of = (record { line = 1; form = type_form.Integer }); name = (codes "v") } ∷ []); block = (record { line = 1; decls = []; stmts = [] }) })) ∷ (item.Program (record { line = 1; name = (codes "p"); block = (record { line = 1; decls = (record { line = 1; of = (record { line = 1; form = (type_form.Bit (Some (record { line = 1; high = (x.Postfix (post 1 (form.Number (decimal 31)) [])); low = (x.Postfix (post 1 (form.Number (decimal 0)) [])) }))) }); variables = (record { line = 1; name = (codes "v"); bracket = bracket.None; value = None } ∷ []) } ∷ []); stmts = ((s.Call (post 1 (form.Name (codes "t")) (suffix.Call ((x.Postfix (post 1 (form.Name (codes "v")) [])) ∷ []) ∷ []))) ∷ []) }) })) ∷ [])) }

-- enum e = A; program p { e x; x++; }
abbrev pub enum_increment : Row
enum_increment = record { told = Refused 32 1; source = (tree ((item.Enumeration (record { line = 1; name = (codes "e"); values = ((codes "A") ∷ []) })) ∷ (item.Program (record { line = 1; name = (codes "p"); block = (record { line = 1; decls = (record { line = 1; of = (record { line = 1; form = (type_form.Named (codes "e")) }); variables = (record { line = 1; name = (codes "x"); bracket = bracket.None; value = None } ∷ []) } ∷ []); stmts = ((s.Step (record { line = 1; target = (post 1 (form.Name (codes "x")) []); change = change.Increment })) ∷ []) }) })) ∷ [])) }

-- program p { string s; s += "a"; }
abbrev pub string_add : Row
string_add = record { told = Refused 32 1; source = (tree ((item.Program (record { line = 1; name = (codes "p"); block = (record { line = 1; decls = (record { line = 1; of = (record { line = 1; form = type_form.Str }); variables = (record { line = 1; name = (codes "s"); bracket = bracket.None; value = None } ∷ []) } ∷ []); stmts = ((s.Step (record { line = 1; target = (post 1 (form.Name (codes "s")) []); change = (change.Add (x.Postfix (post 1 (form.Str (97 ∷ [])) []))) })) ∷ []) }) })) ∷ [])) }

-- program p { event e; mailbox_put(1, e); }
abbrev pub mailbox_put_event : Row
mailbox_put_event = record { told = Refused 32 1; source = (tree ((item.Program (record { line = 1; name = (codes "p"); block = (record { line = 1; decls = (record { line = 1; of = (record { line = 1; form = type_form.Event }); variables = (record { line = 1; name = (codes "e"); bracket = bracket.None; value = None } ∷ []) } ∷ []); stmts = ((s.Call (post 1 (form.Name (codes "mailbox_put")) (suffix.Call ((x.Postfix (post 1 (form.Number (decimal 1)) [])) ∷ (x.Postfix (post 1 (form.Name (codes "e")) [])) ∷ []) ∷ []))) ∷ []) }) })) ∷ [])) }

-- program p { sync(ANY, 1); }
abbrev pub sync_vector : Row
sync_vector = record { told = Refused 32 1; source = (tree ((item.Program (record { line = 1; name = (codes "p"); block = (record { line = 1; decls = []; stmts = ((s.Call (post 1 (form.Name (codes "sync")) (suffix.Call ((x.Postfix (post 1 (form.Name (codes "ANY")) [])) ∷ (x.Postfix (post 1 (form.Number (decimal 1)) [])) ∷ []) ∷ []))) ∷ []) }) })) ∷ [])) }

-- program p { integer a; a(1); }
abbrev pub call_of_variable : Row
call_of_variable = record { told = Refused 32 1; source = (tree ((item.Program (record { line = 1; name = (codes "p"); block = (record { line = 1; decls = (record { line = 1; of = (record { line = 1; form = type_form.Integer }); variables = (record { line = 1; name = (codes "a"); bracket = bracket.None; value = None } ∷ []) } ∷ []); stmts = ((s.Call (post 1 (form.Name (codes "a")) (suffix.Call ((x.Postfix (post 1 (form.Number (decimal 1)) [])) ∷ []) ∷ []))) ∷ []) }) })) ∷ [])) }

-- function integer f() { } program p { { integer f; f(); } }
abbrev pub call_of_hidden_function : Row
call_of_hidden_function = record { told = Refused 32 1; source = (tree ((item.Function (record { line = 1; result = (record { line = 1; form = type_form.Integer }); name = (codes "f"); parameters = []; block = (record { line = 1; decls = []; stmts = [] }) })) ∷ (item.Program (record { line = 1; name = (codes "p"); block = (record { line = 1; decls = []; stmts = ((s.Block (record { line = 1; decls = (record { line = 1; of = (record { line = 1; form = type_form.Integer }); variables = (record { line = 1; name = (codes "f"); bracket = bracket.None; value = None } ∷ []) } ∷ []); stmts = ((s.Call (post 1 (form.Name (codes "f")) (suffix.Call [] ∷ []))) ∷ []) })) ∷ []) }) })) ∷ [])) }

-- program p { integer a; cast_assign(a, null); }
abbrev pub cast_of_vector : Row
cast_of_vector = record { told = Refused 32 1; source = (tree ((item.Program (record { line = 1; name = (codes "p"); block = (record { line = 1; decls = (record { line = 1; of = (record { line = 1; form = type_form.Integer }); variables = (record { line = 1; name = (codes "a"); bracket = bracket.None; value = None } ∷ []) } ∷ []); stmts = ((s.Call (post 1 (form.Name (codes "cast_assign")) (suffix.Call ((x.Postfix (post 1 (form.Name (codes "a")) [])) ∷ (x.Postfix (post 1 form.Null [])) ∷ []) ∷ []))) ∷ []) }) })) ∷ [])) }

-- program p { exit("s"); }
abbrev pub exit_string : Row
exit_string = record { told = Refused 32 1; source = (tree ((item.Program (record { line = 1; name = (codes "p"); block = (record { line = 1; decls = []; stmts = ((s.Call (post 1 (form.Name (codes "exit")) (suffix.Call ((x.Postfix (post 1 (form.Str (115 ∷ [])) [])) ∷ []) ∷ []))) ∷ []) }) })) ∷ [])) }

-- program p { exit("s", 1); }
abbrev pub exit_string_count : Row
exit_string_count = record { told = Refused 32 1; source = (tree ((item.Program (record { line = 1; name = (codes "p"); block = (record { line = 1; decls = []; stmts = ((s.Call (post 1 (form.Name (codes "exit")) (suffix.Call ((x.Postfix (post 1 (form.Str (115 ∷ [])) [])) ∷ (x.Postfix (post 1 (form.Number (decimal 1)) [])) ∷ []) ∷ []))) ∷ []) }) })) ∷ [])) }

-- program p { event e; trigger(e, 1); }
abbrev pub trigger_vector : Row
trigger_vector = record { told = Refused 32 1; source = (tree ((item.Program (record { line = 1; name = (codes "p"); block = (record { line = 1; decls = (record { line = 1; of = (record { line = 1; form = type_form.Event }); variables = (record { line = 1; name = (codes "e"); bracket = bracket.None; value = None } ∷ []) } ∷ []); stmts = ((s.Call (post 1 (form.Name (codes "trigger")) (suffix.Call ((x.Postfix (post 1 (form.Name (codes "e")) [])) ∷ (x.Postfix (post 1 (form.Number (decimal 1)) [])) ∷ []) ∷ []))) ∷ []) }) })) ∷ [])) }

-- program p { event e, f; trigger(e); trigger(e, f); trigger(ON, e, f); trigger(ONE_BLAST, e); trigger(OFF, e); wait_child(); }
abbrev pub triggers : Row
triggers = record { told = Accepted; source = (tree ((item.Program (record { line = 1; name = (codes "p"); block = (record { line = 1; decls = (record { line = 1; of = (record { line = 1; form = type_form.Event }); variables = (record { line = 1; name = (codes "e"); bracket = bracket.None; value = None } ∷ record { line = 1; name = (codes "f"); bracket = bracket.None; value = None } ∷ []) } ∷ []); stmts = ((s.Call (post 1 (form.Name (codes "trigger")) (suffix.Call ((x.Postfix (post 1 (form.Name (codes "e")) [])) ∷ []) ∷ []))) ∷ (s.Call (post 1 (form.Name (codes "trigger")) (suffix.Call ((x.Postfix (post 1 (form.Name (codes "e")) [])) ∷ (x.Postfix (post 1 (form.Name (codes "f")) [])) ∷ []) ∷ []))) ∷ (s.Call (post 1 (form.Name (codes "trigger")) (suffix.Call ((x.Postfix (post 1 (form.Name (codes "ON")) [])) ∷ (x.Postfix (post 1 (form.Name (codes "e")) [])) ∷ (x.Postfix (post 1 (form.Name (codes "f")) [])) ∷ []) ∷ []))) ∷ (s.Call (post 1 (form.Name (codes "trigger")) (suffix.Call ((x.Postfix (post 1 (form.Name (codes "ONE_BLAST")) [])) ∷ (x.Postfix (post 1 (form.Name (codes "e")) [])) ∷ []) ∷ []))) ∷ (s.Call (post 1 (form.Name (codes "trigger")) (suffix.Call ((x.Postfix (post 1 (form.Name (codes "OFF")) [])) ∷ (x.Postfix (post 1 (form.Name (codes "e")) [])) ∷ []) ∷ []))) ∷ (s.Call (post 1 (form.Name (codes "wait_child")) (suffix.Call [] ∷ []))) ∷ []) }) })) ∷ [])) }

abbrev pub type_rows3 : List Row
type_rows3 = expect_bits ∷ expect_variable ∷ type_hidden ∷ type_is_task ∷ conditional_string ∷ conditional ∷ concatenation_mixed ∷ concatenation_string ∷ concatenation_wide ∷ concatenation_widest ∷ replication_zero ∷ replication_variable ∷ case_string ∷ case_item_string ∷ new_of_vector ∷ new_in_void ∷ this_outside ∷ argument_type ∷ argument_type_line ∷ var_width ∷ var_integer_bits ∷ enum_increment ∷ string_add ∷ mailbox_put_event ∷ sync_vector ∷ call_of_variable ∷ call_of_hidden_function ∷ cast_of_vector ∷ exit_string ∷ exit_string_count ∷ trigger_vector ∷ triggers ∷ []
