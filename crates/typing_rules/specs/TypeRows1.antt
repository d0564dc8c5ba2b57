-- Types that do not fit.
use Rattle.std.specs.Prelude.{true, false, List, [], ◌∷◌, Some, None, codes}
use Rattle.four_state.specs.declared.bit.Bit.TheVariants.{Zero, One, X, Z}
use Rattle.vera_ast.specs.declared.tree.declarations.Bracket.TheVariants as bracket
use Rattle.vera_ast.specs.declared.tree.declarations.TypeForm.TheVariants as type_form
use Rattle.vera_ast.specs.declared.tree.expressions.ChainOperator.TheVariants as o
use Rattle.vera_ast.specs.declared.tree.expressions.UnaryOperator.TheVariants as u
use Rattle.vera_ast.specs.declared.tree.expressions.Expr.TheVariants as x
use Rattle.vera_ast.specs.declared.tree.expressions.PrimaryForm.TheVariants as form
use Rattle.vera_ast.specs.declared.tree.expressions.Suffix.TheVariants as suffix
use Rattle.vera_ast.specs.declared.tree.interfaces.Direction.TheVariants.{Input, Output}
use Rattle.vera_ast.specs.declared.tree.interfaces.SignalForm.TheVariants.{Clock, Timed}
use Rattle.vera_ast.specs.declared.tree.interfaces.SignalTime.TheVariants.{PositiveHold, PositiveSample, NegativeHold, NegativeSample}
use Rattle.vera_ast.specs.declared.tree.items.Item.TheVariants as item
use Rattle.vera_ast.specs.declared.tree.items.TaskName.TheVariants.{Named, New}
use Rattle.vera_ast.specs.declared.tree.items.Tree.{Tree}
use Rattle.vera_ast.specs.declared.tree.statements.ArmLabel.TheVariants as label
use Rattle.vera_ast.specs.declared.tree.statements.Change.TheVariants as change
use Rattle.vera_ast.specs.declared.tree.statements.DelayForm.TheVariants as delay_form
use Rattle.vera_ast.specs.declared.tree.statements.DriveOperator.TheVariants.{Assign as Plain, Arrow}
use Rattle.vera_ast.specs.declared.tree.statements.EdgeClock.TheVariants as clock
use Rattle.vera_ast.specs.declared.tree.statements.Join.TheVariants as join
use Rattle.vera_ast.specs.declared.tree.statements.Stmt.TheVariants as s
use Rattle.vera_ast.specs.declared.tree.statements.TermOperator.TheVariants as term
use Rattle.vera_ast.specs.declared.tree.statements.WindowKind.TheVariants as window
use Rattle.typing_rules.specs.Sources.{tree, post, decimal, based}
use Rattle.typing_rules.specs.Told.{Row, Accepted, Refused}

-- program p { integer a; a = "s"; }
abbrev pub string_to_vector : Row
string_to_vector = record { told = Refused 32 1; source = (tree ((item.Program (record { line = 1; name = (codes "p"); block = (record { line = 1; decls = (record { line = 1; of = (record { line = 1; form = type_form.Integer }); variables = (record { line = 1; name = (codes "a"); bracket = bracket.None; value = None } ∷ []) } ∷ []); stmts = ((s.Step (record { line = 1; target = (post 1 (form.Name (codes "a")) []); change = (change.Assign (x.Postfix (post 1 (form.Str (115 ∷ [])) []))) })) ∷ []) }) })) ∷ [])) }

-- program p { string s; s = 1; }
abbrev pub vector_to_string : Row
vector_to_string = record { told = Refused 32 1; source = (tree ((item.Program (record { line = 1; name = (codes "p"); block = (record { line = 1; decls = (record { line = 1; of = (record { line = 1; form = type_form.Str }); variables = (record { line = 1; name = (codes "s"); bracket = bracket.None; value = None } ∷ []) } ∷ []); stmts = ((s.Step (record { line = 1; target = (post 1 (form.Name (codes "s")) []); change = (change.Assign (x.Postfix (post 1 (form.Number (decimal 1)) []))) })) ∷ []) }) })) ∷ [])) }

-- enum e = A; program p { e x; x = 0; }
abbrev pub vector_to_enum : Row
vector_to_enum = record { told = Refused 32 1; source = (tree ((item.Enumeration (record { line = 1; name = (codes "e"); values = ((codes "A") ∷ []) })) ∷ (item.Program (record { line = 1; name = (codes "p"); block = (record { line = 1; decls = (record { line = 1; of = (record { line = 1; form = (type_form.Named (codes "e")) }); variables = (record { line = 1; name = (codes "x"); bracket = bracket.None; value = None } ∷ []) } ∷ []); stmts = ((s.Step (record { line = 1; target = (post 1 (form.Name (codes "x")) []); change = (change.Assign (x.Postfix (post 1 (form.Number (decimal 0)) []))) })) ∷ []) }) })) ∷ [])) }

-- enum e = A; program p { integer x; x = A; }
abbrev pub enum_to_vector : Row
enum_to_vector = record { told = Accepted; source = (tree ((item.Enumeration (record { line = 1; name = (codes "e"); values = ((codes "A") ∷ []) })) ∷ (item.Program (record { line = 1; name = (codes "p"); block = (record { line = 1; decls = (record { line = 1; of = (record { line = 1; form = type_form.Integer }); variables = (record { line = 1; name = (codes "x"); bracket = bracket.None; value = None } ∷ []) } ∷ []); stmts = ((s.Step (record { line = 1; target = (post 1 (form.Name (codes "x")) []); change = (change.Assign (x.Postfix (post 1 (form.Name (codes "A")) []))) })) ∷ []) }) })) ∷ [])) }

-- enum e = A; enum f = B; program p { e x; x = B; }
abbrev pub enum_to_other_enum : Row
enum_to_other_enum = record { told = Refused 32 1; source = (tree ((item.Enumeration (record { line = 1; name = (codes "e"); values = ((codes "A") ∷ []) })) ∷ (item.Enumeration (record { line = 1; name = (codes "f"); values = ((codes "B") ∷ []) })) ∷ (item.Program (record { line = 1; name = (codes "p"); block = (record { line = 1; decls = (record { line = 1; of = (record { line = 1; form = (type_form.Named (codes "e")) }); variables = (record { line = 1; name = (codes "x"); bracket = bracket.None; value = None } ∷ []) } ∷ []); stmts = ((s.Step (record { line = 1; target = (post 1 (form.Name (codes "x")) []); change = (change.Assign (x.Postfix (post 1 (form.Name (codes "B")) []))) })) ∷ []) }) })) ∷ [])) }

-- enum e = A, B; program p { integer x; x = A + B; }
abbrev pub enum_sum : Row
enum_sum = record { told = Accepted; source = (tree ((item.Enumeration (record { line = 1; name = (codes "e"); values = ((codes "A") ∷ (codes "B") ∷ []) })) ∷ (item.Program (record { line = 1; name = (codes "p"); block = (record { line = 1; decls = (record { line = 1; of = (record { line = 1; form = type_form.Integer }); variables = (record { line = 1; name = (codes "x"); bracket = bracket.None; value = None } ∷ []) } ∷ []); stmts = ((s.Step (record { line = 1; target = (post 1 (form.Name (codes "x")) []); change = (change.Assign (x.Chain 1 (x.Postfix (post 1 (form.Name (codes "A")) [])) (record { operator = o.Add; operand = (x.Postfix (post 1 (form.Name (codes "B")) [])) } ∷ []))) })) ∷ []) }) })) ∷ [])) }

-- enum e = A, B; program p { e x; x = A + B; }
abbrev pub sum_to_enum : Row
sum_to_enum = record { told = Refused 32 1; source = (tree ((item.Enumeration (record { line = 1; name = (codes "e"); values = ((codes "A") ∷ (codes "B") ∷ []) })) ∷ (item.Program (record { line = 1; name = (codes "p"); block = (record { line = 1; decls = (record { line = 1; of = (record { line = 1; form = (type_form.Named (codes "e")) }); variables = (record { line = 1; name = (codes "x"); bracket = bracket.None; value = None } ∷ []) } ∷ []); stmts = ((s.Step (record { line = 1; target = (post 1 (form.Name (codes "x")) []); change = (change.Assign (x.Chain 1 (x.Postfix (post 1 (form.Name (codes "A")) [])) (record { operator = o.Add; operand = (x.Postfix (post 1 (form.Name (codes "B")) [])) } ∷ []))) })) ∷ []) }) })) ∷ [])) }

-- program p { string s; s = s + s; }
abbrev pub string_plus : Row
string_plus = record { told = Refused 32 1; source = (tree ((item.Program (record { line = 1; name = (codes "p"); block = (record { line = 1; decls = (record { line = 1; of = (record { line = 1; form = type_form.Str }); variables = (record { line = 1; name = (codes "s"); bracket = bracket.None; value = None } ∷ []) } ∷ []); stmts = ((s.Step (record { line = 1; target = (post 1 (form.Name (codes "s")) []); change = (change.Assign (x.Chain 1 (x.Postfix (post 1 (form.Name (codes "s")) [])) (record { operator = o.Add; operand = (x.Postfix (post 1 (form.Name (codes "s")) [])) } ∷ []))) })) ∷ []) }) })) ∷ [])) }

-- program p { string s; integer a; a = s == "x"; }
abbrev pub string_equal : Row
string_equal = record { told = Accepted; source = (tree ((item.Program (record { line = 1; name = (codes "p"); block = (record { line = 1; decls = (record { line = 1; of = (record { line = 1; form = type_form.Str }); variables = (record { line = 1; name = (codes "s"); bracket = bracket.None; value = None } ∷ []) } ∷ record { line = 1; of = (record { line = 1; form = type_form.Integer }); variables = (record { line = 1; name = (codes "a"); bracket = bracket.None; value = None } ∷ []) } ∷ []); stmts = ((s.Step (record { line = 1; target = (post 1 (form.Name (codes "a")) []); change = (change.Assign (x.Chain 1 (x.Postfix (post 1 (form.Name (codes "s")) [])) (record { operator = o.Equal; operand = (x.Postfix (post 1 (form.Str (120 ∷ [])) [])) } ∷ []))) })) ∷ []) }) })) ∷ [])) }

-- program p { string s; integer a; a = s === "x"; }
abbrev pub string_case_equal : Row
string_case_equal = record { told = Refused 32 1; source = (tree ((item.Program (record { line = 1; name = (codes "p"); block = (record { line = 1; decls = (record { line = 1; of = (record { line = 1; form = type_form.Str }); variables = (record { line = 1; name = (codes "s"); bracket = bracket.None; value = None } ∷ []) } ∷ record { line = 1; of = (record { line = 1; form = type_form.Integer }); variables = (record { line = 1; name = (codes "a"); bracket = bracket.None; value = None } ∷ []) } ∷ []); stmts = ((s.Step (record { line = 1; target = (post 1 (form.Name (codes "a")) []); change = (change.Assign (x.Chain 1 (x.Postfix (post 1 (form.Name (codes "s")) [])) (record { operator = o.CaseEqual; operand = (x.Postfix (post 1 (form.Str (120 ∷ [])) [])) } ∷ []))) })) ∷ []) }) })) ∷ [])) }

-- program p { string s; if (s) ; }
abbrev pub string_condition : Row
string_condition = record { told = Refused 32 1; source = (tree ((item.Program (record { line = 1; name = (codes "p"); block = (record { line = 1; decls = (record { line = 1; of = (record { line = 1; form = type_form.Str }); variables = (record { line = 1; name = (codes "s"); bracket = bracket.None; value = None } ∷ []) } ∷ []); stmts = ((s.If (record { line = 1; condition = (x.Postfix (post 1 (form.Name (codes "s")) [])); when_true = (s.Empty 1); when_false = None })) ∷ []) }) })) ∷ [])) }

-- program p { integer a; a = null == null; }
abbrev pub null_equal : Row
null_equal = record { told = Accepted; source = (tree ((item.Program (record { line = 1; name = (codes "p"); block = (record { line = 1; decls = (record { line = 1; of = (record { line = 1; form = type_form.Integer }); variables = (record { line = 1; name = (codes "a"); bracket = bracket.None; value = None } ∷ []) } ∷ []); stmts = ((s.Step (record { line = 1; target = (post 1 (form.Name (codes "a")) []); change = (change.Assign (x.Chain 1 (x.Postfix (post 1 form.Null [])) (record { operator = o.Equal; operand = (x.Postfix (post 1 form.Null [])) } ∷ []))) })) ∷ []) }) })) ∷ [])) }

-- program p { integer a; a = null; }
abbrev pub null_to_vector : Row
null_to_vector = record { told = Refused 32 1; source = (tree ((item.Program (record { line = 1; name = (codes "p"); block = (record { line = 1; decls = (record { line = 1; of = (record { line = 1; form = type_form.Integer }); variables = (record { line = 1; name = (codes "a"); bracket = bracket.None; value = None } ∷ []) } ∷ []); stmts = ((s.Step (record { line = 1; target = (post 1 (form.Name (codes "a")) []); change = (change.Assign (x.Postfix (post 1 form.Null []))) })) ∷ []) }) })) ∷ [])) }

-- program p { bit [3:1] v; }
abbrev pub range_low : Row
range_low = record { told = Refused 32 1; source = (tree ((item.Program (record { line = 1; name = (codes "p"); block = (record { line = 1; decls = (record { line = 1; of = (record { line = 1; form = (type_form.Bit (Some (record { line = 1; high = (x.Postfix (post 1 (form.Number (decimal 3)) [])); low = (x.Postfix (post 1 (form.Number (decimal 1)) [])) }))) }); variables = (record { line = 1; name = (codes "v"); bracket = bracket.None; value = None } ∷ []) } ∷ []); stmts = [] }) })) ∷ [])) }

-- program p { integer n; bit [n:0] v; }
abbrev pub constant_variable : Row
constant_variable = record { told = Refused 32 1; source = (tree ((item.Program (record { line = 1; name = (codes "p"); block = (record { line = 1; decls = (record { line = 1; of = (record { line = 1; form = type_form.Integer }); variables = (record { line = 1; name = (codes "n"); bracket = bracket.None; value = None } ∷ []) } ∷ record { line = 1; of = (record { line = 1; form = (type_form.Bit (Some (record { line = 1; high = (x.Postfix (post 1 (form.Name (codes "n")) [])); low = (x.Postfix (post 1 (form.Number (decimal 0)) [])) }))) }); variables = (record { line = 1; name = (codes "v"); bracket = bracket.None; value = None } ∷ []) } ∷ []); stmts = [] }) })) ∷ [])) }

-- enum e = A, B; program p { bit [B*4-1:0] v; v = 1; }
abbrev pub constant_sum : Row
constant_sum = record { told = Accepted; source = (tree ((item.Enumeration (record { line = 1; name = (codes "e"); values = ((codes "A") ∷ (codes "B") ∷ []) })) ∷ (item.Program (record { line = 1; name = (codes "p"); block = (record { line = 1; decls = (record { line = 1; of = (record { line = 1; form = (type_form.Bit (Some (record { line = 1; high = (x.Chain 1 (x.Chain 1 (x.Postfix (post 1 (form.Name (codes "B")) [])) (record { operator = o.Multiply; operand = (x.Postfix (post 1 (form.Number (decimal 4)) [])) } ∷ [])) (record { operator = o.Subtract; operand = (x.Postfix (post 1 (form.Number (decimal 1)) [])) } ∷ [])); low = (x.Postfix (post 1 (form.Number (decimal 0)) [])) }))) }); variables = (record { line = 1; name = (codes "v"); bracket = bracket.None; value = None } ∷ []) } ∷ []); stmts = ((s.Step (record { line = 1; target = (post 1 (form.Name (codes "v")) []); change = (change.Assign (x.Postfix (post 1 (form.Number (decimal 1)) []))) })) ∷ []) }) })) ∷ [])) }

-- program p { bit [1-2:0] v; }
abbrev pub constant_negative : Row
constant_negative = record { told = Refused 32 1; source = (tree ((item.Program (record { line = 1; name = (codes "p"); block = (record { line = 1; decls = (record { line = 1; of = (record { line = 1; form = (type_form.Bit (Some (record { line = 1; high = (x.Chain 1 (x.Postfix (post 1 (form.Number (decimal 1)) [])) (record { operator = o.Subtract; operand = (x.Postfix (post 1 (form.Number (decimal 2)) [])) } ∷ [])); low = (x.Postfix (post 1 (form.Number (decimal 0)) [])) }))) }); variables = (record { line = 1; name = (codes "v"); bracket = bracket.None; value = None } ∷ []) } ∷ []); stmts = [] }) })) ∷ [])) }

-- program p { bit [1-2+4:0] v; }
abbrev pub constant_minus_inside : Row
constant_minus_inside = record { told = Accepted; source = (tree ((item.Program (record { line = 1; name = (codes "p"); block = (record { line = 1; decls = (record { line = 1; of = (record { line = 1; form = (type_form.Bit (Some (record { line = 1; high = (x.Chain 1 (x.Postfix (post 1 (form.Number (decimal 1)) [])) (record { operator = o.Subtract; operand = (x.Postfix (post 1 (form.Number (decimal 2)) [])) } ∷ record { operator = o.Add; operand = (x.Postfix (post 1 (form.Number (decimal 4)) [])) } ∷ [])); low = (x.Postfix (post 1 (form.Number (decimal 0)) [])) }))) }); variables = (record { line = 1; name = (codes "v"); bracket = bracket.None; value = None } ∷ []) } ∷ []); stmts = [] }) })) ∷ [])) }

-- program p { bit [-(0)+1:0] v; }
abbrev pub constant_unary : Row
constant_unary = record { told = Refused 32 1; source = (tree ((item.Program (record { line = 1; name = (codes "p"); block = (record { line = 1; decls = (record { line = 1; of = (record { line = 1; form = (type_form.Bit (Some (record { line = 1; high = (x.Chain 1 (x.Unary (record { line = 1; operator = u.Minus; operand = (x.Postfix (post 1 (form.Parentheses (x.Postfix (post 1 (form.Number (decimal 0)) []))) [])) })) (record { operator = o.Add; operand = (x.Postfix (post 1 (form.Number (decimal 1)) [])) } ∷ [])); low = (x.Postfix (post 1 (form.Number (decimal 0)) [])) }))) }); variables = (record { line = 1; name = (codes "v"); bracket = bracket.None; value = None } ∷ []) } ∷ []); stmts = [] }) })) ∷ [])) }

-- program p { bit [4'd3:0] v; }
abbrev pub constant_based : Row
constant_based = record { told = Refused 32 1; source = (tree ((item.Program (record { line = 1; name = (codes "p"); block = (record { line = 1; decls = (record { line = 1; of = (record { line = 1; form = (type_form.Bit (Some (record { line = 1; high = (x.Postfix (post 1 (form.Number (based (One ∷ One ∷ Zero ∷ Zero ∷ []))) [])); low = (x.Postfix (post 1 (form.Number (decimal 0)) [])) }))) }); variables = (record { line = 1; name = (codes "v"); bracket = bracket.None; value = None } ∷ []) } ∷ []); stmts = [] }) })) ∷ [])) }

-- program p { integer v[65536*65536]; }
abbrev pub constant_overflow : Row
constant_overflow = record { told = Refused 32 1; source = (tree ((item.Program (record { line = 1; name = (codes "p"); block = (record { line = 1; decls = (record { line = 1; of = (record { line = 1; form = type_form.Integer }); variables = (record { line = 1; name = (codes "v"); bracket = (bracket.Fixed (x.Chain 1 (x.Postfix (post 1 (form.Number (decimal 65536)) [])) (record { operator = o.Multiply; operand = (x.Postfix (post 1 (form.Number (decimal 65536)) [])) } ∷ []))); value = None } ∷ []) } ∷ []); stmts = [] }) })) ∷ [])) }

-- program p { bit [7:0] v; integer a; a = v[1:2]; }
abbrev pub bits_reversed : Row
bits_reversed = record { told = Refused 32 1; source = (tree ((item.Program (record { line = 1; name = (codes "p"); block = (record { line = 1; decls = (record { line = 1; of = (record { line = 1; form = (type_form.Bit (Some (record { line = 1; high = (x.Postfix (post 1 (form.Number (decimal 7)) [])); low = (x.Postfix (post 1 (form.Number (decimal 0)) [])) }))) }); variables = (record { line = 1; name = (codes "v"); bracket = bracket.None; value = None } ∷ []) } ∷ record { line = 1; of = (record { line = 1; form = type_form.Integer }); variables = (record { line = 1; name = (codes "a"); bracket = bracket.None; value = None } ∷ []) } ∷ []); stmts = ((s.Step (record { line = 1; target = (post 1 (form.Name (codes "a")) []); change = (change.Assign (x.Postfix (post 1 (form.Name (codes "v")) (suffix.Bits (x.Postfix (post 1 (form.Number (decimal 1)) [])) (x.Postfix (post 1 (form.Number (decimal 2)) [])) ∷ [])))) })) ∷ []) }) })) ∷ [])) }

-- program p { bit [7:0] v; integer a; a = v[2:2]; v[7:4] = 1; v[a] = 1; }
abbrev pub bits_alike : Row
bits_alike = record { told = Accepted; source = (tree ((item.Program (record { line = 1; name = (codes "p"); block = (record { line = 1; decls = (record { line = 1; of = (record { line = 1; form = (type_form.Bit (Some (record { line = 1; high = (x.Postfix (post 1 (form.Number (decimal 7)) [])); low = (x.Postfix (post 1 (form.Number (decimal 0)) [])) }))) }); variables = (record { line = 1; name = (codes "v"); bracket = bracket.None; value = None } ∷ []) } ∷ record { line = 1; of = (record { line = 1; form = type_form.Integer }); variables = (record { line = 1; name = (codes "a"); bracket = bracket.None; value = None } ∷ []) } ∷ []); stmts = ((s.Step (record { line = 1; target = (post 1 (form.Name (codes "a")) []); change = (change.Assign (x.Postfix (post 1 (form.Name (codes "v")) (suffix.Bits (x.Postfix (post 1 (form.Number (decimal 2)) [])) (x.Postfix (post 1 (form.Number (decimal 2)) [])) ∷ [])))) })) ∷ (s.Step (record { line = 1; target = (post 1 (form.Name (codes "v")) (suffix.Bits (x.Postfix (post 1 (form.Number (decimal 7)) [])) (x.Postfix (post 1 (form.Number (decimal 4)) [])) ∷ [])); change = (change.Assign (x.Postfix (post 1 (form.Number (decimal 1)) []))) })) ∷ (s.Step (record { line = 1; target = (post 1 (form.Name (codes "v")) (suffix.Index (x.Postfix (post 1 (form.Name (codes "a")) [])) ∷ [])); change = (change.Assign (x.Postfix (post 1 (form.Number (decimal 1)) []))) })) ∷ []) }) })) ∷ [])) }

-- program p { string s; integer a; a = s[1]; }
abbrev pub bits_of_string : Row
bits_of_string = record { told = Refused 32 1; source = (tree ((item.Program (record { line = 1; name = (codes "p"); block = (record { line = 1; decls = (record { line = 1; of = (record { line = 1; form = type_form.Str }); variables = (record { line = 1; name = (codes "s"); bracket = bracket.None; value = None } ∷ []) } ∷ record { line = 1; of = (record { line = 1; form = type_form.Integer }); variables = (record { line = 1; name = (codes "a"); bracket = bracket.None; value = None } ∷ []) } ∷ []); stmts = ((s.Step (record { line = 1; target = (post 1 (form.Name (codes "a")) []); change = (change.Assign (x.Postfix (post 1 (form.Name (codes "s")) (suffix.Index (x.Postfix (post 1 (form.Number (decimal 1)) [])) ∷ [])))) })) ∷ []) }) })) ∷ [])) }

-- task t() { } program p { integer a; a = t(); }
abbrev pub task_as_value : Row
task_as_value = record { told = Refused 32 1; source = (tree ((item.Task (record { line = 1; name = (Named (codes "t")); parameters = []; block = (record { line = 1; decls = []; stmts = [] }) })) ∷ (item.Program (record { line = 1; name = (codes "p"); block = (record { line = 1; decls = (record { line = 1; of = (record { line = 1; form = type_form.Integer }); variables = (record { line = 1; name = (codes "a"); bracket = bracket.None; value = None } ∷ []) } ∷ []); stmts = ((s.Step (record { line = 1; target = (post 1 (form.Name (codes "a")) []); change = (change.Assign (x.Postfix (post 1 (form.Name (codes "t")) (suffix.Call [] ∷ [])))) })) ∷ []) }) })) ∷ [])) }

-- task t() { } program p { t; }
abbrev pub task_without_call : Row
task_without_call = record { told = Refused 32 1; source = (tree ((item.Task (record { line = 1; name = (Named (codes "t")); parameters = []; block = (record { line = 1; decls = []; stmts = [] }) })) ∷ (item.Program (record { line = 1; name = (codes "p"); block = (record { line = 1; decls = []; stmts = ((s.Call (post 1 (form.Name (codes "t")) [])) ∷ []) }) })) ∷ [])) }

-- task t() { } program p { void = t(); }
abbrev pub task_in_void : Row
task_in_void = record { told = Refused 32 1; source = (tree ((item.Task (record { line = 1; name = (Named (codes "t")); parameters = []; block = (record { line = 1; decls = []; stmts = [] }) })) ∷ (item.Program (record { line = 1; name = (codes "p"); block = (record { line = 1; decls = []; stmts = ((s.Void (record { line = 1; value = (post 1 (form.Name (codes "t")) (suffix.Call [] ∷ [])) })) ∷ []) }) })) ∷ [])) }

-- program p { integer a; a = flag; }
abbrev pub built_in_without_call : Row
built_in_without_call = record { told = Refused 32 1; source = (tree ((item.Program (record { line = 1; name = (codes "p"); block = (record { line = 1; decls = (record { line = 1; of = (record { line = 1; form = type_form.Integer }); variables = (record { line = 1; name = (codes "a"); bracket = bracket.None; value = None } ∷ []) } ∷ []); stmts = ((s.Step (record { line = 1; target = (post 1 (form.Name (codes "a")) []); change = (change.Assign (x.Postfix (post 1 (form.Name (codes "flag")) []))) })) ∷ []) }) })) ∷ [])) }

-- program p { printf("%d",
--  WAIT); }
abbrev pub mode_elsewhere : Row
mode_elsewhere = record { told = Refused 32 2; source = (tree ((item.Program (record { line = 1; name = (codes "p"); block = (record { line = 1; decls = []; stmts = ((s.Call (post 1 (form.Name (codes "printf")) (suffix.Call ((x.Postfix (post 1 (form.Str (37 ∷ 100 ∷ [])) [])) ∷ (x.Postfix (post 2 (form.Name (codes "WAIT")) [])) ∷ []) ∷ []))) ∷ []) }) })) ∷ [])) }

-- program p { semaphore_get(ON, 1, 1); }
abbrev pub mode_of_other : Row
mode_of_other = record { told = Refused 32 1; source = (tree ((item.Program (record { line = 1; name = (codes "p"); block = (record { line = 1; decls = []; stmts = ((s.Call (post 1 (form.Name (codes "semaphore_get")) (suffix.Call ((x.Postfix (post 1 (form.Name (codes "ON")) [])) ∷ (x.Postfix (post 1 (form.Number (decimal 1)) [])) ∷ (x.Postfix (post 1 (form.Number (decimal 1)) [])) ∷ []) ∷ []))) ∷ []) }) })) ∷ [])) }

-- program p { integer a; a = semaphore_get(1, 1); }
abbrev pub mode_missing : Row
mode_missing = record { told = Refused 32 1; source = (tree ((item.Program (record { line = 1; name = (codes "p"); block = (record { line = 1; decls = (record { line = 1; of = (record { line = 1; form = type_form.Integer }); variables = (record { line = 1; name = (codes "a"); bracket = bracket.None; value = None } ∷ []) } ∷ []); stmts = ((s.Step (record { line = 1; target = (post 1 (form.Name (codes "a")) []); change = (change.Assign (x.Postfix (post 1 (form.Name (codes "semaphore_get")) (suffix.Call ((x.Postfix (post 1 (form.Number (decimal 1)) [])) ∷ (x.Postfix (post 1 (form.Number (decimal 1)) [])) ∷ []) ∷ [])))) })) ∷ []) }) })) ∷ [])) }

-- program p { integer a; a = alloc(MAILBOX, 1, 1); }
abbrev pub alloc_second : Row
alloc_second = record { told = Refused 32 1; source = (tree ((item.Program (record { line = 1; name = (codes "p"); block = (record { line = 1; decls = (record { line = 1; of = (record { line = 1; form = type_form.Integer }); variables = (record { line = 1; name = (codes "a"); bracket = bracket.None; value = None } ∷ []) } ∷ []); stmts = ((s.Step (record { line = 1; target = (post 1 (form.Name (codes "a")) []); change = (change.Assign (x.Postfix (post 1 (form.Name (codes "alloc")) (suffix.Call ((x.Postfix (post 1 (form.Name (codes "MAILBOX")) [])) ∷ (x.Postfix (post 1 (form.Number (decimal 1)) [])) ∷ (x.Postfix (post 1 (form.Number (decimal 1)) [])) ∷ []) ∷ [])))) })) ∷ []) }) })) ∷ [])) }

-- program p { integer a; a =
--  new; }
abbrev pub new_of_vector_below : Row
new_of_vector_below = record { told = Refused 32 1; source = (tree ((item.Program (record { line = 1; name = (codes "p"); block = (record { line = 1; decls = (record { line = 1; of = (record { line = 1; form = type_form.Integer }); variables = (record { line = 1; name = (codes "a"); bracket = bracket.None; value = None } ∷ []) } ∷ []); stmts = ((s.Step (record { line = 1; target = (post 1 (form.Name (codes "a")) []); change = (change.Assign (x.Postfix (post 2 form.New []))) })) ∷ []) }) })) ∷ [])) }

-- program p { integer
--  a =
--  new; }
abbrev pub new_declared_below : Row
new_declared_below = record { told = Refused 32 2; source = (tree ((item.Program (record { line = 1; name = (codes "p"); block = (record { line = 1; decls = (record { line = 1; of = (record { line = 1; form = type_form.Integer }); variables = (record { line = 2; name = (codes "a"); bracket = bracket.None; value = (Some (x.Postfix (post 3 form.New []))) } ∷ []) } ∷ []); stmts = [] }) })) ∷ [])) }

-- program p { integer a; a =
--  null; }
abbrev pub null_of_vector_below : Row
null_of_vector_below = record { told = Refused 32 1; source = (tree ((item.Program (record { line = 1; name = (codes "p"); block = (record { line = 1; decls = (record { line = 1; of = (record { line = 1; form = type_form.Integer }); variables = (record { line = 1; name = (codes "a"); bracket = bracket.None; value = None } ∷ []) } ∷ []); stmts = ((s.Step (record { line = 1; target = (post 1 (form.Name (codes "a")) []); change = (change.Assign (x.Postfix (post 2 form.Null []))) })) ∷ []) }) })) ∷ [])) }

-- program p { integer a; a =
--  (new); }
abbrev pub new_in_parentheses_below : Row
new_in_parentheses_below = record { told = Refused 32 2; source = (tree ((item.Program (record { line = 1; name = (codes "p"); block = (record { line = 1; decls = (record { line = 1; of = (record { line = 1; form = type_form.Integer }); variables = (record { line = 1; name = (codes "a"); bracket = bracket.None; value = None } ∷ []) } ∷ []); stmts = ((s.Step (record { line = 1; target = (post 1 (form.Name (codes "a")) []); change = (change.Assign (x.Postfix (post 2 (form.Parentheses (x.Postfix (post 2 form.New []))) []))) })) ∷ []) }) })) ∷ [])) }

-- interface i { input clk CLOCK; output [3:0] b PHOLD #1; input [3:0] q PSAMPLE #-1; }
-- program p { i.b =
--  new; }
abbrev pub new_driven_below : Row
new_driven_below = record { told = Refused 32 3; source = (tree ((item.Interface (record { line = 1; name = (codes "i"); signals = (record { line = 1; direction = Input; range = None; name = (codes "clk"); kind = record { line = 1; form = Clock } } ∷ record { line = 1; direction = Output; range = (Some (record { line = 1; high = (x.Postfix (post 1 (form.Number (decimal 3)) [])); low = (x.Postfix (post 1 (form.Number (decimal 0)) [])) })); name = (codes "b"); kind = record { line = 1; form = (Timed PositiveHold (Some (record { is_negative = false; amount = (decimal 1) }))) } } ∷ record { line = 1; direction = Input; range = (Some (record { line = 1; high = (x.Postfix (post 1 (form.Number (decimal 3)) [])); low = (x.Postfix (post 1 (form.Number (decimal 0)) [])) })); name = (codes "q"); kind = record { line = 1; form = (Timed PositiveSample (Some (record { is_negative = true; amount = (decimal 1) }))) } } ∷ []) })) ∷ (item.Program (record { line = 2; name = (codes "p"); block = (record { line = 2; decls = []; stmts = ((s.Step (record { line = 2; target = (post 2 (form.Name (codes "i")) (suffix.Member (codes "b") ∷ [])); change = (change.Assign (x.Postfix (post 3 form.New []))) })) ∷ []) }) })) ∷ [])) }

abbrev pub type_rows1 : List Row
type_rows1 = string_to_vector ∷ vector_to_string ∷ vector_to_enum ∷ enum_to_vector ∷ enum_to_other_enum ∷ enum_sum ∷ sum_to_enum ∷ string_plus ∷ string_equal ∷ string_case_equal ∷ string_condition ∷ null_equal ∷ null_to_vector ∷ range_low ∷ constant_variable ∷ constant_sum ∷ constant_negative ∷ constant_minus_inside ∷ constant_unary ∷ constant_based ∷ constant_overflow ∷ bits_reversed ∷ bits_alike ∷ bits_of_string ∷ task_as_value ∷ task_without_call ∷ task_in_void ∷ built_in_without_call ∷ mode_elsewhere ∷ mode_of_other ∷ mode_missing ∷ alloc_second ∷ new_of_vector_below ∷ new_declared_below ∷ null_of_vector_below ∷ new_in_parentheses_below ∷ new_driven_below ∷ []
