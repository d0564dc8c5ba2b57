-- Limits.
use Rattle.std.specs.Prelude.{true, false, List, [], ◌∷◌, Some, None, codes}
use Rattle.four_state.specs.declared.bit.Bit.TheVariants.{Zero, One, X, Z}
use Rattle.vera_ast.specs.declared.tree.declarations.Bracket.TheVariants as bracket
use Rattle.vera_ast.specs.declared.tree.declarations.TypeForm.TheVariants as type_form
use Rattle.vera_ast.specs.declared.tree.expressions.ChainOperator.TheVariants as o
use Rattle.vera_ast.specs.declared.tree.expressions.UnaryOperator.TheVariants as u
use Rattle.vera_ast.specs.declared.tree.expressions.Expr.TheVariants as x
use Rattle.vera_ast.specs.declared.tree.expressions.PrimaryForm.TheVariants as form
use Rattle.vera_ast.specs.declared.tree.expressions.Suffix.TheVariants as suffix
use Rattle.vera_ast.specs.declared.tree.interfaces.Direction.TheVariants.{Input, Output}
use Rattle.vera_ast.specs.declared.tree.interfaces.SignalForm.TheVariants.{Clock, Timed}
use Rattle.vera_ast.specs.declared.tree.interfaces.SignalTime.TheVariants.{PositiveHold, PositiveSample, NegativeHold, NegativeSample}
use Rattle.vera_ast.specs.declared.tree.items.Item.TheVariants as item
use Rattle.vera_ast.specs.declared.tree.items.TaskName.TheVariants.{Named, New}
use Rattle.vera_ast.specs.declared.tree.items.Tree.{Tree}
use Rattle.vera_ast.specs.declared.tree.statements.ArmLabel.TheVariants as label
use Rattle.vera_ast.specs.declared.tree.statements.Change.TheVariants as change
use Rattle.vera_ast.specs.declared.tree.statements.DelayForm.TheVariants as delay_form
use Rattle.vera_ast.specs.declared.tree.statements.DriveOperator.TheVariants.{Assign as Plain, Arrow}
use Rattle.vera_ast.specs.declared.tree.statements.EdgeClock.TheVariants as clock
use Rattle.vera_ast.specs.declared.tree.statements.Join.TheVariants as join
use Rattle.vera_ast.specs.declared.tree.statements.Stmt.TheVariants as s
use Rattle.vera_ast.specs.declared.tree.statements.TermOperator.TheVariants as term
use Rattle.vera_ast.specs.declared.tree.statements.WindowKind.TheVariants as window
use Rattle.typing_rules.specs.Sources.{tree, post, decimal, based}
use Rattle.typing_rules.specs.Told.{Row, Accepted, Refused}

-- program p { bit [128:0] v; }
abbrev pub width_129 : Row
width_129 = record { told = Refused 39 1; source = (tree ((item.Program (record { line = 1; name = (codes "p"); block = (record { line = 1; decls = (record { line = 1; of = (record { line = 1; form = (type_form.Bit (Some (record { line = 1; high = (x.Postfix (post 1 (form.Number (decimal 128)) [])); low = (x.Postfix (post 1 (form.Number (decimal 0)) [])) }))) }); variables = (record { line = 1; name = (codes "v"); bracket = bracket.None; value = None } ∷ []) } ∷ []); stmts = [] }) })) ∷ [])) }

-- program p { bit [127:0] v; }
abbrev pub width_128 : Row
width_128 = record { told = Accepted; source = (tree ((item.Program (record { line = 1; name = (codes "p"); block = (record { line = 1; decls = (record { line = 1; of = (record { line = 1; form = (type_form.Bit (Some (record { line = 1; high = (x.Postfix (post 1 (form.Number (decimal 127)) [])); low = (x.Postfix (post 1 (form.Number (decimal 0)) [])) }))) }); variables = (record { line = 1; name = (codes "v"); bracket = bracket.None; value = None } ∷ []) } ∷ []); stmts = [] }) })) ∷ [])) }

-- program p { integer a[0]; }
abbrev pub array_none : Row
array_none = record { told = Refused 39 1; source = (tree ((item.Program (record { line = 1; name = (codes "p"); block = (record { line = 1; decls = (record { line = 1; of = (record { line = 1; form = type_form.Integer }); variables = (record { line = 1; name = (codes "a"); bracket = (bracket.Fixed (x.Postfix (post 1 (form.Number (decimal 0)) []))); value = None } ∷ []) } ∷ []); stmts = [] }) })) ∷ [])) }

-- program p { integer a[65537]; }
abbrev pub array_65537 : Row
array_65537 = record { told = Refused 39 1; source = (tree ((item.Program (record { line = 1; name = (codes "p"); block = (record { line = 1; decls = (record { line = 1; of = (record { line = 1; form = type_form.Integer }); variables = (record { line = 1; name = (codes "a"); bracket = (bracket.Fixed (x.Postfix (post 1 (form.Number (decimal 65537)) []))); value = None } ∷ []) } ∷ []); stmts = [] }) })) ∷ [])) }

-- program p { integer a[65536]; }
abbrev pub array_65536 : Row
array_65536 = record { told = Accepted; source = (tree ((item.Program (record { line = 1; name = (codes "p"); block = (record { line = 1; decls = (record { line = 1; of = (record { line = 1; form = type_form.Integer }); variables = (record { line = 1; name = (codes "a"); bracket = (bracket.Fixed (x.Postfix (post 1 (form.Number (decimal 65536)) []))); value = None } ∷ []) } ∷ []); stmts = [] }) })) ∷ [])) }

-- program p { bit [7:0] v; integer a; a = v[200:1]; }
abbrev pub bits_129 : Row
bits_129 = record { told = Refused 39 1; source = (tree ((item.Program (record { line = 1; name = (codes "p"); block = (record { line = 1; decls = (record { line = 1; of = (record { line = 1; form = (type_form.Bit (Some (record { line = 1; high = (x.Postfix (post 1 (form.Number (decimal 7)) [])); low = (x.Postfix (post 1 (form.Number (decimal 0)) [])) }))) }); variables = (record { line = 1; name = (codes "v"); bracket = bracket.None; value = None } ∷ []) } ∷ record { line = 1; of = (record { line = 1; form = type_form.Integer }); variables = (record { line = 1; name = (codes "a"); bracket = bracket.None; value = None } ∷ []) } ∷ []); stmts = ((s.Step (record { line = 1; target = (post 1 (form.Name (codes "a")) []); change = (change.Assign (x.Postfix (post 1 (form.Name (codes "v")) (suffix.Bits (x.Postfix (post 1 (form.Number (decimal 200)) [])) (x.Postfix (post 1 (form.Number (decimal 1)) [])) ∷ [])))) })) ∷ []) }) })) ∷ [])) }

-- program p { bit [7:0] v; integer a; a = v[200:100]; }
abbrev pub bits_outside : Row
bits_outside = record { told = Accepted; source = (tree ((item.Program (record { line = 1; name = (codes "p"); block = (record { line = 1; decls = (record { line = 1; of = (record { line = 1; form = (type_form.Bit (Some (record { line = 1; high = (x.Postfix (post 1 (form.Number (decimal 7)) [])); low = (x.Postfix (post 1 (form.Number (decimal 0)) [])) }))) }); variables = (record { line = 1; name = (codes "v"); bracket = bracket.None; value = None } ∷ []) } ∷ record { line = 1; of = (record { line = 1; form = type_form.Integer }); variables = (record { line = 1; name = (codes "a"); bracket = bracket.None; value = None } ∷ []) } ∷ []); stmts = ((s.Step (record { line = 1; target = (post 1 (form.Name (codes "a")) []); change = (change.Assign (x.Postfix (post 1 (form.Name (codes "v")) (suffix.Bits (x.Postfix (post 1 (form.Number (decimal 200)) [])) (x.Postfix (post 1 (form.Number (decimal 100)) [])) ∷ [])))) })) ∷ []) }) })) ∷ [])) }

-- interface i { input clk CLOCK;
--  input [128:0] a PSAMPLE; } program p { }
abbrev pub signal_width_129 : Row
signal_width_129 = record { told = Refused 39 2; source = (tree ((item.Interface (record { line = 1; name = (codes "i"); signals = (record { line = 1; direction = Input; range = None; name = (codes "clk"); kind = record { line = 1; form = Clock } } ∷ record { line = 2; direction = Input; range = (Some (record { line = 2; high = (x.Postfix (post 2 (form.Number (decimal 128)) [])); low = (x.Postfix (post 2 (form.Number (decimal 0)) [])) })); name = (codes "a"); kind = record { line = 2; form = (Timed PositiveSample None) } } ∷ []) })) ∷ (item.Program (record { line = 2; name = (codes "p"); block = (record { line = 2; decls = []; stmts = [] }) })) ∷ [])) }

-- task t(integer a0, integer a1, integer a2, integer a3, integer a4, integer a5, integer a6, integer a7, integer a8, integer a9, integer a10, integer a11, integer a12, integer a13, integer a14, integer a15, integer a16, integer a17, integer a18, integer a19, integer a20, integer a21, integer a22, integer a23, integer a24, integer a25, integer a26, integer a27, integer a28, integer a29, integer a30, integer a31, integer a32, integer a33, integer a34, integer a35, integer a36, integer a37, integer a38, integer a39, integer a40, integer a41, integer a42, integer a43, integer a44, integer a45, integer a46, integer a47, integer a48, integer a49, integer a50, integer a51, integer a52, integer a53, integer a54, integer a55, integer a56, integer a57, integer a58, integer a59, integer a60, integer a61, integer a62, integer a63,
--  integer z) { } program p { }
abbrev pub parameters_65 : Row
parameters_65 = record { told = Refused 39 2; source = (tree ((item.Task (record { line = 1; name = (Named (codes "t")); parameters = (record { line = 1; is_var = false; of = (record { line = 1; form = type_form.Integer }); name = (codes "a0") } ∷ record { line = 1; is_var = false; of = (record { line = 1; form = type_form.Integer }); name = (codes "a1") } ∷ record { line = 1; is_var = false; of = (record { line = 1; form = type_form.Integer }); name = (codes "a2") } ∷ record { line = 1; is_var = false; of = (record { line = 1; form = type_form.Integer }); name = (codes "a3") } ∷ record { line = 1; is_var = false; of = (record { line = 1; form = type_form.Integer }); name = (codes "a4") } ∷ record { line = 1; is_var = false; of = (record { line = 1; form = type_form.Integer }); name = (codes "a5") } ∷ record { line = 1; is_var = false; of = (record { line = 1; form = type_form.Integer }); name = (codes "a6") } ∷ record { line = 1; is_var = false; of = (record { line = 1; form = type_form.Integer }); name = (codes "a7") } ∷ record { line = 1; is_var = false; of = (record { line = 1; form = type_form.Integer }); name = (codes "a8") } ∷ record { line = 1; is_var = false; of = (record { line = 1; form = type_form.Integer }); name = (codes "a9") } ∷ record { line = 1; is_var = false; of = (record { line = 1; form = type_form.Integer }); name = (codes "a10") } ∷ record { line = 1; is_var = false; of = (record { line = 1; form = type_form.Integer }); name = (codes "a11") } ∷ record { line = 1; is_var = false; of = (record { line = 1; form = type_form.Integer }); name = (codes "a12") } ∷ record { line = 1; is_var = false; of = (record { line = 1; form = type_form.Integer }); name = (codes "a13") } ∷ record { line = 1; is_var = false; of = (record { line = 1; form = type_form.Integer }); name = (codes "a14") } ∷ record { line = 1; is_var = false; of = (record { line = 1; form = type_form.Integer }); name = (codes "a15") } ∷ record { line = 1; is_var = false; of = (record { line = 1; form = type_form.Integer }); name = (codes "a16") } ∷ record { line = 1; is_var = false; of = (record { line = 1; form = type_form.Integer }); name = (codes "a17") } ∷ record { line = 1; is_var = false; of = (record { line = 1; form = type_form.Integer }); name = (codes "a18") } ∷ record { line = 1; is_var = false; of = (record { line = 1; form = type_form.Integer }); name = (codes "a19") } ∷ record { line = 1; is_var = false; of = (record { line = 1; form = type_form.Integer }); name = (codes "a20") } ∷ record { line = 1; is_var = false; of = (record { line = 1; form = type_form.Integer }); name = (codes "a21") } ∷ record { line = 1; is_var = false; of = (record { line = 1; form = type_form.Integer }); name = (codes "a22") } ∷ record { line = 1; is_var = false; of = (record { line = 1; form = type_form.Integer }); name = (codes "a23") } ∷ record { line = 1; is_var = false; of = (record { line = 1; form = type_form.Integer }); name = (codes "a24") } ∷ record { line = 1; is_var = false; of = (record { line = 1; form = type_form.Integer }); name = (codes "a25") } ∷ record { line = 1; is_var = false; of = (record { line = 1; form = type_form.Integer }); name = (codes "a26") } ∷ record { line = 1; is_var = false; of = (record { line = 1; form = type_form.Integer }); name = (codes "a27") } ∷ record { line = 1; is_var = false; of = (record { line = 1; form = type_form.Integer }); name = (codes "a28") } ∷ record { line = 1; is_var = false; of = (record { line = 1; form = type_form.Integer }); name = (codes "a29") } ∷ record { line = 1; is_var = false; of = (record { line = 1; form = type_form.Integer }); name = (codes "a30") } ∷ record { line = 1; is_var = false; of = (record { line = 1; form = type_form.Integer }); name = (codes "a31") } ∷ record { line = 1; is_var = false; of = (record { line = 1; form = type_form.Integer }); name = (codes "a32") } ∷ record { line = 1; is_var = false; of = (record { line = 1; form = type_form.Integer }); name = (codes "a33") } ∷ record { line = 1; is_var = false; of = (record { line = 1; form = type_form.Integer }); name = (codes "a34") } ∷ record { line = 1; is_var = false; of = (record { line = 1; form = type_form.Integer }); name = (codes "a35") } ∷ record { line = 1; is_var = false; of = (record { line = 1; form = type_form.Integer }); name = (codes "a36") } ∷ record { line = 1; is_var = false; of = (record { line = 1; form = type_form.Integer }); name = (codes "a37") } ∷ record { line = 1; is_var = false; of = (record { line = 1; form = type_form.Integer }); name = (codes "a38") } ∷ record { line = 1; is_var = false; of = (record { line = 1; form = type_form.Integer }); name = (codes "a39") } ∷ record { line = 1; is_var = false; of = (record { line = 1; form = type_form.Integer }); name = (codes "a40") } ∷ record { line = 1; is_var = false; of = (record { line = 1; form = type_form.Integer }); name = (codes "a41") } ∷ record { line = 1; is_var = false; of = (record { line = 1; form = type_form.Integer }); name = (codes "a42") } ∷ record { line = 1; is_var = false; of = (record { line = 1; form = type_form.Integer }); name = (codes "a43") } ∷ record { line = 1; is_var = false; of = (record { line = 1; form = type_form.Integer }); name = (codes "a44") } ∷ record { line = 1; is_var = false; of = (record { line = 1; form = type_form.Integer }); name = (codes "a45") } ∷ record { line = 1; is_var = false; of = (record { line = 1; form = type_form.Integer }); name = (codes "a46") } ∷ record { line = 1; is_var = false; of = (record { line = 1; form = type_form.Integer }); name = (codes "a47") } ∷ record { line = 1; is_var = false; of = (record { line = 1; form = type_form.Integer }); name = (codes "a48") } ∷ record { line = 1; is_var = false; of = (record { line = 1; form = type_form.Integer }); name = (codes "a49") } ∷ record { line = 1; is_var = false; of = (record { line = 1; form = type_form.Integer }); name = (codes "a50") } ∷ record { line = 1; is_var = false; of = (record { line = 1; form = type_form.Integer }); name = (codes "a51") } ∷ record { line = 1; is_var = false; of = (record { line = 1; form = type_form.Integer }); name = (codes "a52") } ∷ record { line = 1; is_var = false; of = (record { line = 1; form = type_form.Integer }); name = (codes "a53") } ∷ record { line = 1; is_var = false; of = (record { line = 1; form = type_form.Integer }); name = (codes "a54") } ∷ record { line = 1; is_var = false; of = (record { line = 1; form = type_form.Integer }); name = (codes "a55") } ∷ record { line = 1; is_var = false; of = (record { line = 1; form = type_form.Integer }); name = (codes "a56") } ∷ record { line = 1; is_var = false; of = (record { line = 1; form = type_form.Integer }); name = (codes "a57") } ∷ record { line = 1; is_var = false; of = (record { line = 1; form = type_form.Integer }); name = (codes "a58") } ∷ record { line = 1; is_var = false; of = (record { line = 1; form = type_form.Integer }); name = (codes "a59") } ∷ record { line = 1; is_var = false; of = (record { line = 1; form = type_form.Integer }); name = (codes "a60") } ∷ record { line = 1; is_var = false; of = (record { line = 1; form = type_form.Integer }); name = (codes "a61") } ∷ record { line = 1; is_var = false; of = (record { line = 1; form = type_form.Integer }); name = (codes "a62") } ∷ record { line = 1; is_var = false; of = (record { line = 1; form = type_form.Integer }); name = (codes "a63") } ∷ record { line = 2; is_var = false; of = (record { line = 2; form = type_form.Integer }); name = (codes "z") } ∷ []); block = (record { line = 2; decls = []; stmts = [] }) })) ∷ (item.Program (record { line = 2; name = (codes "p"); block = (record { line = 2; decls = []; stmts = [] }) })) ∷ [])) }

-- task t(integer a0, integer a1, integer a2, integer a3, integer a4, integer a5, integer a6, integer a7, integer a8, integer a9, integer a10, integer a11, integer a12, integer a13, integer a14, integer a15, integer a16, integer a17, integer a18, integer a19, integer a20, integer a21, integer a22, integer a23, integer a24, integer a25, integer a26, integer a27, integer a28, integer a29, integer a30, integer a31, integer a32, integer a33, integer a34, integer a35, integer a36, integer a37, integer a38, integer a39, integer a40, integer a41, integer a42, integer a43, integer a44, integer a45, integer a46, integer a47, integer a48, integer a49, integer a50, integer a51, integer a52, integer a53, integer a54, integer a55, integer a56, integer a57, integer a58, integer a59, integer a60, integer a61, integer a62, integer a63) { } program p { }
abbrev pub parameters_64 : Row
parameters_64 = record { told = Accepted; source = (tree ((item.Task (record { line = 1; name = (Named (codes "t")); parameters = (record { line = 1; is_var = false; of = (record { line = 1; form = type_form.Integer }); name = (codes "a0") } ∷ record { line = 1; is_var = false; of = (record { line = 1; form = type_form.Integer }); name = (codes "a1") } ∷ record { line = 1; is_var = false; of = (record { line = 1; form = type_form.Integer }); name = (codes "a2") } ∷ record { line = 1; is_var = false; of = (record { line = 1; form = type_form.Integer }); name = (codes "a3") } ∷ record { line = 1; is_var = false; of = (record { line = 1; form = type_form.Integer }); name = (codes "a4") } ∷ record { line = 1; is_var = false; of = (record { line = 1; form = type_form.Integer }); name = (codes "a5") } ∷ record { line = 1; is_var = false; of = (record { line = 1; form = type_form.Integer }); name = (codes "a6") } ∷ record { line = 1; is_var = false; of = (record { line = 1; form = type_form.Integer }); name = (codes "a7") } ∷ record { line = 1; is_var = false; of = (record { line = 1; form = type_form.Integer }); name = (codes "a8") } ∷ record { line = 1; is_var = false; of = (record { line = 1; form = type_form.Integer }); name = (codes "a9") } ∷ record { line = 1; is_var = false; of = (record { line = 1; form = type_form.Integer }); name = (codes "a10") } ∷ record { line = 1; is_var = false; of = (record { line = 1; form = type_form.Integer }); name = (codes "a11") } ∷ record { line = 1; is_var = false; of = (record { line = 1; form = type_form.Integer }); name = (codes "a12") } ∷ record { line = 1; is_var = false; of = (record { line = 1; form = type_form.Integer }); name = (codes "a13") } ∷ record { line = 1; is_var = false; of = (record { line = 1; form = type_form.Integer }); name = (codes "a14") } ∷ record { line = 1; is_var = false; of = (record { line = 1; form = type_form.Integer }); name = (codes "a15") } ∷ record { line = 1; is_var = false; of = (record { line = 1; form = type_form.Integer }); name = (codes "a16") } ∷ record { line = 1; is_var = false; of = (record { line = 1; form = type_form.Integer }); name = (codes "a17") } ∷ record { line = 1; is_var = false; of = (record { line = 1; form = type_form.Integer }); name = (codes "a18") } ∷ record { line = 1; is_var = false; of = (record { line = 1; form = type_form.Integer }); name = (codes "a19") } ∷ record { line = 1; is_var = false; of = (record { line = 1; form = type_form.Integer }); name = (codes "a20") } ∷ record { line = 1; is_var = false; of = (record { line = 1; form = type_form.Integer }); name = (codes "a21") } ∷ record { line = 1; is_var = false; of = (record { line = 1; form = type_form.Integer }); name = (codes "a22") } ∷ record { line = 1; is_var = false; of = (record { line = 1; form = type_form.Integer }); name = (codes "a23") } ∷ record { line = 1; is_var = false; of = (record { line = 1; form = type_form.Integer }); name = (codes "a24") } ∷ record { line = 1; is_var = false; of = (record { line = 1; form = type_form.Integer }); name = (codes "a25") } ∷ record { line = 1; is_var = false; of = (record { line = 1; form = type_form.Integer }); name = (codes "a26") } ∷ record { line = 1; is_var = false; of = (record { line = 1; form = type_form.Integer }); name = (codes "a27") } ∷ record { line = 1; is_var = false; of = (record { line = 1; form = type_form.Integer }); name = (codes "a28") } ∷ record { line = 1; is_var = false; of = (record { line = 1; form = type_form.Integer }); name = (codes "a29") } ∷ record { line = 1; is_var = false; of = (record { line = 1; form = type_form.Integer }); name = (codes "a30") } ∷ record { line = 1; is_var = false; of = (record { line = 1; form = type_form.Integer }); name = (codes "a31") } ∷ record { line = 1; is_var = false; of = (record { line = 1; form = type_form.Integer }); name = (codes "a32") } ∷ record { line = 1; is_var = false; of = (record { line = 1; form = type_form.Integer }); name = (codes "a33") } ∷ record { line = 1; is_var = false; of = (record { line = 1; form = type_form.Integer }); name = (codes "a34") } ∷ record { line = 1; is_var = false; of = (record { line = 1; form = type_form.Integer }); name = (codes "a35") } ∷ record { line = 1; is_var = false; of = (record { line = 1; form = type_form.Integer }); name = (codes "a36") } ∷ record { line = 1; is_var = false; of = (record { line = 1; form = type_form.Integer }); name = (codes "a37") } ∷ record { line = 1; is_var = false; of = (record { line = 1; form = type_form.Integer }); name = (codes "a38") } ∷ record { line = 1; is_var = false; of = (record { line = 1; form = type_form.Integer }); name = (codes "a39") } ∷ record { line = 1; is_var = false; of = (record { line = 1; form = type_form.Integer }); name = (codes "a40") } ∷ record { line = 1; is_var = false; of = (record { line = 1; form = type_form.Integer }); name = (codes "a41") } ∷ record { line = 1; is_var = false; of = (record { line = 1; form = type_form.Integer }); name = (codes "a42") } ∷ record { line = 1; is_var = false; of = (record { line = 1; form = type_form.Integer }); name = (codes "a43") } ∷ record { line = 1; is_var = false; of = (record { line = 1; form = type_form.Integer }); name = (codes "a44") } ∷ record { line = 1; is_var = false; of = (record { line = 1; form = type_form.Integer }); name = (codes "a45") } ∷ record { line = 1; is_var = false; of = (record { line = 1; form = type_form.Integer }); name = (codes "a46") } ∷ record { line = 1; is_var = false; of = (record { line = 1; form = type_form.Integer }); name = (codes "a47") } ∷ record { line = 1; is_var = false; of = (record { line = 1; form = type_form.Integer }); name = (codes "a48") } ∷ record { line = 1; is_var = false; of = (record { line = 1; form = type_form.Integer }); name = (codes "a49") } ∷ record { line = 1; is_var = false; of = (record { line = 1; form = type_form.Integer }); name = (codes "a50") } ∷ record { line = 1; is_var = false; of = (record { line = 1; form = type_form.Integer }); name = (codes "a51") } ∷ record { line = 1; is_var = false; of = (record { line = 1; form = type_form.Integer }); name = (codes "a52") } ∷ record { line = 1; is_var = false; of = (record { line = 1; form = type_form.Integer }); name = (codes "a53") } ∷ record { line = 1; is_var = false; of = (record { line = 1; form = type_form.Integer }); name = (codes "a54") } ∷ record { line = 1; is_var = false; of = (record { line = 1; form = type_form.Integer }); name = (codes "a55") } ∷ record { line = 1; is_var = false; of = (record { line = 1; form = type_form.Integer }); name = (codes "a56") } ∷ record { line = 1; is_var = false; of = (record { line = 1; form = type_form.Integer }); name = (codes "a57") } ∷ record { line = 1; is_var = false; of = (record { line = 1; form = type_form.Integer }); name = (codes "a58") } ∷ record { line = 1; is_var = false; of = (record { line = 1; form = type_form.Integer }); name = (codes "a59") } ∷ record { line = 1; is_var = false; of = (record { line = 1; form = type_form.Integer }); name = (codes "a60") } ∷ record { line = 1; is_var = false; of = (record { line = 1; form = type_form.Integer }); name = (codes "a61") } ∷ record { line = 1; is_var = false; of = (record { line = 1; form = type_form.Integer }); name = (codes "a62") } ∷ record { line = 1; is_var = false; of = (record { line = 1; form = type_form.Integer }); name = (codes "a63") } ∷ []); block = (record { line = 1; decls = []; stmts = [] }) })) ∷ (item.Program (record { line = 1; name = (codes "p"); block = (record { line = 1; decls = []; stmts = [] }) })) ∷ [])) }

-- interface i { input clk CLOCK; output [3:0] b PHOLD #1; input [3:0] q PSAMPLE #-1; }
-- program p { integer a; a = i.b[200:0]; }
abbrev pub read_output_wide : Row
read_output_wide = record { told = Refused 37 2; source = (tree ((item.Interface (record { line = 1; name = (codes "i"); signals = (record { line = 1; direction = Input; range = None; name = (codes "clk"); kind = record { line = 1; form = Clock } } ∷ record { line = 1; direction = Output; range = (Some (record { line = 1; high = (x.Postfix (post 1 (form.Number (decimal 3)) [])); low = (x.Postfix (post 1 (form.Number (decimal 0)) [])) })); name = (codes "b"); kind = record { line = 1; form = (Timed PositiveHold (Some (record { is_negative = false; amount = (decimal 1) }))) } } ∷ record { line = 1; direction = Input; range = (Some (record { line = 1; high = (x.Postfix (post 1 (form.Number (decimal 3)) [])); low = (x.Postfix (post 1 (form.Number (decimal 0)) [])) })); name = (codes "q"); kind = record { line = 1; form = (Timed PositiveSample (Some (record { is_negative = true; amount = (decimal 1) }))) } } ∷ []) })) ∷ (item.Program (record { line = 2; name = (codes "p"); block = (record { line = 2; decls = (record { line = 2; of = (record { line = 2; form = type_form.Integer }); variables = (record { line = 2; name = (codes "a"); bracket = bracket.None; value = None } ∷ []) } ∷ []); stmts = ((s.Step (record { line = 2; target = (post 2 (form.Name (codes "a")) []); change = (change.Assign (x.Postfix (post 2 (form.Name (codes "i")) (suffix.Member (codes "b") ∷ suffix.Bits (x.Postfix (post 2 (form.Number (decimal 200)) [])) (x.Postfix (post 2 (form.Number (decimal 0)) [])) ∷ [])))) })) ∷ []) }) })) ∷ [])) }

-- interface i { input clk CLOCK; output [3:0] b PHOLD #1; input [3:0] q PSAMPLE #-1; }
-- program p { integer a; a = i.b[0:200]; }
abbrev pub read_output_wide_reversed : Row
read_output_wide_reversed = record { told = Refused 32 2; source = (tree ((item.Interface (record { line = 1; name = (codes "i"); signals = (record { line = 1; direction = Input; range = None; name = (codes "clk"); kind = record { line = 1; form = Clock } } ∷ record { line = 1; direction = Output; range = (Some (record { line = 1; high = (x.Postfix (post 1 (form.Number (decimal 3)) [])); low = (x.Postfix (post 1 (form.Number (decimal 0)) [])) })); name = (codes "b"); kind = record { line = 1; form = (Timed PositiveHold (Some (record { is_negative = false; amount = (decimal 1) }))) } } ∷ record { line = 1; direction = Input; range = (Some (record { line = 1; high = (x.Postfix (post 1 (form.Number (decimal 3)) [])); low = (x.Postfix (post 1 (form.Number (decimal 0)) [])) })); name = (codes "q"); kind = record { line = 1; form = (Timed PositiveSample (Some (record { is_negative = true; amount = (decimal 1) }))) } } ∷ []) })) ∷ (item.Program (record { line = 2; name = (codes "p"); block = (record { line = 2; decls = (record { line = 2; of = (record { line = 2; form = type_form.Integer }); variables = (record { line = 2; name = (codes "a"); bracket = bracket.None; value = None } ∷ []) } ∷ []); stmts = ((s.Step (record { line = 2; target = (post 2 (form.Name (codes "a")) []); change = (change.Assign (x.Postfix (post 2 (form.Name (codes "i")) (suffix.Member (codes "b") ∷ suffix.Bits (x.Postfix (post 2 (form.Number (decimal 0)) [])) (x.Postfix (post 2 (form.Number (decimal 200)) [])) ∷ [])))) })) ∷ []) }) })) ∷ [])) }

-- interface i { input clk CLOCK; output [3:0] b PHOLD #1; input [3:0] q PSAMPLE #-1; }
-- program p { integer a; a = i.q[200:0]; }
abbrev pub read_input_wide : Row
read_input_wide = record { told = Refused 39 2; source = (tree ((item.Interface (record { line = 1; name = (codes "i"); signals = (record { line = 1; direction = Input; range = None; name = (codes "clk"); kind = record { line = 1; form = Clock } } ∷ record { line = 1; direction = Output; range = (Some (record { line = 1; high = (x.Postfix (post 1 (form.Number (decimal 3)) [])); low = (x.Postfix (post 1 (form.Number (decimal 0)) [])) })); name = (codes "b"); kind = record { line = 1; form = (Timed PositiveHold (Some (record { is_negative = false; amount = (decimal 1) }))) } } ∷ record { line = 1; direction = Input; range = (Some (record { line = 1; high = (x.Postfix (post 1 (form.Number (decimal 3)) [])); low = (x.Postfix (post 1 (form.Number (decimal 0)) [])) })); name = (codes "q"); kind = record { line = 1; form = (Timed PositiveSample (Some (record { is_negative = true; amount = (decimal 1) }))) } } ∷ []) })) ∷ (item.Program (record { line = 2; name = (codes "p"); block = (record { line = 2; decls = (record { line = 2; of = (record { line = 2; form = type_form.Integer }); variables = (record { line = 2; name = (codes "a"); bracket = bracket.None; value = None } ∷ []) } ∷ []); stmts = ((s.Step (record { line = 2; target = (post 2 (form.Name (codes "a")) []); change = (change.Assign (x.Postfix (post 2 (form.Name (codes "i")) (suffix.Member (codes "q") ∷ suffix.Bits (x.Postfix (post 2 (form.Number (decimal 200)) [])) (x.Postfix (post 2 (form.Number (decimal 0)) [])) ∷ [])))) })) ∷ []) }) })) ∷ [])) }

-- interface i { input clk CLOCK; output [3:0] b PHOLD #1; input [3:0] q PSAMPLE #-1; }
-- program p { i.b[200:0] = 1; }
abbrev pub wide_left_side : Row
wide_left_side = record { told = Refused 39 2; source = (tree ((item.Interface (record { line = 1; name = (codes "i"); signals = (record { line = 1; direction = Input; range = None; name = (codes "clk"); kind = record { line = 1; form = Clock } } ∷ record { line = 1; direction = Output; range = (Some (record { line = 1; high = (x.Postfix (post 1 (form.Number (decimal 3)) [])); low = (x.Postfix (post 1 (form.Number (decimal 0)) [])) })); name = (codes "b"); kind = record { line = 1; form = (Timed PositiveHold (Some (record { is_negative = false; amount = (decimal 1) }))) } } ∷ record { line = 1; direction = Input; range = (Some (record { line = 1; high = (x.Postfix (post 1 (form.Number (decimal 3)) [])); low = (x.Postfix (post 1 (form.Number (decimal 0)) [])) })); name = (codes "q"); kind = record { line = 1; form = (Timed PositiveSample (Some (record { is_negative = true; amount = (decimal 1) }))) } } ∷ []) })) ∷ (item.Program (record { line = 2; name = (codes "p"); block = (record { line = 2; decls = []; stmts = ((s.Step (record { line = 2; target = (post 2 (form.Name (codes "i")) (suffix.Member (codes "b") ∷ suffix.Bits (x.Postfix (post 2 (form.Number (decimal 200)) [])) (x.Postfix (post 2 (form.Number (decimal 0)) [])) ∷ [])); change = (change.Assign (x.Postfix (post 2 (form.Number (decimal 1)) []))) })) ∷ []) }) })) ∷ [])) }

-- interface i { input clk CLOCK; output [3:0] b PHOLD #1; input [3:0] q PSAMPLE #-1; }
-- program p { i.b[200:0] == 1; }
abbrev pub wide_term : Row
wide_term = record { told = Refused 39 2; source = (tree ((item.Interface (record { line = 1; name = (codes "i"); signals = (record { line = 1; direction = Input; range = None; name = (codes "clk"); kind = record { line = 1; form = Clock } } ∷ record { line = 1; direction = Output; range = (Some (record { line = 1; high = (x.Postfix (post 1 (form.Number (decimal 3)) [])); low = (x.Postfix (post 1 (form.Number (decimal 0)) [])) })); name = (codes "b"); kind = record { line = 1; form = (Timed PositiveHold (Some (record { is_negative = false; amount = (decimal 1) }))) } } ∷ record { line = 1; direction = Input; range = (Some (record { line = 1; high = (x.Postfix (post 1 (form.Number (decimal 3)) [])); low = (x.Postfix (post 1 (form.Number (decimal 0)) [])) })); name = (codes "q"); kind = record { line = 1; form = (Timed PositiveSample (Some (record { is_negative = true; amount = (decimal 1) }))) } } ∷ []) })) ∷ (item.Program (record { line = 2; name = (codes "p"); block = (record { line = 2; decls = []; stmts = ((s.Expect (record { line = 2; window = None; soft_before = false; terms = (record { line = 2; signal = (post 2 (form.Name (codes "i")) (suffix.Member (codes "b") ∷ suffix.Bits (x.Postfix (post 2 (form.Number (decimal 200)) [])) (x.Postfix (post 2 (form.Number (decimal 0)) [])) ∷ [])); operator = term.Equal; value = (x.Postfix (post 2 (form.Number (decimal 1)) [])) } ∷ []); soft_after = false })) ∷ []) }) })) ∷ [])) }

-- interface i { input clk CLOCK; output [3:0] b PHOLD #1; input [3:0] q PSAMPLE #-1; }
-- task t(var bit v) { } program p { t(i.b[200:0]); }
abbrev pub wide_variable_argument : Row
wide_variable_argument = record { told = Refused 39 2; source = (tree ((item.Interface (record { line = 1; name = (codes "i"); signals = (record { line = 1; direction = Input; range = None; name = (codes "clk"); kind = record { line = 1; form = Clock } } ∷ record { line = 1; direction = Output; range = (Some (record { line = 1; high = (x.Postfix (post 1 (form.Number (decimal 3)) [])); low = (x.Postfix (post 1 (form.Number (decimal 0)) [])) })); name = (codes "b"); kind = record { line = 1; form = (Timed PositiveHold (Some (record { is_negative = false; amount = (decimal 1) }))) } } ∷ record { line = 1; direction = Input; range = (Some (record { line = 1; high = (x.Postfix (post 1 (form.Number (decimal 3)) [])); low = (x.Postfix (post 1 (form.Number (decimal 0)) [])) })); name = (codes "q"); kind = record { line = 1; form = (Timed PositiveSample (Some (record { is_negative = true; amount = (decimal 1) }))) } } ∷ []) })) ∷ (item.Task (record { line = 2; name = (Named (codes "t")); parameters = (record { line = 2; is_var = true; of = (record { line = 2; form = (type_form.Bit None) }); name = (codes "v") } ∷ []); block = (record { line = 2; decls = []; stmts = [] }) })) ∷ (item.Program (record { line = 2; name = (codes "p"); block = (record { line = 2; decls = []; stmts = ((s.Call (post 2 (form.Name (codes "t")) (suffix.Call ((x.Postfix (post 2 (form.Name (codes "i")) (suffix.Member (codes "b") ∷ suffix.Bits (x.Postfix (post 2 (form.Number (decimal 200)) [])) (x.Postfix (post 2 (form.Number (decimal 0)) [])) ∷ []))) ∷ []) ∷ []))) ∷ []) }) })) ∷ [])) }

-- interface i { input clk CLOCK; output [3:0] b PHOLD #1; input [3:0] q PSAMPLE #-1; }
-- task t(bit v) { } program p { t(i.b[200:0]); }
abbrev pub wide_value_argument : Row
wide_value_argument = record { told = Refused 37 2; source = (tree ((item.Interface (record { line = 1; name = (codes "i"); signals = (record { line = 1; direction = Input; range = None; name = (codes "clk"); kind = record { line = 1; form = Clock } } ∷ record { line = 1; direction = Output; range = (Some (record { line = 1; high = (x.Postfix (post 1 (form.Number (decimal 3)) [])); low = (x.Postfix (post 1 (form.Number (decimal 0)) [])) })); name = (codes "b"); kind = record { line = 1; form = (Timed PositiveHold (Some (record { is_negative = false; amount = (decimal 1) }))) } } ∷ record { line = 1; direction = Input; range = (Some (record { line = 1; high = (x.Postfix (post 1 (form.Number (decimal 3)) [])); low = (x.Postfix (post 1 (form.Number (decimal 0)) [])) })); name = (codes "q"); kind = record { line = 1; form = (Timed PositiveSample (Some (record { is_negative = true; amount = (decimal 1) }))) } } ∷ []) })) ∷ (item.Task (record { line = 2; name = (Named (codes "t")); parameters = (record { line = 2; is_var = false; of = (record { line = 2; form = (type_form.Bit None) }); name = (codes "v") } ∷ []); block = (record { line = 2; decls = []; stmts = [] }) })) ∷ (item.Program (record { line = 2; name = (codes "p"); block = (record { line = 2; decls = []; stmts = ((s.Call (post 2 (form.Name (codes "t")) (suffix.Call ((x.Postfix (post 2 (form.Name (codes "i")) (suffix.Member (codes "b") ∷ suffix.Bits (x.Postfix (post 2 (form.Number (decimal 200)) [])) (x.Postfix (post 2 (form.Number (decimal 0)) [])) ∷ []))) ∷ []) ∷ []))) ∷ []) }) })) ∷ [])) }

abbrev pub limit_rows : List Row
limit_rows = width_129 ∷ width_128 ∷ array_none ∷ array_65537 ∷ array_65536 ∷ bits_129 ∷ bits_outside ∷ signal_width_129 ∷ parameters_65 ∷ parameters_64 ∷ read_output_wide ∷ read_output_wide_reversed ∷ read_input_wide ∷ wide_left_side ∷ wide_term ∷ wide_variable_argument ∷ wide_value_argument ∷ []
