-- Typed trees of some sources: what names stand for, where variables are kept, and in which types operators work.
use Rattle.std.specs.Prelude.{true, false, List, [], ◌∷◌, Some, None, codes}
use Rattle.vera_ast.specs.declared.tree.declarations.Bracket.TheVariants as bracket
use Rattle.vera_ast.specs.declared.tree.declarations.TypeForm.TheVariants as type_form
use Rattle.vera_ast.specs.declared.tree.expressions.ChainOperator.TheVariants as o
use Rattle.vera_ast.specs.declared.tree.expressions.UnaryOperator.TheVariants as u
use Rattle.vera_ast.specs.declared.tree.expressions.Expr.TheVariants as x
use Rattle.vera_ast.specs.declared.tree.expressions.PrimaryForm.TheVariants as form
use Rattle.vera_ast.specs.declared.tree.expressions.Suffix.TheVariants as suffix
use Rattle.vera_ast.specs.declared.tree.interfaces.Direction.TheVariants.{Input, Output}
use Rattle.vera_ast.specs.declared.tree.interfaces.SignalForm.TheVariants.{Clock, Timed}
use Rattle.vera_ast.specs.declared.tree.interfaces.SignalTime.TheVariants.{PositiveHold, PositiveSample}
use Rattle.vera_ast.specs.declared.tree.items.Item.TheVariants as item
use Rattle.vera_ast.specs.declared.tree.items.TaskName.TheVariants.{Named}
use Rattle.vera_ast.specs.declared.tree.statements.Change.TheVariants as change
use Rattle.vera_ast.specs.declared.tree.statements.DelayForm.TheVariants as delay_form
use Rattle.vera_ast.specs.declared.tree.statements.DriveOperator.TheVariants.{Assign as Plain, Arrow}
use Rattle.vera_ast.specs.declared.tree.statements.EdgeClock.TheVariants as clock
use Rattle.vera_ast.specs.declared.tree.statements.Join.TheVariants as join
use Rattle.vera_ast.specs.declared.tree.statements.Stmt.TheVariants as s
use Rattle.vera_ast.specs.declared.tree.statements.TermOperator.TheVariants as term
use Rattle.vera_ast.specs.declared.tree.statements.WindowKind.TheVariants as window
use Rattle.typing_rules.specs.Sources.{tree, post, decimal}
use Rattle.four_state.specs.Numbers.{vector_of}
use Rattle.std.specs.Prelude.{ℕ, unwrap_or}
use Rattle.vera_ast.specs.Types.{one, one_bit, of_integer}
use Rattle.vera_ast.specs.declared.typed.builtin.BuiltInFunction.TheVariants as function
use Rattle.vera_ast.specs.declared.typed.builtin.BuiltInTask.TheVariants as task
use Rattle.vera_ast.specs.declared.typed.builtin.WaitingFunction.TheVariants as waiting
use Rattle.vera_ast.specs.declared.typed.expr.TypedExpr.{TypedExpr}
use Rattle.vera_ast.specs.declared.typed.expr.TypedExpr.TheVariants as e
use Rattle.vera_ast.specs.declared.typed.file.TypedItem.{TypedItem}
use Rattle.vera_ast.specs.declared.typed.file.TypedItem.TheVariants as it
use Rattle.vera_ast.specs.declared.typed.format.ConversionLetter.TheVariants as letter
use Rattle.vera_ast.specs.declared.typed.format.FormatPart.TheVariants as part
use Rattle.vera_ast.specs.declared.typed.interface.TypedSignalKind.TheVariants as kind
use Rattle.vera_ast.specs.declared.typed.invocation.TypedArgument.TheVariants as argument
use Rattle.vera_ast.specs.declared.typed.invocation.TypedCallee.TheVariants as callee
use Rattle.vera_ast.specs.declared.typed.modes.SyncMode.TheVariants as sync
use Rattle.vera_ast.specs.declared.typed.names.TypedVariable.{TypedVariable}
use Rattle.vera_ast.specs.declared.typed.names.VariablePlace.{VariablePlace}
use Rattle.vera_ast.specs.declared.typed.names.VariablePlace.TheVariants.{Program, Local, Reference}
use Rattle.vera_ast.specs.declared.typed.place.TypedArray.TheVariants as array
use Rattle.vera_ast.specs.declared.typed.place.TypedPlace.TheVariants as p
use Rattle.vera_ast.specs.declared.typed.stmt.TypedBlock.{TypedBlock}
use Rattle.vera_ast.specs.declared.typed.stmt.TypedChange.TheVariants as c
use Rattle.vera_ast.specs.declared.typed.stmt.TypedDecl.{TypedDecl}
use Rattle.vera_ast.specs.declared.typed.stmt.TypedStmt.{TypedStmt}
use Rattle.vera_ast.specs.declared.typed.stmt.TypedStmt.TheVariants as st
use Rattle.vera_ast.specs.declared.typed.types.ArrayLength.TheVariants.{Fixed}
use Rattle.vera_ast.specs.declared.typed.types.ValueType.{ValueType}
use Rattle.vera_ast.specs.declared.typed.types.ValueType.TheVariants as t
use Rattle.vera_ast.specs.declared.typed.types.VariableType.{VariableType}
use Rattle.vera_ast.specs.declared.typed.types.VariableType.TheVariants as v
use Rattle.vera_ast.specs.declared.typed.types.VectorType.TheVariants.{Integer, Bits}
use Rattle.vera_ast.specs.declared.typed.types.Width.{Width}
use Rattle.typing_rules.specs.Told.{TreeRow}
use Rattle.typing_rules.specs.Types.{width_from}
use Rattle.vera_ast.specs.declared.typed.modes.MailboxMode.TheVariants as take

abbrev pub integer : ValueType
integer = t.Vector Integer

abbrev pub four : Width
four = unwrap_or (width_from 4) one

abbrev pub two : Width
two = unwrap_or (width_from 2) one

abbrev pub thirty_two : Width
thirty_two = of_integer

abbrev pub nibble : ValueType
nibble = t.Vector (Bits four)

-- a number, a variable and its place, and the declaration of one variable, all on line 1 and of one type
abbrev pub n : ℕ → TypedExpr
n value = e.Number (vector_of 32 value) Integer

abbrev pub at : VariablePlace → ValueType → TypedVariable
at place of = record { place = place; of = of }

abbrev pub declares : VariablePlace → VariableType → TypedDecl
declares place of = record { line = 1; vars = record { place = place; of = of; value = None } ∷ [] }

abbrev pub sets : VariablePlace → ValueType → TypedExpr → TypedStmt
sets place of value = st.Step (record { line = 1; target = p.Variable (at place of); change = c.Assign value })

abbrev pub block : List TypedDecl → List TypedStmt → TypedBlock
block decls stmts = record { line = 1; decls = decls; stmts = stmts }

abbrev pub main : List TypedDecl → List TypedStmt → TypedItem
main decls stmts = it.Program (record { line = 1; name = codes "p"; block = block decls stmts })

-- program p { integer a; bit [3:0] b; integer c[3]; a = 1; b = 2; c[a] = b; { integer d; integer e; d = a; { integer f; f = e; } { integer g; g = d; } } }
abbrev pub numbered_variables : TreeRow
numbered_variables = record {
  source = (tree ((item.Program (record { line = 1; name = (codes "p"); block = (record { line = 1; decls = (record { line = 1; of = (record { line = 1; form = type_form.Integer }); variables = (record { line = 1; name = (codes "a"); bracket = bracket.None; value = None } ∷ []) } ∷ record { line = 1; of = (record { line = 1; form = (type_form.Bit (Some (record { line = 1; high = (x.Postfix (post 1 (form.Number (decimal 3)) [])); low = (x.Postfix (post 1 (form.Number (decimal 0)) [])) }))) }); variables = (record { line = 1; name = (codes "b"); bracket = bracket.None; value = None } ∷ []) } ∷ record { line = 1; of = (record { line = 1; form = type_form.Integer }); variables = (record { line = 1; name = (codes "c"); bracket = (bracket.Fixed (x.Postfix (post 1 (form.Number (decimal 3)) []))); value = None } ∷ []) } ∷ []); stmts = ((s.Step (record { line = 1; target = (post 1 (form.Name (codes "a")) []); change = (change.Assign (x.Postfix (post 1 (form.Number (decimal 1)) []))) })) ∷ (s.Step (record { line = 1; target = (post 1 (form.Name (codes "b")) []); change = (change.Assign (x.Postfix (post 1 (form.Number (decimal 2)) []))) })) ∷ (s.Step (record { line = 1; target = (post 1 (form.Name (codes "c")) (suffix.Index (x.Postfix (post 1 (form.Name (codes "a")) [])) ∷ [])); change = (change.Assign (x.Postfix (post 1 (form.Name (codes "b")) []))) })) ∷ (s.Block (record { line = 1; decls = (record { line = 1; of = (record { line = 1; form = type_form.Integer }); variables = (record { line = 1; name = (codes "d"); bracket = bracket.None; value = None } ∷ []) } ∷ record { line = 1; of = (record { line = 1; form = type_form.Integer }); variables = (record { line = 1; name = (codes "e"); bracket = bracket.None; value = None } ∷ []) } ∷ []); stmts = ((s.Step (record { line = 1; target = (post 1 (form.Name (codes "d")) []); change = (change.Assign (x.Postfix (post 1 (form.Name (codes "a")) []))) })) ∷ (s.Block (record { line = 1; decls = (record { line = 1; of = (record { line = 1; form = type_form.Integer }); variables = (record { line = 1; name = (codes "f"); bracket = bracket.None; value = None } ∷ []) } ∷ []); stmts = ((s.Step (record { line = 1; target = (post 1 (form.Name (codes "f")) []); change = (change.Assign (x.Postfix (post 1 (form.Name (codes "e")) []))) })) ∷ []) })) ∷ (s.Block (record { line = 1; decls = (record { line = 1; of = (record { line = 1; form = type_form.Integer }); variables = (record { line = 1; name = (codes "g"); bracket = bracket.None; value = None } ∷ []) } ∷ []); stmts = ((s.Step (record { line = 1; target = (post 1 (form.Name (codes "g")) []); change = (change.Assign (x.Postfix (post 1 (form.Name (codes "d")) []))) })) ∷ []) })) ∷ []) })) ∷ []) }) })) ∷ []));
  tree = record {
    items = main (declares (Program 0) (v.Value integer) ∷ declares (Program 1) (v.Value nibble) ∷ declares (Program 2) (v.Array integer (Fixed 3)) ∷ [])
        (sets (Program 0) integer (n 1) ∷ sets (Program 1) nibble (n 2)
        ∷ st.Step (record {
          line = 1;
          target = p.Element (record { array = array.Variable (Program 2); length = Fixed 3; index = e.Variable (at (Program 0) integer); of = integer });
          change = c.Assign (e.Variable (at (Program 1) nibble));
        })
        ∷ st.Block (block (declares (Local 0) (v.Value integer) ∷ declares (Local 1) (v.Value integer) ∷ [])
        (sets (Local 0) integer (e.Variable (at (Program 0) integer))
        ∷ st.Block (block (declares (Local 2) (v.Value integer) ∷ []) (sets (Local 2) integer (e.Variable (at (Local 1) integer)) ∷ []))
        ∷ st.Block (block (declares (Local 2) (v.Value integer) ∷ []) (sets (Local 2) integer (e.Variable (at (Local 0) integer)) ∷ [])) ∷ [])) ∷ []) ∷ [];
  };
}

-- task t(integer a, var integer b) { integer c; b = c; fork { integer k; k = a; } join none } program p { integer x; t(1, x); }
abbrev pub parameters_and_a_fork : TreeRow
parameters_and_a_fork = record {
  source = (tree ((item.Task (record { line = 1; name = (Named (codes "t")); parameters = (record { line = 1; is_var = false; of = (record { line = 1; form = type_form.Integer }); name = (codes "a") } ∷ record { line = 1; is_var = true; of = (record { line = 1; form = type_form.Integer }); name = (codes "b") } ∷ []); block = (record { line = 1; decls = (record { line = 1; of = (record { line = 1; form = type_form.Integer }); variables = (record { line = 1; name = (codes "c"); bracket = bracket.None; value = None } ∷ []) } ∷ []); stmts = ((s.Step (record { line = 1; target = (post 1 (form.Name (codes "b")) []); change = (change.Assign (x.Postfix (post 1 (form.Name (codes "c")) []))) })) ∷ (s.Fork (record { line = 1; branches = ((s.Block (record { line = 1; decls = (record { line = 1; of = (record { line = 1; form = type_form.Integer }); variables = (record { line = 1; name = (codes "k"); bracket = bracket.None; value = None } ∷ []) } ∷ []); stmts = ((s.Step (record { line = 1; target = (post 1 (form.Name (codes "k")) []); change = (change.Assign (x.Postfix (post 1 (form.Name (codes "a")) []))) })) ∷ []) })) ∷ []); join = join.None })) ∷ []) }) })) ∷ (item.Program (record { line = 1; name = (codes "p"); block = (record { line = 1; decls = (record { line = 1; of = (record { line = 1; form = type_form.Integer }); variables = (record { line = 1; name = (codes "x"); bracket = bracket.None; value = None } ∷ []) } ∷ []); stmts = ((s.Call (post 1 (form.Name (codes "t")) (suffix.Call ((x.Postfix (post 1 (form.Number (decimal 1)) [])) ∷ (x.Postfix (post 1 (form.Name (codes "x")) [])) ∷ []) ∷ []))) ∷ []) }) })) ∷ []));
  tree = record {
    items = it.Task (record {
      line = 1;
      name = Named (codes "t");
      parameters = record { line = 1; place = Local 0; of = integer } ∷ record { line = 1; place = Reference 1; of = integer } ∷ [];
      block = record {
        line = 1;
        decls = declares (Local 2) (v.Value integer) ∷ [];
        stmts = sets (Reference 1) integer (e.Variable (at (Local 2) integer))
            ∷ st.Fork (record { line = 1; branches = st.Block (block (declares (Local 3) (v.Value integer) ∷ []) (sets (Local 3) integer (e.Variable (at (Local 0) integer)) ∷ [])) ∷ []; join = join.None }) ∷ [];
      };
    })
        ∷ main (declares (Program 0) (v.Value integer) ∷ [])
        (st.Call (record { line = 1; call = record { callee = callee.Task 0; arguments = argument.Value (n 1) ∷ argument.Variable (p.Variable (at (Program 0) integer)) ∷ [] } }) ∷ []) ∷ [];
  };
}

-- task t(var integer b) { } task u(integer a, integer z) { integer c, d; t(c); wait_var(a); d = z; } program p { u(1, 2); }
abbrev pub parameters_of_two_tasks : TreeRow
parameters_of_two_tasks = record {
  source = (tree ((item.Task (record { line = 1; name = (Named (codes "t")); parameters = (record { line = 1; is_var = true; of = (record { line = 1; form = type_form.Integer }); name = (codes "b") } ∷ []); block = (record { line = 1; decls = []; stmts = [] }) })) ∷ (item.Task (record { line = 1; name = (Named (codes "u")); parameters = (record { line = 1; is_var = false; of = (record { line = 1; form = type_form.Integer }); name = (codes "a") } ∷ record { line = 1; is_var = false; of = (record { line = 1; form = type_form.Integer }); name = (codes "z") } ∷ []); block = (record { line = 1; decls = (record { line = 1; of = (record { line = 1; form = type_form.Integer }); variables = (record { line = 1; name = (codes "c"); bracket = bracket.None; value = None } ∷ record { line = 1; name = (codes "d"); bracket = bracket.None; value = None } ∷ []) } ∷ []); stmts = ((s.Call (post 1 (form.Name (codes "t")) (suffix.Call ((x.Postfix (post 1 (form.Name (codes "c")) [])) ∷ []) ∷ []))) ∷ (s.Call (post 1 (form.Name (codes "wait_var")) (suffix.Call ((x.Postfix (post 1 (form.Name (codes "a")) [])) ∷ []) ∷ []))) ∷ (s.Step (record { line = 1; target = (post 1 (form.Name (codes "d")) []); change = (change.Assign (x.Postfix (post 1 (form.Name (codes "z")) []))) })) ∷ []) }) })) ∷ (item.Program (record { line = 1; name = (codes "p"); block = (record { line = 1; decls = []; stmts = ((s.Call (post 1 (form.Name (codes "u")) (suffix.Call ((x.Postfix (post 1 (form.Number (decimal 1)) [])) ∷ (x.Postfix (post 1 (form.Number (decimal 2)) [])) ∷ []) ∷ []))) ∷ []) }) })) ∷ []));
  tree = record {
    items = it.Task (record { line = 1; name = Named (codes "t"); parameters = record { line = 1; place = Reference 0; of = integer } ∷ []; block = block [] [] })
        ∷ it.Task (record {
          line = 1;
          name = Named (codes "u");
          parameters = record { line = 1; place = Local 0; of = integer } ∷ record { line = 1; place = Local 1; of = integer } ∷ [];
          block = record {
            line = 1;
            decls = record { line = 1; vars = record { place = Local 2; of = v.Value integer; value = None } ∷ record { place = Local 3; of = v.Value integer; value = None } ∷ [] } ∷ [];
            stmts = st.Call (record { line = 1; call = record { callee = callee.Task 0; arguments = argument.Variable (p.Variable (at (Local 2) integer)) ∷ [] } })
                ∷ st.BuiltIn (record { line = 1; task = task.WaitVar; operands = []; targets = p.Variable (at (Local 0) integer) ∷ [] })
                ∷ sets (Local 3) integer (e.Variable (at (Local 1) integer)) ∷ [];
          };
        })
        ∷ main [] (st.Call (record { line = 1; call = record { callee = callee.Task 1; arguments = argument.Value (n 1) ∷ argument.Value (n 2) ∷ [] } }) ∷ []) ∷ [];
  };
}

-- function integer f(bit [3:0] a) { f = a + 1 << a; } program p { bit [3:0] b; if (f(b) == 3 && !b) b[1] = b[3:2] === 1; }
abbrev pub result_variable_and_operators : TreeRow
result_variable_and_operators = record {
  source = (tree ((item.Function (record { line = 1; result = (record { line = 1; form = type_form.Integer }); name = (codes "f"); parameters = (record { line = 1; is_var = false; of = (record { line = 1; form = (type_form.Bit (Some (record { line = 1; high = (x.Postfix (post 1 (form.Number (decimal 3)) [])); low = (x.Postfix (post 1 (form.Number (decimal 0)) [])) }))) }); name = (codes "a") } ∷ []); block = (record { line = 1; decls = []; stmts = ((s.Step (record { line = 1; target = (post 1 (form.Name (codes "f")) []); change = (change.Assign (x.Chain 1 (x.Chain 1 (x.Postfix (post 1 (form.Name (codes "a")) [])) (record { operator = o.Add; operand = (x.Postfix (post 1 (form.Number (decimal 1)) [])) } ∷ [])) (record { operator = o.ShiftLeft; operand = (x.Postfix (post 1 (form.Name (codes "a")) [])) } ∷ []))) })) ∷ []) }) })) ∷ (item.Program (record { line = 1; name = (codes "p"); block = (record { line = 1; decls = (record { line = 1; of = (record { line = 1; form = (type_form.Bit (Some (record { line = 1; high = (x.Postfix (post 1 (form.Number (decimal 3)) [])); low = (x.Postfix (post 1 (form.Number (decimal 0)) [])) }))) }); variables = (record { line = 1; name = (codes "b"); bracket = bracket.None; value = None } ∷ []) } ∷ []); stmts = ((s.If (record { line = 1; condition = (x.Chain 1 (x.Chain 1 (x.Postfix (post 1 (form.Name (codes "f")) (suffix.Call ((x.Postfix (post 1 (form.Name (codes "b")) [])) ∷ []) ∷ []))) (record { operator = o.Equal; operand = (x.Postfix (post 1 (form.Number (decimal 3)) [])) } ∷ [])) (record { operator = o.LogicalAnd; operand = (x.Unary (record { line = 1; operator = u.LogicalNot; operand = (x.Postfix (post 1 (form.Name (codes "b")) [])) })) } ∷ [])); when_true = (s.Step (record { line = 1; target = (post 1 (form.Name (codes "b")) (suffix.Index (x.Postfix (post 1 (form.Number (decimal 1)) [])) ∷ [])); change = (change.Assign (x.Chain 1 (x.Postfix (post 1 (form.Name (codes "b")) (suffix.Bits (x.Postfix (post 1 (form.Number (decimal 3)) [])) (x.Postfix (post 1 (form.Number (decimal 2)) [])) ∷ []))) (record { operator = o.CaseEqual; operand = (x.Postfix (post 1 (form.Number (decimal 1)) [])) } ∷ []))) })); when_false = None })) ∷ []) }) })) ∷ []));
  tree = record {
    items = it.Function (record {
      line = 1;
      name = codes "f";
      result = at (Local 1) integer;
      parameters = record { line = 1; place = Local 0; of = nibble } ∷ [];
      block = block [] (sets (Local 1) integer (e.Chain (e.Chain (e.Variable (at (Local 0) nibble)) (record { operator = o.Add; works_in = t.Vector (Bits thirty_two); operand = n 1 } ∷ []))
          (record { operator = o.ShiftLeft; works_in = t.Vector (Bits thirty_two); operand = e.Variable (at (Local 0) nibble) } ∷ [])) ∷ []);
    })
        ∷ main (declares (Program 0) (v.Value nibble) ∷ [])
        (st.If (record {
          line = 1;
          condition = e.Chain (e.Chain (e.Call (record { callee = callee.Function 0; arguments = argument.Value (e.Variable (at (Program 0) nibble)) ∷ [] }) integer)
              (record { operator = o.Equal; works_in = integer; operand = n 3 } ∷ []))
              (record { operator = o.LogicalAnd; works_in = t.Vector one_bit; operand = e.Unary u.LogicalNot (e.Variable (at (Program 0) nibble)) } ∷ []);
          when_true = st.Step (record {
            line = 1;
            target = p.Bit (p.Variable (at (Program 0) nibble)) (n 1);
            change = c.Assign (e.Chain (e.Bits (e.Variable (at (Program 0) nibble)) (record { low = 2; width = two })) (record { operator = o.CaseEqual; works_in = t.Vector (Bits thirty_two); operand = n 1 } ∷ []));
          });
          when_false = None;
        }) ∷ []) ∷ [];
  };
}

-- interface i { input c CLOCK; output [3:0] b PHOLD #1; input q PSAMPLE #-1; } program p { i.b = i.q; @1 i.b <= 2; @0,2 i.q == 1 soft; @(posedge i.c); }
abbrev pub signals : TreeRow
signals = record {
  source = (tree ((item.Interface (record { line = 1; name = (codes "i"); signals = (record { line = 1; direction = Input; range = None; name = (codes "c"); kind = record { line = 1; form = Clock } } ∷ record { line = 1; direction = Output; range = (Some (record { line = 1; high = (x.Postfix (post 1 (form.Number (decimal 3)) [])); low = (x.Postfix (post 1 (form.Number (decimal 0)) [])) })); name = (codes "b"); kind = record { line = 1; form = (Timed PositiveHold (Some (record { is_negative = false; amount = (decimal 1) }))) } } ∷ record { line = 1; direction = Input; range = None; name = (codes "q"); kind = record { line = 1; form = (Timed PositiveSample (Some (record { is_negative = true; amount = (decimal 1) }))) } } ∷ []) })) ∷ (item.Program (record { line = 1; name = (codes "p"); block = (record { line = 1; decls = []; stmts = ((s.Step (record { line = 1; target = (post 1 (form.Name (codes "i")) (suffix.Member (codes "b") ∷ [])); change = (change.Assign (x.Postfix (post 1 (form.Name (codes "i")) (suffix.Member (codes "q") ∷ [])))) })) ∷ (s.Drive (record { line = 1; delay = (Some (record { line = 1; form = (delay_form.Number (decimal 1)) })); signal = (post 1 (form.Name (codes "i")) (suffix.Member (codes "b") ∷ [])); operator = Arrow; value = (x.Postfix (post 1 (form.Number (decimal 2)) [])) })) ∷ (s.Expect (record { line = 1; window = (Some (record { line = 1; kind = window.Simple; first = (record { line = 1; form = (delay_form.Number (decimal 0)) }); second = (Some (record { line = 1; form = (delay_form.Number (decimal 2)) })) })); soft_before = false; terms = (record { line = 1; signal = (post 1 (form.Name (codes "i")) (suffix.Member (codes "q") ∷ [])); operator = term.Equal; value = (x.Postfix (post 1 (form.Number (decimal 1)) [])) } ∷ []); soft_after = true })) ∷ (s.Edge (record { line = 1; negative = false; clock = (clock.Signal (codes "i") (codes "c")) })) ∷ []) }) })) ∷ []));
  tree = record {
    items = it.Interface (record {
      line = 1;
      name = codes "i";
      signals =
          record { line = 1; direction = Input; width = one; name = codes "c"; kind = kind.Clock }
          ∷ record { line = 1; direction = Output; width = four; name = codes "b"; kind = kind.PositiveHold }
          ∷ record { line = 1; direction = Input; width = one; name = codes "q"; kind = kind.PositiveSample } ∷ [];
    })
        ∷ main [] (st.Drive (record { line = 1; delay = None; target = record { number = 1; width = four }; operator = Plain; value = e.Sample (record { number = 2; width = one }) })
        ∷ st.Drive (record { line = 1; delay = Some (n 1); target = record { number = 1; width = four }; operator = Arrow; value = n 2 })
        ∷ st.Expect (record {
          line = 1;
          window = Some (record { kind = window.Simple; first = n 0; second = Some (n 2) });
          soft_before = false;
          terms = record { line = 1; signal = record { number = 2; width = one }; operator = term.Equal; value = n 1 } ∷ [];
          soft_after = true;
        })
        ∷ st.Edge (record { line = 1; negative = false }) ∷ []) ∷ [];
  };
}

-- program p { integer a; event e; a = alloc(SEMAPHORE, 0, 1, 2); a = semaphore_get(WAIT, a, 1); printf("a%%%0d", semaphore_get(NO_WAIT, a, 1)); sync(ANY, e); mailbox_get(NO_WAIT, 1, a); }
abbrev pub built_in_calls : TreeRow
built_in_calls = record {
  source = (tree ((item.Program (record { line = 1; name = (codes "p"); block = (record { line = 1; decls = (record { line = 1; of = (record { line = 1; form = type_form.Integer }); variables = (record { line = 1; name = (codes "a"); bracket = bracket.None; value = None } ∷ []) } ∷ record { line = 1; of = (record { line = 1; form = type_form.Event }); variables = (record { line = 1; name = (codes "e"); bracket = bracket.None; value = None } ∷ []) } ∷ []); stmts = ((s.Step (record { line = 1; target = (post 1 (form.Name (codes "a")) []); change = (change.Assign (x.Postfix (post 1 (form.Name (codes "alloc")) (suffix.Call ((x.Postfix (post 1 (form.Name (codes "SEMAPHORE")) [])) ∷ (x.Postfix (post 1 (form.Number (decimal 0)) [])) ∷ (x.Postfix (post 1 (form.Number (decimal 1)) [])) ∷ (x.Postfix (post 1 (form.Number (decimal 2)) [])) ∷ []) ∷ [])))) })) ∷ (s.Step (record { line = 1; target = (post 1 (form.Name (codes "a")) []); change = (change.Assign (x.Postfix (post 1 (form.Name (codes "semaphore_get")) (suffix.Call ((x.Postfix (post 1 (form.Name (codes "WAIT")) [])) ∷ (x.Postfix (post 1 (form.Name (codes "a")) [])) ∷ (x.Postfix (post 1 (form.Number (decimal 1)) [])) ∷ []) ∷ [])))) })) ∷ (s.Call (post 1 (form.Name (codes "printf")) (suffix.Call ((x.Postfix (post 1 (form.Str (97 ∷ 37 ∷ 37 ∷ 37 ∷ 48 ∷ 100 ∷ [])) [])) ∷ (x.Postfix (post 1 (form.Name (codes "semaphore_get")) (suffix.Call ((x.Postfix (post 1 (form.Name (codes "NO_WAIT")) [])) ∷ (x.Postfix (post 1 (form.Name (codes "a")) [])) ∷ (x.Postfix (post 1 (form.Number (decimal 1)) [])) ∷ []) ∷ []))) ∷ []) ∷ []))) ∷ (s.Call (post 1 (form.Name (codes "sync")) (suffix.Call ((x.Postfix (post 1 (form.Name (codes "ANY")) [])) ∷ (x.Postfix (post 1 (form.Name (codes "e")) [])) ∷ []) ∷ []))) ∷ (s.Call (post 1 (form.Name (codes "mailbox_get")) (suffix.Call ((x.Postfix (post 1 (form.Name (codes "NO_WAIT")) [])) ∷ (x.Postfix (post 1 (form.Number (decimal 1)) [])) ∷ (x.Postfix (post 1 (form.Name (codes "a")) [])) ∷ []) ∷ []))) ∷ []) }) })) ∷ []));
  tree = record {
    items = main (declares (Program 0) (v.Value integer) ∷ declares (Program 1) (v.Value t.Event) ∷ [])
        (sets (Program 0) integer (e.BuiltIn function.AllocSemaphore (n 1 ∷ n 2 ∷ []) None)
        ∷ st.Step (record {
          line = 1;
          target = p.Variable (at (Program 0) integer);
          change = c.Wait (record { function = waiting.SemaphoreGet; operands = e.Variable (at (Program 0) integer) ∷ n 1 ∷ []; target = None });
        })
        ∷ st.Printf (record {
          line = 1;
          format = part.Bytes (97 ∷ 37 ∷ []) ∷ part.Conversion (record { zero = true; width = None; letter = letter.Decimal }) ∷ [];
          arguments = e.BuiltIn function.SemaphoreGet (e.Variable (at (Program 0) integer) ∷ n 1 ∷ []) None ∷ [];
        })
        ∷ st.Wait (record { line = 1; call = record { function = waiting.Sync sync.Any; operands = e.Variable (at (Program 1) t.Event) ∷ []; target = None } })
        ∷ st.Void (record { line = 1; value = e.BuiltIn (function.MailboxGet take.Take) (n 1 ∷ []) (Some (p.Variable (at (Program 0) integer))) }) ∷ []) ∷ [];
  };
}

abbrev pub tree_rows : List TreeRow
tree_rows = numbered_variables ∷ parameters_and_a_fork ∷ parameters_of_two_tasks ∷ result_variable_and_operators ∷ signals ∷ built_in_calls ∷ []
