-- Files without exactly one program.
use Rattle.std.specs.Prelude.{List, [], ◌∷◌, None, codes}
use Rattle.vera_ast.specs.declared.tree.declarations.Bracket.TheVariants as bracket
use Rattle.vera_ast.specs.declared.tree.declarations.TypeForm.TheVariants as type_form
use Rattle.vera_ast.specs.declared.tree.items.Item.TheVariants as item
use Rattle.vera_ast.specs.declared.tree.items.TaskName.TheVariants.{Named}
use Rattle.typing_rules.specs.Sources.{tree}
use Rattle.typing_rules.specs.Told.{Row, Refused}

--
abbrev pub no_program : Row
no_program = record { told = Refused 36 1; source = (tree []) }

--
-- task t() { }
abbrev pub no_program_task : Row
no_program_task = record { told = Refused 36 1; source = (tree ((item.Task (record { line = 2; name = (Named (codes "t")); parameters = []; block = (record { line = 2; decls = []; stmts = [] }) })) ∷ [])) }

-- program p { }
-- program q { }
abbrev pub second_program : Row
second_program = record { told = Refused 36 2; source = (tree ((item.Program (record { line = 1; name = (codes "p"); block = (record { line = 1; decls = []; stmts = [] }) })) ∷ (item.Program (record { line = 2; name = (codes "q"); block = (record { line = 2; decls = []; stmts = [] }) })) ∷ [])) }

-- program p { integer a, a; }
--
-- program p { }
abbrev pub second_program_first : Row
second_program_first = record { told = Refused 36 3; source = (tree ((item.Program (record { line = 1; name = (codes "p"); block = (record { line = 1; decls = (record { line = 1; of = (record { line = 1; form = type_form.Integer }); variables = (record { line = 1; name = (codes "a"); bracket = bracket.None; value = None } ∷ record { line = 1; name = (codes "a"); bracket = bracket.None; value = None } ∷ []) } ∷ []); stmts = [] }) })) ∷ (item.Program (record { line = 3; name = (codes "p"); block = (record { line = 3; decls = []; stmts = [] }) })) ∷ [])) }

abbrev pub program_rows : List Row
program_rows = no_program ∷ no_program_task ∷ second_program ∷ second_program_first ∷ []
