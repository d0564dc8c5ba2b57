use Rattle.std.proofs.Common.{◌∷◌, ◌++◌, sym, ap, ◌∙◌}
use Rattle.vera_ast.specs.declared.tree.items.Item.{Item}
use Rattle.vera_decls.proofs.FileSteps.{second_program, first_program}
use Rattle.typing_rules.specs.FileNames.{programs_in}
use Rattle.vera_decls.specs.Files.{found_in}
use Rattle.typing_rules.specs.Typing.{one_of}
use Rattle.vera_decls.proofs.file_names.found_behind.Goals as goal

pub returns-then-is_some : goal.returns-then-is_some
returns-then-is_some c = λ left. second_program c.args.item.now _ c.args.found left c.in-Program.is (sym c.is_some.ensures ∙ c.if-is_some.true)

pub returns-else-is_some : goal.returns-else-is_some
returns-else-is_some c = λ left. first_program c.args.item.now _ c.args.found left c.in-Program.is (sym c.is_some.ensures ∙ c.if-is_some.false)

pub returns-in-Enumeration : goal.returns-in-Enumeration
unfolding programs_in
returns-in-Enumeration c = λ left. ap (λ (x : Item). one_of (found_in c.args.found ++ programs_in (x ∷ left))) c.in-Enumeration.is

pub returns-in-Class : goal.returns-in-Class
unfolding programs_in
returns-in-Class c = λ left. ap (λ (x : Item). one_of (found_in c.args.found ++ programs_in (x ∷ left))) c.in-Class.is

pub returns-in-Interface : goal.returns-in-Interface
unfolding programs_in
returns-in-Interface c = λ left. ap (λ (x : Item). one_of (found_in c.args.found ++ programs_in (x ∷ left))) c.in-Interface.is

pub returns-in-Group : goal.returns-in-Group
unfolding programs_in
returns-in-Group c = λ left. ap (λ (x : Item). one_of (found_in c.args.found ++ programs_in (x ∷ left))) c.in-Group.is

pub returns-in-Task : goal.returns-in-Task
unfolding programs_in
returns-in-Task c = λ left. ap (λ (x : Item). one_of (found_in c.args.found ++ programs_in (x ∷ left))) c.in-Task.is

pub returns-in-Function : goal.returns-in-Function
unfolding programs_in
returns-in-Function c = λ left. ap (λ (x : Item). one_of (found_in c.args.found ++ programs_in (x ∷ left))) c.in-Function.is
