-- The items of a file, as the code counts and finds them.
use Rattle.std.specs.Prelude.{◌≡◌, List, [], ◌∷◌, count_by, Option, Some, None, Result, Ok, Err}
use denote.Ref.{Bor}
use Rattle.vera_ast.specs.declared.refusal.Refusal.{Refusal}
use Rattle.vera_ast.specs.declared.tree.items.Item.{Item}
use Rattle.vera_ast.specs.declared.tree.items.Program.{Program}
use Rattle.typing_rules.specs.Checked.{Checked}
use Rattle.typing_rules.specs.FileNames.{is_enumeration, is_class, is_interface, is_group, is_task, is_function}
use Rattle.vera_decls.specs.declared.file_names.Counts.{Counts}

-- so many items of each kind there are
pub record AreCounted (items : List Item) (counts : Counts) : Type 0 where
  pub enumerations : counts.enumerations ≡ count_by is_enumeration items
  pub classes : counts.classes ≡ count_by is_class items
  pub interfaces : counts.interfaces ≡ count_by is_interface items
  pub groups : counts.groups ≡ count_by is_group items
  pub tasks : counts.tasks ≡ count_by is_task items
  pub functions : counts.functions ≡ count_by is_function items

-- what is found, where it stands
abbrev pub one_seen : Result (Bor Program) Refusal → Checked Program
one_seen (Ok program) = Ok program.now
one_seen (Err r) = Err r

abbrev pub found_in : Option (Bor Program) → List Program
found_in None = []
found_in (Some p) = p.now ∷ []
