-- A tree that passes has one program, as its source has.
use Rattle.std.proofs.Common.{◌≡◌, refl, List, [], ◌∷◌, length, Some, Ok, ◌∙◌, arith}
use Rattle.std.proofs.lemmas.List.{length-append}
use Rattle.vera_ast.specs.Signals.{program_in}
use Rattle.vera_ast.specs.declared.tree.items.Item.{Item}
use Rattle.vera_ast.specs.declared.tree.items.Item.TheVariants as item
use Rattle.vera_ast.specs.declared.tree.items.Program.{Program as ProgramItem}
use Rattle.vera_ast.specs.declared.tree.items.Tree.{Tree}
use Rattle.vera_ast.specs.declared.typed.file.TypedItem.{TypedItem}
use Rattle.vera_ast.specs.declared.typed.file.TypedItem.TheVariants.{Enumeration, Class, Interface, Group, Task, Function, Program}
use Rattle.vera_ast.specs.declared.typed.file.TypedProgram.{TypedProgram}
use Rattle.vera_ast.specs.declared.typed.file.TypedTree.{TypedTree}
use Rattle.typing_rules.proofs.Sound.{after, with, from}
use Rattle.typing_rules.specs.Blocks.{PlacedDecl}
use Rattle.typing_rules.specs.Bodies.{item_of}
use Rattle.typing_rules.specs.Checked.{refuse, each}
use Rattle.typing_rules.specs.FileNames as source
use Rattle.typing_rules.specs.Laws.{Holds}
use Rattle.typing_rules.specs.Scopes.{Scopes}
use Rattle.typing_rules.specs.Typing.{one_of, one_program, typed}
use Rattle.typing_rules.specs.declared.context.Outline.{Outline}
use Rattle.typing_laws.proofs.Binds.{holds_at}
use Rattle.typing_laws.specs.Trees.{programs_of, programs_in, HasOneProgram}

one_of_one : (ps : List ProgramItem) → Holds (λ (p : ProgramItem). length ps ≡ 1) (one_of ps)
unfolding refuse
one_of_one [] = tt
one_of_one (p ∷ []) = refl
one_of_one (p ∷ second ∷ more) = tt

one : (items : List Item) → Holds (λ (p : ProgramItem). length (source.programs_in items) ≡ 1) (one_program items)
unfolding one_program
one items = one_of_one (source.programs_in items)

module _ (outline : Outline) (scopes : Scopes) (variables : List PlacedDecl) where
  abbrev AsMany : Item → TypedItem → Type 0
  AsMany i t = length (programs_of t) ≡ length (source.programs_of i)

  item_keeps : (i : Item) → Holds (AsMany i) (item_of outline scopes variables i)
  unfolding refuse
  item_keeps (item.Enumeration e) = refl
  item_keeps (item.Class c) = tt
  item_keeps (item.Interface i) = with (AsMany (item.Interface i)) _ _ λ t. refl
  item_keeps (item.Group g) = tt
  item_keeps (item.Task t) = with (AsMany (item.Task t)) _ _ λ t. refl
  item_keeps (item.Function f) = with (AsMany (item.Function f)) _ _ λ t. refl
  item_keeps (item.Program p) = with (AsMany (item.Program p)) _ _ λ t. refl

  joined : (i : Item) (t : TypedItem) (items : List Item) (ts : List TypedItem) → AsMany i t → length (programs_in ts) ≡ length (source.programs_in items)
      → length (programs_in (t ∷ ts)) ≡ length (source.programs_in (i ∷ items))
  unfolding source.programs_in
  joined i t items ts e f =
      let a = length-append (programs_of t) (programs_in ts) in
      let b = length-append (source.programs_of i) (source.programs_in items) in
      rw (a, b, e, f) refl

  items_keep : (items : List Item) → Holds (λ (ts : List TypedItem). length (programs_in ts) ≡ length (source.programs_in items)) (each (item_of outline scopes variables) items)
  unfolding each source.programs_in
  items_keep [] = refl
  items_keep (i ∷ items) = from (AsMany i) _ _ _ (item_keeps i) λ t e. from (λ (ts : List TypedItem). length (programs_in ts) ≡ length (source.programs_in items)) _ _ _ (items_keep items) λ ts f. joined i t items ts e f

pub first_program : (items : List TypedItem) (p : TypedProgram) (ps : List TypedProgram) → programs_in items ≡ p ∷ ps → program_in items ≡ Some p
first_program [] p ps e = absurd cc
first_program (Enumeration x ∷ items) p ps e = first_program items p ps e
first_program (Class x ∷ items) p ps e = first_program items p ps e
first_program (Interface x ∷ items) p ps e = first_program items p ps e
first_program (Group x ∷ items) p ps e = first_program items p ps e
first_program (Task x ∷ items) p ps e = first_program items p ps e
first_program (Function x ∷ items) p ps e = first_program items p ps e
first_program (Program x ∷ items) p ps e = cc

alone : (items : List TypedItem) (ps : List TypedProgram) → programs_in items ≡ ps → length ps ≡ 1 → HasOneProgram (record { items = items })
alone items [] e n = absurd cc
alone items (p ∷ []) e n = record { program = p; is_program = first_program items p [] e; is_alone = e }
alone items (p ∷ q ∷ ps) e n = absurd (omega arith)

tree_has_one : (tree : Tree) → Holds HasOneProgram (typed tree)
unfolding typed
tree_has_one tree =
    from (λ (p : ProgramItem). length (source.programs_in tree.items) ≡ 1) HasOneProgram _ _ (one tree.items) λ main n.
    after HasOneProgram _ _ (with HasOneProgram _ _ λ variables. with HasOneProgram _ _ λ outline.
    from (λ (ts : List TypedItem). length (programs_in ts) ≡ length (source.programs_in tree.items)) HasOneProgram _ _ (items_keep outline _ variables tree.items) λ ts same.
    alone ts (programs_in ts) refl (same ∙ n))

pub one_program_there : (tree : Tree) (t : TypedTree) → typed tree ≡ Ok t → HasOneProgram t
one_program_there tree t e = holds_at HasOneProgram (typed tree) t (tree_has_one tree) e
