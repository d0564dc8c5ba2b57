-- The names and the programs of a file, item by item, as the code goes through them.
use Rattle.std.proofs.Common.{◌≡◌, ℕ, suc, ◌+◌, ◌<◌, ◌≤◌, true, false, List, [], ◌∷◌, ◌++◌, length, get_or, take, drop, Option, Some, None, refl, sym, ap, ◌∙◌, append_assoc, arith}
use Rattle.std.specs.Prelude.{is_some, IfOk, Result, Ok, Err}
use Rattle.four_state.specs.declared.memory.NoMemory.{NoMemory}
use Rattle.std.proofs.lemmas.List.{append-nil, take_more, drop_all}
use denote.Ref.{Bor}
use Rattle.vera_ast.specs.declared.tree.items.Item.{Item}
use Rattle.vera_ast.specs.declared.tree.items.Item.TheVariants as item
use Rattle.vera_ast.specs.declared.tree.items.Program.{Program}
use Rattle.vera_names.proofs.Items.{items_from}
use Rattle.typing_rules.specs.Checked.{refuse}
use Rattle.typing_rules.specs.FileNames.{values_from, declared, declared_by, scope_behind, file_scope, programs_in}
use Rattle.vera_decls.specs.Files.{AreCounted, found_in}
use Rattle.typing_rules.specs.Scopes.{Name, Scope}
use Rattle.typing_rules.specs.Typing.{one_of, one_program}
use Rattle.vera_decls.specs.declared.file_names.Counts.{Counts}
use Rattle.typing_rules.specs.declared.names.Meaning.TheVariants as means

-- ---- counts

-- ---- values of an enumeration

pub value_next : (scope whole : Scope) (enumeration value next i : ℕ) (all : List Name) (name read : Name) (new : Scope) → i < length all → name ≡ get_or all i name → read ≡ name
    → scope ++ values_from enumeration value (drop i all) ≡ whole → new ≡ scope ++ declared (means.EnumName (record { enumeration = enumeration; value = value })) read ∷ [] → next ≡ value + 1
    → new ++ values_from enumeration next (drop (i + 1) all) ≡ whole
unfolding values_from
value_next scope whole enumeration value next i all name read new lt at same h e n =
    let one : next ≡ suc value = omega arith in
    let meaning = means.EnumName (record { enumeration = enumeration; value = value }) in
    ap (λ (s : Scope). s ++ values_from enumeration next (drop (i + 1) all)) (e ∙ ap (λ (r : Name). scope ++ declared meaning r ∷ []) same)
    ∙ ap (λ (v : ℕ). (scope ++ declared meaning name ∷ []) ++ values_from enumeration v (drop (i + 1) all)) one
    ∙ append_assoc scope (declared meaning name ∷ []) (values_from enumeration (suc value) (drop (i + 1) all))
    ∙ ap (λ (names : List Name). scope ++ values_from enumeration value names) (sym (items_from all i name lt at))
    ∙ h

pub values_end : (scope whole : Scope) (enumeration value i : ℕ) (all : List Name) → length all ≤ i → scope ++ values_from enumeration value (drop i all) ≡ whole → scope ≡ whole
unfolding values_from
values_end scope whole enumeration value i all end h =
    sym (append-nil scope) ∙ ap (λ (names : List Name). scope ++ values_from enumeration value names) (sym (drop_all i all end)) ∙ h

pub enumeration_named : (scope next : Scope) (number : ℕ) (name read : Name) (values list : List Name) (r : Result Scope NoMemory) → next ≡ scope ++ declared (means.Enumeration number) read ∷ [] → read ≡ name → list ≡ values
    → IfOk r (λ new. new ≡ next ++ values_from number 0 list) → IfOk r (λ new. new ≡ scope ++ declared (means.Enumeration number) name ∷ values_from number 0 values)
enumeration_named scope next number name read values list (Ok s) e same all h =
    h
    ∙ ap (λ (ns : List Name). next ++ values_from number 0 ns) all
    ∙ ap (λ (ds : Scope). ds ++ values_from number 0 values) (e ∙ ap (λ (n : Name). scope ++ declared (means.Enumeration number) n ∷ []) same)
    ∙ append_assoc scope (declared (means.Enumeration number) name ∷ []) (values_from number 0 values)
enumeration_named scope next number name read values list (Err x) e same all h = tt

pub counted_start : (all : List Item) (counts : Counts) → AreCounted [] counts → AreCounted (take 0 all) counts
counted_start [] counts k = k
counted_start (x ∷ all) counts k = k

-- ---- the scope of a file

pub scope_next : (scope : Scope) (i : ℕ) (all : List Item) (x : Item) (new : Scope) → i < length all → x ≡ get_or all i x → scope ++ scope_behind (take i all) (drop i all) ≡ file_scope all
    → new ≡ scope ++ declared_by (take i all) x → new ++ scope_behind (take (i + 1) all) (drop (i + 1) all) ≡ file_scope all
unfolding scope_behind
scope_next scope i all x new lt at h e =
    ap (λ (s : Scope). s ++ scope_behind (take (i + 1) all) (drop (i + 1) all)) e
    ∙ append_assoc scope (declared_by (take i all) x) (scope_behind (take (i + 1) all) (drop (i + 1) all))
    ∙ ap (λ (before : List Item). scope ++ (declared_by (take i all) x ++ scope_behind before (drop (i + 1) all))) (take_more all i x lt ∙ ap (λ (y : Item). take i all ++ y ∷ []) (sym at))
    ∙ ap (λ (left : List Item). scope ++ scope_behind (take i all) left) (sym (items_from all i x lt at))
    ∙ h

pub taken_next : (i : ℕ) (all : List Item) (x : Item) → i < length all → x ≡ get_or all i x → take i all ++ x ∷ [] ≡ take (i + 1) all
taken_next i all x lt at = ap (λ (y : Item). take i all ++ y ∷ []) at ∙ sym (take_more all i x lt)

pub scope_end : (scope : Scope) (i : ℕ) (all : List Item) → length all ≤ i → scope ++ scope_behind (take i all) (drop i all) ≡ file_scope all → scope ≡ file_scope all
unfolding scope_behind
scope_end scope i all end h = sym (append-nil scope) ∙ ap (λ (left : List Item). scope ++ scope_behind (take i all) left) (sym (drop_all i all end)) ∙ h

pub scope_start : (all : List Item) → [] ++ scope_behind (take 0 all) (drop 0 all) ≡ file_scope all
unfolding file_scope
scope_start [] = refl
scope_start (x ∷ all) = refl

-- ---- programs

is_program : (i : Item) (left : List Item) (p : Program) → i ≡ item.Program p → programs_in (i ∷ left) ≡ p ∷ programs_in left
unfolding programs_in
is_program i left p e = ap (λ (x : Item). programs_in (x ∷ left)) e

pub programs_start : (all : List Item) → one_of ([] ++ programs_in (drop 0 all)) ≡ one_program all
unfolding one_program
programs_start [] = refl
programs_start (x ∷ all) = refl

-- a program behind one that was found
pub second_program : (i : Item) (p : Program) (found : Option (Bor Program)) (left : List Item) → i ≡ item.Program p → is_some found ≡ true → one_of (found_in found ++ programs_in (i ∷ left)) ≡ Err (record { code = 36; line = p.line })
unfolding refuse
second_program i p None left is some = absurd cc
second_program i p (Some q) left is some = ap (λ (ps : List Program). one_of (q.now ∷ ps)) (is_program i left p is)

pub first_program : (i : Item) (p : Program) (found : Option (Bor Program)) (left : List Item) → i ≡ item.Program p → is_some found ≡ false → one_of (found_in found ++ programs_in (i ∷ left)) ≡ one_of ((p ∷ []) ++ programs_in left)
first_program i p None left is none = ap (λ (ps : List Program). one_of ps) (is_program i left p is)
first_program i p (Some q) left is none = absurd cc

pub program_next : (all : List Item) (i : ℕ) (x : Item) (found new : List Program) → i < length all → x ≡ get_or all i x → one_of (found ++ programs_in (drop i all)) ≡ one_program all
    → one_of (found ++ programs_in (x ∷ drop (i + 1) all)) ≡ one_of (new ++ programs_in (drop (i + 1) all)) → one_of (new ++ programs_in (drop (i + 1) all)) ≡ one_program all
program_next all i x found new lt at h e = sym e ∙ ap (λ (left : List Item). one_of (found ++ programs_in left)) (sym (items_from all i x lt at)) ∙ h

pub program_end : (all : List Item) (i : ℕ) (found : List Program) → length all ≤ i → one_of (found ++ programs_in (drop i all)) ≡ one_program all → one_of found ≡ one_program all
unfolding programs_in
program_end all i found end h = ap one_of (sym (append-nil found) ∙ ap (λ (left : List Item). found ++ programs_in left) (sym (drop_all i all end))) ∙ h
