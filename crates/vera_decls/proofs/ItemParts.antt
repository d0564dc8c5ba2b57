-- Items in the walk through the declarations: their parts, and what the file has declared behind them.
use Rattle.std.proofs.Common.{◌≡◌, ℕ, ◌+◌, Bool, true, false, List, [], ◌∷◌, ◌++◌, length, refl, sym, ap, subst, ◌∙◌, append_assoc, arith}
use Rattle.std.specs.Prelude.{◌||◌, IfOk, Result, Ok, Err}
use Rattle.std.specs.Str.{bytes_eq}
use Rattle.std.proofs.lemmas.List.{append-nil, length-append}
use Rattle.four_state.specs.declared.memory.NoMemory.{NoMemory}
use Rattle.vera_ast.specs.declared.tree.interfaces.Direction.{Direction}
use Rattle.vera_ast.specs.declared.tree.interfaces.Direction.TheVariants.{Input, Output}
use Rattle.vera_ast.specs.declared.tree.interfaces.Signal.{Signal}
use Rattle.vera_ast.specs.declared.tree.items.Item.{Item}
use Rattle.vera_ast.specs.declared.tree.items.Item.TheVariants as item
use Rattle.vera_names.proofs.NameSets.{among_both, same_order, or_swap}
use Rattle.typing_rules.specs.Declarations.{Part, item_parts, name_parts, parameter_parts, parameter_names, body_parts, signal_parts}
use Rattle.typing_rules.specs.FileNames.{task_name, item_names, file_names, signals_of, signals_in, output_name, output_names}
use Rattle.typing_rules.specs.Scopes.{Name, Scope, Scopes, is_among, later}
use Rattle.vera_decls.specs.Walks.{OutputsStand, own_parts}
use Rattle.vera_names.specs.NameSets.{SameNames}

-- ---- the parts of an item

no_signals : (scopes : Scopes) (before : List Signal) → signal_parts scopes before [] [] ≡ []
unfolding signal_parts
no_signals scopes before = refl

alone : (scopes : Scopes) (before : List Signal) (parts : List Part) → parts ≡ parts ++ signal_parts scopes before [] []
alone scopes before parts = sym (append-nil parts) ∙ ap (λ (ps : List Part). parts ++ ps) (sym (no_signals scopes before))

pub item_is : (scopes : Scopes) (before : List Item) (i : Item) → item_parts scopes before i ≡ own_parts scopes (file_names before) i ++ signal_parts scopes (signals_in before) [] (signals_of i)
item_is scopes before (item.Enumeration e) = alone scopes (signals_in before) _
item_is scopes before (item.Class c) = alone scopes (signals_in before) _
item_is scopes before (item.Interface i) = refl
item_is scopes before (item.Group g) = alone scopes (signals_in before) _
item_is scopes before (item.Task t) =
    append_assoc (name_parts t.line (file_names before) (task_name t.name ∷ [])) (parameter_parts scopes 0 [] t.parameters) (body_parts (later (parameter_names t.parameters) ∷ scopes) t.block)
    ∙ alone scopes (signals_in before) _
item_is scopes before (item.Function f) =
    append_assoc (_ ∷ name_parts f.line (file_names before) (f.name ∷ [])) (parameter_parts scopes 0 [] f.parameters) (body_parts (later (parameter_names f.parameters) ∷ later (f.name ∷ []) ∷ scopes) f.block)
    ∙ alone scopes (signals_in before) _
item_is scopes before (item.Program p) = alone scopes (signals_in before) _

-- ---- the names of the file

file_names_next : (before : List Item) (i : Item) → file_names (before ++ i ∷ []) ≡ file_names before ++ item_names i
unfolding file_names
file_names_next [] i = append-nil (item_names i)
file_names_next (x ∷ before) i = ap (λ (ns : List Name). item_names x ++ ns) (file_names_next before i) ∙ sym (append_assoc (item_names x) (file_names before) (item_names i))

pub names_next : (before : List Item) (i : Item) (scope : Scope) → SameNames (file_names before ++ item_names i) scope → SameNames (file_names (before ++ i ∷ [])) scope
names_next before i scope k = subst (λ (ns : List Name). SameNames ns scope) (sym (file_names_next before i)) k

-- ---- signals and outputs

signals_next : (before : List Item) (i : Item) → signals_in (before ++ i ∷ []) ≡ signals_in before ++ signals_of i
unfolding signals_in
signals_next [] i = append-nil (signals_of i)
signals_next (x ∷ before) i = ap (λ (ss : List Signal). signals_of x ++ ss) (signals_next before i) ∙ sym (append_assoc (signals_of x) (signals_in before) (signals_of i))

pub outputs_next : (before : List Item) (i : Item) (outputs : Scope) (count : ℕ) → OutputsStand (signals_in before ++ signals_of i) outputs count → OutputsStand (signals_in (before ++ i ∷ [])) outputs count
outputs_next before i outputs count k = subst (λ (ss : List Signal). OutputsStand ss outputs count) (sym (signals_next before i)) k

output_names_next : (before : List Signal) (s : Signal) → output_names (before ++ s ∷ []) ≡ output_names before ++ output_name s.direction s.name
unfolding output_names
output_names_next [] s = append-nil (output_name s.direction s.name)
output_names_next (x ∷ before) s =
    ap (λ (ns : List Name). output_name x.direction x.name ++ ns) (output_names_next before s) ∙ sym (append_assoc (output_name x.direction x.name) (output_names before) (output_name s.direction s.name))

pub no_output : (before : List Signal) (s : Signal) (outputs : Scope) → s.direction ≡ Input → SameNames (output_names before) outputs → SameNames (output_names (before ++ s ∷ [])) outputs
no_output before s outputs e k =
    subst (λ (ns : List Name). SameNames ns outputs)
    (sym (output_names_next before s ∙ ap (λ (d : Direction). output_names before ++ output_name d s.name) e ∙ append-nil (output_names before))) k

pub put_first : (names : List Name) (name : Name) (scope : Scope) → SameNames (name ∷ names) scope → SameNames (names ++ name ∷ []) scope
unfolding is_among
put_first names name scope k =
    same_order (name ∷ names) (names ++ name ∷ []) scope k (λ q. ap (λ (b : Bool). b || is_among names q) (one_of name q) ∙ or_swap (is_among (name ∷ []) q) (is_among names q) ∙ sym (among_both names (name ∷ []) q))
  where
    last : (b : Bool) → b ≡ (b || false)
    last true = refl
    last false = refl

    one_of : (name q : Name) → bytes_eq name q ≡ (bytes_eq name q || false)
    one_of name q = last (bytes_eq name q)

pub one_output : (before : List Signal) (s : Signal) (name : Name) (outputs : Scope) → s.direction ≡ Output → name ≡ s.name → SameNames (name ∷ output_names before) outputs → SameNames (output_names (before ++ s ∷ [])) outputs
one_output before s name outputs e n k =
    subst (λ (ns : List Name). SameNames ns outputs)
    (sym (output_names_next before s ∙ ap (λ (d : Direction). output_names before ++ output_name d s.name) e ∙ ap (λ (m : Name). output_names before ++ m ∷ []) (sym n)))
    (put_first (output_names before) name outputs k)

pub outputs_more : (before : List Signal) (s : Signal) (outputs : Scope) (count more : ℕ) → count ≡ length before → more ≡ count + 1 → SameNames (output_names (before ++ s ∷ [])) outputs → OutputsStand (before ++ s ∷ []) outputs more
outputs_more before s outputs count more e f k = record { names = k; number = (let l = length-append before (s ∷ []) in omega (arith, l)) }

pub with_one_output : (before_scope : Scope) (s : Signal) (name : Name) (r : Result Scope NoMemory) → s.direction ≡ Output → name ≡ s.name
    → IfOk r (λ new. (names : List Name) → SameNames names before_scope → SameNames (name ∷ names) new)
    → IfOk r (λ new. (before : List Signal) → SameNames (output_names before) before_scope → SameNames (output_names (before ++ s ∷ [])) new)
with_one_output before_scope s name (Ok new) e n h = λ before k. one_output before s name new e n (h (output_names before) k)
with_one_output before_scope s name (Err x) e n h = tt
