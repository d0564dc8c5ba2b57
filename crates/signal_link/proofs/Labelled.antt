-- The signals of items, one item after the other.
use Rattle.std.proofs.Common.{◌≡◌, ◌≢◌, ℕ, ◌+◌, ◌<◌, List, [], ◌∷◌, ◌++◌, length, map, take, drop, get_or, ◌≤◌, refl, sym, ◌∙◌, ap, append_assoc, append-nil, Some, arith}
use Rattle.std.specs.Prelude.{codes}
use Rattle.std.proofs.lemmas.List.{map-append, take_more, take-append-drop}
use Rattle.vera_ast.specs.declared.typed.file.TypedItem.{TypedItem}
use Rattle.vera_ast.specs.declared.typed.file.TypedItem.TheVariants.{Interface}
use Rattle.vera_ast.specs.declared.typed.interface.TypedInterface.{TypedInterface}
use Rattle.vera_ast.specs.declared.typed.interface.TypedSignal.{TypedSignal}
use Rattle.vera_ast.specs.Signals.{NamedSignal, signals_in}
use Rattle.run_rules.specs.Reports.{signal_name}
use Rattle.signal_link.specs.Linking.{named}

signals-append : (xs ys : List TypedItem) → signals_in (xs ++ ys) ≡ signals_in xs ++ signals_in ys
signals-append [] ys = refl
signals-append (Interface i ∷ xs) ys = ap (λ t. map (named i.name) i.signals ++ t) (signals-append xs ys) ∙ sym (append_assoc (map (named i.name) i.signals) (signals_in xs) (signals_in ys))
signals-append (other ∷ xs) ys = signals-append xs ys

-- the signals of one more item
pub signals-more : (items : List TypedItem) (i : ℕ) (item : TypedItem) → i < length items → item ≡ get_or items i item → signals_in (take (i + 1) items) ≡ signals_in (take i items) ++ signals_in (item ∷ [])
signals-more items i item lt is = ap signals_in (take_more items i item lt ∙ ap (λ x. take i items ++ x ∷ []) (sym is)) ∙ signals-append (take i items) (item ∷ [])

-- the names of an interface's signals
map-named : (name : List ℕ) (ss : List TypedSignal) → map (λ s. name ++ codes "." ++ s.name) ss ≡ map (λ s. signal_name (Some s)) (map (named name) ss)
map-named name [] = refl
map-named name (s ∷ ss) = ap (λ t. (name ++ codes "." ++ s.name) ∷ t) (map-named name ss)

pub interface_names : (i : TypedInterface) → map (λ s. i.name ++ codes "." ++ s.name) i.signals ≡ map (λ s. signal_name (Some s)) (signals_in (Interface i ∷ []))
interface_names i = map-named i.name i.signals ∙ ap (map (λ s. signal_name (Some s))) (sym (append-nil (map (named i.name) i.signals)))

pub names-more : (items : List TypedItem) (i : ℕ) (item : TypedItem) (names more : List (List ℕ)) → i < length items → item ≡ get_or items i item → names ≡ map (λ s. signal_name (Some s)) (signals_in (take i items)) → more ≡ names ++ map (λ s. signal_name (Some s)) (signals_in (item ∷ [])) → more ≡ map (λ s. signal_name (Some s)) (signals_in (take (i + 1) items))
names-more items i item names more lt is e k =
    k ∙ ap (λ t. t ++ map (λ s. signal_name (Some s)) (signals_in (item ∷ []))) e
    ∙ sym (map-append (λ s. signal_name (Some s)) (signals_in (take i items)) (signals_in (item ∷ [])))
    ∙ sym (ap (map (λ s. signal_name (Some s))) (signals-more items i item lt is))

pub item_names : (item : TypedItem) (i : TypedInterface) → item ≡ Interface i → map (λ s. i.name ++ codes "." ++ s.name) i.signals ≡ map (λ s. signal_name (Some s)) (signals_in (item ∷ []))
item_names item i is = interface_names i ∙ ap (λ (x : TypedItem). map (λ s. signal_name (Some s)) (signals_in (x ∷ []))) (sym is)

-- ---- the signals of all items

pub interface_signals : (item : TypedItem) (i : TypedInterface) (signals : List TypedSignal) → item ≡ Interface i → signals ≡ i.signals → map (named i.name) signals ≡ signals_in (item ∷ [])
interface_signals item i signals is e = ap (map (named i.name)) e ∙ sym (append-nil (map (named i.name) i.signals)) ∙ ap (λ (x : TypedItem). signals_in (x ∷ [])) (sym is)

pub other_signals : (known : List NamedSignal) (item : TypedItem) → ((i : TypedInterface) → item ≢ Interface i) → known ≡ known ++ signals_in (item ∷ [])
other_signals known (Interface i) other = absurd (other i refl)
other_signals known item other = sym (append-nil known)

pub signals-rest : (items : List TypedItem) (i : ℕ) (item : TypedItem) → i < length items → item ≡ get_or items i item → (signals_in (take i items) ++ signals_in (item ∷ [])) ++ signals_in (drop (i + 1) items) ≡ signals_in items
signals-rest items i item lt is =
    ap (λ t. t ++ signals_in (drop (i + 1) items)) (sym (signals-more items i item lt is))
    ∙ sym (signals-append (take (i + 1) items) (drop (i + 1) items)) ∙ ap signals_in (take-append-drop (i + 1) items)

-- ---- the signals of an interface

pub named-more : (known : List NamedSignal) (interface : List ℕ) (ss : List TypedSignal) (i : ℕ) (s : TypedSignal) → i < length ss → s ≡ get_or ss i s → (known ++ map (named interface) (take i ss)) ++ named interface s ∷ [] ≡ known ++ map (named interface) (take (i + 1) ss)
named-more known interface ss i s lt is =
    append_assoc known (map (named interface) (take i ss)) (named interface s ∷ [])
    ∙ ap (λ t. known ++ t) (sym (map-append (named interface) (take i ss) (s ∷ [])) ∙ ap (map (named interface)) (ap (λ (x : TypedSignal). take i ss ++ x ∷ []) is ∙ sym (take_more ss i s lt)))

pub named-rest : (known : List NamedSignal) (interface : List ℕ) (ss : List TypedSignal) (i : ℕ) (s : TypedSignal) → i < length ss → s ≡ get_or ss i s → ((known ++ map (named interface) (take i ss)) ++ named interface s ∷ []) ++ map (named interface) (drop (i + 1) ss) ≡ known ++ map (named interface) ss
named-rest known interface ss i s lt is =
    ap (λ t. t ++ map (named interface) (drop (i + 1) ss)) (named-more known interface ss i s lt is)
    ∙ append_assoc known (map (named interface) (take (i + 1) ss)) (map (named interface) (drop (i + 1) ss))
    ∙ ap (λ t. known ++ t) (sym (map-append (named interface) (take (i + 1) ss) (drop (i + 1) ss)) ∙ ap (map (named interface)) (take-append-drop (i + 1) ss))
