-- The signals of a typed tree have the names and directions of the source's.
use Rattle.std.proofs.Common.{◌≡◌, refl, sym, ap, subst, ◌∙◌, ℕ, zero, suc, List, [], ◌∷◌, ◌++◌, map, Some, Ok}
use Rattle.std.specs.Prelude.{slice_get}
use Rattle.vera_ast.specs.Signals.{NamedSignal, signals_in, is_plain, AreApart}
use Rattle.vera_ast.specs.declared.tree.interfaces.Interface.{Interface}
use Rattle.vera_ast.specs.declared.tree.interfaces.Signal.{Signal}
use Rattle.vera_ast.specs.declared.tree.items.Item.{Item}
use Rattle.vera_ast.specs.declared.tree.items.Item.TheVariants as item
use Rattle.vera_ast.specs.declared.tree.items.Tree.{Tree}
use Rattle.vera_ast.specs.declared.typed.file.TypedItem.{TypedItem}
use Rattle.vera_ast.specs.declared.typed.file.TypedTree.{TypedTree}
use Rattle.vera_ast.specs.declared.typed.interface.TypedInterface.{TypedInterface}
use Rattle.vera_ast.specs.declared.typed.interface.TypedSignal.{TypedSignal}
use Rattle.typing_rules.proofs.Sound.{after, with, from}
use Rattle.typing_rules.specs.Blocks.{PlacedDecl}
use Rattle.typing_rules.specs.Bodies.{item_of}
use Rattle.typing_rules.specs.Checked.{refuse, each}
use Rattle.typing_rules.specs.FileNames as source
use Rattle.typing_rules.specs.Interfaces.{typed_signal, typed_interface}
use Rattle.typing_rules.specs.Laws.{Holds}
use Rattle.typing_rules.specs.Scopes.{Scopes}
use Rattle.typing_rules.specs.Typing.{one_program, typed}
use Rattle.typing_rules.specs.declared.context.Outline.{Outline}
use Rattle.typing_laws.proofs.Binds.{holds_at, bound, ok_same}
use Rattle.typing_laws.proofs.OutputNames.{Fresh, source_fresh, one_output}
use Rattle.typing_laws.proofs.SignalPlaces.{called, item_signals, in_parts}
use Rattle.typing_laws.specs.Trees.{OutputsDiffer, HasPlainSignals}

record AsSource (t : TypedSignal) (s : Signal) : Type 0 where
  direction : t.direction ≡ s.direction
  name : t.name ≡ s.name

abbrev AllAsSource : List NamedSignal → List Signal → Type 0
AllAsSource [] [] = Unit {0}
AllAsSource (a ∷ more) (s ∷ ss) = AsSource a.signal s × AllAsSource more ss
AllAsSource _ _ = ⊥

record There (ss : List Signal) (n : ℕ) (a : NamedSignal) : Type 0 where
  found : Signal
  is : slice_get ss n ≡ Some found
  same : AsSource a.signal found

there : (all : List NamedSignal) (ss : List Signal) → AllAsSource all ss → (n : ℕ) (a : NamedSignal) → slice_get all n ≡ Some a → There ss n a
there [] ss h n a e = absurd cc
there (x ∷ all) [] h n a e = absurd h
there (x ∷ all) (s ∷ ss) h zero a e = let same : x ≡ a = cc in record { found = s; is = refl; same = subst (λ (a : NamedSignal). AsSource a.signal s) same h.0 }
there (x ∷ all) (s ∷ ss) h (suc n) a e = let t = there all ss h.1 n a e in record { found = t.found; is = t.is; same = t.same }

joined : (xs ys : List NamedSignal) (ss ts : List Signal) → AllAsSource xs ss → AllAsSource ys ts → AllAsSource (xs ++ ys) (ss ++ ts)
joined [] ys [] ts h k = k
joined [] ys (s ∷ ss) ts h k = absurd h
joined (x ∷ xs) ys [] ts h k = absurd h
joined (x ∷ xs) ys (s ∷ ss) ts h k = (h.0, joined xs ys ss ts h.1 k)

signal_as_source : (scopes : Scopes) (s : Signal) → Holds (λ (t : TypedSignal). AsSource t s) (typed_signal scopes s)
unfolding typed_signal
signal_as_source scopes s = with (λ (t : TypedSignal). AsSource t s) _ _ λ width. after (λ (t : TypedSignal). AsSource t s) _ _ (record { direction = refl; name = refl })

signals_as_source : (scopes : Scopes) (own : List ℕ) (ss : List Signal) → Holds (λ (ts : List TypedSignal). AllAsSource (map (called own) ts) ss) (each (typed_signal scopes) ss)
unfolding each
signals_as_source scopes own [] = tt
signals_as_source scopes own (s ∷ ss) =
    from (λ (t : TypedSignal). AsSource t s) (λ (ts : List TypedSignal). AllAsSource (map (called own) ts) (s ∷ ss)) _ _ (signal_as_source scopes s) λ t a.
    from (λ (ts : List TypedSignal). AllAsSource (map (called own) ts) ss) (λ (ts : List TypedSignal). AllAsSource (map (called own) ts) (s ∷ ss)) _ _ (signals_as_source scopes own ss) λ ts b. (a, b)

interface_as_source : (scopes : Scopes) (i : Interface) → Holds (λ (t : TypedInterface). AllAsSource (map (called t.name) t.signals) i.signals) (typed_interface scopes i)
unfolding typed_interface
interface_as_source scopes i =
    from (λ (ts : List TypedSignal). AllAsSource (map (called i.name) ts) i.signals) (λ (t : TypedInterface). AllAsSource (map (called t.name) t.signals) i.signals) _ _ (signals_as_source scopes i.name i.signals) λ ts a.
    after (λ (t : TypedInterface). AllAsSource (map (called t.name) t.signals) i.signals) _ _ a

module _ (outline : Outline) (scopes : Scopes) (variables : List PlacedDecl) where
  abbrev ItemAsSource : Item → TypedItem → Type 0
  ItemAsSource i t = AllAsSource (item_signals t) (source.signals_of i)

  item_as_source : (i : Item) → Holds (ItemAsSource i) (item_of outline scopes variables i)
  unfolding refuse
  item_as_source (item.Enumeration x) = tt
  item_as_source (item.Class x) = tt
  item_as_source (item.Interface x) =
      from (λ (t : TypedInterface). AllAsSource (map (called t.name) t.signals) x.signals) (ItemAsSource (item.Interface x)) _ _ (interface_as_source scopes x) λ t a. a
  item_as_source (item.Group x) = tt
  item_as_source (item.Task x) = with (ItemAsSource (item.Task x)) _ _ λ t. tt
  item_as_source (item.Function x) = with (ItemAsSource (item.Function x)) _ _ λ t. tt
  item_as_source (item.Program x) = with (ItemAsSource (item.Program x)) _ _ λ t. tt

  abbrev ItemsAsSource : List Item → List TypedItem → Type 0
  ItemsAsSource items ts = AllAsSource (signals_in ts) (source.signals_in items)

  both : (i : Item) (t : TypedItem) (items : List Item) (ts : List TypedItem) → ItemAsSource i t → ItemsAsSource items ts → ItemsAsSource (i ∷ items) (t ∷ ts)
  unfolding source.signals_in
  both i t items ts a b =
      subst (λ (all : List NamedSignal). AllAsSource all (source.signals_of i ++ source.signals_in items)) (sym (in_parts t ts)) (joined (item_signals t) (signals_in ts) (source.signals_of i) (source.signals_in items) a b)

  none : ItemsAsSource [] []
  unfolding source.signals_in
  none = tt

  items_as_source : (items : List Item) → Holds (ItemsAsSource items) (each (item_of outline scopes variables) items)
  unfolding each
  items_as_source [] = none
  items_as_source (i ∷ items) = from (ItemAsSource i) (ItemsAsSource (i ∷ items)) _ _ (item_as_source i) λ t a. from (ItemsAsSource items) (ItemsAsSource (i ∷ items)) _ _ (items_as_source items) λ ts b. both i t items ts a b

-- ---- the whole

record Source (tree : Tree) (t : TypedTree) : Type 0 where
  fresh : Fresh [] (source.signals_in tree.items)
  same : AllAsSource (signals_in t.items) (source.signals_in tree.items)

source_of : (tree : Tree) (t : TypedTree) → typed tree ≡ Ok t → Source tree t
unfolding typed
source_of tree t e =
    let main = bound (one_program tree.items) _ t e in
    let declared = bound _ _ t main.rest in
    let variables = bound _ _ t declared.rest in
    let outline = bound _ _ t variables.rest in
    let items = bound _ _ t outline.rest in
    let as_source : AllAsSource (signals_in items.value) (source.signals_in tree.items) =
    holds_at (λ (ts : List TypedItem). AllAsSource (signals_in ts) (source.signals_in tree.items)) _ items.value (items_as_source outline.value _ variables.value tree.items) items.first in
    subst (Source tree) (ok_same _ t items.rest) (record { fresh = source_fresh _ tree.items declared.value declared.first; same = as_source })

pub outputs_differ : (tree : Tree) (t : TypedTree) → typed tree ≡ Ok t → OutputsDiffer (signals_in t.items)
outputs_differ tree t e =
    let known = source_of tree t e in
    let ss = source.signals_in tree.items in
    record {
      differ = λ n m a b at_n at_m d d' w.
          let x = there (signals_in t.items) ss known.same n a at_n in
          let y = there (signals_in t.items) ss known.same m b at_m in
          one_output [] ss n m x.found y.found known.fresh x.is y.is (sym x.same.direction ∙ d) (sym y.same.direction ∙ d') (sym x.same.name ∙ (w ∙ y.same.name));
    }

pub signals_apart : (tree : Tree) (t : TypedTree) → HasPlainSignals tree → typed tree ≡ Ok t → AreApart (signals_in t.items)
signals_apart tree t p e =
    let known = source_of tree t e in
    record {
      outputs = (outputs_differ tree t e).differ;
      plain = λ n a at_n.
          let x = there (signals_in t.items) (source.signals_in tree.items) known.same n a at_n in
          ap is_plain x.same.name ∙ p.plain n x.found x.is;
    }
