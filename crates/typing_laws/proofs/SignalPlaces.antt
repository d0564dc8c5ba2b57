-- The signals that uses see are those of the typed tree, at their numbers.
use Rattle.std.proofs.Common.{◌≡◌, refl, sym, ap, subst, ◌∙◌, ℕ, zero, suc, ◌+◌, true, false, if◌then◌else◌, Bool, List, [], ◌∷◌, ◌++◌, map, length, Option, Some, Ok, arith}
use Rattle.std.specs.Prelude.{slice_get}
use Rattle.std.specs.Option.{option_and_then}
use Rattle.std.specs.Str.{bytes_eq}
use Rattle.std.proofs.lemmas.List.{length-map}
use Rattle.vera_ast.specs.Signals.{NamedSignal, signals_in}
use Rattle.vera_ast.specs.declared.tree.interfaces.Direction.{Direction}
use Rattle.vera_ast.specs.declared.tree.interfaces.Interface.{Interface}
use Rattle.vera_ast.specs.declared.tree.interfaces.Signal.{Signal}
use Rattle.vera_ast.specs.declared.tree.items.Item.{Item}
use Rattle.vera_ast.specs.declared.tree.items.Item.TheVariants as item
use Rattle.vera_ast.specs.declared.typed.file.TypedItem.{TypedItem}
use Rattle.vera_ast.specs.declared.typed.file.TypedItem.TheVariants as typed
use Rattle.vera_ast.specs.declared.typed.interface.TypedInterface.{TypedInterface}
use Rattle.vera_ast.specs.declared.typed.interface.TypedSignal.{TypedSignal}
use Rattle.vera_ast.specs.declared.typed.names.TypedSignalName.{TypedSignalName}
use Rattle.typing_rules.proofs.Sound.{with, from}
use Rattle.typing_rules.specs.Blocks.{PlacedDecl}
use Rattle.typing_rules.specs.Bodies.{item_of}
use Rattle.typing_rules.specs.Checked.{Checked, refuse, each}
use Rattle.typing_rules.specs.Interfaces.{signal_width, kind_of, typed_signal, typed_interface, known_signals}
use Rattle.typing_rules.specs.Laws.{Holds}
use Rattle.typing_rules.specs.Posts.{signal_named, signal_of}
use Rattle.typing_rules.specs.Scopes.{Scopes, Name}
use Rattle.typing_rules.specs.Typing.{interfaces_in}
use Rattle.typing_rules.specs.declared.context.Context.{Context}
use Rattle.typing_rules.specs.declared.context.Outline.{Outline}
use Rattle.typing_rules.specs.declared.names.KnownSignal.{KnownSignal}
use Rattle.typing_laws.proofs.Binds.{holds_at, bound, SomeHolds, ok_same}

-- ---- a name of a signal of the tree

pub record IsSignal (signals : List NamedSignal) (name : TypedSignalName) (direction : Direction) : Type 0 where
  pub named : NamedSignal
  pub is : slice_get signals name.number ≡ Some named
  pub as_known : named.signal.direction ≡ direction
  pub width : named.signal.width ≡ name.width

abbrev pub IsKnown : List NamedSignal → KnownSignal → Type 0
IsKnown signals s = IsSignal signals s.is s.direction

abbrev pub Known : List NamedSignal → List KnownSignal → Type 0
Known signals [] = Unit {0}
Known signals (s ∷ more) = IsKnown signals s × Known signals more

abbrev pub AllKnown : List NamedSignal → List (List KnownSignal) → Type 0
AllKnown signals [] = Unit {0}
AllKnown signals (ss ∷ more) = Known signals ss × AllKnown signals more

-- the one that a name finds

chosen : (signals : List NamedSignal) (s : KnownSignal) (b : Bool) (o : Option KnownSignal) → IsKnown signals s → SomeHolds (IsKnown signals) o → SomeHolds (IsKnown signals) (if b then Some s else o)
chosen signals s true o k h = k
chosen signals s false o k h = h

named_known : (signals : List NamedSignal) (ss : List KnownSignal) (word : Name) → Known signals ss → SomeHolds (IsKnown signals) (signal_named ss word)
named_known signals [] word k = tt
named_known signals (s ∷ ss) word k = chosen signals s (bytes_eq s.name word) (signal_named ss word) k.0 (named_known signals ss word k.1)

found_known : (signals : List NamedSignal) (all : List (List KnownSignal)) (n : ℕ) (word : Name) → AllKnown signals all
    → SomeHolds (IsKnown signals) (option_and_then (λ (ss : List KnownSignal). signal_named ss word) (slice_get all n))
found_known signals [] n word k = tt
found_known signals (ss ∷ more) zero word k = named_known signals ss word k.0
found_known signals (ss ∷ more) (suc n) word k = found_known signals more n word k.1

pub signal_known : (signals : List NamedSignal) (c : Context) (n : ℕ) (word : Name) → AllKnown signals c.outline.interfaces → SomeHolds (IsKnown signals) (signal_of c n word)
signal_known signals c n word k = found_known signals c.outline.interfaces n word k

-- ---- these signals stand from a number on

abbrev IsFrom : List NamedSignal → ℕ → List NamedSignal → Type 0
IsFrom signals n some = (k : ℕ) → slice_get signals (n + k) ≡ slice_get some k

next : (signals : List NamedSignal) (n : ℕ) (s : NamedSignal) (some : List NamedSignal) → IsFrom signals n (s ∷ some) → IsFrom signals (suc n) some
next signals n s some h k = let e : suc n + k ≡ n + suc k = omega arith in ap (slice_get signals) e ∙ h (suc k)

behind : (signals : List NamedSignal) (n : ℕ) (xs ys : List NamedSignal) → IsFrom signals n (xs ++ ys) → IsFrom signals (n + length xs) ys
behind signals n [] ys h k = let e : n + 0 + k ≡ n + k = omega arith in ap (slice_get signals) e ∙ h k
behind signals n (x ∷ xs) ys h k =
    let e : n + suc (length xs) + k ≡ suc n + length xs + k = omega arith in
    ap (slice_get signals) e ∙ behind signals (suc n) xs ys (next signals n x (xs ++ ys) h) k

-- ---- the signals of one interface

abbrev pub called : List ℕ → TypedSignal → NamedSignal
called own s = record { interface = own; signal = s }

known_count : (scopes : Scopes) (n : ℕ) (ss : List Signal) → Holds (λ (ks : List KnownSignal). length ks ≡ length ss) (known_signals scopes n ss)
unfolding known_signals
known_count scopes n [] = refl
known_count scopes n (s ∷ ss) =
    with (λ (ks : List KnownSignal). length ks ≡ suc (length ss)) _ _ λ w.
    from (λ (ks : List KnownSignal). length ks ≡ length ss) (λ (ks : List KnownSignal). length ks ≡ suc (length ss)) _ _ (known_count scopes (suc n) ss) λ ks e. ap suc e

pub each_count : {A B : Type 0} (f : A → Checked B) (xs : List A) → Holds (λ (ys : List B). length ys ≡ length xs) (each f xs)
unfolding each
each_count f [] = refl
each_count {A} {B} f (x ∷ xs) =
    with (λ (ys : List B). length ys ≡ suc (length xs)) _ _ λ y.
    from (λ (ys : List B). length ys ≡ length xs) (λ (ys : List B). length ys ≡ suc (length xs)) _ _ (each_count f xs) λ ys e. ap suc e

-- a part for each
pub record Parted (A B : Type 0) (f : A → Checked B) (x : A) (xs : List A) (all : List B) : Type 0 where
  pub head : B
  pub tail : List B
  pub first : f x ≡ Ok head
  pub rest : each f xs ≡ Ok tail
  pub whole : head ∷ tail ≡ all

pub parted : {A B : Type 0} (f : A → Checked B) (x : A) (xs : List A) (all : List B) → each f (x ∷ xs) ≡ Ok all → Parted A B f x xs all
unfolding each
parted f x xs all e =
    let a = bound (f x) _ all e in
    let b = bound (each f xs) _ all a.rest in
    record { head = a.value; tail = b.value; first = a.first; rest = b.first; whole = cc (b.rest) }

-- the width and direction of a typed signal
record Made (scopes : Scopes) (s : Signal) (t : TypedSignal) : Type 0 where
  width : signal_width scopes s.range ≡ Ok t.width
  direction : t.direction ≡ s.direction
  name : t.name ≡ s.name

made : (scopes : Scopes) (s : Signal) (t : TypedSignal) → typed_signal scopes s ≡ Ok t → Made scopes s t
unfolding typed_signal
made scopes s t e =
    let a = bound (signal_width scopes s.range) _ t e in
    let b = bound _ _ t a.rest in
    let same = ok_same _ _ b.rest in
    subst (Made scopes s) same (record { width = a.first; direction = refl; name = refl })

known_signal : (signals : List NamedSignal) (scopes : Scopes) (n : ℕ) (own : List ℕ) (rest : List NamedSignal) (ss : List Signal) (ks : List KnownSignal) (ts : List TypedSignal)
    → known_signals scopes n ss ≡ Ok ks → each (typed_signal scopes) ss ≡ Ok ts → IsFrom signals n (map (called own) ts ++ rest) → Known signals ks
unfolding known_signals each
known_signal signals scopes n own rest [] ks ts e f h = subst (Known signals) (ok_same [] ks e) tt
known_signal signals scopes n own rest (s ∷ ss) ks ts e f h =
    let a = bound (signal_width scopes s.range) _ ks e in
    let b = bound (known_signals scopes (suc n) ss) _ ks a.rest in
    let p = parted (typed_signal scopes) s ss ts f in
    let m = made scopes s p.head p.first in
    let here : IsFrom signals n (called own p.head ∷ (map (called own) p.tail ++ rest)) = subst (λ (all : List TypedSignal). IsFrom signals n (map (called own) all ++ rest)) (sym p.whole) h in
    let zero_is : n + 0 ≡ n = omega arith in
    let width : Ok p.head.width ≡ Ok a.value = sym m.width ∙ a.first in
    let k : KnownSignal = record { name = s.name; is = record { number = n; width = a.value }; direction = s.direction; kind = kind_of s.kind.form } in
    let this : IsKnown signals k = record { named = called own p.head; is = ap (slice_get signals) (sym zero_is) ∙ here 0; as_known = m.direction; width = ok_same p.head.width a.value width } in
    let others : Known signals b.value = known_signal signals scopes (suc n) own rest ss b.value p.tail b.first p.rest (next signals n (called own p.head) (map (called own) p.tail ++ rest) here) in
    subst (Known signals) (ok_same (k ∷ b.value) ks b.rest) (this, others)

-- ---- the signals of a tree

record OfInterface (scopes : Scopes) (i : Interface) (t : TypedInterface) : Type 0 where
  signals : each (typed_signal scopes) i.signals ≡ Ok t.signals

interface_is : (scopes : Scopes) (i : Interface) (t : TypedInterface) → typed_interface scopes i ≡ Ok t → OfInterface scopes i t
unfolding typed_interface
interface_is scopes i t e =
    let a = bound (each (typed_signal scopes) i.signals) _ t e in
    let b = bound _ _ t a.rest in
    subst (OfInterface scopes i) (ok_same _ t b.rest) (record { signals = a.first })

abbrev pub item_signals : TypedItem → List NamedSignal
item_signals (typed.Interface i) = map (called i.name) i.signals
item_signals _ = []

pub in_parts : (t : TypedItem) (ts : List TypedItem) → signals_in (t ∷ ts) ≡ item_signals t ++ signals_in ts
in_parts (typed.Enumeration x) ts = refl
in_parts (typed.Class x) ts = refl
in_parts (typed.Interface x) ts = refl
in_parts (typed.Group x) ts = refl
in_parts (typed.Task x) ts = refl
in_parts (typed.Function x) ts = refl
in_parts (typed.Program x) ts = refl

module _ (outline : Outline) (scopes : Scopes) (variables : List PlacedDecl) (signals : List NamedSignal) where
  abbrev items_of : List Item → Checked (List TypedItem)
  items_of items = each (item_of outline scopes variables) items

  -- an item that is no interface has no signals
  record Skipped (items : List Item) (ts : List TypedItem) : Type 0 where
    more : List TypedItem
    rest : items_of items ≡ Ok more
    same : signals_in ts ≡ signals_in more

  abbrev IsSilent : TypedItem → Type 0
  IsSilent t = item_signals t ≡ []

  skip : (i : Item) (items : List Item) (ts : List TypedItem) → Holds IsSilent (item_of outline scopes variables i) → items_of (i ∷ items) ≡ Ok ts → Skipped items ts
  skip i items ts h e =
      let p = parted (item_of outline scopes variables) i items ts e in
      let none : item_signals p.head ≡ [] = holds_at IsSilent _ p.head h p.first in
      let split : signals_in (p.head ∷ p.tail) ≡ item_signals p.head ++ signals_in p.tail = in_parts p.head p.tail in
      record { more = p.tail; rest = p.rest; same = ap signals_in (sym p.whole) ∙ (split ∙ ap (λ (xs : List NamedSignal). xs ++ signals_in p.tail) none) }

  pub all_known : (n : ℕ) (items : List Item) (all : List (List KnownSignal)) (ts : List TypedItem) → interfaces_in scopes n items ≡ Ok all → items_of items ≡ Ok ts → IsFrom signals n (signals_in ts) → AllKnown signals all
  unfolding interfaces_in refuse
  all_known n [] all ts e f h = subst (AllKnown signals) (ok_same [] all e) tt
  all_known n (item.Interface i ∷ items) all ts e f h =
      let a = bound (known_signals scopes n i.signals) _ all e in
      let b = bound (interfaces_in scopes (n + length a.value) items) _ all a.rest in
      let p = parted (item_of outline scopes variables) (item.Interface i) items ts f in
      let q = bound (typed_interface scopes i) _ p.head p.first in
      let o = interface_is scopes i q.value q.first in
      let is : typed.Interface q.value ≡ p.head = ok_same _ _ q.rest in
      let whole : typed.Interface q.value ∷ p.tail ≡ ts = ap (λ (t : TypedItem). t ∷ p.tail) is ∙ p.whole in
      let own = map (called q.value.name) q.value.signals in
      let here : IsFrom signals n (own ++ signals_in p.tail) = subst (λ (all : List TypedItem). IsFrom signals n (signals_in all)) (sym whole) h in
      let first : Known signals a.value = known_signal signals scopes n q.value.name (signals_in p.tail) i.signals a.value q.value.signals a.first o.signals here in
      let counted : length own ≡ length q.value.signals = simp length-map in
      let count : length own ≡ length a.value =
      counted ∙ (holds_at (λ (ts : List TypedSignal). length ts ≡ length i.signals) _ q.value.signals (each_count (typed_signal scopes) i.signals) o.signals
      ∙ sym (holds_at (λ (ks : List KnownSignal). length ks ≡ length i.signals) _ a.value (known_count scopes n i.signals) a.first)) in
      let rest : IsFrom signals (n + length a.value) (signals_in p.tail) = subst (λ (m : ℕ). IsFrom signals (n + m) (signals_in p.tail)) count (behind signals n own (signals_in p.tail) here) in
      subst (AllKnown signals) (ok_same (a.value ∷ b.value) all b.rest) (first, all_known (n + length a.value) items b.value p.tail b.first p.rest rest)
  all_known n (item.Enumeration x ∷ items) all ts e f h = let s = skip (item.Enumeration x) items ts refl f in all_known n items all s.more e s.rest (subst (IsFrom signals n) s.same h)
  all_known n (item.Class x ∷ items) all ts e f h = let s = skip (item.Class x) items ts tt f in all_known n items all s.more e s.rest (subst (IsFrom signals n) s.same h)
  all_known n (item.Group x ∷ items) all ts e f h = let s = skip (item.Group x) items ts tt f in all_known n items all s.more e s.rest (subst (IsFrom signals n) s.same h)
  all_known n (item.Task x ∷ items) all ts e f h = let s = skip (item.Task x) items ts (with IsSilent _ _ λ t. refl) f in all_known n items all s.more e s.rest (subst (IsFrom signals n) s.same h)
  all_known n (item.Function x ∷ items) all ts e f h = let s = skip (item.Function x) items ts (with IsSilent _ _ λ t. refl) f in all_known n items all s.more e s.rest (subst (IsFrom signals n) s.same h)
  all_known n (item.Program x ∷ items) all ts e f h = let s = skip (item.Program x) items ts (with IsSilent _ _ λ t. refl) f in all_known n items all s.more e s.rest (subst (IsFrom signals n) s.same h)

  -- as the bodies see them
  pub outline_known : (items : List Item) (all : List (List KnownSignal)) (ts : List TypedItem) → interfaces_in scopes 0 items ≡ Ok all → items_of items ≡ Ok ts → signals ≡ signals_in ts → AllKnown signals all
  outline_known items all ts e f same = all_known 0 items all ts e f (λ k. let e : 0 + k ≡ k = omega arith in ap (slice_get signals) e ∙ ap (λ (xs : List NamedSignal). slice_get xs k) same)
