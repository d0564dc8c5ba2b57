-- The map of an interface's signals: what it finds.
use Rattle.std.proofs.Common.{◌≡◌, ℕ, suc, Bool, true, false, cond, List, [], ◌∷◌, ◌++◌, length, Option, Some, None, refl, sym, ap, ◌∙◌}
use Rattle.std.specs.Prelude.{option_map}
use Rattle.std.specs.Str.{bytes_eq}
use Rattle.vera_names.specs.Named.{declared_as, place_in, FindsFirst, signal_names, signal_at}
use Rattle.typing_rules.specs.Posts.{signal_named}
use Rattle.typing_rules.specs.Scopes.{Name}
use Rattle.typing_rules.specs.declared.names.KnownSignal.{KnownSignal}
use Rattle.typing_rules.specs.declared.names.Meaning.TheVariants.{Later}

pub names_push : (ss : List KnownSignal) (s : KnownSignal) → signal_names (ss ++ s ∷ []) ≡ signal_names ss ++ declared_as s.name Later ∷ []
names_push [] s = refl
names_push (x ∷ ss) s = ap (λ rest. declared_as x.name Later ∷ rest) (names_push ss s)

pub names_length : (ss : List KnownSignal) → length (signal_names ss) ≡ length ss
names_length [] = refl
names_length (s ∷ ss) = ap suc (names_length ss)

at_next : (s : KnownSignal) (ss : List KnownSignal) (o : Option ℕ) → signal_at (s ∷ ss) (option_map suc o) ≡ signal_at ss o
at_next s ss None = refl
at_next s ss (Some k) = refl

here_or_behind : (b : Bool) (s : KnownSignal) (ss : List KnownSignal) (o : Option ℕ) (r : Option KnownSignal) → signal_at ss o ≡ r → signal_at (s ∷ ss) (cond b (Some 0) (option_map suc o)) ≡ cond b (Some s) r
here_or_behind true s ss o r e = refl
here_or_behind false s ss o r e = at_next s ss o ∙ e

pub signal_by_place : (ss : List KnownSignal) (q : Name) → signal_at ss (place_in (signal_names ss) q) ≡ signal_named ss q
signal_by_place [] q = refl
signal_by_place (s ∷ ss) q = here_or_behind (bytes_eq s.name q) s ss (place_in (signal_names ss) q) (signal_named ss q) (signal_by_place ss q)

pub signal_absent : (ss : List KnownSignal) (find : Name → Option ℕ) (q : Name) → FindsFirst (signal_names ss) find → find q ≡ None → None ≡ signal_named ss q
signal_absent ss find q h e = ap (signal_at ss) (sym (sym (h.finds q) ∙ e)) ∙ signal_by_place ss q

pub signal_found : (ss : List KnownSignal) (find : Name → Option ℕ) (q : Name) (k : ℕ) → FindsFirst (signal_names ss) find → find q ≡ Some k → signal_at ss (Some k) ≡ signal_named ss q
signal_found ss find q k h e = ap (signal_at ss) (sym (sym (h.finds q) ∙ e)) ∙ signal_by_place ss q
