-- Whether a signal links, by the marks of its nets.
use Rattle.std.proofs.Common.{◌≡◌, ◌≢◌, ℕ, Bool, true, false, List, refl, sym, ◌∙◌, ap, subst, All}
use Rattle.std.specs.Prelude.{slice_index_or}
use Rattle.std.specs.Bool.{Decides}
use Rattle.std.specs.List.{list_all}
use Rattle.std.proofs.lemmas.Bool.Decides.{Decides-by_and, Decides-at}
use Rattle.vera_ast.specs.declared.tree.interfaces.Direction.{Direction}
use Rattle.vera_ast.specs.declared.tree.interfaces.Direction.TheVariants.{Input, Output}
use Rattle.vera_ast.specs.declared.typed.interface.TypedSignalKind.{TypedSignalKind}
use Rattle.vera_ast.specs.declared.typed.interface.TypedSignalKind.TheVariants.{Clock}
use Rattle.vera_ast.specs.declared.typed.interface.TypedSignal.{TypedSignal}
use Rattle.blif_read.specs.Netlists.{Parts}
use Rattle.run_rules.specs.Links.{IsDrivable, IsSampled, HasClockName, LinksAs, Links}
use Rattle.run_rules.specs.Nets.{nets_of}
use Rattle.signal_link.specs.Roles.{AreDrivable, AreSampled, UsedAs}

pub all_drivable : (p : Parts) (marks : List Bool) (nets : List ℕ) (r : Bool) → AreDrivable p marks → r ≡ list_all (λ net. slice_index_or marks net false) nets → Decides r (All (IsDrivable p) nets)
all_drivable p marks nets r h e =
    Decides-at _ _ e (Decides-by_and (λ net. slice_index_or marks net false) (IsDrivable p) (list_all (λ net. slice_index_or marks net false)) h.marked refl (λ _ _. refl) nets)

pub all_sampled : (p : Parts) (marks : List Bool) (nets : List ℕ) (r : Bool) → AreSampled p marks → r ≡ list_all (λ net. slice_index_or marks net false) nets → Decides r (All (IsSampled p) nets)
all_sampled p marks nets r h e =
    Decides-at _ _ e (Decides-by_and (λ net. slice_index_or marks net false) (IsSampled p) (list_all (λ net. slice_index_or marks net false)) h.marked refl (λ _ _. refl) nets)

-- ---- by the signal's kind

abbrev Allows : Parts → TypedSignal → Bool → TypedSignalKind → Type 0
Allows p s r kind = Decides r (LinksAs p s kind s.direction)

pub clock_allowed : (p : Parts) (s : TypedSignal) (r : Bool) → s.kind ≡ Clock → s.direction ≡ Input → Decides r (HasClockName p s.name) → Decides r (Links p s)
clock_allowed p s r e i d = subst (Allows p s r) (sym e) (subst (λ (x : Direction). Decides r (LinksAs p s Clock x)) (sym i) d)

pub clock_output_allowed : (p : Parts) (s : TypedSignal) (nets : List ℕ) (r : Bool) → s.kind ≡ Clock → s.direction ≡ Output → nets ≡ nets_of p.nets s → Decides r (UsedAs p s.direction nets) → Decides r (Links p s)
clock_output_allowed p s nets r e o is d =
    let used : Decides r (UsedAs p Output nets) = subst (λ (x : Direction). Decides r (UsedAs p x nets)) o d in
    subst (Allows p s r) (sym e) (subst (λ (x : Direction). Decides r (LinksAs p s Clock x)) (sym o) (subst (λ (ns : List ℕ). Decides r (All (IsDrivable p) ns)) is used))

other_by : (p : Parts) (s : TypedSignal) (r : Bool) (kind : TypedSignalKind) (d : Direction) → kind ≢ Clock → Decides r (UsedAs p d (nets_of p.nets s)) → Decides r (LinksAs p s kind d)
other_by p s r Clock d other h = absurd (other refl)
other_by p s r kind Input other h = h
other_by p s r kind Output other h = h

pub other_allowed : (p : Parts) (s : TypedSignal) (nets : List ℕ) (r : Bool) → s.kind ≢ Clock → nets ≡ nets_of p.nets s → Decides r (UsedAs p s.direction nets) → Decides r (Links p s)
other_allowed p s nets r other is d = other_by p s r s.kind s.direction other (subst (λ (ns : List ℕ). Decides r (UsedAs p s.direction ns)) is d)

-- ---- by the direction

abbrev Uses : Parts → List ℕ → Bool → Direction → Type 0
Uses p nets r d = Decides r (UsedAs p d nets)

pub used_output : (p : Parts) (marks slice : List Bool) (nets : List ℕ) (r : Bool) (d : Direction) → d ≡ Output → AreDrivable p marks → slice ≡ marks → r ≡ list_all (λ net. slice_index_or slice net false) nets → Decides r (UsedAs p d nets)
used_output p marks slice nets r d out h is e = subst (Uses p nets r) (sym out) (all_drivable p marks nets r h (e ∙ ap (λ (ms : List Bool). list_all (λ net. slice_index_or ms net false) nets) is))

pub used_input : (p : Parts) (marks slice : List Bool) (nets : List ℕ) (r : Bool) (d : Direction) → d ≡ Input → AreSampled p marks → slice ≡ marks → r ≡ list_all (λ net. slice_index_or slice net false) nets → Decides r (UsedAs p d nets)
used_input p marks slice nets r d inp h is e = subst (Uses p nets r) (sym inp) (all_sampled p marks nets r h (e ∙ ap (λ (ms : List Bool). list_all (λ net. slice_index_or ms net false) nets) is))
