-- Marks of nets, and what they say of a netlist.
use Rattle.std.proofs.Common.{◌≡◌, ◌≢◌, ◌⊎◌, ℕ, ◌<◌, ◌==◌, Bool, true, false, List, [], ◌∷◌, ◌++◌, length, All, refl, sym, ◌∙◌, ap, subst, Option, None, Some, arith, inl, inr}
use Rattle.std.specs.Prelude.{Contains, slice_index_or, slice_set}
use Rattle.std.specs.Bool.{Decides}
use Rattle.std.specs.List.{list_any, list_all}
use Rattle.std.proofs.lemmas.Bool.Decides.{Decides-eqb, Decides-by_or, Decides-by_and, Decides-like, Decides-at, Decides-or}
use Rattle.std.proofs.lemmas.List.{get_or_default, get_or-set_same, get_or-set_other}
use Rattle.std.proofs.lemmas.List.Folds.{list_any-append}
use Rattle.blif_read.specs.Netlists.{Parts}
use Rattle.run_rules.specs.Links.{IsDrivable, IsSampled}
use Rattle.signal_link.specs.Marks.{AreMarks}
use Rattle.signal_link.specs.Roles.{AreDrivable, AreSampled}

decides_contains : (nets : List ℕ) (net : ℕ) → Decides (list_any (λ other. net == other) nets) (Contains nets net)
decides_contains nets net =
    Decides-like _ (λ (k, lt, at). (k, lt, sym (at net))) (λ (k, lt, at). (k, lt, λ d. sym at ∙ get_or_default nets k net d lt))
    (Decides-by_or (λ other. net == other) (λ other. net ≡ other) (list_any (λ other. net == other)) (λ other. Decides-eqb net other) refl (λ _ _. refl) nets)

pub marked_nets : (marks : List Bool) (nets : List ℕ) (net : ℕ) → AreMarks marks nets → Decides (slice_index_or marks net false) (Contains nets net)
marked_nets marks nets net h = Decides-at _ _ (h.has net) (decides_contains nets net)

-- ---- nets that may be driven

pub drivable_without_clock : (p : Parts) (marks : List Bool) → AreMarks marks p.inputs → p.clock ≡ None → AreDrivable p marks
drivable_without_clock p marks h none = record {
  marked = λ net. Decides-like _ (λ there. (there, λ some. cc)) (λ both. both.0) (marked_nets marks p.inputs net h);
}

other_net : (p : Parts) (marks : List Bool) (clock net : ℕ) (b : Bool) → Decides b (net ≡ clock) → AreMarks marks p.inputs → p.clock ≡ Some clock → clock < length marks → Decides (slice_index_or (slice_set marks clock false) net false) (IsDrivable p net)
other_net p marks clock net true d h some lt =
    let same : net ≡ clock = d.0 refl in
    let off : slice_index_or (slice_set marks clock false) net false ≡ false = ap (λ n. slice_index_or (slice_set marks clock false) n false) same ∙ get_or-set_same marks clock false false lt in
    (λ on. absurd (cc (off, on)), λ both. absurd (both.1 (some ∙ ap Some (sym same))))
other_net p marks clock net false d h some lt =
    let other : net ≢ clock = λ e. let on = d.1 e in cc in
    Decides-at _ _ (get_or-set_other marks clock net false false other)
    (Decides-like _ (λ there. (there, λ is. other (let same : Some clock ≡ Some net = sym some ∙ is in cc))) (λ both. both.0) (marked_nets marks p.inputs net h))

pub drivable_with_clock : (p : Parts) (marks : List Bool) (clock : ℕ) → AreMarks marks p.inputs → p.clock ≡ Some clock → clock < length marks → AreDrivable p (slice_set marks clock false)
drivable_with_clock p marks clock h some lt = record {
  marked = λ net. other_net p marks clock net (net == clock) (Decides-eqb net clock) h some lt;
}

-- ---- nets that may be sampled

any_of_both : (p : Parts) (net : ℕ) → Decides (list_any (λ other. net == other) (p.outputs ++ p.inputs)) (IsSampled p net)
any_of_both p net = Decides-at _ _ (list_any-append (λ other. net == other) p.outputs p.inputs) (Decides-or _ _ (decides_contains p.outputs net) (decides_contains p.inputs net))

pub sampled_nets : (p : Parts) (marks : List Bool) → AreMarks marks (p.outputs ++ p.inputs) → AreSampled p marks
sampled_nets p marks h = record { marked = λ net. Decides-at _ _ (h.has net) (any_of_both p net) }
