-- What links against a netlist without nets.
use Rattle.std.proofs.Common.{◌≡◌, ◌⊎◌, ℕ, zero, suc, ◌<◌, ◌≤◌, ◌↔◌, List, [], ◌∷◌, ◌++◌, length, All, refl, sym, ◌∙◌, ap, subst, length-append, arith, inl, inr, None, Some}
use Rattle.std.specs.Prelude.{Contains}
use Rattle.vera_ast.specs.declared.tree.interfaces.Direction.{Direction}
use Rattle.vera_ast.specs.declared.tree.interfaces.Direction.TheVariants.{Input, Output}
use Rattle.vera_ast.specs.declared.typed.interface.TypedSignalKind.{TypedSignalKind}
use Rattle.vera_ast.specs.declared.typed.interface.TypedSignalKind.TheVariants.{Clock}
use Rattle.vera_ast.specs.declared.typed.interface.TypedSignal.{TypedSignal}
use Rattle.blif_read.specs.Netlists.{Parts}
use Rattle.run_rules.specs.Links.{IsDrivable, IsSampled, LinksAs, Links}
use Rattle.run_rules.specs.Nets.{lowest_nets, nets_of}
use Rattle.signal_link.specs.Empty.{HasNoNets}

length-lowest : (names : List (List ℕ)) (s : TypedSignal) (n : ℕ) → length (lowest_nets names s n) ≡ n
length-lowest names s zero = refl
length-lowest names s (suc n) = let below = length-lowest names s n in simp length-append (omega (arith, below))

none_in : (nets : List ℕ) (net : ℕ) → nets ≡ [] → Contains nets net → ⊥
none_in nets net e h = let lt = h.1 in let none : length nets ≡ 0 = ap length e in omega (arith, lt, none)

none_drivable : (p : Parts) (s : TypedSignal) → HasNoNets p → All (IsDrivable p) (nets_of p.nets s) → ⊥
none_drivable p s h all =
    let size = length-lowest p.nets s s.width.bits in
    let some = s.width.not_empty in
    none_in p.inputs _ h.inputs (all 0 0 (omega (arith, size, some))).0

none_of_both : (p : Parts) (net : ℕ) → HasNoNets p → IsSampled p net → ⊥
none_of_both p net h (inl k) = none_in p.outputs net h.outputs k
none_of_both p net h (inr k) = none_in p.inputs net h.inputs k

none_sampled : (p : Parts) (s : TypedSignal) → HasNoNets p → All (IsSampled p) (nets_of p.nets s) → ⊥
none_sampled p s h all =
    let size = length-lowest p.nets s s.width.bits in
    let some = s.width.not_empty in
    none_of_both p _ h (all 0 0 (omega (arith, size, some)))

clock_by : (p : Parts) (s : TypedSignal) (k : TypedSignalKind) (d : Direction) → HasNoNets p → LinksAs p s k d → (k ≡ Clock) × (d ≡ Input)
clock_by p s Clock Input h l = (refl, refl)
clock_by p s kind Output h l = absurd (none_drivable p s h l)
clock_by p s kind Input h l = absurd (none_sampled p s h l)

clock_links : (p : Parts) (s : TypedSignal) → HasNoNets p → LinksAs p s Clock Input
clock_links p s h = λ net is. absurd (let bad = sym h.clock ∙ is in cc)

pub only_clocks : (p : Parts) (s : TypedSignal) → HasNoNets p → Links p s ↔ (s.kind ≡ Clock) × (s.direction ≡ Input)
only_clocks p s h = (λ l. clock_by p s s.kind s.direction h l, λ e. subst (λ (k : TypedSignalKind). LinksAs p s k s.direction) (sym e.0) (subst (λ (d : Direction). LinksAs p s Clock d) (sym e.1) (clock_links p s h)))
