-- Descent, one step up at a time.
use Rattle.std.proofs.Common.{◌≡◌, ℕ, suc, Bool, false, List, Option, Some, refl, sym, ap, ◌+◌, ◌-◌, ◌<◌, ◌∙◌, arith}
use Rattle.std.specs.Prelude.{◌==◌}
use Rattle.std.proofs.lemmas.Bool.Decides.{nat_tests}
use Rattle.typing_rules.specs.Types.{is_below, parent_of}

not_same : (a b : ℕ) → (a ≡ b → ⊥) → (a == b) ≡ false
not_same a b ne = grind (arith, nat_tests)

pub to_parent : (n : ℕ) (parents : List (Option ℕ)) (class parent ancestor : ℕ) → (class == ancestor) ≡ false → parent_of parents class ≡ Some parent → is_below (suc n) parents class ancestor ≡ is_below n parents parent ancestor
to_parent n parents class parent ancestor e s = rw (e, s) refl

pub way_up : (end step : ℕ) (parents : List (Option ℕ)) (class parent ancestor : ℕ) (whole : Bool) → step < end → (class ≡ ancestor → ⊥) → parent_of parents class ≡ Some parent
    → is_below (end - step) parents class ancestor ≡ whole → is_below (end - (step + 1)) parents parent ancestor ≡ whole
way_up end step parents class parent ancestor whole lt ne s h =
    let e : (class == ancestor) ≡ false = not_same class ancestor ne in
    let more : end - step ≡ suc (end - (step + 1)) = omega arith in
    sym (to_parent (end - (step + 1)) parents class parent ancestor e s) ∙ sym (ap (λ (n : ℕ). is_below n parents class ancestor) more) ∙ h
