-- The test of two places: it is that of the definitions, and passes for equal places alone.
use Rattle.std.specs.Prelude.{◌≡◌, ℕ, true, ◌==◌, refl}
use Rattle.std.proofs.Common.{arith, ap}
use Rattle.std.proofs.lemmas.Bool.Decides.{nat_tests}
use Rattle.store_api.specs.contracts.loc.LocPartialEq.TheImpl as eq
use Rattle.store_api.specs.declared.loc.Loc.{Loc}
use Rattle.store_api.specs.declared.loc.Loc.TheVariants.{Global, Sample}
use Rattle.store_api.specs.Places.{loc_eq}

eqb_sound : (a b : ℕ) → (a == b) ≡ true → a ≡ b
eqb_sound a b h = grind (arith, nat_tests)

eqb_refl : (a : ℕ) → (a == a) ≡ true
eqb_refl a = grind (arith, nat_tests)

nat_eq_comm : (a b : ℕ) → (a == b) ≡ (b == a)
nat_eq_comm a b = grind (arith, nat_tests)

-- the derived test is that of the definitions
pub derived-eq : (l k : Loc) → eq.ghosts.eq l k ≡ loc_eq l k
derived-eq (Global a) (Global b) = refl
derived-eq (Global a) (Sample b) = refl
derived-eq (Sample a) (Global b) = refl
derived-eq (Sample a) (Sample b) = refl

pub loc_eq-sound : (l k : Loc) → loc_eq l k ≡ true → l ≡ k
loc_eq-sound (Global a) (Global b) h = ap (λ n. Global n) (eqb_sound a b h)
loc_eq-sound (Global a) (Sample b) h = absurd cc
loc_eq-sound (Sample a) (Global b) h = absurd cc
loc_eq-sound (Sample a) (Sample b) h = ap (λ n. Sample n) (eqb_sound a b h)

pub loc_eq-refl : (l : Loc) → loc_eq l l ≡ true
loc_eq-refl (Global a) = eqb_refl a
loc_eq-refl (Sample a) = eqb_refl a

pub loc_eq-comm : (l k : Loc) → loc_eq l k ≡ loc_eq k l
loc_eq-comm (Global a) (Global b) = nat_eq_comm a b
loc_eq-comm (Global a) (Sample b) = refl
loc_eq-comm (Sample a) (Global b) = refl
loc_eq-comm (Sample a) (Sample b) = nat_eq_comm a b
