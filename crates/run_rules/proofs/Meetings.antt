-- One more drive.
use Rattle.std.proofs.Common.{◌≡◌, ◌≢◌, ◌⊎◌, inl, inr, ℕ, ◌==◌, Bool, true, false, List, [], ◌∷◌, ◌++◌, map, filter, append-nil, Option, Some, cond, if◌then◌else◌, refl, sym, ap, ◌∙◌, arith}
use Rattle.std.proofs.lemmas.Bool.Decides.{eqb_tells, nat_tests}
use Rattle.std.proofs.lemmas.List.{map-append}
use Rattle.std.proofs.lemmas.List.Elements.{filter-append}
use Rattle.four_state.specs.declared.bit.Bit.{Bit}
use Rattle.run_rules.specs.Drives.{Drive, Driven, meet, meet_all, given_to, met_or, driven_by, with_value}
use Rattle.run_rules.proofs.PutBits.{eqb_differ}

pub no_drives : (driven : Driven) → driven_by [] driven ≡ driven
no_drives driven = refl

-- what one drive gives a signal, by whether it drives it
abbrev one_given : Bool → Drive → List (List Bit)
one_given its d = map (λ (e : Drive). e.bits) (cond its (d ∷ []) [])

given_more : (signal : ℕ) (done : List Drive) (d : Drive) → given_to signal (done ++ d ∷ []) ≡ given_to signal done ++ one_given (d.signal == signal) d
given_more signal done d =
    ap (map (λ (e : Drive). e.bits)) (filter-append (λ (e : Drive). e.signal == signal) done (d ∷ []))
    ∙ map-append (λ (e : Drive). e.bits) (filter (λ (e : Drive). e.signal == signal) done) (cond (d.signal == signal) (d ∷ []) [])

given_other : (signal : ℕ) (done : List Drive) (d : Drive) → d.signal ≢ signal → given_to signal (done ++ d ∷ []) ≡ given_to signal done
given_other signal done d other =
    given_more signal done d
    ∙ ap (λ its. given_to signal done ++ one_given its d) (eqb_differ d.signal signal other)
    ∙ append-nil (given_to signal done)

given_same : (signal : ℕ) (done : List Drive) (d : Drive) → (d.signal == signal) ≡ true → given_to signal (done ++ d ∷ []) ≡ given_to signal done ++ d.bits ∷ []
given_same signal done d same = given_more signal done d ∙ ap (λ its. given_to signal done ++ one_given its d) same

-- a value for the drive's signal, where it is what the drives before and this one give
one_more : (done : List Drive) (d : Drive) (driven : Driven) (value : List Bit) → met_or (driven d.signal) (given_to d.signal done ++ d.bits ∷ []) ≡ Some value → (signal : ℕ) → driven_by (done ++ d ∷ []) driven signal ≡ with_value (driven_by done driven) d.signal value signal
one_more done d driven value is signal = by (eqb_tells signal d.signal)
  where
    by : (((signal == d.signal) ≡ true) × (signal ≡ d.signal)) ⊎ (((signal == d.signal) ≡ false) × (signal ≢ d.signal)) → driven_by (done ++ d ∷ []) driven signal ≡ with_value (driven_by done driven) d.signal value signal
    by (inl its) =
        ap (λ n. met_or (driven n) (given_to n (done ++ d ∷ []))) its.1
        ∙ ap (met_or (driven d.signal)) (given_same d.signal done d (ap (λ n. n == d.signal) (sym its.1) ∙ its.0))
        ∙ is
        ∙ ap (λ t. if t then Some value else driven_by done driven signal) (sym its.0)
    by (inr other) =
        ap (met_or (driven signal)) (given_other signal done d (λ e. other.1 (sym e)))
        ∙ ap (λ t. if t then Some value else driven_by done driven signal) (sym other.0)

-- the first drive of a signal gives its bits
pub first_drive : (done : List Drive) (d : Drive) (driven : Driven) → given_to d.signal done ≡ [] → driven_by (done ++ d ∷ []) driven ≡ with_value (driven_by done driven) d.signal d.bits
first_drive done d driven none =
    λ i signal. one_more done d driven d.bits (ap (λ given. met_or (driven d.signal) (given ++ d.bits ∷ [])) none) signal i

meet_last : (value : List Bit) (others : List (List Bit)) (last : List Bit) → meet_all value (others ++ last ∷ []) ≡ meet (meet_all value others) last
meet_last value [] last = refl
meet_last value (other ∷ others) last = meet_last (meet value other) others last

met_last : (former : Option (List Bit)) (given : List (List Bit)) (last value : List Bit) → given ≢ [] → met_or former given ≡ Some value → met_or former (given ++ last ∷ []) ≡ Some (meet value last)
met_last former [] last value some is = absurd (some refl)
met_last former (first ∷ others) last value some is = ap Some (meet_last first others last) ∙ ap (λ v. Some (meet v last)) (same _ _ is)
  where
    same : (a b : List Bit) → Some a ≡ Some b → a ≡ b
    same a b e = cc

-- any other meets the signal's value
pub meeting_drive : (done : List Drive) (d : Drive) (driven : Driven) (value : List Bit) → given_to d.signal done ≢ [] → driven_by done driven d.signal ≡ Some value → driven_by (done ++ d ∷ []) driven ≡ with_value (driven_by done driven) d.signal (meet value d.bits)
meeting_drive done d driven value some is =
    λ i signal. one_more done d driven (meet value d.bits) (met_last (driven d.signal) (given_to d.signal done) d.bits value some is) signal i

-- ---- whether a signal was given something

filled : (given : List (List Bit)) (bits : List Bit) → given ++ bits ∷ [] ≢ []
filled [] bits e = absurd cc
filled (first ∷ others) bits e = absurd cc

pub given_this : (done : List Drive) (d : Drive) → given_to d.signal (done ++ d ∷ []) ≢ []
given_this done d e = filled (given_to d.signal done) d.bits (sym (given_same d.signal done d (grind (arith, nat_tests))) ∙ e)

pub given_others : (done : List Drive) (d : Drive) (signal : ℕ) → signal ≢ d.signal → given_to signal (done ++ d ∷ []) ≡ given_to signal done
given_others done d signal other = given_other signal done d (λ e. other (sym e))

given_value : (former : Option (List Bit)) (given : List (List Bit)) → given ≢ [] → (value : List Bit) × (met_or former given ≡ Some value)
given_value former [] some = absurd (some refl)
given_value former (first ∷ others) some = (meet_all first others, refl)

-- a signal that was given something has a value
pub given_has_value : (done : List Drive) (driven : Driven) (signal : ℕ) → given_to signal done ≢ [] → (value : List Bit) × (driven_by done driven signal ≡ Some value)
given_has_value done driven signal some = given_value (driven signal) (given_to signal done) some
