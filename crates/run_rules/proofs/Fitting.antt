-- Driven values have their signals' widths.
use Rattle.std.proofs.Common.{◌≡◌, ◌≢◌, ◌⊎◌, inl, inr, ℕ, suc, ◌==◌, Bool, true, false, List, [], ◌∷◌, map, filter, length, All, Option, Some, None, slice_get, cond, if◌then◌else◌, refl, sym, ap, ◌∙◌, subst, arith}
use Rattle.std.proofs.lemmas.Bool.Decides.{eqb_tells}
use Rattle.std.proofs.lemmas.List.Elements.{All-nil, All-cons, All-head, All-tail}
use Rattle.four_state.specs.declared.bit.Bit.{Bit}
use Rattle.vera_ast.specs.Signals.{NamedSignal}
use Rattle.run_rules.specs.Drives.{Drive, Driven, meet, meet_all, given_to, met_or, driven_by, with_value}
use Rattle.vera_meaning.specs.Driving.{FitsSignal}
use Rattle.run_rules.specs.Fits.{AllFit, FitsDriven}
use Rattle.run_rules.proofs.PutBits.{eqb_is}

pub meet_length : (a b : List Bit) → length a ≡ length b → length (meet a b) ≡ length a
meet_length [] others e = refl
meet_length (a ∷ bits) [] e = absurd (omega (arith, e))
meet_length (a ∷ bits) (b ∷ others) e = ap suc (meet_length bits others (omega (arith, e)))

one_signal : (signals : List NamedSignal) (n : ℕ) (a b : NamedSignal) → slice_get signals n ≡ Some a → slice_get signals n ≡ Some b → a ≡ b
one_signal signals n a b is_a is_b = same (sym is_a ∙ is_b)
  where
    same : Some a ≡ Some b → a ≡ b
    same e = cc

-- two values of one signal meet in a value of it
pub meet_fits : (signals : List NamedSignal) (n : ℕ) (a b : List Bit) → FitsSignal signals n a → FitsSignal signals n b → FitsSignal signals n (meet a b)
meet_fits signals n a b fits_a fits_b =
    let one : fits_b.named ≡ fits_a.named = one_signal signals n fits_b.named fits_a.named fits_b.is fits_a.is in
    let widths : length a ≡ length b = fits_a.width ∙ sym (ap (λ (s : NamedSignal). s.signal.width.bits) one) ∙ sym fits_b.width in
    record { named = fits_a.named; is = fits_a.is; output = fits_a.output; width = meet_length a b widths ∙ fits_a.width }

meet_all_fits : (signals : List NamedSignal) (n : ℕ) (value : List Bit) (others : List (List Bit)) → FitsSignal signals n value → All (FitsSignal signals n) others → FitsSignal signals n (meet_all value others)
meet_all_fits signals n value [] fits all = fits
meet_all_fits signals n value (other ∷ others) fits all =
    meet_all_fits signals n (meet value other) others
    (meet_fits signals n value other fits (All-head (FitsSignal signals n) other others all))
    (All-tail (FitsSignal signals n) other others all)

given_fit : (signals : List NamedSignal) (n : ℕ) (drives : List Drive) → AllFit signals drives → All (FitsSignal signals n) (given_to n drives)
given_fit signals n [] all = All-nil (FitsSignal signals n)
given_fit signals n (d ∷ drives) all =
    by (d.signal == n) refl (given_fit signals n drives (All-tail (λ (e : Drive). FitsSignal signals e.signal e.bits) d drives all))
  where
    by : (its : Bool) → (d.signal == n) ≡ its → All (FitsSignal signals n) (given_to n drives) → All (FitsSignal signals n) (map (λ (e : Drive). e.bits) (cond its (d ∷ filter (λ (e : Drive). e.signal == n) drives) (filter (λ (e : Drive). e.signal == n) drives)))
    by true is more =
        All-cons (FitsSignal signals n) d.bits (given_to n drives)
        (subst (λ (m : ℕ). FitsSignal signals m d.bits) (eqb_is d.signal n is) (All-head (λ (e : Drive). FitsSignal signals e.signal e.bits) d drives all))
        more
    by false is more = more

some_same : (a b : List Bit) → Some a ≡ Some b → a ≡ b
some_same a b e = cc

met_fits : (signals : List NamedSignal) (n : ℕ) (former : Option (List Bit)) (given : List (List Bit)) → All (FitsSignal signals n) given → ((bits : List Bit) → former ≡ Some bits → FitsSignal signals n bits) → (bits : List Bit) → met_or former given ≡ Some bits → FitsSignal signals n bits
met_fits signals n former [] all before bits is = before bits is
met_fits signals n former (first ∷ others) all before bits is =
    subst (FitsSignal signals n) (some_same (meet_all first others) bits is)
    (meet_all_fits signals n first others (All-head (FitsSignal signals n) first others all) (All-tail (FitsSignal signals n) first others all))

pub driven_fits : (signals : List NamedSignal) (drives : List Drive) (driven : Driven) → AllFit signals drives → FitsDriven signals driven → FitsDriven signals (driven_by drives driven)
driven_fits signals drives driven all before n = met_fits signals n (driven n) (given_to n drives) (given_fit signals n drives all) (before n)

pub value_fits : (signals : List NamedSignal) (driven : Driven) (n : ℕ) (bits : List Bit) → FitsDriven signals driven → FitsSignal signals n bits → FitsDriven signals (with_value driven n bits)
value_fits signals driven n bits before fits m value is = by (eqb_tells m n)
  where
    by : (((m == n) ≡ true) × (m ≡ n)) ⊎ (((m == n) ≡ false) × (m ≢ n)) → FitsSignal signals m value
    by (inl same) =
        subst (λ (k : ℕ). FitsSignal signals k value) (sym same.1)
        (subst (FitsSignal signals n) (some_same bits value (ap (λ t. if t then Some bits else driven m) (sym same.0) ∙ is)) fits)
    by (inr other) = before m value (ap (λ t. if t then Some bits else driven m) (sym other.0) ∙ is)

pub nothing_fits : (signals : List NamedSignal) → FitsDriven signals (λ n. None)
nothing_fits signals n bits is = none_some is
  where
    none_some : None ≡ Some bits → FitsSignal signals n bits
    none_some e = absurd cc
