-- What driving a signal does to the nets.
use Rattle.std.proofs.Common.{◌≡◌, ◌≢◌, ◌⊎◌, inl, inr, ℕ, zero, suc, ◌+◌, ◌<◌, ◌==◌, true, false, List, [], ◌∷◌, length, All, Option, Some, None, slice_get, if◌then◌else◌, refl, sym, ap, ap₂, ◌∙◌, subst, arith}
use Rattle.std.specs.Option.{option_or}
use Rattle.std.proofs.lemmas.Bool.Decides.{eqb_tells}
use Rattle.std.proofs.lemmas.Option.{slice_get_within}
use Rattle.four_state.specs.declared.bit.Bit.{Bit}
use Rattle.four_state.specs.declared.bit.Bit3.{Bit3}
use Rattle.four_state.specs.declared.bit.Bit3.TheVariants.{X}
use Rattle.vera_ast.specs.declared.tree.interfaces.Direction.{Direction}
use Rattle.vera_ast.specs.declared.tree.interfaces.Direction.TheVariants.{Input, Output}
use Rattle.vera_ast.specs.Signals.{NamedSignal, AreApart}
use Rattle.blif_read.specs.Nets.{number}
use Rattle.run_rules.specs.Drives.{Driven, with_value}
use Rattle.run_rules.specs.Nets.{net_name, nets_of, is_output, bit_at, gives, given_from, net_bit, or_x, driven_nets, put_bits}
use Rattle.run_rules.proofs.NetNames.{some-same, same_signal}
use Rattle.run_rules.proofs.NetNumbers.{same_number}
use Rattle.run_rules.proofs.PutBits.{Lacks, eqb_same, eqb_differ, missed, lacks_missed, given_or, put_at, bit_at_place}
use Rattle.run_rules.proofs.SignalNets.{many, all_nets, net_at, bit_of, place_of, once_lowest}

-- ---- what signals give a net

abbrev gives_by : List (List ℕ) → NamedSignal → List Bit → ℕ → Direction → Option Bit3
gives_by names s bits k d = if is_output d then bit_at k (nets_of names s.signal) bits else None

-- an output signal gives nets of its own alone
gives_none : (names : List (List ℕ)) (s : NamedSignal) (o : Option (List Bit)) (k : ℕ) → (s.signal.direction ≡ Output → Lacks k (nets_of names s.signal)) → gives names s o k ≡ None
gives_none names s None k lacks = refl
gives_none names s (Some bits) k lacks = by s.signal.direction refl
  where
    by : (d : Direction) → s.signal.direction ≡ d → gives_by names s bits k d ≡ None
    by Input e = refl
    by Output e = missed k (nets_of names s.signal) bits (lacks e)

given_same : (o : ℕ) (names : List (List ℕ)) (signals : List NamedSignal) (d e : Driven) (k : ℕ) → ((m z : ℕ) (t : NamedSignal) → slice_get signals m ≡ Some t → z ≡ o + m → gives names t (d z) k ≡ gives names t (e z) k) → given_from o names signals d k ≡ given_from o names signals e k
given_same o names [] d e k same = refl
given_same o names (t ∷ ts) d e k same =
    ap₂ option_or
    (same 0 o t refl (omega arith))
    (given_same (suc o) names ts d e k (λ m z u is at. same (suc m) z u is (omega (arith, at))))

given_first : (o : ℕ) (names : List (List ℕ)) (signals : List NamedSignal) (r : ℕ) (s : NamedSignal) (d : Driven) (k : ℕ) (x : Bit3) → slice_get signals r ≡ Some s → ((m z : ℕ) (t : NamedSignal) → m < r → slice_get signals m ≡ Some t → z ≡ o + m → gives names t (d z) k ≡ None) → ((z : ℕ) → z ≡ o + r → gives names s (d z) k ≡ Some x) → given_from o names signals d k ≡ Some x
given_first o names [] r s d k x is before at = absurd cc
given_first o names (t ∷ ts) zero s d k x is before at =
    ap (λ (u : NamedSignal). option_or (gives names u (d o) k) (given_from (suc o) names ts d k)) (some-same t s is)
    ∙ ap (λ g. option_or g (given_from (suc o) names ts d k)) (at o (omega arith))
given_first o names (t ∷ ts) (suc r) s d k x is before at =
    ap (λ g. option_or g (given_from (suc o) names ts d k)) (before 0 o t (omega arith) refl (omega arith))
    ∙ given_first (suc o) names ts r s d k x is
    (λ m z u below there e. before (suc m) z u (omega arith) there (omega (arith, e)))
    (λ z e. at z (omega (arith, e)))

-- ---- one signal that is driven

module _
    (names : List (List ℕ)) (signals : List NamedSignal) (driven : Driven) (n : ℕ) (s : NamedSignal) (bits : List Bit) (k : ℕ)
    (is : slice_get signals n ≡ Some s) where
  -- any other signal keeps its value
  other : (m : ℕ) → m ≢ n → with_value driven n bits m ≡ driven m
  other m differs = ap (λ t. if t then Some bits else driven m) (eqb_differ m n differs)

  this : (m : ℕ) → m ≡ n → with_value driven n bits m ≡ Some bits
  this m same = ap (λ t. if t then Some bits else driven m) (subst (λ z. (m == z) ≡ true) same (eqb_same m))

  -- where k is no net of the signal
  away : Lacks k (nets_of names s.signal) → driven_nets names signals (with_value driven n bits) k ≡ driven_nets names signals driven k
  away lacks = ap or_x (given_same 0 names signals (with_value driven n bits) driven k each)
    where
      each : (m z : ℕ) (t : NamedSignal) → slice_get signals m ≡ Some t → z ≡ 0 + m → gives names t (with_value driven n bits z) k ≡ gives names t (driven z) k
      each m z t there at = by (eqb_tells z n)
        where
          by : (((z == n) ≡ true) × (z ≡ n)) ⊎ (((z == n) ≡ false) × (z ≢ n)) → gives names t (with_value driven n bits z) k ≡ gives names t (driven z) k
          by (inl same) =
              let place : n ≡ m = sym same.1 ∙ at ∙ omega arith in
              let one : s ≡ t = some-same s t (sym is ∙ ap (slice_get signals) place ∙ there) in
              let none : Lacks k (nets_of names t.signal) = subst (λ (u : NamedSignal). Lacks k (nets_of names u.signal)) one lacks in
              gives_none names t (with_value driven n bits z) k (λ e. none) ∙ sym (gives_none names t (driven z) k (λ e. none))
          by (inr differs) = ap (λ o. gives names t o k) (other z differs.1)

module _
    (names : List (List ℕ)) (signals : List NamedSignal) (driven : Driven) (n : ℕ) (s : NamedSignal) (bits : List Bit) (k : ℕ)
    (apart : AreApart signals) (is : slice_get signals n ≡ Some s) (output : s.signal.direction ≡ Output)
    (wide : length bits ≡ s.signal.width.bits)
    (inside : (i : ℕ) → i < s.signal.width.bits → number names (net_name s.signal i) ≡ k → k < length names) where
  -- where it is one
  at_bit : (i : ℕ) → i < s.signal.width.bits → number names (net_name s.signal i) ≡ k → (x : Bit3) → bit_at k (nets_of names s.signal) bits ≡ Some x → driven_nets names signals (with_value driven n bits) k ≡ x
  at_bit i below here x bit =
      ap or_x (given_first 0 names signals n s (with_value driven n bits) k x is
      (λ m z t before there at. ap (λ o. gives names t o k) (other names signals driven n s bits k is z (omega (arith, at, before))) ∙ gives_none names t (driven z) k (λ out. lacks m t before there out))
      (λ z at. ap (λ o. gives names s o k) (this names signals driven n s bits k is z (omega (arith, at))) ∙ ap (gives_by names s bits k) output ∙ bit))
    where
      lacks : (m : ℕ) (t : NamedSignal) → m < n → slice_get signals m ≡ Some t → t.signal.direction ≡ Output → Lacks k (nets_of names t.signal)
      lacks m t before there out =
          all_nets (λ j. j ≢ k) names t.signal t.signal.width.bits (λ j within e.
          let one : m ≡ n = same_signal signals m n t s j i apart there is out output (same_number names _ _ (e ∙ sym here) (subst (λ (z : ℕ). z < length names) (sym e) (inside i below here))) in
          omega (arith, one, before))

  pub driving_puts : driven_nets names signals (with_value driven n bits) k ≡ put_bits (nets_of names s.signal) bits (driven_nets names signals driven) k
  driving_puts = by (bit_at k (nets_of names s.signal) bits) refl (bit_of k names s.signal s.signal.width.bits) ∙ sym (put_at k (nets_of names s.signal) bits (driven_nets names signals driven) (once_lowest k names s.signal s.signal.width.bits (omega arith) inside))
    where
      by : (o : Option Bit3) → bit_at k (nets_of names s.signal) bits ≡ o → Lacks k (nets_of names s.signal) ⊎ ((i : ℕ) × (i < s.signal.width.bits) × (number names (net_name s.signal i) ≡ k)) → driven_nets names signals (with_value driven n bits) k ≡ given_or (bit_at k (nets_of names s.signal) bits) (driven_nets names signals driven k)
      by None none found =
          away names signals driven n s bits k is (lacks_missed k (nets_of names s.signal) bits (wide ∙ sym (many names s.signal s.signal.width.bits)) none)
          ∙ ap (λ o. given_or o (driven_nets names signals driven k)) (sym none)
      by (Some x) some (inl lacks) = absurd (none_some x (sym (missed k (nets_of names s.signal) bits lacks) ∙ some))
        where
          none_some : (x : Bit3) → None ≡ Some x → ⊥
          none_some x e = cc
      by (Some x) some (inr found) =
          at_bit found.0 found.1 found.2 x some
          ∙ ap (λ o. given_or o (driven_nets names signals driven k)) (sym some)

-- ---- one net

-- the net of a bit has the bit
pub driving_bit : (names : List (List ℕ)) (signals : List NamedSignal) (driven : Driven) (n : ℕ) (s : NamedSignal) (bits : List Bit) (i : ℕ) (b : Bit) → AreApart signals → slice_get signals n ≡ Some s → s.signal.direction ≡ Output → length bits ≡ s.signal.width.bits → slice_get bits i ≡ Some b → number names (net_name s.signal i) < length names → driven_nets names signals (with_value driven n bits) (number names (net_name s.signal i)) ≡ net_bit b
driving_bit names signals driven n s bits i b apart is output wide has below =
    let place : i < s.signal.width.bits = subst (λ w. i < w) wide (slice_get_within bits i b has) in
    at_bit names signals driven n s bits (number names (net_name s.signal i)) apart is output wide (λ j within e. below) i place refl (net_bit b)
    (bit_at_place (number names (net_name s.signal i)) (nets_of names s.signal) bits i b
    (once_lowest (number names (net_name s.signal i)) names s.signal s.signal.width.bits (omega arith) (λ j within e. below))
    (place_of names s.signal s.signal.width.bits i place)
    has)

-- a net that is none of the signal's keeps its value
pub driving_away : (names : List (List ℕ)) (signals : List NamedSignal) (driven : Driven) (n : ℕ) (s : NamedSignal) (bits : List Bit) (net : ℕ) → slice_get signals n ≡ Some s → All (λ other. other ≢ net) (nets_of names s.signal) → driven_nets names signals (with_value driven n bits) net ≡ driven_nets names signals driven net
driving_away names signals driven n s bits net is lacks = away names signals driven n s bits net is lacks

-- ---- all nets

-- driving a signal puts its bits on its nets, at each net that the netlist has
pub driving_there : (names : List (List ℕ)) (signals : List NamedSignal) (driven : Driven) (n : ℕ) (s : NamedSignal) (bits : List Bit) (net : ℕ) → AreApart signals → slice_get signals n ≡ Some s → s.signal.direction ≡ Output → length bits ≡ s.signal.width.bits → net < length names → driven_nets names signals (with_value driven n bits) net ≡ put_bits (nets_of names s.signal) bits (driven_nets names signals driven) net
driving_there names signals driven n s bits net apart is output wide below = driving_puts names signals driven n s bits net apart is output wide (λ i within e. below)

-- and at all, where the netlist has all nets of the signal
pub driving_all : (names : List (List ℕ)) (signals : List NamedSignal) (driven : Driven) (n : ℕ) (s : NamedSignal) (bits : List Bit) → AreApart signals → slice_get signals n ≡ Some s → s.signal.direction ≡ Output → length bits ≡ s.signal.width.bits → All (λ net. net < length names) (nets_of names s.signal) → driven_nets names signals (with_value driven n bits) ≡ put_bits (nets_of names s.signal) bits (driven_nets names signals driven)
driving_all names signals driven n s bits apart is output wide below =
    λ i net. driving_puts names signals driven n s bits net apart is output wide (λ b within e. subst (λ (z : ℕ). z < length names) e (net_at (λ z. z < length names) names s.signal s.signal.width.bits below b within)) i

-- ---- before any drive

none_given : (o : ℕ) (names : List (List ℕ)) (signals : List NamedSignal) (net : ℕ) → given_from o names signals (λ n. None) net ≡ None
none_given o names [] net = refl
none_given o names (s ∷ signals) net = none_given (suc o) names signals net

pub undriven : (names : List (List ℕ)) (signals : List NamedSignal) → driven_nets names signals (λ n. None) ≡ (λ net. X)
undriven names signals = λ i net. ap or_x (none_given 0 names signals net) i
