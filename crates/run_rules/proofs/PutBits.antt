-- Bits that stand beside nets, and are put on them.
use Rattle.std.proofs.Common.{◌≡◌, ◌≢◌, ℕ, zero, suc, ◌==◌, Bool, true, false, List, [], ◌∷◌, ◌++◌, length, All, Option, Some, None, slice_get, if◌then◌else◌, refl, ap, ◌∙◌, subst, arith}
use Rattle.std.proofs.lemmas.Bool.Decides.{nat_tests}
use Rattle.std.proofs.lemmas.List.Elements.{All-nil, All-cons, All-head, All-tail}
use Rattle.four_state.specs.declared.bit.Bit.{Bit}
use Rattle.four_state.specs.declared.bit.Bit3.{Bit3}
use Rattle.run_rules.specs.Nets.{bit_at, net_bit, put_bits}
use Rattle.run_rules.proofs.NetNames.{some-same}

-- none of these numbers is k
abbrev pub Lacks : ℕ → List ℕ → Type 0
Lacks k ks = All (λ j. j ≢ k) ks

-- at most one is
abbrev pub HasOnce : ℕ → List ℕ → Type 0
HasOnce k [] = Unit {0}
HasOnce k (j ∷ js) = (j ≡ k → Lacks k js) × HasOnce k js

pub eqb_same : (a : ℕ) → (a == a) ≡ true
eqb_same a = grind (arith, nat_tests)

pub eqb_differ : (a b : ℕ) → a ≢ b → (a == b) ≡ false
eqb_differ a b h = grind (arith, nat_tests)

eqb_turned : (a b : ℕ) (t : Bool) → (a == b) ≡ t → (b == a) ≡ t
eqb_turned a b true e = grind (arith, nat_tests)
eqb_turned a b false e = grind (arith, nat_tests)

pub eqb_is : (a b : ℕ) → (a == b) ≡ true → a ≡ b
eqb_is a b e = grind (arith, nat_tests)

-- ---- bits beside nets

pub missed : (k : ℕ) (ks : List ℕ) (bits : List Bit) → Lacks k ks → bit_at k ks bits ≡ None
missed k [] bits lacks = refl
missed k (j ∷ js) [] lacks = refl
missed k (j ∷ js) (b ∷ bits) lacks =
    ap (λ t. if t then Some (net_bit b) else bit_at k js bits) (eqb_differ j k (All-head (λ i. i ≢ k) j js lacks))
    ∙ missed k js bits (All-tail (λ i. i ≢ k) j js lacks)

-- where there are as many bits as nets, a net without a bit isn't there
pub lacks_missed : (k : ℕ) (ks : List ℕ) (bits : List Bit) → length bits ≡ length ks → bit_at k ks bits ≡ None → Lacks k ks
lacks_missed k [] bits few h = All-nil (λ i. i ≢ k)
lacks_missed k (j ∷ js) [] few h = absurd (omega (arith, few))
lacks_missed k (j ∷ js) (b ∷ bits) few h = by (j == k) refl h (λ none. lacks_missed k js bits (omega (arith, few)) none)
  where
    by : (t : Bool) → (j == k) ≡ t → (if t then Some (net_bit b) else bit_at k js bits) ≡ None → (bit_at k js bits ≡ None → Lacks k js) → Lacks k (j ∷ js)
    by true e none more = absurd cc
    by false e none more = All-cons (λ i. i ≢ k) j js (λ is. grind (arith, nat_tests)) (more none)

-- ---- bits that are put on nets

abbrev pub given_or : Option Bit3 → Bit3 → Bit3
given_or None before = before
given_or (Some b) before = b

pub put_at : (k : ℕ) (ks : List ℕ) (bits : List Bit) (value : ℕ → Bit3) → HasOnce k ks → put_bits ks bits value k ≡ given_or (bit_at k ks bits) (value k)
put_at k [] bits value once = refl
put_at k (j ∷ js) [] value once = refl
put_at k (j ∷ js) (b ∷ bits) value once =
    put_at k js bits (λ net. if net == j then net_bit b else value net) once.1 ∙ by (j == k) refl
  where
    by : (t : Bool) → (j == k) ≡ t → given_or (bit_at k js bits) (if k == j then net_bit b else value k) ≡ given_or (if t then Some (net_bit b) else bit_at k js bits) (value k)
    by true e =
        ap (λ o. given_or o (if k == j then net_bit b else value k)) (missed k js bits (once.0 (eqb_is j k e)))
        ∙ ap (λ t. if t then net_bit b else value k) (eqb_turned j k true e)
    by false e = ap (λ t. given_or (bit_at k js bits) (if t then net_bit b else value k)) (eqb_turned j k false e)

-- the last bit is put last
pub put_last : (ks : List ℕ) (bits : List Bit) (k : ℕ) (b : Bit) (value : ℕ → Bit3) → length ks ≡ length bits → put_bits (ks ++ k ∷ []) (bits ++ b ∷ []) value ≡ (λ net. if net == k then net_bit b else put_bits ks bits value net)
put_last [] [] k b value few = refl
put_last [] (c ∷ bits) k b value few = absurd (omega (arith, few))
put_last (j ∷ js) [] k b value few = absurd (omega (arith, few))
put_last (j ∷ js) (c ∷ bits) k b value few = put_last js bits k b (λ net. if net == j then net_bit c else value net) (omega (arith, few))

-- ---- the bit of a net

held_at : (P : ℕ → Type 0) (ks : List ℕ) (i k : ℕ) → All P ks → slice_get ks i ≡ Some k → P k
held_at P [] i k all is = absurd cc
held_at P (j ∷ js) zero k all is = subst P (some-same j k is) (All-head P j js all)
held_at P (j ∷ js) (suc i) k all is = held_at P js i k (All-tail P j js all) is

-- the bit at the place of a net that stands once
pub bit_at_place : (k : ℕ) (ks : List ℕ) (bits : List Bit) (i : ℕ) (b : Bit) → HasOnce k ks → slice_get ks i ≡ Some k → slice_get bits i ≡ Some b → bit_at k ks bits ≡ Some (net_bit b)
bit_at_place k [] bits i b once is has = absurd cc
bit_at_place k (j ∷ js) [] i b once is has = absurd cc
bit_at_place k (j ∷ js) (c ∷ bits) zero b once is has =
    ap (λ z. if z == k then Some (net_bit c) else bit_at k js bits) (some-same j k is)
    ∙ ap (λ t. if t then Some (net_bit c) else bit_at k js bits) (eqb_same k)
    ∙ ap (λ z. Some (net_bit z)) (some-same c b has)
bit_at_place k (j ∷ js) (c ∷ bits) (suc i) b once is has =
    ap (λ t. if t then Some (net_bit c) else bit_at k js bits) (eqb_differ j k (λ first. held_at (λ l. l ≢ k) js i k (once.0 first) is refl))
    ∙ bit_at_place k js bits i b once.1 is has
