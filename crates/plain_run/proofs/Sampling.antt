-- Samples, one net and one signal at a time.
use Rattle.std.proofs.Common.{◌≡◌, ◌≢◌, ◌⊎◌, inl, inr, ℕ, zero, suc, ◌+◌, ◌≤◌, ◌==◌, Bool, true, false, List, [], ◌∷◌, ◌++◌, length, take, Some, None, slice_get, if◌then◌else◌, refl, sym, ap, ◌∙◌, arith}
use Rattle.std.proofs.lemmas.Bool.Decides.{eqb_tells, nat_tests}
use Rattle.std.proofs.lemmas.List.{take_all}
use Rattle.four_state.specs.declared.bit.Bit3.{Bit3}
use Rattle.four_state.specs.Logic.{logic_bit}
use Rattle.store_api.specs.declared.loc.Loc.{Loc}
use Rattle.store_api.specs.declared.loc.Loc.TheVariants.{Global, Sample}
use Rattle.store_api.specs.declared.val.Val.TheVariants.{Bits}
use Rattle.store_api.specs.Places.{Contents}
use Rattle.slice_core.specs.Walks.{put_at}
use Rattle.vera_ast.specs.Signals.{NamedSignal}
use Rattle.run_rules.specs.Nets.{bits_of, nets_of, is_output, sample_of, sampled_at, sampled}
use Rattle.signal_link.specs.Linked.{signal_nets}
use Rattle.plain_run.specs.Joining.{sample_taken}

-- one net more
bits_next : (value : ℕ → Bit3) (nets : List ℕ) (n net : ℕ) → slice_get nets n ≡ Some net → bits_of value (take (suc n) nets) ≡ bits_of value (take n nets) ++ logic_bit (value net) ∷ []
bits_next value [] n net is = absurd cc
bits_next value (k ∷ ks) zero net is =
    let one : k ≡ net = cc in
    ap (λ m. logic_bit (value m) ∷ []) one
bits_next value (k ∷ ks) (suc n) net is = ap (λ bs. logic_bit (value k) ∷ bs) (bits_next value ks n net is)

pub bits_more : (value : ℕ → Bit3) (nets : List ℕ) (n net : ℕ) → slice_get nets n ≡ Some net → bits_of value (take (n + 1) nets) ≡ bits_of value (take n nets) ++ logic_bit (value net) ∷ []
bits_more value nets n net is =
    let next : n + 1 ≡ suc n = omega arith in
    ap (λ m. bits_of value (take m nets)) next ∙ bits_next value nets n net is

pub bits_many : (value : ℕ → Bit3) (nets : List ℕ) → length (bits_of value nets) ≡ length nets
bits_many value [] = refl
bits_many value (k ∷ ks) = ap suc (bits_many value ks)

pub bits_front : (value : ℕ → Bit3) (nets : List ℕ) (n : ℕ) → n ≤ length nets → length (bits_of value (take n nets)) ≡ n
bits_front value nets zero h = refl
bits_front value [] (suc n) h = absurd (omega arith)
bits_front value (k ∷ ks) (suc n) h = ap suc (bits_front value ks n (omega arith))

pub bits_all : (value : ℕ → Bit3) (nets : List ℕ) (n : ℕ) → length nets ≤ n → bits_of value (take n nets) ≡ bits_of value nets
bits_all value nets n past = ap (bits_of value) (take_all n nets past)

-- ---- the front of a list

at_end : {A : Type 0} → (xs : List A) (n : ℕ) (x : A) → slice_get xs n ≡ Some x → slice_get (take (suc n) xs) n ≡ Some x
at_end [] n x is = is
at_end (y ∷ ys) zero x is = is
at_end (y ∷ ys) (suc n) x is = at_end ys n x is

past_end : {A : Type 0} → (xs : List A) (n : ℕ) → slice_get (take n xs) n ≡ None
past_end [] zero = refl
past_end [] (suc n) = refl
past_end (y ∷ ys) zero = refl
past_end (y ∷ ys) (suc n) = past_end ys n

elsewhere : {A : Type 0} → (xs : List A) (n m : ℕ) → m ≢ n → slice_get (take (suc n) xs) m ≡ slice_get (take n xs) m
elsewhere [] zero m other = refl
elsewhere [] (suc n) m other = refl
elsewhere (y ∷ ys) zero zero other = absurd (other refl)
elsewhere (y ∷ ys) zero (suc m) other = refl
elsewhere (y ∷ ys) (suc n) zero other = refl
elsewhere (y ∷ ys) (suc n) (suc m) other = elsewhere ys n m (λ e. other (ap suc e))

-- ---- one signal more

module _
    (names : List (List ℕ)) (signals : List NamedSignal) (value : ℕ → Bit3) (before : Contents) (n : ℕ) (s : NamedSignal)
    (is : slice_get signals n ≡ Some s) where
  -- a sample of it is taken where it is an input
  abbrev with_sample : Bool → Contents
  with_sample output = if output then sampled names (take n signals) value before else put_at (sampled names (take n signals) value before) (Sample n) (Bits (bits_of value (nets_of names s.signal)))

  variable_kept : (m : ℕ) (output : Bool) → before (Global m) ≡ with_sample output (Global m)
  variable_kept m true = refl
  variable_kept m false = refl

  this : (output : Bool) → is_output s.signal.direction ≡ output → (if output then before (Sample n) else Some (Bits (sample_of names value s.signal))) ≡ with_sample output (Sample n)
  this true e = ap (λ o. sampled_at names value o before n (Sample n)) (sym (past_end signals n))
  this false e = ap (λ t. if t then Some (Bits (sample_of names value s.signal)) else sampled names (take n signals) value before (Sample n)) (sym same)
    where
      same : (n == n) ≡ true
      same = grind (arith, nat_tests)

  other : (m : ℕ) → m ≢ n → (output : Bool) → sampled_at names value (slice_get (take n signals) m) before m (Sample m) ≡ with_sample output (Sample m)
  other m differs true = refl
  other m differs false = ap (λ t. if t then Some (Bits (sample_of names value s.signal)) else sampled names (take n signals) value before (Sample m)) (sym apart)
    where
      apart : (m == n) ≡ false
      apart = grind (arith, nat_tests)

  chosen : (output : Bool) → is_output s.signal.direction ≡ output → sampled_at names value (Some s) before n (Sample n) ≡ (if output then before (Sample n) else Some (Bits (sample_of names value s.signal)))
  chosen true e = ap (λ t. (if t then before else (λ l. Some (Bits (sample_of names value s.signal)))) (Sample n)) e
  chosen false e = ap (λ t. (if t then before else (λ l. Some (Bits (sample_of names value s.signal)))) (Sample n)) e

  each : (output : Bool) → is_output s.signal.direction ≡ output → (l : Loc) → sampled names (take (suc n) signals) value before l ≡ with_sample output l
  each output e (Global m) = variable_kept m output
  each output e (Sample m) = by (eqb_tells m n)
    where
      by : (((m == n) ≡ true) × (m ≡ n)) ⊎ (((m == n) ≡ false) × (m ≢ n)) → sampled names (take (suc n) signals) value before (Sample m) ≡ with_sample output (Sample m)
      by (inl its) =
          ap (λ k. sampled_at names value (slice_get (take (suc n) signals) k) before k (Sample k)) its.1
          ∙ ap (λ o. sampled_at names value o before n (Sample n)) (at_end signals n s is)
          ∙ chosen output e
          ∙ this output e
          ∙ ap (λ k. with_sample output (Sample k)) (sym its.1)
      by (inr apart) =
          ap (λ o. sampled_at names value o before m (Sample m)) (elsewhere signals n m apart.1)
          ∙ other m apart.1 output

  pub sampled_next : sampled names (take (suc n) signals) value before ≡ sample_taken value (signal_nets names s.signal) n (sampled names (take n signals) value before)
  sampled_next = λ i l. each (is_output s.signal.direction) refl l i

pub sampled_more : (names : List (List ℕ)) (signals : List NamedSignal) (value : ℕ → Bit3) (before : Contents) (n : ℕ) (s : NamedSignal) → slice_get signals n ≡ Some s → sampled names (take (n + 1) signals) value before ≡ sample_taken value (signal_nets names s.signal) n (sampled names (take n signals) value before)
sampled_more names signals value before n s is =
    let next : n + 1 ≡ suc n = omega arith in
    ap (λ m. sampled names (take m signals) value before) next ∙ sampled_next names signals value before n s is

pub sampled_all : (names : List (List ℕ)) (signals : List NamedSignal) (value : ℕ → Bit3) (before : Contents) (n : ℕ) → length signals ≤ n → sampled names (take n signals) value before ≡ sampled names signals value before
sampled_all names signals value before n past = ap (λ (ss : List NamedSignal). sampled names ss value before) (take_all n signals past)
