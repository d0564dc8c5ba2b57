-- Literals in base 10.
use Rattle.std.proofs.Common.{◌≡◌, ℕ, suc, ◌+◌, ◌-◌, ◌*◌, ◌^◌, ◌<◌, ◌≤◌, Bool, true, false, ◌&&◌, cond, nat_lt, List, [], ◌∷◌, length, drop, replicate, refl, ap, sym, ◌∙◌, arith, Option, Some, None, option_map, add-one, get_or}
use Rattle.std.specs.Char.{digit_value, is_digit}
use Rattle.std.specs.List.{list_all}
use Rattle.std.proofs.lemmas.Bool.{lt-ltb, le-ltb, ltb-true, ltb-false, and_right}
use Rattle.std.proofs.Math.Nat.{le_refl}
use Rattle.std.proofs.Math.Seq.{drop-length}
use Rattle.four_state.specs.Bits.{all_x}
use Rattle.four_state.specs.Literals.{is_x, is_z, plain_digits, decimal_number, decimal_literal}
use Rattle.four_state.specs.Numbers.{vector_of}
use Rattle.four_state.specs.Readings.{only_of, decimal_step}
use Rattle.std.specs.Str.Parse.{digits_value_after}
use Rattle.four_state.specs.Words.{bits_of}
use Rattle.four_state.specs.declared.bit.Bit.{Bit}
use Rattle.four_state.specs.declared.bit.Bit.TheVariants.{Z}
use Rattle.four_state.proofs.Extending.{bits_of-replicate}
use Rattle.four_state.proofs.LiteralReads.{plain_skip, plain_take}

pub bits_of-z : (w m : ℕ) → m ≡ 2 ^ w - 1 → bits_of w m m ≡ replicate w Z
bits_of-z w m e =
    let one : 1 * (2 ^ w - 1) ≡ 2 ^ w - 1 = omega arith in
    rw e (rw one at (bits_of-replicate w 1 1 (omega arith) (omega arith)))

-- the number of the digits behind those of n
pub decimal_after : ℕ → List ℕ → Option ℕ
decimal_after n digits =
    cond (list_all (λ c. is_digit c 10) digits && nat_lt (digits_value_after 10 n digits) (2 ^ 128)) (Some (digits_value_after 10 n digits)) None

pub decimal_none : (digits : List ℕ) → decimal_after 0 (plain_digits (drop 0 digits)) ≡ decimal_number (plain_digits digits)
unfolding decimal_after decimal_number
decimal_none digits = refl

pub decimal_skip : (digits : List ℕ) (place digit n : ℕ) (r : Option ℕ) → decimal_after n (plain_digits (drop place digits)) ≡ r → place < length digits → get_or digits place 0 ≡ digit → digit ≡ 95 → decimal_after n (plain_digits (drop (place + 1) digits)) ≡ r
decimal_skip digits place digit n r e h at_place skip = rw (add-one, ← plain_skip digits place digit h at_place skip) e

decimal_cons : (n c m : ℕ) (rest : List ℕ) → decimal_step c n ≡ Some m → decimal_after n (c ∷ rest) ≡ decimal_after m rest
unfolding decimal_after
decimal_cons n c m rest e = by_test (is_digit c 10) (nat_lt (n * 10 + digit_value c) (2 ^ 128)) e
  where
    by_test : (d s : Bool) → cond {A = Option ℕ} (d && s) (Some (n * 10 + digit_value c)) None ≡ Some m → cond {A = Option ℕ} ((d && list_all (λ c. is_digit c 10) rest) && nat_lt (digits_value_after 10 (n * 10 + digit_value c) rest) (2 ^ 128)) (Some (digits_value_after 10 (n * 10 + digit_value c) rest)) None ≡ decimal_after m rest
    by_test true true e = let f : n * 10 + digit_value c ≡ m = cc in rw f
    by_test true false e = cc
    by_test false s e = cc

-- numbers don't fall
value_after-ge : (n : ℕ) (digits : List ℕ) → n ≤ digits_value_after 10 n digits
value_after-ge n [] = le_refl n
value_after-ge n (c ∷ rest) = let h = value_after-ge (n * 10 + digit_value c) rest in omega arith

decimal_stuck : (n c : ℕ) (rest : List ℕ) → decimal_step c n ≡ None → decimal_after n (c ∷ rest) ≡ None
unfolding decimal_after
decimal_stuck n c rest e = by_test (is_digit c 10) refl e
  where
    past : nat_lt (n * 10 + digit_value c) (2 ^ 128) ≡ false → nat_lt (digits_value_after 10 (n * 10 + digit_value c) rest) (2 ^ 128) ≡ false
    past h =
        let more = value_after-ge (n * 10 + digit_value c) rest in
        let over = ltb-false (n * 10 + digit_value c) (2 ^ 128) h in
        le-ltb (digits_value_after 10 (n * 10 + digit_value c) rest) (2 ^ 128) (omega arith)

    over_all : (a s : Bool) → s ≡ false → (a && s) ≡ false
    over_all a s h = and_right a s h

    by_test : (d : Bool) → is_digit c 10 ≡ d → cond {A = Option ℕ} (d && nat_lt (n * 10 + digit_value c) (2 ^ 128)) (Some (n * 10 + digit_value c)) None ≡ None → cond {A = Option ℕ} ((d && list_all (λ c. is_digit c 10) rest) && nat_lt (digits_value_after 10 (n * 10 + digit_value c) rest) (2 ^ 128)) (Some (digits_value_after 10 (n * 10 + digit_value c) rest)) None ≡ None
    by_test false f e = refl
    by_test true f e = rw (over_all (list_all (λ c. is_digit c 10) rest) _ (past (tested (nat_lt (n * 10 + digit_value c) (2 ^ 128)) e)))
      where
        tested : (s : Bool) → cond {A = Option ℕ} s (Some (n * 10 + digit_value c)) None ≡ None → s ≡ false
        tested true e = cc
        tested false e = refl

pub decimal_more : (digits : List ℕ) (place digit n m : ℕ) (r : Option ℕ) → decimal_after n (plain_digits (drop place digits)) ≡ r → place < length digits → get_or digits place 0 ≡ digit → (digit ≡ 95 → ⊥) → decimal_step digit n ≡ Some m → decimal_after m (plain_digits (drop (place + 1) digits)) ≡ r
decimal_more digits place digit n m r e h at_place keep step =
    rw (add-one, ← decimal_cons n digit m (plain_digits (drop (suc place) digits)) step, ← plain_take digits place digit h at_place keep) e

pub decimal_fails : (digits : List ℕ) (place digit n : ℕ) (r : Option ℕ) → decimal_after n (plain_digits (drop place digits)) ≡ r → place < length digits → get_or digits place 0 ≡ digit → (digit ≡ 95 → ⊥) → decimal_step digit n ≡ None → None ≡ r
decimal_fails digits place digit n r e h at_place keep step =
    sym (decimal_stuck n digit (plain_digits (drop (suc place) digits)) step) ∙ (rw (plain_take digits place digit h at_place keep) at e)

pub decimal_all : (digits : List ℕ) (place n : ℕ) (r : Option ℕ) → decimal_after n (plain_digits (drop place digits)) ≡ r → place ≡ length digits → n < 2 ^ 128 → Some n ≡ r
unfolding decimal_after
decimal_all digits place n r e h fits = rw (h, drop-length digits, lt-ltb n (2 ^ 128) fits) at e

-- a single digit
only_is : (digits : List ℕ) (c : ℕ) → only_of digits ≡ Some c → digits ≡ c ∷ []
only_is [] c e = cc
only_is (x ∷ []) c e = let f : x ≡ c = cc in ap (λ y. y ∷ []) f
only_is (x ∷ y ∷ rest) c e = cc

pub decimal_single : (width c : ℕ) (digits : List ℕ) (r : Option (List Bit)) → only_of digits ≡ Some c → r ≡ decimal_literal width (c ∷ []) → r ≡ decimal_literal width digits
decimal_single width c digits r e value = rw (only_is digits c e) value

pub decimal_plain : (width : ℕ) (digits : List ℕ) → only_of digits ≡ None → option_map (vector_of width) (decimal_number digits) ≡ decimal_literal width digits
unfolding decimal_literal
decimal_plain width [] e = refl
decimal_plain width (x ∷ []) e = cc
decimal_plain width (x ∷ y ∷ rest) e = refl

-- one digit more stays below 2 ^ 128
pub step_small : (c n m : ℕ) → decimal_step c n ≡ Some m → m < 2 ^ 128
step_small c n m e = by_test (is_digit c 10) (nat_lt (n * 10 + digit_value c) (2 ^ 128)) refl e
  where
    by_test : (d s : Bool) → nat_lt (n * 10 + digit_value c) (2 ^ 128) ≡ s → cond {A = Option ℕ} (d && s) (Some (n * 10 + digit_value c)) None ≡ Some m → m < 2 ^ 128
    by_test true true f e = let g : n * 10 + digit_value c ≡ m = cc in rw g at (ltb-true (n * 10 + digit_value c) (2 ^ 128) f)
    by_test true false f e = cc
    by_test false s f e = cc

-- one digit
decimal_one : (c : ℕ) → decimal_step c 0 ≡ decimal_number (c ∷ [])
unfolding decimal_number
decimal_one c = by_test (is_digit c 10)
  where
    by_test : (d : Bool) → cond {A = Option ℕ} (d && nat_lt (0 * 10 + digit_value c) (2 ^ 128)) (Some (0 * 10 + digit_value c)) None ≡ cond ((d && true) && nat_lt (0 * 10 + digit_value c) (2 ^ 128)) (Some (0 * 10 + digit_value c)) None
    by_test true = refl
    by_test false = refl

-- one x, z or decimal digit
module _ (width c : ℕ) where
  pub single_x : (r : List Bit) → is_x c ≡ true → r ≡ all_x width → Some r ≡ decimal_literal width (c ∷ [])
  unfolding decimal_literal
  single_x r h value = rw h (ap Some value)

  pub single_z : (r : List Bit) → is_x c ≡ false → is_z c ≡ true → r ≡ replicate width Z → Some r ≡ decimal_literal width (c ∷ [])
  unfolding decimal_literal
  single_z r h k value = rw (h, k) (ap Some value)

  pub single_number : (r : Option (List Bit)) → is_x c ≡ false → is_z c ≡ false → r ≡ option_map (vector_of width) (decimal_step c 0) → r ≡ decimal_literal width (c ∷ [])
  unfolding decimal_literal
  single_number r h k value = rw (h, k) (value ∙ ap (λ o. option_map (vector_of width) o) (decimal_one c))
