-- Bits and groups of four bits, as words.
use Rattle.std.proofs.Common.{◌≡◌, ℕ, zero, suc, ◌+◌, ◌-◌, ◌*◌, ◌/◌, ◌%◌, ◌^◌, ◌<◌, ◌≤◌, Bool, true, false, ◌&&◌, nat_eq, cond, List, [], ◌∷◌, ◌++◌, length, get_or, slice_get, reverse, drop, map, min, refl, ap, sym, ◌∙◌, arith, bit_and, Some}
use Rattle.std.specs.Int.{bit_at}
use Rattle.std.specs.Fmt.{digit_glyph}
use Rattle.std.specs.List.{list_all}
use Rattle.std.proofs.lemmas.Option.{slice_get-get_or}
use Rattle.std.proofs.lemmas.Nat.{and_mask, shr-shr}
use Rattle.std.proofs.lemmas.Nat.Bits.{shr_and_one, bit_at-lt}
use Rattle.std.proofs.lemmas.Bool.{ne_eqb}
use Rattle.std.proofs.lemmas.Grind.{reverse_onto}
use Rattle.std.proofs.Math.Nat.{le_refl}
use Rattle.std.proofs.Math.ListN.{drop_of_length-le}
use Rattle.std.proofs.Math.Seq.{drop-cons}
use Rattle.four_state.specs.Bits.{all_known, bit_eq}
use Rattle.four_state.specs.Fields.{AreWords}
use Rattle.four_state.specs.Texts.{bit_glyph, hex_glyph, hex_digits}
use Rattle.four_state.specs.Words.{bit_of, bits_of}
use Rattle.four_state.specs.declared.bit.Bit.{Bit}
use Rattle.four_state.specs.declared.bit.Bit.TheVariants.{Zero, One, X, Z}
use Rattle.four_state.proofs.Extending.{get_or-bits_of, bits_of-low, half_below}
use Rattle.four_state.proofs.Numbers.{all_known-bits_of, number_of-bits_of}
use Rattle.four_state.proofs.Reductions.{full_step}
use Rattle.four_state.proofs.Shifts.{width_is, upper_within}

-- ---- one bit
abbrev bit_of_flags : Bool → Bool → Bit
bit_of_flags false false = Zero
bit_of_flags false true = One
bit_of_flags true false = X
bit_of_flags true true = Z

flags : (d e : ℕ) → d < 2 → e < 2 → bit_of d e ≡ bit_of_flags (nat_eq e 1) (nat_eq d 1)
flags zero zero h k = refl
flags (suc zero) zero h k = refl
flags zero (suc zero) h k = refl
flags (suc zero) (suc zero) h k = refl
flags (suc (suc d)) e h k = absurd (omega arith)
flags d (suc (suc e)) h k = absurd (omega arith)

pub bit_read : (w o u : ℕ) (bits : List Bit) → AreWords w o u → bits_of w o u ≡ bits → (i : ℕ) → i < length bits → (unknown one : Bool) → nat_eq (bit_and (u / 2 ^ i) 1) 1 ≡ unknown → nat_eq (bit_and (o / 2 ^ i) 1) 1 ≡ one → slice_get bits i ≡ Some (bit_of_flags unknown one)
bit_read w o u bits words is i h unknown one eu eo =
    let within = upper_within w o u bits words is i h in
    let read = slice_get-get_or bits i Zero h in
    let at_place = get_or-bits_of w o u i Zero within in
    read ∙ ap Some (rw is at at_place ∙ flags (bit_at o i) (bit_at u i) (bit_at-lt o i) (bit_at-lt u i) ∙ rw (← shr_and_one u i, ← shr_and_one o i, eu, eo))

-- ---- groups of four bits
next_group : (n g : ℕ) → n / 2 / 2 / 2 / 2 / 2 ^ (4 * g) ≡ n / 2 ^ (4 * suc g)
next_group n g =
    let e : n / 2 / 2 / 2 / 2 ≡ n / 2 ^ 4 = omega arith in
    let f : 4 + 4 * g ≡ 4 * suc g = omega arith in
    rw (e, shr-shr n 4 (4 * g), f)

-- the digit of the group at a place
hex_place : (g w o u : ℕ) → o < 2 ^ w → u < 2 ^ w → 4 * g < w → get_or (hex_digits (bits_of w o u)) g 0 ≡ hex_glyph (bits_of 4 (o / 2 ^ (4 * g)) (u / 2 ^ (4 * g)))
unfolding hex_digits bits_of
hex_place g zero o u ho hu h = absurd (omega arith)
hex_place zero (suc zero) o u ho hu h =
    let e : o / 2 ≡ 0 = omega arith in
    let f : u / 2 ≡ 0 = omega arith in
    let e' : o / 2 ^ (4 * 0) ≡ o = omega arith in
    let f' : u / 2 ^ (4 * 0) ≡ u = omega arith in
    rw (e', f', e, f)
hex_place zero (suc (suc zero)) o u ho hu h =
    let e : o / 2 / 2 ≡ 0 = omega arith in
    let f : u / 2 / 2 ≡ 0 = omega arith in
    let e' : o / 2 ^ (4 * 0) ≡ o = omega arith in
    let f' : u / 2 ^ (4 * 0) ≡ u = omega arith in
    rw (e', f', e, f)
hex_place zero (suc (suc (suc zero))) o u ho hu h =
    let e : o / 2 / 2 / 2 ≡ 0 = omega arith in
    let f : u / 2 / 2 / 2 ≡ 0 = omega arith in
    let e' : o / 2 ^ (4 * 0) ≡ o = omega arith in
    let f' : u / 2 ^ (4 * 0) ≡ u = omega arith in
    rw (e', f', e, f)
hex_place zero (suc (suc (suc (suc w)))) o u ho hu h =
    let e' : o / 2 ^ (4 * 0) ≡ o = omega arith in
    let f' : u / 2 ^ (4 * 0) ≡ u = omega arith in
    rw (e', f')
hex_place (suc g) (suc zero) o u ho hu h = absurd (omega arith)
hex_place (suc g) (suc (suc zero)) o u ho hu h = absurd (omega arith)
hex_place (suc g) (suc (suc (suc zero))) o u ho hu h = absurd (omega arith)
hex_place (suc g) (suc (suc (suc (suc w)))) o u ho hu h =
    let higher = hex_place g w (o / 2 / 2 / 2 / 2) (u / 2 / 2 / 2 / 2) (half_below _ w (half_below _ (suc w) (half_below _ (suc (suc w)) (half_below o (suc (suc (suc w))) ho)))) (half_below _ w (half_below _ (suc w) (half_below _ (suc (suc w)) (half_below u (suc (suc (suc w))) hu)))) (omega arith) in
    rw (next_group o g, next_group u g) at higher

-- all bits z
and_swap : (a b c d : Bool) → ((a && b) && (c && d)) ≡ ((a && c) && (b && d))
and_swap true true c d = refl
and_swap true false true d = refl
and_swap true false false d = refl
and_swap false b c d = refl

digit_z : (d e : ℕ) → d < 2 → e < 2 → bit_eq Z (bit_of d e) ≡ (nat_eq d 1 && nat_eq e 1)
digit_z zero zero h k = refl
digit_z (suc zero) zero h k = refl
digit_z zero (suc zero) h k = refl
digit_z (suc zero) (suc zero) h k = refl
digit_z (suc (suc d)) e h k = absurd (omega arith)
digit_z d (suc (suc e)) h k = absurd (omega arith)

all_z : (w o u : ℕ) → o < 2 ^ w → u < 2 ^ w → list_all (bit_eq Z) (bits_of w o u) ≡ (nat_eq o (2 ^ w - 1) && nat_eq u (2 ^ w - 1))
unfolding bits_of
all_z zero o u h k = let e : o ≡ 0 = omega arith in let f : u ≡ 0 = omega arith in rw (e, f)
all_z (suc w) o u h k =
    rw (digit_z (o % 2) (u % 2) (omega arith) (omega arith), all_z w (o / 2) (u / 2) (half_below o w h) (half_below u w k), and_swap)
    (rw (full_step o (o % 2) (o / 2) w (omega arith) (omega arith), full_step u (u % 2) (u / 2) w (omega arith) (omega arith)))

-- the digit of four bits, from the lowest bits of two words
low_group : (a b : ℕ) → bits_of 4 a b ≡ bits_of 4 (bit_and a 15) (bit_and b 15)
low_group a b = rw (and_mask a 4, and_mask b 4) (sym (bits_of-low 4 4 a b (le_refl 4)))

low_fits : (a : ℕ) → bit_and a 15 < 2 ^ 4
low_fits a = rw (and_mask a 4) (omega arith)

module _ (w o u : ℕ) (bits : List Bit) (words : AreWords w o u) (is : bits_of w o u ≡ bits) (g : ℕ) (h : 4 * g < length bits) where
  pub group_within : 4 * g < w
  group_within = let e = width_is w o u bits is in omega arith

  group : get_or (hex_digits bits) g 0 ≡ hex_glyph (bits_of 4 (bit_and (o / 2 ^ (4 * g)) 15) (bit_and (u / 2 ^ (4 * g)) 15))
  group = rw (← is) (hex_place g w o u words.ones_fit words.unknown_fit group_within ∙ ap hex_glyph (low_group (o / 2 ^ (4 * g)) (u / 2 ^ (4 * g))))

  pub group_known : bit_and (u / 2 ^ (4 * g)) 15 ≡ 0 → digit_glyph false (bit_and (o / 2 ^ (4 * g)) 15) ≡ get_or (hex_digits bits) g 0
  unfolding hex_glyph
  group_known none =
      let n = bit_and (o / 2 ^ (4 * g)) 15 in
      let fits = low_fits (o / 2 ^ (4 * g)) in
      let known : all_known (bits_of 4 n 0) ≡ true = all_known-bits_of 4 n 0 (omega arith) in
      sym (group ∙ rw (none, known, number_of-bits_of 4 n fits))

  glyph_unknown : (bit_and (u / 2 ^ (4 * g)) 15 ≡ 0 → ⊥) → get_or (hex_digits bits) g 0 ≡ cond (nat_eq (bit_and (o / 2 ^ (4 * g)) 15) 15 && nat_eq (bit_and (u / 2 ^ (4 * g)) 15) 15) 122 120
  unfolding hex_glyph
  glyph_unknown some =
      let n = bit_and (o / 2 ^ (4 * g)) 15 in
      let m = bit_and (u / 2 ^ (4 * g)) 15 in
      let unknown : all_known (bits_of 4 n m) ≡ false = all_known-bits_of 4 n m (low_fits (u / 2 ^ (4 * g))) ∙ ne_eqb m 0 some in
      group ∙ rw (unknown, all_z 4 n m (low_fits (o / 2 ^ (4 * g))) (low_fits (u / 2 ^ (4 * g))))

  pub group_z : (bit_and (u / 2 ^ (4 * g)) 15 ≡ 0 → ⊥) → bit_and (o / 2 ^ (4 * g)) 15 ≡ 15 → bit_and (u / 2 ^ (4 * g)) 15 ≡ 15 → 122 ≡ get_or (hex_digits bits) g 0
  group_z some eo eu = sym (rw (eo, eu) at (glyph_unknown some))

  pub group_x : (bit_and (u / 2 ^ (4 * g)) 15 ≡ 0 → ⊥) → (nat_eq (bit_and (o / 2 ^ (4 * g)) 15) 15 && nat_eq (bit_and (u / 2 ^ (4 * g)) 15) 15) ≡ false → 120 ≡ get_or (hex_digits bits) g 0
  group_x some other = sym (rw other at (glyph_unknown some))

-- ---- a text built from its end
pub from_end : (xs : List ℕ) (j : ℕ) → j < length xs → reverse (drop (suc j) xs) ++ get_or xs j 0 ∷ [] ≡ reverse (drop j xs)
from_end xs j h = rw (drop-cons xs j 0 h) (sym (reverse_onto (drop (suc j) xs) (get_or xs j 0) []))

-- as many groups as the width has fours, rounded up
pub length-hex_digits : (bits : List Bit) → length (hex_digits bits) ≡ length bits / 4 + min 1 (length bits % 4)
unfolding hex_digits
length-hex_digits [] = refl
length-hex_digits (a ∷ []) = refl
length-hex_digits (a ∷ b ∷ []) = refl
length-hex_digits (a ∷ b ∷ c ∷ []) = refl
length-hex_digits (a ∷ b ∷ c ∷ d ∷ higher) = more (length higher) (length (hex_digits higher)) (length-hex_digits higher)
  where
    more : (n m : ℕ) → m ≡ n / 4 + min 1 (n % 4) → suc m ≡ suc (suc (suc (suc n))) / 4 + min 1 (suc (suc (suc (suc n))) % 4)
    more n m e = omega arith

-- one more digit at the end
pub more_digits : (xs : List ℕ) (place x : ℕ) (items new : List ℕ) → 0 < place → place ≤ length xs → get_or xs (place - 1) 0 ≡ x → items ≡ reverse (drop place xs) → new ≡ items ++ x ∷ [] → new ≡ reverse (drop (place - 1) xs)
more_digits xs zero x items new h k e i n = absurd (omega arith)
more_digits xs (suc place) x items new h k e i n =
    let f : suc place - 1 ≡ place = omega arith in
    rw (n, i, ← e, f) (from_end xs place k)

pub no_digits : (xs : List ℕ) (w : ℕ) → length xs ≤ w → [] ≡ reverse (drop w xs)
no_digits xs w h = rw (drop_of_length-le xs h)

pub glyph_at : (bits : List Bit) (i : ℕ) (b : Bit) → slice_get bits i ≡ Some b → get_or (map bit_glyph bits) i 0 ≡ bit_glyph b
glyph_at [] i b h = cc
glyph_at (x ∷ bits) zero b h = let e : x ≡ b = cc in ap bit_glyph e
glyph_at (x ∷ bits) (suc i) b h = glyph_at bits i b h

pub all_digits : (xs items : List ℕ) (place : ℕ) → place ≤ 0 → items ≡ reverse (drop place xs) → items ≡ reverse xs
all_digits xs items zero h e = e
all_digits xs items (suc place) h e = absurd (omega arith)
