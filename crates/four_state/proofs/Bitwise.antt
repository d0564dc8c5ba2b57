-- Operators bit by bit, on words.
use Rattle.std.proofs.Common.{◌≡◌, ℕ, zero, suc, ◌+◌, ◌-◌, ◌/◌, ◌%◌, ◌^◌, ◌<◌, List, length, map, refl, ap, sym, ◌∙◌, arith, bit_and, bit_or, bit_xor, min, max}
use Rattle.std.specs.Int.{w128, bit_at}
use Rattle.std.proofs.Math.Nat.{lt_of_le_of_lt}
use Rattle.std.proofs.lemmas.Nat.{and_le_l, and_le_r, or_lt, xor_lt, pow_pos}
use Rattle.std.proofs.lemmas.Nat.Bits.{bit_at_and, bit_at_or, bit_at_xor, bit_at_not, bit_at-lt, bit_at_lowest, bit_at-suc, bit_at_ones}
use Rattle.four_state.specs.Bitwise.{and_bit, or_bit, xor_bit, not_bit, each_pair, and_of, or_of, xor_of, xnor_of, not_of}
use Rattle.four_state.specs.Fields.{AreWords}
use Rattle.four_state.specs.Words.{bit_of, bits_of}
use Rattle.four_state.specs.WordsBack.{length-bits_of}
use Rattle.four_state.specs.declared.bit.Bit.{Bit}
use Rattle.four_state.proofs.Extending.{below_wider}

-- two lists of words, bit by bit
pub pairs_of_words : (op : Bit → Bit → Bit) (w o u o' u' O U : ℕ) → ((i : ℕ) → i < w → bit_of (bit_at O i) (bit_at U i) ≡ op (bit_of (bit_at o i) (bit_at u i)) (bit_of (bit_at o' i) (bit_at u' i))) → bits_of w O U ≡ each_pair op (bits_of w o u) (bits_of w o' u')
unfolding bits_of each_pair
pairs_of_words op zero o u o' u' O U each = refl
pairs_of_words op (suc w) o u o' u' O U each =
    let first : bit_of (O % 2) (U % 2) ≡ op (bit_of (o % 2) (u % 2)) (bit_of (o' % 2) (u' % 2)) =
    rw (bit_at_lowest O, bit_at_lowest U, bit_at_lowest o, bit_at_lowest u, bit_at_lowest o', bit_at_lowest u') at (each 0 (omega arith)) in
    let rest = pairs_of_words op w (o / 2) (u / 2) (o' / 2) (u' / 2) (O / 2) (U / 2) (λ i h.
    rw (bit_at-suc O i, bit_at-suc U i, bit_at-suc o i, bit_at-suc u i, bit_at-suc o' i, bit_at-suc u' i) at (each (suc i) (omega arith))) in
    rw (first, rest)

pub map_of_words : (op : Bit → Bit) (w o u O U : ℕ) → ((i : ℕ) → i < w → bit_of (bit_at O i) (bit_at U i) ≡ op (bit_of (bit_at o i) (bit_at u i))) → bits_of w O U ≡ map op (bits_of w o u)
unfolding bits_of
map_of_words op zero o u O U each = refl
map_of_words op (suc w) o u O U each =
    let first : bit_of (O % 2) (U % 2) ≡ op (bit_of (o % 2) (u % 2)) =
    rw (bit_at_lowest O, bit_at_lowest U, bit_at_lowest o, bit_at_lowest u) at (each 0 (omega arith)) in
    let rest = map_of_words op w (o / 2) (u / 2) (O / 2) (U / 2) (λ i h.
    rw (bit_at-suc O i, bit_at-suc U i, bit_at-suc o i, bit_at-suc u i) at (each (suc i) (omega arith))) in
    rw (first, rest)

-- each of four digits is 0 or 1
pub by_digits : (P : ℕ → ℕ → ℕ → ℕ → Type 0) → P 0 0 0 0 → P 0 0 0 1 → P 0 0 1 0 → P 0 0 1 1 → P 0 1 0 0 → P 0 1 0 1 → P 0 1 1 0 → P 0 1 1 1 → P 1 0 0 0 → P 1 0 0 1 → P 1 0 1 0 → P 1 0 1 1 → P 1 1 0 0 → P 1 1 0 1 → P 1 1 1 0 → P 1 1 1 1 → (d e d' e' : ℕ) → d < 2 → e < 2 → d' < 2 → e' < 2 → P d e d' e'
by_digits P p0000 p0001 p0010 p0011 p0100 p0101 p0110 p0111 p1000 p1001 p1010 p1011 p1100 p1101 p1110 p1111 zero zero zero zero _ _ _ _ = p0000
by_digits P p0000 p0001 p0010 p0011 p0100 p0101 p0110 p0111 p1000 p1001 p1010 p1011 p1100 p1101 p1110 p1111 zero zero zero (suc zero) _ _ _ _ = p0001
by_digits P p0000 p0001 p0010 p0011 p0100 p0101 p0110 p0111 p1000 p1001 p1010 p1011 p1100 p1101 p1110 p1111 zero zero (suc zero) zero _ _ _ _ = p0010
by_digits P p0000 p0001 p0010 p0011 p0100 p0101 p0110 p0111 p1000 p1001 p1010 p1011 p1100 p1101 p1110 p1111 zero zero (suc zero) (suc zero) _ _ _ _ = p0011
by_digits P p0000 p0001 p0010 p0011 p0100 p0101 p0110 p0111 p1000 p1001 p1010 p1011 p1100 p1101 p1110 p1111 zero (suc zero) zero zero _ _ _ _ = p0100
by_digits P p0000 p0001 p0010 p0011 p0100 p0101 p0110 p0111 p1000 p1001 p1010 p1011 p1100 p1101 p1110 p1111 zero (suc zero) zero (suc zero) _ _ _ _ = p0101
by_digits P p0000 p0001 p0010 p0011 p0100 p0101 p0110 p0111 p1000 p1001 p1010 p1011 p1100 p1101 p1110 p1111 zero (suc zero) (suc zero) zero _ _ _ _ = p0110
by_digits P p0000 p0001 p0010 p0011 p0100 p0101 p0110 p0111 p1000 p1001 p1010 p1011 p1100 p1101 p1110 p1111 zero (suc zero) (suc zero) (suc zero) _ _ _ _ = p0111
by_digits P p0000 p0001 p0010 p0011 p0100 p0101 p0110 p0111 p1000 p1001 p1010 p1011 p1100 p1101 p1110 p1111 (suc zero) zero zero zero _ _ _ _ = p1000
by_digits P p0000 p0001 p0010 p0011 p0100 p0101 p0110 p0111 p1000 p1001 p1010 p1011 p1100 p1101 p1110 p1111 (suc zero) zero zero (suc zero) _ _ _ _ = p1001
by_digits P p0000 p0001 p0010 p0011 p0100 p0101 p0110 p0111 p1000 p1001 p1010 p1011 p1100 p1101 p1110 p1111 (suc zero) zero (suc zero) zero _ _ _ _ = p1010
by_digits P p0000 p0001 p0010 p0011 p0100 p0101 p0110 p0111 p1000 p1001 p1010 p1011 p1100 p1101 p1110 p1111 (suc zero) zero (suc zero) (suc zero) _ _ _ _ = p1011
by_digits P p0000 p0001 p0010 p0011 p0100 p0101 p0110 p0111 p1000 p1001 p1010 p1011 p1100 p1101 p1110 p1111 (suc zero) (suc zero) zero zero _ _ _ _ = p1100
by_digits P p0000 p0001 p0010 p0011 p0100 p0101 p0110 p0111 p1000 p1001 p1010 p1011 p1100 p1101 p1110 p1111 (suc zero) (suc zero) zero (suc zero) _ _ _ _ = p1101
by_digits P p0000 p0001 p0010 p0011 p0100 p0101 p0110 p0111 p1000 p1001 p1010 p1011 p1100 p1101 p1110 p1111 (suc zero) (suc zero) (suc zero) zero _ _ _ _ = p1110
by_digits P p0000 p0001 p0010 p0011 p0100 p0101 p0110 p0111 p1000 p1001 p1010 p1011 p1100 p1101 p1110 p1111 (suc zero) (suc zero) (suc zero) (suc zero) _ _ _ _ = p1111
by_digits P p0000 p0001 p0010 p0011 p0100 p0101 p0110 p0111 p1000 p1001 p1010 p1011 p1100 p1101 p1110 p1111 (suc (suc d)) e d' e' h _ _ _ = absurd (omega arith)
by_digits P p0000 p0001 p0010 p0011 p0100 p0101 p0110 p0111 p1000 p1001 p1010 p1011 p1100 p1101 p1110 p1111 d (suc (suc e)) d' e' _ h _ _ = absurd (omega arith)
by_digits P p0000 p0001 p0010 p0011 p0100 p0101 p0110 p0111 p1000 p1001 p1010 p1011 p1100 p1101 p1110 p1111 d e (suc (suc d')) e' _ _ h _ = absurd (omega arith)
by_digits P p0000 p0001 p0010 p0011 p0100 p0101 p0110 p0111 p1000 p1001 p1010 p1011 p1100 p1101 p1110 p1111 d e d' (suc (suc e')) _ _ _ h = absurd (omega arith)

-- the words that each operator makes
abbrev pub and_unknown : ℕ → ℕ → ℕ → ℕ → ℕ
and_unknown o u o' u' = bit_and (bit_and (bit_or o u) (bit_or o' u')) (bit_or u u')

abbrev pub and_ones : ℕ → ℕ → ℕ → ℕ → ℕ
and_ones o u o' u' = bit_and (bit_and (bit_or o u) (bit_or o' u')) (2 ^ 128 - 1 - and_unknown o u o' u')

abbrev pub or_ones : ℕ → ℕ → ℕ → ℕ → ℕ
or_ones o u o' u' = bit_or (bit_and o (2 ^ 128 - 1 - u)) (bit_and o' (2 ^ 128 - 1 - u'))

abbrev pub or_unknown : ℕ → ℕ → ℕ → ℕ → ℕ
or_unknown o u o' u' = bit_and (bit_or u u') (2 ^ 128 - 1 - or_ones o u o' u')

abbrev pub xor_ones : ℕ → ℕ → ℕ → ℕ → ℕ
xor_ones o u o' u' = bit_and (bit_xor o o') (2 ^ 128 - 1 - bit_or u u')

abbrev pub xnor_ones : ℕ → ℕ → ℕ → ℕ → ℕ → ℕ
xnor_ones m o u o' u' = bit_and (bit_and (2 ^ 128 - 1 - bit_xor o o') (2 ^ 128 - 1 - bit_or u u')) m

-- the same, digit by digit
and_digits : (d e d' e' : ℕ) → d < 2 → e < 2 → d' < 2 → e' < 2 → bit_of (min (min (max d e) (max d' e')) (1 - min (min (max d e) (max d' e')) (max e e'))) (min (min (max d e) (max d' e')) (max e e')) ≡ and_bit (bit_of d e) (bit_of d' e')
and_digits = by_digits (λ d e d' e'. bit_of (min (min (max d e) (max d' e')) (1 - min (min (max d e) (max d' e')) (max e e'))) (min (min (max d e) (max d' e')) (max e e')) ≡ and_bit (bit_of d e) (bit_of d' e')) refl refl refl refl refl refl refl refl refl refl refl refl refl refl refl refl

or_digits : (d e d' e' : ℕ) → d < 2 → e < 2 → d' < 2 → e' < 2 → bit_of (max (min d (1 - e)) (min d' (1 - e'))) (min (max e e') (1 - max (min d (1 - e)) (min d' (1 - e')))) ≡ or_bit (bit_of d e) (bit_of d' e')
or_digits = by_digits (λ d e d' e'. bit_of (max (min d (1 - e)) (min d' (1 - e'))) (min (max e e') (1 - max (min d (1 - e)) (min d' (1 - e')))) ≡ or_bit (bit_of d e) (bit_of d' e')) refl refl refl refl refl refl refl refl refl refl refl refl refl refl refl refl

xor_digits : (d e d' e' : ℕ) → d < 2 → e < 2 → d' < 2 → e' < 2 → bit_of (min ((d + d') % 2) (1 - max e e')) (max e e') ≡ xor_bit (bit_of d e) (bit_of d' e')
xor_digits = by_digits (λ d e d' e'. bit_of (min ((d + d') % 2) (1 - max e e')) (max e e') ≡ xor_bit (bit_of d e) (bit_of d' e')) refl refl refl refl refl refl refl refl refl refl refl refl refl refl refl refl

xnor_digits : (d e d' e' : ℕ) → d < 2 → e < 2 → d' < 2 → e' < 2 → bit_of (min (min (1 - (d + d') % 2) (1 - max e e')) 1) (max e e') ≡ not_bit (xor_bit (bit_of d e) (bit_of d' e'))
xnor_digits = by_digits (λ d e d' e'. bit_of (min (min (1 - (d + d') % 2) (1 - max e e')) 1) (max e e') ≡ not_bit (xor_bit (bit_of d e) (bit_of d' e'))) refl refl refl refl refl refl refl refl refl refl refl refl refl refl refl refl

not_digits : (d e : ℕ) → d < 2 → e < 2 → bit_of (min (min (1 - d) (1 - e)) 1) e ≡ not_bit (bit_of d e)
not_digits d e h k = by_digits (λ d e _ _. bit_of (min (min (1 - d) (1 - e)) 1) e ≡ not_bit (bit_of d e)) refl refl refl refl refl refl refl refl refl refl refl refl refl refl refl refl d e 0 0 h k (omega arith) (omega arith)

and_fits : (a b k : ℕ) → a < 2 ^ k → bit_and a b < 2 ^ k
and_fits a b k h = lt_of_le_of_lt (and_le_l a b) h

and_fits_r : (a b k : ℕ) → b < 2 ^ k → bit_and a b < 2 ^ k
and_fits_r a b k h = lt_of_le_of_lt (and_le_r a b) h

-- each bit of a word turned
pub bit_at_flip : (n i : ℕ) → n < 2 ^ 128 → i < 128 → bit_at (2 ^ 128 - 1 - n) i ≡ 1 - bit_at n i
bit_at_flip n i h k = bit_at_not w128 n i h k

-- ~ on words
module _ (w o u : ℕ) (a : List Bit) (words : AreWords w o u) (is : bits_of w o u ≡ a) where
  pub not_bits : (m : ℕ) → m ≡ 2 ^ w - 1 → bits_of w (bit_and (bit_and (2 ^ 128 - 1 - o) (2 ^ 128 - 1 - u)) m) u ≡ not_of a
  unfolding not_of
  not_bits m e = rw (← is, e) (map_of_words not_bit w o u _ u (λ i h.
      let within : i < 128 = omega (arith, words.high) in
      rw (bit_at_and (bit_and (2 ^ 128 - 1 - o) (2 ^ 128 - 1 - u)) (2 ^ w - 1) i, bit_at_and (2 ^ 128 - 1 - o) (2 ^ 128 - 1 - u) i, bit_at_ones w i h, bit_at_flip o i (below_wider o w 128 words.ones_fit words.high) within, bit_at_flip u i (below_wider u w 128 words.unknown_fit words.high) within)
      (not_digits (bit_at o i) (bit_at u i) (bit_at-lt o i) (bit_at-lt u i))))

-- two vectors of one width
module _ (w o u w' o' u' : ℕ) (a b : List Bit) (words : AreWords w o u) (words' : AreWords w' o' u') (is : bits_of w o u ≡ a) (is' : bits_of w' o' u' ≡ b) (widths : length a ≡ length b) where
  pub same_width : w' ≡ w
  same_width = sym (length-bits_of w' o' u') ∙ ap (λ bits. length bits) is' ∙ sym widths ∙ ap (λ bits. length bits) (sym is) ∙ length-bits_of w o u

  ones_fit : o' < 2 ^ w
  ones_fit = rw same_width at words'.ones_fit

  unknown_fit : u' < 2 ^ w
  unknown_fit = rw same_width at words'.unknown_fit

  by_pairs : (op : Bit → Bit → Bit) (O U : ℕ) → ((i : ℕ) → i < w → bit_of (bit_at O i) (bit_at U i) ≡ op (bit_of (bit_at o i) (bit_at u i)) (bit_of (bit_at o' i) (bit_at u' i))) → bits_of w O U ≡ each_pair op a b
  by_pairs op O U each = rw (← is, ← is', same_width) (pairs_of_words op w o u o' u' O U each)

  -- a digit's turn
  turned : (n i : ℕ) → n < 2 ^ w → i < w → bit_at (2 ^ 128 - 1 - n) i ≡ 1 - bit_at n i
  turned n i h k = bit_at_flip n i (below_wider n w 128 h words.high) (omega (arith, words.high))

  may_fit : bit_and (bit_or o u) (bit_or o' u') < 2 ^ w
  may_fit = and_fits _ _ w (or_lt w o u words.ones_fit words.unknown_fit)

  pub and_words : AreWords w (and_ones o u o' u') (and_unknown o u o' u')
  and_words = record {
    low = words.low;
    high = words.high;
    ones_fit = and_fits _ _ w may_fit;
    unknown_fit = and_fits _ _ w may_fit;
  }

  pub and_bits : bits_of w (and_ones o u o' u') (and_unknown o u o' u') ≡ and_of a b
  and_bits = by_pairs and_bit _ _ (λ i h.
      rw (bit_at_and (bit_and (bit_or o u) (bit_or o' u')) (2 ^ 128 - 1 - and_unknown o u o' u') i, turned (and_unknown o u o' u') i and_words.unknown_fit h)
      (simp (bit_at_and, bit_at_or) (and_digits (bit_at o i) (bit_at u i) (bit_at o' i) (bit_at u' i) (bit_at-lt o i) (bit_at-lt u i) (bit_at-lt o' i) (bit_at-lt u' i))))

  pub or_words : AreWords w (or_ones o u o' u') (or_unknown o u o' u')
  or_words = record {
    low = words.low;
    high = words.high;
    ones_fit = or_lt w _ _ (and_fits _ _ w words.ones_fit) (and_fits _ _ w ones_fit);
    unknown_fit = and_fits _ _ w (or_lt w u u' words.unknown_fit unknown_fit);
  }

  pub or_bits : bits_of w (or_ones o u o' u') (or_unknown o u o' u') ≡ or_of a b
  or_bits = by_pairs or_bit _ _ (λ i h.
      rw (bit_at_and (bit_or u u') (2 ^ 128 - 1 - or_ones o u o' u') i, turned (or_ones o u o' u') i or_words.ones_fit h)
      (simp (bit_at_and, bit_at_or) (rw (turned u i words.unknown_fit h, turned u' i unknown_fit h)
      (or_digits (bit_at o i) (bit_at u i) (bit_at o' i) (bit_at u' i) (bit_at-lt o i) (bit_at-lt u i) (bit_at-lt o' i) (bit_at-lt u' i)))))

  pub xor_words : AreWords w (xor_ones o u o' u') (bit_or u u')
  xor_words = record {
    low = words.low;
    high = words.high;
    ones_fit = and_fits _ _ w (xor_lt w o o' words.ones_fit ones_fit);
    unknown_fit = or_lt w u u' words.unknown_fit unknown_fit;
  }

  pub xor_bits : bits_of w (xor_ones o u o' u') (bit_or u u') ≡ xor_of a b
  xor_bits = by_pairs xor_bit _ _ (λ i h.
      rw (bit_at_and (bit_xor o o') (2 ^ 128 - 1 - bit_or u u') i, turned (bit_or u u') i xor_words.unknown_fit h, bit_at_xor o o' i, bit_at_or u u' i)
      (xor_digits (bit_at o i) (bit_at u i) (bit_at o' i) (bit_at u' i) (bit_at-lt o i) (bit_at-lt u i) (bit_at-lt o' i) (bit_at-lt u' i)))

  pub xnor_words : (m : ℕ) → m ≡ 2 ^ w - 1 → AreWords w (xnor_ones m o u o' u') (bit_or u u')
  xnor_words m e = record {
    low = words.low;
    high = words.high;
    ones_fit = and_fits_r _ m w (let p = pow_pos w in rw e (omega arith));
    unknown_fit = or_lt w u u' words.unknown_fit unknown_fit;
  }

  pub xnor_bits : (m : ℕ) → m ≡ 2 ^ w - 1 → bits_of w (xnor_ones m o u o' u') (bit_or u u') ≡ xnor_of a b
  xnor_bits m e = rw e (by_pairs (λ x y. not_bit (xor_bit x y)) _ _ (λ i h.
      rw (bit_at_and (bit_and (2 ^ 128 - 1 - bit_xor o o') (2 ^ 128 - 1 - bit_or u u')) (2 ^ w - 1) i, bit_at_and (2 ^ 128 - 1 - bit_xor o o') (2 ^ 128 - 1 - bit_or u u') i, bit_at_ones w i h, turned (bit_xor o o') i (xor_lt w o o' words.ones_fit ones_fit) h, turned (bit_or u u') i xor_words.unknown_fit h, bit_at_xor o o' i, bit_at_or u u' i)
      (xnor_digits (bit_at o i) (bit_at u i) (bit_at o' i) (bit_at u' i) (bit_at-lt o i) (bit_at-lt u i) (bit_at-lt o' i) (bit_at-lt u' i))))
