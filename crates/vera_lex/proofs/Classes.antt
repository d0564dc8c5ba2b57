-- What a first byte of one kind rules out.
use Rattle.std.proofs.Common.{◌≡◌, ℕ, Bool, true, false}
use Rattle.std.specs.Prelude.{◌==◌}
use Rattle.std.proofs.lemmas.Bool.Decides.{nat_tests}
use Rattle.std.proofs.Common.{arith}
use Rattle.vera_lex.specs.Bytes.{is_blank, is_digit, opens_word}

-- the tests that a first byte fails
pub record Fails (blank word digit hash double single slash : Bool) (b : ℕ) : Type 0 where
  pub is_blank : is_blank b ≡ blank
  pub is_word : opens_word b ≡ word
  pub is_digit : is_digit b ≡ digit
  pub is_hash : (b == 35) ≡ hash
  pub is_double : (b == 34) ≡ double
  pub is_single : (b == 39) ≡ single
  pub is_slash : (b == 47) ≡ slash

pub blank_byte : (b : ℕ) → is_blank b ≡ true → Fails true false false false false false false b
blank_byte b e = record {
  is_blank = e;
  is_word = grind (arith, nat_tests);
  is_digit = grind (arith, nat_tests);
  is_hash = grind (arith, nat_tests);
  is_double = grind (arith, nat_tests);
  is_single = grind (arith, nat_tests);
  is_slash = grind (arith, nat_tests);
}

pub word_byte : (b : ℕ) → opens_word b ≡ true → Fails false true false false false false false b
word_byte b e = record {
  is_blank = grind (arith, nat_tests);
  is_word = e;
  is_digit = grind (arith, nat_tests);
  is_hash = grind (arith, nat_tests);
  is_double = grind (arith, nat_tests);
  is_single = grind (arith, nat_tests);
  is_slash = grind (arith, nat_tests);
}

pub digit_byte : (b : ℕ) → is_digit b ≡ true → Fails false false true false false false false b
digit_byte b e = record {
  is_blank = grind (arith, nat_tests);
  is_word = grind (arith, nat_tests);
  is_digit = e;
  is_hash = grind (arith, nat_tests);
  is_double = grind (arith, nat_tests);
  is_single = grind (arith, nat_tests);
  is_slash = grind (arith, nat_tests);
}
