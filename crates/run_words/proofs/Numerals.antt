-- The numbers among the words.
use Rattle.std.proofs.Common.{◌≡◌, ◌≢◌, ℕ, ◌≤◌, ◌<◌, ◌^◌, Bool, true, false, List, length, get_or, Result, Ok, Err, Some, None, refl, ap, ◌∙◌, subst, arith}
use Rattle.std.specs.Str.{all_ascii_digits}
use Rattle.std.specs.Str.Parse.{ParsesUnsigned, digits_value}
use Rattle.std.specs.Result.{OkIff}
use Rattle.std.proofs.lemmas.Grind.{common_steps}
use Rattle.std.proofs.lemmas.Str.Parse.{IsNumeralModel, numerals_by_value, tells_all_ascii_digits, parse_plain, digits_value_short}
use Rattle.run_words.specs.Words.{number_of}

model : IsNumeralModel (λ ds. all_ascii_digits ds ≡ true) (digits_value 10)
model = numerals_by_value _ tells_all_ascii_digits

of_digits : (bs : List ℕ) → 1 ≤ length bs → length bs ≤ 10 → all_ascii_digits bs ≡ true → Some (digits_value 10 bs) ≡ number_of bs
of_digits bs some few all = grind (arith, common_steps)

none_for : (bs : List ℕ) → all_ascii_digits bs ≡ false → None ≡ number_of bs
none_for bs others = grind (arith, common_steps)

of_others : (bs : List ℕ) (b : Bool) → all_ascii_digits bs ≡ b → (b ≡ true → ⊥) → None ≡ number_of bs
of_others bs true e never = absurd (never refl)
of_others bs false e _ = none_for bs e

module _ {E : Type 0} (bs : List ℕ) (some : 1 ≤ length bs) (few : length bs ≤ 10) (no_plus : get_or bs 0 0 ≢ 43) where
  abbrev Reads : Result ℕ E → Type 0
  Reads r = OkIff r ((all_ascii_digits bs ≡ true) × (0 < length bs) × (digits_value 10 bs < 2 ^ 64)) (digits_value 10 bs)

  -- the answer of `parse` at a word with no sign
  reads : (r : Result ℕ E) → ParsesUnsigned 64 10 bs r → Reads r
  reads r h = parse_plain model 64 bs r h no_plus

  pub number_read : (n : ℕ) (r : Result ℕ E) → ParsesUnsigned 64 10 bs r → r ≡ Ok n → Some n ≡ number_of bs
  number_read n r h is =
      let k : Reads (Ok n) = subst Reads is (reads r h) in
      ap Some k.1 ∙ of_digits bs some few k.0.0

  pub no_number_read : (e : E) (r : Result ℕ E) → ParsesUnsigned 64 10 bs r → r ≡ Err e → None ≡ number_of bs
  no_number_read e r h is =
      let k : Reads (Err e) = subst Reads is (reads r h) in
      of_others bs (all_ascii_digits bs) refl (λ all. k (all, some, omega (arith, digits_value_short model bs 10 all few)))
