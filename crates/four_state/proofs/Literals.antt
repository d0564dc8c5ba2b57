-- Literals in all bases.
use Rattle.std.proofs.Common.{◌≡◌, ℕ, zero, suc, ◌<◌, ◌≤◌, Bool, true, false, not, ◌&&◌, ◌||◌, cond, nat_eq, nat_le, Any, List, [], ◌∷◌, length, refl, arith, Option, None, get_or}
use Rattle.std.proofs.lemmas.Bool.{le-leb, ne_eqb}
use Rattle.four_state.specs.Literals.{is_base, plain_digits, decimal_literal, literal_of, literal_by_places}
use Rattle.four_state.specs.declared.bit.Bit.{Bit}

-- some digit isn't `_`
kept : (digits : List ℕ) (k x : ℕ) → k < length digits → get_or digits k x ≡ x → (x ≡ 95 → ⊥) → 0 < length (plain_digits digits)
kept [] k x h e keep = absurd (omega arith)
kept (c ∷ digits) zero x h e keep = let f : c ≡ x = e in rw (f, ne_eqb x 95 keep) (omega arith)
kept (c ∷ digits) (suc k) x h e keep = by_test (not (nat_eq c 95)) (kept digits k x (omega arith) e keep)
  where
    by_test : (b : Bool) → 0 < length (plain_digits digits) → 0 < length (cond {A = List ℕ} b (c ∷ plain_digits digits) (plain_digits digits))
    by_test true h = omega arith
    by_test false h = h

pub some_plain : (digits : List ℕ) → Any (λ c. c ≡ 95 → ⊥) digits → 0 < length (plain_digits digits)
some_plain digits (k, x, h, e, keep) = kept digits k x h e keep

pub last_base : (base : ℕ) → is_base base ≡ true → (base ≡ 2 → ⊥) → (base ≡ 8 → ⊥) → (base ≡ 16 → ⊥) → nat_eq base 10 ≡ true
last_base base h two eight sixteen = or_false (nat_eq base 10) (rw (ne_eqb base 2 two, ne_eqb base 8 eight, ne_eqb base 16 sixteen) at h)
  where
    or_false : (b : Bool) → ((false || b) || false) ≡ true → b ≡ true
    or_false true h = refl
    or_false false h = cc

module _ (width base : ℕ) (digits : List ℕ) where
  pub no_width : (nat_le 1 width && nat_le width 128) ≡ false → None ≡ literal_of width base digits
  unfolding literal_of
  no_width h = rw h

  module _ (low : 1 ≤ width) (high : width ≤ 128) (r : Option (List Bit)) where
    pub of_places : (places : ℕ) → nat_eq base 10 ≡ false → places ≡ cond (nat_eq base 2) 1 (cond (nat_eq base 8) 3 4) → r ≡ literal_by_places places width (plain_digits digits) → r ≡ literal_of width base digits
    unfolding literal_of
    of_places places h e value = rw (le-leb 1 width low, le-leb width 128 high, h, ← e) value

    pub of_decimal : nat_eq base 10 ≡ true → r ≡ decimal_literal width (plain_digits digits) → r ≡ literal_of width base digits
    unfolding literal_of
    of_decimal h value = rw (le-leb 1 width low, le-leb width 128 high, h) value
