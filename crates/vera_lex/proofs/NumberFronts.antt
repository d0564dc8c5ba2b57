-- What reading finds at a digit or a `'`.
use Rattle.std.proofs.Common.{◌≡◌, ℕ, suc, ◌+◌, ◌≤◌, Bool, true, false, List, [], ◌∷◌, length, take, drop, get_or, refl, sym, ap, subst, ◌∙◌, arith, inl, inr, Option, Some, None, Result, Ok, Err}
use Rattle.std.specs.Prelude.{◌==◌, ◌||◌, ◌&&◌, not, is_none, if◌then◌else◌, unwrap_or}
use Rattle.std.proofs.lemmas.Bool.{eqb-true}
use Rattle.std.proofs.lemmas.Bool.Decides.{nat_tests}
use Rattle.std.proofs.lemmas.List.{length-take}
use Rattle.four_state.specs.Literals.{literal_of}
use Rattle.four_state.specs.declared.bit.Bit.{Bit}
use Rattle.vera_ast.specs.declared.token.TokenKind.TheVariants.{Number}
use Rattle.vera_lex.specs.Bytes.{is_blank, opens_word, is_digit, in_word, in_decimal, is_base, run}
use Rattle.vera_lex.specs.Forms.{decimal, based}
use Rattle.vera_lex.specs.Literals.{opens_based, base, based_digits, are_digits, decimal_value, without_width, based_value, literal_value}
use Rattle.vera_lex.specs.Refusals.{fault, opens_sign, begins_nothing, is_too_wide, has_bad_digits}
use Rattle.vera_lex.specs.Directives.{opens_directive}
use Rattle.vera_lex.specs.Tokens.{Piece, token, Stands}
use Rattle.vera_lex.specs.Reading.{numbered, based_front, number_front}
use Rattle.vera_lex.proofs.Digits.{bool_cases}
use Rattle.vera_lex.proofs.Runs.{or_true, run_within, led_run}
use Rattle.vera_lex.proofs.Faults.{fault_of, fault_at, off_and, begins_at, nothing_last, stands_piece, stands_fault}
use Rattle.vera_lex.proofs.NumberPieces.{quote_at, based_end, based_piece, decimal_piece, double_off, slash_off, hash_off, word_off}

-- behind the test of its first byte
opens_is : (f q : Bool) (p r : Bool) → f ≡ true → (p && r) ≡ q → (f && p && r) ≡ q
opens_is true q p r e h = h
opens_is false q p r e h = absurd cc

none_is : (o : Option (List Bit)) → o ≡ None → is_none o ≡ true
none_is o e = rw e refl

some_is : (o : Option (List Bit)) (bits : List Bit) → o ≡ Some bits → is_none o ≡ false
some_is o bits e = rw e refl

some_bits : (o : Option (List Bit)) (bits : List Bit) → o ≡ Some bits → unwrap_or o [] ≡ bits
some_bits o bits e = rw e refl

module _ (b : ℕ) (bs : List ℕ) (first : (is_digit b || b == 39) ≡ true) where
  opens : (q : Bool) → quote_at (b ∷ bs) ≡ q → opens_based (b ∷ bs) ≡ q
  opens q e = opens_is (is_digit b || b == 39) q (get_or (b ∷ bs) (run in_decimal (b ∷ bs)) 0 == 39) (is_base (get_or (b ∷ bs) (run in_decimal (b ∷ bs) + 1) 0)) first e

  hash : opens_directive (b ∷ bs) ≡ false
  hash = off_and (b == 35) _ (hash_off b bs first)

  -- ---- a based literal

  -- it has no width where it begins with `'`
  no_width : (length (take (run in_decimal (b ∷ bs)) (b ∷ bs)) == 0) ≡ (b == 39)
  no_width = elim (or_true (is_digit b) (b == 39) first) [
    | inl d ↦
        let n : run in_decimal (b ∷ bs) ≡ suc (run in_decimal bs) = led_run is_digit in_decimal b bs (rw d refl) in
        let off : (b == 39) ≡ false = grind (arith, nat_tests) in
        rw (n, off) (some (length (take (run in_decimal bs) bs)))
    | inr q ↦ subst (λ (x : ℕ). (length (take (run in_decimal (x ∷ bs)) (x ∷ bs)) == 0) ≡ (x == 39)) (sym (eqb-true b 39 q)) refl
  ]
    where
      some : (n : ℕ) → (suc n == 0) ≡ false
      some n = grind (arith, nat_tests)

  width : List ℕ
  width = take (run in_decimal (b ∷ bs)) (b ∷ bs)

  behind : List ℕ
  behind = drop (run in_decimal (b ∷ bs) + 2) (b ∷ bs)

  based_begins : quote_at (b ∷ bs) ≡ true → begins_nothing (b ∷ bs) ≡ false
  based_begins q = begins_at b bs (is_blank b) (opens_word b) (is_digit b) (b == 34) (opens_sign b) true refl refl refl refl refl (opens true q) ∙ nothing_last (is_blank b) (opens_word b) (is_digit b) (b == 34) (opens_sign b) true refl

  bad_digits : quote_at (b ∷ bs) ≡ true → (r : Bool) → are_digits (base (b ∷ bs)) (based_digits (b ∷ bs)) ≡ r → has_bad_digits (b ∷ bs) ≡ not r
  bad_digits q r e = both (opens_based (b ∷ bs)) (are_digits (base (b ∷ bs)) (based_digits (b ∷ bs))) (opens true q) e
    where
      both : (o a : Bool) → o ≡ true → a ≡ r → (o && not a) ≡ not r
      both o a p e = rw (p, e) refl

  too_wide : quote_at (b ∷ bs) ≡ true → (w : Bool) → is_none (literal_value (b ∷ bs)) ≡ w → is_too_wide (b ∷ bs) ≡ w
  too_wide q w e = both (is_digit b) (opens_based (b ∷ bs)) (is_none (literal_value (b ∷ bs))) (opens true q) e
    where
      both : (d o n : Bool) → o ≡ true → n ≡ w → ((d || o) && n) ≡ w
      both true o n p e = e
      both false true n p e = e
      both false false n p e = absurd cc

  based_faults : quote_at (b ∷ bs) ≡ true → (r w : Bool) → are_digits (base (b ∷ bs)) (based_digits (b ∷ bs)) ≡ r → is_none (literal_value (b ∷ bs)) ≡ w → fault (b ∷ bs) ≡ fault_of false false (not r) false false w
  based_faults q r w e f = fault_at (b ∷ bs) false false (not r) false false w (based_begins q) (off_and (b == 34) _ (double_off b bs first)) (bad_digits q r e) (off_and (b == 34) _ (double_off b bs first))
      (open_off (b == 47) _ _ (slash_off b bs first)) (too_wide q w f)
    where
      open_off : (p x y : Bool) → p ≡ false → (p && x && y) ≡ false
      open_off true x y e = absurd cc
      open_off false x y e = refl

  value_is : quote_at (b ∷ bs) ≡ true
      → literal_value (b ∷ bs) ≡ (if length (take (run in_decimal (b ∷ bs)) (b ∷ bs)) == 0 then without_width (base (b ∷ bs)) (based_digits (b ∷ bs)) else literal_of (decimal_value (take (run in_decimal (b ∷ bs)) (b ∷ bs))) (base (b ∷ bs)) (based_digits (b ∷ bs)))
  unfolding literal_value based_value
  value_is q = picked (opens_based (b ∷ bs)) (length (take (run in_decimal (b ∷ bs)) (b ∷ bs)) == 0) (b == 39) (opens true q) no_width _ _ _
    where
      picked : (o x y : Bool) → o ≡ true → x ≡ y → (u v w : Option (List Bit)) → (if o then (if y then u else v) else w) ≡ (if x then u else v)
      picked o x y e f u v w = rw (e, f) refl

  count_is : length (take (run in_decimal (b ∷ bs)) (b ∷ bs)) + 2 + run in_word (drop (run in_decimal (b ∷ bs) + 2) (b ∷ bs)) ≡ based_end (b ∷ bs)
  count_is =
      let le : run in_decimal (b ∷ bs) ≤ length (b ∷ bs) = run_within in_decimal (b ∷ bs) in
      let n = length-take (run in_decimal (b ∷ bs)) (b ∷ bs) in
      omega arith

  based_found : quote_at (b ∷ bs) ≡ true → (o : Option (List Bit)) → literal_value (b ∷ bs) ≡ o → are_digits (base (b ∷ bs)) (based_digits (b ∷ bs)) ≡ true
      → Stands (b ∷ bs) (numbered false (length (take (run in_decimal (b ∷ bs)) (b ∷ bs)) + 2 + run in_word (drop (run in_decimal (b ∷ bs) + 2) (b ∷ bs))) o)
  unfolding fault_of
  based_found q None e r = stands_fault (b ∷ bs) _ 3 (based_faults q true true r (none_is (literal_value (b ∷ bs)) e)) refl
  based_found q (Some bits) e r =
      stands_piece (b ∷ bs) _ based (based_end (b ∷ bs)) (based_faults q true false r (some_is (literal_value (b ∷ bs)) bits e)) hash (based_piece b bs first q)
      (ap (λ (n : ℕ). Ok (token (Number bits false), n)) count_is ∙ ap (λ (v : List Bit). Ok (token (Number v false), based_end (b ∷ bs))) (sym (some_bits (literal_value (b ∷ bs)) bits e)))

  based_stands : quote_at (b ∷ bs) ≡ true → Stands (b ∷ bs) (based_front (take (run in_decimal (b ∷ bs)) (b ∷ bs)) (base (b ∷ bs)) (drop (run in_decimal (b ∷ bs) + 2) (b ∷ bs)))
  unfolding based_front fault_of
  based_stands q = elim (bool_cases (are_digits (base (b ∷ bs)) (based_digits (b ∷ bs)))) [
    | inr r ↦ stands_fault (b ∷ bs) _ 1 (based_faults q false (is_none (literal_value (b ∷ bs))) r refl) (chosen (are_digits (base (b ∷ bs)) (based_digits (b ∷ bs))) r _ _)
    | inl r ↦ subst (λ (o : Result (Piece × ℕ) ℕ). Stands (b ∷ bs) o) (sym (taken (are_digits (base (b ∷ bs)) (based_digits (b ∷ bs))) r _ _)) (based_found q _ (value_is q) r)
  ]
    where
      chosen : (a : Bool) → a ≡ false → (x y : Result (Piece × ℕ) ℕ) → (if a then x else y) ≡ y
      chosen a e x y = rw e refl

      taken : (a : Bool) → a ≡ true → (x y : Result (Piece × ℕ) ℕ) → (if a then x else y) ≡ x
      taken a e x y = rw e refl

  -- ---- a decimal

  decimal_value_is : quote_at (b ∷ bs) ≡ false → literal_value (b ∷ bs) ≡ without_width 10 (take (run in_decimal (b ∷ bs)) (b ∷ bs))
  unfolding literal_value
  decimal_value_is q = picked (opens_based (b ∷ bs)) (opens false q) _ _
    where
      picked : (o : Bool) → o ≡ false → (u v : Option (List Bit)) → (if o then u else v) ≡ v
      picked o e u v = rw e refl

  decimal_faults : is_digit b ≡ true → quote_at (b ∷ bs) ≡ false → (w : Bool) → is_none (literal_value (b ∷ bs)) ≡ w → fault (b ∷ bs) ≡ fault_of false false false false false w
  decimal_faults d q w e = fault_at (b ∷ bs) false false false false false w
      (begins_at b bs (is_blank b) false true false (opens_sign b) false refl (word_off b bs first) d (double_off b bs first) refl (opens false q) ∙ third (is_blank b) (opens_sign b))
      (off_and (b == 34) _ (double_off b bs first)) (off_and (opens_based (b ∷ bs)) _ (opens false q)) (off_and (b == 34) _ (double_off b bs first))
      (open_off (b == 47) _ _ (slash_off b bs first)) (both (is_digit b) (opens_based (b ∷ bs)) (is_none (literal_value (b ∷ bs))) d e)
    where
      open_off : (p x y : Bool) → p ≡ false → (p && x && y) ≡ false
      open_off true x y e = absurd cc
      open_off false x y e = refl

      both : (d o n : Bool) → d ≡ true → n ≡ w → ((d || o) && n) ≡ w
      both d o n p e = rw (p, e) refl

      third : (u y : Bool) → not (u || false || true || false || y || false) ≡ false
      third true y = refl
      third false y = refl

  decimal_found : is_digit b ≡ true → quote_at (b ∷ bs) ≡ false → (o : Option (List Bit)) → literal_value (b ∷ bs) ≡ o → Stands (b ∷ bs) (numbered true (run in_decimal (b ∷ bs)) o)
  unfolding fault_of
  decimal_found d q None e = stands_fault (b ∷ bs) _ 3 (decimal_faults d q true (none_is (literal_value (b ∷ bs)) e)) refl
  decimal_found d q (Some bits) e =
      stands_piece (b ∷ bs) _ decimal (run in_decimal (b ∷ bs)) (decimal_faults d q false (some_is (literal_value (b ∷ bs)) bits e)) hash (decimal_piece b bs first d q)
      (ap (λ (v : List Bit). Ok (token (Number v true), run in_decimal (b ∷ bs))) (sym (some_bits (literal_value (b ∷ bs)) bits e)))

  -- ---- a `'` without a base

  quote_faults : (b == 39) ≡ true → quote_at (b ∷ bs) ≡ false → fault (b ∷ bs) ≡ Some 1
  unfolding fault_of
  quote_faults e q = fault_at (b ∷ bs) true false false false false _
      (begins_at b bs false false false false false false (at_quote (λ x. is_blank x) refl) (word_off b bs first) (at_quote (λ x. is_digit x) refl) (double_off b bs first) (at_quote (λ x. opens_sign x) refl) (opens false q))
      (off_and (b == 34) _ (double_off b bs first)) (off_and (opens_based (b ∷ bs)) _ (opens false q)) (off_and (b == 34) _ (double_off b bs first))
      (open_off (b == 47) _ _ (slash_off b bs first)) refl
    where
      open_off : (p x y : Bool) → p ≡ false → (p && x && y) ≡ false
      open_off true x y e = absurd cc
      open_off false x y e = refl

      at_quote : (p : ℕ → Bool) → p 39 ≡ false → p b ≡ false
      at_quote p f = subst (λ (x : ℕ). p x ≡ false) (sym (eqb-true b 39 e)) f

  pub number_stands : Stands (b ∷ bs) (number_front (b ∷ bs))
  unfolding number_front
  number_stands = elim (bool_cases (quote_at (b ∷ bs))) [
    | inl q ↦ is _ (chosen (quote_at (b ∷ bs)) true q _ _) (based_stands q)
    | inr q ↦ elim (or_true (is_digit b) (b == 39) first) [
      | inl d ↦ is _ (chosen (quote_at (b ∷ bs)) false q _ _ ∙ chosen (run in_decimal (b ∷ bs) == 0) false (some d) _ _) (decimal_found d q _ (decimal_value_is q))
      | inr e ↦ is _ (chosen (quote_at (b ∷ bs)) false q _ _ ∙ chosen (run in_decimal (b ∷ bs) == 0) true (none e) _ _) (stands_fault (b ∷ bs) (Err 1) 1 (quote_faults e q) refl)
    ]
  ]
    where
      is : (o : Result (Piece × ℕ) ℕ) → number_front (b ∷ bs) ≡ o → Stands (b ∷ bs) o → Stands (b ∷ bs) (number_front (b ∷ bs))
      is o e h = subst (λ (o : Result (Piece × ℕ) ℕ). Stands (b ∷ bs) o) (sym e) h

      chosen : (a c : Bool) → a ≡ c → (x y : Result (Piece × ℕ) ℕ) → (if a then x else y) ≡ (if c then x else y)
      chosen a c e x y = rw e refl

      some : is_digit b ≡ true → (run in_decimal (b ∷ bs) == 0) ≡ false
      some d =
          let n : run in_decimal (b ∷ bs) ≡ suc (run in_decimal bs) = led_run is_digit in_decimal b bs (rw d refl) in
          let off : (suc (run in_decimal bs) == 0) ≡ false = grind (arith, nat_tests) in
          rw n off

      none : (b == 39) ≡ true → (run in_decimal (b ∷ bs) == 0) ≡ true
      none e = subst (λ (x : ℕ). (run in_decimal (x ∷ bs) == 0) ≡ true) (sym (eqb-true b 39 e)) refl
