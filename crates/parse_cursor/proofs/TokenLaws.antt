-- The laws of single tokens.
use Rattle.std.proofs.Common.{◌≡◌, ℕ, ◌≤◌, Bool, true, false, List, [], ◌∷◌, refl}
use Rattle.std.specs.Prelude.{◌&&◌}
use Rattle.vera_ast.specs.declared.codes.TheConstants as code
use Rattle.parse_cursor.specs.Tokens as g
use Rattle.parse_cursor.specs.Tokens.{kind_of}
use Rattle.parse_cursor.specs.TokenReading as r
use Rattle.parse_cursor.specs.TokenReading.{codes_of}
use Rattle.parse_cursor.proofs.Samples.{a_token, of_kind, is_code, are_codes, first_code, more_codes}
use Rattle.grammar_laws.proofs.Sets.{disjoint, and_true}
use Rattle.grammar_laws.proofs.Law.{Heights, Law}
use Rattle.grammar_laws.proofs.Leaf as leaf
use Rattle.grammar_laws.proofs.Bind.{bind}
use Rattle.grammar_laws.proofs.Choice.{choose}

-- no code comes twice
abbrev pub distinct : List ℕ → Bool
distinct [] = true
distinct (c ∷ cs) = disjoint cs (c ∷ []) && distinct cs

module _ {Tall : Heights} {limit : ℕ} (d : ℕ) (fits : (h : ℕ) → Tall.tall h → d ≤ limit) where
  pub word : (c : ℕ) → is_code c ≡ true → Law kind_of Tall limit d false true (c ∷ []) [] [] (r.word c) (λ h. g.word c d)
  unfolding r.word g.word
  word c e = bind _ _ d (leaf.word c d (a_token c) (of_kind c e) fits) (λ t. leaf.pure _ d) refl refl

  pub name : Law kind_of Tall limit d false true (code.NAME ∷ []) [] [] r.name (λ h. g.name d)
  unfolding r.name g.name
  name = bind _ _ d (leaf.word code.NAME d (a_token code.NAME) (of_kind code.NAME refl) fits) (λ t. leaf.pure _ d) refl refl

  pub number : Law kind_of Tall limit d false true (code.NUMBER ∷ []) [] [] r.number (λ h. g.number d)
  unfolding r.number g.number
  number = bind _ _ d (leaf.word code.NUMBER d (a_token code.NUMBER) (of_kind code.NUMBER refl) fits) (λ t. leaf.pure _ d) refl refl

  pub string : Law kind_of Tall limit d false true (code.STRING_LITERAL ∷ []) [] [] r.string (λ h. g.string d)
  unfolding r.string g.string
  string = bind _ _ d (leaf.word code.STRING_LITERAL d (a_token code.STRING_LITERAL) (of_kind code.STRING_LITERAL refl) fits) (λ t. leaf.pure _ d) refl refl

  pub one_of : (c : ℕ) (cs : List ℕ) → are_codes (c ∷ cs) ≡ true → distinct (c ∷ cs) ≡ true → Law kind_of Tall limit d false true (c ∷ cs) [] [] (r.one_of (c ∷ cs)) (λ h. g.one_of (c ∷ cs) d)
  unfolding r.one_of g.one_of
  one_of c [] s e = leaf.word c d (a_token c) (of_kind c (first_code c [] s)) fits
  one_of c (k ∷ cs) s e =
      let both = and_true (disjoint (k ∷ cs) (c ∷ [])) (distinct (k ∷ cs)) e in
      choose (c ∷ []) _ _ d (leaf.word c d (a_token c) (of_kind c (first_code c (k ∷ cs) s)) fits) (one_of k cs (more_codes c (k ∷ cs) s) both.1) refl refl both.0

  pub name_of : (c : ℕ) (cs : List ℕ) → are_codes (c ∷ cs) ≡ true → distinct (c ∷ cs) ≡ true → Law kind_of Tall limit d false true (c ∷ cs) [] [] (r.name_of (c ∷ cs)) (λ h. g.name_of (c ∷ cs) d)
  unfolding r.name_of g.name_of
  name_of c cs s e = bind _ _ d (one_of c cs s e) (λ t. leaf.pure _ d) refl refl

  pub sign : {A : Type 0} (x : ℕ × A) (xs : List (ℕ × A)) → are_codes (codes_of (x ∷ xs)) ≡ true → distinct (codes_of (x ∷ xs)) ≡ true
      → Law kind_of Tall limit d false true (codes_of (x ∷ xs)) [] [] (r.sign (x ∷ xs)) (λ h. g.sign (x ∷ xs) d)
  unfolding r.sign g.sign
  sign x [] s e = bind _ _ d (word x.0 (first_code x.0 [] s)) (λ t. leaf.pure _ d) refl refl
  sign x (y ∷ xs) s e =
      let both = and_true (disjoint (codes_of (y ∷ xs)) (x.0 ∷ [])) (distinct (codes_of (y ∷ xs))) e in
      choose (x.0 ∷ []) _ _ d (bind _ _ d (word x.0 (first_code x.0 (codes_of (y ∷ xs)) s)) (λ t. leaf.pure _ d) refl refl) (sign y xs (more_codes x.0 (codes_of (y ∷ xs)) s) both.1) refl refl both.0
