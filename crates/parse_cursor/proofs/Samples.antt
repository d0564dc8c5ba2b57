-- A token of each kind.
use Rattle.std.proofs.Common.{◌≡◌, ◌≢◌, ℕ, zero, suc, ◌-◌, ◌<◌, cond, Bool, true, false, List, [], ◌∷◌, refl, sym, subst, inl, inr, arith}
use Rattle.std.specs.Prelude.{◌==◌, ◌&&◌, ◌⊎◌, nat_lt, get_or}
use Rattle.std.proofs.lemmas.Bool.Decides.{eqb_tells}
use Rattle.std.proofs.lemmas.Bool.{eqb-true}
use borrow.Author.Tests.{ltb-true}
use Rattle.vera_ast.specs.Codes.{word_code}
use Rattle.vera_ast.specs.declared.codes.TheConstants as code
use Rattle.vera_ast.specs.declared.token.Token.{Token}
use Rattle.vera_ast.specs.declared.token.TokenKind.{TokenKind}
use Rattle.vera_ast.specs.declared.token.TokenKind.TheVariants.{Word, Number, Str, Punct}
use Rattle.vera_ast.specs.Words.{reserved_words}
use Rattle.parse_cursor.specs.Tokens.{kind_of}
use Rattle.grammar_laws.proofs.Sets.{and_true}

abbrev kind : ℕ → TokenKind
kind c = cond (nat_lt c code.NAME) (Punct c) (cond (c == code.NAME) (Word (120 ∷ [])) (cond (c == code.NUMBER) (Number [] false) (cond (c == code.STRING_LITERAL) (Str []) (Word (get_or reserved_words (c - code.FIRST_WORD) [])))))

abbrev pub a_token : ℕ → Token
a_token c = record { kind = kind c; line = 1 }

nat_cases : (c n : ℕ) → (c ≡ n) ⊎ (c ≢ n)
nat_cases c n = elim (eqb_tells c n) [
  | inl e ↦ inl e.1
  | inr e ↦ inr e.1
]

-- whether each code below a number is that of its token
abbrev all_right : ℕ → Bool
all_right zero = true
all_right (suc n) = (kind_of (a_token n) == n) && all_right n

each_right : all_right 135 ≡ true
unfolding word_code
each_right = refl

right_below : (n : ℕ) → all_right n ≡ true → (c : ℕ) → c < n → kind_of (a_token c) ≡ c
right_below zero e c lt = absurd (omega arith)
right_below (suc n) e c lt =
    let both = and_true (kind_of (a_token n) == n) (all_right n) e in
    elim (nat_cases c n) [
      | inl same ↦ subst (λ (k : ℕ). kind_of (a_token k) ≡ k) (sym same) (eqb-true (kind_of (a_token n)) n both.0)
      | inr differ ↦ right_below n both.1 c (omega arith)
    ]

-- a code of the table
abbrev pub is_code : ℕ → Bool
is_code c = nat_lt c 135

pub of_kind : (c : ℕ) → is_code c ≡ true → kind_of (a_token c) ≡ c
of_kind c e = right_below 135 each_right c (ltb-true c 135 e)

abbrev pub are_codes : List ℕ → Bool
are_codes [] = true
are_codes (c ∷ cs) = is_code c && are_codes cs

pub first_code : (c : ℕ) (cs : List ℕ) → are_codes (c ∷ cs) ≡ true → is_code c ≡ true
first_code c cs e = (and_true (is_code c) (are_codes cs) e).0

pub more_codes : (c : ℕ) (cs : List ℕ) → are_codes (c ∷ cs) ≡ true → are_codes cs ≡ true
more_codes c cs e = (and_true (is_code c) (are_codes cs) e).1
