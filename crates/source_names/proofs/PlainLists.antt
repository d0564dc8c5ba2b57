-- Lists of tokens whose words are plain.
use Rattle.std.proofs.Common.{◌≡◌, ℕ, zero, suc, true, List, [], ◌∷◌, ◌++◌, map, Some, refl, subst}
use Rattle.std.specs.Prelude.{slice_get}
use Rattle.vera_ast.specs.Signals.{is_plain}
use Rattle.vera_ast.specs.declared.token.Token.{Token}
use Rattle.vera_ast.specs.declared.token.TokenKind.{TokenKind}
use Rattle.vera_ast.specs.declared.token.TokenKind.TheVariants.{Word, Number, Str, Punct}
use Rattle.source_names.specs.Words.{HasPlainWords}

-- ---- of each item of a list

abbrev pub Each : {X : Type 0} → (X → Type 0) → List X → Type 0
Each P [] = Unit {0}
Each P (x ∷ xs) = P x × Each P xs

pub each_joined : {X : Type 0} (P : X → Type 0) (xs ys : List X) → Each P xs → Each P ys → Each P (xs ++ ys)
each_joined P [] ys h k = k
each_joined P (x ∷ xs) ys h k = (h.0, each_joined P xs ys h.1 k)

pub each_mapped : {X Y : Type 0} (P : X → Type 0) (Q : Y → Type 0) (f : X → Y) → ((x : X) → P x → Q (f x)) → (xs : List X) → Each P xs → Each Q (map f xs)
each_mapped P Q f g [] h = tt
each_mapped P Q f g (x ∷ xs) h = (g x h.0, each_mapped P Q f g xs h.1)

pub each_at : {X : Type 0} (P : X → Type 0) (xs : List X) (n : ℕ) (x : X) → Each P xs → slice_get xs n ≡ Some x → P x
each_at P [] n x h e = absurd cc
each_at P (y ∷ xs) zero x h e = let same : y ≡ x = cc in subst P same h.0
each_at P (y ∷ xs) (suc n) x h e = each_at P xs n x h.1 e

pub each_of : {X : Type 0} (P : X → Type 0) (xs : List X) → ((n : ℕ) (x : X) → slice_get xs n ≡ Some x → P x) → Each P xs
each_of P [] h = tt
each_of P (x ∷ xs) h = (h 0 x refl, each_of P xs (λ n y e. h (suc n) y e))

-- ---- plain words

abbrev pub PlainKind : TokenKind → Type 0
PlainKind (Word text) = is_plain text ≡ true
PlainKind (Number value is_decimal) = Unit {0}
PlainKind (Str text) = Unit {0}
PlainKind (Punct n) = Unit {0}

abbrev pub PlainToken : Token → Type 0
PlainToken t = PlainKind t.kind

pub has_plain : (tokens : List Token) → Each PlainToken tokens → HasPlainWords tokens
has_plain tokens h = record { plain = λ n line text e. each_at PlainToken tokens n (record { kind = Word text; line = line }) h e }

pub each_plain : (tokens : List Token) → HasPlainWords tokens → Each PlainToken tokens
each_plain tokens h = each_of PlainToken tokens (λ n t e. kind_plain t.kind n t.line e)
  where
    kind_plain : (kind : TokenKind) (n line : ℕ) → slice_get tokens n ≡ Some (record { kind = kind; line = line }) → PlainKind kind
    kind_plain (Word text) n line e = h.plain n line text e
    kind_plain (Number value is_decimal) n line e = tt
    kind_plain (Str text) n line e = tt
    kind_plain (Punct number) n line e = tt
