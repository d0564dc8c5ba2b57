-- A text has at most one result.
use Rattle.std.proofs.Common.{◌≡◌, ℕ, zero, suc, Bool, true, false, List, [], ◌∷◌, take, drop, refl, sym, subst, ◌∙◌, arith, inl, inr, Option, Some, None, Result, Ok, Err}
use Rattle.std.specs.Prelude.{◌==◌, ◌||◌, ◌&&◌, not, is_some, if◌then◌else◌}
use Rattle.std.proofs.lemmas.Bool.{eqb-true, cases_lt}
use Rattle.vera_ast.specs.declared.token.Token.{Token}
use Rattle.vera_ast.specs.declared.refusal.Refusal.{Refusal}
use Rattle.vera_lex.specs.Bytes.{is_blank, is_digit, opens_word, in_decimal, all}
use Rattle.vera_lex.specs.Forms.{Form, blank, comment, word, decimal, based, string, sign, has, has_width, is_comment, sign_number, in_line, closes, IsPiece}
use Rattle.vera_lex.specs.Directives as dir
use Rattle.vera_lex.specs.Refusals.{fault}
use Rattle.vera_lex.specs.Tokens.{Piece, State, at_start, piece_at, placed, behind, StandsUnless, FromPlace, Behind, Lexed, IsLexed}
use Rattle.vera_lex.proofs.Digits.{not_both}
use Rattle.vera_lex.proofs.Runs.{and_true, or_true, is_false, starts_so, has_some}
use Rattle.vera_lex.proofs.Classes.{word_byte, digit_byte}
use Rattle.vera_lex.proofs.NumberPieces.{based_is, blank_off, word_off}

-- ---- a piece has one form

abbrev form_of : List ℕ → Option Form
form_of [] = None
form_of (b ∷ w) =
    if is_blank b then Some blank
    else (if opens_word b then Some word
    else (if is_digit b || b == 39 then (if all in_decimal (b ∷ w) then Some decimal else Some based)
    else (if b == 34 then Some string
    else (if is_comment (b ∷ w) then Some comment else Some sign))))

all_decimal : (w : List ℕ) → all in_decimal w ≡ true → has_width w ≡ false
all_decimal [] e = refl
all_decimal (b ∷ w) e = let both = and_true (in_decimal b) (all in_decimal w) e in rw both.0 (all_decimal w both.1)

not_decimal : (w : List ℕ) → has_width w ≡ true → all in_decimal w ≡ false
not_decimal w e = is_false (all in_decimal w) (λ h. not_both (has_width w) e (all_decimal w h))

five : (p q r s t : Bool) → not (p || q || r || s || t) ≡ true → (p ≡ false) × (q ≡ false) × (r ≡ false) × (s ≡ false) × (t ≡ false)
five true q r s t e = absurd cc
five false true r s t e = absurd cc
five false false true s t e = absurd cc
five false false false true t e = absurd cc
five false false false false true e = absurd cc
five false false false false false e = (refl, refl, refl, refl, refl)

no_comment : (b : ℕ) (w : List ℕ) → is_some (sign_number (b ∷ w)) ≡ true → is_comment (b ∷ w) ≡ false
no_comment b [] e = refl
no_comment b (c ∷ w) e = is_false (is_comment (b ∷ c ∷ w)) (λ h.
    let both = and_true (b == 47) ((c == 47 && all in_line w) || (c == 42 && closes w)) h in
    let at : is_some (sign_number (47 ∷ c ∷ w)) ≡ true = subst (λ (x : ℕ). is_some (sign_number (x ∷ c ∷ w)) ≡ true) (eqb-true b 47 both.0) e in
    elim (or_true (c == 47 && all in_line w) (c == 42 && closes w) both.1) [
      | inl x ↦
          let two : is_some (sign_number (47 ∷ 47 ∷ w)) ≡ true = subst (λ (y : ℕ). is_some (sign_number (47 ∷ y ∷ w)) ≡ true) (eqb-true c 47 (and_true (c == 47) (all in_line w) x).0) at in
          let f : false ≡ true = two in absurd cc
      | inr x ↦
          let two : is_some (sign_number (47 ∷ 42 ∷ w)) ≡ true = subst (λ (y : ℕ). is_some (sign_number (47 ∷ y ∷ w)) ≡ true) (eqb-true c 42 (and_true (c == 42) (closes w) x).0) at in
          let f : false ≡ true = two in absurd cc
    ])

pick : (p q r a c : Bool) (u v x y z : Option Form) → p ≡ false → q ≡ false → r ≡ true → a ≡ c → (if p then u else (if q then v else (if r then (if a then x else y) else z))) ≡ (if c then x else y)
pick p q r a c u v x y z e f g h = rw (e, f, g, h) refl

form_is : (form : Form) (b : ℕ) (w : List ℕ) → has form (b ∷ w) ≡ true → form_of (b ∷ w) ≡ Some form
form_is blank b w e = let s = starts_so blank b w e in rw s refl
form_is word b w e = let s = word_byte b (starts_so word b w e) in rw (s.is_blank, s.is_word) refl
form_is decimal b w e =
    let s = digit_byte b (starts_so decimal b w e) in
    let rest = (and_true (is_digit b) (all in_decimal w) e).1 in
    let one : in_decimal b ≡ true = rw s.is_digit refl in
    let whole : all in_decimal (b ∷ w) ≡ true = rw (one, rest) refl in
    let first : (is_digit b || b == 39) ≡ true = rw s.is_digit refl in
    pick (is_blank b) (opens_word b) (is_digit b || b == 39) (all in_decimal (b ∷ w)) true _ _ _ _ _ s.is_blank s.is_word first whole
form_is based b w e =
    let first = starts_so based b w e in
    let width : has_width (b ∷ w) ≡ true = sym (based_is b w first) ∙ e in
    pick (is_blank b) (opens_word b) (is_digit b || b == 39) (all in_decimal (b ∷ w)) false _ _ _ _ _ (blank_off b w first) (word_off b w first) first (not_decimal (b ∷ w) width)
form_is string b w e =
    let s = starts_so string b w e in
    subst (λ (x : ℕ). form_of (x ∷ w) ≡ Some string) (sym (eqb-true b 34 s)) refl
form_is comment b w e =
    let s = eqb-true b 47 (starts_so comment b w e) in
    let at : is_comment (47 ∷ w) ≡ true = subst (λ (x : ℕ). is_comment (x ∷ w) ≡ true) s e in
    subst (λ (x : ℕ). form_of (x ∷ w) ≡ Some comment) (sym s) (rw at refl)
form_is sign b w e =
    let s = five (is_blank b) (opens_word b) (is_digit b) (b == 34) (b == 39) (starts_so sign b w e) in
    let none = no_comment b w e in
    rw (s.0, s.1, s.2, s.3, s.4, none) refl

one_form : (f g : Form) (w : List ℕ) → has f w ≡ true → has g w ≡ true → f ≡ g
one_form f g [] e h = let n = has_some f in let x : true ≡ false = sym e ∙ n in absurd cc
one_form f g (b ∷ w) e h = let same : Some f ≡ Some g = sym (form_is f b w e) ∙ form_is g b w h in cc

-- ---- a place has one piece

module _ (text : List ℕ) (f g : Form) (n m : ℕ) (i : IsPiece text f n) (j : IsPiece text g m) where
  one_count : n ≡ m
  one_count = elim (cases_lt n m) [
    | inl lt ↦ absurd (not_both (has g (take m text)) j.formed (i.longest g m lt j.within))
    | inr le ↦ elim (cases_lt m n) [
      | inl lt ↦ absurd (not_both (has f (take n text)) i.formed (j.longest f n lt i.within))
      | inr ge ↦ omega arith
    ]
  ]

  same_form : f ≡ g
  same_form = one_form f g (take n text) i.formed (subst (λ (k : ℕ). has g (take k text) ≡ true) (sym one_count) j.formed)

  one_piece : Ok (piece_at f text n, n) ≡ (let r : Result (Piece × ℕ) ℕ = Ok (piece_at g text m, m) in r)
  one_piece = rw (one_count, same_form) refl

stands_once : (f : Option ℕ) (d : Bool) (text : List ℕ) (o p : Result (Piece × ℕ) ℕ) → StandsUnless f d text o → StandsUnless f d text p → o ≡ p
stands_once (Some code) d text o p x y = x ∙ sym y
stands_once None true text o p x y = x ∙ sym y
stands_once None false text o p x y = x.3 ∙ one_piece text x.0 y.0 x.1 y.1 x.2 y.2 ∙ sym y.3

-- ---- the whole

module _ (k l : State → List ℕ → Result (List Token) Refusal → Type 0) (s : State) (text : List ℕ) (r q : Result (List Token) Refusal)
    (next : (t : State) (rest : List ℕ) → k t rest r → l t rest q → r ≡ q) where
  behind_once : (n : ℕ) (o : Result State ℕ) → Behind k s text n o r → Behind l s text n o q → r ≡ q
  behind_once n (Err code) x y = x ∙ sym y
  behind_once n (Ok t) x y = next (behind (take n text) t) (drop n text) x y

  place_once : (o : Result (Piece × ℕ) ℕ) → FromPlace k s text o r → FromPlace l s text o q → r ≡ q
  place_once (Err code) x y = x ∙ sym y
  place_once (Ok p) x y = behind_once p.1 (placed s p.0) x y

lexed_once : (k l : ℕ) (s : State) (text : List ℕ) (r q : Result (List Token) Refusal) → Lexed k s text r → Lexed l s text q → r ≡ q
lexed_once zero zero s [] r q x y = x ∙ sym y
lexed_once zero (suc l) s [] r q x y = x ∙ sym y
lexed_once (suc k) zero s [] r q x y = x ∙ sym y
lexed_once (suc k) (suc l) s [] r q x y = x ∙ sym y
lexed_once zero l s (b ∷ bs) r q x y = absurd x
lexed_once (suc k) zero s (b ∷ bs) r q x y = absurd y
lexed_once (suc k) (suc l) s (b ∷ bs) r q x y =
    let same : x.0 ≡ y.0 = stands_once (fault (b ∷ bs)) (dir.opens_directive (b ∷ bs)) (b ∷ bs) x.0 y.0 x.1 y.1 in
    place_once (Lexed k) (Lexed l) s (b ∷ bs) r q (λ t rest u v. lexed_once k l t rest r q u v) x.0 x.2
    (subst (λ (o : Result (Piece × ℕ) ℕ). FromPlace (Lexed l) s (b ∷ bs) o q) (sym same) y.2)

pub one_result : (bytes : List ℕ) (r q : Result (List Token) Refusal) → IsLexed bytes r → IsLexed bytes q → r ≡ q
one_result bytes r q x y = lexed_once x.0 y.0 at_start bytes r q x.1 y.1
