-- The refusals at a place, test by test.
use Rattle.std.proofs.Common.{◌≡◌, ℕ, Bool, true, false, List, ◌∷◌, refl, Option, Some, None, Result, Ok, Err}
use Rattle.std.specs.Prelude.{◌==◌, ◌||◌, ◌&&◌, not, if◌then◌else◌}
use Rattle.vera_lex.specs.Bytes.{is_blank, is_digit, opens_word}
use Rattle.vera_lex.specs.Forms.{Form, IsPiece}
use Rattle.vera_lex.specs.Literals.{opens_based}
use Rattle.vera_lex.specs.Refusals.{opens_sign, begins_nothing, has_bad_escape, has_bad_digits, is_open_string, is_open_comment, is_too_wide, fault}
use Rattle.vera_lex.specs.Directives as dir
use Rattle.vera_lex.specs.Tokens.{Piece, piece_at, directive_piece, StandsUnless, Stands}

unfoldable pub fault_of : (a b c d e f : Bool) → Option ℕ
fault_of a b c d e f = if a || b || c then Some 1 else (if d || e then Some 2 else (if f then Some 3 else None))

fault_by : (a b c d e f a' b' c' d' e' f' : Bool) → a ≡ a' → b ≡ b' → c ≡ c' → d ≡ d' → e ≡ e' → f ≡ f' → fault_of a b c d e f ≡ fault_of a' b' c' d' e' f'
fault_by a b c d e f a' b' c' d' e' f' p q r s t u = cc

pub fault_at : (text : List ℕ) (a b c d e f : Bool) → begins_nothing text ≡ a → has_bad_escape text ≡ b → has_bad_digits text ≡ c → is_open_string text ≡ d → is_open_comment text ≡ e → is_too_wide text ≡ f
    → fault text ≡ fault_of a b c d e f
unfolding fault fault_of
fault_at text a b c d e f p q r s t u =
    fault_by (begins_nothing text) (has_bad_escape text) (has_bad_digits text) (is_open_string text) (is_open_comment text) (is_too_wide text) a b c d e f p q r s t u

pub none_of : fault_of false false false false false false ≡ None
unfolding fault_of
none_of = refl

pub off_and : (a b : Bool) → a ≡ false → (a && b) ≡ false
off_and a b e = rw e refl

pub or_off : (a b : Bool) → a ≡ false → b ≡ false → (a || b) ≡ false
or_off a b e f = rw (e, f) refl

-- ---- what begins a token

unfoldable not_or : Bool → Bool → Bool → Bool → Bool → Bool → Bool
not_or u v w x y z = not (u || v || w || x || y || z)

begins_by : (u v w x y z u' v' w' x' y' z' : Bool) → u ≡ u' → v ≡ v' → w ≡ w' → x ≡ x' → y ≡ y' → z ≡ z' → not_or u v w x y z ≡ not_or u' v' w' x' y' z'
begins_by u v w x y z u' v' w' x' y' z' a b c d e f = cc

pub begins_at : (b : ℕ) (bs : List ℕ) (u v w x y z : Bool) → is_blank b ≡ u → opens_word b ≡ v → is_digit b ≡ w → (b == 34) ≡ x → opens_sign b ≡ y → opens_based (b ∷ bs) ≡ z
    → begins_nothing (b ∷ bs) ≡ not (u || v || w || x || y || z)
unfolding not_or
begins_at b bs u v w x y z p q r s t o = begins_by (is_blank b) (opens_word b) (is_digit b) (b == 34) (opens_sign b) (opens_based (b ∷ bs)) u v w x y z p q r s t o

pub nothing_last : (u v w x y z : Bool) → z ≡ true → not (u || v || w || x || y || z) ≡ false
nothing_last true v w x y z e = refl
nothing_last false true w x y z e = refl
nothing_last false false true x y z e = refl
nothing_last false false false true y z e = refl
nothing_last false false false false true z e = refl
nothing_last false false false false false true e = refl
nothing_last false false false false false false e = absurd cc

-- ---- what stands at a place

unless_piece : (f : Option ℕ) (d : Bool) (text : List ℕ) (o : Result (Piece × ℕ) ℕ) (form : Form) (n : ℕ) → f ≡ None → d ≡ false → IsPiece text form n → o ≡ Ok (piece_at form text n, n) → StandsUnless f d text o
unless_piece f d text o form n p q i e = rw (p, q) (form, n, i, e)

pub stands_piece : (text : List ℕ) (o : Result (Piece × ℕ) ℕ) (form : Form) (n : ℕ) → fault text ≡ None → dir.opens_directive text ≡ false → IsPiece text form n → o ≡ Ok (piece_at form text n, n) → Stands text o
stands_piece text o form n p q i e = unless_piece (fault text) (dir.opens_directive text) text o form n p q i e

unless_fault : (f : Option ℕ) (d : Bool) (text : List ℕ) (o : Result (Piece × ℕ) ℕ) (code : ℕ) → f ≡ Some code → o ≡ Err code → StandsUnless f d text o
unless_fault f d text o code p e = rw p e

pub stands_fault : (text : List ℕ) (o : Result (Piece × ℕ) ℕ) (code : ℕ) → fault text ≡ Some code → o ≡ Err code → Stands text o
stands_fault text o code p e = unless_fault (fault text) (dir.opens_directive text) text o code p e

unless_directive : (f : Option ℕ) (d : Bool) (text : List ℕ) (o : Result (Piece × ℕ) ℕ) → f ≡ None → d ≡ true → o ≡ directive_piece (dir.directive text) → StandsUnless f d text o
unless_directive f d text o p q e = rw (p, q) e

pub stands_directive : (text : List ℕ) (o : Result (Piece × ℕ) ℕ) → fault text ≡ None → dir.opens_directive text ≡ true → o ≡ directive_piece (dir.directive text) → Stands text o
stands_directive text o p q e = unless_directive (fault text) (dir.opens_directive text) text o p q e
