-- Runs of bytes, and the first byte of each form.
use Rattle.std.proofs.Common.{◌≡◌, ℕ, zero, suc, ◌<◌, ◌≤◌, Bool, true, false, List, [], ◌∷◌, length, take, get_or, refl, subst, arith, inl, inr, ◌⊎◌, Option, Some, None}
use Rattle.std.specs.Prelude.{◌==◌, ◌||◌, ◌&&◌, not, is_some}
use Rattle.std.specs.Str.{bytes_eq}
use Rattle.std.proofs.lemmas.Bool.{eqb-true}
use Rattle.std.proofs.lemmas.List.Quantifiers.{position-Some}
use Rattle.vera_ast.specs.Signs.{signs}
use Rattle.vera_lex.specs.Bytes.{is_blank, is_digit, opens_word, in_word, in_decimal, is_base, all, led, run}
use Rattle.vera_lex.specs.Forms.{Form, blank, comment, word, decimal, based, string, sign, is_empty, is_comment, after_width, sign_number, has}
use Rattle.vera_lex.proofs.Digits.{bool_cases, not_both}

pub and_true : (a b : Bool) → (a && b) ≡ true → (a ≡ true) × (b ≡ true)
and_true true b e = (refl, e)
and_true false b e = absurd cc

pub or_true : (a b : Bool) → (a || b) ≡ true → (a ≡ true) ⊎ (b ≡ true)
or_true true b e = inl refl
or_true false b e = inr e

pub is_false : (b : Bool) → (b ≡ true → ⊥) → b ≡ false
is_false true h = absurd (h refl)
is_false false h = refl

pub and_off : (a : Bool) → (a && false) ≡ false
and_off true = refl
and_off false = refl

-- ---- runs

pub run_within : (p : ℕ → Bool) (bs : List ℕ) → run p bs ≤ length bs
run_within p [] = omega arith
run_within p (b ∷ bs) = elim (bool_cases (p b)) [
  | inl e ↦ rw e (let ih = run_within p bs in omega arith)
  | inr e ↦ rw e (omega arith)
]

-- whatever is longer has another byte
pub run_longest : (p : ℕ → Bool) (bs : List ℕ) (m : ℕ) → run p bs < m → m ≤ length bs → all p (take m bs) ≡ false
run_longest p bs zero lt le = absurd (omega arith)
run_longest p [] (suc m) lt le = absurd (omega arith)
run_longest p (b ∷ bs) (suc m) lt le = elim (bool_cases (p b)) [
  | inr e ↦ rw e refl
  | inl e ↦
      let one : run p (b ∷ bs) ≡ suc (run p bs) = rw e refl in
      rw e (run_longest p bs m (omega arith) (omega arith))
]

pub led_longest : (p q : ℕ → Bool) (b : ℕ) (bs : List ℕ) (m : ℕ) → suc (run q bs) < m → m ≤ suc (length bs) → led p q (take m (b ∷ bs)) ≡ false
led_longest p q b bs zero lt le = absurd (omega arith)
led_longest p q b bs (suc m) lt le = rw (run_longest q bs m (omega arith) (omega arith)) (and_off (p b))

pub led_run : (p q : ℕ → Bool) (b : ℕ) (bs : List ℕ) → q b ≡ true → run q (b ∷ bs) ≡ suc (run q bs)
led_run p q b bs e = rw e refl

-- ---- the table of signs

unfoldable pub one_of : List (List ℕ) → List ℕ → Bool
one_of [] w = false
one_of (s ∷ ss) w = bytes_eq s w || one_of ss w

at_place : (ss : List (List ℕ)) (i : ℕ) (w : List ℕ) → i < length ss → bytes_eq (get_or ss i []) w ≡ true → one_of ss w ≡ true
unfolding one_of
at_place [] i w lt e = absurd (omega arith)
at_place (s ∷ ss) zero w lt e = rw e refl
at_place (s ∷ ss) (suc i) w lt e = rw (at_place ss i w (omega arith) e) (or_last (bytes_eq s w))
  where
    or_last : (b : Bool) → (b || true) ≡ true
    or_last true = refl
    or_last false = refl

pub is_one : (w : List ℕ) → is_some (sign_number w) ≡ true → one_of signs w ≡ true
is_one w h = go (sign_number w) refl h
  where
    go : (o : Option ℕ) → sign_number w ≡ o → is_some o ≡ true → one_of signs w ≡ true
    go None e h = absurd cc
    go (Some i) e h = let p = position-Some (λ s. bytes_eq s w) signs i [] e in at_place signs i w p.0 p.1

-- ---- first bytes

abbrev pub sign_byte : ℕ → Bool
sign_byte b = not (is_blank b || opens_word b || is_digit b || b == 34 || b == 39)

abbrev pub first_test : Form → ℕ → Bool
first_test blank b = is_blank b
first_test comment b = b == 47
first_test word b = opens_word b
first_test decimal b = is_digit b
first_test based b = is_digit b || b == 39
first_test string b = b == 34
first_test sign b = sign_byte b

abbrev pub all_first : (ℕ → Bool) → List (List ℕ) → Bool
all_first p [] = true
all_first p ([] ∷ ss) = false
all_first p ((a ∷ s) ∷ ss) = p a && all_first p ss

pub one_of_first : (p : ℕ → Bool) (ss : List (List ℕ)) → all_first p ss ≡ true → (b : ℕ) (w : List ℕ) → one_of ss (b ∷ w) ≡ true → p b ≡ true
unfolding one_of
one_of_first p [] ok b w e = absurd cc
one_of_first p ([] ∷ ss) ok b w e = absurd cc
one_of_first p ((a ∷ s) ∷ ss) ok b w e =
    let both = and_true (p a) (all_first p ss) ok in
    elim (or_true (a == b && bytes_eq s w) (one_of ss (b ∷ w)) e) [
      | inl here ↦ let eq = eqb-true a b (and_true (a == b) (bytes_eq s w) here).0 in subst (λ (x : ℕ). p x ≡ true) eq both.0
      | inr more ↦ one_of_first p ss both.1 b w more
    ]

after_width_first : (b : ℕ) (w : List ℕ) → after_width (b ∷ w) ≡ true → (b == 39) ≡ true
after_width_first b [] e = absurd cc
after_width_first b (c ∷ w) e = first (b == 39) (is_base c) (all in_word w) e
  where
    first : (x y z : Bool) → (x && y && z) ≡ true → x ≡ true
    first true y z e = refl
    first false true z e = absurd cc
    first false false z e = absurd cc

comment_first : (b : ℕ) (w : List ℕ) → is_comment (b ∷ w) ≡ true → (b == 47) ≡ true
comment_first b [] e = absurd cc
comment_first b (c ∷ w) e = (and_true (b == 47) _ e).0

pub starts_so : (form : Form) (b : ℕ) (w : List ℕ) → has form (b ∷ w) ≡ true → first_test form b ≡ true
starts_so blank b w e = (and_true (is_blank b) (is_empty w) e).0
starts_so comment b w e = comment_first b w e
starts_so word b w e = (and_true (opens_word b) (all in_word w) e).0
starts_so decimal b w e = (and_true (is_digit b) (all in_decimal w) e).0
starts_so based b w e = elim (bool_cases (is_digit b)) [
  | inl d ↦ rw d refl
  | inr d ↦ rw d (after_width_first b w (let f : after_width (b ∷ w) ≡ true = rw d at e in f))
]
starts_so string b w e = (and_true (b == 34) _ e).0
starts_so sign b w e = one_of_first sign_byte signs refl b w (is_one (b ∷ w) e)

pub has_some : (form : Form) → has form [] ≡ false
has_some blank = refl
has_some comment = refl
has_some word = refl
has_some decimal = refl
has_some based = refl
has_some string = refl
has_some sign = refl

pub has_not : (form : Form) (b : ℕ) (w : List ℕ) → first_test form b ≡ false → has form (b ∷ w) ≡ false
has_not form b w e = is_false (has form (b ∷ w)) (λ h. not_both (first_test form b) (starts_so form b w h) e)
