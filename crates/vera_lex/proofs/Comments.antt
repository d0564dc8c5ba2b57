-- Comments, signs and directives.
use Rattle.std.proofs.Common.{◌≡◌, ℕ, zero, suc, ◌+◌, ◌<◌, ◌≤◌, Bool, true, false, List, [], ◌∷◌, length, take, get_or, refl, sym, ap, subst, ◌∙◌, arith, inl, inr, Option, Some, None, Result, Ok}
use Rattle.std.specs.Prelude.{◌==◌, ◌||◌, ◌&&◌, not, is_some}
use Rattle.std.proofs.lemmas.Bool.{eqb-true}
use Rattle.vera_lex.specs.Bytes.{is_blank, is_digit, is_letter, opens_word, run, all}
use Rattle.vera_lex.specs.Forms.{Form, blank, comment, word, decimal, based, string, sign, has, in_line, closes, is_comment, sign_number, IsPiece}
use Rattle.vera_lex.specs.Refusals.{fault, has_end, opens_sign, is_open_comment}
use Rattle.vera_lex.specs.Literals.{opens_based}
use Rattle.vera_lex.specs.Directives as dir
use Rattle.vera_lex.specs.Tokens.{Piece, gap, Stands, directive_piece}
use Rattle.vera_lex.specs.Reading.{comment_front, comment_end, commented, sign_front, sign_length, signed, other_front}
use Rattle.vera_lex.proofs.Digits.{bool_cases, run_formed}
use Rattle.vera_lex.proofs.Runs.{and_true, run_within, run_longest, has_not}
use Rattle.vera_lex.proofs.Faults.{fault_of, fault_at, off_and, or_off, begins_at, stands_piece, stands_fault, stands_directive}
use Rattle.vera_lex.proofs.CommentEnds as comments
use Rattle.vera_lex.proofs.SignLengths.{IsLongest, longest_is, opens, opens_none}
use Rattle.vera_lex.proofs.Plain.{no_based}

-- ---- `/*`

block_faults : (cs : List ℕ) (x : Bool) → has_end cs ≡ x → fault (47 ∷ 42 ∷ cs) ≡ fault_of false false false false (not x) false
block_faults cs x e = fault_at (47 ∷ 42 ∷ cs) false false false false (not x) false refl refl refl refl (rw e refl) refl

block_piece : (cs : List ℕ) (n : ℕ) → comments.IsEnd 0 cs n → IsPiece (47 ∷ 42 ∷ cs) comment (suc (suc n))
block_piece cs n i = record {
  formed = sym (comments.closes_zero (take n cs)) ∙ i.formed;
  within = let le = i.within in omega arith;
  longest = longer;
}
  where
    longer : (other : Form) (m : ℕ) → suc (suc n) < m → m ≤ suc (suc (length cs)) → has other (take m (47 ∷ 42 ∷ cs)) ≡ false
    longer other zero lt le = absurd (omega arith)
    longer other (suc zero) lt le = absurd (omega arith)
    longer blank (suc (suc m)) lt le = has_not blank 47 (42 ∷ take m cs) refl
    longer comment (suc (suc m)) lt le = sym (comments.closes_zero (take m cs)) ∙ i.longest m (omega arith) (omega arith)
    longer word (suc (suc m)) lt le = has_not word 47 (42 ∷ take m cs) refl
    longer decimal (suc (suc m)) lt le = has_not decimal 47 (42 ∷ take m cs) refl
    longer based (suc (suc m)) lt le = has_not based 47 (42 ∷ take m cs) refl
    longer string (suc (suc m)) lt le = has_not string 47 (42 ∷ take m cs) refl
    longer sign (suc (suc m)) lt le = refl

block_found : (cs : List ℕ) (o : Option ℕ) → comments.Ends 0 cs o → Stands (47 ∷ 42 ∷ cs) (commented o)
unfolding fault_of
block_found cs None h = stands_fault (47 ∷ 42 ∷ cs) _ 2 (block_faults cs false (sym (comments.has_end_zero cs) ∙ h)) refl
block_found cs (Some n) i =
    let two : 2 + n ≡ suc (suc n) = omega arith in
    stands_piece (47 ∷ 42 ∷ cs) _ comment (suc (suc n)) (block_faults cs true (sym (comments.has_end_zero cs) ∙ i.has)) refl (block_piece cs n i) (ap (λ (m : ℕ). Ok (gap, m)) two)

block_stands : (cs : List ℕ) → Stands (47 ∷ 42 ∷ cs) (comment_front (47 ∷ 42 ∷ cs))
unfolding comment_front
block_stands cs = block_found cs (comment_end 0 cs) (comments.ends 0 cs)

-- ---- `//`

line_piece : (cs : List ℕ) → IsPiece (47 ∷ 47 ∷ cs) comment (suc (suc (run in_line cs)))
line_piece cs = record {
  formed = rw (run_formed in_line cs) refl;
  within = let le = run_within in_line cs in omega arith;
  longest = longer;
}
  where
    longer : (other : Form) (m : ℕ) → suc (suc (run in_line cs)) < m → m ≤ suc (suc (length cs)) → has other (take m (47 ∷ 47 ∷ cs)) ≡ false
    longer other zero lt le = absurd (omega arith)
    longer other (suc zero) lt le = absurd (omega arith)
    longer blank (suc (suc m)) lt le = has_not blank 47 (47 ∷ take m cs) refl
    longer comment (suc (suc m)) lt le = rw (run_longest in_line cs m (omega arith) (omega arith)) refl
    longer word (suc (suc m)) lt le = has_not word 47 (47 ∷ take m cs) refl
    longer decimal (suc (suc m)) lt le = has_not decimal 47 (47 ∷ take m cs) refl
    longer based (suc (suc m)) lt le = has_not based 47 (47 ∷ take m cs) refl
    longer string (suc (suc m)) lt le = has_not string 47 (47 ∷ take m cs) refl
    longer sign (suc (suc m)) lt le = refl

line_stands : (cs : List ℕ) → Stands (47 ∷ 47 ∷ cs) (Ok (gap, run in_line (47 ∷ 47 ∷ cs)))
unfolding fault_of
line_stands cs = stands_piece (47 ∷ 47 ∷ cs) _ comment (suc (suc (run in_line cs))) (fault_at (47 ∷ 47 ∷ cs) false false false false false false refl refl refl refl refl refl) refl (line_piece cs) refl

-- ---- directives

directive_stands : (bs : List ℕ) → is_letter (get_or bs 0 0) ≡ true → Stands (35 ∷ bs) (directive_piece (dir.directive (35 ∷ bs)))
unfolding fault_of
directive_stands bs e = stands_directive (35 ∷ bs) _ (fault_at (35 ∷ bs) false false false false false false refl refl refl refl refl refl) (letter bs e) refl
  where
    letter : (bs : List ℕ) → is_letter (get_or bs 0 0) ≡ true → dir.opens_directive (35 ∷ bs) ≡ true
    letter [] e = absurd cc
    letter (c ∷ bs) e = rw e refl

-- ---- signs

-- a byte that begins none of the pieces that `front` tells by their first byte
pub record IsOther (b : ℕ) : Type 0 where
  pub is_blank : is_blank b ≡ false
  pub is_word : opens_word b ≡ false
  pub is_digit : is_digit b ≡ false
  pub is_double : (b == 34) ≡ false
  pub is_single : (b == 39) ≡ false

second : (b : ℕ) (bs : List ℕ) → get_or (b ∷ bs) 1 0 ≡ get_or bs 0 0
second b [] = refl
second b (c ∷ bs) = refl

module _ (b : ℕ) (bs : List ℕ) (x : IsOther b) (block : (b == 47 && get_or bs 0 0 == 42) ≡ false) (line : (b == 47 && get_or bs 0 0 == 47) ≡ false) where
  open_comment : is_open_comment (b ∷ bs) ≡ false
  open_comment = go bs block
    where
      three : (p q r : Bool) → (p && q) ≡ false → (p && q && r) ≡ false
      three true true r e = absurd cc
      three true false r e = refl
      three false q r e = refl

      go : (bs : List ℕ) → (b == 47 && get_or bs 0 0 == 42) ≡ false → is_open_comment (b ∷ bs) ≡ false
      go [] e = three (b == 47) false _ (and_false (b == 47))
        where
          and_false : (p : Bool) → (p && false) ≡ false
          and_false true = refl
          and_false false = refl
      go (c ∷ bs) e = three (b == 47) (c == 42) _ e

  no_comment : (m : ℕ) → is_comment (take m (b ∷ bs)) ≡ false
  no_comment zero = refl
  no_comment (suc zero) = refl
  no_comment (suc (suc m)) = go bs block line
    where
      four : (p q r s t : Bool) → (p && q) ≡ false → (p && r) ≡ false → (p && ((r && s) || (q && t))) ≡ false
      four false q r s t e f = refl
      four true false false s t e f = refl
      four true true r s t e f = absurd cc
      four true false true s t e f = absurd cc

      go : (bs : List ℕ) → (b == 47 && get_or bs 0 0 == 42) ≡ false → (b == 47 && get_or bs 0 0 == 47) ≡ false → is_comment (take (suc (suc m)) (b ∷ bs)) ≡ false
      go [] e f = refl
      go (c ∷ bs) e f = four (b == 47) (c == 42) (c == 47) (all in_line (take m bs)) (closes (take m bs)) e f

  none_based : opens_based (b ∷ bs) ≡ false
  none_based = no_based b bs x.is_digit x.is_single

  sign_piece : (n : ℕ) → IsLongest (b ∷ bs) n → 0 < n → IsPiece (b ∷ bs) sign n
  sign_piece n l some = record {
    formed = l.formed some;
    within = l.within;
    longest = longer;
  }
    where
      longer : (other : Form) (m : ℕ) → n < m → m ≤ suc (length bs) → has other (take m (b ∷ bs)) ≡ false
      longer other zero lt le = absurd (omega arith)
      longer blank (suc m) lt le = has_not blank b (take m bs) x.is_blank
      longer comment (suc m) lt le = no_comment (suc m)
      longer word (suc m) lt le = has_not word b (take m bs) x.is_word
      longer decimal (suc m) lt le = has_not decimal b (take m bs) x.is_digit
      longer based (suc m) lt le = has_not based b (take m bs) (rw (x.is_digit, x.is_single) refl)
      longer string (suc m) lt le = has_not string b (take m bs) x.is_double
      longer sign (suc m) lt le = l.longest (suc m) lt le

  faults : (y : Bool) → opens_sign b ≡ y → fault (b ∷ bs) ≡ fault_of (not y) false false false false false
  faults y e = fault_at (b ∷ bs) (not y) false false false false false
      (begins_at b bs false false false false y false x.is_blank x.is_word x.is_digit x.is_double e none_based ∙ last y)
      (rw x.is_double refl) (off_and (opens_based (b ∷ bs)) _ none_based) (rw x.is_double refl) open_comment (off_and (is_digit b || opens_based (b ∷ bs)) _ (or_off (is_digit b) (opens_based (b ∷ bs)) x.is_digit none_based))
    where
      last : (y : Bool) → not (false || false || false || false || y || false) ≡ not y
      last true = refl
      last false = refl

  sign_found : dir.opens_directive (b ∷ bs) ≡ false → (n : ℕ) → IsLongest (b ∷ bs) n → Stands (b ∷ bs) (signed n (sign_number (take n (b ∷ bs))))
  unfolding fault_of
  sign_found hash zero l = stands_fault (b ∷ bs) _ 1 (faults false (opens_none b (l.longest 1 (omega arith) (omega arith)))) refl
  sign_found hash (suc n) l = go (sign_number (b ∷ take n bs)) refl
    where
      is_sign : is_some (sign_number (b ∷ take n bs)) ≡ true
      is_sign = l.formed (omega arith)

      go : (o : Option ℕ) → sign_number (b ∷ take n bs) ≡ o → Stands (b ∷ bs) (signed (suc n) o)
      go None e = let f : false ≡ true = rw e at is_sign in absurd cc
      go (Some k) e = stands_piece (b ∷ bs) _ sign (suc n) (faults true (opens b (take n bs) is_sign)) hash (sign_piece (suc n) l (omega arith)) (rw e refl)

  pub sign_stands : dir.opens_directive (b ∷ bs) ≡ false → Stands (b ∷ bs) (sign_front (b ∷ bs))
  unfolding sign_front
  sign_stands hash = sign_found hash (sign_length (b ∷ bs)) (longest_is (b ∷ bs))

-- ---- all of these

pub other_stands : (b : ℕ) (bs : List ℕ) → IsOther b → Stands (b ∷ bs) (other_front (b ∷ bs))
unfolding other_front
other_stands b bs x = elim (bool_cases (b == 47 && get_or bs 0 0 == 42)) [
  | inl e ↦ is (comment_front (b ∷ bs)) (rw (second b bs, e) refl) (block bs e)
  | inr e ↦ elim (bool_cases (b == 47 && get_or bs 0 0 == 47)) [
    | inl f ↦ is (Ok (gap, run in_line (b ∷ bs))) (rw (second b bs, e, f) refl) (line bs f)
    | inr f ↦ elim (bool_cases (b == 35 && is_letter (get_or bs 0 0))) [
      | inl g ↦ is (directive_piece (dir.directive (b ∷ bs))) (rw (second b bs, e, f, g) refl) (hash g)
      | inr g ↦ is (sign_front (b ∷ bs)) (rw (second b bs, e, f, g) refl) (sign_stands b bs x e f (rw (second b bs) g))
    ]
  ]
]
  where
    is : (o : Result (Piece × ℕ) ℕ) → other_front (b ∷ bs) ≡ o → Stands (b ∷ bs) o → Stands (b ∷ bs) (other_front (b ∷ bs))
    is o e h = subst (λ (o : Result (Piece × ℕ) ℕ). Stands (b ∷ bs) o) (sym e) h

    block : (bs : List ℕ) → (b == 47 && get_or bs 0 0 == 42) ≡ true → Stands (b ∷ bs) (comment_front (b ∷ bs))
    block [] e = absurd (never (b == 47) e)
      where
        never : (p : Bool) → (p && false) ≡ true → ⊥
        never true e = absurd cc
        never false e = absurd cc
    block (c ∷ cs) e =
        let both = and_true (b == 47) (c == 42) e in
        let P : ℕ → ℕ → Type 0 = λ u v. Stands (u ∷ v ∷ cs) (comment_front (u ∷ v ∷ cs)) in
        subst (λ (u : ℕ). P u c) (sym (eqb-true b 47 both.0)) (subst (λ (v : ℕ). P 47 v) (sym (eqb-true c 42 both.1)) (block_stands cs))

    line : (bs : List ℕ) → (b == 47 && get_or bs 0 0 == 47) ≡ true → Stands (b ∷ bs) (Ok (gap, run in_line (b ∷ bs)))
    line [] e = absurd (never (b == 47) e)
      where
        never : (p : Bool) → (p && false) ≡ true → ⊥
        never true e = absurd cc
        never false e = absurd cc
    line (c ∷ cs) e =
        let both = and_true (b == 47) (c == 47) e in
        let P : ℕ → ℕ → Type 0 = λ u v. Stands (u ∷ v ∷ cs) (Ok (gap, run in_line (u ∷ v ∷ cs))) in
        subst (λ (u : ℕ). P u c) (sym (eqb-true b 47 both.0)) (subst (λ (v : ℕ). P 47 v) (sym (eqb-true c 47 both.1)) (line_stands cs))

    hash : (b == 35 && is_letter (get_or bs 0 0)) ≡ true → Stands (b ∷ bs) (directive_piece (dir.directive (b ∷ bs)))
    hash g =
        let both = and_true (b == 35) (is_letter (get_or bs 0 0)) g in
        subst (λ (u : ℕ). Stands (u ∷ bs) (directive_piece (dir.directive (u ∷ bs)))) (sym (eqb-true b 35 both.0)) (directive_stands bs both.1)
