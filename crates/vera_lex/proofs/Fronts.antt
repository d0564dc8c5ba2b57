-- What reading finds at the front of a text is what stands there.
use Rattle.std.proofs.Common.{◌≡◌, ℕ, zero, suc, ◌+◌, ◌<◌, ◌≤◌, Bool, true, false, List, [], ◌∷◌, length, take, drop, get_or, refl, sym, ap, subst, ◌∙◌, arith, inl, inr, Option, Some, None, Result, Ok}
use Rattle.std.specs.Prelude.{◌==◌, ◌||◌, ◌&&◌, if◌then◌else◌, nat_eq, codes}
use Rattle.std.specs.Str.{bytes_eq}
use Rattle.std.specs.List.{starts_with}
use Rattle.std.specs.Cmp.Lexicographic.{same_text}
use Rattle.std.proofs.lemmas.Bool.{eqb-true}
use Rattle.std.proofs.lemmas.List.{length-drop, length-take}
use Rattle.vera_lex.specs.Bytes.{is_blank, is_space, is_digit, opens_word, in_word, run}
use Rattle.vera_lex.specs.Forms.{Form, IsPiece}
use Rattle.vera_lex.specs.Refusals.{fault}
use Rattle.vera_lex.specs.Directives as dir
use Rattle.vera_lex.specs.Directives.{Directive, include, define, gap as gap_of, header, front_word, include_at, define_at, directive_behind, opens_directive}
use Rattle.vera_lex.specs.Tokens.{Piece, gap, directive, piece_at, directive_piece, StandsUnless, Stands}
use Rattle.vera_lex.specs.Reading.{word_front, number_front, string_front, other_front, front}
use Rattle.vera_lex.proofs.Digits.{bool_cases}
use Rattle.vera_lex.proofs.Runs.{run_within, has_some}
use Rattle.vera_lex.proofs.Plain.{blank_stands, word_stands, string_stands}
use Rattle.vera_lex.proofs.NumberFronts.{number_stands}
use Rattle.vera_lex.proofs.Comments.{other_stands}

or_parts : (x y : Bool) → (x || y) ≡ false → (x ≡ false) × (y ≡ false)
or_parts true y e = absurd cc
or_parts false y e = (refl, e)

pub front_stands : (b : ℕ) (bs : List ℕ) → Stands (b ∷ bs) (front (b ∷ bs))
unfolding front
front_stands b bs = elim (bool_cases (is_blank b)) [
  | inl e ↦ is (Ok (gap, 1)) (chosen (is_blank b) true e _ _) (blank_stands b bs e)
  | inr e ↦ elim (bool_cases (opens_word b)) [
    | inl f ↦ is (word_front (b ∷ bs)) (chosen (is_blank b) false e _ _ ∙ chosen (opens_word b) true f _ _) (word_stands b bs f)
    | inr f ↦ elim (bool_cases (is_digit b || b == 39)) [
      | inl g ↦ is (number_front (b ∷ bs)) (chosen (is_blank b) false e _ _ ∙ chosen (opens_word b) false f _ _ ∙ chosen (is_digit b || b == 39) true g _ _) (number_stands b bs g)
      | inr g ↦ elim (bool_cases (b == 34)) [
        | inl q ↦ is (string_front (b ∷ bs)) (chosen (is_blank b) false e _ _ ∙ chosen (opens_word b) false f _ _ ∙ chosen (is_digit b || b == 39) false g _ _ ∙ chosen (b == 34) true q _ _)
            (subst (λ (x : ℕ). Stands (x ∷ bs) (string_front (x ∷ bs))) (sym (eqb-true b 34 q)) (string_stands bs))
        | inr q ↦
            let parts = or_parts (is_digit b) (b == 39) g in
            is (other_front (b ∷ bs)) (chosen (is_blank b) false e _ _ ∙ chosen (opens_word b) false f _ _ ∙ chosen (is_digit b || b == 39) false g _ _ ∙ chosen (b == 34) false q _ _)
            (other_stands b bs (record { is_blank = e; is_word = f; is_digit = parts.0; is_double = q; is_single = parts.1 }))
      ]
    ]
  ]
]
  where
    is : (o : Result (Piece × ℕ) ℕ) → front (b ∷ bs) ≡ o → Stands (b ∷ bs) o → Stands (b ∷ bs) (front (b ∷ bs))
    is o e h = subst (λ (o : Result (Piece × ℕ) ℕ). Stands (b ∷ bs) o) (sym e) h

    chosen : (a c : Bool) → a ≡ c → (x y : Result (Piece × ℕ) ℕ) → (if a then x else y) ≡ (if c then x else y)
    chosen a c e x y = rw e refl

-- ---- how many bytes

gap_within : (inside : Bool) (bs : List ℕ) → gap_of inside bs ≤ length bs
gap_within inside [] = omega arith
gap_within true (a ∷ []) = elim (bool_cases (a == 10)) [ inl e ↦ rw e (omega arith) | inr e ↦ rw e (omega arith) ]
gap_within false (a ∷ []) = elim (bool_cases (is_space a)) [ inl e ↦ rw e (omega arith) | inr e ↦ rw e (omega arith) ]
gap_within true (a ∷ b ∷ bs) = elim (bool_cases (a == 42 && b == 47)) [
  | inl e ↦ rw e (let h = gap_within false bs in omega arith)
  | inr e ↦ elim (bool_cases (a == 10)) [
    | inl f ↦ rw (e, f) (omega arith)
    | inr f ↦ rw (e, f) (let h = gap_within true (b ∷ bs) in omega arith)
  ]
]
gap_within false (a ∷ b ∷ bs) = elim (bool_cases (is_space a)) [
  | inl e ↦ rw e (let h = gap_within false (b ∷ bs) in omega arith)
  | inr e ↦ elim (bool_cases (a == 47 && b == 42)) [
    | inl f ↦ rw (e, f) (let h = gap_within true bs in omega arith)
    | inr f ↦ rw (e, f) (omega arith)
  ]
]

count_of : (x : Bool) (d d' : Directive) (k n : ℕ) → if◌then◌else◌ {A = Option (Directive × ℕ)} x (Some (d, k)) None ≡ Some (d', n) → (x ≡ true) × (n ≡ k)
count_of false d d' k n e = absurd cc
count_of true d d' k n e =
    let pair : (d, k) ≡ (d', n) = cc in
    (refl, sym (ap (λ (x : Directive × ℕ). x.1) pair))

include_bounds : (bs : List ℕ) (d : Directive) (n : ℕ) → include_at bs ≡ Some (d, n) → (0 < n) × (n ≤ 8 + length bs)
include_bounds bs d n e =
    let h = count_of (starts_with nat_eq (drop (run is_space bs) bs) header) include d (8 + run is_space bs + 18) n e in
    let count = h.1 in
    let same : header ≡ take 18 (drop (run is_space bs) bs) = same_text header (take 18 (drop (run is_space bs) bs)) (sym h.0) in
    let long : 18 ≡ length (take 18 (drop (run is_space bs) bs)) = ap (λ (w : List ℕ). length w) same in
    let taken = length-take 18 (drop (run is_space bs) bs) in
    let dropped = length-drop (run is_space bs) bs in
    (omega arith, omega arith)

define_bounds : (bs : List ℕ) (d : Directive) (n : ℕ) → define_at bs ≡ Some (d, n) → (0 < n) × (n ≤ 7 + length bs)
define_bounds bs d n e =
    let h = count_of (opens_word (get_or (drop (gap_of false bs) bs) 0 0)) (define (front_word (drop (gap_of false bs) bs))) d (7 + gap_of false bs + run in_word (drop (gap_of false bs) bs)) n e in
    let count = h.1 in
    let gap_fits = gap_within false bs in
    let word_fits = run_within in_word (drop (gap_of false bs) bs) in
    let dropped = length-drop (gap_of false bs) bs in
    (omega arith, omega arith)

-- the word in front of the rest has its length
word_length : (bs w : List ℕ) → bytes_eq (front_word bs) w ≡ true → run in_word bs ≡ length w
word_length bs w e =
    let same : front_word bs ≡ w = same_text (front_word bs) w (sym e) in
    let long : length (front_word bs) ≡ length w = ap (λ (w : List ℕ). length w) same in
    let taken = length-take (run in_word bs) bs in
    let le = run_within in_word bs in
    omega arith

none_some : (x : Directive × ℕ) → None ≡ (let o : Option (Directive × ℕ) = Some x in o) → ⊥
none_some x e = cc

directive_bounds : (b : ℕ) (bs : List ℕ) (d : Directive) (n : ℕ) → dir.directive (b ∷ bs) ≡ Some (d, n) → (0 < n) × (n ≤ suc (length bs))
unfolding directive_behind
directive_bounds b bs d n e = elim (bool_cases (bytes_eq (front_word bs) (codes "include"))) [
  | inl f ↦
      let at : include_at (drop (run in_word bs) bs) ≡ Some (d, n) = sym (first (bytes_eq (front_word bs) (codes "include")) true f _ _) ∙ e in
      let h = include_bounds (drop (run in_word bs) bs) d n at in
      let le = h.1 in
      let seven : run in_word bs ≡ 7 = word_length bs (codes "include") f in
      let fits = run_within in_word bs in
      let dropped = length-drop (run in_word bs) bs in
      (h.0, omega arith)
  | inr f ↦ elim (bool_cases (bytes_eq (front_word bs) (codes "define"))) [
    | inl g ↦
        let at : define_at (drop (run in_word bs) bs) ≡ Some (d, n) =
        sym (first (bytes_eq (front_word bs) (codes "include")) false f _ _ ∙ first (bytes_eq (front_word bs) (codes "define")) true g _ _) ∙ e in
        let h = define_bounds (drop (run in_word bs) bs) d n at in
        let le = h.1 in
        let six : run in_word bs ≡ 6 = word_length bs (codes "define") g in
        let fits = run_within in_word bs in
        let dropped = length-drop (run in_word bs) bs in
        (h.0, omega arith)
    | inr g ↦
        let none : None ≡ Some (d, n) =
        sym (first (bytes_eq (front_word bs) (codes "include")) false f _ _ ∙ first (bytes_eq (front_word bs) (codes "define")) false g _ _) ∙ e in
        absurd (none_some (d, n) none)
  ]
]
  where
    first : (a c : Bool) → a ≡ c → (x y : Option (Directive × ℕ)) → (if a then x else y) ≡ (if c then x else y)
    first a c e x y = rw e refl

piece_bounds : (text : List ℕ) (form : Form) (n : ℕ) → IsPiece text form n → (0 < n) × (n ≤ length text)
piece_bounds text form zero i = let f = has_some form in let x : true ≡ false = sym i.formed ∙ f in absurd cc
piece_bounds text form (suc n) i = (omega arith, i.within)

bounds : (b : ℕ) (bs : List ℕ) (f : Option ℕ) (d : Bool) (p : Piece) (n : ℕ) → StandsUnless f d (b ∷ bs) (Ok (p, n)) → (0 < n) × (n ≤ suc (length bs))
bounds b bs (Some code) d p n s = absurd cc
bounds b bs None true p n s = go (dir.directive (b ∷ bs)) refl s
  where
    go : (o : Option (Directive × ℕ)) → dir.directive (b ∷ bs) ≡ o → Ok (p, n) ≡ directive_piece o → (0 < n) × (n ≤ suc (length bs))
    go None e s = absurd cc
    go (Some d) e s =
        let pair : (p, n) ≡ (directive d.0, d.1) = cc in
        let count : n ≡ d.1 = ap (λ (x : Piece × ℕ). x.1) pair in
        rw count (directive_bounds b bs d.0 d.1 e)
bounds b bs None false p n s =
    let pair : (p, n) ≡ (piece_at s.0 (b ∷ bs) s.1, s.1) = whole s.3 in
    let count : n ≡ s.1 = ap (λ (x : Piece × ℕ). x.1) pair in
    rw count (piece_bounds (b ∷ bs) s.0 s.1 s.2)
  where
    whole : {x y : Piece × ℕ} → Ok x ≡ (let r : Result (Piece × ℕ) ℕ = Ok y in r) → x ≡ y
    whole e = cc

pub front_bounds : (text : List ℕ) (p : Piece) (n : ℕ) → 0 < length text → Ok (p, n) ≡ front text → (0 < n) × (n ≤ length text)
front_bounds [] p n some e = absurd (omega arith)
front_bounds (b ∷ bs) p n some e = bounds b bs (fault (b ∷ bs)) (opens_directive (b ∷ bs)) p n (subst (λ (o : Result (Piece × ℕ) ℕ). Stands (b ∷ bs) o) (sym e) (front_stands b bs))
