-- What marks say after one more net.
use Rattle.std.proofs.Common.{◌≡◌, ℕ, ◌+◌, ◌<◌, ◌≤◌, Bool, true, false, ◌||◌, List, [], ◌∷◌, ◌++◌, length, take, get_or, refl, sym, ◌∙◌, ap, append_assoc, append-nil, subst, eqb, drop}
use Rattle.std.specs.List.{list_any}
use Rattle.std.proofs.lemmas.List.Folds.{list_any-append}
use Rattle.std.proofs.lemmas.Cmp.{nat_eq_equiv}
use Rattle.std.proofs.lemmas.List.{at_drop_more, at_drop_all, take_more}
use Rattle.blif_read.specs.Refusals.{is_in, meet, has_repeat}
use Rattle.blif_read.specs.Sets.{IsSet, clashes}

pub is_in-append : (xs ys : List ℕ) (net : ℕ) → is_in (xs ++ ys) net ≡ (is_in xs net || is_in ys net)
is_in-append xs ys net = list_any-append (λ other. eqb net other) xs ys

pub or_false_right : (a : Bool) → (a || false) ≡ a
or_false_right true = refl
or_false_right false = refl

or_true_right : (a : Bool) → (a || true) ≡ true
or_true_right true = refl
or_true_right false = refl

is_in-push : (xs : List ℕ) (y net : ℕ) → is_in (xs ++ y ∷ []) net ≡ (is_in xs net || eqb net y)
is_in-push xs y net = is_in-append xs (y ∷ []) net ∙ ap (λ b. is_in xs net || b) (or_false_right (eqb net y))

pub any_push : {A : Type 0} (p : A → Bool) (xs : List A) (y : A) → list_any p (xs ++ y ∷ []) ≡ (list_any p xs || p y)
any_push p xs y = list_any-append p xs (y ∷ []) ∙ ap (λ b. list_any p xs || b) (or_false_right (p y))

pub eq_symm : (x y : ℕ) → eqb x y ≡ eqb y x
eq_symm x y = nat_eq_equiv.symm x y

-- ---- a list of nets, one at a time
pub set-next : (marks : List Bool) (known nets : List ℕ) (i net : ℕ) → i < length nets → net ≡ get_or nets i net → IsSet marks ((known ++ take i nets) ++ net ∷ []) → IsSet marks (known ++ take (i + 1) nets)
set-next marks known nets i net lt at h =
    subst (λ (xs : List ℕ). IsSet marks xs) (append_assoc known (take i nets) (net ∷ []) ∙ ap (λ xs. known ++ xs) (ap (λ n. take i nets ++ n ∷ []) at ∙ sym (take_more nets i net lt))) h

-- ---- clashes
meet-push : (known ys : List ℕ) (y : ℕ) → meet (known ++ y ∷ []) ys ≡ (meet known ys || is_in ys y)
meet-push known [] y = refl
meet-push known (x ∷ xs) y = ap (λ b. b || meet (known ++ y ∷ []) xs) (is_in-push known y x ∙ ap (λ b. is_in known x || b) (eq_symm x y)) ∙ ap (λ b. (is_in known x || eqb y x) || b) (meet-push known xs y) ∙ shuffle (is_in known x) (eqb y x) (meet known xs) (is_in xs y) where
  shuffle : (a b c d : Bool) → ((a || b) || (c || d)) ≡ ((a || c) || (b || d))
  shuffle true b c d = refl
  shuffle false true true d = refl
  shuffle false true false d = refl
  shuffle false false c d = refl

pub clashes-cons : (known ys : List ℕ) (y : ℕ) → clashes known (y ∷ ys) ≡ (is_in known y || clashes (known ++ y ∷ []) ys)
unfolding clashes
clashes-cons known ys y = shuffle (is_in ys y) (has_repeat ys) (is_in known y) (meet known ys) ∙ sym (ap (λ b. is_in known y || (has_repeat ys || b)) (meet-push known ys y)) where
  shuffle : (a b c d : Bool) → ((a || b) || (c || d)) ≡ (c || (b || (d || a)))
  shuffle true true true d = refl
  shuffle true true false d = refl
  shuffle true false true d = refl
  shuffle true false false true = refl
  shuffle true false false false = refl
  shuffle false true true d = refl
  shuffle false true false d = refl
  shuffle false false true d = refl
  shuffle false false false true = refl
  shuffle false false false false = refl

clashes-nothing : (known : List ℕ) → clashes known [] ≡ false
unfolding clashes
clashes-nothing known = refl

pub clashes-next : (known nets : List ℕ) (i net : ℕ) → i < length nets → net ≡ get_or nets i net → clashes (known ++ take i nets) (drop i nets) ≡ (is_in (known ++ take i nets) net || clashes (known ++ take (i + 1) nets) (drop (i + 1) nets))
clashes-next known nets i net lt at =
    at_drop_more (clashes (known ++ take i nets)) nets i net lt
    ∙ clashes-cons (known ++ take i nets) (drop (i + 1) nets) (get_or nets i net)
    ∙ ap (λ b. b || clashes ((known ++ take i nets) ++ get_or nets i net ∷ []) (drop (i + 1) nets)) (ap (is_in (known ++ take i nets)) (sym at))
    ∙ ap (λ xs. is_in (known ++ take i nets) net || clashes xs (drop (i + 1) nets)) (append_assoc known (take i nets) (get_or nets i net ∷ []) ∙ ap (λ xs. known ++ xs) (sym (take_more nets i net lt)))

pub clashes-first : (known nets : List ℕ) → clashes (known ++ []) nets ≡ clashes known nets
clashes-first known nets = ap (λ xs. clashes xs nets) (append-nil known)

pub clashes-end : (known nets : List ℕ) (i : ℕ) → length nets ≤ i → clashes (known ++ take i nets) (drop i nets) ≡ false
clashes-end known nets i le = at_drop_all (clashes (known ++ take i nets)) nets i le ∙ clashes-nothing (known ++ take i nets)

pub clashes-append : (known xs ys : List ℕ) → clashes known (xs ++ ys) ≡ (clashes known xs || clashes (known ++ xs) ys)
clashes-append known [] ys = sym (ap (λ b. b || clashes (known ++ []) ys) (clashes-nothing known) ∙ clashes-first known ys)
clashes-append known (x ∷ xs) ys =
    clashes-cons known (xs ++ ys) x
    ∙ ap (λ b. is_in known x || b) (clashes-append (known ++ x ∷ []) xs ys ∙ ap (λ zs. clashes (known ++ x ∷ []) xs || clashes zs ys) (append_assoc known (x ∷ []) xs))
    ∙ or_assoc (is_in known x) (clashes (known ++ x ∷ []) xs) (clashes (known ++ (x ∷ xs)) ys)
    ∙ ap (λ b. b || clashes (known ++ (x ∷ xs)) ys) (sym (clashes-cons known xs x)) where
      or_assoc : (a b c : Bool) → (a || (b || c)) ≡ ((a || b) || c)
      or_assoc true b c = refl
      or_assoc false b c = refl
