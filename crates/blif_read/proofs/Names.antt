-- Names that are known, and their numbers.
use Rattle.std.proofs.Common.{◌≡◌, ℕ, suc, ◌+◌, ◌<◌, Bool, true, false, cond, not, ◌||◌, ◌&&◌, List, [], ◌∷◌, ◌++◌, length, refl, sym, ◌∙◌, ap, append_assoc, append-nil, arith, Option, None, Some, subst}
use Rattle.std.specs.Prelude.{bytes_eq}
use Rattle.std.specs.List.{list_any, filter, position_or_len}
use Rattle.std.proofs.lemmas.Cmp.{nat_list_eq_equiv}
use Rattle.std.proofs.lemmas.Map.Views.{any-filter_same}
use Rattle.std.proofs.lemmas.List.Elements.{filter-append}
use Rattle.std.proofs.lemmas.Slice.Eq.{bytes_eq-Decides}
use Rattle.blif_read.specs.Directives.{Name}
use Rattle.blif_read.specs.Nets.{distinct, number}
use Rattle.blif_read.specs.Known.{is_known, known_with, known_with_all}

symm : (x y : Name) → bytes_eq x y ≡ bytes_eq y x
symm x y = nat_list_eq_equiv.symm x y

-- ---- distinct
others : Name → List Name → List Name
others x ys = filter (λ other. not (bytes_eq x other)) ys

known-others : (x y : Name) (zs : List Name) → list_any (bytes_eq y) (others x zs) ≡ (not (bytes_eq x y) && list_any (bytes_eq y) zs)
unfolding others
known-others x y zs = any-filter_same (bytes_eq y) (λ o. not (bytes_eq x o)) (not (bytes_eq x y)) (λ k e. ap not (symm x k ∙ sym (nat_list_eq_equiv.congr y k x e) ∙ symm y x)) zs

absorb : (a c : Bool) → (a || (not a && c)) ≡ (a || c)
absorb true c = refl
absorb false c = refl

head_or_others : (x y : Name) (zs : List Name) → (bytes_eq y x || list_any (bytes_eq y) (others x zs)) ≡ (bytes_eq y x || list_any (bytes_eq y) zs)
head_or_others x y zs = ap (λ b. bytes_eq y x || b) (known-others x y zs ∙ ap (λ b. not b && list_any (bytes_eq y) zs) (symm x y)) ∙ absorb (bytes_eq y x) (list_any (bytes_eq y) zs)

pub known-distinct : (xs : List Name) (y : Name) → list_any (bytes_eq y) (distinct xs) ≡ list_any (bytes_eq y) xs
unfolding distinct others
known-distinct [] y = refl
known-distinct (x ∷ xs) y = head_or_others x y (distinct xs) ∙ ap (λ b. bytes_eq y x || b) (known-distinct xs y)

one_other : (x y : Name) (b : Bool) → bytes_eq x y ≡ b → others x (y ∷ []) ≡ cond b [] (y ∷ [])
unfolding others
one_other x y true e = ap (λ b. cond (not b) (y ∷ []) []) e
one_other x y false e = ap (λ b. cond (not b) (y ∷ []) []) e

others-append : (x : Name) (ys zs : List Name) → others x (ys ++ zs) ≡ others x ys ++ others x zs
unfolding others
others-append x ys zs = filter-append (λ other. not (bytes_eq x other)) ys zs

push_by : (x y : Name) (ds : List Name) (b c : Bool) → bytes_eq y x ≡ b → list_any (bytes_eq y) ds ≡ c → x ∷ others x (cond c ds (ds ++ y ∷ [])) ≡ cond (b || c) (x ∷ others x ds) (x ∷ others x ds ++ y ∷ [])
push_by x y ds true true p q = refl
push_by x y ds true false p q = ap (λ t. x ∷ t) (others-append x ds (y ∷ []) ∙ ap (λ t. others x ds ++ t) (one_other x y true (symm x y ∙ p)) ∙ append-nil (others x ds))
push_by x y ds false true p q = refl
push_by x y ds false false p q = ap (λ t. x ∷ t) (others-append x ds (y ∷ []) ∙ ap (λ t. others x ds ++ t) (one_other x y false (symm x y ∙ p)))

pub distinct-push : (xs : List Name) (y : Name) → distinct (xs ++ y ∷ []) ≡ known_with y (distinct xs)
unfolding distinct known_with is_known others
distinct-push [] y = refl
distinct-push (x ∷ xs) y =
    ap (λ ds. x ∷ others x ds) (distinct-push xs y)
    ∙ push_by x y (distinct xs) (bytes_eq y x) (list_any (bytes_eq y) (distinct xs)) refl refl
    ∙ ap (λ b. cond b (x ∷ others x (distinct xs)) (x ∷ others x (distinct xs) ++ y ∷ [])) (sym (head_or_others x y (distinct xs)))

known_with_all-distinct : (ys xs : List Name) → known_with_all ys (distinct xs) ≡ distinct (xs ++ ys)
unfolding known_with_all
known_with_all-distinct [] xs = ap distinct (sym (append-nil xs))
known_with_all-distinct (y ∷ ys) xs = ap (known_with_all ys) (sym (distinct-push xs y)) ∙ known_with_all-distinct ys (xs ++ y ∷ []) ∙ ap distinct (append_assoc xs (y ∷ []) ys)

pub known_with_all-nothing : (ys : List Name) → known_with_all ys [] ≡ distinct ys
unfolding distinct
known_with_all-nothing ys = known_with_all-distinct ys []

pub known_with_all-append : (xs ys known : List Name) → known_with_all (xs ++ ys) known ≡ known_with_all ys (known_with_all xs known)
unfolding known_with_all
known_with_all-append [] ys known = refl
known_with_all-append (x ∷ xs) ys known = known_with_all-append xs ys (known_with x known)

-- ---- further names come at the end
pub record Extends (known longer : List Name) : Type 0 where
  pub added : List Name
  pub is : longer ≡ known ++ added

extends_by : (known : List Name) (name : Name) (b : Bool) → Extends known (cond b known (known ++ name ∷ []))
extends_by known name true = record { added = []; is = sym (append-nil known) }
extends_by known name false = record { added = name ∷ []; is = refl }

extends_one : (known : List Name) (name : Name) → Extends known (known_with name known)
unfolding known_with
extends_one known name = extends_by known name (is_known known name)

extends_trans : (a b c : List Name) → Extends a b → Extends b c → Extends a c
extends_trans a b c h k = record { added = h.added ++ k.added; is = k.is ∙ ap (λ t. t ++ k.added) h.is ∙ append_assoc a h.added k.added }

pub extends_all : (names known : List Name) → Extends known (known_with_all names known)
unfolding known_with_all
extends_all [] known = record { added = []; is = sym (append-nil known) }
extends_all (name ∷ more) known = extends_trans known (known_with name known) _ (extends_one known name) (extends_all more (known_with name known))

-- a fact of all longer lists
pub stays_longer : {A : Type 0} (f : List Name → A) (a : A) (known longer : List Name) → Extends known longer → ((more : List Name) → f (known ++ more) ≡ a) → (more : List Name) → f (longer ++ more) ≡ a
stays_longer f a known longer h stays more = ap f (ap (λ t. t ++ more) h.is ∙ append_assoc known h.added more) ∙ stays (h.added ++ more)

-- ---- numbers
number-cons : (k : Name) (ks : List Name) (name : Name) → number (k ∷ ks) name ≡ cond (bytes_eq name k) 0 (1 + number ks name)
unfolding number
number-cons k ks name = by_test (bytes_eq name k) where
  by_test : (b : Bool) → cond (not b) (1 + position_or_len (bytes_eq name) ks) 0 ≡ cond b 0 (1 + position_or_len (bytes_eq name) ks)
  by_test true = refl
  by_test false = refl

append_by : (b : Bool) (m n : ℕ) → (b ≡ false → m ≡ n) → cond b 0 (1 + m) ≡ cond b 0 (1 + n)
append_by true m n h = refl
append_by false m n h = ap (λ x. 1 + x) (h refl)

or_false : (a c : Bool) → (a || c) ≡ true → a ≡ false → c ≡ true
or_false true c e f = cc
or_false false c e f = e

pub number-append : (known more : List Name) (name : Name) → is_known known name ≡ true → number (known ++ more) name ≡ number known name
unfolding is_known
number-append [] more name e = cc
number-append (k ∷ ks) more name e =
    number-cons k (ks ++ more) name
    ∙ append_by (bytes_eq name k) _ _ (λ f. number-append ks more name (or_false _ _ e f))
    ∙ sym (number-cons k ks name)

or_left : (a c : Bool) → (a || c) ≡ false → a ≡ false
or_left true c e = e
or_left false c e = refl

or_right : (a c : Bool) → (a || c) ≡ false → c ≡ false
or_right true c e = cc
or_right false c e = e

pub same_name : (name : Name) → bytes_eq name name ≡ true
same_name name = (bytes_eq-Decides name name).1 refl

pub number-new : (known more : List Name) (name : Name) → is_known known name ≡ false → number (known ++ (name ∷ more)) name ≡ length known
unfolding is_known
number-new [] more name e = number-cons name more name ∙ ap (λ b. cond b 0 (1 + number more name)) (same_name name)
number-new (k ∷ ks) more name e =
    number-cons k (ks ++ (name ∷ more)) name
    ∙ ap (λ b. cond b 0 (1 + number (ks ++ (name ∷ more)) name)) (or_left _ _ e)
    ∙ ap (λ n. 1 + n) (number-new ks more name (or_right _ _ e))
    ∙ omega arith

below_by : (b : Bool) (n m : ℕ) → (b ≡ false → n < m) → cond b 0 (1 + n) < suc m
below_by true n m h = omega arith
below_by false n m h = let k = h refl in omega (arith, k)

pub number_below : (known : List Name) (name : Name) → is_known known name ≡ true → number known name < length known
unfolding is_known
number_below [] name e = cc
number_below (k ∷ ks) name e = subst (λ (n : ℕ). n < suc (length ks)) (sym (number-cons k ks name)) (below_by (bytes_eq name k) _ _ (λ f. number_below ks name (or_false _ _ e f)))

-- ---- one more name
pub known_with-old : (name : Name) (known : List Name) → is_known known name ≡ true → known_with name known ≡ known
unfolding known_with
known_with-old name known e = ap (λ b. cond b known (known ++ name ∷ [])) e

pub known_with-new : (name : Name) (known : List Name) → is_known known name ≡ false → known_with name known ≡ known ++ name ∷ []
unfolding known_with
known_with-new name known e = ap (λ b. cond b known (known ++ name ∷ [])) e

pub stays-old : (name : Name) (known : List Name) → is_known known name ≡ true → (more : List Name) → number (known ++ more) name ≡ number known name
stays-old name known e more = number-append known more name e

pub stays-new : (name : Name) (known : List Name) → is_known known name ≡ false → (more : List Name) → number ((known ++ name ∷ []) ++ more) name ≡ length known
stays-new name known e more = ap (λ ks. number ks name) (append_assoc known (name ∷ []) more) ∙ number-new known more name e

or_assoc : (a b c : Bool) → (a || (b || c)) ≡ ((a || b) || c)
or_assoc true b c = refl
or_assoc false b c = refl

or_false_right : (a : Bool) → (a || false) ≡ a
or_false_right true = refl
or_false_right false = refl

known-push : (known : List Name) (name q : Name) → is_known (known ++ name ∷ []) q ≡ (is_known known q || bytes_eq q name)
unfolding is_known
known-push [] name q = or_false_right (bytes_eq q name)
known-push (k ∷ ks) name q = ap (λ b. bytes_eq q k || b) (known-push ks name q) ∙ or_assoc (bytes_eq q k) _ _

-- what an index finds
abbrev pub found : List Name → Name → Option ℕ
found known q = cond (is_known known q) (Some (number known q)) None

or_true_right : (a : Bool) → (a || true) ≡ true
or_true_right true = refl
or_true_right false = refl

found_old : (known : List Name) (name q : Name) (b : Bool) → is_known known q ≡ b → cond b (Some (number known q)) None ≡ cond b (Some (number (known ++ name ∷ []) q)) None
found_old known name q true e = ap Some (sym (number-append known (name ∷ []) q e))
found_old known name q false e = refl

found_by : (known : List Name) (name q : Name) (b : Bool) → is_known known name ≡ false → bytes_eq name q ≡ b → cond b (Some (length known)) (found known q) ≡ found (known ++ name ∷ []) q
found_by known name q true new e =
    let same : name ≡ q = (bytes_eq-Decides name q).0 e in
    sym (ap (λ c. cond c (Some (number (known ++ name ∷ []) q)) None) (known-push known name q ∙ ap (λ c. is_known known q || c) (symm q name ∙ e) ∙ or_true_right (is_known known q))
    ∙ ap (λ (r : Name). Some (number (known ++ name ∷ []) r)) (sym same) ∙ ap Some (number-new known [] name new))
found_by known name q false new e =
    found_old known name q (is_known known q) refl
    ∙ sym (ap (λ c. cond c (Some (number (known ++ name ∷ []) q)) None) (known-push known name q ∙ ap (λ c. is_known known q || c) (symm q name ∙ e) ∙ or_false_right (is_known known q)))

pub found-push : (known : List Name) (name q : Name) → is_known known name ≡ false → cond (bytes_eq name q) (Some (length known)) (found known q) ≡ found (known ++ name ∷ []) q
found-push known name q new = found_by known name q (bytes_eq name q) new refl
