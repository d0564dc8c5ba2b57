-- The first of several lists of refusals.
use Rattle.std.proofs.Common.{◌≡◌, ℕ, ◌+◌, ◌<◌, ◌≤◌, Bool, true, false, ◌||◌, List, [], ◌∷◌, ◌++◌, length, drop, take, get_or, refl, sym, ◌∙◌, ap, None, Some, subst}
use Rattle.std.specs.List.{slice_get, flat_map}
use Rattle.std.proofs.lemmas.List.{at_drop_more, at_drop_all, take_more}
use Rattle.blif_read.specs.declared.directives.Directive.{Directive}
use Rattle.blif_read.specs.declared.directives.Block.{Block}
use Rattle.blif_read.specs.declared.refusals.Refusal.{Refusal}
use Rattle.blif_read.specs.declared.refusals.Seen.{Seen}
use Rattle.blif_read.specs.Checking.{Knows, HasSize}
use Rattle.blif_read.specs.Refusals.{is_driven_again, each, drives, clocks, gates, meet, line_refusals, block_refusals, undriven_refusals, refusal_if, is_undriven}
use Rattle.blif_read.specs.Sets.{clashes}

pub first-append_some : {A : Type 0} (xs ys : List A) (r : A) → slice_get xs 0 ≡ Some r → slice_get (xs ++ ys) 0 ≡ Some r
first-append_some [] ys r e = cc
first-append_some (x ∷ xs) ys r e = e

pub first-append_none : {A : Type 0} (xs ys : List A) → slice_get xs 0 ≡ None → slice_get (xs ++ ys) 0 ≡ slice_get ys 0
first-append_none [] ys e = refl
first-append_none (x ∷ xs) ys e = cc

pub flat-next_some : {A B : Type 0} (f : A → List B) (xs : List A) (i : ℕ) (x : A) (r : B) → i < length xs → x ≡ get_or xs i x → slice_get (f x) 0 ≡ Some r → slice_get (flat_map f (drop i xs)) 0 ≡ Some r
flat-next_some f xs i x r lt at e =
    at_drop_more (λ ys. slice_get (flat_map f ys) 0) xs i x lt
    ∙ ap (λ y. slice_get (f y ++ flat_map f (drop (i + 1) xs)) 0) (sym at)
    ∙ first-append_some (f x) (flat_map f (drop (i + 1) xs)) r e

pub flat-next_none : {A B : Type 0} (f : A → List B) (xs : List A) (i : ℕ) (x : A) → i < length xs → x ≡ get_or xs i x → slice_get (f x) 0 ≡ None → slice_get (flat_map f (drop i xs)) 0 ≡ slice_get (flat_map f (drop (i + 1) xs)) 0
flat-next_none f xs i x lt at e =
    at_drop_more (λ ys. slice_get (flat_map f ys) 0) xs i x lt
    ∙ ap (λ y. slice_get (f y ++ flat_map f (drop (i + 1) xs)) 0) (sym at)
    ∙ first-append_none (f x) (flat_map f (drop (i + 1) xs)) e

pub flat-end : {A B : Type 0} (f : A → List B) (xs : List A) (i : ℕ) → length xs ≤ i → slice_get (flat_map f (drop i xs)) 0 ≡ None
flat-end f xs i le = at_drop_all (λ ys. slice_get (flat_map f ys) 0) xs i le

-- ---- N02
or_assoc : (a b c : Bool) → (a || (b || c)) ≡ ((a || b) || c)
or_assoc true b c = refl
or_assoc false b c = refl

pub is_driven_again-clashes : (before : List (Block ℕ)) (d : Directive ℕ) → is_driven_again before d ≡ (clashes (each drives before) (drives d) || (meet (each clocks before) (gates d) || meet (each gates before) (clocks d)))
unfolding is_driven_again clashes
is_driven_again-clashes before d = sym (or_assoc (clashes (each drives before) (drives d)) (meet (each clocks before) (gates d)) (meet (each gates before) (clocks d)))

pub again_by_clash : (before : List (Block ℕ)) (d : Directive ℕ) → clashes (each drives before) (drives d) ≡ true → true ≡ is_driven_again before d
again_by_clash before d e = sym (is_driven_again-clashes before d ∙ ap (λ b. b || (meet (each clocks before) (gates d) || meet (each gates before) (clocks d))) e)

pub again_by_gate : (before : List (Block ℕ)) (d : Directive ℕ) (r : Bool) → clashes (each drives before) (drives d) ≡ false → r ≡ meet (each clocks before) (gates d) → r ≡ true → r ≡ is_driven_again before d
again_by_gate before d r e f g = g ∙ sym (is_driven_again-clashes before d ∙ ap (λ b. b || (meet (each clocks before) (gates d) || meet (each gates before) (clocks d))) e ∙ ap (λ b. b || meet (each gates before) (clocks d)) (sym f ∙ g))

pub again_by_clock : (before : List (Block ℕ)) (d : Directive ℕ) (q r : Bool) → clashes (each drives before) (drives d) ≡ false → q ≡ meet (each clocks before) (gates d) → q ≡ false → r ≡ meet (each gates before) (clocks d) → r ≡ is_driven_again before d
again_by_clock before d q r e f g h = h ∙ sym (is_driven_again-clashes before d ∙ ap (λ b. b || (meet (each clocks before) (gates d) || meet (each gates before) (clocks d))) e ∙ ap (λ b. b || meet (each gates before) (clocks d)) (sym f ∙ g))

-- ---- the lines of a netlist, one directive after the other
line_refusals-cons : (all before : List (Block ℕ)) (b : Block ℕ) (more : List (Block ℕ)) → line_refusals all before (b ∷ more) ≡ block_refusals all before b ++ line_refusals all (before ++ b ∷ []) more
unfolding line_refusals
line_refusals-cons all before b more = refl

line-next : (all : List (Block ℕ)) (i : ℕ) (b : Block ℕ) → i < length all → b ≡ get_or all i b → line_refusals all (take i all) (drop i all) ≡ block_refusals all (take i all) b ++ line_refusals all (take (i + 1) all) (drop (i + 1) all)
line-next all i b lt at =
    at_drop_more (line_refusals all (take i all)) all i b lt
    ∙ ap (λ x. line_refusals all (take i all) (x ∷ drop (i + 1) all)) (sym at)
    ∙ line_refusals-cons all (take i all) b (drop (i + 1) all)
    ∙ ap (λ bs. block_refusals all (take i all) b ++ line_refusals all bs (drop (i + 1) all)) (ap (λ x. take i all ++ x ∷ []) at ∙ sym (take_more all i b lt))

pub line-next_some : (all : List (Block ℕ)) (i : ℕ) (b : Block ℕ) (r : Refusal) → i < length all → b ≡ get_or all i b → Some r ≡ slice_get (block_refusals all (take i all) b) 0 → slice_get (line_refusals all (take i all) (drop i all)) 0 ≡ Some r
line-next_some all i b r lt at e = ap (λ rs. slice_get rs 0) (line-next all i b lt at) ∙ first-append_some _ _ r (sym e)

pub line-next_none : (all : List (Block ℕ)) (i : ℕ) (b : Block ℕ) → i < length all → b ≡ get_or all i b → None ≡ slice_get (block_refusals all (take i all) b) 0 → slice_get (line_refusals all (take i all) (drop i all)) 0 ≡ slice_get (line_refusals all (take (i + 1) all) (drop (i + 1) all)) 0
line-next_none all i b lt at e = ap (λ rs. slice_get rs 0) (line-next all i b lt at) ∙ first-append_none _ _ (sym e)

line_refusals-end : (all before : List (Block ℕ)) → slice_get (line_refusals all before []) 0 ≡ None
unfolding line_refusals
line_refusals-end all before = refl

pub line-end : (all : List (Block ℕ)) (i : ℕ) → length all ≤ i → slice_get (line_refusals all (take i all) (drop i all)) 0 ≡ None
line-end all i le = at_drop_all (λ bs. slice_get (line_refusals all (take i all) bs) 0) all i le ∙ line_refusals-end all (take i all)

-- ---- the notes, of one directive more
pub knows-next : (s : Seen) (all : List (Block ℕ)) (i : ℕ) (b : Block ℕ) → i < length all → b ≡ get_or all i b → Knows s all (take i all ++ b ∷ []) (take i all ++ b ∷ []) → Knows s all (take (i + 1) all) (take (i + 1) all)
knows-next s all i b lt at k = subst (λ (bs : List (Block ℕ)). Knows s all bs bs) (ap (λ x. take i all ++ x ∷ []) at ∙ sym (take_more all i b lt)) k

pub size-same : (count n : ℕ) (s : Seen) → n ≡ count → HasSize n s → HasSize count s
size-same count n s e h = subst (λ (m : ℕ). HasSize m s) e h

-- ---- undriven nets
pub undriven-next_some : (all : List (Block ℕ)) (i : ℕ) (b : Block ℕ) (r : Refusal) → i < length all → b ≡ get_or all i b → Some r ≡ slice_get (refusal_if (is_undriven all b.directive) 3 b.line) 0 → slice_get (undriven_refusals all (drop i all)) 0 ≡ Some r
unfolding undriven_refusals
undriven-next_some all i b r lt at e = flat-next_some (λ (x : Block ℕ). refusal_if (is_undriven all x.directive) 3 x.line) all i b r lt at (sym e)

pub undriven-next_none : (all : List (Block ℕ)) (i : ℕ) (b : Block ℕ) → i < length all → b ≡ get_or all i b → None ≡ slice_get (refusal_if (is_undriven all b.directive) 3 b.line) 0 → slice_get (undriven_refusals all (drop i all)) 0 ≡ slice_get (undriven_refusals all (drop (i + 1) all)) 0
unfolding undriven_refusals
undriven-next_none all i b lt at e = flat-next_none (λ (x : Block ℕ). refusal_if (is_undriven all x.directive) 3 x.line) all i b lt at (sym e)

pub undriven-end : (all : List (Block ℕ)) (i : ℕ) → length all ≤ i → slice_get (undriven_refusals all (drop i all)) 0 ≡ None
unfolding undriven_refusals
undriven-end all i le = flat-end (λ (x : Block ℕ). refusal_if (is_undriven all x.directive) 3 x.line) all i le
