-- Directives over numbers: each number is that of a net, each net is named, and each first value is one.
use Rattle.std.proofs.Common.{◌≡◌, ℕ, ◌+◌, ◌-◌, ◌<◌, ◌≤◌, Bool, true, false, cond, ◌&&◌, List, [], ◌∷◌, ◌++◌, length, get_or, length-append, refl, sym, ◌∙◌, ap, Option, None, Some, append_assoc, append-nil, subst, arith, eqb, leb, ltb, map, ◌⊎◌, inl, inr}
use Rattle.std.specs.Prelude.{bytes_eq, codes}
use Rattle.std.specs.List.{flat_map, list_any, All}
use Rattle.std.proofs.lemmas.List.{map-append}
use Rattle.std.proofs.lemmas.List.Folds.{list_any-append}
use Rattle.std.proofs.lemmas.List.Elements.{All-nil, All-cons, All-map, All-weaker}
use Rattle.std.proofs.lemmas.Bool.Decides.{nat_tests, Decides-eqb}
use Rattle.std.proofs.Math.Logic.{⊎_elim}
use Rattle.blif_read.specs.declared.lines.Line.{Line}
use Rattle.blif_read.specs.declared.directives.Directive.{Directive}
use Rattle.blif_read.specs.declared.directives.Directive.TheVariants.{Model, Inputs, Outputs, Clock, Names, Latch, BadLatch, End, Unknown}
use Rattle.blif_read.specs.declared.directives.Block.{Block}
use Rattle.blif_read.specs.Directives.{Name, directive, names_directive, latch_directive, first_value, control, blocks, is_row, leading_rows, latch_of as latch_from}
use Rattle.blif_read.specs.Nets.{names, renamed, number, numbered, nets, distinct}
use Rattle.blif_read.specs.Refusals.{each, is_in, undriven_refusals, line_refusals}
use Rattle.blif_read.specs.Sets.{AllBelow}
use Rattle.blif_read.specs.Checking.{NetsBelow}
use Rattle.blif_read.specs.Known.{is_known}
use Rattle.blif_read.proofs.Names.{known-distinct, number_below, number-new, distinct-push, known_with-old, known_with-new, same_name}
use Rattle.blif_read.proofs.Grouped.{blocks-cons, block_of}
use Rattle.blif_read.proofs.Clean.{clean, or_first, or_second, in_left, in_right}
use Rattle.blif_read.proofs.Kept.{Accepted, InitFits, latch_init}

names-renamed : (f : Name → ℕ) (d : Directive Name) → names (renamed f d) ≡ map f (names d)
names-renamed f (Model k) = refl
names-renamed f (Inputs xs) = refl
names-renamed f (Outputs xs) = refl
names-renamed f (Clock xs) = refl
names-renamed f (Names ins out) = sym (map-append f ins (out ∷ []))
names-renamed f (Latch i o None n) = refl
names-renamed f (Latch i o (Some g) n) = refl
names-renamed f BadLatch = refl
names-renamed f End = refl
names-renamed f Unknown = refl

-- all names of some blocks
abbrev all_names : List (Block Name) → List Name
all_names bs = flat_map (λ b. names b.directive) bs

numbered-names : (known : List Name) (b : Block Name) → names (numbered known b).directive ≡ map (number known) (names b.directive)
unfolding numbered
numbered-names known b = names-renamed (number known) b.directive

each-numbered : (known : List Name) (bs : List (Block Name)) → each names (map (numbered known) bs) ≡ map (number known) (all_names bs)
each-numbered known [] = refl
each-numbered known (b ∷ bs) =
    ap (λ xs. xs ++ each names (map (numbered known) bs)) (numbered-names known b)
    ∙ ap (λ xs. map (number known) (names b.directive) ++ xs) (each-numbered known bs)
    ∙ sym (map-append (number known) (names b.directive) (all_names bs))

-- ---- below
all_below : (known xs : List Name) → ((name : Name) → list_any (bytes_eq name) xs ≡ true → is_known known name ≡ true) → AllBelow (length known) (map (number known) xs)
all_below known [] h = All-nil (λ n. n < length known)
all_below known (x ∷ xs) h =
    All-cons (λ n. n < length known) (number known x) (map (number known) xs)
    (number_below known x (h x (or_first _ _ (same_name x))))
    (all_below known xs (λ name k. h name (or_second (bytes_eq name x) _ k)))

blocks_below : (known : List Name) (bs : List (Block Name)) → ((name : Name) → list_any (bytes_eq name) (all_names bs) ≡ true → is_known known name ≡ true) → NetsBelow (length known) (map (numbered known) bs)
blocks_below known [] h = All-nil (λ b. AllBelow (length known) (names b.directive))
blocks_below known (b ∷ bs) h =
    All-cons (λ (c : Block ℕ). AllBelow (length known) (names c.directive)) (numbered known b) (map (numbered known) bs)
    (subst (λ (ns : List ℕ). AllBelow (length known) ns) (sym (numbered-names known b)) (all_below known (names b.directive) (λ name k. h name (list_any-append (bytes_eq name) (names b.directive) (all_names bs) ∙ or_first _ _ k))))
    (blocks_below known bs (λ name k. h name (list_any-append (bytes_eq name) (names b.directive) (all_names bs) ∙ or_second (list_any (bytes_eq name) (names b.directive)) _ k)))

pub nets_below : (bs : List (Block Name)) → NetsBelow (length (nets bs)) (map (numbered (nets bs)) bs)
unfolding nets is_known
nets_below bs = blocks_below (nets bs) bs (λ name k. known-distinct (all_names bs) name ∙ k)

-- ---- each net is named
abbrev NamesAll : List Name → Type 0
NamesAll xs = (more : List Name) (net : ℕ) → net < length (distinct xs) → is_in (map (number (distinct xs ++ more)) xs) net ≡ true

in_front : (f : Name → ℕ) (xs : List Name) (y : Name) (net : ℕ) → is_in (map f xs) net ≡ true → is_in (map f (xs ++ y ∷ [])) net ≡ true
in_front f xs y net h = ap (λ ns. is_in ns net) (map-append f xs (y ∷ [])) ∙ in_left (map f xs) (f y ∷ []) net h

in_back : (f : Name → ℕ) (xs : List Name) (y : Name) (net : ℕ) → net ≡ f y → is_in (map f (xs ++ y ∷ [])) net ≡ true
in_back f xs y net same = ap (λ ns. is_in ns net) (map-append f xs (y ∷ [])) ∙ in_right (map f xs) (f y ∷ []) net (or_first (eqb net (f y)) false ((Decides-eqb net (f y)).1 same))

names_all_old : (xs : List Name) (y : Name) → is_known (distinct xs) y ≡ true → NamesAll xs → NamesAll (xs ++ y ∷ [])
names_all_old xs y e h more net lt =
    let same = distinct-push xs y ∙ known_with-old y (distinct xs) e in
    let below : net < length (distinct xs) = subst (λ (ks : List Name). net < length ks) same lt in
    subst (λ (ks : List Name). is_in (map (number (ks ++ more)) (xs ++ y ∷ [])) net ≡ true) (sym same) (in_front (number (distinct xs ++ more)) xs y net (h more net below))

new_or_old : (b : Bool) (n m : ℕ) → ltb n m ≡ b → n < m + 1 → (n < m) ⊎ (n ≡ m)
new_or_old true n m e lt = inl (grind (arith, nat_tests))
new_or_old false n m e lt = inr (grind (arith, nat_tests))

names_all_new : (xs : List Name) (y : Name) → is_known (distinct xs) y ≡ false → NamesAll xs → NamesAll (xs ++ y ∷ [])
names_all_new xs y e h more net lt =
    let same = distinct-push xs y ∙ known_with-new y (distinct xs) e in
    let grown : net < length (distinct xs ++ y ∷ []) = subst (λ (ks : List Name). net < length ks) same lt in
    let below : net < length (distinct xs) + 1 = omega (arith, grown, length-append (distinct xs) (y ∷ [])) in
    subst (λ (ks : List Name). is_in (map (number (ks ++ more)) (xs ++ y ∷ [])) net ≡ true) (sym same)
    (subst (λ (ks : List Name). is_in (map (number ks) (xs ++ y ∷ [])) net ≡ true) (sym (append_assoc (distinct xs) (y ∷ []) more))
    (⊎_elim
    (λ old. in_front (number (distinct xs ++ (y ∷ more))) xs y net (h (y ∷ more) net old))
    (λ new. in_back (number (distinct xs ++ (y ∷ more))) xs y net (new ∙ sym (number-new (distinct xs) more y e)))
    (new_or_old (ltb net (length (distinct xs))) net (length (distinct xs)) refl below)))

names_all_by : (xs : List Name) (y : Name) (b : Bool) → is_known (distinct xs) y ≡ b → NamesAll xs → NamesAll (xs ++ y ∷ [])
names_all_by xs y true e h = names_all_old xs y e h
names_all_by xs y false e h = names_all_new xs y e h

names_all : (xs ys : List Name) → NamesAll xs → NamesAll (xs ++ ys)
names_all xs [] h = subst (λ (zs : List Name). NamesAll zs) (sym (append-nil xs)) h
names_all xs (y ∷ ys) h = subst (λ (zs : List Name). NamesAll zs) (append_assoc xs (y ∷ []) ys) (names_all (xs ++ y ∷ []) ys (names_all_by xs y (is_known (distinct xs) y) refl h))

-- ---- first values
by_cond : {A : Type 0} (P : A → Type 0) (b : Bool) (x y : A) → P x → P y → P (cond b x y)
by_cond P true x y p q = p
by_cond P false x y p q = q

value_of_digit : (b : Bool) (c n : ℕ) → c ≤ 51 → cond b (Some (c - 48)) None ≡ Some n → n ≤ 3
value_of_digit true c n le e = let same : c - 48 ≡ n = cc in omega arith
value_of_digit false c n le e = cc

digit_fits : (a b : Bool) (c n : ℕ) → leb c 51 ≡ b → cond (a && b) (Some (c - 48)) None ≡ Some n → n ≤ 3
digit_fits true true c n e f = let le : c ≤ 51 = grind (arith, nat_tests) in value_of_digit true c n le f
digit_fits true false c n e f = cc
digit_fits false b c n e f = cc

first_value_fits : (ws : List Name) (n : ℕ) → first_value ws ≡ Some n → n ≤ 3
first_value_fits [] n e = let same : 3 ≡ n = cc in omega arith
first_value_fits (w ∷ []) n e = digit_fits (eqb (length w) 1 && leb 48 (get_or w 0 0)) (leb (get_or w 0 0) 51) (get_or w 0 0) n refl e
first_value_fits (w ∷ x ∷ ws) n e = cc

latch_from_fits : (i o : Name) (g : Option Name) (v : Option ℕ) → ((n : ℕ) → v ≡ Some n → n ≤ 3) → latch_init (latch_from i o g v) ≤ 3
latch_from_fits i o g None h = omega arith
latch_from_fits i o g (Some n) h = h n refl

abbrev Fits3 : Directive Name → Type 0
Fits3 d = latch_init d ≤ 3

latch_directive_fits : (ws : List Name) → Fits3 (latch_directive ws)
latch_directive_fits [] = omega arith
latch_directive_fits (i ∷ []) = omega arith
latch_directive_fits (i ∷ o ∷ []) = omega arith
latch_directive_fits (i ∷ o ∷ w ∷ []) = latch_from_fits i o None (first_value (w ∷ [])) (λ n e. first_value_fits (w ∷ []) n e)
latch_directive_fits (i ∷ o ∷ k ∷ g ∷ more) = by_cond Fits3 (bytes_eq k (codes "re")) (latch_from i o (control g) (first_value more)) BadLatch (latch_from_fits i o (control g) (first_value more) (λ n e. first_value_fits more n e)) (omega arith)

names_directive_fits : (ws : List Name) → Fits3 (names_directive ws)
names_directive_fits [] = omega arith
names_directive_fits (w ∷ ws) = omega arith

directive_fits : (first : Name) (rest : List Name) → Fits3 (directive first rest)
unfolding directive
directive_fits first rest =
    by_cond Fits3 (bytes_eq first (codes ".model")) _ _ (omega arith)
    (by_cond Fits3 (bytes_eq first (codes ".inputs")) _ _ (omega arith)
    (by_cond Fits3 (bytes_eq first (codes ".outputs")) _ _ (omega arith)
    (by_cond Fits3 (bytes_eq first (codes ".clock")) _ _ (omega arith)
    (by_cond Fits3 (bytes_eq first (codes ".names")) _ _ (names_directive_fits rest)
    (by_cond Fits3 (bytes_eq first (codes ".latch")) _ _ (latch_directive_fits rest)
    (by_cond Fits3 (bytes_eq first (codes ".end")) _ _ (omega arith) (omega arith)))))))

block_fits : (line : Line) (rows : _) → latch_init (block_of line rows).directive ≤ 3
unfolding block_of
block_fits line rows = directive_fits line.first line.rest

blocks_fit_by : (b : Bool) (line : Line) (more : List Line) → All (InitFits {N = Name}) (blocks more) → All (InitFits {N = Name}) (cond b (blocks more) (block_of line (leading_rows more) ∷ blocks more))
blocks_fit_by true line more h = h
blocks_fit_by false line more h = All-cons (InitFits {N = Name}) (block_of line (leading_rows more)) (blocks more) (block_fits line (leading_rows more)) h

no_block_fits : All (InitFits {N = Name}) (blocks [])
unfolding blocks
no_block_fits = All-nil (InitFits {N = Name})

blocks_fit : (lines : List Line) → All (InitFits {N = Name}) (blocks lines)
blocks_fit [] = no_block_fits
blocks_fit (line ∷ more) = subst (λ (bs : List (Block Name)). All (InitFits {N = Name}) bs) (sym (blocks-cons line more)) (blocks_fit_by (is_row line) line more (blocks_fit more))

init-renamed : (f : Name → ℕ) (d : Directive Name) → latch_init (renamed f d) ≡ latch_init d
init-renamed f (Model k) = refl
init-renamed f (Inputs xs) = refl
init-renamed f (Outputs xs) = refl
init-renamed f (Clock xs) = refl
init-renamed f (Names ins out) = refl
init-renamed f (Latch i o g n) = refl
init-renamed f BadLatch = refl
init-renamed f End = refl
init-renamed f Unknown = refl

numbered_fits : (known : List Name) (b : Block Name) → latch_init b.directive ≤ 3 → latch_init (numbered known b).directive ≤ 3
unfolding numbered
numbered_fits known b h = subst (λ (n : ℕ). n ≤ 3) (sym (init-renamed (number known) b.directive)) h

numbered_fit : (known : List Name) (bs : List (Block Name)) → All (InitFits {N = Name}) bs → All (InitFits {N = ℕ}) (map (numbered known) bs)
numbered_fit known bs h = All-map (InitFits {N = ℕ}) (numbered known) bs (All-weaker (InitFits {N = Name}) (λ (b : Block Name). latch_init (numbered known b).directive ≤ 3) (λ b k. numbered_fits known b k) bs h)

-- ---- the whole
names_all_nothing : NamesAll []
unfolding distinct
names_all_nothing more net lt = absurd (omega arith)

nets_named : (bs : List (Block Name)) (net : ℕ) → net < length (nets bs) → is_in (each names (map (numbered (nets bs)) bs)) net ≡ true
unfolding nets
nets_named bs net lt =
    ap (λ ns. is_in ns net) (each-numbered (nets bs) bs)
    ∙ subst (λ (ks : List Name). is_in (map (number ks) (all_names bs)) net ≡ true) (append-nil (nets bs)) (names_all [] (all_names bs) names_all_nothing [] net lt)

-- the directives of a netlist without a refusal
pub accepted : (lines : List Line) → let bs = blocks lines in let all = map (numbered (nets bs)) bs in line_refusals all [] all ≡ [] → undriven_refusals all all ≡ [] → Accepted (nets bs) all
accepted lines e u = record {
  below = nets_below (blocks lines);
  named = nets_named (blocks lines);
  inits = numbered_fit (nets (blocks lines)) (blocks lines) (blocks_fit lines);
  clean = clean (map (numbered (nets (blocks lines))) (blocks lines)) e;
  driven = u;
}
