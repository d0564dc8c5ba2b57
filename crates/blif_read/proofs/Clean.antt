-- What a netlist without refusals keeps.
use Rattle.std.proofs.Common.{◌≡◌, ℕ, ◌+◌, ◌<◌, ◌≤◌, Bool, true, false, cond, not, ◌||◌, List, [], ◌∷◌, ◌++◌, get_or, refl, sym, ◌∙◌, ap, None, Some, append_assoc, append-nil, subst, arith, eqb, leb, ◌⊎◌, inl, inr}
use Rattle.std.specs.List.{slice_get, flat_map, list_any, count_by, All}
use Rattle.std.proofs.lemmas.Grind.{flat_map-append}
use Rattle.std.proofs.lemmas.List.Elements.{All-nil, All-cons, All-push}
use Rattle.std.proofs.lemmas.List.Recursion.{is_count_by}
use Rattle.std.proofs.Math.Logic.{⊎_elim}
use Rattle.std.proofs.lemmas.Bool.Decides.{nat_tests, Decides-eqb}
use Rattle.blif_read.specs.declared.directives.Directive.{Directive}
use Rattle.blif_read.specs.declared.directives.Directive.TheVariants.{Model, Inputs, Outputs, Clock, Names, Latch, BadLatch, End, Unknown}
use Rattle.blif_read.specs.declared.directives.Row.{Row}
use Rattle.blif_read.specs.declared.directives.Block.{Block}
use Rattle.blif_read.specs.Nets.{names}
use Rattle.blif_read.specs.Refusals.{each, is_in, meet, clocks, controls, gates, drives, sources, clock_names, is_driven_again, is_unknown, is_bad_latch, is_second_clock, is_past_last_net, is_wrong_row, is_other_bit, refusal_if, row_refusals, directive_refusals, block_refusals, line_refusals}
use Rattle.blif_read.specs.Sets.{clashes}
use Rattle.blif_read.proofs.Marks.{is_in-append, clashes-cons, eq_symm, or_false_right}
use Rattle.blif_read.proofs.Firsts.{is_driven_again-clashes, first-append_some}

abbrev pub Blocks : Type 0
Blocks = List (Block ℕ)

-- ---- small facts
pub nothing_left : {A : Type 0} (xs ys : List A) → xs ++ ys ≡ [] → xs ≡ []
nothing_left [] ys e = refl
nothing_left (x ∷ xs) ys e = cc

pub nothing_right : {A : Type 0} (xs ys : List A) → xs ++ ys ≡ [] → ys ≡ []
nothing_right [] ys e = e
nothing_right (x ∷ xs) ys e = cc

pub no_refusal : (b : Bool) (code line : ℕ) → refusal_if b code line ≡ [] → b ≡ false
no_refusal true code line e = cc
no_refusal false code line e = refl

pub or_left : (a b : Bool) → (a || b) ≡ false → a ≡ false
or_left true b e = e
or_left false b e = refl

pub or_right : (a b : Bool) → (a || b) ≡ false → b ≡ false
or_right true b e = cc
or_right false b e = e

or_none : (a b : Bool) → a ≡ false → b ≡ false → (a || b) ≡ false
or_none a b e f = ap (λ x. x || b) e ∙ f

pub or_some : (a b : Bool) → (a || b) ≡ true → (a ≡ true) ⊎ (b ≡ true)
or_some true b e = inl refl
or_some false b e = inr e

pub or_first : (a b : Bool) → a ≡ true → (a || b) ≡ true
or_first a b e = ap (λ x. x || b) e

pub or_second : (a b : Bool) → b ≡ true → (a || b) ≡ true
or_second true b e = refl
or_second false b e = e

pub true_false : (a : Bool) → a ≡ true → a ≡ false → ⊥
true_false a e f = let h : true ≡ false = sym e ∙ f in cc

pub not_true : (a : Bool) → (a ≡ true → ⊥) → a ≡ false
not_true true h = absurd (h refl)
not_true false h = refl

pub not_false : (a : Bool) → not a ≡ false → a ≡ true
not_false true e = refl
not_false false e = cc

-- a test that no net of the list passes
pub none_passes : (p : ℕ → Bool) (xs : List ℕ) (net : ℕ) → list_any p xs ≡ false → is_in xs net ≡ true → p net ≡ false
none_passes p [] net e h = cc
none_passes p (x ∷ xs) net e h =
    ⊎_elim
    (λ same. ap p ((Decides-eqb net x).0 same) ∙ or_left _ _ e)
    (λ later. none_passes p xs net (or_right (p x) _ e) later)
    (or_some _ _ h)

meet_none : (xs ys : List ℕ) (net : ℕ) → meet xs ys ≡ false → is_in ys net ≡ true → is_in xs net ≡ false
meet_none xs ys net e h = none_passes (is_in xs) ys net e h

pub in_append : (xs ys : List ℕ) (net : ℕ) → is_in (xs ++ ys) net ≡ true → (is_in xs net ≡ true) ⊎ (is_in ys net ≡ true)
in_append xs ys net h = or_some _ _ (sym (is_in-append xs ys net) ∙ h)

pub in_left : (xs ys : List ℕ) (net : ℕ) → is_in xs net ≡ true → is_in (xs ++ ys) net ≡ true
in_left xs ys net h = is_in-append xs ys net ∙ or_first _ _ h

pub in_right : (xs ys : List ℕ) (net : ℕ) → is_in ys net ≡ true → is_in (xs ++ ys) net ≡ true
in_right xs ys net h = is_in-append xs ys net ∙ or_second (is_in xs net) _ h

out_append : (xs ys : List ℕ) (net : ℕ) → is_in xs net ≡ false → is_in ys net ≡ false → is_in (xs ++ ys) net ≡ false
out_append xs ys net h k = is_in-append xs ys net ∙ or_none _ _ h k

each-push : (f : Directive ℕ → List ℕ) (bs : Blocks) (b : Block ℕ) → each f (bs ++ b ∷ []) ≡ each f bs ++ f b.directive
each-push f bs b = flat_map-append (λ (x : Block ℕ). f x.directive) bs (b ∷ []) ∙ ap (λ xs. each f bs ++ xs) (append-nil (f b.directive))

-- ---- counts
unfoldable pub times : {A : Type 0} → (A → Bool) → List A → ℕ
times p [] = 0
times p (x ∷ xs) = cond (p x) (1 + times p xs) (times p xs)

pub times-cons : {A : Type 0} (p : A → Bool) (x : A) (xs : List A) → times p (x ∷ xs) ≡ cond (p x) (1 + times p xs) (times p xs)
unfolding times
times-cons p x xs = refl

pub times-none : {A : Type 0} (p : A → Bool) → times p [] ≡ 0
unfolding times
times-none p = refl

pub count_by-times : {A : Type 0} (p : A → Bool) (xs : List A) → count_by p xs ≡ times p xs
count_by-times p xs = sym (is_count_by (times p) p (times-none p) (λ x ys. times-cons p x ys) xs)

plus_by : (b : Bool) (m n k : ℕ) → m ≡ n + k → cond b (1 + m) m ≡ cond b (1 + n) n + k
plus_by true m n k e = omega arith
plus_by false m n k e = e

pub times-append : {A : Type 0} (p : A → Bool) (xs ys : List A) → times p (xs ++ ys) ≡ times p xs + times p ys
unfolding times
times-append p [] ys = omega arith
times-append p (x ∷ xs) ys = plus_by (p x) _ _ _ (times-append p xs ys)

unfoldable pub is_net : ℕ → ℕ → Bool
is_net net n = eqb n net

abbrev pub cnt : ℕ → List ℕ → ℕ
cnt net xs = times (is_net net) xs

pub cnt_none : (net : ℕ) (xs : List ℕ) → is_in xs net ≡ false → cnt net xs ≡ 0
unfolding times is_net
cnt_none net [] h = refl
cnt_none net (x ∷ xs) h = ap (λ b. cond b (1 + cnt net xs) (cnt net xs)) (eq_symm x net ∙ or_left _ _ h) ∙ cnt_none net xs (or_right (eqb net x) _ h)

cnt_some_by : (b c : Bool) (n : ℕ) → (b || c) ≡ true → (c ≡ true → 1 ≤ n) → 1 ≤ cond b (1 + n) n
cnt_some_by true c n h k = omega arith
cnt_some_by false c n h k = k h

pub cnt_some : (net : ℕ) (xs : List ℕ) → is_in xs net ≡ true → 1 ≤ cnt net xs
unfolding times is_net
cnt_some net [] h = cc
cnt_some net (x ∷ xs) h = cnt_some_by (eqb x net) (is_in xs net) (cnt net xs) (ap (λ b. b || is_in xs net) (eq_symm x net) ∙ h) (λ k. cnt_some net xs k)

-- one more net that isn't there
once_push_by : (net y : ℕ) (xs : List ℕ) (b : Bool) → eqb y net ≡ b → is_in xs y ≡ false → cnt net xs ≤ 1 → cnt net xs + cond b 1 0 ≤ 1
once_push_by net y xs true e out h =
    let same : y ≡ net = (Decides-eqb y net).0 e in
    let zero : cnt net xs ≡ 0 = cnt_none net xs (ap (is_in xs) (sym same) ∙ out) in
    omega (arith, zero)
once_push_by net y xs false e out h = omega (arith, h)

cnt_one : (net y : ℕ) → cnt net (y ∷ []) ≡ cond (eqb y net) 1 0
unfolding times is_net
cnt_one net y = refl

once_push : (net y : ℕ) (xs : List ℕ) → is_in xs y ≡ false → cnt net xs ≤ 1 → cnt net (xs ++ y ∷ []) ≤ 1
once_push net y xs out h =
    let e = times-append (is_net net) xs (y ∷ []) ∙ ap (λ n. cnt net xs + n) (cnt_one net y) in
    subst (λ (n : ℕ). n ≤ 1) (sym e) (once_push_by net y xs (eqb y net) refl out h)

once_append : (xs ys : List ℕ) → ((net : ℕ) → cnt net xs ≤ 1) → clashes xs ys ≡ false → (net : ℕ) → cnt net (xs ++ ys) ≤ 1
once_append xs [] h c net = subst (λ (zs : List ℕ). cnt net zs ≤ 1) (sym (append-nil xs)) (h net)
once_append xs (y ∷ ys) h c net =
    let e = sym (clashes-cons xs ys y) ∙ c in
    subst (λ (zs : List ℕ). cnt net zs ≤ 1) (append_assoc xs (y ∷ []) ys) (once_append (xs ++ y ∷ []) ys (λ n. once_push n y xs (or_left _ _ e) (h n)) (or_right (is_in xs y) _ e) net)

-- ---- a directive without a refusal
record Fine (all before : Blocks) (b : Block ℕ) : Type 0 where
  again : is_driven_again before b.directive ≡ false
  latch : is_bad_latch all b.directive ≡ false
  clock : is_second_clock before b.directive ≡ false
  few : is_past_last_net b.directive ≡ false
  rows : All (λ r. is_wrong_row b.directive r ≡ false) b.rows

fine_rows : (b : Block ℕ) (rows : List Row) → flat_map (row_refusals b) rows ≡ [] → All (λ r. is_wrong_row b.directive r ≡ false) rows
unfolding row_refusals
fine_rows b [] e = All-nil (λ r. is_wrong_row b.directive r ≡ false)
fine_rows b (r ∷ rows) e = All-cons (λ r. is_wrong_row b.directive r ≡ false) r rows (no_refusal _ 4 r.line (nothing_left _ (refusal_if (is_other_bit b.rows r) 5 r.line) (nothing_left _ (flat_map (row_refusals b) rows) e))) (fine_rows b rows (nothing_right (row_refusals b r) _ e))

fine : (all before : Blocks) (b : Block ℕ) → block_refusals all before b ≡ [] → Fine all before b
unfolding block_refusals directive_refusals
fine all before b e =
    let head = nothing_left _ (flat_map (row_refusals b) b.rows) e in
    let tail = nothing_right (directive_refusals all before b) _ e in
    let r2 = refusal_if (is_driven_again before b.directive) 2 b.line in
    let r6 = refusal_if (is_unknown before b.directive) 6 b.line in
    let r7 = refusal_if (is_bad_latch all b.directive) 7 b.line in
    let r8 = refusal_if (is_second_clock before b.directive) 8 b.line in
    let r9 = refusal_if (is_past_last_net b.directive) 9 b.line in
    let l8 = nothing_left (((r2 ++ r6) ++ r7) ++ r8) r9 head in
    let l7 = nothing_left ((r2 ++ r6) ++ r7) r8 l8 in
    let l6 = nothing_left (r2 ++ r6) r7 l7 in
    record {
      again = no_refusal _ 2 b.line (nothing_left r2 r6 l6);
      latch = no_refusal _ 7 b.line (nothing_right (r2 ++ r6) r7 l7);
      clock = no_refusal _ 8 b.line (nothing_right ((r2 ++ r6) ++ r7) r8 l8);
      few = no_refusal _ 9 b.line (nothing_right (((r2 ++ r6) ++ r7) ++ r8) r9 head);
      rows = fine_rows b b.rows tail;
    }

-- ---- what is kept directive by directive
abbrev pub RowsFit : Block ℕ → Type 0
RowsFit b = All (λ r. is_wrong_row b.directive r ≡ false) b.rows

pub record Clean (all done : Blocks) : Type 0 where
  pub once : (net : ℕ) → cnt net (each drives done) ≤ 1
  pub apart : (net : ℕ) → is_in (each clocks done) net ≡ true → is_in (each gates done) net ≡ false
  pub one_clock : (net : ℕ) → is_in (each clock_names done) net ≡ true → slice_get (each clock_names done) 0 ≡ Some net
  pub controls : (net : ℕ) → is_in (each controls done) net ≡ true → is_in (each sources all) net ≡ true
  pub few : (net : ℕ) → is_in (each names done) net ≡ true → net < 65536
  pub rows : All RowsFit done

gate_no_clock : (d : Directive ℕ) (net : ℕ) → is_in (clocks d) net ≡ true → is_in (gates d) net ≡ false
gate_no_clock (Model n) net h = refl
gate_no_clock (Inputs nets) net h = refl
gate_no_clock (Outputs nets) net h = refl
gate_no_clock (Clock nets) net h = refl
gate_no_clock (Names ins out) net h = cc
gate_no_clock (Latch i o g n) net h = cc
gate_no_clock BadLatch net h = refl
gate_no_clock End net h = refl
gate_no_clock Unknown net h = refl

known_control : (all : Blocks) (d : Directive ℕ) (net : ℕ) → is_bad_latch all d ≡ false → is_in (controls d) net ≡ true → is_in (each sources all) net ≡ true
unfolding is_bad_latch
known_control all (Model n) net e h = cc
known_control all (Inputs nets) net e h = cc
known_control all (Outputs nets) net e h = cc
known_control all (Clock nets) net e h = cc
known_control all (Names ins out) net e h = cc
known_control all (Latch i o None n) net e h = cc
known_control all (Latch i o (Some g) n) net e h = ap (is_in (each sources all)) ((Decides-eqb net g).0 (sym (or_false_right (eqb net g)) ∙ h)) ∙ not_false _ e
known_control all BadLatch net e h = cc
known_control all End net e h = cc
known_control all Unknown net e h = cc

first_there : (xs : List ℕ) (net : ℕ) → is_in xs net ≡ true → slice_get xs 0 ≡ Some (get_or xs 0 0)
first_there [] net h = cc
first_there (x ∷ xs) net h = refl

clock_kept : (xs ys : List ℕ) → ((net : ℕ) → is_in xs net ≡ true → slice_get xs 0 ≡ Some net) → list_any (λ net. not (eqb net (get_or (xs ++ ys) 0 0))) ys ≡ false → (net : ℕ) → is_in (xs ++ ys) net ≡ true → slice_get (xs ++ ys) 0 ≡ Some net
clock_kept xs ys old e net h =
    ⊎_elim
    (λ k. first-append_some xs ys net (old net k))
    (λ k. first_there (xs ++ ys) net h ∙ ap Some (sym ((Decides-eqb net (get_or (xs ++ ys) 0 0)).0 (not_false _ (none_passes (λ n. not (eqb n (get_or (xs ++ ys) 0 0))) ys net e k)))))
    (in_append xs ys net h)

clean_nothing : (all : Blocks) → Clean all []
unfolding times
clean_nothing all = record { once = λ net. omega arith; apart = λ net h. cc; one_clock = λ net h. cc; controls = λ net h. cc; few = λ net h. cc; rows = All-nil RowsFit }

clean_more : (all done : Blocks) (b : Block ℕ) → Clean all done → Fine all done b → Clean all (done ++ b ∷ [])
unfolding is_second_clock is_past_last_net
clean_more all done b c f =
    let d = b.directive in
    let again : (clashes (each drives done) (drives d) || (meet (each clocks done) (gates d) || meet (each gates done) (clocks d))) ≡ false = sym (is_driven_again-clashes done d) ∙ f.again in
    let no_clash = or_left _ _ again in
    let no_gate = or_left _ _ (or_right (clashes (each drives done) (drives d)) _ again) in
    let no_clock = or_right (meet (each clocks done) (gates d)) _ (or_right (clashes (each drives done) (drives d)) _ again) in
    record {
      once = λ net. subst (λ (xs : List ℕ). cnt net xs ≤ 1) (sym (each-push drives done b)) (once_append (each drives done) (drives d) c.once no_clash net);
      apart = λ net h. ap (λ xs. is_in xs net) (each-push gates done b) ∙
          ⊎_elim
          (λ k. out_append _ _ net (c.apart net k) (not_true _ (λ g. true_false _ k (meet_none _ _ net no_gate g))))
          (λ k. out_append _ _ net (meet_none _ _ net no_clock k) (gate_no_clock d net k))
          (in_append (each clocks done) (clocks d) net (sym (ap (λ xs. is_in xs net) (each-push clocks done b)) ∙ h));
      one_clock = λ net h. ap (λ xs. slice_get xs 0) (each-push clock_names done b) ∙ clock_kept (each clock_names done) (clock_names d) c.one_clock f.clock net (sym (ap (λ xs. is_in xs net) (each-push clock_names done b)) ∙ h);
      controls = λ net h.
          ⊎_elim (λ k. c.controls net k) (λ k. known_control all d net f.latch k) (in_append (each controls done) (controls d) net (sym (ap (λ xs. is_in xs net) (each-push controls done b)) ∙ h));
      few = λ net h.
          ⊎_elim (λ k. c.few net k) (λ k. past net (none_passes (leb 65536) (names d) net f.few k)) (in_append (each names done) (names d) net (sym (ap (λ xs. is_in xs net) (each-push names done b)) ∙ h));
      rows = All-push RowsFit done b c.rows f.rows;
    } where
      past : (net : ℕ) → leb 65536 net ≡ false → net < 65536
      past net e = grind (arith, nat_tests)

clean_all : (all done more : Blocks) → Clean all done → line_refusals all done more ≡ [] → Clean all (done ++ more)
unfolding line_refusals
clean_all all done [] c e = subst (λ (bs : Blocks). Clean all bs) (sym (append-nil done)) c
clean_all all done (b ∷ more) c e =
    subst (λ (bs : Blocks). Clean all bs) (append_assoc done (b ∷ []) more)
    (clean_all all (done ++ b ∷ []) more (clean_more all done b c (fine all done b (nothing_left _ (line_refusals all (done ++ b ∷ []) more) e))) (nothing_right (block_refusals all done b) _ e))

pub clean : (all : Blocks) → line_refusals all [] all ≡ [] → Clean all all
clean all e = clean_all all [] all (clean_nothing all) e
