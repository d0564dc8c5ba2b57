-- A netlist without refusals is valid.
use Rattle.std.proofs.Common.{◌≡◌, ◌≢◌, ℕ, ◌+◌, ◌<◌, ◌≤◌, Bool, true, false, not, ◌||◌, ◌&&◌, List, [], ◌∷◌, ◌++◌, length, refl, ◌∙◌, Option, None, Some, arith, eqb, leb, ◌⊎◌, inl, inr}
use Rattle.std.specs.List.{slice_get, flat_map, count_by, All}
use Rattle.std.specs.Option.{option_to_list}
use Rattle.std.proofs.lemmas.List.Elements.{All-nil, All-cons, All-head, All-tail, All-append, All-map, All-weaker}
use Rattle.std.proofs.lemmas.Bool.Decides.{nat_tests, Decides-eqb}
use Rattle.std.proofs.Math.Logic.{⊎_elim}
use Rattle.blif_read.specs.declared.directives.Directive.{Directive}
use Rattle.blif_read.specs.declared.directives.Directive.TheVariants.{Model, Inputs, Outputs, Clock, Names, Latch, BadLatch, End, Unknown}
use Rattle.blif_read.specs.declared.directives.Row.{Row}
use Rattle.blif_read.specs.declared.directives.Block.{Block}
use Rattle.blif_read.specs.declared.netlist.NetCover.{NetCover}
use Rattle.blif_read.specs.declared.netlist.Latch as latch
use Rattle.blif_read.specs.Directives.{Name}
use Rattle.blif_read.specs.Nets.{names}
use Rattle.blif_read.specs.Refusals.{each, is_in, inputs, outputs, clocks, controls, gates, drives, drivers, clock_names, wanted, is_wrong_row, is_undriven, refusal_if, undriven_refusals, parts_fit, most_nets}
use Rattle.blif_read.specs.Sets.{AllBelow}
use Rattle.blif_read.specs.Checking.{NetsBelow}
use Rattle.blif_read.specs.Netlists.{parts, cover_of, latch_of, literals}
use Rattle.blif_read.specs.Valid.{IsValid, FitsRow, FitsCover, FitsLatch, times_gated, times_driven}
use Rattle.blif_read.proofs.Clean.{Blocks, Clean, RowsFit, times, times-append, count_by-times, cnt, is_net, cnt_none, cnt_some, nothing_left, nothing_right, no_refusal, not_false, none_passes, in_append, in_left, in_right, or_some, or_first, or_second}

-- ---- lists below a bound
All-left : {A : Type 0} (P : A → Type 0) (xs ys : List A) → All P (xs ++ ys) → All P xs
All-left P [] ys h = All-nil P
All-left P (x ∷ xs) ys h = All-cons P x xs (All-head P x (xs ++ ys) h) (All-left P xs ys (All-tail P x (xs ++ ys) h))

All-right : {A : Type 0} (P : A → Type 0) (xs ys : List A) → All P (xs ++ ys) → All P ys
All-right P [] ys h = h
All-right P (x ∷ xs) ys h = All-right P xs ys (All-tail P x (xs ++ ys) h)

abbrev Under : ℕ → ℕ → Type 0
Under n net = net < n

inputs_below : (n : ℕ) (d : Directive ℕ) → AllBelow n (names d) → AllBelow n (inputs d)
inputs_below n (Model k) h = All-nil (Under n)
inputs_below n (Inputs nets) h = h
inputs_below n (Outputs nets) h = All-nil (Under n)
inputs_below n (Clock nets) h = All-nil (Under n)
inputs_below n (Names ins out) h = All-nil (Under n)
inputs_below n (Latch i o g k) h = All-nil (Under n)
inputs_below n BadLatch h = All-nil (Under n)
inputs_below n End h = All-nil (Under n)
inputs_below n Unknown h = All-nil (Under n)

outputs_below : (n : ℕ) (d : Directive ℕ) → AllBelow n (names d) → AllBelow n (outputs d)
outputs_below n (Model k) h = All-nil (Under n)
outputs_below n (Inputs nets) h = All-nil (Under n)
outputs_below n (Outputs nets) h = h
outputs_below n (Clock nets) h = All-nil (Under n)
outputs_below n (Names ins out) h = All-nil (Under n)
outputs_below n (Latch i o g k) h = All-nil (Under n)
outputs_below n BadLatch h = All-nil (Under n)
outputs_below n End h = All-nil (Under n)
outputs_below n Unknown h = All-nil (Under n)

clock_names_below : (n : ℕ) (d : Directive ℕ) → AllBelow n (names d) → AllBelow n (clock_names d)
clock_names_below n (Model k) h = All-nil (Under n)
clock_names_below n (Inputs nets) h = All-nil (Under n)
clock_names_below n (Outputs nets) h = All-nil (Under n)
clock_names_below n (Clock nets) h = All-append (Under n) nets [] h (All-nil (Under n))
clock_names_below n (Names ins out) h = All-nil (Under n)
clock_names_below n (Latch i o None k) h = All-nil (Under n)
clock_names_below n (Latch i o (Some g) k) h = All-tail (Under n) o (g ∷ []) (All-tail (Under n) i (o ∷ g ∷ []) h)
clock_names_below n BadLatch h = All-nil (Under n)
clock_names_below n End h = All-nil (Under n)
clock_names_below n Unknown h = All-nil (Under n)

abbrev BlockUnder : ℕ → Block ℕ → Type 0
BlockUnder n b = AllBelow n (names b.directive)

each_below : (n : ℕ) (f : Directive ℕ → List ℕ) → ((d : Directive ℕ) → AllBelow n (names d) → AllBelow n (f d)) → (bs : Blocks) → NetsBelow n bs → AllBelow n (each f bs)
each_below n f role [] h = All-nil (Under n)
each_below n f role (b ∷ bs) h = All-append (Under n) (f b.directive) (each f bs) (role b.directive (All-head (BlockUnder n) b bs h)) (each_below n f role bs (All-tail (BlockUnder n) b bs h))

in_below : (n : ℕ) (xs : List ℕ) (net : ℕ) → AllBelow n xs → is_in xs net ≡ true → net < n
in_below n [] net h e = cc
in_below n (x ∷ xs) net h e =
    ⊎_elim
    (λ k. let same : net ≡ x = (Decides-eqb net x).0 k in let lt = All-head (Under n) x xs h in omega arith)
    (λ k. in_below n xs net (All-tail (Under n) x xs h) k)
    (or_some _ _ e)

-- ---- covers and latches
row_by : (ins : List ℕ) (out : ℕ) (line : ℕ) (p : Option (List ℕ × Bool)) → parts_fit (length ins) p ≡ true → FitsRow (length ins) (literals p)
row_by ins out line None e = cc
row_by ins out line (Some p) e = record { length = (Decides-eqb (length p.0) (length ins)).0 (and_left _ _ e); literals = and_right (eqb (length p.0) (length ins)) _ e } where
  and_left : (a b : Bool) → (a && b) ≡ true → a ≡ true
  and_left true b h = refl
  and_left false b h = h

  and_right : (a b : Bool) → (a && b) ≡ true → b ≡ true
  and_right true b h = h
  and_right false b h = cc

row_fits : (ins : List ℕ) (out : ℕ) (r : Row) → is_wrong_row (Names ins out) r ≡ false → FitsRow (length ins) (literals r.parts)
unfolding is_wrong_row
row_fits ins out r e = row_by ins out r.line r.parts (not_false _ e)

cover_fits : (n : ℕ) (d : Directive ℕ) (rows : List Row) → AllBelow n (names d) → All (λ r. is_wrong_row d r ≡ false) rows → All (FitsCover n) (cover_of d rows)
cover_fits n (Model k) rows h r = All-nil (FitsCover n)
cover_fits n (Inputs nets) rows h r = All-nil (FitsCover n)
cover_fits n (Outputs nets) rows h r = All-nil (FitsCover n)
cover_fits n (Clock nets) rows h r = All-nil (FitsCover n)
cover_fits n (Names ins out) rows h r = All-cons (FitsCover n) _ [] (record {
  inputs = All-left (Under n) ins (out ∷ []) h;
  output = All-head (Under n) out [] (All-right (Under n) ins (out ∷ []) h);
  rows = All-map (FitsRow (length ins)) (λ (x : Row). literals x.parts) rows (All-weaker (λ (x : Row). is_wrong_row (Names ins out) x ≡ false) (λ (x : Row). FitsRow (length ins) (literals x.parts)) (λ x e. row_fits ins out x e) rows r);
}) (All-nil (FitsCover n))
cover_fits n (Latch i o g k) rows h r = All-nil (FitsCover n)
cover_fits n BadLatch rows h r = All-nil (FitsCover n)
cover_fits n End rows h r = All-nil (FitsCover n)
cover_fits n Unknown rows h r = All-nil (FitsCover n)

covers_fit : (n : ℕ) (bs : Blocks) → NetsBelow n bs → All RowsFit bs → All (FitsCover n) (flat_map (λ b. cover_of b.directive b.rows) bs)
covers_fit n [] h r = All-nil (FitsCover n)
covers_fit n (b ∷ bs) h r = All-append (FitsCover n) (cover_of b.directive b.rows) _ (cover_fits n b.directive b.rows (All-head (BlockUnder n) b bs h) (All-head RowsFit b bs r)) (covers_fit n bs (All-tail (BlockUnder n) b bs h) (All-tail RowsFit b bs r))

-- the first value of a latch, and 0 of another directive
abbrev pub latch_init : {N : Type 0} → Directive N → ℕ
latch_init (Model k) = 0
latch_init (Inputs nets) = 0
latch_init (Outputs nets) = 0
latch_init (Clock nets) = 0
latch_init (Names ins out) = 0
latch_init (Latch i o g k) = k
latch_init BadLatch = 0
latch_init End = 0
latch_init Unknown = 0

abbrev pub InitFits : {N : Type 0} → Block N → Type 0
InitFits b = latch_init b.directive ≤ 3

latch_fits : (n : ℕ) (d : Directive ℕ) → AllBelow n (names d) → latch_init d ≤ 3 → All (FitsLatch n) (latch_of d)
latch_fits n (Model k) h i = All-nil (FitsLatch n)
latch_fits n (Inputs nets) h i = All-nil (FitsLatch n)
latch_fits n (Outputs nets) h i = All-nil (FitsLatch n)
latch_fits n (Clock nets) h i = All-nil (FitsLatch n)
latch_fits n (Names ins out) h i = All-nil (FitsLatch n)
latch_fits n (Latch a o g k) h i = All-cons (FitsLatch n) _ [] (record { input = All-head (Under n) a (o ∷ option_to_list g) h; output = All-head (Under n) o (option_to_list g) (All-tail (Under n) a (o ∷ option_to_list g) h); init = i }) (All-nil (FitsLatch n))
latch_fits n BadLatch h i = All-nil (FitsLatch n)
latch_fits n End h i = All-nil (FitsLatch n)
latch_fits n Unknown h i = All-nil (FitsLatch n)

latches_fit : (n : ℕ) (bs : Blocks) → NetsBelow n bs → All (InitFits {N = ℕ}) bs → All (FitsLatch n) (flat_map (λ b. latch_of b.directive) bs)
latches_fit n [] h i = All-nil (FitsLatch n)
latches_fit n (b ∷ bs) h i = All-append (FitsLatch n) (latch_of b.directive) _ (latch_fits n b.directive (All-head (BlockUnder n) b bs h) (All-head (InitFits {N = ℕ}) b bs i)) (latches_fit n bs (All-tail (BlockUnder n) b bs h) (All-tail (InitFits {N = ℕ}) b bs i))

-- ---- drivers
abbrev of_cover : ℕ → NetCover → Bool
of_cover net c = eqb c.output net

abbrev of_latch : ℕ → latch.Latch → Bool
of_latch net l = eqb l.output net

gated_here : (net : ℕ) (d : Directive ℕ) (rows : List Row) → times (of_cover net) (cover_of d rows) + times (of_latch net) (latch_of d) ≡ cnt net (gates d)
unfolding times is_net
gated_here net (Model k) rows = refl
gated_here net (Inputs nets) rows = refl
gated_here net (Outputs nets) rows = refl
gated_here net (Clock nets) rows = refl
gated_here net (Names ins out) rows = omega arith
gated_here net (Latch i o g k) rows = omega arith
gated_here net BadLatch rows = refl
gated_here net End rows = refl
gated_here net Unknown rows = refl

gated_all : (net : ℕ) (bs : Blocks) → times (of_cover net) (flat_map (λ b. cover_of b.directive b.rows) bs) + times (of_latch net) (flat_map (λ b. latch_of b.directive) bs) ≡ cnt net (each gates bs)
unfolding times
gated_all net [] = refl
gated_all net (b ∷ bs) =
    let c = times-append (of_cover net) (cover_of b.directive b.rows) (flat_map (λ (x : Block ℕ). cover_of x.directive x.rows) bs) in
    let l = times-append (of_latch net) (latch_of b.directive) (flat_map (λ (x : Block ℕ). latch_of x.directive) bs) in
    let g = times-append (is_net net) (gates b.directive) (each gates bs) in
    let h = gated_here net b.directive b.rows in
    let k = gated_all net bs in
    omega (arith, c, l, g, h, k)

drives_all : (net : ℕ) (bs : Blocks) → cnt net (each inputs bs) + cnt net (each gates bs) ≡ cnt net (each drives bs)
unfolding times
drives_all net [] = refl
drives_all net (b ∷ bs) =
    let d = b.directive in
    let i = times-append (is_net net) (inputs d) (each inputs bs) in
    let g = times-append (is_net net) (gates d) (each gates bs) in
    let a = times-append (is_net net) (drives d) (each drives bs) in
    let h = times-append (is_net net) (inputs d) (gates d) in
    let k = drives_all net bs in
    omega (arith, i, g, a, h, k)

times_gated-all : (known : List Name) (bs : Blocks) (net : ℕ) → times_gated (parts known bs) net ≡ cnt net (each gates bs)
unfolding parts
times_gated-all known bs net =
    let c = count_by-times (of_cover net) (flat_map (λ (b : Block ℕ). cover_of b.directive b.rows) bs) in
    let l = count_by-times (of_latch net) (flat_map (λ (b : Block ℕ). latch_of b.directive) bs) in
    let g = gated_all net bs in
    omega (arith, c, l, g)

is_net-eqb : (net : ℕ) (xs : List ℕ) → count_by (λ n. eqb n net) xs ≡ cnt net xs
unfolding is_net
is_net-eqb net xs = count_by-times (λ n. eqb n net) xs

times_driven-all : (known : List Name) (bs : Blocks) (net : ℕ) → times_driven (parts known bs) net ≡ cnt net (each drives bs)
times_driven-all known bs net =
    let g = times_gated-all known bs net in
    let i : count_by (λ n. eqb n net) (parts known bs).inputs ≡ cnt net (each inputs bs) = unfold parts in is_net-eqb net (each inputs bs) in
    let d = drives_all net bs in
    omega (arith, g, i, d)

-- ---- every net is driven
undriven_none : (all bs : Blocks) → undriven_refusals all bs ≡ [] → (net : ℕ) → is_in (each wanted bs) net ≡ true → is_in (each drivers all) net ≡ true
unfolding undriven_refusals is_undriven
undriven_none all [] e net h = cc
undriven_none all (b ∷ bs) e net h =
    ⊎_elim
    (λ k. not_false _ (none_passes (λ n. not (is_in (each drivers all) n)) (wanted b.directive) net (no_refusal _ 3 b.line (nothing_left _ (flat_map (λ (x : Block ℕ). refusal_if (is_undriven all x.directive) 3 x.line) bs) e)) k))
    (λ k. undriven_none all bs (nothing_right (refusal_if (is_undriven all b.directive) 3 b.line) _ e) net k)
    (in_append (wanted b.directive) (each wanted bs) net h)

or_true_right : (a : Bool) → (a || true) ≡ true
or_true_right true = refl
or_true_right false = refl

named_role : (d : Directive ℕ) (net : ℕ) → is_in (names d) net ≡ true → (is_in (drivers d) net ≡ true) ⊎ (is_in (wanted d) net ≡ true)
named_role (Model k) net h = inl h
named_role (Inputs nets) net h = inl (in_left (nets ++ []) [] net (in_left nets [] net h))
named_role (Outputs nets) net h = inr (in_left nets [] net h)
named_role (Clock nets) net h = inl h
named_role (Names ins out) net h =
    ⊎_elim (λ k. inr (in_left (ins ++ []) [] net (in_left ins [] net k))) (λ k. inl k) (in_append ins (out ∷ []) net h)
named_role (Latch i o g n) net h =
    ⊎_elim
    (λ k. inr (or_first (eqb net i) (is_in (option_to_list g) net) k))
    (λ k. ⊎_elim (λ m. inl (or_first (eqb net o) false m)) (λ m. inr (or_second (eqb net i) (is_in (option_to_list g) net) m)) (or_some (eqb net o) (is_in (option_to_list g) net) k))
    (or_some (eqb net i) (eqb net o || is_in (option_to_list g) net) h)
named_role BadLatch net h = inl h
named_role End net h = inl h
named_role Unknown net h = inl h

named_roles : (bs : Blocks) (net : ℕ) → is_in (each names bs) net ≡ true → (is_in (each drivers bs) net ≡ true) ⊎ (is_in (each wanted bs) net ≡ true)
named_roles [] net h = inl h
named_roles (b ∷ bs) net h =
    ⊎_elim
    (λ k. ⊎_elim (λ m. inl (in_left (drivers b.directive) (each drivers bs) net m)) (λ m. inr (in_left (wanted b.directive) (each wanted bs) net m)) (named_role b.directive net k))
    (λ k. ⊎_elim (λ m. inl (in_right (drivers b.directive) (each drivers bs) net m)) (λ m. inr (in_right (wanted b.directive) (each wanted bs) net m)) (named_roles bs net k))
    (in_append (names b.directive) (each names bs) net h)

-- what is in a part of each directive's nets
in_both : (f g : Directive ℕ → List ℕ) (bs : Blocks) (net : ℕ) → is_in (each (λ d. f d ++ g d) bs) net ≡ true → (is_in (each f bs) net ≡ true) ⊎ (is_in (each g bs) net ≡ true)
in_both f g [] net h = inl h
in_both f g (b ∷ bs) net h =
    ⊎_elim
    (λ k. ⊎_elim (λ m. inl (in_left (f b.directive) (each f bs) net m)) (λ m. inr (in_left (g b.directive) (each g bs) net m)) (in_append (f b.directive) (g b.directive) net k))
    (λ k. ⊎_elim (λ m. inl (in_right (f b.directive) (each f bs) net m)) (λ m. inr (in_right (g b.directive) (each g bs) net m)) (in_both f g bs net k))
    (in_append (f b.directive ++ g b.directive) (each (λ d. f d ++ g d) bs) net h)

in_first : (f g : Directive ℕ → List ℕ) (bs : Blocks) (net : ℕ) → is_in (each f bs) net ≡ true → is_in (each (λ d. f d ++ g d) bs) net ≡ true
in_first f g [] net h = h
in_first f g (b ∷ bs) net h =
    ⊎_elim
    (λ k. in_left (f b.directive ++ g b.directive) (each (λ d. f d ++ g d) bs) net (in_left (f b.directive) (g b.directive) net k))
    (λ k. in_right (f b.directive ++ g b.directive) (each (λ d. f d ++ g d) bs) net (in_first f g bs net k))
    (in_append (f b.directive) (each f bs) net h)

first_in : (xs : List ℕ) (net : ℕ) → slice_get xs 0 ≡ Some net → is_in xs net ≡ true
first_in [] net e = cc
first_in (x ∷ xs) net e = let same : net ≡ x = cc in or_first (eqb net x) (is_in xs net) ((Decides-eqb net x).1 same)

-- ---- the whole
pub record Accepted (known : List Name) (all : Blocks) : Type 0 where
  pub below : NetsBelow (length known) all
  pub named : (net : ℕ) → net < length known → is_in (each names all) net ≡ true
  pub inits : All (InitFits {N = ℕ}) all
  pub clean : Clean all all
  pub driven : undriven_refusals all all ≡ []

pub few_nets : (known : List Name) (all : Blocks) → Accepted known all → length known ≤ most_nets
few_nets known all a = by_test (leb (length known) 65536) refl where
  by_test : (b : Bool) → leb (length known) 65536 ≡ b → length known ≤ 65536
  by_test true e = grind (arith, nat_tests)
  by_test false e =
      let over : 65536 < length known = grind (arith, nat_tests) in
      let under = a.clean.few 65536 (a.named 65536 over) in
      absurd (omega arith)

is_driven : (known : List Name) (all : Blocks) → Accepted known all → (net : ℕ) → net < length known → slice_get (each clock_names all) 0 ≢ Some net → is_in (each drives all) net ≡ true
is_driven known all a net lt apart =
    ⊎_elim (λ k. k) (λ k. absurd (apart (a.clean.one_clock net (in_first clocks controls all net k))))
    (in_both drives clocks all net (⊎_elim (λ k. k) (λ k. undriven_none all all a.driven net k) (named_roles all net (a.named net lt))))

clock_has_no_gate : (known : List Name) (all : Blocks) → Accepted known all → (net : ℕ) → slice_get (each clock_names all) 0 ≡ Some net → cnt net (each gates all) ≡ 0
clock_has_no_gate known all a net e =
    let of_clock : is_in (each clocks all) net ≡ true → cnt net (each gates all) ≡ 0 = λ k. cnt_none net (each gates all) (a.clean.apart net k) in
    let of_input : is_in (each inputs all) net ≡ true → cnt net (each gates all) ≡ 0 = λ k.
    let some = cnt_some net (each inputs all) k in
    let once = a.clean.once net in
    let sum = drives_all net all in
    omega (arith, some, once, sum) in
    ⊎_elim
    of_clock
    (λ k. ⊎_elim of_input of_clock (in_both inputs clocks all net (a.clean.controls net k)))
    (in_both clocks controls all net (first_in (each clock_names all) net e))

pub valid : (known : List Name) (all : Blocks) → Accepted known all → IsValid (parts known all)
unfolding parts
valid known all a = record {
  few = few_nets known all a;
  inputs = each_below (length known) inputs (inputs_below (length known)) all a.below;
  outputs = each_below (length known) outputs (outputs_below (length known)) all a.below;
  clock = λ net e. in_below (length known) (each clock_names all) net (each_below (length known) clock_names (clock_names_below (length known)) all a.below) (first_in (each clock_names all) net e);
  covers = covers_fit (length known) all a.below a.clean.rows;
  latches = latches_fit (length known) all a.below a.inits;
  driven_once = λ net lt. let t = times_driven-all known all net in let o = a.clean.once net in omega (arith, t, o);
  driven = λ net lt apart.
      let t = times_driven-all known all net in
      let o = a.clean.once net in
      let s = cnt_some net (each drives all) (is_driven known all a net lt apart) in
      omega (arith, t, o, s);
  clock_free = λ net e. times_gated-all known all net ∙ clock_has_no_gate known all a net e;
}
