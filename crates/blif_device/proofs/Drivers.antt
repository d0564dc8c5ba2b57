-- What a valid netlist says of who drives a net, and the table made of it.
use Rattle.std.proofs.Common.{◌≡◌, ◌≢◌, ℕ, ◌+◌, ◌<◌, ◌≤◌, Bool, true, false, cond, List, [], ◌∷◌, length, get_or, refl, sym, ◌∙◌, ap, arith, subst, ◌⊎◌, inl, inr, eqb, All, Contains, Some, set, get_or-set_same, get_or-set_other, suc, zero}
use Rattle.std.specs.List.{count_by, AllPairs}
use Rattle.std.proofs.lemmas.List.Sums.{sum_by-cons}
use Rattle.std.proofs.lemmas.List.Elements.{All-cons}
use Rattle.std.proofs.lemmas.Bool.{cases_eq}
use Rattle.std.proofs.lemmas.Bool.Decides.{Decides-eqb}
use Rattle.blif_read.specs.declared.netlist.NetCover.{NetCover}
use Rattle.blif_read.specs.declared.netlist.Latch as latch
use Rattle.blif_read.specs.Netlists.{Parts}
use Rattle.blif_read.specs.Valid.{IsValid}
use Rattle.blif_device.specs.declared.sources.Source.{Source}
use Rattle.blif_device.specs.declared.sources.Source.TheVariants as source
use Rattle.blif_device.specs.Sources.{IsTable, source_at}

count-cons : {A : Type 0} (p : A → Bool) (x : A) (xs : List A) → count_by p (x ∷ xs) ≡ cond (p x) 1 0 + count_by p xs
count-cons p x xs = sum_by-cons (λ y. cond (p y) 1 0) x xs

-- one place that passes counts, and two places count twice
pub count_one : {A : Type 0} (p : A → Bool) (xs : List A) (i : ℕ) (d : A) → i < length xs → p (get_or xs i d) ≡ true → 1 ≤ count_by p xs
count_one p [] i d lt h = absurd (omega arith)
count_one p (x ∷ xs) zero d lt h = omega (arith, count-cons p x xs, ap {B = ℕ} (λ b. cond b 1 0) h)
count_one p (x ∷ xs) (suc i) d lt h = omega (arith, count-cons p x xs, count_one p xs i d (omega arith) h)

pub count_two : {A : Type 0} (p : A → Bool) (xs : List A) (i j : ℕ) (d : A) → i < j → j < length xs → p (get_or xs i d) ≡ true → p (get_or xs j d) ≡ true → 2 ≤ count_by p xs
count_two p [] i j d lt ltj h k = absurd (omega arith)
count_two p (x ∷ xs) i zero d lt ltj h k = absurd (omega arith)
count_two p (x ∷ xs) zero (suc j) d lt ltj h k = omega (arith, count-cons p x xs, ap {B = ℕ} (λ b. cond b 1 0) h, count_one p xs j d (omega arith) k)
count_two p (x ∷ xs) (suc i) (suc j) d lt ltj h k = omega (arith, count-cons p x xs, count_two p xs i j d (omega arith) (omega arith) h k)

pub count_none : {A : Type 0} (f : A → ℕ) (net : ℕ) (xs : List A) → All (λ x. f x ≢ net) xs → count_by (λ x. eqb (f x) net) xs ≡ 0
count_none f net [] h = refl
count_none f net (x ∷ xs) h = count-cons (λ y. eqb (f y) net) x xs ∙ (ap (λ b. cond b 1 0 + count_by (λ y. eqb (f y) net) xs) (no (eqb (f x) net) refl) ∙ omega (arith, count_none f net xs (λ k d lt. h (suc k) d (omega arith)))) where
  no : (b : Bool) → eqb (f x) net ≡ b → eqb (f x) net ≡ false
  no true e = absurd (h 0 x (omega arith) ((Decides-eqb (f x) net).0 e))
  no false e = e

-- no item has the net, or one has
pub search_net : {A : Type 0} (f : A → ℕ) (net : ℕ) (xs : List A) → All (λ x. f x ≢ net) xs ⊎ ((k : ℕ) × (k < length xs) × ((d : A) → f (get_or xs k d) ≡ net))
search_net f net [] = inl (λ k d lt. absurd (omega arith))
search_net {A} f net (x ∷ xs) = first (cases_eq (f x) net) (search_net f net xs) where
  first : (f x ≡ net) ⊎ (f x ≡ net → ⊥) → All (λ x. f x ≢ net) xs ⊎ ((k : ℕ) × (k < length xs) × ((d : A) → f (get_or xs k d) ≡ net)) → All (λ x. f x ≢ net) (x ∷ xs) ⊎ ((k : ℕ) × (k < length (x ∷ xs)) × ((d : A) → f (get_or (x ∷ xs) k d) ≡ net))
  first (inl same) rest = inr (0, omega arith, λ d. same)
  first (inr ne) (inl none) = inl (All-cons (λ y. f y ≢ net) x xs ne none)
  first (inr ne) (inr found) = inr (suc found.0, omega (arith, found.1), found.2)

is_eq : (a b : ℕ) → a ≡ b → eqb a b ≡ true
is_eq a b e = (Decides-eqb a b).1 e

-- ---- who drives a net
input_below : (p : Parts) → IsValid p → (net : ℕ) → Contains p.inputs net → net < length p.nets
input_below p v net c = subst (λ (n : ℕ). n < length p.nets) c.2 (v.inputs c.0 net c.1)

input_counts : (p : Parts) (net : ℕ) → Contains p.inputs net → 1 ≤ count_by (λ n. eqb n net) p.inputs
input_counts p net c = count_one (λ n. eqb n net) p.inputs c.0 net c.1 (is_eq _ net c.2)

latch_counts : (p : Parts) (net k : ℕ) (d : latch.Latch) → k < length p.latches → (get_or p.latches k d).output ≡ net → 1 ≤ count_by (λ l. eqb l.output net) p.latches
latch_counts p net k d lt e = count_one (λ l. eqb l.output net) p.latches k d lt (is_eq _ net e)

cover_counts : (p : Parts) (net k : ℕ) (d : NetCover) → k < length p.covers → (get_or p.covers k d).output ≡ net → 1 ≤ count_by (λ c. eqb c.output net) p.covers
cover_counts p net k d lt e = count_one (λ c. eqb c.output net) p.covers k d lt (is_eq _ net e)

pub latch_below : (p : Parts) → IsValid p → All (λ l. l.output < length p.nets) p.latches
latch_below p v k d lt = (v.latches k d lt).output

pub cover_below : (p : Parts) → IsValid p → All (λ c. c.output < length p.nets) p.covers
cover_below p v k d lt = (v.covers k d lt).output

pub input_no_latch : (p : Parts) → IsValid p → (net : ℕ) → Contains p.inputs net → All (λ l. l.output ≢ net) p.latches
input_no_latch p v net c k d lt e = omega (arith, v.driven_once net (input_below p v net c), input_counts p net c, latch_counts p net k d lt e)

pub input_no_cover : (p : Parts) → IsValid p → (net : ℕ) → Contains p.inputs net → All (λ c. c.output ≢ net) p.covers
input_no_cover p v net c k d lt e = omega (arith, v.driven_once net (input_below p v net c), input_counts p net c, cover_counts p net k d lt e)

pub latch_no_cover : (p : Parts) → IsValid p → (j : ℕ) (b : latch.Latch) → j < length p.latches → All (λ c. c.output ≢ (get_or p.latches j b).output) p.covers
latch_no_cover p v j b in_latches k d lt e =
    let net = (get_or p.latches j b).output in
    omega (arith, v.driven_once net (latch_below p v j b in_latches), latch_counts p net j b in_latches refl, cover_counts p net k d lt e)

pub latch_no_clock : (p : Parts) → IsValid p → (j : ℕ) (b : latch.Latch) → j < length p.latches → p.clock ≢ Some (get_or p.latches j b).output
latch_no_clock p v j b lt e =
    let net = (get_or p.latches j b).output in
    omega (arith, v.clock_free net e, latch_counts p net j b lt refl)

pub cover_no_clock : (p : Parts) → IsValid p → (j : ℕ) (b : NetCover) → j < length p.covers → p.clock ≢ Some (get_or p.covers j b).output
cover_no_clock p v j b lt e =
    let net = (get_or p.covers j b).output in
    omega (arith, v.clock_free net e, cover_counts p net j b lt refl)

pub latches_distinct : (p : Parts) → IsValid p → AllPairs (λ a b. a.output ≢ b.output) p.latches
latches_distinct p v i j d lt ltj e =
    let net = (get_or p.latches j d).output in
    omega (arith, v.driven_once net (latch_below p v j d ltj), count_two (λ l. eqb l.output net) p.latches i j d lt ltj (is_eq _ net e) (is_eq _ net refl))

pub covers_distinct : (p : Parts) → IsValid p → AllPairs (λ a b. a.output ≢ b.output) p.covers
covers_distinct p v i j d lt ltj e =
    let net = (get_or p.covers j d).output in
    omega (arith, v.driven_once net (cover_below p v j d ltj), count_two (λ c. eqb c.output net) p.covers i j d lt ltj (is_eq _ net e) (is_eq _ net refl))

-- ---- the table, put in four steps
pub IsTable-put : (p : Parts) → IsValid p → (t1 t2 t3 t4 : List Source) → length t4 ≡ length p.nets
    → ((net : ℕ) → Contains p.inputs net → source_at t1 net ≡ source.Driven)
    → ((k : ℕ) (d : latch.Latch) → k < length p.latches → source_at t2 (get_or p.latches k d).output ≡ source.Latch k)
    → ((net : ℕ) → All (λ l. l.output ≢ net) p.latches → source_at t2 net ≡ source_at t1 net)
    → ((k : ℕ) (d : NetCover) → k < length p.covers → source_at t3 (get_or p.covers k d).output ≡ source.Cover k)
    → ((net : ℕ) → All (λ c. c.output ≢ net) p.covers → source_at t3 net ≡ source_at t2 net)
    → ((net : ℕ) → p.clock ≡ Some net → source_at t4 net ≡ source.Clock)
    → ((net : ℕ) → p.clock ≢ Some net → source_at t4 net ≡ source_at t3 net)
    → IsTable p t4
IsTable-put p v t1 t2 t3 t4 size put1 put2 others2 put3 others3 put4 others4 = record {
  size = size;
  inputs = λ net c ne. others4 net ne ∙ others3 net (input_no_cover p v net c) ∙ others2 net (input_no_latch p v net c) ∙ put1 net c;
  latches = λ k d lt. others4 _ (latch_no_clock p v k d lt) ∙ others3 _ (latch_no_cover p v k d lt) ∙ put2 k d lt;
  covers = λ k d lt. others4 _ (cover_no_clock p v k d lt) ∙ put3 k d lt;
  clock = put4;
}

-- ---- one more entry put
pub put_more : {A : Type 0} (f : A → ℕ) (mk : ℕ → Source) (xs : List A) (table : List Source) (i net : ℕ) → ((d : A) → net ≡ f (get_or xs i d)) → i < length xs → net < length table → AllPairs (λ a b. f a ≢ f b) xs
    → ((k : ℕ) (d : A) → k < i → source_at table (f (get_or xs k d)) ≡ mk k)
    → (k : ℕ) (d : A) → k < i + 1 → source_at (set table net (mk i)) (f (get_or xs k d)) ≡ mk k
put_more f mk xs table i net at lt below distinct before k d lek = at_case (cases_eq k i) where
  at_case : (k ≡ i) ⊎ (k ≡ i → ⊥) → source_at (set table net (mk i)) (f (get_or xs k d)) ≡ mk k
  at_case (inl same) =
      ap (λ n. source_at (set table net (mk i)) (f (get_or xs n d))) same
      ∙ ap (source_at (set table net (mk i))) (sym (at d))
      ∙ get_or-set_same table net (mk i) source.Clock below
      ∙ ap mk (sym same)
  at_case (inr ne) =
      let ki : k < i = omega arith in
      get_or-set_other table net (f (get_or xs k d)) (mk i) source.Clock (λ e. distinct k i d ki lt (e ∙ at d)) ∙ before k d ki

pub others_more : {A : Type 0} (f : A → ℕ) (s : Source) (xs : List A) (start table : List Source) (i net : ℕ) → ((d : A) → net ≡ f (get_or xs i d)) → i < length xs
    → ((other : ℕ) → All (λ x. f x ≢ other) xs → source_at table other ≡ source_at start other)
    → (other : ℕ) → All (λ x. f x ≢ other) xs → source_at (set table net s) other ≡ source_at start other
others_more f s [] start table i net at lt before other none = absurd (omega arith)
others_more f s (x ∷ xs) start table i net at lt before other none =
    get_or-set_other table net other s source.Clock (λ e. none i x lt (sym (at x) ∙ sym e)) ∙ before other none
