-- What gives each net of a valid netlist its value, and what it reads.
use Rattle.std.proofs.Common.{◌≡◌, ◌≢◌, ℕ, zero, suc, ◌<◌, ◌≤◌, Bool, true, false, cond, List, [], ◌∷◌, length, get_or, refl, sym, ◌∙◌, ap, arith, ◌⊎◌, inl, inr, eqb, All, Contains, Some, None, Option, filter, flat_map, append-nil}
use Rattle.std.specs.List.{AllPairs, slice_get}
use Rattle.std.proofs.lemmas.List.{get_or_past}
use Rattle.std.proofs.lemmas.Bool.{cases_eq, cases_lt}
use Rattle.std.proofs.lemmas.Bool.Decides.{Decides-eqb}
use Rattle.blif_read.specs.declared.netlist.NetCover.{NetCover}
use Rattle.blif_read.specs.declared.netlist.Latch as latch
use Rattle.blif_read.specs.Netlists.{Parts}
use Rattle.blif_read.specs.Valid.{IsValid}
use Rattle.blif_device.specs.declared.sources.Source.{Source}
use Rattle.blif_device.specs.declared.sources.Source.TheVariants as source
use Rattle.blif_device.specs.Sources.{IsTable, source_at, source_reads, table_reads, inputs_of}
use Rattle.blif_device.specs.Rings.{reads}
use Rattle.blif_device.proofs.Drivers.{search_net, count_none, covers_distinct}

pub data Origin (p : Parts) (table : List Source) (net : ℕ) : Type 0 where
  is_clock : p.clock ≡ Some net → source_at table net ≡ source.Clock → Origin p table net
  is_input : Contains p.inputs net → p.clock ≢ Some net → source_at table net ≡ source.Driven → Origin p table net
  is_latch : (k : ℕ) → k < length p.latches → ((d : latch.Latch) → (get_or p.latches k d).output ≡ net) → source_at table net ≡ source.Latch k → Origin p table net
  is_cover : (k : ℕ) → k < length p.covers → ((d : NetCover) → (get_or p.covers k d).output ≡ net) → source_at table net ≡ source.Cover k → Origin p table net

none_some : (n : ℕ) → None ≡ Some n → ⊥
none_some n e = cc

some_same : (m n : ℕ) → Some m ≡ Some n → m ≡ n
some_same m n e = cc

-- whether the net is the clock
clock_or_not : (clock : Option ℕ) (net : ℕ) → (clock ≡ Some net) ⊎ (clock ≢ Some net)
clock_or_not None net = inr (none_some net)
clock_or_not (Some c) net = at_case (cases_eq c net) where
  at_case : (c ≡ net) ⊎ (c ≡ net → ⊥) → (Some c ≡ Some net) ⊎ (Some c ≢ Some net)
  at_case (inl same) = inl (ap Some same)
  at_case (inr other) = inr (λ e. other (some_same c net e))

latch_source : (p : Parts) (table : List Source) (net k : ℕ) → IsTable p table → k < length p.latches → ((d : latch.Latch) → (get_or p.latches k d).output ≡ net) → source_at table net ≡ source.Latch k
latch_source p table net k t lt at = at_list p.latches refl lt at where
  at_list : (ls : List latch.Latch) → ls ≡ p.latches → k < length p.latches → ((d : latch.Latch) → (get_or p.latches k d).output ≡ net) → source_at table net ≡ source.Latch k
  at_list [] e below out = absurd (omega (arith, ap {B = ℕ} (length {A = latch.Latch}) e))
  at_list (l ∷ ls) e below out = ap (source_at table) (sym (out l)) ∙ t.latches k l below

cover_source : (p : Parts) (table : List Source) (net k : ℕ) → IsTable p table → k < length p.covers → ((d : NetCover) → (get_or p.covers k d).output ≡ net) → source_at table net ≡ source.Cover k
cover_source p table net k t lt at = at_list p.covers refl lt at where
  at_list : (cs : List NetCover) → cs ≡ p.covers → k < length p.covers → ((d : NetCover) → (get_or p.covers k d).output ≡ net) → source_at table net ≡ source.Cover k
  at_list [] e below out = absurd (omega (arith, ap {B = ℕ} (length {A = NetCover}) e))
  at_list (c ∷ cs) e below out = ap (source_at table) (sym (out c)) ∙ t.covers k c below

pub origin : (p : Parts) (table : List Source) (net : ℕ) → IsValid p → IsTable p table → net < length p.nets → Origin p table net
origin p table net v t lt = by_clock (clock_or_not p.clock net) where
  by_input : p.clock ≢ Some net → All (λ c. c.output ≢ net) p.covers → All (λ l. l.output ≢ net) p.latches → All (λ n. n ≢ net) p.inputs ⊎ ((k : ℕ) × (k < length p.inputs) × ((d : ℕ) → get_or p.inputs k d ≡ net)) → Origin p table net
  by_input ne no_cover no_latch (inl no_input) =
      absurd (omega (arith, v.driven net lt ne, count_none (λ (c : NetCover). c.output) net p.covers no_cover, count_none (λ (l : latch.Latch). l.output) net p.latches no_latch, count_none (λ (n : ℕ). n) net p.inputs no_input))
  by_input ne no_cover no_latch (inr i) =
      let there : Contains p.inputs net = (i.0, i.1, i.2 net) in
      is_input there ne (t.inputs net there ne)

  by_latch : p.clock ≢ Some net → All (λ c. c.output ≢ net) p.covers → All (λ l. l.output ≢ net) p.latches ⊎ ((k : ℕ) × (k < length p.latches) × ((d : latch.Latch) → (get_or p.latches k d).output ≡ net)) → Origin p table net
  by_latch ne no_cover (inl no_latch) = by_input ne no_cover no_latch (search_net (λ (n : ℕ). n) net p.inputs)
  by_latch ne no_cover (inr l) = is_latch l.0 l.1 l.2 (latch_source p table net l.0 t l.1 l.2)

  by_cover : p.clock ≢ Some net → All (λ c. c.output ≢ net) p.covers ⊎ ((k : ℕ) × (k < length p.covers) × ((d : NetCover) → (get_or p.covers k d).output ≡ net)) → Origin p table net
  by_cover ne (inl no_cover) = by_latch ne no_cover (search_net (λ (l : latch.Latch). l.output) net p.latches)
  by_cover ne (inr c) = is_cover c.0 c.1 c.2 (cover_source p table net c.0 t c.1 c.2)

  by_clock : (p.clock ≡ Some net) ⊎ (p.clock ≢ Some net) → Origin p table net
  by_clock (inl e) = is_clock e (t.clock net e)
  by_clock (inr ne) = by_cover ne (search_net (λ (c : NetCover). c.output) net p.covers)

-- ---- what a net reads
pub slice_get_at : {A : Type 0} (xs : List A) (k : ℕ) (d : A) → k < length xs → slice_get xs k ≡ Some (get_or xs k d)
slice_get_at [] k d lt = absurd (omega arith)
slice_get_at (x ∷ xs) zero d lt = refl
slice_get_at (x ∷ xs) (suc k) d lt = slice_get_at xs k d (omega arith)

not_equal : (a b : ℕ) → a ≢ b → eqb a b ≡ false
not_equal a b ne = at_case (eqb a b) refl where
  at_case : (t : Bool) → eqb a b ≡ t → eqb a b ≡ false
  at_case true e = absurd (ne ((Decides-eqb a b).0 e))
  at_case false e = e

filter_none : (net : ℕ) (cs : List NetCover) → All (λ c. c.output ≢ net) cs → filter (λ c. eqb c.output net) cs ≡ []
filter_none net [] h = refl
filter_none net (c ∷ cs) h =
    ap (λ b. cond b (c ∷ filter (λ x. eqb x.output net) cs) (filter (λ x. eqb x.output net) cs)) (not_equal c.output net (h 0 c (omega arith)))
    ∙ filter_none net cs (λ k d lt. h (suc k) d (omega arith))

filter_one : (net : ℕ) (cs : List NetCover) (k : ℕ) (d : NetCover) → k < length cs → (get_or cs k d).output ≡ net → AllPairs (λ a b. a.output ≢ b.output) cs → filter (λ c. eqb c.output net) cs ≡ get_or cs k d ∷ []
filter_one net [] k d lt e distinct = absurd (omega arith)
filter_one net (c ∷ cs) zero d lt e distinct =
    ap (λ b. cond b (c ∷ filter (λ x. eqb x.output net) cs) (filter (λ x. eqb x.output net) cs)) ((Decides-eqb c.output net).1 e)
    ∙ ap (λ xs. c ∷ xs) (filter_none net cs (λ k b below same. distinct 0 (suc k) b (omega arith) (omega arith) (e ∙ sym same)))
filter_one net (c ∷ cs) (suc k) d lt e distinct =
    ap (λ b. cond b (c ∷ filter (λ x. eqb x.output net) cs) (filter (λ x. eqb x.output net) cs)) (not_equal c.output net (λ same. distinct 0 (suc k) d (omega arith) lt (same ∙ sym e)))
    ∙ filter_one net cs k d (omega arith) e (λ i j b ij jl. distinct (suc i) (suc j) b (omega arith) (omega arith))

some_cover : (cs : List NetCover) (k : ℕ) → k < length cs → NetCover
some_cover [] k lt = absurd (omega arith)
some_cover (c ∷ cs) k lt = c

reads_of_cover : (p : Parts) (net k : ℕ) → IsValid p → k < length p.covers → ((d : NetCover) → (get_or p.covers k d).output ≡ net) → reads p.covers net ≡ inputs_of (slice_get p.covers k)
unfolding reads
reads_of_cover p net k v lt out =
    let d = some_cover p.covers k lt in
    ap (λ (cs : List NetCover). flat_map (λ c. c.inputs) cs) (filter_one net p.covers k d lt (out d) (covers_distinct p v))
    ∙ append-nil (get_or p.covers k d).inputs
    ∙ sym (ap inputs_of (slice_get_at p.covers k d lt))

reads_of_none : (p : Parts) (net : ℕ) → All (λ c. c.output ≢ net) p.covers → reads p.covers net ≡ []
unfolding reads
reads_of_none p net h = ap (λ (cs : List NetCover). flat_map (λ c. c.inputs) cs) (filter_none net p.covers h)

cover_latch : (j k : ℕ) → source.Cover j ≡ source.Latch k → ⊥
cover_latch j k e = cc

-- the table's reads are the netlist's
pub same_reads : (p : Parts) (table : List Source) → IsValid p → IsTable p table → (net : ℕ) → table_reads p.covers table net ≡ reads p.covers net
same_reads p table v t net = by_cover (search_net (λ (c : NetCover). c.output) net p.covers) where
  none_from : All (λ c. c.output ≢ net) p.covers → Origin p table net → table_reads p.covers table net ≡ []
  none_from h (is_clock e s) = ap (source_reads p.covers) s
  none_from h (is_input e ne s) = ap (source_reads p.covers) s
  none_from h (is_latch k lt out s) = ap (source_reads p.covers) s
  none_from h (is_cover k lt out s) = let d = some_cover p.covers k lt in absurd (h k d lt (out d))

  none : All (λ c. c.output ≢ net) p.covers → (net < length p.nets) ⊎ (length p.nets ≤ net) → table_reads p.covers table net ≡ []
  none h (inl lt) = none_from h (origin p table net v t lt)
  none h (inr le) = ap (source_reads p.covers) (get_or_past table net source.Clock (omega (arith, t.size)))

  by_cover : All (λ c. c.output ≢ net) p.covers ⊎ ((k : ℕ) × (k < length p.covers) × ((d : NetCover) → (get_or p.covers k d).output ≡ net)) → table_reads p.covers table net ≡ reads p.covers net
  by_cover (inl h) = none h (cases_lt net (length p.nets)) ∙ sym (reads_of_none p net h)
  by_cover (inr c) = ap (source_reads p.covers) (cover_source p table net c.0 t c.1 c.2) ∙ sym (reads_of_cover p net c.0 v c.1 c.2)
