-- A pass in order leaves each net with the value of its source, and those values are the one settled valuation.
use Rattle.std.proofs.Common.{◌≡◌, ◌≢◌, ℕ, zero, suc, ◌+◌, ◌<◌, ◌≤◌, List, [], ◌∷◌, length, get_or, set, take, map, replicate, refl, sym, ◌∙◌, ap, arith, subst, ◌⊎◌, inl, inr, Contains, Some, None, Option, get_or-set_same, get_or-set_other}
use Rattle.std.specs.List.{zip, slice_get}
use Rattle.std.proofs.Math.ListN.{length-set}
use Rattle.std.proofs.lemmas.List.{take_all, get_or_default, ext_get_or, length-map, get_or-map, length-replicate}
use Rattle.std.proofs.lemmas.List.Sums.{fold_more}
use Rattle.std.proofs.lemmas.Bool.{cases_eq}
use Rattle.four_state.specs.declared.bit.Bit3.{Bit3}
use Rattle.four_state.specs.declared.bit.Bit3.TheVariants.{X}
use Rattle.blif_read.specs.declared.netlist.NetCover.{NetCover}
use Rattle.blif_read.specs.declared.netlist.Latch as latch
use Rattle.blif_read.specs.Netlists.{Parts}
use Rattle.blif_read.specs.Valid.{IsValid}
use Rattle.blif_device.specs.declared.sources.Source.{Source}
use Rattle.blif_device.specs.declared.sources.Source.TheVariants as source
use Rattle.blif_device.specs.Valuations.{Valuation, valuation, IsSame}
use Rattle.blif_device.specs.Covers.{row_value, cover_value, literal_value, literal_values, all_of, any_of, output_value}
use Rattle.blif_device.specs.Settled.{IsSettled, IsTheSettled, HasOneSettled}
use Rattle.blif_device.specs.Sources.{IsTable, source_at, source_reads, table_reads, source_value, value_of, inputs_of}
use Rattle.blif_device.specs.Orders.{IsOrder}
use Rattle.blif_device.specs.Passes.{settle_net, pass_over, IsFixed}
use Rattle.blif_device.proofs.Origins.{Origin, origin, slice_get_at, is_clock, is_input, is_latch, is_cover}

-- ---- a source's value depends on what it reads alone
same_literals : (v w : Valuation) (inputs row : List ℕ) → ((k : ℕ) → k < length inputs → v (get_or inputs k 0) ≡ w (get_or inputs k 0)) → literal_values v (zip inputs row) ≡ literal_values w (zip inputs row)
same_literals v w [] row h = refl
same_literals v w (net ∷ inputs) [] h = refl
same_literals v w (net ∷ inputs) (l ∷ row) h =
    ap (λ b. literal_value l b ∷ literal_values v (zip inputs row)) (h 0 (omega arith))
    ∙ ap (λ bs. literal_value l (w net) ∷ bs) (same_literals v w inputs row (λ k lt. h (suc k) (omega arith)))

same_rows : (v w : Valuation) (inputs : List ℕ) (rows : List (List ℕ)) → ((k : ℕ) → k < length inputs → v (get_or inputs k 0) ≡ w (get_or inputs k 0)) → map (row_value v inputs) rows ≡ map (row_value w inputs) rows
unfolding row_value
same_rows v w inputs [] h = refl
same_rows v w inputs (row ∷ rows) h =
    ap (λ bs. all_of bs ∷ map (row_value v inputs) rows) (same_literals v w inputs row h)
    ∙ ap (λ bs. row_value w inputs row ∷ bs) (same_rows v w inputs rows h)

same_cover : (v w : Valuation) (c : NetCover) → ((k : ℕ) → k < length c.inputs → v (get_or c.inputs k 0) ≡ w (get_or c.inputs k 0)) → cover_value v c ≡ cover_value w c
unfolding cover_value
same_cover v w c h = ap (λ bs. output_value c.on c.rows (any_of bs)) (same_rows v w c.inputs c.rows h)

pub same_source : (v w : Valuation) (covers : List NetCover) (driven : Valuation) (held : List Bit3) (net : ℕ) (s : Source) → ((k : ℕ) → k < length (source_reads covers s) → v (get_or (source_reads covers s) k 0) ≡ w (get_or (source_reads covers s) k 0)) → source_value v covers driven held net s ≡ source_value w covers driven held net s
same_source v w covers driven held net source.Clock h = refl
same_source v w covers driven held net source.Driven h = refl
same_source v w covers driven held net (source.Latch k) h = refl
same_source v w covers driven held net (source.Cover k) h = at (slice_get covers k) h where
  at : (o : Option NetCover) → ((j : ℕ) → j < length (inputs_of o) → v (get_or (inputs_of o) j 0) ≡ w (get_or (inputs_of o) j 0)) → value_of v o ≡ value_of w o
  at None e = refl
  at (Some c) e = same_cover v w c e

-- ---- a pass
pub length-pass : (covers : List NetCover) (table : List Source) (driven : Valuation) (held values : List Bit3) (order : List ℕ) → length (pass_over covers table driven held values order) ≡ length values
length-pass covers table driven held values [] = refl
length-pass covers table driven held values (net ∷ order) =
    length-pass covers table driven held (settle_net covers table driven held values net) order ∙ length-set values net _

-- the first so many nets of the order are right
pass_right : (covers : List NetCover) (table : List Source) (driven : Valuation) (held values : List Bit3) (order : List ℕ) → IsOrder (table_reads covers table) (length table) order → length values ≡ length table → (i : ℕ) → i ≤ length order
    → (p : ℕ) → p < i → valuation (pass_over covers table driven held values (take i order)) (get_or order p 0) ≡ source_value (valuation (pass_over covers table driven held values (take i order))) covers driven held (get_or order p 0) (source_at table (get_or order p 0))
pass_right covers table driven held values order o size zero le p lt = absurd (omega arith)
pass_right covers table driven held values order o size (suc i) le p lt =
    subst (λ (vs : List Bit3). valuation vs (get_or order p 0) ≡ source_value (valuation vs) covers driven held (get_or order p 0) (source_at table (get_or order p 0))) (sym stepped) (at_case (λ pi. pass_right covers table driven held values order o size i (omega arith) p pi) (cases_eq p i)) where
      before : List Bit3
      before = pass_over covers table driven held values (take i order)

      net : ℕ
      net = get_or order i 0

      value : Bit3
      value = source_value (valuation before) covers driven held net (source_at table net)

      stepped : pass_over covers table driven held values (take (suc i) order) ≡ set before net value
      stepped = let e : i + 1 ≡ suc i = omega arith in subst (λ (j : ℕ). pass_over covers table driven held values (take j order) ≡ set before net value) e (fold_more (settle_net covers table driven held) values order i 0 (omega arith))

      below : net < length before
      below = omega (arith, length-pass covers table driven held values (take i order), o.below i (omega arith))

      -- what a net up to this one reads keeps its value
      kept : (q k : ℕ) → q ≤ i → k < length (table_reads covers table (get_or order q 0)) → valuation (set before net value) (get_or (table_reads covers table (get_or order q 0)) k 0) ≡ valuation before (get_or (table_reads covers table (get_or order q 0)) k 0)
      kept q k qi klt =
          let e = o.earlier q k (omega arith) klt in
          get_or-set_other before net _ value X (λ same. o.distinct e.0 i (omega (arith, e.1)) (omega arith) (e.2 ∙ same))

      at_case : (p < i → valuation before (get_or order p 0) ≡ source_value (valuation before) covers driven held (get_or order p 0) (source_at table (get_or order p 0))) → (p ≡ i) ⊎ (p ≡ i → ⊥) → valuation (set before net value) (get_or order p 0) ≡ source_value (valuation (set before net value)) covers driven held (get_or order p 0) (source_at table (get_or order p 0))
      at_case earlier (inl same) =
          subst (λ (n : ℕ). valuation (set before net value) n ≡ source_value (valuation (set before net value)) covers driven held n (source_at table n)) (ap (λ j. get_or order j 0) (sym same))
          (get_or-set_same before net value X below ∙ sym (same_source (valuation (set before net value)) (valuation before) covers driven held net (source_at table net) (λ k klt. kept i k (omega arith) klt)))
      at_case earlier (inr other) =
          let pi : p < i = omega arith in
          get_or-set_other before net (get_or order p 0) value X (λ same. o.distinct p i pi (omega arith) same)
          ∙ earlier pi
          ∙ sym (same_source (valuation (set before net value)) (valuation before) covers driven held (get_or order p 0) (source_at table (get_or order p 0)) (λ k klt. kept p k (omega arith) klt))

pub pass_fixed : (covers : List NetCover) (table : List Source) (driven : Valuation) (held values : List Bit3) (order : List ℕ) → IsOrder (table_reads covers table) (length table) order → length values ≡ length table → IsFixed covers table driven held (valuation (pass_over covers table driven held values order))
pass_fixed covers table driven held values order o size net lt =
    let found = o.all net lt in
    let right = pass_right covers table driven held values order o size (length order) (omega arith) found.0 found.1 in
    let all = subst (λ (ns : List ℕ). valuation (pass_over covers table driven held values ns) (get_or order found.0 0) ≡ source_value (valuation (pass_over covers table driven held values ns)) covers driven held (get_or order found.0 0) (source_at table (get_or order found.0 0))) (take_all (length order) order (omega arith)) right in
    subst (λ (n : ℕ). valuation (pass_over covers table driven held values order) n ≡ source_value (valuation (pass_over covers table driven held values order)) covers driven held n (source_at table n)) found.2 all

-- ---- settled and fixed are one
pub fixed_settled : (p : Parts) (table : List Source) (driven : Valuation) (held : List Bit3) (v : Valuation) → IsValid p → IsTable p table → length held ≡ length p.latches → IsFixed p.covers table driven held v → IsSettled p driven held v
fixed_settled p table driven held v valid t size fixed = record {
  inputs = λ k d lt ne. input (get_or p.inputs k d) (k, lt, get_or_default p.inputs k (get_or p.inputs k d) d lt) ne;
  latches = latches;
  clock = λ net e. fixed net (omega (arith, valid.clock net e, t.size)) ∙ ap (source_value v p.covers driven held net) (t.clock net e);
  covers = λ k d lt. fixed (get_or p.covers k d).output (omega (arith, (valid.covers k d lt).output, t.size)) ∙ ap (source_value v p.covers driven held (get_or p.covers k d).output) (t.covers k d lt) ∙ ap (value_of v) (slice_get_at p.covers k d lt);
} where
  input : (net : ℕ) → Contains p.inputs net → p.clock ≢ Some net → v net ≡ driven net
  input net c ne =
      let below : net < length p.nets = subst (λ (n : ℕ). n < length p.nets) c.2 (valid.inputs c.0 net c.1) in
      fixed net (omega (arith, below, t.size)) ∙ ap (source_value v p.covers driven held net) (t.inputs net c ne)

  at : (ls : List latch.Latch) → ls ≡ p.latches → (k : ℕ) → k < length ls → get_or (map (λ l. v l.output) ls) k X ≡ get_or held k X
  at [] e k lt = absurd (omega arith)
  at (l ∷ ls) e k lt =
      let below : k < length p.latches = subst (λ (xs : List latch.Latch). k < length xs) e lt in
      get_or-map (λ (x : latch.Latch). v x.output) (l ∷ ls) k l X lt
      ∙ ap (λ (xs : List latch.Latch). v (get_or xs k l).output) e
      ∙ fixed (get_or p.latches k l).output (omega (arith, (valid.latches k l below).output, t.size))
      ∙ ap (source_value v p.covers driven held (get_or p.latches k l).output) (t.latches k l below)

  latches : map (λ l. v l.output) p.latches ≡ held
  latches = ext_get_or X (map (λ l. v l.output) p.latches) held (length-map p.latches (λ l. v l.output) ∙ sym size) (λ k lt. at p.latches refl k (subst (λ (n : ℕ). k < n) (length-map p.latches (λ l. v l.output)) lt))

settled_fixed : (p : Parts) (table : List Source) (driven : Valuation) (held : List Bit3) (w : Valuation) → IsValid p → IsTable p table → IsSettled p driven held w → IsFixed p.covers table driven held w
settled_fixed p table driven held w valid t s net lt = by_origin (origin p table net valid t (omega (arith, t.size))) where
  by_origin : Origin p table net → w net ≡ source_value w p.covers driven held net (source_at table net)
  by_origin (is_clock e is) = s.clock net e ∙ sym (ap (source_value w p.covers driven held net) is)
  by_origin (is_input c ne is) =
      subst (λ (n : ℕ). w n ≡ driven n) c.2 (s.inputs c.0 net c.1 (λ e. ne (e ∙ ap Some c.2))) ∙ sym (ap (source_value w p.covers driven held net) is)
  by_origin (is_latch k klt out is) = at p.latches refl ∙ sym (ap (source_value w p.covers driven held net) is) where
    at : (ls : List latch.Latch) → ls ≡ p.latches → w net ≡ get_or held k X
    at [] e = absurd (omega (arith, klt, ap {B = ℕ} (length {A = latch.Latch}) e))
    at (l ∷ ls) e = ap w (sym (out l)) ∙ sym (get_or-map (λ (x : latch.Latch). w x.output) p.latches k l X klt) ∙ ap (λ bs. get_or bs k X) s.latches
  by_origin (is_cover k klt out is) = at p.covers refl ∙ sym (ap (source_value w p.covers driven held net) is) where
    at : (cs : List NetCover) → cs ≡ p.covers → w net ≡ value_of w (slice_get p.covers k)
    at [] e = absurd (omega (arith, klt, ap {B = ℕ} (length {A = NetCover}) e))
    at (c ∷ cs) e = ap w (sym (out c)) ∙ s.covers k c klt ∙ sym (ap (value_of w) (slice_get_at p.covers k c klt))

-- two fixed valuations are the same on every net of the order
fixed_same : (covers : List NetCover) (table : List Source) (driven : Valuation) (held : List Bit3) (v w : Valuation) (order : List ℕ) → IsOrder (table_reads covers table) (length table) order → IsFixed covers table driven held v → IsFixed covers table driven held w → (i p : ℕ) → p < i → p < length order → w (get_or order p 0) ≡ v (get_or order p 0)
fixed_same covers table driven held v w order o fv fw zero p lt in_order = absurd (omega arith)
fixed_same covers table driven held v w order o fv fw (suc i) p lt in_order =
    let net = get_or order p 0 in
    fw net (o.below p in_order)
    ∙ same_source w v covers driven held net (source_at table net) (λ k klt. at (λ q ql. fixed_same covers table driven held v w order o fv fw i q ql) k klt (o.earlier p k in_order klt))
    ∙ sym (fv net (o.below p in_order)) where
      at : ((q : ℕ) → q < i → q < length order → w (get_or order q 0) ≡ v (get_or order q 0)) → (k : ℕ) → k < length (table_reads covers table (get_or order p 0)) → (q : ℕ) × (q < p) × (get_or order q 0 ≡ get_or (table_reads covers table (get_or order p 0)) k 0) → w (get_or (table_reads covers table (get_or order p 0)) k 0) ≡ v (get_or (table_reads covers table (get_or order p 0)) k 0)
      at before k klt e = subst (λ (n : ℕ). w n ≡ v n) e.2 (before e.0 (omega (arith, e.1)) (omega (arith, e.1)))

pub fixed_is_the_settled : (p : Parts) (table : List Source) (driven : Valuation) (held : List Bit3) (v : Valuation) (order : List ℕ) → IsValid p → IsTable p table → IsOrder (table_reads p.covers table) (length table) order → length held ≡ length p.latches → IsFixed p.covers table driven held v → IsTheSettled p driven held v
fixed_is_the_settled p table driven held v order valid t o size fixed = record {
  settled = fixed_settled p table driven held v valid t size fixed;
  only = only;
} where
  only : (w : Valuation) → IsSettled p driven held w → IsSame (length p.nets) w v
  only w s net lt =
      let found = o.all net (omega (arith, t.size)) in
      subst (λ (n : ℕ). w n ≡ v n) found.2 (fixed_same p.covers table driven held v w order o fixed (settled_fixed p table driven held w valid t s) (length order) found.0 found.1 found.1)

pub pass_settles : (p : Parts) (table : List Source) (driven : Valuation) (held values : List Bit3) (order : List ℕ) → IsValid p → IsTable p table → IsOrder (table_reads p.covers table) (length table) order → length held ≡ length p.latches → length values ≡ length table → IsTheSettled p driven held (valuation (pass_over p.covers table driven held values order))
pass_settles p table driven held values order valid t o hsize vsize =
    fixed_is_the_settled p table driven held _ order valid t o hsize (pass_fixed p.covers table driven held values order o vsize)

-- whatever is driven and held, exactly one valuation is settled
pub one_settled : (p : Parts) (table : List Source) (order : List ℕ) → IsValid p → IsTable p table → IsOrder (table_reads p.covers table) (length table) order → HasOneSettled p
one_settled p table order valid t o = record {
  one = λ driven held size. (valuation (pass_over p.covers table driven held (replicate (length table) X) order), fixed_is_the_settled p table driven held _ order valid t o size (pass_fixed p.covers table driven held (replicate (length table) X) order o (length-replicate (length table) X)));
}
