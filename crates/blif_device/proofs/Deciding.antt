-- Rings of a netlist and rings of its table, and what a device needs of its netlist.
use Rattle.std.proofs.Common.{◌≡◌, ℕ, ◌<◌, ◌≤◌, List, [], ◌∷◌, length, get_or, sym, ◌∙◌, ap, arith, subst, ◌⊎◌, inl, inr, Contains}
use Rattle.std.proofs.lemmas.List.{get_or_past, get_or_default}
use Rattle.std.proofs.lemmas.Bool.{cases_lt}
use Rattle.four_state.specs.declared.bit.Bit3.{Bit3}
use Rattle.blif_read.specs.declared.netlist.NetCover.{NetCover}
use Rattle.blif_read.specs.Netlists.{Parts}
use Rattle.blif_read.specs.Valid.{IsValid, FitsCover}
use Rattle.blif_device.specs.declared.sources.Source.{Source}
use Rattle.blif_device.specs.declared.sources.Source.TheVariants as source
use Rattle.blif_device.specs.Sources.{IsTable, source_at, source_reads, table_reads}
use Rattle.blif_device.specs.Rings.{IsPath, Depends, reads, IsOnRing, IsFirstOnRing}
use Rattle.blif_device.specs.Orders.{IsOrder}
use Rattle.blif_device.specs.Passes.{CanPass}
use Rattle.blif_device.proofs.Origins.{Origin, origin, same_reads, is_clock, is_input, is_latch, is_cover}

same_path : (f g : ℕ → List ℕ) → ((x : ℕ) → f x ≡ g x) → (ms : List ℕ) (a b : ℕ) → IsPath f a ms b → IsPath g a ms b
same_path f g h [] a b p = subst (λ (xs : List ℕ). Contains xs b) (h a) p
same_path f g h (m ∷ ms) a b p = (subst (λ (xs : List ℕ). Contains xs m) (h a) p.0, same_path f g h ms m b p.1)

depends_same : (f g : ℕ → List ℕ) → ((x : ℕ) → f x ≡ g x) → (a b : ℕ) → Depends f a b → Depends g a b
depends_same f g h a b d = record { between = d.between; path = same_path f g h d.between a b d.path }

-- only a net of the table reads any
depends_below : (covers : List NetCover) (table : List Source) (a b : ℕ) → Depends (table_reads covers table) a b → a < length table
depends_below covers table a b d = at_case (cases_lt a (length table)) where
  nothing : length table ≤ a → (x : ℕ) → Contains (table_reads covers table a) x → ⊥
  nothing le x c = omega (arith, c.1, ap {B = ℕ} (λ (s : Source). length (source_reads covers s)) (get_or_past table a source.Clock le))

  path_nothing : length table ≤ a → (ms : List ℕ) → IsPath (table_reads covers table) a ms b → ⊥
  path_nothing le [] p = nothing le b p
  path_nothing le (m ∷ ms) p = nothing le m p.0

  at_case : (a < length table) ⊎ (length table ≤ a) → a < length table
  at_case (inl lt) = lt
  at_case (inr le) = absurd (path_nothing le d.between d.path)

-- a path leads to nets that come earlier in the order
down : (f : ℕ → List ℕ) (n : ℕ) (order : List ℕ) → IsOrder f n order → (ms : List ℕ) (a b p : ℕ) → p < length order → get_or order p 0 ≡ a → IsPath f a ms b → (q : ℕ) × (q < p) × (get_or order q 0 ≡ b)
down f n order o ms a b p lt at path = by_path ms a p lt at path where
  step : (x y r : ℕ) → r < length order → get_or order r 0 ≡ x → Contains (f x) y → (q : ℕ) × (q < r) × (get_or order q 0 ≡ y)
  step x y r rl is c =
      let in_reads : c.0 < length (f (get_or order r 0)) = subst (λ (z : ℕ). c.0 < length (f z)) (sym is) c.1 in
      let e = o.earlier r c.0 rl in_reads in
      (e.0, e.1, e.2 ∙ ap (λ z. get_or (f z) c.0 0) is ∙ get_or_default (f x) c.0 0 y c.1 ∙ c.2)

  lower : (x m r : ℕ) → r < length order → (e : (q : ℕ) × (q < r) × (get_or order q 0 ≡ m)) → ((q : ℕ) → q < length order → get_or order q 0 ≡ m → (s : ℕ) × (s < q) × (get_or order s 0 ≡ b)) → (s : ℕ) × (s < r) × (get_or order s 0 ≡ b)
  lower x m r rl e rest = let s = rest e.0 (omega (arith, e.1)) e.2 in (s.0, omega (arith, s.1, e.1), s.2)

  by_path : (ks : List ℕ) (x r : ℕ) → r < length order → get_or order r 0 ≡ x → IsPath f x ks b → (q : ℕ) × (q < r) × (get_or order q 0 ≡ b)
  by_path [] x r rl is h = step x b r rl is h
  by_path (m ∷ ks) x r rl is h = lower x m r rl (step x m r rl is h.0) (λ q ql e. by_path ks m q ql e h.1)

no_ring_in : (f : ℕ → List ℕ) (n : ℕ) (order : List ℕ) → IsOrder f n order → (x : ℕ) → x < n → Depends f x x → ⊥
no_ring_in f n order o x lt d =
    let found = o.all x lt in
    let lower = down f n order o d.between x x found.0 found.1 found.2 d.path in
    o.distinct lower.0 found.0 lower.1 found.1 (lower.2 ∙ sym found.2)

pub no_ring : (p : Parts) (table : List Source) (order : List ℕ) → IsValid p → IsTable p table → IsOrder (table_reads p.covers table) (length table) order → (net : ℕ) → IsOnRing p.covers net → ⊥
no_ring p table order v t o net d =
    let e = depends_same (reads p.covers) (table_reads p.covers table) (λ x. sym (same_reads p table v t x)) net net d in
    no_ring_in (table_reads p.covers table) (length table) order o net (depends_below p.covers table net net e) e

pub first_ring : (p : Parts) (table : List Source) (net : ℕ) → IsValid p → IsTable p table → (net < length table) × Depends (table_reads p.covers table) net net × ((other : ℕ) → other < net → Depends (table_reads p.covers table) other other → ⊥) → IsFirstOnRing p.covers net
first_ring p table net v t h = record {
  on_ring = depends_same (table_reads p.covers table) (reads p.covers) (same_reads p table v t) net net h.1;
  first = λ other lt d. h.2 other lt (depends_same (reads p.covers) (table_reads p.covers table) (λ x. sym (same_reads p table v t x)) other other d);
}

pub ring_below : (covers : List NetCover) (table : List Source) (a b : ℕ) → Depends (table_reads covers table) a b → a < length table
ring_below covers table a b d = depends_below covers table a b d

clock_latch : (k : ℕ) → source.Clock ≡ source.Latch k → ⊥
clock_latch k e = cc

driven_latch : (k : ℕ) → source.Driven ≡ source.Latch k → ⊥
driven_latch k e = cc

cover_latch : (j k : ℕ) → source.Cover j ≡ source.Latch k → ⊥
cover_latch j k e = cc

latch_place : (j k : ℕ) → source.Latch j ≡ source.Latch k → j ≡ k
latch_place j k e = cc

pub can_pass : (p : Parts) (table : List Source) (driven held : List Bit3) → IsValid p → IsTable p table → length driven ≡ length p.nets → length held ≡ length p.latches → CanPass p.covers table driven held
can_pass p table driven held v t dsize hsize = record {
  driven_size = dsize ∙ sym t.size;
  held_size = λ net k is. held_size net k is (cases_lt net (length p.nets));
  covers_fit = λ k d lt. subst (λ (n : ℕ). FitsCover n (get_or p.covers k d)) (sym t.size) (v.covers k d lt);
} where
  by_origin : (net k : ℕ) → source_at table net ≡ source.Latch k → Origin p table net → k < length held
  by_origin net k is (is_clock e s) = absurd (clock_latch k (sym s ∙ is))
  by_origin net k is (is_input c ne s) = absurd (driven_latch k (sym s ∙ is))
  by_origin net k is (is_latch j jlt out s) = omega (arith, latch_place j k (sym s ∙ is), hsize)
  by_origin net k is (is_cover j jlt out s) = absurd (cover_latch j k (sym s ∙ is))

  held_size : (net k : ℕ) → source_at table net ≡ source.Latch k → (net < length p.nets) ⊎ (length p.nets ≤ net) → k < length held
  held_size net k is (inl lt) = by_origin net k is (origin p table net v t lt)
  held_size net k is (inr le) = absurd (clock_latch k (sym (get_or_past table net source.Clock (omega (arith, t.size))) ∙ is))
