-- Bits that are put on nets one after another, and the values of a list as a valuation.
use Rattle.std.proofs.Common.{◌≡◌, ◌≢◌, ◌⊎◌, inl, inr, ℕ, zero, suc, ◌+◌, ◌<◌, ◌≤◌, ◌==◌, true, false, List, [], ◌∷◌, length, take, get_or, set, Some, slice_get, if◌then◌else◌, sym, ap, ◌∙◌, arith}
use Rattle.std.proofs.lemmas.Bool.Decides.{eqb_tells}
use Rattle.std.proofs.lemmas.List.{get_or-set_same, get_or-set_other, take_all}
use Rattle.four_state.specs.declared.bit.Bit.{Bit}
use Rattle.four_state.specs.declared.bit.Bit3.{Bit3}
use Rattle.four_state.specs.declared.bit.Bit3.TheVariants.{X}
use Rattle.blif_device.specs.Valuations.{valuation}
use Rattle.run_rules.specs.Nets.{net_bit, put_bits}

value_set : (values : List Bit3) (k : ℕ) (v : Bit3) (net : ℕ) → k < length values → valuation (set values k v) net ≡ (if net == k then v else valuation values net)
value_set values k v net below = by (eqb_tells net k)
  where
    by : (((net == k) ≡ true) × (net ≡ k)) ⊎ (((net == k) ≡ false) × (net ≢ k)) → valuation (set values k v) net ≡ (if net == k then v else valuation values net)
    by (inl its) =
        ap (λ m. get_or (set values k v) m X) its.1
        ∙ get_or-set_same values k v X below
        ∙ ap (λ t. if t then v else valuation values net) (sym its.0)
    by (inr other) =
        get_or-set_other values k net v X other.1
        ∙ ap (λ t. if t then v else valuation values net) (sym other.0)

-- one bit more
pub put_more : (nets : List ℕ) (bits : List Bit) (n net : ℕ) (b : Bit) (value : ℕ → Bit3) → slice_get nets n ≡ Some net → slice_get bits n ≡ Some b → (other : ℕ) → put_bits (take (suc n) nets) (take (suc n) bits) value other ≡ (if other == net then net_bit b else put_bits (take n nets) (take n bits) value other)
put_more [] bits n net b value is has other = absurd cc
put_more (k ∷ ks) [] n net b value is has other = absurd cc
put_more (k ∷ ks) (c ∷ bits) zero net b value is has other =
    let one : k ≡ net = cc in
    let same : c ≡ b = cc in
    ap (λ m. if other == m then net_bit c else value other) one ∙ ap (λ d. if other == net then net_bit d else value other) same
put_more (k ∷ ks) (c ∷ bits) (suc n) net b value is has other = put_more ks bits n net b (λ o. if o == k then net_bit c else value o) is has other

-- one step of putting bits on nets
pub put_step : (nets : List ℕ) (bits : List Bit) (n net : ℕ) (b : Bit) (before now : List Bit3) → slice_get nets n ≡ Some net → slice_get bits n ≡ Some b → net < length now → valuation now ≡ put_bits (take n nets) (take n bits) (valuation before) → valuation (set now net (net_bit b)) ≡ put_bits (take (n + 1) nets) (take (n + 1) bits) (valuation before)
put_step nets bits n net b before now is has below so_far = λ i other. each other i
  where
    each : (other : ℕ) → valuation (set now net (net_bit b)) other ≡ put_bits (take (n + 1) nets) (take (n + 1) bits) (valuation before) other
    each other =
        let next : suc n ≡ n + 1 = omega arith in
        value_set now net (net_bit b) other below
        ∙ ap (λ (v : ℕ → Bit3). if other == net then net_bit b else v other) so_far
        ∙ sym (put_more nets bits n net b (valuation before) is has other)
        ∙ ap (λ m. put_bits (take m nets) (take m bits) (valuation before) other) next

-- all bits
pub put_all : (nets : List ℕ) (bits : List Bit) (n : ℕ) (before now : List Bit3) → length nets ≡ length bits → length bits ≤ n → valuation now ≡ put_bits (take n nets) (take n bits) (valuation before) → valuation now ≡ put_bits nets bits (valuation before)
put_all nets bits n before now same past so_far =
    so_far
    ∙ ap (λ ks. put_bits ks (take n bits) (valuation before)) (take_all n nets (omega arith))
    ∙ ap (λ bs. put_bits nets bs (valuation before)) (take_all n bits past)
