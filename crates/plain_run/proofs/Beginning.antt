-- A run begins, and a next cycle does.
use Rattle.std.proofs.Common.{◌≡◌, ℕ, zero, suc, ◌+◌, ◌<◌, ◌≤◌, Bool, true, false, nat_lt, List, [], ◌∷◌, length, map, take, replicate, All, Option, Some, None, option_map, get_or, slice_get, if◌then◌else◌, refl, sym, ap, ◌∙◌, subst, arith}
use Rattle.std.proofs.lemmas.Bool.Decides.{nat_tests}
use Rattle.std.proofs.lemmas.List.{length-replicate, length-map}
use Rattle.std.proofs.lemmas.List.Elements.{All-head, All-tail}
use Rattle.four_state.specs.declared.bit.Bit3.{Bit3}
use Rattle.four_state.specs.declared.bit.Bit3.TheVariants.{X}
use Rattle.store_api.specs.Places.{Contents}
use Rattle.vera_ast.specs.Signals.{NamedSignal}
use Rattle.blif_read.specs.declared.netlist.Latch.{Latch}
use Rattle.blif_read.specs.Netlists.{Parts}
use Rattle.blif_read.specs.Valid.{FitsLatch}
use Rattle.blif_device.specs.Devices.{State, IsNew, TellsSettled}
use Rattle.blif_device.specs.Edges.{held_after}
use Rattle.blif_device.specs.Settled.{IsTheSettled}
use Rattle.blif_device.specs.Valuations.{Valuation, valuation}
use Rattle.run_rules.specs.Designs.{Design, Settles, on_nets, settled_nets}
use Rattle.run_rules.specs.Drives.{Driven}
use Rattle.run_rules.specs.Nets.{driven_nets, sampled}
use Rattle.run_rules.proofs.DrivenNets as nets
use Rattle.run_rules.proofs.SignalNets.{many}
use Rattle.signal_link.specs.declared.linking.SignalNets.{SignalNets}
use Rattle.signal_link.specs.Linked.{AreNetsOf, signal_nets}
use Rattle.plain_run.specs.declared.outside.LastDrive.{LastDrive}
use Rattle.plain_run.specs.declared.outside.Outside.{Outside}
use Rattle.plain_run.specs.Joining.{sample_taken}
use Rattle.plain_run.specs.Outsides.{IsLinked, StandsFor, NextCycle, undriven, last_at}
use Rattle.plain_run.proofs.Applying.{signal_at}
use Rattle.plain_run.proofs.Sampling.{sampled_more, sampled_all}

-- ---- nothing was driven

unset : (n net : ℕ) → valuation (replicate n X) net ≡ X
unset zero net = refl
unset (suc n) zero = refl
unset (suc n) (suc net) = unset n net

pub none_last : (k n : ℕ) → last_at (replicate k None) n ≡ None
none_last zero n = refl
none_last (suc k) zero = refl
none_last (suc k) (suc n) = none_last k n

pub none_is : (items : List (Option LastDrive)) (k : ℕ) → items ≡ replicate k None → (n : ℕ) → last_at items n ≡ None
none_is items k is n = ap (λ (xs : List (Option LastDrive)). last_at xs n) is ∙ none_last k n

some_none : (l : LastDrive) → None ≡ Some l → ⊥
some_none l e = cc

pub never : (items : List (Option LastDrive)) (k : ℕ) → items ≡ replicate k None → (n : ℕ) (l : LastDrive) → last_at items n ≡ Some l → ⊥
never items k is n l e = some_none l (sym (none_is items k is n) ∙ e)

pub stands_first : (o : Outside) (design : Design) (k : ℕ) → IsLinked design o.nets.now → o.count ≡ length design.netlist.nets → IsNew design.netlist o.device → k ≡ length o.nets.now → o.driven.items ≡ replicate k None → StandsFor o design undriven o.device.held
stands_first o design k linked count new many_nets none = record {
  linked = linked;
  count = count;
  netlist = new.netlist;
  held = refl;
  nets_size = ap (λ (xs : List Bit3). length xs) new.driven ∙ length-replicate (length design.netlist.nets) X;
  nets_driven = ap valuation new.driven ∙ (λ i net. unset (length design.netlist.nets) net i) ∙ sym (nets.undriven design.netlist.nets design.signals);
  signals_size = ap (λ (xs : List (Option LastDrive)). length xs) none ∙ length-replicate k None ∙ many_nets ∙ linked.nets.length;
  signals = λ n. ap (option_map (λ (l : LastDrive). l.bits)) (none_is o.driven.items k none n);
}

-- ---- a signal's nets

pub item_at : {A : Type 0} → (xs : List A) (n : ℕ) → n < length xs → (x : A) × (slice_get xs n ≡ Some x)
item_at [] n below = absurd (omega arith)
item_at (x ∷ xs) zero below = (x, refl)
item_at (x ∷ xs) (suc n) below = item_at xs n (omega arith)

pub signal_width : (names : List (List ℕ)) (signals : List NamedSignal) (all : List SignalNets) (n : ℕ) (found : SignalNets) → AreNetsOf names signals all → n < length all → found ≡ get_or all n found → (1 ≤ length found.nets) × (length found.nets ≤ 128)
signal_width names signals all n found are below at =
    let size = are.length in
    let s = item_at signals n (omega (arith, size, below)) in
    let is = signal_at names signals all n s.0 found are s.1 at in
    let long : length found.nets ≡ s.0.signal.width.bits = ap (λ (f : SignalNets). length f.nets) is ∙ many names s.0.signal s.0.signal.width.bits in
    let some : 1 ≤ s.0.signal.width.bits = s.0.signal.width.not_empty in
    let few : s.0.signal.width.bits ≤ 128 = s.0.signal.width.within in
    (omega (arith, long, some), omega (arith, long, few))

-- ---- sampling signal after signal

-- the samples of so many signals were taken
abbrev pub Sampled : List SignalNets → Valuation → ℕ → Contents → Contents → Type 0
Sampled all value n before now = (names : List (List ℕ)) (signals : List NamedSignal) → AreNetsOf names signals all → now ≡ sampled names (take n signals) value before

pub sampled_goes_on : (all : List SignalNets) (value : Valuation) (n : ℕ) (before now next : Contents) (found : SignalNets) → n < length all → found ≡ get_or all n found → next ≡ sample_taken value found n now → Sampled all value n before now → Sampled all value (n + 1) before next
sampled_goes_on all value n before now next found below at taken so_far = λ names signals are.
    let size = are.length in
    let s = item_at signals n (omega (arith, size, below)) in
    taken
    ∙ ap (λ (f : SignalNets). sample_taken value f n now) (signal_at names signals all n s.0 found are s.1 at)
    ∙ ap (sample_taken value (signal_nets names s.0.signal) n) (so_far names signals are)
    ∙ sym (sampled_more names signals value before n s.0 s.1)

-- ---- the values of the nets

module _
    (netlist : Parts) (driven : Valuation) (held values : List Bit3) (settle : Valuation → List Bit3 → Valuation)
    (settles : Settles netlist settle) (tells : IsTheSettled netlist driven held (valuation values)) where
  held_many : length held ≡ length netlist.latches
  held_many = sym (ap (λ (xs : List Bit3). length xs) tells.settled.latches) ∙ length-map netlist.latches (λ (l : Latch). valuation values l.output)

  same_at : (net : ℕ) → (b : Bool) → nat_lt net (length netlist.nets) ≡ b → (if b then valuation values net else X) ≡ (if b then settle driven held net else X)
  same_at net true below = sym (tells.only (settle driven held) (settles driven held held_many) net (grind (arith, nat_tests)))
  same_at net false past = refl

  -- on all nets they are the settled ones
  pub same_nets : on_nets (length netlist.nets) (valuation values) ≡ on_nets (length netlist.nets) (settle driven held)
  same_nets = λ i net. same_at net (nat_lt net (length netlist.nets)) refl i

  same_input : (net : ℕ) → net < length netlist.nets → valuation values net ≡ on_nets (length netlist.nets) (settle driven held) net
  same_input net below =
      ap (λ t. if t then valuation values net else X) (sym is) ∙ ap (λ (v : Valuation). v net) same_nets
    where
      is : nat_lt net (length netlist.nets) ≡ true
      is = grind (arith, nat_tests)

  same_inputs : (ls : List Latch) → All (FitsLatch (length netlist.nets)) ls → map (λ (l : Latch). valuation values l.input) ls ≡ map (λ (l : Latch). on_nets (length netlist.nets) (settle driven held) l.input) ls
  same_inputs [] fit = refl
  same_inputs (l ∷ ls) fit =
      ap (λ b. b ∷ map (λ (k : Latch). valuation values k.input) ls) (same_input l.input (All-head (FitsLatch (length netlist.nets)) l ls fit).input)
      ∙ ap (λ bs. on_nets (length netlist.nets) (settle driven held) l.input ∷ bs) (same_inputs ls (All-tail (FitsLatch (length netlist.nets)) l ls fit))

-- ---- the next cycle

pub record Settled (old new : State) : Type 0 where
  pub netlist : new.netlist ≡ old.netlist
  pub driven : new.driven ≡ old.driven
  pub held : new.held ≡ old.held
  pub tells : TellsSettled new

pub record Edged (old new : State) : Type 0 where
  pub netlist : new.netlist ≡ old.netlist
  pub driven : new.driven ≡ old.driven
  pub held : new.held ≡ held_after old.netlist (valuation old.values)

module _
    (old new : Outside) (middle : State) (design : Design) (driven : Driven) (held : List Bit3) (before after : Contents)
    (settles : Settles design.netlist design.settle) (stands : StandsFor old design driven held)
    (same_nets_now : new.nets.now ≡ old.nets.now) (same_count : new.count ≡ old.count) (same_driven : new.driven.items ≡ old.driven.items)
    (settled : Settled old.device middle) (edged : Edged middle new.device)
    (taken : Sampled old.nets.now (on_nets old.count (valuation middle.values)) (length old.nets.now) before after) where
  abbrev inputs : Valuation
  inputs = driven_nets design.netlist.nets design.signals driven

  told : IsTheSettled design.netlist inputs held (valuation middle.values)
  told =
      subst (λ (p : Parts). IsTheSettled p inputs held (valuation middle.values)) (settled.netlist ∙ stands.netlist)
      (subst (λ (v : Valuation). IsTheSettled middle.netlist v held (valuation middle.values)) (ap valuation settled.driven ∙ stands.nets_driven)
      (subst (λ hs. IsTheSettled middle.netlist (valuation middle.driven) hs (valuation middle.values)) (settled.held ∙ stands.held) settled.tells))

  on_all : on_nets old.count (valuation middle.values) ≡ settled_nets design inputs held
  on_all =
      ap (λ n. on_nets n (valuation middle.values)) stands.count
      ∙ same_nets design.netlist inputs held middle.values design.settle settles told

  pub next_begins : NextCycle new design driven held before after
  next_begins = record {
    stands = record {
      linked = subst (IsLinked design) (sym same_nets_now) stands.linked;
      count = same_count ∙ stands.count;
      netlist = edged.netlist ∙ settled.netlist ∙ stands.netlist;
      held =
          edged.held
          ∙ ap (λ (p : Parts). held_after p (valuation middle.values)) (settled.netlist ∙ stands.netlist)
          ∙ same_inputs design.netlist inputs held middle.values design.settle settles told design.netlist.latches stands.linked.valid.latches;
      nets_size = ap (λ (xs : List Bit3). length xs) (edged.driven ∙ settled.driven) ∙ stands.nets_size;
      nets_driven = ap valuation (edged.driven ∙ settled.driven) ∙ stands.nets_driven;
      signals_size = ap (λ (xs : List (Option LastDrive)). length xs) same_driven ∙ stands.signals_size;
      signals = λ n. ap (λ (xs : List (Option LastDrive)). option_map (λ (l : LastDrive). l.bits) (last_at xs n)) same_driven ∙ stands.signals n;
    };
    sampled =
        taken design.netlist.nets design.signals stands.linked.nets
        ∙ ap (λ (v : Valuation). sampled design.netlist.nets (take (length old.nets.now) design.signals) v before) on_all
        ∙ sampled_all design.netlist.nets design.signals (settled_nets design inputs held) before (length old.nets.now) (let size = stands.linked.nets.length in omega (arith, size));
  }
