-- One more drive is applied.
use Rattle.std.proofs.Common.{◌≡◌, ◌≢◌, ◌⊎◌, inl, inr, ℕ, zero, suc, ◌<◌, ◌==◌, true, false, List, [], ◌∷◌, ◌++◌, length, All, Contains, Option, Some, None, option_map, option_and_then, get_or, set, slice_get, if◌then◌else◌, refl, sym, ap, ◌∙◌, subst, arith}
use Rattle.std.proofs.Math.ListN.{length-set}
use Rattle.std.proofs.lemmas.Bool.Decides.{eqb_tells}
use Rattle.std.proofs.lemmas.List.{get_or-set_same}
use Rattle.std.proofs.lemmas.Option.{slice_get_within, slice_get-get_or, get_or_from_slice_get}
use Rattle.four_state.specs.declared.bit.Bit.{Bit}
use Rattle.four_state.specs.declared.bit.Bit3.{Bit3}
use Rattle.vera_ast.specs.Signals.{NamedSignal}
use Rattle.blif_read.specs.Netlists.{Parts}
use Rattle.blif_device.specs.Valuations.{valuation}
use Rattle.vera_meaning.specs.Driving.{FitsSignal}
use Rattle.run_rules.specs.declared.drive.Drive.{Drive}
use Rattle.run_rules.specs.Designs.{Design}
use Rattle.run_rules.specs.Drives.{Driven, meet, given_to, driven_by, with_value}
use Rattle.run_rules.specs.Links.{LinksAs}
use Rattle.run_rules.specs.Nets.{nets_of, driven_nets, put_bits}
use Rattle.run_rules.proofs.DrivenNets.{driving_all}
use Rattle.run_rules.proofs.Fitting.{meet_fits, value_fits}
use Rattle.run_rules.proofs.LinkedNets.{drivable, linked}
use Rattle.run_rules.proofs.Meetings.{first_drive, meeting_drive, given_this, given_others}
use Rattle.run_rules.proofs.SignalNets.{many}
use Rattle.signal_link.specs.declared.linking.SignalNets.{SignalNets}
use Rattle.signal_link.specs.Linked.{AreNetsOf, signal_nets}
use Rattle.plain_run.specs.declared.outside.LastDrive.{LastDrive}
use Rattle.plain_run.specs.declared.outside.Outside.{Outside}
use Rattle.plain_run.specs.Joining.{joined}
use Rattle.plain_run.specs.Outsides.{IsLinked, StandsFor, Applied, last_at}

-- ---- lists

some_same : {A : Type 0} → (a b : A) → Some a ≡ Some b → a ≡ b
some_same a b e = cc

get_set_same : {A : Type 0} → (xs : List A) (k : ℕ) (x : A) → k < length xs → slice_get (set xs k x) k ≡ Some x
get_set_same xs k x below =
    slice_get-get_or (set xs k x) k x (let size = length-set xs k x in omega (arith, size))
    ∙ ap Some (get_or-set_same xs k x x below)

get_set_other : {A : Type 0} → (xs : List A) (k m : ℕ) (x : A) → m ≢ k → slice_get (set xs k x) m ≡ slice_get xs m
get_set_other [] k m x differs = refl
get_set_other (y ∷ ys) zero zero x differs = absurd (differs refl)
get_set_other (y ∷ ys) zero (suc m) x differs = refl
get_set_other (y ∷ ys) (suc k) zero x differs = refl
get_set_other (y ∷ ys) (suc k) (suc m) x differs = get_set_other ys k m x (λ e. differs (ap suc e))

last_same : (driven : List (Option LastDrive)) (k : ℕ) (l : LastDrive) → k < length driven → last_at (set driven k (Some l)) k ≡ Some l
last_same driven k l below = ap (option_and_then (λ (d : Option LastDrive). d)) (get_set_same driven k (Some l) below)

last_other : (driven : List (Option LastDrive)) (k m : ℕ) (l : LastDrive) → m ≢ k → last_at (set driven k (Some l)) m ≡ last_at driven m
last_other driven k m l differs = ap (option_and_then (λ (d : Option LastDrive). d)) (get_set_other driven k m (Some l) differs)

-- the last drive that the list has at a place
pub last_is : (driven : List (Option LastDrive)) (k : ℕ) (o : Option LastDrive) → k < length driven → o ≡ get_or driven k o → last_at driven k ≡ o
last_is driven k o below is = ap (option_and_then (λ (d : Option LastDrive). d)) (slice_get-get_or driven k o below ∙ ap Some (sym is))

-- ---- a signal that is driven, and its nets

pub signal_below : (signals : List NamedSignal) (n : ℕ) (bits : List Bit) → FitsSignal signals n bits → n < length signals
signal_below signals n bits fits = slice_get_within signals n fits.named fits.is

-- its nets stand at its number
pub signal_at : (names : List (List ℕ)) (signals : List NamedSignal) (all : List SignalNets) (n : ℕ) (s : NamedSignal) (found : SignalNets) → AreNetsOf names signals all → slice_get signals n ≡ Some s → found ≡ get_or all n found → found ≡ signal_nets names s.signal
signal_at names signals all n s found are is at = at ∙ get_or_from_slice_get all n (signal_nets names s.signal) found (are.each n s is)

module _
    (o : Outside) (design : Design) (driven : Driven) (held : List Bit3) (n : ℕ) (bits : List Bit)
    (stands : StandsFor o design driven held) (fits : FitsSignal design.signals n bits) where
  -- its nets are inputs
  pub inputs_there : All (λ net. Contains o.device.netlist.inputs net) (nets_of design.netlist.nets fits.named.signal)
  inputs_there k d below =
      subst (λ (p : Parts). Contains p.inputs (get_or (nets_of design.netlist.nets fits.named.signal) k d)) (sym stands.netlist)
      (drivable design.netlist fits.named.signal fits.named.signal.kind (subst (LinksAs design.netlist fits.named.signal fits.named.signal.kind) fits.output (stands.linked.linked n fits.named fits.is)) k d below).0

  -- and below the number of nets
  nets_there : All (λ net. net < length design.netlist.nets) (nets_of design.netlist.nets fits.named.signal)
  nets_there = linked design.netlist design.signals n fits.named stands.linked.valid stands.linked.linked fits.is fits.output

  pub nets_below : All (λ net. net < length o.device.driven) (nets_of design.netlist.nets fits.named.signal)
  nets_below k d below = subst (λ count. get_or (nets_of design.netlist.nets fits.named.signal) k d < count) (sym stands.nets_size) (nets_there k d below)

  pub nets_many : length (nets_of design.netlist.nets fits.named.signal) ≡ length bits
  nets_many = many design.netlist.nets fits.named.signal fits.named.signal.width.bits ∙ sym fits.width

-- two values of one signal are of one width
pub one_width : (signals : List NamedSignal) (n : ℕ) (a b : List Bit) → FitsSignal signals n a → FitsSignal signals n b → length a ≡ length b
one_width signals n a b fits_a fits_b =
    let one : fits_a.named ≡ fits_b.named = some_same fits_a.named fits_b.named (sym fits_a.is ∙ fits_b.is) in
    fits_a.width ∙ ap (λ (s : NamedSignal). s.signal.width.bits) one ∙ sym fits_b.width

-- ---- what the drive gives its signal

module _
    (o : Outside) (design : Design) (former : Driven) (held : List Bit3) (done : List Drive) (d : Drive)
    (before : Applied o design former held done d.cycle) (fits : FitsSignal design.signals d.signal d.bits) where
  has_bits : (l : LastDrive) → last_at o.driven.items d.signal ≡ Some l → driven_by done former d.signal ≡ Some l.bits
  has_bits l is = sym (before.stands.signals d.signal) ∙ ap (option_map (λ (k : LastDrive). k.bits)) is

  pub last_fits : (l : LastDrive) → last_at o.driven.items d.signal ≡ Some l → FitsSignal design.signals d.signal l.bits
  last_fits l is = before.fits d.signal l.bits (has_bits l is)

  pub may_join : (l : LastDrive) → last_at o.driven.items d.signal ≡ Some l → length l.bits ≡ length d.bits
  may_join l is = one_width design.signals d.signal l.bits d.bits (last_fits l is) fits

  -- the new value
  record Joins (value : List Bit) : Type 0 where
    pub fitting : FitsSignal design.signals d.signal value
    pub gives : driven_by (done ++ d ∷ []) former ≡ with_value (driven_by done former) d.signal value

  alone : given_to d.signal done ≡ [] → Joins d.bits
  alone none = record { fitting = fits; gives = first_drive done d former none }

  by_cycle : (l : LastDrive) → last_at o.driven.items d.signal ≡ Some l → (((l.cycle == d.cycle) ≡ true) × (l.cycle ≡ d.cycle)) ⊎ (((l.cycle == d.cycle) ≡ false) × (l.cycle ≢ d.cycle)) → Joins (joined (Some l) d)
  by_cycle l is (inl same) =
      subst Joins (ap (λ t. if t then meet l.bits d.bits else d.bits) (sym same.0))
      (record {
        fitting = meet_fits design.signals d.signal l.bits d.bits (last_fits l is) fits;
        gives = meeting_drive done d former l.bits ((before.marked d.signal l is).0 same.1) (has_bits l is);
      })
  by_cycle l is (inr other) =
      subst Joins (ap (λ t. if t then meet l.bits d.bits else d.bits) (sym other.0))
      (alone ((before.marked d.signal l is).1 other.1))

  joins_at : (last : Option LastDrive) → last_at o.driven.items d.signal ≡ last → Joins (joined last d)
  joins_at None is = alone (before.others d.signal is)
  joins_at (Some l) is = by_cycle l is (eqb_tells l.cycle d.cycle)

  -- it is as wide as the drive
  pub joined_fits : (last : Option LastDrive) → last_at o.driven.items d.signal ≡ last → length d.bits ≡ length (joined last d)
  joined_fits last is = one_width design.signals d.signal d.bits (joined last d) fits (joins_at last is).fitting

-- ---- what stands behind it

-- the drive was put on the nets and is the last one of its signal
pub record Drove (old new : Outside) (d : Drive) (ks : List ℕ) (value : List Bit) : Type 0 where
  pub nets : new.nets.now ≡ old.nets.now
  pub count : new.count ≡ old.count
  pub netlist : new.device.netlist ≡ old.device.netlist
  pub held : new.device.held ≡ old.device.held
  pub size : length new.device.driven ≡ length old.device.driven
  pub put : valuation new.device.driven ≡ put_bits ks value (valuation old.device.driven)
  pub driven : new.driven.items ≡ set old.driven.items d.signal (Some (record { cycle = d.cycle; bits = value }))

module _
    (old new : Outside) (design : Design) (former : Driven) (held : List Bit3) (done : List Drive) (d : Drive) (value : List Bit)
    (before : Applied old design former held done d.cycle) (fits : FitsSignal design.signals d.signal value)
    (gives : driven_by (done ++ d ∷ []) former ≡ with_value (driven_by done former) d.signal value)
    (is : (s : NamedSignal) → slice_get design.signals d.signal ≡ Some s → Drove old new d (nets_of design.netlist.nets s.signal) value) where
  drove : Drove old new d (nets_of design.netlist.nets fits.named.signal) value
  drove = is fits.named fits.is

  abbrev now : LastDrive
  now = record { cycle = d.cycle; bits = value }

  place : d.signal < length old.driven.items
  place = subst (λ n. d.signal < n) (sym before.stands.signals_size) (signal_below design.signals d.signal value fits)

  this_last : (n : ℕ) → n ≡ d.signal → last_at new.driven.items n ≡ Some now
  this_last n its = ap (λ m. last_at new.driven.items m) its ∙ ap (λ (items : List (Option LastDrive)). last_at items d.signal) drove.driven ∙ last_same old.driven.items d.signal now place

  other_last : (n : ℕ) → n ≢ d.signal → last_at new.driven.items n ≡ last_at old.driven.items n
  other_last n differs = ap (λ (items : List (Option LastDrive)). last_at items n) drove.driven ∙ last_other old.driven.items d.signal n (record { cycle = d.cycle; bits = value }) differs

  value_at : (n : ℕ) → (((n == d.signal) ≡ true) × (n ≡ d.signal)) ⊎ (((n == d.signal) ≡ false) × (n ≢ d.signal)) → option_map (λ (l : LastDrive). l.bits) (last_at new.driven.items n) ≡ with_value (driven_by done former) d.signal value n
  value_at n (inl its) = ap (option_map (λ (l : LastDrive). l.bits)) (this_last n its.1) ∙ ap (λ t. if t then Some value else driven_by done former n) (sym its.0)
  value_at n (inr other) = ap (option_map (λ (l : LastDrive). l.bits)) (other_last n other.1) ∙ before.stands.signals n ∙ ap (λ t. if t then Some value else driven_by done former n) (sym other.0)

  pub stands_behind : StandsFor new design (driven_by (done ++ d ∷ []) former) held
  stands_behind = record {
    linked = subst (IsLinked design) (sym drove.nets) before.stands.linked;
    count = drove.count ∙ before.stands.count;
    netlist = drove.netlist ∙ before.stands.netlist;
    held = drove.held ∙ before.stands.held;
    nets_size = drove.size ∙ before.stands.nets_size;
    nets_driven =
        drove.put
        ∙ ap (put_bits (nets_of design.netlist.nets fits.named.signal) value) before.stands.nets_driven
        ∙ sym (driving_all design.netlist.nets design.signals (driven_by done former) d.signal fits.named value before.stands.linked.apart fits.is fits.output fits.width (linked design.netlist design.signals d.signal fits.named before.stands.linked.valid before.stands.linked.linked fits.is fits.output))
        ∙ ap (driven_nets design.netlist.nets design.signals) (sym gives);
    signals_size = ap (λ (items : List (Option LastDrive)). length items) drove.driven ∙ length-set old.driven.items d.signal (Some (record { cycle = d.cycle; bits = value })) ∙ before.stands.signals_size;
    signals = λ n. value_at n (eqb_tells n d.signal) ∙ ap (λ (v : Driven). v n) (sym gives);
  }

  marked_at : (n : ℕ) (l : LastDrive) → last_at new.driven.items n ≡ Some l → (((n == d.signal) ≡ true) × (n ≡ d.signal)) ⊎ (((n == d.signal) ≡ false) × (n ≢ d.signal)) → (l.cycle ≡ d.cycle → given_to n (done ++ d ∷ []) ≢ []) × (l.cycle ≢ d.cycle → given_to n (done ++ d ∷ []) ≡ [])
  marked_at n l last (inl its) =
      let same : now ≡ l = some_same now l (sym (this_last n its.1) ∙ last) in
      (λ e. subst (λ m. given_to m (done ++ d ∷ []) ≢ []) (sym its.1) (given_this done d), λ differs. absurd (differs (sym (ap (λ (k : LastDrive). k.cycle) same))))
  marked_at n l last (inr other) =
      let so = before.marked n l (sym (other_last n other.1) ∙ last) in
      (λ e. subst (λ g. g ≢ []) (sym (given_others done d n other.1)) (so.0 e), λ differs. given_others done d n other.1 ∙ so.1 differs)

  none_at : (n : ℕ) → last_at new.driven.items n ≡ None → (((n == d.signal) ≡ true) × (n ≡ d.signal)) ⊎ (((n == d.signal) ≡ false) × (n ≢ d.signal)) → given_to n (done ++ d ∷ []) ≡ []
  none_at n none (inl its) = absurd (some_none now (sym (this_last n its.1) ∙ none))
    where
      some_none : (l : LastDrive) → Some l ≡ None → ⊥
      some_none l e = cc
  none_at n none (inr other) = given_others done d n other.1 ∙ before.others n (sym (other_last n other.1) ∙ none)

  pub applied_behind : Applied new design former held (done ++ d ∷ []) d.cycle
  applied_behind = record {
    stands = stands_behind;
    fits = λ n bits has. value_fits design.signals (driven_by done former) d.signal value before.fits fits n bits (ap (λ (v : Driven). v n) (sym gives) ∙ has);
    marked = λ n l last. marked_at n l last (eqb_tells n d.signal);
    others = λ n none. none_at n none (eqb_tells n d.signal);
  }

-- the drive is applied behind the others
pub one_more_applied : (old new : Outside) (design : Design) (former : Driven) (held : List Bit3) (done : List Drive) (d : Drive) (last : Option LastDrive) (value : List Bit) → FitsSignal design.signals d.signal d.bits → last_at old.driven.items d.signal ≡ last → value ≡ joined last d → ((s : NamedSignal) → IsLinked design old.nets.now → slice_get design.signals d.signal ≡ Some s → Drove old new d (nets_of design.netlist.nets s.signal) value) → Applied old design former held done d.cycle → Applied new design former held (done ++ d ∷ []) d.cycle
one_more_applied old new design former held done d last value fits is joins drove before =
    let new_value = joins_at old design former held done d before fits last is in
    applied_behind old new design former held done d value before
    (subst (FitsSignal design.signals d.signal) (sym joins) new_value.fitting)
    (subst (λ v. driven_by (done ++ d ∷ []) former ≡ with_value (driven_by done former) d.signal v) (sym joins) new_value.gives)
    (λ s at. drove s before.stands.linked at)
