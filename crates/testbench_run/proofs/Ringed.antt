-- A netlist whose nets have a ring.
use Rattle.std.proofs.Common.{◌≡◌, ℕ, suc, cond, ◌<◌, Bool, true, false, List, [], ◌∷◌, length, get_or, refl, sym, ◌∙◌, ap, subst, arith, eqb, inl, All, Contains, Err}
use Rattle.std.specs.Prelude.{flat_map, filter}
use Rattle.std.proofs.lemmas.List.{get_or_default}
use Rattle.std.proofs.lemmas.Bool.Decides.{Decides-eqb}
use Rattle.vera_ast.specs.declared.typed.file.TypedTree.{TypedTree}
use Rattle.blif_read.specs.declared.netlist.NetCover.{NetCover}
use Rattle.blif_read.specs.Netlists.{Parts}
use Rattle.blif_read.specs.Valid.{IsValid, FitsCover}
use Rattle.blif_device.specs.declared.device.DeviceError.{DeviceError}
use Rattle.blif_device.specs.declared.device.DeviceError.TheVariants.{Loop}
use Rattle.blif_device.specs.Making.{IsMaking}
use Rattle.blif_device.specs.Rings.{reads, IsPath, IsOnRing, IsFirstOnRing}
use Rattle.run_rules.specs.declared.limits.Limits.{Limits}
use Rattle.run_words.specs.declared.modes.Mode.{Mode}
use Rattle.testbench_run.specs.declared.answer.Answer.{Answer}
use Rattle.testbench_run.specs.Answers.{AnswersParts}
use Rattle.testbench_run.specs.Refusals.{ring_answer}

-- a net that reads another is a cover's output
cover_below : (count net x : ℕ) (covers : List NetCover) → All (FitsCover count) covers → Contains (flat_map (λ (c : NetCover). c.inputs) (filter (λ (c : NetCover). eqb c.output net) covers)) x → net < count
cover_below count net x [] fits found = absurd (omega (arith, found.1))
cover_below count net x (c ∷ covers) fits found = by (cover_below count net x covers (λ k d lt. fits (suc k) d (omega (arith, lt)))) (eqb c.output net) refl found where
  by : (Contains (flat_map (λ (d : NetCover). d.inputs) (filter (λ (d : NetCover). eqb d.output net) covers)) x → net < count) → (b : Bool) → eqb c.output net ≡ b → Contains (flat_map (λ (d : NetCover). d.inputs) (cond (eqb c.output net) (c ∷ filter (λ (d : NetCover). eqb d.output net) covers) (filter (λ (d : NetCover). eqb d.output net) covers))) x → net < count
  by rest true is has = subst (λ (n : ℕ). n < count) ((Decides-eqb c.output net).0 is) (fits 0 c (omega arith)).output
  by rest false is has =
      rest (subst (λ (b : Bool). Contains (flat_map (λ (d : NetCover). d.inputs) (cond b (c ∷ filter (λ (d : NetCover). eqb d.output net) covers) (filter (λ (d : NetCover). eqb d.output net) covers))) x) is has)

reader_below : (p : Parts) (net x : ℕ) → IsValid p → Contains (reads p.covers net) x → net < length p.nets
unfolding reads
reader_below p net x v found = cover_below (length p.nets) net x p.covers v.covers found

ring_below : (p : Parts) (net : ℕ) → IsValid p → IsOnRing p.covers net → net < length p.nets
ring_below p net v ring = by ring.between ring.path where
  by : (between : List ℕ) → IsPath (reads p.covers) net between net → net < length p.nets
  by [] path = reader_below p net net v path
  by (next ∷ more) path = reader_below p net next v path.0

-- the names come as those of the nets
pub names_below : (p : Parts) (net : ℕ) (names : List (List ℕ)) → names ≡ p.nets → IsValid p → IsOnRing p.covers net → net < length names
names_below p net names same v ring = subst (λ (ns : List (List ℕ)). net < length ns) (sym same) (ring_below p net v ring)

-- The number comes twice, as the pattern has it.
pub loop_is : (p : Parts) (e : DeviceError) (n m : ℕ) → e ≡ Loop n → m ≡ n → IsMaking p (Err e) → IsFirstOnRing p.covers m
loop_is p e n m is same made = subst (λ (f : DeviceError). IsMaking p (Err f)) (is ∙ ap Loop (sym same)) made

-- The name comes as what stands at the net's place.
pub ring_gives : (mode : Mode) (limits : Limits) (tree : TypedTree) (p : Parts) (net : ℕ) (names : List (List ℕ)) (name shown : List ℕ) (answer : Answer) → IsFirstOnRing p.covers net → names ≡ p.nets → net < length names → name ≡ get_or names net name → shown ≡ name → answer ≡ ring_answer shown → AnswersParts mode limits tree p answer
ring_gives mode limits tree p net names name shown answer first same lt at is told =
    inl (record {
      net = net;
      first = first;
      is = told ∙ ap ring_answer (is ∙ (at ∙ (get_or_default names net name [] lt ∙ ap (λ (ns : List (List ℕ)). get_or ns net []) same)));
    })
