-- The one run of a testbench against a netlist.
use Rattle.std.proofs.Common.{◌≡◌, ℕ, ◌==◌, Bool, true, false, List, length, Option, Some, refl, subst, arith}
use Rattle.std.proofs.lemmas.Bool.Decides.{nat_tests}
use Rattle.four_state.specs.declared.bit.Bit3.{Bit3}
use Rattle.four_state.specs.declared.bit.Bit3.TheVariants.{X}
use Rattle.blif_read.specs.Netlists.{Parts}
use Rattle.blif_device.specs.Settled.{IsSettled, HasOneSettled}
use Rattle.blif_device.specs.Valuations.{Valuation}
use Rattle.vera_ast.specs.declared.typed.file.TypedProgram.{TypedProgram}
use Rattle.vera_ast.specs.declared.typed.file.TypedTree.{TypedTree}
use Rattle.vera_ast.specs.Signals.{signals_in, program_in}
use Rattle.vera_meaning.specs.Rests.{Rest}
use Rattle.vera_meaning.specs.Slices.{rest_of}
use Rattle.run_rules.specs.Designs.{Settle, Settles}
use Rattle.run_rules.specs.States.{State, Limits, End}
use Rattle.run_rules.specs.Runs.{IsFinal}
use Rattle.run_rules.specs.Sources.{source_meaning, design_of, RunEnds}
use Rattle.run_rules.proofs.Ended.{final-state, final-end}
use Rattle.run_rules.proofs.Alike.{final-alike}
use Rattle.run_rules.proofs.Whole.{run_ends}

one_program : (p q : TypedProgram) (o : Option TypedProgram) → o ≡ Some p → o ≡ Some q → p ≡ q
one_program p q o a b = cc

same_final : (tree : TypedTree) (netlist : Parts) (limits : Limits) (e f : End) (s t : State Rest) → HasOneSettled netlist → (a : RunEnds tree netlist limits e s) (b : RunEnds tree netlist limits f t) → IsFinal source_meaning (design_of tree netlist a.settle) limits (rest_of a.program.block) f t
same_final tree netlist limits e f s t one a b =
    subst (λ (p : TypedProgram). IsFinal source_meaning (design_of tree netlist a.settle) limits (rest_of p.block) f t) (one_program b.program a.program (program_in tree.items) b.is_program a.is_program)
    (final-alike netlist (signals_in tree.items) one source_meaning limits (rest_of b.program.block) b.settle a.settle b.settles a.settles f t b.final)

pub testbench-state : (tree : TypedTree) (netlist : Parts) (limits : Limits) (e f : End) (s t : State Rest) → HasOneSettled netlist → RunEnds tree netlist limits e s → RunEnds tree netlist limits f t → s ≡ t
testbench-state tree netlist limits e f s t one a b =
    final-state source_meaning (design_of tree netlist a.settle) limits (rest_of a.program.block) e f s t a.final (same_final tree netlist limits e f s t one a b)

pub testbench-end : (tree : TypedTree) (netlist : Parts) (limits : Limits) (e f : End) (s t : State Rest) → HasOneSettled netlist → RunEnds tree netlist limits e s → RunEnds tree netlist limits f t → e ≡ f
testbench-end tree netlist limits e f s t one a b =
    final-end source_meaning (design_of tree netlist a.settle) limits (rest_of a.program.block) e f s t a.final (same_final tree netlist limits e f s t one a b)

-- a settled valuation for whatever is driven and held
record SettleOf (netlist : Parts) : Type 0 where
  settle : Settle
  settles : Settles netlist settle

eqb-decides : (a b : ℕ) → a ≡ b → (a == b) ≡ true
eqb-decides a b e = grind (arith, nat_tests)

eqb-sound : (a b : ℕ) → (a == b) ≡ true → a ≡ b
eqb-sound a b e = grind (arith, nat_tests)

settle_of : (netlist : Parts) → HasOneSettled netlist → SettleOf netlist
settle_of netlist one = record {
  settle = λ driven held. by driven held (length held == length netlist.latches) refl;
  settles = λ driven held fits. settled driven held fits (length held == length netlist.latches) refl;
}
  where
    by : (driven : Valuation) (held : List Bit3) (b : Bool) → (length held == length netlist.latches) ≡ b → Valuation
    by driven held true is = (one.one driven held (eqb-sound (length held) (length netlist.latches) is)).0
    by driven held false is = λ net. X

    settled : (driven : Valuation) (held : List Bit3) → length held ≡ length netlist.latches → (b : Bool) (is : (length held == length netlist.latches) ≡ b) → IsSettled netlist driven held (by driven held b is)
    settled driven held fits true is = (one.one driven held (eqb-sound (length held) (length netlist.latches) is)).1.settled
    settled driven held fits false is = let yes = eqb-decides (length held) (length netlist.latches) fits in absurd cc

pub program-ends : (program : TypedProgram) (tree : TypedTree) (netlist : Parts) (limits : Limits) → program_in tree.items ≡ Some program → HasOneSettled netlist → (e : End) × (s : State Rest) × RunEnds tree netlist limits e s
program-ends program tree netlist limits is one =
    let c = settle_of netlist one in
    let r = run_ends source_meaning (design_of tree netlist c.settle) limits (rest_of program.block) in
    (r.0, r.1, record { program = program; is_program = is; settle = c.settle; settles = c.settles; final = r.2 })
