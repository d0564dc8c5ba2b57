-- The run of a testbench against a netlist.
use Rattle.std.proofs.Common.{◌≡◌, ℕ, List, length, Some, Option, sym, ◌∙◌, ap, subst}
use Rattle.vera_ast.specs.declared.typed.file.TypedProgram.{TypedProgram}
use Rattle.vera_ast.specs.declared.typed.file.TypedTree.{TypedTree}
use Rattle.vera_ast.specs.declared.typed.stmt.TypedStmt.TheViews.{Block}
use Rattle.vera_ast.specs.Signals.{NamedSignal, signals_in, program_in, DrivesOutputs}
use Rattle.blif_read.specs.Netlists.{Parts}
use Rattle.blif_read.specs.Valid.{IsValid}
use Rattle.blif_device.specs.Devices.{State as DeviceState}
use Rattle.blif_device.specs.Making.{IsDevice}
use Rattle.blif_device.specs.Settled.{HasOneSettled}
use Rattle.run_rules.specs.declared.limits.Limits.{Limits}
use Rattle.run_rules.specs.declared.status.Status.{Status}
use Rattle.run_rules.specs.Designs.{Design, Settle, Settles}
use Rattle.run_rules.specs.Links.{AllLink, IsFirstUnlinked}
use Rattle.run_rules.specs.Reports.{report_text, status_of}
use Rattle.run_rules.specs.Sources.{design_of}
use Rattle.run_rules.proofs.Testbenches.{program-ends}
use Rattle.signal_link.specs.declared.linking.SignalNets.{SignalNets}
use Rattle.signal_link.specs.declared.linking.LinkError.{LinkError}
use Rattle.signal_link.specs.declared.linking.LinkError.TheVariants.{Unlinked}
use Rattle.signal_link.specs.Linked.{AreNetsOf, IsLinkError}
use Rattle.plain_run.specs.declared.running.Record.{Record}
use Rattle.plain_run.specs.Records.{CanRun, RanTo}
use Rattle.testbench_run.specs.declared.answer.Answer.{Answer}
use Rattle.testbench_run.specs.Answers.{RunAnswer}
use Rattle.testbench_run.specs.Running.{IsRunnable}

-- a settled valuation for whatever is driven and held
record SettleFor (p : Parts) : Type 0 where
  settle : Settle
  settles : Settles p settle

-- which limits doesn't matter
any_limits : Limits
any_limits = record { cycles = 0; budget = 0; turns = 0 }

settle_for : (tree : TypedTree) (p : Parts) → IsRunnable tree → HasOneSettled p → SettleFor p
settle_for tree p runnable one =
    let ends = program-ends runnable.names.program tree p any_limits runnable.names.is_program one in
    record { settle = ends.2.settle; settles = ends.2.settles }

abbrev design_for : (tree : TypedTree) (p : Parts) → IsRunnable tree → HasOneSettled p → Design
design_for tree p runnable one = design_of tree p (settle_for tree p runnable one).settle

same_program : (o : Option TypedProgram) (a b : TypedProgram) → o ≡ Some a → o ≡ Some b → a ≡ b
same_program o a b e f = cc

can : (tree : TypedTree) (p : Parts) (program : TypedProgram) (nets : List SignalNets) (count : ℕ) (device : DeviceState) (runnable : IsRunnable tree) (made : IsDevice p device) → program_in tree.items ≡ Some program → IsValid p → AllLink p (signals_in tree.items) → AreNetsOf p.nets (signals_in tree.items) nets → count ≡ length p.nets → CanRun (design_for tree p runnable made.law) program nets count device
can tree p program nets count device runnable made is valid linked nets_are counted = record {
  linked = record { valid = valid; apart = runnable.apart; linked = linked; nets = nets_are };
  settles = (settle_for tree p runnable made.law).settles;
  count = counted;
  device_new = made.device;
  drives = subst (λ (q : TypedProgram). DrivesOutputs (signals_in tree.items) (Block q.block)) (same_program (program_in tree.items) runnable.names.program program runnable.names.is_program is) runnable.names.drives;
}

pub can_run : (tree : TypedTree) (p : Parts) (program : TypedProgram) (nets : List SignalNets) (count : ℕ) (device : DeviceState) → IsRunnable tree → IsDevice p device → program_in tree.items ≡ Some program → IsValid p → AllLink p (signals_in tree.items) → AreNetsOf p.nets (signals_in tree.items) nets → count ≡ length p.nets → (design : Design) × CanRun design program nets count device
can_run tree p program nets count device runnable made is valid linked nets_are counted =
    (design_for tree p runnable made.law, can tree p program nets count device runnable made is valid linked nets_are counted)

abbrev answer_of : Status → List ℕ → Answer
answer_of status text = record { status = status; text = text }

-- what was told of the run is its answer
pub run_gives : (limits : Limits) (tree : TypedTree) (p : Parts) (program : TypedProgram) (nets : List SignalNets) (count : ℕ) (device : DeviceState) (told : Record) (status : Status) (text : List ℕ) → IsRunnable tree → IsDevice p device → program_in tree.items ≡ Some program → IsValid p → AllLink p (signals_in tree.items) → AreNetsOf p.nets (signals_in tree.items) nets → count ≡ length p.nets → ((design : Design) → CanRun design program nets count device → RanTo design program limits told) → status ≡ status_of told.end → text ≡ report_text (signals_in tree.items) told.printed.items told.applied.items told.end told.cycle → RunAnswer limits tree p (answer_of status text)
run_gives limits tree p program nets count device told status text runnable made is valid linked nets_are counted ran status_is text_is =
    let s = settle_for tree p runnable made.law in
    let r = ran (design_for tree p runnable made.law) (can tree p program nets count device runnable made is valid linked nets_are counted) in
    let signals = signals_in tree.items in
    record {
      end = told.end;
      state = r.state;
      runs = record { program = program; is_program = is; settle = s.settle; settles = s.settles; final = r.final };
      is =
          ap (λ t. answer_of t text) status_is
          ∙ ap (answer_of (status_of told.end))
          (text_is
          ∙ (ap (λ ps. report_text signals ps told.applied.items told.end told.cycle) (sym r.printed)
          ∙ (ap (λ ds. report_text signals r.state.printed ds told.end told.cycle) (sym r.applied)
          ∙ ap (report_text signals r.state.printed r.state.applied told.end) (sym r.cycle))));
    }

-- The number comes twice, as the pattern has it.
pub unlinked_is : (p : Parts) (signals : List NamedSignal) (e : LinkError) (n m : ℕ) → e ≡ Unlinked n → m ≡ n → IsLinkError p signals e → (s : NamedSignal) × IsFirstUnlinked p signals m s
unlinked_is p signals e n m is same h = subst (λ (f : LinkError). IsLinkError p signals f) (is ∙ ap Unlinked (sym same)) h
