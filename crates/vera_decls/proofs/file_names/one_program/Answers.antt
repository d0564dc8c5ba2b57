use Rattle.std.proofs.Common.{Option, ap, sym, ◌∙◌, drop, ◌+◌, arith}
use denote.Ref.{Bor}
use Rattle.vera_ast.specs.declared.tree.items.Program.{Program}
use Rattle.vera_decls.proofs.FileSteps.{programs_start, program_next, program_end}
use Rattle.typing_rules.specs.Checked.{refuse}
use Rattle.vera_decls.specs.Files.{found_in}
use Rattle.typing_rules.specs.Typing.{one_of}
use Rattle.vera_decls.proofs.file_names.one_program.Goals as goal

pub loop-item-init : goal.loop-item-init
loop-item-init c = programs_start c.args.items.now

pub loop-item-preserved : goal.loop-item-preserved
loop-item-preserved c =
    program_next c.args.items.now c.loop-item.item-index c.item-item.result (found_in c.loop-item.found) (found_in c.in_ok-found.found) (omega arith) c.item-item.is c.loop-item.invariant
    (c.in_ok-found.ensures (drop (c.loop-item.item-index + 1) c.args.items.now))

pub returns-in-Some : goal.returns-in-Some
returns-in-Some c =
    ap (λ (f : Option (Bor Program)). one_of (found_in f)) (sym c.in-Some.is) ∙ program_end c.args.items.now c.loop-item.item-index (found_in c.loop-item.found) (omega arith) c.loop-item.invariant

pub returns-in-None : goal.returns-in-None
unfolding refuse
returns-in-None c =
    ap (λ (f : Option (Bor Program)). one_of (found_in f)) (sym c.in-None.is) ∙ program_end c.args.items.now c.loop-item.item-index (found_in c.loop-item.found) (omega arith) c.loop-item.invariant
