use Rattle.std.proofs.Common.{sym, ◌∙◌, ap, subst, Err, Result}
use Rattle.blif_read.specs.declared.reading.NetError.{NetError}
use Rattle.blif_read.specs.declared.refusals.Refusal.{Refusal}
use Rattle.blif_read.specs.Reading.{IsReading}
use Rattle.blif_read.specs.Netlists.{Parts, netlist_of_lines}
use Rattle.blif_read.specs.Refusals.{first_line_refusals}
use Rattle.blif_read.specs.Checking.{first}
use Rattle.blif_read.proofs.Made.{Ready, ready, first_line_refused}
use Rattle.blif_read.proofs.reading.read_lines.Goals.{After-deref-2}
use Rattle.blif_read.proofs.reading.read_lines.Goals as goal

pub returns-in-Some : goal.returns-in-Some
returns-in-Some c =
    subst (λ (e : NetError). IsReading (Err e) (netlist_of_lines c.args.lines.items)) (sym c.refused.ensures)
    (first_line_refused c.args.lines.items c.in-Some.refusal (sym c.in-Some.is ∙ c.first_line_refusal.ensures ∙ ap (λ ls. first (first_line_refusals ls)) c.deref.ensures.value))

passes : (c : After-deref-2) → Ready c.args.lines.items c.in_ok-known.known.items c.deref-2.result.now
passes c = ready c.args.lines.items c.in_ok-blocks.blocks.items c.in_ok-known.known.items c.in_ok-known.blocks.items c.deref-2.result.now c.in_ok-blocks.ensures c.in_ok-known.ensures.nets c.in_ok-known.ensures.numbered c.deref-2.ensures.value

pub read_blocks-requires-clause-below : goal.read_blocks-requires-clause-below
read_blocks-requires-clause-below c = (passes c).below

pub read_blocks-requires-clause-makes : goal.read_blocks-requires-clause-makes
read_blocks-requires-clause-makes c = (passes c).makes

pub returns : goal.returns
returns c =
    let lines = c.args.lines.items in
    let r = ready lines c.in_ok-blocks.blocks.items c.in_ok-known.known.items c.in_ok-known.blocks.items c.deref-2.result.now c.in_ok-blocks.ensures c.in_ok-known.ensures.nets c.in_ok-known.ensures.numbered c.deref-2.ensures.value in
    subst (λ (m : Result Parts Refusal). IsReading c.read_blocks.result m)
    (sym (r.means (sym c.in_default.is ∙ c.first_line_refusal.ensures ∙ ap (λ ls. first (first_line_refusals ls)) c.deref.ensures.value)))
    c.read_blocks.ensures
