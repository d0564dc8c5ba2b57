use Rattle.std.proofs.Common.{◌≡◌, List, rules, tests, arith, subst}
use Rattle.std.proofs.lemmas.Iterator.Splits.{YieldsList-from_slice_split}
use Rattle.std.proofs.lemmas.Iterator.Consumers.{YieldsList-end}
use Rattle.std.proofs.lemmas.List.{length_push}
use Rattle.std.specs.Result.{IfOk}
use Rattle.blif_read.specs.declared.lines.Line.{Line}
use Rattle.blif_read.specs.Lines.{is_newline}
use Rattle.blif_read.proofs.Joined.{gathered-new, gathered-more, gathered-all}
use Rattle.blif_read.proofs.lines.net_lines.Goals as goal

pub loop-line-init : goal.loop-line-init
loop-line-init c =
    let n = c.new-joiner.ensures in
    record { number = n.number; tidy = λ _. n.text; all = λ rest. gathered-new c.new-joiner.result rest n.lines n.text n.begun n.number }

pub loop-line-preserved : goal.loop-line-preserved
loop-line-preserved c =
    let j = c.in_ok-add.ensures in
    let n = length_push c.loop-line.yielded c.in-Some.line in
    record {
      number = omega (arith, j.number);
      tidy = j.tidy;
      all = gathered-more _ _ _ c.loop-line.yielded c.in-Some.line j c.cleaned.ensures c.loop-line.invariant.all;
    }

pub returns : goal.returns
returns c =
    let e = YieldsList-end (YieldsList-from_slice_split _ is_newline c.args.bytes.now (cc) (cc) (cc) (λ x b q k. search (rules, tests))) c.loop-line.yielded _ c.loop-line.yielded_by _ _ c.in-None.is c.next.ensures.steps in
    let same = gathered-all c.loop-line.joiner c.args.bytes.now c.loop-line.yielded c.loop-line.invariant.all e.0 in
    subst (λ (xs : List Line). IfOk c.finish.result (λ lines. lines.items ≡ xs)) same c.finish.ensures
