use Rattle.std.proofs.Common.{ℕ, List, length, rules, tests, ◌∙◌, ap}
use Rattle.std.specs.List.{filter}
use Rattle.std.specs.Prelude.{not, ◌==◌}
use Rattle.std.proofs.lemmas.Iterator.Splits.{YieldsList-from_slice_split}
use Rattle.std.proofs.lemmas.Iterator.Consumers.{YieldsList-end}
use Rattle.blif_read.specs.Lines.{is_blank, words}
use Rattle.blif_read.proofs.lines.words.Goals as goal

pub returns : goal.returns
unfolding words
returns c =
    let e = YieldsList-end (YieldsList-from_slice_split _ is_blank c.args.text.now (cc) (cc) (cc) (λ x b q k. search (rules, tests))) c.loop-word.yielded _ c.loop-word.yielded_by _ _ c.in-None.is c.next.ensures.steps in
    c.loop-word.invariant ∙ ap (filter (λ (w : List ℕ). not (length w == 0))) e.0
