use Rattle.std.proofs.Common.{◌++◌, ◌+◌, ◌||◌, take, drop, sym, ◌∙◌, ap, arith, rules}
use Rattle.blif_read.specs.Sets.{clashes}
use Rattle.blif_read.proofs.Marks.{clashes-next, clashes-end, set-next}
use Rattle.blif_read.proofs.sets.NetSet.insert_new.Goals as goal

pub returns-then-has-clause-clash : goal.returns-then-has-clause-clash
returns-then-has-clause-clash c = λ known s.
    let nets = c.args.nets.now in
    let i = c.loop-net.net-index in
    let there = sym (c.has.ensures (known ++ take i nets) (c.loop-net.invariant.set known s)) ∙ c.if-has.true in
    sym (c.loop-net.invariant.clash known s) ∙ clashes-next known nets i _ (omega arith) (search rules) ∙ ap (λ b. b || clashes (known ++ take (i + 1) nets) (drop (i + 1) nets)) there

pub loop-net-preserved : goal.loop-net-preserved
loop-net-preserved c =
    let nets = c.args.nets.now in
    let i = c.loop-net.net-index in
    record {
      same = c.insert.ensures.same ∙ c.loop-net.invariant.same;
      set = λ known s. set-next c.insert.new.self known nets i _ (omega arith) (search rules) (c.insert.ensures.set (known ++ take i nets) (c.loop-net.invariant.set known s));
      clash = λ known s.
          let gone = sym (c.has.ensures (known ++ take i nets) (c.loop-net.invariant.set known s)) ∙ c.if-has.false in
          sym (clashes-next known nets i _ (omega arith) (search rules) ∙ ap (λ b. b || clashes (known ++ take (i + 1) nets) (drop (i + 1) nets)) gone) ∙ c.loop-net.invariant.clash known s;
    }

pub returns-clause-clash : goal.returns-clause-clash
returns-clause-clash c = λ known s. sym (c.loop-net.invariant.clash known s) ∙ clashes-end known c.args.nets.now c.loop-net.net-index (omega arith)
