use Rattle.std.proofs.Common.{◌≡◌, ◌∙◌, sym, ap, subst, arith, length, true, List, Result, Ok, Err}
use Rattle.std.proofs.lemmas.Result.{err_from_is_err_and}
use Rattle.grammar_laws.specs.declared.fault.Fault.{Fault}
use Rattle.grammar_laws.specs.Readers.{Reads, many_from, grown}
use Rattle.grammar_laws.specs.Words.{begins}
use Rattle.grammar_laws.proofs.Loops as loops
use Rattle.parse_cursor.specs.Tokens.{kind_of}
use Rattle.parse_cursor.specs.TokenReading.{many}
use Rattle.parse_cursor.proofs.repeats.more.Goals as goal

pub returns-then-not-begins : goal.returns-then-not-begins
returns-then-not-begins g c = λ p f.
    loops.ends (begins kind_of c.args.codes.now) p (many_from kind_of c.args.codes.now p) (loops.many_over kind_of c.args.codes.now p) (loops.many_turn kind_of c.args.codes.now p)
    c.loop-turn.all (grown c.args.found (many c.args.codes.now p c.args.tokens.now.rest.now)) (length c.args.tokens.now.rest.now) c.loop-turn._turn c.loop-turn.tokens.rest.now
    (sym c.begins.ensures ∙ c.if-not-begins.true) (c.loop-turn.invariant p f)

pub returns-in_err-next : goal.returns-in_err-next
returns-in_err-next g c = λ p f.
    let b : begins kind_of c.args.codes.now c.loop-turn.tokens.rest.now ≡ true = sym c.begins.ensures ∙ c.if-not-begins.false in
    let h : Reads (p c.loop-turn.tokens.rest.now) (Err c.in_err-next.field-0.0) c.item.new.arg2.rest.now = f.reads _ _ (Err c.in_err-next.field-0.0) c.in_err-next.ensures in
    let x = err_from_is_err_and c.from_residual.result c.from_residual.ensures.1 in
    let total = grown c.args.found (many c.args.codes.now p c.args.tokens.now.rest.now) in
    let same : c.from_residual.result ≡ Err c.in_err-next.field-0.0 = x.1 ∙ ap (λ (e : Fault). Err e) x.2 in
    subst (λ (r : Result (List g.row.T.Denot) Fault). Reads total r c.item.new.arg2.rest.now) (sym same)
    (λ ne. loops.stops (begins kind_of c.args.codes.now) p (many_from kind_of c.args.codes.now p) (loops.many_over kind_of c.args.codes.now p) (loops.many_turn kind_of c.args.codes.now p)
    c.loop-turn.all total (length c.args.tokens.now.rest.now) c.loop-turn._turn c.loop-turn.tokens.rest.now c.in_err-next.field-0.0 c.loop-turn-test.true b (h ne) (c.loop-turn.invariant p f))

pub loop-turn-preserved : goal.loop-turn-preserved
loop-turn-preserved g c = λ p f.
    let b : begins kind_of c.args.codes.now c.loop-turn.tokens.rest.now ≡ true = sym c.begins.ensures ∙ c.if-not-begins.false in
    let h : Reads (p c.loop-turn.tokens.rest.now) (Ok c.in_ok-next.next) c.item.new.arg2.rest.now = f.reads _ _ (Ok c.in_ok-next.next) c.in_ok-next.ensures in
    rw c.in_ok-push.ensures.ok (loops.goes_on (begins kind_of c.args.codes.now) p (many_from kind_of c.args.codes.now p) (loops.many_over kind_of c.args.codes.now p) (loops.many_turn kind_of c.args.codes.now p)
    c.loop-turn.all (grown c.args.found (many c.args.codes.now p c.args.tokens.now.rest.now)) (length c.args.tokens.now.rest.now) c.loop-turn._turn c.loop-turn.tokens.rest.now
    c.in_ok-next.next c.item.new.arg2.rest.now c.loop-turn-test.true b h (c.loop-turn.invariant p f))

pub returns : goal.returns
returns g c = λ p f.
    loops.is_done (begins kind_of c.args.codes.now) p (many_from kind_of c.args.codes.now p) (loops.many_over kind_of c.args.codes.now p) (loops.many_turn kind_of c.args.codes.now p)
    c.loop-turn.all (grown c.args.found (many c.args.codes.now p c.args.tokens.now.rest.now)) (length c.args.tokens.now.rest.now) c.loop-turn._turn c.loop-turn.tokens.rest.now
    (omega arith) (c.loop-turn.invariant p f)
