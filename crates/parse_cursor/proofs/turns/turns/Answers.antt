use Rattle.std.proofs.Common.{◌≡◌, ◌∙◌, sym, ap, subst, arith, length, true, Result, Ok, Err}
use Rattle.grammar_laws.specs.declared.fault.Fault.{Fault}
use Rattle.std.specs.Global.{Vec}
use Rattle.std.proofs.lemmas.Result.{err_from_is_err_and}
use Rattle.grammar_laws.specs.Readers.{Reads, many_from}
use Rattle.grammar_laws.specs.Words.{begins}
use Rattle.grammar_laws.proofs.Loops.{begin, ends, is_done, stops, goes_on, many_over, many_turn}
use Rattle.parse_cursor.specs.Tokens.{kind_of}
use Rattle.parse_cursor.specs.TokenReading.{many}
use Rattle.parse_cursor.specs.Nesting.{listed}
use Rattle.parse_cursor.proofs.turns.turns.Goals as goal

pub loop-turn-init : goal.loop-turn-init
loop-turn-init g c = λ p f. rw c.new-found.ensures.items (begin (many_from kind_of c.args.codes.now p) c.args.tokens.now.rest.now)

pub returns-then-not-begins : goal.returns-then-not-begins
returns-then-not-begins g c = λ p f.
    let codes = c.args.codes.now in
    ends (begins kind_of codes) p (many_from kind_of codes p) (many_over kind_of codes p) (many_turn kind_of codes p) c.loop-turn.found.items (many codes p c.args.tokens.now.rest.now) (length c.args.tokens.now.rest.now)
    c.loop-turn._turn c.loop-turn.tokens.rest.now (sym c.begins.ensures ∙ c.if-not-begins.true) (c.loop-turn.invariant p f)

pub returns-in_err-item : goal.returns-in_err-item
returns-in_err-item g c = λ p f.
    let codes = c.args.codes.now in
    let b : begins kind_of codes c.loop-turn.tokens.rest.now ≡ true = sym c.begins.ensures ∙ c.if-not-begins.false in
    let h : Reads (p c.loop-turn.tokens.rest.now) (Err c.in_err-item.field-0.0) c.item.new.arg2.rest.now = f.reads _ _ (Err c.in_err-item.field-0.0) c.in_err-item.ensures in
    let x = err_from_is_err_and c.from_residual.result c.from_residual.ensures.1 in
    let total = many codes p c.args.tokens.now.rest.now in
    let same : c.from_residual.result ≡ Err c.in_err-item.field-0.0 = x.1 ∙ ap (λ (e : Fault). Err e) x.2 in
    subst (λ (r : Result (Vec g.row.T.Denot) Fault). Reads total (listed r) c.item.new.arg2.rest.now) (sym same)
    (λ ne. stops (begins kind_of codes) p (many_from kind_of codes p) (many_over kind_of codes p) (many_turn kind_of codes p) c.loop-turn.found.items total (length c.args.tokens.now.rest.now) c.loop-turn._turn c.loop-turn.tokens.rest.now
    c.in_err-item.field-0.0 c.loop-turn-test.true b (h ne) (c.loop-turn.invariant p f))

pub loop-turn-preserved : goal.loop-turn-preserved
loop-turn-preserved g c = λ p f.
    let codes = c.args.codes.now in
    let b : begins kind_of codes c.loop-turn.tokens.rest.now ≡ true = sym c.begins.ensures ∙ c.if-not-begins.false in
    let h : Reads (p c.loop-turn.tokens.rest.now) (Ok c.in_ok-item.field-0) c.item.new.arg2.rest.now = f.reads _ _ (Ok c.in_ok-item.field-0) c.in_ok-item.ensures in
    rw c.in_ok-push.ensures.items (goes_on (begins kind_of codes) p (many_from kind_of codes p) (many_over kind_of codes p) (many_turn kind_of codes p) c.loop-turn.found.items (many codes p c.args.tokens.now.rest.now) (length c.args.tokens.now.rest.now)
    c.loop-turn._turn c.loop-turn.tokens.rest.now c.in_ok-item.field-0 c.item.new.arg2.rest.now c.loop-turn-test.true b h (c.loop-turn.invariant p f))

pub returns : goal.returns
returns g c = λ p f.
    let codes = c.args.codes.now in
    is_done (begins kind_of codes) p (many_from kind_of codes p) (many_over kind_of codes p) (many_turn kind_of codes p) c.loop-turn.found.items (many codes p c.args.tokens.now.rest.now) (length c.args.tokens.now.rest.now)
    c.loop-turn._turn c.loop-turn.tokens.rest.now (omega arith) (c.loop-turn.invariant p f)
