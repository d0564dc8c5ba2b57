use Rattle.std.proofs.Common.{◌≡◌, ◌∙◌, sym, ap, subst, arith, length, true, List, Result, Ok, Err}
use Rattle.vera_ast.specs.declared.tree.expressions.Link.{Link}
use Rattle.grammar_laws.specs.declared.fault.Fault.{Fault}
use Rattle.std.proofs.lemmas.Result.{err_from_is_err_and}
use Rattle.grammar_laws.specs.Readers.{Reads, many_from}
use Rattle.grammar_laws.specs.Words.{begins}
use Rattle.grammar_laws.proofs.Loops.{begin, ends, is_done, stops, goes_on, many_over, many_turn}
use Rattle.parse_cursor.specs.Tokens.{kind_of}
use Rattle.parse_cursor.specs.TokenReading.{many, codes_of}
use Rattle.parse_exprs.specs.ExpressionReading.{link}
use Rattle.parse_exprs.proofs.operators.links.Goals as goal

pub loop-turn-init : goal.loop-turn-init
loop-turn-init g c = λ p f. rw c.new-found.ensures (begin (many_from kind_of (codes_of c.args.operators.now) (link c.args.operators.now p)) c.args.tokens.now.rest.now)

pub returns-then-not-begins_sign : goal.returns-then-not-begins_sign
returns-then-not-begins_sign g c = λ p f.
    let codes = codes_of c.args.operators.now in
    let q = link c.args.operators.now p in
    ends (begins kind_of codes) q (many_from kind_of codes q) (many_over kind_of codes q) (many_turn kind_of codes q) c.loop-turn.found (many codes q c.args.tokens.now.rest.now) (length c.args.tokens.now.rest.now)
    c.loop-turn._turn c.loop-turn.tokens.rest.now (sym c.begins_sign.ensures ∙ c.if-not-begins_sign.true) (c.loop-turn.invariant p f)

pub returns-in_err-link : goal.returns-in_err-link
returns-in_err-link g c = λ p f.
    let codes = codes_of c.args.operators.now in
    let q = link c.args.operators.now p in
    let b : begins kind_of codes c.loop-turn.tokens.rest.now ≡ true = sym c.begins_sign.ensures ∙ c.if-not-begins_sign.false in
    let h : Reads (q c.loop-turn.tokens.rest.now) (Err c.in_err-link.field-0.0) c.link.new.tokens.rest.now = c.in_err-link.ensures p f in
    let x = err_from_is_err_and c.from_residual.result c.from_residual.ensures.1 in
    let total = many codes q c.args.tokens.now.rest.now in
    let same : c.from_residual.result ≡ Err c.in_err-link.field-0.0 = x.1 ∙ ap (λ (e : Fault). Err e) x.2 in
    subst (λ (r : Result (List Link) Fault). Reads total r c.link.new.tokens.rest.now) (sym same)
    (λ ne. stops (begins kind_of codes) q (many_from kind_of codes q) (many_over kind_of codes q) (many_turn kind_of codes q) c.loop-turn.found total (length c.args.tokens.now.rest.now) c.loop-turn._turn c.loop-turn.tokens.rest.now
    c.in_err-link.field-0.0 c.loop-turn-test.true b (h ne) (c.loop-turn.invariant p f))

pub loop-turn-preserved : goal.loop-turn-preserved
loop-turn-preserved g c = λ p f.
    let codes = codes_of c.args.operators.now in
    let q = link c.args.operators.now p in
    let b : begins kind_of codes c.loop-turn.tokens.rest.now ≡ true = sym c.begins_sign.ensures ∙ c.if-not-begins_sign.false in
    let h : Reads (q c.loop-turn.tokens.rest.now) (Ok c.in_ok-link.field-0) c.link.new.tokens.rest.now = c.in_ok-link.ensures p f in
    rw c.in_ok-push.ensures.ok (goes_on (begins kind_of codes) q (many_from kind_of codes q) (many_over kind_of codes q) (many_turn kind_of codes q) c.loop-turn.found (many codes q c.args.tokens.now.rest.now) (length c.args.tokens.now.rest.now)
    c.loop-turn._turn c.loop-turn.tokens.rest.now c.in_ok-link.field-0 c.link.new.tokens.rest.now c.loop-turn-test.true b h (c.loop-turn.invariant p f))

pub returns : goal.returns
returns g c = λ p f.
    let codes = codes_of c.args.operators.now in
    let q = link c.args.operators.now p in
    is_done (begins kind_of codes) q (many_from kind_of codes q) (many_over kind_of codes q) (many_turn kind_of codes q) c.loop-turn.found (many codes q c.args.tokens.now.rest.now) (length c.args.tokens.now.rest.now)
    c.loop-turn._turn c.loop-turn.tokens.rest.now (omega arith) (c.loop-turn.invariant p f)
