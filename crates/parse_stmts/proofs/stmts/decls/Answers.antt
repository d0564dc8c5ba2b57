use Rattle.std.proofs.Common.{◌≡◌, ◌∙◌, sym, ap, subst, arith, length, true, List, Result, Ok, Err}
use Rattle.std.proofs.lemmas.Result.{err_from_is_err_and}
use Rattle.grammar_laws.specs.declared.fault.Fault.{Fault}
use Rattle.grammar_laws.specs.Readers.{Reads, first_kind, firsts_from}
use Rattle.grammar_laws.proofs.Loops as loops
use Rattle.vera_ast.specs.declared.codes.TheConstants as code
use Rattle.vera_ast.specs.declared.tree.declarations.Decl.{Decl}
use Rattle.parse_stmts.specs.DeclarationReading.{decl}
use Rattle.parse_exprs.specs.ExpressionReading.{expr}
use Rattle.parse_exprs.specs.Sets.{first_own_type}
use Rattle.parse_stmts.specs.StatementReading.{decls}
use Rattle.parse_cursor.specs.Tokens.{kind_of}
use Rattle.parse_stmts.proofs.stmts.decls.Goals as goal

pub loop-turn-init : goal.loop-turn-init
loop-turn-init c = let p = decl (expr c.args.depth) in
    rw c.new-found.ensures.items (loops.begin (firsts_from kind_of first_own_type code.NAME p) c.args.tokens.now.rest.now)

pub returns-then-not-begins_decl : goal.returns-then-not-begins_decl
returns-then-not-begins_decl c = let p = decl (expr c.args.depth) in
    rw c.of.ensures (loops.ends (first_kind kind_of first_own_type code.NAME) p (firsts_from kind_of first_own_type code.NAME p) (loops.first_over kind_of first_own_type code.NAME p) (loops.first_turn kind_of first_own_type code.NAME p)
    c.loop-turn.found.items (decls p c.args.tokens.now.rest.now) (length c.args.tokens.now.rest.now) c.loop-turn._turn c.loop-turn.tokens.rest.now
    (sym c.begins_decl.ensures ∙ c.if-not-begins_decl.true) c.loop-turn.invariant)

pub returns-in_err-decl : goal.returns-in_err-decl
returns-in_err-decl c = let p = decl (expr c.args.depth) in
    let b : first_kind kind_of first_own_type code.NAME c.loop-turn.tokens.rest.now ≡ true = sym c.begins_decl.ensures ∙ c.if-not-begins_decl.false in
    let h : Reads (p c.loop-turn.tokens.rest.now) (Err c.in_err-decl.field-0.0) c.decl.new.tokens.rest.now = c.in_err-decl.ensures in
    let x = err_from_is_err_and c.from_residual.result c.from_residual.ensures.1 in
    let total = decls p c.args.tokens.now.rest.now in
    let same : c.from_residual.result ≡ Err c.in_err-decl.field-0.0 = x.1 ∙ ap (λ (e : Fault). Err e) x.2 in
    subst (λ (r : Result (List Decl) Fault). Reads total r c.decl.new.tokens.rest.now) (sym same)
    (λ ne. loops.stops (first_kind kind_of first_own_type code.NAME) p (firsts_from kind_of first_own_type code.NAME p) (loops.first_over kind_of first_own_type code.NAME p) (loops.first_turn kind_of first_own_type code.NAME p)
    c.loop-turn.found.items total (length c.args.tokens.now.rest.now) c.loop-turn._turn c.loop-turn.tokens.rest.now c.in_err-decl.field-0.0 c.loop-turn-test.true b (h ne) c.loop-turn.invariant)

pub loop-turn-preserved : goal.loop-turn-preserved
loop-turn-preserved c = let p = decl (expr c.args.depth) in
    let b : first_kind kind_of first_own_type code.NAME c.loop-turn.tokens.rest.now ≡ true = sym c.begins_decl.ensures ∙ c.if-not-begins_decl.false in
    let h : Reads (p c.loop-turn.tokens.rest.now) (Ok c.in_ok-decl.field-0) c.decl.new.tokens.rest.now = c.in_ok-decl.ensures in
    rw c.in_ok-push.ensures.items (loops.goes_on (first_kind kind_of first_own_type code.NAME) p (firsts_from kind_of first_own_type code.NAME p) (loops.first_over kind_of first_own_type code.NAME p) (loops.first_turn kind_of first_own_type code.NAME p)
    c.loop-turn.found.items (decls p c.args.tokens.now.rest.now) (length c.args.tokens.now.rest.now) c.loop-turn._turn c.loop-turn.tokens.rest.now c.in_ok-decl.field-0 c.decl.new.tokens.rest.now c.loop-turn-test.true b h c.loop-turn.invariant)

pub returns : goal.returns
returns c = let p = decl (expr c.args.depth) in
    rw c.of-2.ensures (loops.is_done (first_kind kind_of first_own_type code.NAME) p (firsts_from kind_of first_own_type code.NAME p) (loops.first_over kind_of first_own_type code.NAME p) (loops.first_turn kind_of first_own_type code.NAME p)
    c.loop-turn.found.items (decls p c.args.tokens.now.rest.now) (length c.args.tokens.now.rest.now) c.loop-turn._turn c.loop-turn.tokens.rest.now
    (omega arith) c.loop-turn.invariant)
