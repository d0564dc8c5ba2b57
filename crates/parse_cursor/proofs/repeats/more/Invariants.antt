use Rattle.std.proofs.Common.{◌≡◌, ◌-◌}
use Rattle.grammar_laws.specs.Readers.{Parser, many_from, grown}
use Rattle.vera_ast.specs.declared.token.Token.{Token}
use Rattle.parse_cursor.specs.Nesting.{Follows}
use Rattle.parse_cursor.specs.Tokens.{kind_of}
use Rattle.parse_cursor.specs.TokenReading.{many}
use Rattle.parse_cursor.proofs.repeats.more.Given as goal

abbrev pub invariant-loop-turn : goal.invariant-loop-turn
invariant-loop-turn g l = (p : Parser Token g.row.T.Denot) → Follows p (goal.F-pre g l.item) (goal.F-post g l.item)
    → grown l.all (many_from kind_of l.codes p (l._turn-end - l._turn) l.tokens.rest.now) ≡ grown l.fn.found (many l.codes p l.fn.tokens.rest.now)
