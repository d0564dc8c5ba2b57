use Rattle.std.proofs.Common.{◌≡◌, ◌-◌}
use Rattle.grammar_laws.specs.Readers.{firsts_from, grown}
use Rattle.vera_ast.specs.declared.codes.TheConstants as code
use Rattle.parse_stmts.specs.DeclarationReading.{decl}
use Rattle.parse_exprs.specs.ExpressionReading.{expr}
use Rattle.parse_exprs.specs.Sets.{first_own_type}
use Rattle.parse_stmts.specs.StatementReading.{decls}
use Rattle.parse_cursor.specs.Tokens.{kind_of}
use Rattle.parse_stmts.proofs.stmts.decls.Given as goal

-- what is left to read, with what was found, is the whole
abbrev pub invariant-loop-turn : goal.invariant-loop-turn
invariant-loop-turn l = grown l.found.items (firsts_from kind_of first_own_type code.NAME (decl (expr l.depth)) (l._turn-end - l._turn) l.tokens.rest.now) ≡ decls (decl (expr l.depth)) l.fn.tokens.rest.now
