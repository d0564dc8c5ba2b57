use Rattle.std.proofs.Common.{◌≡◌, drop}
use Rattle.grammar_laws.specs.Lines.{last_line}
use Rattle.vera_ast.specs.declared.token.Token.{Token}
use Rattle.vera_parse.proofs.file.last_line.Given as goal

abbrev pub invariant-loop-token : goal.invariant-loop-token
invariant-loop-token l = last_line (λ (t : Token). t.line) l.last (drop l.token-index l.tokens) ≡ last_line (λ (t : Token). t.line) 1 l.tokens
