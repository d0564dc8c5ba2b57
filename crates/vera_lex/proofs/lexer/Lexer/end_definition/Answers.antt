use Rattle.std.proofs.Common.{◌∙◌, sym, refl}
use Rattle.std.proofs.lemmas.Map.Text.{hash_map_updates_str}
use Rattle.vera_lex.proofs.States.{definition_ends}
use Rattle.vera_lex.proofs.lexer.Lexer.end_definition.Goals as goal

pub returns-in_ok-insert-clause-state : goal.returns-in_ok-insert-clause-state
returns-in_ok-insert-clause-state c =
    definition_ends c.args.self.now _ c.args.lines c.in-Some.definition c.if-lines-eq0.false (sym c.take.ensures.value ∙ c.in-Some.is) refl refl refl c.take.ensures.after
    (λ q. hash_map_updates_str c.in-Some.definition.name.now c.args.self.now.names c.insert.new.self _ c.in_ok-insert.ensures.updates q)
