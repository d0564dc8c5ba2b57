use Rattle.std.proofs.lemmas.Iterator.Adapters.{YieldsList-from_vec}
use Rattle.std.proofs.lemmas.Iterator.Consumers.{YieldsList-end}
use Rattle.std.proofs.lemmas.List.{map-id}
use Rattle.std.proofs.Common.{◌≡◌, ◌++◌, rules, sym, ap, ◌∙◌, map}
use Rattle.vera_lex.specs.Tokens.{on_line}
use Rattle.vera_lex.proofs.lexer.put.Goals as goal

pub returns : goal.returns
returns c =
    let e = YieldsList-end (YieldsList-from_vec c.args.kinds.items (search rules) (search rules)) c.loop-kind.yielded c.loop-kind.kind-iterator c.loop-kind.yielded_by c.next.result c.next.new.self c.in-None.is c.next.ensures.steps in
    let all : c.loop-kind.yielded ≡ c.args.kinds.items = sym (map-id c.loop-kind.yielded) ∙ e.0 in
    c.loop-kind.invariant ∙ ap (λ ks. c.args.tokens.now.items ++ map (on_line c.args.line) ks) all
