use Rattle.std.proofs.Common.{rules, ◌≡◌, ◌∙◌, ap, sym, subst, List, [], ◌∷◌, ◌++◌, Ok}
use Rattle.grammar_laws.specs.Readers.{Outcome, Reads, grown}
use Rattle.vera_ast.specs.declared.token.Token.{Token}
use Rattle.parse_cursor.specs.ListReading.{after}
use Rattle.parse_cursor.specs.TokenReading.{many}
use Rattle.parse_cursor.proofs.ListTurns.{listed_is}
use Rattle.parse_cursor.proofs.repeats.listed.Goals as goal

pub returns : goal.returns
returns g c = λ p f.
    let first = c.in_ok-first.first in
    let read : p c.args.tokens.now.rest.now ≡ Ok (first, c.item.new.arg2.rest.now) = f.reads _ _ (Ok first) c.in_ok-first.ensures in
    let found : c.push.new.all ≡ first ∷ [] = c.in_ok-push.ensures.ok ∙ ap (λ (l : List g.row.T.Denot). l ++ first ∷ []) c.empty-found.ensures in
    subst (λ (o : Outcome Token (List g.row.T.Denot)). Reads o c.more.result c.more.new.tokens.rest.now) (sym (listed_is c.args.sign p c.args.tokens.now.rest.now c.item.new.arg2.rest.now first read))
    (subst (λ (l : List g.row.T.Denot). Reads (grown l (many (c.args.sign ∷ []) (after c.args.sign p) c.item.new.arg2.rest.now)) c.more.result c.more.new.tokens.rest.now) found
    (c.more.ensures (after c.args.sign p) (record { callable = λ old. search rules; reads = λ old new r post. search rules })))
