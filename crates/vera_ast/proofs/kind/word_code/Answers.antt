use Rattle.std.proofs.Common.{◌<◌, sym, ◌∙◌, arith}
use Rattle.vera_ast.proofs.ReservedWords.{other_length, within, found, not_found, equal, differs}
use Rattle.vera_ast.proofs.kind.word_code.Goals as goal

pub returns-then-word-lt2 : goal.returns-then-word-lt2
returns-then-word-lt2 c = other_length c.args.word.now c.then-word-lt2.either

pub overflow_add-result : goal.overflow_add-result
overflow_add-result c =
    let same = equal c.word_at.result.now c.args.word.now c.eq.result c.eq.ensures c.if-eq.true in
    let place : c.place_of-place.result < 84 = within c.args.word.now c.place_of-place.result c.if-word-lt2.false (sym c.word_at.ensures ∙ same) in
    omega arith

pub returns-then-eq : goal.returns-then-eq
returns-then-eq c =
    let same = equal c.word_at.result.now c.args.word.now c.eq.result c.eq.ensures c.if-eq.true in
    found c.args.word.now c.place_of-place.result c.if-word-lt2.false (sym c.word_at.ensures ∙ same)

pub returns-else-eq : goal.returns-else-eq
returns-else-eq c =
    let other = differs c.word_at.result.now c.args.word.now c.eq.result c.eq.ensures c.if-eq.false in
    not_found c.args.word.now c.place_of-place.result c.place_of-place.ensures (λ e. other (c.word_at.ensures ∙ e))
