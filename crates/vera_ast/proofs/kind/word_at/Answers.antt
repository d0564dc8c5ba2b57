use Rattle.std.proofs.Common.{[], sym, refl}
use Rattle.std.proofs.lemmas.List.{get_or_past}
use Rattle.vera_ast.specs.Words.{reserved_words}
use Rattle.vera_ast.proofs.ReservedWords.{now_at}
use Rattle.vera_ast.proofs.kind.word_at.Goals as goal

pub returns-then-place-lt-WORD_COUNT : goal.returns-then-place-lt-WORD_COUNT
returns-then-place-lt-WORD_COUNT c = rw now_at refl

pub returns-else-place-lt-WORD_COUNT : goal.returns-else-place-lt-WORD_COUNT
returns-else-place-lt-WORD_COUNT c = sym (get_or_past reserved_words c.args.place [] c.if-place-lt-WORD_COUNT.false)
