use Rattle.std.proofs.Common.{◌∙◌, ap, sym}
use Rattle.grammar_laws.specs.Words.{member}
use Rattle.parse_cursor.specs.TokenReading as reading
use Rattle.parse_cursor.proofs.OneOf.{front, no_front, name_of_first, name_of_end}
use Rattle.parse_cursor.proofs.cursor.Cursor.name_of.Goals as goal

pub returns-in-empty : goal.returns-in-empty
returns-in-empty c = λ _. ap (reading.name_of c.args.codes.now) (no_front c.args.self.now.rest.now c.in-empty.len_below) ∙ name_of_end c.args.codes.now

pub returns-in_ok-text_of-in-len1-up : goal.returns-in_ok-text_of-in-len1-up
returns-in_ok-text_of-in-len1-up c =
    rw c.in_ok-text_of-in-len1-up.ensures
    (ap (reading.name_of c.args.codes.now) (front c.args.self.now.rest.now c.first-item.result c.in-len1-up.len_at_least c.first-item.is) ∙ name_of_first c.args.codes.now c.first-item.result _ (ap (member c.args.codes.now) (sym c.code.ensures) ∙ sym c.member.ensures ∙ c.if-not-member.false))
