use Rattle.std.proofs.Common.{◌∙◌, ap, sym, is_some}
use Rattle.grammar_laws.specs.Words.{begins}
use Rattle.parse_cursor.specs.Tokens.{kind_of}
use Rattle.parse_cursor.specs.TokenReading.{meaning_of, codes_of}
use Rattle.parse_cursor.proofs.OneOf.{front, means_something}
use Rattle.parse_cursor.proofs.cursor.Cursor.begins_sign.Goals as goal

pub returns-in-len1-up : goal.returns-in-len1-up
returns-in-len1-up g c =
    c.is_some.ensures ∙ ap is_some (c.meaning_of.ensures ∙ ap (meaning_of c.args.table.now) c.code.ensures) ∙ means_something c.args.table.now (kind_of c.first-item.result)
    ∙ sym (ap (begins kind_of (codes_of c.args.table.now)) (front c.args.self.now.rest.now c.first-item.result c.in-len1-up.len_at_least c.first-item.is))
