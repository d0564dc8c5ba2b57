use Rattle.std.proofs.Common.{◌∙◌, ap, sym}
use Rattle.parse_cursor.specs.TokenReading as reading
use Rattle.parse_cursor.proofs.OneOf.{front, no_front, sign_first, sign_end}
use Rattle.parse_cursor.proofs.cursor.Cursor.sign.Goals as goal

pub returns-in-empty : goal.returns-in-empty
returns-in-empty g c = λ _. ap (reading.sign c.args.table.now) (no_front c.args.self.now.rest.now c.in-empty.len_below) ∙ sign_end c.args.table.now

pub returns-in-Some : goal.returns-in-Some
returns-in-Some g c = ap (reading.sign c.args.table.now) (front c.args.self.now.rest.now c.first-item.result c.in-len1-up.len_at_least c.first-item.is) ∙ sign_first c.args.table.now c.in-Some.meaning c.first-item.result _ (ap (reading.meaning_of c.args.table.now) (sym c.code.ensures) ∙ sym c.in-Some.ensures)
