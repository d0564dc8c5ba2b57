use Rattle.vera_calls.proofs.FormatParts.{one_conversion}
use Rattle.vera_calls.proofs.formats.Parts.with_conversion.Goals as goal

pub returns : goal.returns
returns c = λ behind. one_conversion c.args.self.parts.items c.in_ok-parts.parts.items c.push.new.self.items c.args.self.bytes.items c.args.conversion behind c.in_ok-parts.ensures c.in_ok-push.ensures.items c.new.result.items c.new.ensures.items
