use Rattle.vera_calls.proofs.FormatParts.{one_byte}
use Rattle.vera_calls.proofs.formats.Parts.with_byte.Goals as goal

pub returns : goal.returns
returns c = λ behind. one_byte c.args.self.parts.items c.args.self.bytes.items c.push.new.self.items c.args.byte behind c.in_ok-push.ensures.items
