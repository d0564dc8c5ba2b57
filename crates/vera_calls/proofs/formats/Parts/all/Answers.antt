use Rattle.std.proofs.Common.{arith}
use Rattle.std.proofs.lemmas.Bool.Decides.{nat_tests}
use Rattle.vera_calls.proofs.FormatParts.{no_bytes, some_bytes}
use Rattle.vera_calls.proofs.formats.Parts.all.Goals as goal

pub returns-then-is_empty : goal.returns-then-is_empty
returns-then-is_empty c = no_bytes c.args.self.parts.items c.args.self.bytes.items (grind (arith, nat_tests))

pub returns : goal.returns
returns c =
    let e = some_bytes c.args.self.parts.items c.args.self.bytes.items (λ z. grind (arith, nat_tests)) in
    rw (c.in_ok-push.ensures.items, c.of.ensures) e
