use Rattle.std.proofs.Common.{◌≡◌, List, Option, IfOk, refl, subst, arith}
use Rattle.vera_ast.specs.declared.typed.format.FormatPart.{FormatPart}
use Rattle.vera_calls.proofs.FormatParts.{all_read}
use Rattle.vera_calls.proofs.formats.format.Goals as goal

pub returns : goal.returns
returns c =
    subst (λ (all : Option (List FormatPart)). IfOk c.closed.result (λ parts. parts ≡ all))
    (all_read c.args.bytes.now c.loop-byte.byte-index c.loop-byte.read.parts.items c.loop-byte.read.bytes.items c.loop-byte.begun _ (omega arith) c.loop-byte.invariant refl) c.closed.ensures
