use Rattle.std.proofs.Common.{◌≡◌, drop}
use Rattle.typing_rules.specs.Formats.{parts_from}
use Rattle.vera_calls.specs.FormatSteps.{joined}
use Rattle.typing_rules.specs.declared.begun.Begun.TheVariants.{Nothing}
use Rattle.vera_calls.proofs.formats.format.Given as goal

-- what is read, with what the bytes that are left give, is the whole format
abbrev pub invariant-loop-byte : goal.invariant-loop-byte
invariant-loop-byte l = joined l.read.parts.items l.read.bytes.items (parts_from l.begun (drop l.byte-index l.bytes)) ≡ parts_from Nothing l.bytes
