use Rattle.std.proofs.Common.{◌≡◌, drop}
use Rattle.std.specs.Prelude.{is_some}
use Rattle.typing_rules.specs.Formats.{parts_from}
use Rattle.typing_rules.specs.declared.begun.Begun.TheVariants.{Nothing}
use Rattle.vera_calls.proofs.formats.is_format.Given as goal

-- whether what is left is a format tells of the whole
abbrev pub invariant-loop-byte : goal.invariant-loop-byte
invariant-loop-byte l = is_some (parts_from l.begun (drop l.byte-index l.bytes)) ≡ is_some (parts_from Nothing l.bytes)
