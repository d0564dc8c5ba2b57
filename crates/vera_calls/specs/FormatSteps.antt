-- Formats, byte by byte, as they are read.
use Rattle.std.specs.Prelude.{ℕ, List, [], ◌∷◌, ◌++◌, Option, None, option_map}
use Rattle.vera_ast.specs.declared.typed.format.FormatPart.{FormatPart}
use Rattle.vera_ast.specs.declared.typed.format.FormatPart.TheVariants as part
use Rattle.typing_rules.specs.Formats.{parts_from, byte_before}
use Rattle.typing_rules.specs.declared.begun.Begun.TheVariants.{Nothing}
use Rattle.typing_rules.specs.declared.begun.Turn.{Turn}
use Rattle.typing_rules.specs.declared.begun.Turn.TheVariants as turn

-- the parts of the bytes behind a turn, with what the turn gives
abbrev pub told : Turn → List ℕ → Option (List FormatPart)
told (turn.Byte b) rest = option_map (byte_before b) (parts_from Nothing rest)
told (turn.Ends c) rest = option_map (λ parts. part.Conversion c ∷ parts) (parts_from Nothing rest)
told (turn.GoesOn begun) rest = parts_from begun rest
told turn.Wrong rest = None

-- bytes that are printed, in front of the parts behind them
abbrev pub bytes_before : List ℕ → List FormatPart → List FormatPart
bytes_before [] parts = parts
bytes_before (b ∷ bs) parts = byte_before b (bytes_before bs parts)

-- the parts that are read, bytes that are printed, and what is behind them
abbrev pub joined : List FormatPart → List ℕ → Option (List FormatPart) → Option (List FormatPart)
joined parts bytes behind = option_map (λ more. parts ++ bytes_before bytes more) behind
