-- What a format prints.
use Rattle.std.specs.Prelude.{ℕ, List, [], ◌∷◌, ◌++◌, Option, None}
use Rattle.four_state.specs.declared.bit.Bit.{Bit}
use Rattle.four_state.specs.Texts.{decimal_text}
use Rattle.vera_ast.specs.declared.typed.format.FormatPart.{FormatPart}
use Rattle.vera_ast.specs.declared.typed.format.FormatPart.TheVariants.{Bytes, Conversion}
use Rattle.vera_ast.specs.declared.typed.format.ConversionLetter.{ConversionLetter}
use Rattle.vera_ast.specs.declared.typed.format.ConversionLetter.TheVariants.{Decimal}
use Rattle.vera_ast.specs.declared.typed.types.ValueType.{ValueType}
use Rattle.vera_meaning.specs.Operators.{is_signed_at}

-- an argument's type and value
pub record Argument : Type 0 where
  pub of : ValueType
  pub bits : List Bit

-- What a conversion with this least width and letter prints. Others than the plain decimal number aren't built: they
-- print nothing.
abbrev pub converted : Option ℕ → ConversionLetter → Argument → List ℕ
converted None Decimal a = decimal_text (is_signed_at a.of) a.bits
converted width letter a = []

-- The bytes of a format's parts in order, where each conversion takes the next argument. A conversion without an
-- argument prints nothing.
abbrev pub formatted : List FormatPart → List Argument → List ℕ
formatted [] args = []
formatted (Bytes bytes ∷ parts) args = bytes ++ formatted parts args
formatted (Conversion c ∷ parts) [] = formatted parts []
formatted (Conversion c ∷ parts) (a ∷ args) = converted c.width c.letter a ++ formatted parts args
