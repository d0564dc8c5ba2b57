-- Formats: `%`, an optional `0`, an optional width of 1 to 999, and a letter; `%%` is a percent sign.
use Rattle.std.specs.Prelude.{ℕ, ◌+◌, ◌-◌, ◌*◌, ◌==◌, ◌&&◌, nat_le, nat_lt, Bool, true, false, if◌then◌else◌, List, [], ◌∷◌, Option, Some, None, option_map}
use Rattle.std.specs.Option.{option_and_then}
use Rattle.vera_ast.specs.declared.typed.format.ConversionLetter.{ConversionLetter}
use Rattle.vera_ast.specs.declared.typed.format.ConversionLetter.TheVariants as letter
use Rattle.vera_ast.specs.declared.typed.format.FormatPart.{FormatPart}
use Rattle.vera_ast.specs.declared.typed.format.FormatPart.TheVariants as part
use Rattle.vera_ast.specs.declared.typed.types.ValueType.{ValueType}
use Rattle.vera_ast.specs.declared.typed.types.ValueType.TheVariants as t
use Rattle.typing_rules.specs.Types.{is_vector}
use Rattle.typing_rules.specs.declared.begun.Begun.{Begun}
use Rattle.typing_rules.specs.declared.begun.Begun.TheVariants.{Nothing, Percent, Sized}

-- ---- the bytes of a format, one after the other

abbrev pub letter_of : ℕ → Option ConversionLetter
letter_of b =
    if b == 100 then Some letter.Decimal
    else (if b == 98 then Some letter.Binary
    else (if b == 104 then Some letter.Hexadecimal
    else (if b == 120 then Some letter.Hexadecimal
    else (if b == 115 then Some letter.Str else None))))

abbrev pub is_digit : ℕ → Bool
is_digit b = nat_le 48 b && nat_le b 57

-- a width of three digits takes no further one, and none begins with 0
abbrev pub widened : Option ℕ → ℕ → Option ℕ
widened None b = if b == 48 then None else Some (b - 48)
widened (Some width) b = if nat_lt width 100 then Some (10 * width + (b - 48)) else None

-- a byte that is printed, in front of the parts behind it
abbrev pub byte_before : ℕ → List FormatPart → List FormatPart
byte_before b (part.Bytes bytes ∷ parts) = part.Bytes (b ∷ bytes) ∷ parts
byte_before b parts = part.Bytes (b ∷ []) ∷ parts

abbrev pub conversion : Bool → Option ℕ → ConversionLetter → FormatPart
conversion zero width l = part.Conversion (record { zero = zero; width = width; letter = l })

unfoldable pub parts_from : Begun → List ℕ → Option (List FormatPart)
parts_from Nothing [] = Some []
parts_from _ [] = None
parts_from Nothing (b ∷ bs) = if b == 37 then parts_from Percent bs else option_map (byte_before b) (parts_from Nothing bs)
parts_from Percent (b ∷ bs) =
    if b == 37 then option_map (byte_before 37) (parts_from Nothing bs)
    else (if b == 48 then parts_from (Sized true None) bs
    else (if is_digit b then parts_from (Sized false (Some (b - 48))) bs
    else option_and_then (λ l. option_map (λ parts. conversion false None l ∷ parts) (parts_from Nothing bs)) (letter_of b)))
parts_from (Sized zero width) (b ∷ bs) =
    if is_digit b then option_and_then (λ w. parts_from (Sized zero (Some w)) bs) (widened width b)
    else option_and_then (λ l. option_map (λ parts. conversion zero width l ∷ parts) (parts_from Nothing bs)) (letter_of b)

-- None where a conversion isn't one
unfoldable pub format : List ℕ → Option (List FormatPart)
format bytes = parts_from Nothing bytes

-- ---- what its conversions print

unfoldable pub conversions : List FormatPart → List ConversionLetter
conversions [] = []
conversions (part.Bytes bytes ∷ parts) = conversions parts
conversions (part.Conversion c ∷ parts) = c.letter ∷ conversions parts

abbrev pub prints : ConversionLetter → ValueType → Bool
prints letter.Str t.Str = true
prints letter.Str _ = false
prints _ of = is_vector of

-- each conversion prints the argument at its place; their numbers aren't compared here
unfoldable pub all_print : List ConversionLetter → List ValueType → Bool
all_print [] types = true
all_print letters [] = true
all_print (l ∷ letters) (of ∷ types) = prints l of && all_print letters types
