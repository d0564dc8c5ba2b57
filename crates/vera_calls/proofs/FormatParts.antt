-- The parts of a format, put together as its bytes are read.
use Rattle.std.proofs.Common.{◌≡◌, ℕ, Bool, true, List, [], ◌∷◌, ◌++◌, Option, Some, None, length, drop, ◌≤◌, refl, sym, ap, ◌∙◌, arith}
use Rattle.std.specs.Prelude.{option_map, is_some}
use Rattle.std.proofs.lemmas.List.{append-nil, append_assoc, at_drop_all}
use Rattle.vera_ast.specs.declared.typed.format.Conversion.{Conversion}
use Rattle.vera_ast.specs.declared.typed.format.ConversionLetter.{ConversionLetter}
use Rattle.vera_ast.specs.declared.typed.format.FormatPart.{FormatPart}
use Rattle.vera_ast.specs.declared.typed.format.FormatPart.TheVariants as part
use Rattle.vera_ast.specs.declared.typed.types.ValueType.{ValueType}
use Rattle.typing_rules.specs.Formats.{byte_before, parts_from, format, all_print}
use Rattle.typing_rules.specs.declared.begun.Begun.{Begun}
use Rattle.typing_rules.specs.declared.begun.Begun.TheVariants.{Nothing}
use Rattle.vera_calls.specs.FormatSteps.{bytes_before, joined}

-- ---- bytes that are printed

bytes_push : (bs : List ℕ) (b : ℕ) (parts : List FormatPart) → bytes_before (bs ++ b ∷ []) parts ≡ bytes_before bs (byte_before b parts)
bytes_push [] b parts = refl
bytes_push (c ∷ bs) b parts = ap (λ (ps : List FormatPart). byte_before c ps) (bytes_push bs b parts)

at_end : (b : ℕ) (bs : List ℕ) → bytes_before (b ∷ bs) [] ≡ part.Bytes (b ∷ bs) ∷ []
at_end b [] = refl
at_end b (c ∷ bs) = ap (λ (ps : List FormatPart). byte_before b ps) (at_end c bs)

at_conversion : (b : ℕ) (bs : List ℕ) (c : Conversion) (parts : List FormatPart) → bytes_before (b ∷ bs) (part.Conversion c ∷ parts) ≡ part.Bytes (b ∷ bs) ∷ part.Conversion c ∷ parts
at_conversion b [] c parts = refl
at_conversion b (d ∷ bs) c parts = ap (λ (ps : List FormatPart). byte_before b ps) (at_conversion d bs c parts)

in_front : (bs : List ℕ) (c : Conversion) (parts : List FormatPart) → bytes_before bs [] ++ part.Conversion c ∷ parts ≡ bytes_before bs (part.Conversion c ∷ parts)
in_front [] c parts = refl
in_front (b ∷ bs) c parts = ap (λ (ps : List FormatPart). ps ++ part.Conversion c ∷ parts) (at_end b bs) ∙ sym (at_conversion b bs c parts)

-- ---- all parts

pub no_bytes : (parts : List FormatPart) (bs : List ℕ) → length bs ≡ 0 → Some parts ≡ joined parts bs (Some [])
no_bytes parts [] e = ap (λ (ps : List FormatPart). Some ps) (sym (append-nil parts))
no_bytes parts (b ∷ bs) e = absurd (omega arith)

pub some_bytes : (parts : List FormatPart) (bs : List ℕ) → (length bs ≡ 0 → ⊥) → Some (parts ++ part.Bytes bs ∷ []) ≡ joined parts bs (Some [])
some_bytes parts [] ne = absurd (ne refl)
some_bytes parts (b ∷ bs) ne = ap (λ (ps : List FormatPart). Some (parts ++ ps)) (sym (at_end b bs))

-- ---- one more thing

pub one_byte : (parts : List FormatPart) (bs new : List ℕ) (b : ℕ) (behind : Option (List FormatPart)) → new ≡ bs ++ b ∷ [] → joined parts new behind ≡ joined parts bs (option_map (byte_before b) behind)
one_byte parts bs new b None e = refl
one_byte parts bs new b (Some more) e = ap (λ (ps : List FormatPart). Some (parts ++ ps)) (ap (λ (w : List ℕ). bytes_before w more) e ∙ bytes_push bs b more)

pub one_conversion : (parts all new : List FormatPart) (bs : List ℕ) (c : Conversion) (behind : Option (List FormatPart)) → Some all ≡ joined parts bs (Some []) → new ≡ all ++ part.Conversion c ∷ []
    → (none : List ℕ) → none ≡ [] → joined new none behind ≡ joined parts bs (option_map (λ more. part.Conversion c ∷ more) behind)
one_conversion parts all new bs c None h e none is = refl
one_conversion parts all new bs c (Some more) h e none is =
    let whole : all ≡ parts ++ bytes_before bs [] = cc in
    ap (λ (w : List ℕ). joined new w (Some more)) is
    ∙ ap (λ (ps : List FormatPart). Some (ps ++ more)) (e ∙ ap (λ (ps : List FormatPart). ps ++ part.Conversion c ∷ []) whole)
    ∙ ap (λ (ps : List FormatPart). Some ps) (append_assoc (parts ++ bytes_before bs []) (part.Conversion c ∷ []) more ∙ append_assoc parts (bytes_before bs []) (part.Conversion c ∷ more))
    ∙ ap (λ (ps : List FormatPart). Some (parts ++ ps)) (in_front bs c more)

-- ---- where the bytes end

pub all_read : (bytes : List ℕ) (i : ℕ) (parts : List FormatPart) (bs : List ℕ) (begun : Begun) (behind : Option (List FormatPart)) → length bytes ≤ i → joined parts bs (parts_from begun (drop i bytes)) ≡ parts_from Nothing bytes
    → parts_from begun [] ≡ behind → joined parts bs behind ≡ format bytes
unfolding format
all_read bytes i parts bs begun behind le h e =
    ap (λ (o : Option (List FormatPart)). joined parts bs o) (sym e) ∙ sym (at_drop_all (λ (w : List ℕ). joined parts bs (parts_from begun w)) bytes i le) ∙ h

pub told_end : (bytes : List ℕ) (i : ℕ) (begun : Begun) (is_whole : Bool) → length bytes ≤ i → is_some (parts_from begun (drop i bytes)) ≡ is_some (parts_from Nothing bytes)
    → is_whole ≡ is_some (parts_from begun []) → is_whole ≡ is_some (format bytes)
unfolding format
told_end bytes i begun is_whole le h e = e ∙ sym (at_drop_all (λ (w : List ℕ). is_some (parts_from begun w)) bytes i le) ∙ h

-- ---- what is printed, where values end first

nothing_printed : (letters : List ConversionLetter) → all_print letters [] ≡ true
unfolding all_print
nothing_printed [] = refl
nothing_printed (l ∷ letters) = refl

pub printed_short : (letters : List ConversionLetter) (types : List ValueType) (i : ℕ) → length types ≤ i → all_print (drop i letters) (drop i types) ≡ all_print letters types → true ≡ all_print letters types
printed_short letters types i le h = sym (at_drop_all (λ (rest : List ValueType). all_print (drop i letters) rest) types i le ∙ nothing_printed (drop i letters)) ∙ h
