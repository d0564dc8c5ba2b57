-- The refusals N01 to N09 of a netlist, each with its line.
use Rattle.std.specs.Prelude.{ℕ, ◌==◌, Bool, true, false, cond, not, ◌&&◌, ◌||◌, nat_lt, nat_le, List, [], ◌∷◌, ◌++◌, length, flat_map, Option, Some, None, option_to_list, if◌then◌else◌, bytes_eq, codes, slice_index}
use Rattle.std.specs.List.{list_any, list_all}
use Rattle.blif_read.specs.declared.lines.Line.{Line}
use Rattle.blif_read.specs.declared.directives.Directive.{Directive}
use Rattle.blif_read.specs.declared.directives.Directive.TheVariants.{Model, Inputs, Outputs, Clock, Names, Latch, BadLatch, Unknown}
use Rattle.blif_read.specs.declared.directives.Row.{Row}
use Rattle.blif_read.specs.declared.directives.Block.{Block}
use Rattle.blif_read.specs.declared.refusals.Refusal.{Refusal}
use Rattle.blif_read.specs.Nets.{names}

-- the nets that a directive makes inputs
abbrev pub inputs : Directive ℕ → List ℕ
inputs (Inputs nets) = nets
inputs d = []

-- the outputs
abbrev pub outputs : Directive ℕ → List ℕ
outputs (Outputs nets) = nets
outputs d = []

-- what a `.clock` names
abbrev pub clocks : Directive ℕ → List ℕ
clocks (Clock nets) = nets
clocks d = []

-- the control of a latch
abbrev pub controls : Directive ℕ → List ℕ
controls (Latch input output control init) = option_to_list control
controls d = []

-- the output of a latch or a cover
abbrev pub gates : Directive ℕ → List ℕ
gates (Names inputs output) = output ∷ []
gates (Latch input output control init) = output ∷ []
gates d = []

-- what a latch or a cover reads
abbrev pub reads : Directive ℕ → List ℕ
reads (Names inputs output) = inputs
reads (Latch input output control init) = input ∷ []
reads d = []

-- what is driven as an input or by a latch or a cover
abbrev pub drives : Directive ℕ → List ℕ
drives d = inputs d ++ gates d

-- what comes from outside
abbrev pub sources : Directive ℕ → List ℕ
sources d = inputs d ++ clocks d

-- what is driven in any way; a `.clock` drives its net
abbrev pub drivers : Directive ℕ → List ℕ
drivers d = drives d ++ clocks d

-- the clock's names: those of a `.clock` and of a control
abbrev pub clock_names : Directive ℕ → List ℕ
clock_names d = clocks d ++ controls d

-- what must be driven
abbrev pub wanted : Directive ℕ → List ℕ
wanted d = reads d ++ outputs d ++ controls d

-- the nets that the directives of these blocks give by f
abbrev pub each : (Directive ℕ → List ℕ) → List (Block ℕ) → List ℕ
each f blocks = flat_map (λ b. f b.directive) blocks

abbrev pub is_in : List ℕ → ℕ → Bool
is_in nets net = list_any (λ other. net == other) nets

-- whether a net of the second list is in the first
abbrev pub meet : List ℕ → List ℕ → Bool
meet nets others = list_any (is_in nets) others

-- whether a net stands twice in the list
abbrev pub has_repeat : List ℕ → Bool
has_repeat [] = false
has_repeat (net ∷ more) = is_in more net || has_repeat more

abbrev pub is_model : Directive ℕ → Bool
is_model (Model n) = true
is_model d = false

-- N02: a net is driven by a second input, latch or cover, or is driven by a latch or cover and named by a `.clock`
unfoldable pub is_driven_again : List (Block ℕ) → Directive ℕ → Bool
is_driven_again before d = has_repeat (drives d) || meet (each drives before) (drives d) || meet (each clocks before) (gates d) || meet (each gates before) (clocks d)

-- N06: a second `.model`, one with more than one name, or another directive
unfoldable pub is_unknown : List (Block ℕ) → Directive ℕ → Bool
is_unknown before (Model n) = nat_lt 1 n || list_any (λ b. is_model b.directive) before
is_unknown before Unknown = true
is_unknown before d = false

-- N07: a latch has another form, or a control that no `.inputs` and no `.clock` of the file names
unfoldable pub is_bad_latch : List (Block ℕ) → Directive ℕ → Bool
is_bad_latch all BadLatch = true
is_bad_latch all (Latch input output (Some control) init) = not (is_in (each sources all) control)
is_bad_latch all d = false

-- N08: a name of the clock isn't the first one
unfoldable pub is_second_clock : List (Block ℕ) → Directive ℕ → Bool
is_second_clock before d = list_any (λ net. not (net == slice_index (each clock_names before ++ clock_names d) 0)) (clock_names d)

-- N09: a net after the 65,536th
abbrev pub most_nets : ℕ
most_nets = 65536

unfoldable pub is_past_last_net : Directive ℕ → Bool
is_past_last_net d = list_any (nat_le most_nets) (names d)

-- `0`, `1` or `-`
abbrev pub is_literal : ℕ → Bool
is_literal c = c == 48 || c == 49 || c == 45

abbrev pub parts_fit : ℕ → Option (List ℕ × Bool) → Bool
parts_fit n None = false
parts_fit n (Some parts) = length parts.0 == n && list_all is_literal parts.0

-- N04: a row that isn't one of the directive that it stands behind
unfoldable pub is_wrong_row : Directive ℕ → Row → Bool
is_wrong_row (Names inputs output) row = not (parts_fit (length inputs) row.parts)
is_wrong_row d row = true

abbrev pub bit_of : Option (List ℕ × Bool) → Bool
bit_of None = false
bit_of (Some parts) = parts.1

-- the bit of a cover's first row, and 1 without rows
abbrev pub cover_bit : List Row → Bool
cover_bit [] = true
cover_bit (row ∷ more) = bit_of row.parts

-- N05: another bit than that of the cover's first row
unfoldable pub is_other_bit : List Row → Row → Bool
is_other_bit rows row = cond (cover_bit rows) (not (bit_of row.parts)) (bit_of row.parts)

-- N03: a net is read, or is an output or a control, and nothing in the file drives it
unfoldable pub is_undriven : List (Block ℕ) → Directive ℕ → Bool
is_undriven all d = list_any (λ net. not (is_in (each drivers all) net)) (wanted d)

abbrev pub refusal_if : Bool → ℕ → ℕ → List Refusal
refusal_if b code line = if b then record { code = code; line = line } ∷ [] else []

-- N01: the first line isn't `.model`, or there is none
unfoldable pub first_line_refusals : List Line → List Refusal
first_line_refusals [] = record { code = 1; line = 1 } ∷ []
first_line_refusals (line ∷ more) = refusal_if (not (bytes_eq line.first (codes ".model"))) 1 line.number

unfoldable pub row_refusals : Block ℕ → Row → List Refusal
row_refusals b row = refusal_if (is_wrong_row b.directive row) 4 row.line ++ refusal_if (is_other_bit b.rows row) 5 row.line

-- those of a directive's own line
unfoldable pub directive_refusals : List (Block ℕ) → List (Block ℕ) → Block ℕ → List Refusal
directive_refusals all before b =
    refusal_if (is_driven_again before b.directive) 2 b.line
    ++ refusal_if (is_unknown before b.directive) 6 b.line
    ++ refusal_if (is_bad_latch all b.directive) 7 b.line
    ++ refusal_if (is_second_clock before b.directive) 8 b.line
    ++ refusal_if (is_past_last_net b.directive) 9 b.line

unfoldable pub block_refusals : List (Block ℕ) → List (Block ℕ) → Block ℕ → List Refusal
block_refusals all before b = directive_refusals all before b ++ flat_map (row_refusals b) b.rows

-- those of N02 and N04 to N09, in order of lines and, on one line, of numbers
unfoldable pub line_refusals : List (Block ℕ) → List (Block ℕ) → List (Block ℕ) → List Refusal
line_refusals all before [] = []
line_refusals all before (b ∷ more) = block_refusals all before b ++ line_refusals all (before ++ b ∷ []) more

-- those of N03, in order of lines
unfoldable pub undriven_refusals : List (Block ℕ) → List (Block ℕ) → List Refusal
undriven_refusals all blocks = flat_map (λ b. refusal_if (is_undriven all b.directive) 3 b.line) blocks

-- all refusals; the first of them is the netlist's
unfoldable pub refusals : List Line → List (Block ℕ) → List Refusal
refusals lines blocks = first_line_refusals lines ++ line_refusals blocks [] blocks ++ undriven_refusals blocks blocks
