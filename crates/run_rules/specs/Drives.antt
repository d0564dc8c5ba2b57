-- Drives, and their meeting on a signal.
use Rattle.std.specs.Prelude.{ℕ, ◌==◌, not, List, [], ◌∷◌, filter, map, Option, Some, if◌then◌else◌}
use Rattle.four_state.specs.declared.bit.Bit.{Bit}
use Rattle.four_state.specs.declared.bit.Bit.TheVariants.{X}
use Rattle.four_state.specs.Bits.{bit_eq}
pub use Rattle.run_rules.specs.declared.drive.Drive.{Drive}

-- the drives that are due in a cycle, and the others, both in order of adding
abbrev pub due_in : ℕ → List Drive → List Drive
due_in cycle drives = filter (λ d. d.cycle == cycle) drives

abbrev pub due_later : ℕ → List Drive → List Drive
due_later cycle drives = filter (λ d. not (d.cycle == cycle)) drives

-- the same bit where both have it, else x
abbrev pub meet_bit : Bit → Bit → Bit
meet_bit a b = if bit_eq a b then a else X

-- Two drives of one signal meet bit by bit. They have one width.
abbrev pub meet : List Bit → List Bit → List Bit
meet [] others = []
meet (a ∷ bits) [] = []
meet (a ∷ bits) (b ∷ others) = meet_bit a b ∷ meet bits others

-- a value that meets others
abbrev pub meet_all : List Bit → List (List Bit) → List Bit
meet_all value [] = value
meet_all value (other ∷ others) = meet_all (meet value other) others

-- what drives give a signal, in order
abbrev pub given_to : ℕ → List Drive → List (List Bit)
given_to signal drives = map (λ d. d.bits) (filter (λ d. d.signal == signal) drives)

-- what the output signals were last driven with, where they were
abbrev pub Driven : Type 0
Driven = ℕ → Option (List Bit)

-- the meet of all values, or the former one where there is none
abbrev pub met_or : Option (List Bit) → List (List Bit) → Option (List Bit)
met_or former [] = former
met_or former (value ∷ others) = Some (meet_all value others)

-- A signal's value after these drives is the meet of all drives of it, or its former one.
abbrev pub driven_by : List Drive → Driven → Driven
driven_by drives driven = λ signal. met_or (driven signal) (given_to signal drives)

-- the same, but for signal n, which was last driven with these bits
abbrev pub with_value : Driven → ℕ → List Bit → Driven
with_value driven n bits = λ m. if m == n then Some bits else driven m
