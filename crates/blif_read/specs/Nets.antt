-- The nets of a netlist in order of first appearance, and its directives over their numbers.
use Rattle.std.specs.Prelude.{ℕ, not, List, [], ◌∷◌, ◌++◌, map, filter, flat_map, bytes_eq, option_map, option_to_list}
use Rattle.std.specs.List.{position_or_len}
use Rattle.blif_read.specs.declared.directives.Directive.{Directive}
use Rattle.blif_read.specs.declared.directives.Directive.TheVariants.{Model, Inputs, Outputs, Clock, Names, Latch, BadLatch, End, Unknown}
use Rattle.blif_read.specs.declared.directives.Block.{Block}
use Rattle.blif_read.specs.Directives.{Name}

-- the nets that a directive names, from left to right
abbrev pub names : {N : Type 0} → Directive N → List N
names (Model n) = []
names (Inputs nets) = nets
names (Outputs nets) = nets
names (Clock nets) = nets
names (Names inputs output) = inputs ++ output ∷ []
names (Latch input output control init) = input ∷ output ∷ option_to_list control
names BadLatch = []
names End = []
names Unknown = []

-- the same directive with f of each net
abbrev pub renamed : {M N : Type 0} → (M → N) → Directive M → Directive N
renamed f (Model n) = Model n
renamed f (Inputs nets) = Inputs (map f nets)
renamed f (Outputs nets) = Outputs (map f nets)
renamed f (Clock nets) = Clock (map f nets)
renamed f (Names inputs output) = Names (map f inputs) (f output)
renamed f (Latch input output control init) = Latch (f input) (f output) (option_map f control) init
renamed f BadLatch = BadLatch
renamed f End = End
renamed f Unknown = Unknown

-- each name once, where it appears first
unfoldable pub distinct : List Name → List Name
distinct [] = []
distinct (name ∷ more) = name ∷ filter (λ other. not (bytes_eq name other)) (distinct more)

-- all nets
unfoldable pub nets : List (Block Name) → List Name
nets blocks = distinct (flat_map (λ b. names b.directive) blocks)

-- a net's number is its place among the nets
unfoldable pub number : List Name → Name → ℕ
number known name = position_or_len (bytes_eq name) known

unfoldable pub numbered : List Name → Block Name → Block ℕ
numbered known b = record { line = b.line; directive = renamed (number known) b.directive; rows = b.rows }
