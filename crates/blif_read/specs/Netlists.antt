-- What a netlist's bytes mean: its parts, or the first refusal.
use Rattle.std.specs.Prelude.{ℕ, Bool, List, [], ◌∷◌, map, flat_map, Option, Some, None, Result, Ok, Err}
use Rattle.std.specs.List.{slice_get}
use Rattle.std.specs.Option.{is_some}
use Rattle.blif_read.specs.declared.lines.Line.{Line}
use Rattle.blif_read.specs.declared.directives.Directive.{Directive}
use Rattle.blif_read.specs.declared.directives.Directive.TheVariants.{Names, Latch}
use Rattle.blif_read.specs.declared.directives.Row.{Row}
use Rattle.blif_read.specs.declared.directives.Block.{Block}
use Rattle.blif_read.specs.declared.netlist.NetCover.{NetCover}
use Rattle.blif_read.specs.declared.netlist.Latch as latch
use Rattle.blif_read.specs.Lines.{net_lines}
use Rattle.blif_read.specs.Directives.{Name, blocks, up_to_end}
use Rattle.blif_read.specs.Nets.{nets, numbered}
use Rattle.blif_read.specs.declared.refusals.Refusal.{Refusal}
use Rattle.blif_read.specs.Refusals.{inputs, outputs, clock_names, each, cover_bit, refusals}

-- a netlist as plain data
pub record Parts : Type 0 where
  pub nets : List Name
  pub inputs : List ℕ
  pub outputs : List ℕ
  pub clock : Option ℕ
  pub covers : List NetCover
  pub latches : List latch.Latch

abbrev pub literals : Option (List ℕ × Bool) → List ℕ
literals None = []
literals (Some parts) = parts.0

-- the cover of a `.names` with its rows
abbrev pub cover_of : Directive ℕ → List Row → List NetCover
cover_of (Names inputs output) rows = record { inputs = inputs; output = output; rows = map (λ r. literals r.parts) rows; on = cover_bit rows } ∷ []
cover_of d rows = []

-- the latch of a `.latch`
abbrev pub latch_of : Directive ℕ → List latch.Latch
latch_of (Latch input output control init) = record { input = input; output = output; controlled = is_some control; init = init } ∷ []
latch_of d = []

-- the parts that these directives list, in the order of the text
unfoldable pub parts : List Name → List (Block ℕ) → Parts
parts known blocks = record {
  nets = known;
  inputs = each inputs blocks;
  outputs = each outputs blocks;
  clock = slice_get (each clock_names blocks) 0;
  covers = flat_map (λ b. cover_of b.directive b.rows) blocks;
  latches = flat_map (λ b. latch_of b.directive) blocks;
}

-- the first refusal, where there is one
abbrev pub unless_refused : List Refusal → Parts → Result Parts Refusal
unless_refused [] p = Ok p
unless_refused (first ∷ more) p = Err first

unfoldable pub netlist_of_blocks : List Line → List Name → List (Block ℕ) → Result Parts Refusal
netlist_of_blocks lines known blocks = unless_refused (refusals lines blocks) (parts known blocks)

unfoldable pub netlist_of_lines : List Line → Result Parts Refusal
netlist_of_lines lines = netlist_of_blocks lines (nets (blocks lines)) (map (numbered (nets (blocks lines))) (blocks lines))

-- the netlist that these bytes spell, or its refusal
unfoldable pub netlist : List ℕ → Result Parts Refusal
netlist bytes = netlist_of_lines (up_to_end (net_lines bytes))
