-- What the reader of the words has found so far.
use Rattle.std.specs.Prelude.{ℕ, List, [], ◌∷◌, Option, Some, None, option_map, option_and_then, if◌then◌else◌}
use Rattle.run_rules.specs.declared.limits.Limits.{Limits}
use Rattle.run_words.specs.declared.modes.Mode.{Mode}
use Rattle.run_words.specs.declared.modes.OptionName.{OptionName}
use Rattle.run_words.specs.declared.modes.OptionName.TheVariants as options
use Rattle.run_words.specs.Words.{Request, Item, Name, Value, mode_named, number_for, takes, usual, limits_from}
use Rattle.run_words.specs.Words as spec

-- the names so far: the mode, and then the files
pub data Names : Type 0 where
  Nothing : Names
  OfMode : Mode → Names
  Testbench : Mode → List ℕ → Names
  WithNetlist : Mode → List ℕ → List ℕ → Names

pub record Found : Type 0 where
  pub names : Names
  pub cycles : Option ℕ
  pub budget : Option ℕ
  pub turns : Option ℕ

abbrev pub found : Names → Option ℕ → Option ℕ → Option ℕ → Found
found names cycles budget turns = record { names = names; cycles = cycles; budget = budget; turns = turns }

abbrev pub nothing_found : Found
nothing_found = found Nothing None None None

abbrev pub one_more : Names → List ℕ → Option Names
one_more Nothing name = option_map OfMode (mode_named name)
one_more (OfMode mode) name = Some (Testbench mode name)
one_more (Testbench mode testbench) name = Some (WithNetlist mode testbench name)
one_more (WithNetlist mode testbench netlist) name = None

abbrev pub with_name : Found → List ℕ → Option Found
with_name f name = option_map (λ names. found names f.cycles f.budget f.turns) (one_more f.names name)

abbrev pub first_number : OptionName → Option ℕ → List ℕ → Option ℕ
first_number option None value = number_for option value
first_number option (Some n) value = None

abbrev pub with_option : Found → OptionName → List ℕ → Option Found
with_option f options.Cycles value = option_map (λ n. found f.names (Some n) f.budget f.turns) (first_number options.Cycles f.cycles value)
with_option f options.Budget value = option_map (λ n. found f.names f.cycles (Some n) f.turns) (first_number options.Budget f.budget value)
with_option f options.Turns value = option_map (λ n. found f.names f.cycles f.budget (Some n)) (first_number options.Turns f.turns value)

abbrev pub add : Found → Item → Option Found
add f (Name name) = with_name f name
add f (Value option value) = with_option f option value

abbrev pub add_all : Found → List Item → Option Found
add_all f [] = Some f
add_all f (item ∷ items) = option_and_then (λ g. add_all g items) (add f item)

-- the number of an option in a mode, which has to take it where it was given
abbrev pub limit : Mode → OptionName → Option ℕ → Option ℕ
limit mode option None = Some (usual option)
limit mode option (Some n) = if takes mode option then Some n else None

abbrev pub limits : Mode → Found → Option Limits
limits mode f = limits_from (limit mode options.Cycles f.cycles) (limit mode options.Budget f.budget) (limit mode options.Turns f.turns)

abbrev pub request_by : Names → (Mode → Option Limits) → Option Request
request_by Nothing limits = None
request_by (OfMode mode) limits = None
request_by (Testbench mode testbench) limits = option_map (spec.request mode testbench None) (limits mode)
request_by (WithNetlist mode testbench netlist) limits = option_map (spec.request mode testbench (Some netlist)) (limits mode)

abbrev pub request : Found → Option Request
request f = request_by f.names (λ mode. limits mode f)
