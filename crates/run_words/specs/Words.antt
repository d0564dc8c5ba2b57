-- What the words of the command ask for. The words are those behind the program's name: a mode and then files, with
-- options anywhere.
use Rattle.std.specs.Prelude.{ℕ, Bool, true, false, not, ◌&&◌, ◌==◌, nat_le, nat_lt, List, [], ◌∷◌, length, Option, Some, None, option_map, option_and_then, unwrap_or, codes, if◌then◌else◌}
use Rattle.std.specs.List.{position_or_len, before_first, after_first}
use Rattle.std.specs.Str.{bytes_eq, all_ascii_digits}
use Rattle.std.specs.Str.Parse.{digits_value}
use Rattle.run_words.specs.declared.modes.Mode.{Mode}
use Rattle.run_words.specs.declared.modes.Mode.TheVariants as modes
use Rattle.run_words.specs.declared.modes.OptionName.{OptionName}
use Rattle.run_words.specs.declared.modes.OptionName.TheVariants as options
use Rattle.run_rules.specs.declared.limits.Limits.{Limits}

-- what is to be done, with which files, and how far a run may go
pub record Request : Type 0 where
  pub mode : Mode
  -- the files' names
  pub testbench : List ℕ
  pub netlist : Option (List ℕ)
  pub limits : Limits

-- ---- one word

-- the word begins with a dash
abbrev pub begins_with_dash : List ℕ → Bool
begins_with_dash [] = false
begins_with_dash (b ∷ bytes) = b == 45

-- 1 to 255 bytes, of which the first is no dash
abbrev pub is_file_name : List ℕ → Bool
is_file_name word = nat_le 1 (length word) && nat_le (length word) 255 && not (begins_with_dash word)

abbrev pub mode_named : List ℕ → Option Mode
mode_named word =
    if bytes_eq word (codes "check") then Some modes.Check
    else (if bytes_eq word (codes "plain") then Some modes.Plain else None)

abbrev pub option_named : List ℕ → Option OptionName
option_named word =
    if bytes_eq word (codes "--cycles") then Some options.Cycles
    else (if bytes_eq word (codes "--budget") then Some options.Budget
    else (if bytes_eq word (codes "--turns") then Some options.Turns else None))

-- what a word is by itself
pub data Word : Type 0 where
  -- `--`, which ends the options
  End : Word
  -- `--name`, whose value is the word behind it
  Named : OptionName → Word
  -- `--name=value`
  Set : OptionName → List ℕ → Word
  -- the mode, or a file's name
  Operand : List ℕ → Word
  -- it stands nowhere but behind `--name`, as its value
  Other : Word

abbrev pub named : List ℕ → Option Word
named word = option_map Named (option_named word)

abbrev pub set : List ℕ → List ℕ → Option Word
set name value = option_map (λ option. Set option value) (option_named name)

abbrev pub is_equals : ℕ → Bool
is_equals b = b == 61

-- `--name=value` up to its first `=`, or `--name`
abbrev pub option_in : List ℕ → Option Word
option_in word =
    if nat_lt (position_or_len is_equals word) (length word) then set (before_first is_equals word) (after_first is_equals word)
    else named word

abbrev pub word_of : List ℕ → Word
word_of word =
    if bytes_eq word (codes "--") then End
    else unwrap_or (option_in word) (if is_file_name word then Operand word else Other)

-- ---- the words one after the other: names, and options with their values

pub data Item : Type 0 where
  Name : List ℕ → Item
  Value : OptionName → List ℕ → Item

-- an item in front of others
abbrev pub and_items : Item → Option (List Item) → Option (List Item)
and_items item items = option_map (λ rest. item ∷ rest) items

-- behind `--` each word is a name
abbrev pub names_alone : List (List ℕ) → Option (List Item)
names_alone [] = Some []
names_alone (word ∷ words) = if is_file_name word then and_items (Name word) (names_alone words) else None

-- the items from a word on: `behind` are those of the words behind it, and `valued` are all of them where the word next
-- to it is the value of an option
abbrev pub items_at : Word → List (List ℕ) → Option (List Item) → (OptionName → Option (List Item)) → Option (List Item)
items_at End words behind valued = names_alone words
items_at (Named option) words behind valued = valued option
items_at (Set option value) words behind valued = and_items (Value option value) behind
items_at (Operand name) words behind valued = and_items (Name name) behind
items_at Other words behind valued = None

abbrev mutual
  pub items_of : List (List ℕ) → Option (List Item)
  items_of [] = Some []
  items_of (word ∷ words) = items_at (word_of word) words (items_of words) (λ option. items_valued option words)

  -- the first word is the value of an option
  pub items_valued : OptionName → List (List ℕ) → Option (List Item)
  items_valued option [] = None
  items_valued option (value ∷ words) = and_items (Value option value) (items_of words)

-- ---- what the items ask for

-- the mode and the files
abbrev pub names : List Item → List (List ℕ)
names [] = []
names (Name name ∷ items) = name ∷ names items
names (Value option value ∷ items) = names items

abbrev pub is_same : OptionName → OptionName → Bool
is_same options.Cycles options.Cycles = true
is_same options.Budget options.Budget = true
is_same options.Turns options.Turns = true
is_same _ _ = false

-- all that is given to an option
abbrev pub values : OptionName → List Item → List (List ℕ)
values option [] = []
values option (Name name ∷ items) = values option items
values option (Value other value ∷ items) = if is_same option other then value ∷ values option items else values option items

-- the number of one to ten decimal digits
abbrev pub number_of : List ℕ → Option ℕ
number_of word =
    if nat_le 1 (length word) && nat_le (length word) 10 && all_ascii_digits word then Some (digits_value 10 word) else None

-- the numbers that an option takes, and the one that counts where it isn't given
abbrev pub least : OptionName → ℕ
least options.Cycles = 0
least options.Budget = 1
least options.Turns = 1

abbrev pub most : OptionName → ℕ
most options.Cycles = 1000000
most options.Budget = 1000000000
most options.Turns = 1000000000

abbrev pub usual : OptionName → ℕ
usual options.Cycles = 1000
usual options.Budget = 1000000
usual options.Turns = 1000000

abbrev pub in_range : OptionName → ℕ → Option ℕ
in_range option n = if nat_le (least option) n && nat_le n (most option) then Some n else None

abbrev pub number_for : OptionName → List ℕ → Option ℕ
number_for option word = option_and_then (in_range option) (number_of word)

-- which options a mode takes
abbrev pub takes : Mode → OptionName → Bool
takes modes.Check option = false
takes modes.Plain option = true

-- the number of an option by all that is given to it: it stands at most once
abbrev pub limit : Mode → OptionName → List (List ℕ) → Option ℕ
limit mode option [] = Some (usual option)
limit mode option (value ∷ []) = if takes mode option then number_for option value else None
limit mode option (value ∷ second ∷ more) = None

abbrev pub limits_from : Option ℕ → Option ℕ → Option ℕ → Option Limits
limits_from (Some cycles) (Some budget) (Some turns) = Some (record { cycles = cycles; budget = budget; turns = turns })
limits_from _ _ _ = None

abbrev pub limits_of : Mode → List Item → Option Limits
limits_of mode items =
    limits_from (limit mode options.Cycles (values options.Cycles items)) (limit mode options.Budget (values options.Budget items))
    (limit mode options.Turns (values options.Turns items))

abbrev pub request : Mode → List ℕ → Option (List ℕ) → Limits → Request
request mode testbench netlist limits = record { mode = mode; testbench = testbench; netlist = netlist; limits = limits }

-- a testbench, or a testbench and a netlist
abbrev pub request_for : Mode → List (List ℕ) → Option Limits → Option Request
request_for mode (testbench ∷ []) limits = option_map (request mode testbench None) limits
request_for mode (testbench ∷ netlist ∷ []) limits = option_map (request mode testbench (Some netlist)) limits
request_for mode _ limits = None

-- the first name is the mode, and the others are files
abbrev pub request_named : List (List ℕ) → (Mode → Option Limits) → Option Request
request_named [] limits = None
request_named (name ∷ files) limits = option_and_then (λ mode. request_for mode files (limits mode)) (mode_named name)

abbrev pub request_from : List Item → Option Request
request_from items = request_named (names items) (λ mode. limits_of mode items)

abbrev pub request_of : List (List ℕ) → Option Request
request_of words = option_and_then request_from (items_of words)
