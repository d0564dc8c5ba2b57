-- What is found word by word asks for what all items together ask for.
use Rattle.std.proofs.Common.{◌≡◌, ◌∙◌, ℕ, Bool, true, false, List, [], ◌∷◌, Option, Some, None, refl, ap}
use Rattle.std.specs.Prelude.{option_map, option_and_then, if◌then◌else◌}
use Rattle.run_rules.specs.declared.limits.Limits.{Limits}
use Rattle.run_words.specs.declared.modes.Mode.{Mode}
use Rattle.run_words.specs.declared.modes.OptionName.{OptionName}
use Rattle.run_words.specs.declared.modes.OptionName.TheVariants as options
use Rattle.run_words.specs.Words.{Request, Item, Name, Value, names, values, limits_from, request_for, request_named, request_from, number_for, takes, mode_named}
use Rattle.run_words.specs.Words as spec
use Rattle.run_words.specs.Progress.{Names, Nothing, OfMode, Testbench, WithNetlist, Found, found, nothing_found, add_all, first_number}
use Rattle.run_words.specs.Progress as progress

-- the number of an option, where it may have one already
abbrev limit_after : Mode → OptionName → Option ℕ → List (List ℕ) → Option ℕ
limit_after mode option None given = spec.limit mode option given
limit_after mode option (Some n) [] = progress.limit mode option (Some n)
limit_after mode option (Some n) (value ∷ more) = None

abbrev limits_after : Option ℕ → Option ℕ → Option ℕ → List Item → Mode → Option Limits
limits_after c b t items mode =
    limits_from (limit_after mode options.Cycles c (values options.Cycles items)) (limit_after mode options.Budget b (values options.Budget items))
    (limit_after mode options.Turns t (values options.Turns items))

-- the request of the names so far and those behind them
abbrev asked : Names → List (List ℕ) → (Mode → Option Limits) → Option Request
asked Nothing rest limits = request_named rest limits
asked (OfMode mode) rest limits = request_for mode rest (limits mode)
asked (Testbench mode testbench) rest limits = request_for mode (testbench ∷ rest) (limits mode)
asked (WithNetlist mode testbench netlist) rest limits = request_for mode (testbench ∷ netlist ∷ rest) (limits mode)

-- what these items ask for behind what was found
abbrev Finishes : Names → Option ℕ → Option ℕ → Option ℕ → List Item → Type 0
Finishes so_far c b t items = option_and_then progress.request (add_all (found so_far c b t) items) ≡ asked so_far (names items) (limits_after c b t items)

-- ---- limits

ends : (mode : Mode) (option : OptionName) (before : Option ℕ) → progress.limit mode option before ≡ limit_after mode option before []
ends mode option None = refl
ends mode option (Some n) = refl

limits_end : (mode : Mode) (c b t : Option ℕ) → limits_from (progress.limit mode options.Cycles c) (progress.limit mode options.Budget b) (progress.limit mode options.Turns t) ≡ limits_after c b t [] mode
limits_end mode c b t = rw (ends mode options.Cycles c, ends mode options.Budget b, ends mode options.Turns t) refl

no_budget : (c t : Option ℕ) → None ≡ limits_from c None t
no_budget None t = refl
no_budget (Some c) t = refl

no_turns : (c b : Option ℕ) → None ≡ limits_from c b None
no_turns None b = refl
no_turns (Some c) None = refl
no_turns (Some c) (Some b) = refl

-- one more value of an option: its number is held to what the mode takes at the end
once : (taken : Bool) (r : Option ℕ) → option_and_then (λ (n : ℕ). if taken then Some n else None) r ≡ (if taken then r else None)
once true None = refl
once true (Some n) = refl
once false None = refl
once false (Some n) = refl

never : (r : Option ℕ) → ◌≡◌ {A = Option ℕ} (option_and_then (λ (n : ℕ). None) r) None
never None = refl
never (Some n) = refl

given : (mode : Mode) (option : OptionName) (before : Option ℕ) (value : List ℕ) (more : List (List ℕ))
    → option_and_then (λ n. limit_after mode option (Some n) more) (first_number option before value) ≡ limit_after mode option before (value ∷ more)
given mode option None value [] = once (takes mode option) (number_for option value)
given mode option None value (second ∷ more) = never (number_for option value)
given mode option (Some n) value more = refl

-- ---- names

no_limits : (mode : Mode) (files : List (List ℕ)) → None ≡ request_for mode files None
no_limits mode [] = refl
no_limits mode (a ∷ []) = refl
no_limits mode (a ∷ b ∷ []) = refl
no_limits mode (a ∷ b ∷ c ∷ more) = refl

refused_for : (mode : Mode) (files : List (List ℕ)) (limits : Option Limits) → None ≡ limits → None ≡ request_for mode files limits
refused_for mode files limits none = no_limits mode files ∙ ap (λ l. request_for mode files l) none

refused_named : (o : Option Mode) (files : List (List ℕ)) (limits : Mode → Option Limits) → ((mode : Mode) → None ≡ limits mode) → None ≡ option_and_then (λ mode. request_for mode files (limits mode)) o
refused_named None files limits none = refl
refused_named (Some mode) files limits none = refused_for mode files (limits mode) (none mode)

-- no limits, so no request
refused : (so_far : Names) (rest : List (List ℕ)) (limits : Mode → Option Limits) → ((mode : Mode) → None ≡ limits mode) → None ≡ asked so_far rest limits
refused Nothing [] limits none = refl
refused Nothing (name ∷ files) limits none = refused_named (mode_named name) files limits none
refused (OfMode mode) rest limits none = refused_for mode rest (limits mode) (none mode)
refused (Testbench mode testbench) rest limits none = refused_for mode (testbench ∷ rest) (limits mode) (none mode)
refused (WithNetlist mode testbench netlist) rest limits none = refused_for mode (testbench ∷ netlist ∷ rest) (limits mode) (none mode)

same_named : (o : Option Mode) (files : List (List ℕ)) (limits others : Mode → Option Limits) → ((mode : Mode) → limits mode ≡ others mode) → option_and_then (λ mode. request_for mode files (limits mode)) o ≡ option_and_then (λ mode. request_for mode files (others mode)) o
same_named None files limits others same = refl
same_named (Some mode) files limits others same = ap (request_for mode files) (same mode)

-- the same limits, so the same request
same : (so_far : Names) (rest : List (List ℕ)) (limits others : Mode → Option Limits) → ((mode : Mode) → limits mode ≡ others mode) → asked so_far rest limits ≡ asked so_far rest others
same Nothing [] limits others e = refl
same Nothing (name ∷ files) limits others e = same_named (mode_named name) files limits others e
same (OfMode mode) rest limits others e = ap (request_for mode rest) (e mode)
same (Testbench mode testbench) rest limits others e = ap (request_for mode (testbench ∷ rest)) (e mode)
same (WithNetlist mode testbench netlist) rest limits others e = ap (request_for mode (testbench ∷ netlist ∷ rest)) (e mode)

-- the end of the items
at_the_end : (so_far : Names) (c b t : Option ℕ) → Finishes so_far c b t []
at_the_end Nothing c b t = refl
at_the_end (OfMode mode) c b t = refl
at_the_end (Testbench mode testbench) c b t = ap (λ l. option_map (spec.request mode testbench None) l) (limits_end mode c b t)
at_the_end (WithNetlist mode testbench netlist) c b t = ap (λ l. option_map (spec.request mode testbench (Some netlist)) l) (limits_end mode c b t)

-- the first name is the mode's
mode_next : (c b t : Option ℕ) (items : List Item) (o : Option Mode) → ((mode : Mode) → Finishes (OfMode mode) c b t items)
    → option_and_then progress.request (option_and_then (λ g. add_all g items) (option_map (λ all. found all c b t) (option_map OfMode o)))
    ≡ option_and_then (λ mode. request_for mode (names items) (limits_after c b t items mode)) o
mode_next c b t items None rest = refl
mode_next c b t items (Some mode) rest = rest mode

-- one more value: the number is found, or nothing is asked for
module _ (so_far : Names) (items : List Item) where
  cycles_next : (b t : Option ℕ) (r : Option ℕ) (limits : Mode → Option Limits)
      → ((mode : Mode) → limits_from (option_and_then (λ n. limit_after mode options.Cycles (Some n) (values options.Cycles items)) r) (limit_after mode options.Budget b (values options.Budget items)) (limit_after mode options.Turns t (values options.Turns items)) ≡ limits mode)
      → ((n : ℕ) → Finishes so_far (Some n) b t items)
      → option_and_then progress.request (option_and_then (λ g. add_all g items) (option_map (λ n. found so_far (Some n) b t) r)) ≡ asked so_far (names items) limits
  cycles_next b t None limits e rest = refused so_far (names items) limits (λ mode. e mode)
  cycles_next b t (Some n) limits e rest = rest n ∙ same so_far (names items) (limits_after (Some n) b t items) limits e

  budget_next : (c t : Option ℕ) (r : Option ℕ) (limits : Mode → Option Limits)
      → ((mode : Mode) → limits_from (limit_after mode options.Cycles c (values options.Cycles items)) (option_and_then (λ n. limit_after mode options.Budget (Some n) (values options.Budget items)) r) (limit_after mode options.Turns t (values options.Turns items)) ≡ limits mode)
      → ((n : ℕ) → Finishes so_far c (Some n) t items)
      → option_and_then progress.request (option_and_then (λ g. add_all g items) (option_map (λ n. found so_far c (Some n) t) r)) ≡ asked so_far (names items) limits
  budget_next c t None limits e rest =
      refused so_far (names items) limits (λ mode. no_budget (limit_after mode options.Cycles c (values options.Cycles items)) (limit_after mode options.Turns t (values options.Turns items)) ∙ e mode)
  budget_next c t (Some n) limits e rest = rest n ∙ same so_far (names items) (limits_after c (Some n) t items) limits e

  turns_next : (c b : Option ℕ) (r : Option ℕ) (limits : Mode → Option Limits)
      → ((mode : Mode) → limits_from (limit_after mode options.Cycles c (values options.Cycles items)) (limit_after mode options.Budget b (values options.Budget items)) (option_and_then (λ n. limit_after mode options.Turns (Some n) (values options.Turns items)) r) ≡ limits mode)
      → ((n : ℕ) → Finishes so_far c b (Some n) items)
      → option_and_then progress.request (option_and_then (λ g. add_all g items) (option_map (λ n. found so_far c b (Some n)) r)) ≡ asked so_far (names items) limits
  turns_next c b None limits e rest =
      refused so_far (names items) limits (λ mode. no_turns (limit_after mode options.Cycles c (values options.Cycles items)) (limit_after mode options.Budget b (values options.Budget items)) ∙ e mode)
  turns_next c b (Some n) limits e rest = rest n ∙ same so_far (names items) (limits_after c b (Some n) items) limits e

finishes : (so_far : Names) (c b t : Option ℕ) (items : List Item) → Finishes so_far c b t items
finishes so_far c b t [] = at_the_end so_far c b t
finishes Nothing c b t (Name name ∷ items) = mode_next c b t items (mode_named name) (λ mode. finishes (OfMode mode) c b t items)
finishes (OfMode mode) c b t (Name name ∷ items) = finishes (Testbench mode name) c b t items
finishes (Testbench mode testbench) c b t (Name name ∷ items) = finishes (WithNetlist mode testbench name) c b t items
finishes (WithNetlist mode testbench netlist) c b t (Name name ∷ items) = refl
finishes so_far c b t (Value options.Cycles value ∷ items) =
    cycles_next so_far items b t (first_number options.Cycles c value) (limits_after c b t (Value options.Cycles value ∷ items))
    (λ mode. ap (λ l. limits_from l (limit_after mode options.Budget b (values options.Budget items)) (limit_after mode options.Turns t (values options.Turns items))) (given mode options.Cycles c value (values options.Cycles items)))
    (λ n. finishes so_far (Some n) b t items)
finishes so_far c b t (Value options.Budget value ∷ items) =
    budget_next so_far items c t (first_number options.Budget b value) (limits_after c b t (Value options.Budget value ∷ items))
    (λ mode. ap (λ l. limits_from (limit_after mode options.Cycles c (values options.Cycles items)) l (limit_after mode options.Turns t (values options.Turns items))) (given mode options.Budget b value (values options.Budget items)))
    (λ n. finishes so_far c (Some n) t items)
finishes so_far c b t (Value options.Turns value ∷ items) =
    turns_next so_far items c b (first_number options.Turns t value) (limits_after c b t (Value options.Turns value ∷ items))
    (λ mode. ap (λ l. limits_from (limit_after mode options.Cycles c (values options.Cycles items)) (limit_after mode options.Budget b (values options.Budget items)) l) (given mode options.Turns t value (values options.Turns items)))
    (λ n. finishes so_far c b (Some n) items)

joined : (items : Option (List Item)) (f : Option Found) → f ≡ option_and_then (add_all nothing_found) items → option_and_then progress.request f ≡ option_and_then request_from items
joined None f is = ap (option_and_then progress.request) is
joined (Some items) f is = ap (option_and_then progress.request) is ∙ finishes Nothing None None None items

pub asks : (items : Option (List Item)) (f : Found) → Some f ≡ option_and_then (add_all nothing_found) items → progress.request f ≡ option_and_then request_from items
asks items f is = joined items (Some f) is

pub asks_nothing : (items : Option (List Item)) → None ≡ option_and_then (add_all nothing_found) items → None ≡ option_and_then request_from items
asks_nothing items is = joined items None is
