-- What the words ask for is in range.
use Rattle.std.proofs.Common.{◌≡◌, ℕ, Bool, true, false, List, [], ◌∷◌, Option, Some, None, refl, sym, subst, arith}
use Rattle.std.specs.Prelude.{IfSome, option_and_then, option_map, if◌then◌else◌}
use Rattle.std.proofs.lemmas.Bool.Decides.{nat_tests}
use Rattle.run_rules.specs.declared.limits.Limits.{Limits}
use Rattle.run_words.specs.declared.modes.Mode.{Mode}
use Rattle.run_words.specs.declared.modes.OptionName.{OptionName}
use Rattle.run_words.specs.declared.modes.OptionName.TheVariants as options
use Rattle.run_words.specs.declared.reading.Request.{Request as Asked}
use Rattle.run_words.specs.Ranges.{IsTaken, AreTaken}
use Rattle.run_words.specs.Views.{seen_request}
use Rattle.run_words.specs.Words.{Request, Item, values, number_for, number_of, in_range, takes, usual, limit, limits_from, limits_of, request_for, request_named, request_from, names, mode_named}

-- what comes of two steps, by what came of the first
and_then_some : {A B : Type 0} (f : A → Option B) (o : Option A) (b : B) → option_and_then f o ≡ Some b → (a : A) × (f a ≡ Some b)
and_then_some f None b e = absurd cc
and_then_some f (Some a) b e = (a, e)

usual_taken : (option : OptionName) → IsTaken option (usual option)
usual_taken options.Cycles = (omega arith, omega arith)
usual_taken options.Budget = (omega arith, omega arith)
usual_taken options.Turns = (omega arith, omega arith)

in_range_taken : (option : OptionName) (m n : ℕ) → in_range option m ≡ Some n → IsTaken option n
in_range_taken option m n e = grind (arith, nat_tests)

value_taken : (taken : Bool) (option : OptionName) (value : List ℕ) (n : ℕ) → (if taken then number_for option value else None) ≡ Some n → IsTaken option n
value_taken true option value n e = let r = and_then_some (in_range option) (number_of value) n e in in_range_taken option r.0 n r.1
value_taken false option value n e = absurd cc

limit_taken : (mode : Mode) (option : OptionName) (given : List (List ℕ)) (n : ℕ) → limit mode option given ≡ Some n → IsTaken option n
limit_taken mode option [] n e = let same : usual option ≡ n = cc in subst (IsTaken option) same (usual_taken option)
limit_taken mode option (value ∷ []) n e = value_taken (takes mode option) option value n e
limit_taken mode option (value ∷ second ∷ more) n e = absurd cc

from_taken : (mode : Mode) (c b t : List (List ℕ)) (x y z : Option ℕ) (limits : Limits) → limit mode options.Cycles c ≡ x → limit mode options.Budget b ≡ y → limit mode options.Turns t ≡ z → limits_from x y z ≡ Some limits → AreTaken limits
from_taken mode c b t (Some x) (Some y) (Some z) limits ex ey ez e =
    let same : record { cycles = x; budget = y; turns = z } ≡ limits = cc in
    subst AreTaken same (record { cycles = limit_taken mode options.Cycles c x ex; budget = limit_taken mode options.Budget b y ey; turns = limit_taken mode options.Turns t z ez })
from_taken mode c b t None y z limits ex ey ez e = absurd cc
from_taken mode c b t (Some x) None z limits ex ey ez e = absurd cc
from_taken mode c b t (Some x) (Some y) None limits ex ey ez e = absurd cc

limits_taken : (mode : Mode) (items : List Item) (limits : Limits) → limits_of mode items ≡ Some limits → AreTaken limits
limits_taken mode items limits e = from_taken mode (values options.Cycles items) (values options.Budget items) (values options.Turns items) _ _ _ limits refl refl refl e

for_limits : (mode : Mode) (files : List (List ℕ)) (limits : Option Limits) (r : Request) → request_for mode files limits ≡ Some r → limits ≡ Some r.limits
for_limits mode [] limits r e = absurd cc
for_limits mode (a ∷ []) None r e = absurd cc
for_limits mode (a ∷ []) (Some l) r e = cc
for_limits mode (a ∷ b ∷ []) None r e = absurd cc
for_limits mode (a ∷ b ∷ []) (Some l) r e = cc
for_limits mode (a ∷ b ∷ c ∷ more) limits r e = absurd cc

named_taken : (all : List (List ℕ)) (items : List Item) (r : Request) → request_named all (λ mode. limits_of mode items) ≡ Some r → AreTaken r.limits
named_taken [] items r e = absurd cc
named_taken (name ∷ files) items r e =
    let m = and_then_some (λ mode. request_for mode files (limits_of mode items)) (mode_named name) r e in
    limits_taken m.0 items r.limits (for_limits m.0 files (limits_of m.0 items) r m.1)

pub asked_taken : (items : Option (List Item)) (asked : Option Asked) → option_map seen_request asked ≡ option_and_then request_from items → IfSome asked (λ request. AreTaken request.limits)
asked_taken items None e = tt
asked_taken items (Some a) e =
    let i = and_then_some request_from items (seen_request a) (sym e) in
    named_taken (names i.0) i.0 (seen_request a) i.1
