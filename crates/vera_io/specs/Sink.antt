-- What a sink has taken, where it tells it.
use Rattle.std.specs.Prelude.{◌≡◌, ℕ, ◌<◌, List, ◌++◌, length, take, Option, None, Some, refl}
use Rattle.std.proofs.Common.{ap, append_assoc}
use Rattle.std.specs.Option.{option_map}

-- the bytes taken, and these behind them; where a sink doesn't tell, it still doesn't
abbrev pub taken_more : Option (List ℕ) → List ℕ → Option (List ℕ)
taken_more taken more = option_map (λ bytes. bytes ++ more) taken

-- what is taken in two parts is taken in one
pub taken_more-append : (taken : Option (List ℕ)) (xs ys : List ℕ) → taken_more (taken_more taken xs) ys ≡ taken_more taken (xs ++ ys)
taken_more-append None xs ys = refl
taken_more-append (Some zs) xs ys = ap Some (append_assoc zs xs ys)

-- bytes from the front of these were taken, but not all of them
abbrev pub TookPart : Option (List ℕ) → Option (List ℕ) → List ℕ → Type 0
TookPart old new bytes = (k : ℕ) × (k < length bytes) × (new ≡ taken_more old (take k bytes))
