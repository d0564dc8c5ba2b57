-- What is known of a part of the walk that passes.
use Rattle.std.proofs.Common.{◌≡◌, refl, ℕ, Option, Some, None, Ok, Err, subst}
use Rattle.typing_rules.specs.Checked.{Checked, ◌>>=◌, known, refuse}
use Rattle.typing_rules.specs.Laws.{Holds}

-- what it gives has the property
pub holds_at : {A : Type 0} (P : A → Type 0) (m : Checked A) (a : A) → Holds P m → m ≡ Ok a → P a
holds_at P (Ok b) a h e = let same : b ≡ a = cc in subst P same h
holds_at P (Err r) a h e = absurd cc

pub record Bound (A B : Type 0) (m : Checked A) (f : A → Checked B) (b : B) : Type 0 where
  pub value : A
  pub first : m ≡ Ok value
  pub rest : f value ≡ Ok b

-- where two parts pass, the first does
pub bound : {A B : Type 0} (m : Checked A) (f : A → Checked B) (b : B) → (m >>= f) ≡ Ok b → Bound A B m f b
unfolding ◌>>=◌
bound (Ok a) f b e = record { value = a; first = refl; rest = e }
bound (Err r) f b e = absurd cc

abbrev pub SomeHolds : {A : Type 0} → (A → Type 0) → Option A → Type 0
SomeHolds P None = Unit {0}
SomeHolds P (Some a) = P a

pub known_holds : {A : Type 0} (P : A → Type 0) (code line : ℕ) (o : Option A) → SomeHolds P o → Holds P (known code line o)
unfolding known refuse
known_holds P code line None h = tt
known_holds P code line (Some a) h = h

abbrev passed : {A : Type 0} → A → Checked A
passed a = Ok a

-- what passes is one thing
pub ok_same : {A : Type 0} (a b : A) → passed a ≡ Ok b → a ≡ b
ok_same a b e = cc
