-- What a part of the walk gives: its result, or the first refusal. The order of the walk is the order of the binds.
use Rattle.std.specs.Prelude.{ℕ, Bool, if◌then◌else◌, List, [], ◌∷◌, Option, Some, None, Result, Ok, Err}
use Rattle.vera_ast.specs.declared.refusal.Refusal.{Refusal}

abbrev pub Checked : Type 0 → Type 0
Checked A = Result A Refusal

infixl 10 ◌>>=◌
unfoldable pub ◌>>=◌ : {A B : Type 0} → Checked A → (A → Checked B) → Checked B
Ok a >>= f = f a
Err r >>= f = Err r

infixl 10 ◌>>◌
abbrev pub ◌>>◌ : {A B : Type 0} → Checked A → Checked B → Checked B
p >> q = p >>= (λ _. q)

unfoldable pub refuse : {A : Type 0} → ℕ → ℕ → Checked A
refuse code line = Err (record { code = code; line = line })

-- ---- the numbers of the rules

-- a name is unknown where it stands
abbrev pub unknown_name : ℕ
unknown_name = 30

-- a name is declared twice in one scope
abbrev pub declared_twice : ℕ
declared_twice = 31

-- a type doesn't fit
abbrev pub wrong_type : ℕ
wrong_type = 32

-- the number of arguments is wrong
abbrev pub wrong_count : ℕ
wrong_count = 33

-- what is to be assigned can't be
abbrev pub not_assignable : ℕ
not_assignable = 34

-- it stands in a function, or a call that may wait stands elsewhere than allowed
abbrev pub not_here : ℕ
not_here = 35

-- there is no program, or a second one
abbrev pub not_one_program : ℕ
not_one_program = 36

-- a signal is used against its direction or kind, or an interface is wrong
abbrev pub wrong_signal : ℕ
wrong_signal = 37

-- a limit is passed
abbrev pub past_limit : ℕ
past_limit = 39

-- ---- one part

-- a rule by its number, and whether it is broken here
abbrev pub Rule : Type 0
Rule = ℕ × Bool

-- the rules of the part that begins on this line, in the order of their numbers: the first broken one counts
unfoldable pub keeps : ℕ → List Rule → Checked (Unit {0})
keeps line [] = Ok tt
keeps line (rule ∷ rules) = if rule.1 then refuse rule.0 line else keeps line rules

-- the value, or the refusal where there is none
unfoldable pub known : {A : Type 0} → ℕ → ℕ → Option A → Checked A
known code line None = refuse code line
known code line (Some a) = Ok a

-- ---- several parts

-- one after the other
unfoldable pub each : {A B : Type 0} → (A → Checked B) → List A → Checked (List B)
each f [] = Ok []
each f (a ∷ more) = do
  b ← f a
  bs ← each f more
  Ok (b ∷ bs)

-- the part that may be missing
unfoldable pub perhaps : {A B : Type 0} → (A → Checked B) → Option A → Checked (Option B)
perhaps f None = Ok None
perhaps f (Some a) = do
  b ← f a
  Ok (Some b)
