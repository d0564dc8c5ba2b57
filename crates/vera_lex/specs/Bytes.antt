-- The kinds of bytes in a testbench, and runs of them.
use Rattle.std.specs.Prelude.{ℕ, suc, ◌==◌, ◌||◌, ◌&&◌, nat_le, Bool, true, false, List, [], ◌∷◌, if◌then◌else◌}

-- a tab, a newline, a return or a space
abbrev pub is_blank : ℕ → Bool
is_blank b = b == 9 || b == 10 || b == 13 || b == 32

-- a blank that ends no line
abbrev pub is_space : ℕ → Bool
is_space b = b == 9 || b == 13 || b == 32

abbrev pub is_digit : ℕ → Bool
is_digit b = nat_le 48 b && nat_le b 57

abbrev pub is_letter : ℕ → Bool
is_letter b = (nat_le 65 b && nat_le b 90) || (nat_le 97 b && nat_le b 122)

-- a word begins with a letter or `_`
abbrev pub opens_word : ℕ → Bool
opens_word b = is_letter b || b == 95

-- letters, digits and `_`
abbrev pub in_word : ℕ → Bool
in_word b = opens_word b || is_digit b

-- digits and `_`
abbrev pub in_decimal : ℕ → Bool
in_decimal b = is_digit b || b == 95

-- `b`, `o`, `d` or `h`, in either case
abbrev pub is_base : ℕ → Bool
is_base b = b == 98 || b == 66 || b == 111 || b == 79 || b == 100 || b == 68 || b == 104 || b == 72

-- a string stands on one line
abbrev pub ends_line : ℕ → Bool
ends_line b = b == 10 || b == 13

-- what may follow a `\`: `n`, `t`, `\` or `"`
abbrev pub is_escaped : ℕ → Bool
is_escaped b = b == 110 || b == 116 || b == 92 || b == 34

-- every byte is one of these
abbrev pub all : (ℕ → Bool) → List ℕ → Bool
all p [] = true
all p (b ∷ bs) = p b && all p bs

-- there is a first byte, and it is one of the first kind; all others are of the second
abbrev pub led : (ℕ → Bool) → (ℕ → Bool) → List ℕ → Bool
led p q [] = false
led p q (b ∷ bs) = p b && all q bs

-- how many bytes of a kind the text begins with
abbrev pub run : (ℕ → Bool) → List ℕ → ℕ
run p [] = 0
run p (b ∷ bs) = if p b then suc (run p bs) else 0
