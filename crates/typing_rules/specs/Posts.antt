-- What a `post` stands for: names, and what a suffix makes of what stands before it.
use Rattle.std.specs.Prelude.{ℕ, not, ◌-◌, suc, nat_lt, Bool, true, false, if◌then◌else◌, List, [], ◌∷◌, length, slice_get, Option, Some, None, codes, Ok}
use Rattle.std.specs.Option.{option_and_then}
use Rattle.std.specs.Str.{bytes_eq}
use Rattle.vera_ast.specs.Types.{one}
use Rattle.vera_ast.specs.declared.tree.interfaces.Direction.{Direction}
use Rattle.vera_ast.specs.declared.typed.expr.TypedExpr.{TypedExpr}
use Rattle.vera_ast.specs.declared.typed.expr.TypedExpr.TheVariants as e
use Rattle.vera_ast.specs.declared.typed.place.TypedArray.TheVariants as array
use Rattle.vera_ast.specs.declared.typed.types.ValueType.{ValueType}
use Rattle.vera_ast.specs.declared.typed.types.ValueType.TheVariants as t
use Rattle.vera_ast.specs.declared.typed.types.VariableType.TheVariants as variable
use Rattle.vera_ast.specs.declared.typed.types.Width.{Width}
use Rattle.typing_rules.specs.Arguments.{is_str}
use Rattle.typing_rules.specs.Checked.{Checked, ◌>>=◌, ◌>>◌, refuse, keeps, known, unknown_name, wrong_type, wrong_signal, past_limit}
use Rattle.typing_rules.specs.Heads.{typed, value_of, whole_type, read, cut_of, cut_type, is_output}
use Rattle.typing_rules.specs.Scopes.{Name, meaning_of, callee_of}
use Rattle.typing_rules.specs.Types.{is_vector, width_from}
use Rattle.typing_rules.specs.Words.{built_in, mode}
use Rattle.typing_rules.specs.declared.context.Context.{Context}
use Rattle.typing_rules.specs.declared.head.Cut.{Cut}
use Rattle.typing_rules.specs.declared.head.Cut.TheVariants as cut
use Rattle.typing_rules.specs.declared.head.Head.{Head}
use Rattle.typing_rules.specs.declared.head.Head.TheVariants as h
use Rattle.typing_rules.specs.declared.head.Stand.{Stand}
use Rattle.typing_rules.specs.declared.head.Stand.TheVariants as stand
use Rattle.typing_rules.specs.declared.head.Typed.{Typed}
use Rattle.typing_rules.specs.declared.head.Whole.TheVariants as w
use Rattle.typing_rules.specs.declared.names.KnownSignal.{KnownSignal}
use Rattle.typing_rules.specs.declared.names.Meaning.{Meaning}
use Rattle.typing_rules.specs.declared.names.Meaning.TheVariants as means
use Rattle.typing_rules.specs.declared.words.BuiltIn.{BuiltIn}
use Rattle.typing_rules.specs.declared.words.Mode.{Mode}

-- ---- prim: names

abbrev pub named : Meaning → Head
named (means.Variable place (variable.Value of)) = h.Whole (w.Variable (record { place = place; of = of }))
named (means.Variable place (variable.Array of length)) = h.Array (array.Variable place) length of
named (means.Result v) = h.Whole (w.Variable v)
named (means.EnumName name) = h.Value (typed (e.EnumName name) (t.Enumeration name.enumeration))
named other = h.Named other

abbrev pub word_or_name : Option BuiltIn → Option Mode → ℕ → Option Meaning → Checked Head
word_or_name (Some b) _ line found = Ok (h.Word b)
word_or_name None (Some m) line found = Ok (h.Mode m)
word_or_name None None line found = known unknown_name line found >>= (λ meaning. Ok (named meaning))

-- a name, by whether arguments follow it
unfoldable pub name : Context → Bool → ℕ → Name → Checked Head
name c is_callee line word =
    word_or_name (built_in word) (mode word) line (if is_callee then callee_of c.scopes word else meaning_of c.scopes word)

-- ---- post: `.` name

abbrev pub signal_named : List KnownSignal → Name → Option KnownSignal
signal_named [] word = None
signal_named (s ∷ ss) word = if bytes_eq s.name word then Some s else signal_named ss word

abbrev pub signal_of : Context → ℕ → Name → Option KnownSignal
signal_of c n word = option_and_then (λ signals. signal_named signals word) (slice_get c.outline.interfaces n)

abbrev pub signal_head : KnownSignal → Head
signal_head s = h.Signal s.is s.direction

-- the string that a head is
abbrev pub str_of : Typed → Option TypedExpr
str_of x = if is_str x.of then Some x.expr else None

abbrev pub str_in : Head → Option TypedExpr
str_in (h.Str s) = Some (e.Str s)
str_in (h.Value x) = str_of x
str_in (h.Whole x) = str_of (typed (read x) (whole_type x))
str_in _ = None

abbrev pub length_of : ℕ → Name → Option TypedExpr → Checked Head
length_of line word None = refuse wrong_type line
length_of line word (Some x) = if bytes_eq word (codes "len") then Ok (h.Length x) else refuse wrong_type line

-- a signal of an interface, or the length of a string
unfoldable pub member : Context → ℕ → Head → Name → Checked Head
member c line (h.Named (means.Interface n)) word = known unknown_name line (signal_of c n word) >>= (λ s. Ok (signal_head s))
member c line head word = length_of line word (str_in head)

-- ---- post: `[` index `]` and `[` high `:` low `]`

-- bits of a value that is no place, of bits, or of a name of an enumeration are a value
abbrev pub value_cut : ℕ → Typed → Cut → Checked Head
value_cut line x c = keeps line ((wrong_type, not (is_vector x.of)) ∷ []) >> Ok (h.Value (typed (cut_of x.expr c) (t.Vector (cut_type c))))

abbrev pub is_plain_vector : ValueType → Bool
is_plain_vector (t.Vector v) = true
is_plain_vector _ = false

-- an output is read, unless a place is taken
abbrev pub reads_output : Stand → Direction → Bool
reads_output stand.Place d = false
reads_output _ d = is_output d

-- the value that bits are taken of: bits of a signal whose bits are taken as a place aren't read
abbrev pub value_in : Stand → ℕ → Head → Checked Typed
value_in s line (h.SignalPart signal d c) = keeps line ((wrong_signal, reads_output s d) ∷ []) >> Ok (typed (cut_of (e.Sample signal) c) (t.Vector (cut_type c)))
value_in s line head = value_of line head

unfoldable pub cut_head : Stand → ℕ → Head → Cut → Checked Head
cut_head s line (h.Whole x) c = if is_plain_vector (whole_type x) then Ok (h.Part x c) else value_cut line (typed (read x) (whole_type x)) c
cut_head s line (h.Signal signal d) c = Ok (h.SignalPart signal d c)
cut_head s line head c = value_in s line head >>= (λ x. value_cut line x c)

abbrev pub indexed : Stand → ℕ → Head → TypedExpr → Checked Head
indexed s line (h.Array of_elements length of) i = Ok (h.Whole (w.Element (record { array = of_elements; length = length; index = i; of = of })))
indexed s line head i = cut_head s line head (cut.Bit i)

unfoldable pub index : Stand → ℕ → Head → Typed → Checked Head
index s line head i = keeps line ((wrong_type, not (is_vector i.of)) ∷ []) >> indexed s line head i.expr

abbrev pub range_cut : ℕ → Width → Cut
range_cut low width = cut.Bits (record { low = low; width = width })

-- the rule that too many bits break first: an output isn't read
abbrev pub too_wide : Stand → Head → ℕ
too_wide s (h.Signal signal d) = if reads_output s d then wrong_signal else past_limit
too_wide s _ = past_limit

-- the rules of the bits' order and of what they are bits of come before that of their number
unfoldable pub bits : Stand → ℕ → Head → ℕ → ℕ → Checked Head
bits s line head high low = do
  keeps line ((wrong_type, nat_lt high low) ∷ [])
  cut_head s line head (range_cut low one)
  width ← known (too_wide s head) line (width_from (suc (high - low)))
  cut_head s line head (range_cut low width)
