-- What a `post` stands for, step by step, as the code takes it.
use Rattle.std.proofs.Common.{◌≡◌, ◌≢◌, ℕ, suc, ◌-◌, ◌<◌, ◌≤◌, Bool, true, false, List, [], ◌∷◌, Option, Some, None, refl, ap, ◌∙◌, arith}
use Rattle.std.specs.Prelude.{not, if◌then◌else◌, nat_lt, Ok, Err}
use Rattle.std.proofs.lemmas.Bool.{lt-ltb, lt-leb}
use Rattle.vera_ast.specs.Types.{one}
use Rattle.vera_ast.specs.declared.refusal.FrontError.{FrontError}
use Rattle.vera_ast.specs.declared.typed.types.Width.{Width}
use Rattle.vera_names.proofs.Answering.{ok_then, passed_on, refused_by, passed_by, known_some, known_none}
use Rattle.vera_values.specs.Steps.{wide_cut}
use Rattle.typing_rules.specs.Answers.{Answers}
use Rattle.typing_rules.specs.Checked.{Checked, ◌>>=◌, ◌>>◌, keeps, known}
use Rattle.typing_rules.specs.Heads.{typed, whole_type, read}
use Rattle.typing_rules.specs.Posts.{named, word_or_name, name, signal_of, signal_head, str_in, length_of, member, value_cut, is_plain_vector, value_in, cut_head, range_cut, too_wide, bits}
use Rattle.typing_rules.specs.Scopes.{Name, meaning_of, callee_of}
use Rattle.typing_rules.specs.Types.{is_vector, width_from}
use Rattle.typing_rules.specs.Words.{built_in, mode}
use Rattle.typing_rules.specs.declared.context.Context.{Context}
use Rattle.typing_rules.specs.declared.head.Cut.{Cut}
use Rattle.typing_rules.specs.declared.head.Head.{Head}
use Rattle.typing_rules.specs.declared.head.Head.TheVariants as h
use Rattle.typing_rules.specs.declared.head.Stand.{Stand}
use Rattle.typing_rules.specs.declared.head.Typed.{Typed}
use Rattle.typing_rules.specs.declared.head.Whole.{Whole}
use Rattle.typing_rules.specs.declared.names.KnownSignal.{KnownSignal}
use Rattle.typing_rules.specs.declared.names.Meaning.{Meaning}
use Rattle.typing_rules.specs.declared.names.Meaning.TheVariants as means
use Rattle.typing_rules.specs.declared.words.BuiltIn.{BuiltIn}
use Rattle.typing_rules.specs.declared.words.Mode.{Mode}

-- ---- names

pub name_word : (c : Context) (is_callee : Bool) (line : ℕ) (word : Name) (b : BuiltIn) → built_in word ≡ Some b → name c is_callee line word ≡ Ok (h.Word b)
unfolding name
name_word c is_callee line word b e = ap (λ (o : Option BuiltIn). word_or_name o (mode word) line (if is_callee then callee_of c.scopes word else meaning_of c.scopes word)) e

pub name_mode : (c : Context) (is_callee : Bool) (line : ℕ) (word : Name) (m : Mode) → built_in word ≡ None → mode word ≡ Some m → name c is_callee line word ≡ Ok (h.Mode m)
unfolding name
name_mode c is_callee line word m e o =
    ap (λ (q : Option BuiltIn). word_or_name q (mode word) line (if is_callee then callee_of c.scopes word else meaning_of c.scopes word)) e
    ∙ ap (λ (q : Option Mode). word_or_name None q line (if is_callee then callee_of c.scopes word else meaning_of c.scopes word)) o

name_meant : (c : Context) (is_callee : Bool) (line : ℕ) (word : Name) → built_in word ≡ None → mode word ≡ None
    → name c is_callee line word ≡ (known 30 line (if is_callee then callee_of c.scopes word else meaning_of c.scopes word) >>= (λ meaning. Ok (named meaning)))
unfolding name
name_meant c is_callee line word e o =
    ap (λ (q : Option BuiltIn). word_or_name q (mode word) line (if is_callee then callee_of c.scopes word else meaning_of c.scopes word)) e
    ∙ ap (λ (q : Option Mode). word_or_name None q line (if is_callee then callee_of c.scopes word else meaning_of c.scopes word)) o

pub name_found : (c : Context) (is_callee : Bool) (line : ℕ) (word : Name) (meant : Meaning) → built_in word ≡ None → mode word ≡ None
    → (if is_callee then callee_of c.scopes word else meaning_of c.scopes word) ≡ Some meant → name c is_callee line word ≡ Ok (named meant)
name_found c is_callee line word meant e o is =
    name_meant c is_callee line word e o ∙ known_some 30 line (if is_callee then callee_of c.scopes word else meaning_of c.scopes word) meant (λ meaning. Ok (named meaning)) is

pub name_missing : (c : Context) (is_callee : Bool) (line : ℕ) (word : Name) → built_in word ≡ None → mode word ≡ None
    → (if is_callee then callee_of c.scopes word else meaning_of c.scopes word) ≡ None → name c is_callee line word ≡ Err (record { code = 30; line = line })
name_missing c is_callee line word e o is =
    name_meant c is_callee line word e o ∙ known_none 30 line (if is_callee then callee_of c.scopes word else meaning_of c.scopes word) (λ meaning. Ok (named meaning)) is

-- ---- signals of an interface

pub member_found : (c : Context) (line n : ℕ) (word : Name) (s : KnownSignal) → signal_of c n word ≡ Some s → member c line (h.Named (means.Interface n)) word ≡ Ok (signal_head s)
unfolding member
member_found c line n word s e = known_some 30 line (signal_of c n word) s (λ s. Ok (signal_head s)) e

pub member_missing : (c : Context) (line n : ℕ) (word : Name) → signal_of c n word ≡ None → member c line (h.Named (means.Interface n)) word ≡ Err (record { code = 30; line = line })
unfolding member
member_missing c line n word e = known_none 30 line (signal_of c n word) (λ s. Ok (signal_head s)) e

-- what is no name is a string, or nothing that has a length
pub member_other : (c : Context) (line : ℕ) (head : Head) (word : Name) → ((m : Meaning) → head ≢ h.Named m) → member c line head word ≡ length_of line word (str_in head)
unfolding member
member_other c line (h.Named m) word other = absurd (other m refl)
member_other c line head word other = refl

pub no_str_in : (head : Head) → ((s : List ℕ) → head ≢ h.Str s) → ((x : Typed) → head ≢ h.Value x) → ((x : Whole) → head ≢ h.Whole x) → str_in head ≡ None
no_str_in (h.Str s) a b c = absurd (a s refl)
no_str_in (h.Value x) a b c = absurd (b x refl)
no_str_in (h.Whole x) a b c = absurd (c x refl)
no_str_in head a b c = refl

-- ---- whether bits can be taken doesn't depend on the bits

kept_twice : {A : Type 0} (line code : ℕ) (b : Bool) (x y : A) → ((keeps line ((code, b) ∷ []) >> Ok x) >> (keeps line ((code, b) ∷ []) >> Ok y)) ≡ (keeps line ((code, b) ∷ []) >> Ok y)
unfolding keeps ◌>>=◌ Rattle.typing_rules.specs.Checked.refuse
kept_twice line code true x y = refl
kept_twice line code false x y = refl

same_value : (line : ℕ) (x : Typed) (c d : Cut) → (value_cut line x c >> value_cut line x d) ≡ value_cut line x d
same_value line x c d = kept_twice line 32 (not (is_vector x.of)) _ _

same_behind : (line : ℕ) (m : Checked Typed) (c d : Cut) → ((m >>= (λ x. value_cut line x c)) >> (m >>= (λ x. value_cut line x d))) ≡ (m >>= (λ x. value_cut line x d))
unfolding ◌>>=◌
same_behind line (Ok x) c d = same_value line x c d
same_behind line (Err r) c d = refl

same_whole : (b : Bool) (line : ℕ) (x : Typed) (p q : Head) (c d : Cut) → ((if b then Ok p else value_cut line x c) >> (if b then Ok q else value_cut line x d)) ≡ (if b then Ok q else value_cut line x d)
unfolding ◌>>=◌
same_whole true line x p q c d = refl
same_whole false line x p q c d = same_value line x c d

signal_cut : (p q : Head) → (Ok p >> Ok q) ≡ Ok q
unfolding ◌>>=◌
signal_cut p q = refl

same_cut : (s : Stand) (line : ℕ) (head : Head) (c d : Cut) → (cut_head s line head c >> cut_head s line head d) ≡ cut_head s line head d
unfolding cut_head
same_cut s line (h.Whole x) c d = same_whole (is_plain_vector (whole_type x)) line (typed (read x) (whole_type x)) (h.Part x c) (h.Part x d) c d
same_cut s line (h.Signal signal d) c e = signal_cut (h.SignalPart signal d c) (h.SignalPart signal d e)
same_cut s line head c d = same_behind line (value_in s line head) c d

-- ---- bits from one to another

not_below : (high low : ℕ) → low ≤ high → nat_lt high low ≡ false
not_below high low le = lt-leb (suc high) low (omega arith)

pub bits_order : (s : Stand) (line : ℕ) (head : Head) (high low : ℕ) → high < low → bits s line head high low ≡ Err (record { code = 32; line = line })
unfolding bits
bits_order s line head high low lt = refused_by line 32 (nat_lt high low) _ (lt-ltb high low lt)

pub bits_right : (s : Stand) (line : ℕ) (head : Head) (high low : ℕ) (w : Width) → low ≤ high → width_from (suc (high - low)) ≡ Some w → bits s line head high low ≡ cut_head s line head (range_cut low w)
unfolding bits
bits_right s line head high low w le e =
    passed_by line 32 (nat_lt high low) _ (not_below high low le)
    ∙ ap (λ (m : Checked Head). cut_head s line head (range_cut low one) >> m) (known_some (too_wide s head) line (width_from (suc (high - low))) w (λ w. cut_head s line head (range_cut low w)) e)
    ∙ same_cut s line head (range_cut low one) (range_cut low w)

pub bits_many : (s : Stand) (line : ℕ) (head : Head) (high low : ℕ) → low ≤ high → width_from (suc (high - low)) ≡ None → bits s line head high low ≡ wide_cut s line head low
unfolding bits
bits_many s line head high low le e =
    passed_by line 32 (nat_lt high low) _ (not_below high low le)
    ∙ ap (λ (m : Checked Head). cut_head s line head (range_cut low one) >> m) (known_none (too_wide s head) line (width_from (suc (high - low))) (λ w. cut_head s line head (range_cut low w)) e)

pub wide_refused : (s : Stand) (line : ℕ) (head : Head) (low : ℕ) (x : FrontError) → Answers (cut_head s line head (range_cut low one)) (Err x) → Answers (wide_cut s line head low) (Err x)
wide_refused s line head low x a = passed_on (cut_head s line head (range_cut low one)) _ x a

pub wide_right : (s : Stand) (line : ℕ) (head cut : Head) (low : ℕ) → cut_head s line head (range_cut low one) ≡ Ok cut → wide_cut s line head low ≡ Err (record { code = too_wide s head; line = line })
wide_right s line head cut low a = ok_then (cut_head s line head (range_cut low one)) cut _ a
