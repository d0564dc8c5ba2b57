-- Productions, step by step, as the code takes them.
use Rattle.std.proofs.Common.{◌≡◌, ℕ, zero, suc, ◌+◌, ◌*◌, ◌<◌, ◌≤◌, Bool, true, false, List, [], ◌∷◌, ◌++◌, length, get_or, drop, Option, Some, None, refl, sym, ap, ◌∙◌, append_assoc, arith}
use Rattle.std.specs.Prelude.{not, ◌==◌, if◌then◌else◌, map, sum, option_map, Ok, Err, nat_le}
use Rattle.std.specs.List.{list_all}
use Rattle.std.proofs.lemmas.List.{append-nil, at_drop_more, at_drop_all}
use Rattle.std.proofs.lemmas.Bool.{lt-leb}
use Rattle.std.proofs.lemmas.Nat.{mul-le}
use Rattle.std.proofs.lemmas.Grind.{common_steps}
use Rattle.vera_ast.specs.Types.{vector_of, chain_type, unary_type}
use Rattle.vera_ast.specs.declared.refusal.FrontError.{FrontError}
use Rattle.vera_ast.specs.declared.tree.expressions.UnaryOperator.{UnaryOperator}
use Rattle.vera_ast.specs.declared.typed.expr.TypedExpr.TheVariants as e
use Rattle.vera_ast.specs.declared.typed.expr.TypedLink.{TypedLink}
use Rattle.vera_ast.specs.declared.typed.types.ValueType.{ValueType}
use Rattle.vera_ast.specs.declared.typed.types.ValueType.TheVariants as t
use Rattle.vera_ast.specs.declared.typed.types.VectorType.{VectorType}
use Rattle.vera_ast.specs.declared.typed.types.VectorType.TheVariants as vector
use Rattle.vera_ast.specs.declared.typed.types.Width.{Width}
use Rattle.vera_names.proofs.Answering.{ok_then, passed_on, refused_by, passed_by, known_some, known_none}
use Rattle.typing_rules.specs.Answers.{Answers}
use Rattle.typing_rules.specs.Arguments.{is_str}
use Rattle.typing_rules.specs.Checked.{Checked, ◌>>=◌, ◌>>◌, keeps, known, refuse}
use Rattle.typing_rules.specs.Heads.{typed}
use Rattle.typing_rules.specs.Operators.{works_in}
use Rattle.typing_rules.specs.Productions.{bits_of, conditional, chosen_by, Link, typed_link, chained, chain, unary, joined_type, exprs_of, concatenation, replication}
use Rattle.vera_values.specs.Steps.{links_before, side_type, choice_type, choice_head, part_bits, bits_in, joined}
use Rattle.typing_rules.specs.Types.{is_vector, sized, width_from}
use Rattle.typing_rules.specs.declared.head.Head.TheVariants as h
use Rattle.typing_rules.specs.declared.head.Typed.{Typed}

-- ---- conditions

by_sides : (line : ℕ) (c x y : Typed) (o p : Option VectorType) → chosen_by line c x y o p ≡ (known 32 line (side_type o p) >>= (λ of. Ok (choice_head c x y of)))
unfolding ◌>>=◌ refuse known
by_sides line c x y (Some v) (Some w) = refl
by_sides line c x y (Some v) None = refl
by_sides line c x y None p = refl

by_type : (b : Bool) (line : ℕ) (c x y : Typed) → (keeps line ((32, not b) ∷ []) >> chosen_by line c x y (vector_of x.of) (vector_of y.of))
    ≡ (known 32 line (if b then side_type (vector_of x.of) (vector_of y.of) else None) >>= (λ of. Ok (choice_head c x y of)))
unfolding ◌>>=◌ keeps refuse known
by_type true line c x y = by_sides line c x y (vector_of x.of) (vector_of y.of)
by_type false line c x y = refl

choice_is : (line : ℕ) (c x y : Typed) → conditional line c x y ≡ (known 32 line (choice_type c.of x.of y.of) >>= (λ of. Ok (choice_head c x y of)))
unfolding conditional
choice_is line c x y = by_type (is_vector c.of) line c x y

pub choice_right : (line : ℕ) (c x y : Typed) (of : VectorType) → choice_type c.of x.of y.of ≡ Some of → conditional line c x y ≡ Ok (choice_head c x y of)
choice_right line c x y of e = choice_is line c x y ∙ known_some 32 line (choice_type c.of x.of y.of) of (λ of. Ok (choice_head c x y of)) e

pub choice_wrong : (line : ℕ) (c x y : Typed) → choice_type c.of x.of y.of ≡ None → conditional line c x y ≡ Err (record { code = 32; line = line })
choice_wrong line c x y e = choice_is line c x y ∙ known_none 32 line (choice_type c.of x.of y.of) (λ of. Ok (choice_head c x y of)) e

-- ---- chains

pub none_before : (m : Checked (List TypedLink × ValueType)) → links_before [] m ≡ m
none_before (Ok all) = refl
none_before (Err r) = refl

pub links_ended : (parents : List (Option ℕ)) (line : ℕ) (left : ValueType) (done : List TypedLink) → links_before done (chained parents line left []) ≡ Ok (done, left)
unfolding chained
links_ended parents line left done = ap (λ (ls : List TypedLink). Ok (ls, left)) (append-nil done)

link_first : (done : List TypedLink) (l : TypedLink) (m : Checked (List TypedLink × ValueType)) → links_before (done ++ l ∷ []) m ≡ links_before done (m >>= (λ rest. Ok (l ∷ rest.0, rest.1)))
unfolding ◌>>=◌
link_first done l (Ok all) = ap (λ (ls : List TypedLink). Ok (ls, all.1)) (append_assoc done (l ∷ []) all.0)
link_first done l (Err r) = refl

pub link_right : (parents : List (Option ℕ)) (line : ℕ) (left works : ValueType) (link : Link) (links : List Link) (done : List TypedLink) → works_in parents left link.0 link.1.of ≡ Some works
    → links_before (done ++ typed_link link works ∷ []) (chained parents line (chain_type link.0 works) links) ≡ links_before done (chained parents line left (link ∷ links))
unfolding chained
link_right parents line left works link links done e =
    link_first done (typed_link link works) (chained parents line (chain_type link.0 works) links)
    ∙ ap (links_before done) (sym (known_some 32 line (works_in parents left link.0 link.1.of) works (λ works. chained parents line (chain_type link.0 works) links >>= (λ rest. Ok (typed_link link works ∷ rest.0, rest.1))) e))

pub link_wrong : (parents : List (Option ℕ)) (line : ℕ) (left : ValueType) (link : Link) (links : List Link) (done : List TypedLink) → works_in parents left link.0 link.1.of ≡ None
    → links_before done (chained parents line left (link ∷ links)) ≡ Err (record { code = 32; line = line })
unfolding chained
link_wrong parents line left link links done e = ap (links_before done) (known_none 32 line (works_in parents left link.0 link.1.of) _ e)

pub chain_right : (parents : List (Option ℕ)) (line : ℕ) (first : Typed) (links : List Link) (all : List TypedLink × ValueType) → chained parents line first.of links ≡ Ok all
    → chain parents line first links ≡ Ok (h.Value (typed (e.Chain first.expr all.0) all.1))
unfolding chain
chain_right parents line first links all e = ok_then (chained parents line first.of links) all _ e

pub chain_wrong : (parents : List (Option ℕ)) (line : ℕ) (first : Typed) (links : List Link) (x : FrontError) → Answers (chained parents line first.of links) (Err x)
    → Answers (chain parents line first links) (Err x)
unfolding chain
chain_wrong parents line first links x a = passed_on (chained parents line first.of links) _ x a

-- ---- operators before their operand

pub unary_wrong : (line : ℕ) (operator : UnaryOperator) (x : Typed) → is_vector x.of ≡ false → unary line operator x ≡ Err (record { code = 32; line = line })
unfolding unary
unary_wrong line operator x e = refused_by line 32 _ _ (ap not e)

pub unary_right : (line : ℕ) (operator : UnaryOperator) (x : Typed) → is_vector x.of ≡ true → unary line operator x ≡ Ok (h.Value (typed (e.Unary operator x.expr) (unary_type operator x.of)))
unfolding unary
unary_right line operator x e = passed_by line 32 _ _ (ap not e)

-- ---- joined parts

not_sized : (m : ℕ) (b : Bool) (e : nat_le m 127 ≡ b) → b ≡ false → sized m b e ≡ None
not_sized m true e isnt = absurd cc
not_sized m false e isnt = refl

pub too_wide : (n : ℕ) → 128 < n → width_from n ≡ None
unfolding width_from
too_wide zero lt = absurd (omega arith)
too_wide (suc m) lt = let isnt : nat_le m 127 ≡ false = lt-leb m 127 (omega arith) in not_sized m (nat_le m 127) _ isnt

sum_first : (n : ℕ) (ns : List ℕ) → sum (n ∷ ns) ≡ n + sum ns
sum_first n ns = grind (arith, common_steps)

bits_are : (parts : List Typed) → bits_in parts ≡ sum (map (λ x. bits_of (vector_of x.of)) parts)
unfolding bits_in part_bits
bits_are [] = refl
bits_are (x ∷ xs) =
    ap (λ (n : ℕ). bits_of (vector_of x.of) + n) (bits_are xs)
    ∙ sym (sum_first (bits_of (vector_of x.of)) (map (λ y. bits_of (vector_of y.of)) xs))

-- the bits of the next part, and of those behind it
next_bits : (parts : List Typed) (i : ℕ) (x : Typed) → i < length parts → x ≡ get_or parts i x → bits_in (drop i parts) ≡ part_bits x + bits_in (drop (i + 1) parts)
unfolding bits_in
next_bits parts i x lt at =
    at_drop_more bits_in parts i x lt
    ∙ ap (λ (y : Typed). part_bits y + bits_in (drop (i + 1) parts)) (sym at)

pub bits_more : (parts : List Typed) (i : ℕ) (x : Typed) (bits n : ℕ) → i < length parts → x ≡ get_or parts i x → bits + bits_in (drop i parts) ≡ n
    → (bits + part_bits x) + bits_in (drop (i + 1) parts) ≡ n
bits_more parts i x bits n lt at h = omega (arith, next_bits parts i x lt at)

pub bits_over : (parts : List Typed) (i : ℕ) (x : Typed) (bits n : ℕ) → i < length parts → x ≡ get_or parts i x → bits + bits_in (drop i parts) ≡ n → 128 < bits + part_bits x → 128 < n
bits_over parts i x bits n lt at h over = omega (arith, next_bits parts i x lt at)

pub bits_ended : (parts : List Typed) (i bits n : ℕ) → length parts ≤ i → bits + bits_in (drop i parts) ≡ n → bits ≡ n
unfolding bits_in
bits_ended parts i bits n le h = let none : bits_in (drop i parts) ≡ 0 = at_drop_all bits_in parts i le in omega arith

no_width : width_from 0 ≡ None
unfolding width_from
no_width = refl

pub too_wide_times : (count n : ℕ) → 128 < n → width_from (count * n) ≡ None
too_wide_times zero n lt = let none : zero * n ≡ 0 = omega arith in ap width_from none ∙ no_width
too_wide_times (suc k) n lt = let more : 1 * n ≤ suc k * n = mul-le 1 n (suc k) n (omega arith) (omega arith) in too_wide (suc k * n) (omega arith)

-- the type of joined parts, by what they are
abbrev joined_of : ℕ → Bool → Bool → Option Width → Checked ValueType
joined_of line strs vectors o = if strs then Ok t.Str else (if vectors then (known 32 line o >>= (λ v. Ok (t.Vector (vector.Bits v)))) else refuse 32 line)

joined_by : (strs vectors : Bool) (line : ℕ) (o : Option Width) → joined_of line strs vectors o
    ≡ known 32 line (if strs then Some t.Str else (if vectors then option_map (λ w. t.Vector (vector.Bits w)) o else None))
unfolding ◌>>=◌ refuse known
joined_by true vectors line o = refl
joined_by false true line (Some w) = refl
joined_by false true line None = refl
joined_by false false line o = refl

joined_is : (line count : ℕ) (parts : List Typed) → joined_type line count parts ≡ known 32 line (joined count parts)
joined_is line count parts =
    ap (λ (n : ℕ). joined_of line (list_all (λ x. is_str x.of) parts) (list_all (λ x. is_vector x.of) parts) (width_from (count * n))) (sym (bits_are parts))
    ∙ joined_by (list_all (λ x. is_str x.of) parts) (list_all (λ x. is_vector x.of) parts) line (width_from (count * bits_in parts))

then_known : {A : Type 0} (line count : ℕ) (parts : List Typed) (f : ValueType → Checked A) → (joined_type line count parts >>= f) ≡ (known 32 line (joined count parts) >>= f)
then_known {A = A} line count parts f = ap (λ (m : Checked ValueType). m >>= f) (joined_is line count parts)

pub concatenation_right : (line : ℕ) (parts : List Typed) (of : ValueType) → joined 1 parts ≡ Some of → concatenation line parts ≡ Ok (h.Value (typed (e.Concatenation (exprs_of parts) of) of))
unfolding concatenation
concatenation_right line parts of a = then_known line 1 parts _ ∙ known_some 32 line (joined 1 parts) of (λ of. Ok (h.Value (typed (e.Concatenation (exprs_of parts) of) of))) a

pub concatenation_wrong : (line : ℕ) (parts : List Typed) → joined 1 parts ≡ None → concatenation line parts ≡ Err (record { code = 32; line = line })
unfolding concatenation
concatenation_wrong line parts a = then_known line 1 parts _ ∙ known_none 32 line (joined 1 parts) (λ of. Ok (h.Value (typed (e.Concatenation (exprs_of parts) of) of))) a

pub no_copies : (line : ℕ) (parts : List Typed) → replication line 0 parts ≡ Err (record { code = 32; line = line })
unfolding replication
no_copies line parts = refused_by line 32 true _ refl

some_copies : (line count : ℕ) (parts : List Typed) → (count == 0) ≡ false → replication line count parts ≡ (known 32 line (joined count parts) >>= (λ of. Ok (h.Value (typed (e.Replication count (exprs_of parts) of) of))))
unfolding replication
some_copies line count parts some = passed_by line 32 (count == 0) _ some ∙ then_known line count parts _

pub replication_right : (line count : ℕ) (parts : List Typed) (of : ValueType) → (count == 0) ≡ false → joined count parts ≡ Some of → replication line count parts ≡ Ok (h.Value (typed (e.Replication count (exprs_of parts) of) of))
replication_right line count parts of some a = some_copies line count parts some ∙ known_some 32 line (joined count parts) of (λ of. Ok (h.Value (typed (e.Replication count (exprs_of parts) of) of))) a

pub replication_wrong : (line count : ℕ) (parts : List Typed) → (count == 0) ≡ false → joined count parts ≡ None → replication line count parts ≡ Err (record { code = 32; line = line })
replication_wrong line count parts some a = some_copies line count parts some ∙ known_none 32 line (joined count parts) (λ of. Ok (h.Value (typed (e.Replication count (exprs_of parts) of) of))) a
