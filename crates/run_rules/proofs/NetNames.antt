-- The names of the nets of output signals are apart.
use Rattle.std.proofs.Common.{◌≡◌, ℕ, ◌<◌, ◌==◌, Bool, true, false, not, List, [], ◌∷◌, ◌++◌, Some, slice_get, codes, decimal, if◌then◌else◌, refl, sym, ap, ap₂, ◌∙◌, subst, append_assoc, arith}
use Rattle.std.proofs.lemmas.Bool.{and_parts}
use Rattle.std.proofs.lemmas.Bool.Decides.{nat_tests}
use Rattle.std.proofs.lemmas.Fmt.{decimal_injective}
use Rattle.std.proofs.lemmas.List.{append_cancel_left, append_cancel_right}
use Rattle.vera_ast.specs.declared.tree.interfaces.Direction.TheVariants.{Output}
use Rattle.vera_ast.specs.declared.typed.interface.TypedSignal.{TypedSignal}
use Rattle.vera_ast.specs.Signals.{NamedSignal, AreApart, is_plain}
use Rattle.run_rules.specs.Nets.{net_name}

pub some-same : {A : Type 0} (a b : A) → Some a ≡ Some b → a ≡ b
some-same a b e = cc

head-same : (a b : ℕ) (u v : List ℕ) → a ∷ u ≡ b ∷ v → a ≡ b
head-same a b u v e = cc

tail-same : (a b : ℕ) (u v : List ℕ) → a ∷ u ≡ b ∷ v → u ≡ v
tail-same a b u v e = cc

not_bracket : (b : ℕ) → not (b == 91) ≡ true → b ≡ 91 → ⊥
not_bracket b plain is = by (b == 91) refl plain
  where
    by : (t : Bool) → (b == 91) ≡ t → not t ≡ true → ⊥
    by true e h = absurd cc
    by false e h = grind (arith, nat_tests)

-- what stands before the first bracket, of names with one
same_before : (x y u v : List ℕ) → is_plain x ≡ true → is_plain y ≡ true → x ++ 91 ∷ u ≡ y ++ 91 ∷ v → x ≡ y
same_before [] [] u v p q e = refl
same_before [] (c ∷ y) u v p q e = absurd (not_bracket c (and_parts _ _ q).0 (sym (head-same _ _ _ _ e)))
same_before (b ∷ x) [] u v p q e = absurd (not_bracket b (and_parts _ _ p).0 (head-same _ _ _ _ e))
same_before (b ∷ x) (c ∷ y) u v p q e =
    ap₂ (λ (h : ℕ) (t : List ℕ). h ∷ t) (head-same _ _ _ _ e) (same_before x y u v (and_parts _ _ p).1 (and_parts _ _ q).1 (tail-same _ _ _ _ e))

-- a plain name has no bracket
none_in_plain : (x y v : List ℕ) → is_plain x ≡ true → x ≡ y ++ 91 ∷ v → ⊥
none_in_plain [] [] v p e = absurd cc
none_in_plain [] (c ∷ y) v p e = absurd cc
none_in_plain (b ∷ x) [] v p e = not_bracket b (and_parts _ _ p).0 (head-same _ _ _ _ e)
none_in_plain (b ∷ x) (c ∷ y) v p e = none_in_plain x y v (and_parts _ _ p).1 (tail-same _ _ _ _ e)

-- a net's name, by whether its signal has width 1
abbrev full : Bool → List ℕ → ℕ → List ℕ
full single name i = if single then name else name ++ codes "[" ++ decimal i ++ codes "]"

regroup : (name digits : List ℕ) → name ++ codes "[" ++ digits ++ codes "]" ≡ name ++ 91 ∷ (digits ++ codes "]")
regroup name digits = append_assoc (name ++ codes "[") digits (codes "]") ∙ append_assoc name (codes "[") (digits ++ codes "]")

same_signal_name : (x y : List ℕ) (i j : ℕ) (p q : Bool) → is_plain x ≡ true → is_plain y ≡ true → full p x i ≡ full q y j → x ≡ y
same_signal_name x y i j true true a b e = e
same_signal_name x y i j true false a b e = absurd (none_in_plain x y (decimal j ++ codes "]") a (e ∙ regroup y (decimal j)))
same_signal_name x y i j false true a b e = absurd (none_in_plain y x (decimal i ++ codes "]") b (sym e ∙ regroup x (decimal i)))
same_signal_name x y i j false false a b e = same_before x y (decimal i ++ codes "]") (decimal j ++ codes "]") a b (sym (regroup x (decimal i)) ∙ e ∙ regroup y (decimal j))

-- the bits of one signal have nets of different names
pub same_bit : (s : TypedSignal) (i j : ℕ) → i < s.width.bits → j < s.width.bits → net_name s i ≡ net_name s j → i ≡ j
same_bit s i j below_i below_j e = by (s.width.bits == 1) refl e
  where
    by : (single : Bool) → (s.width.bits == 1) ≡ single → full single s.name i ≡ full single s.name j → i ≡ j
    by true one h = grind (arith, nat_tests)
    by false wide h =
        let most = s.width.within in
        let after : 91 ∷ (decimal i ++ codes "]") ≡ 91 ∷ (decimal j ++ codes "]") = append_cancel_left s.name _ _ (sym (regroup s.name (decimal i)) ∙ h ∙ regroup s.name (decimal j)) in
        let digits : decimal i ≡ decimal j = append_cancel_right (decimal i) (decimal j) (codes "]") (tail-same 91 91 _ _ after) in
        decimal_injective i j (omega arith) (omega arith) digits

-- two output signals whose nets have one name are one signal
pub same_signal : (signals : List NamedSignal) (n m : ℕ) (a b : NamedSignal) (i j : ℕ) → AreApart signals → slice_get signals n ≡ Some a → slice_get signals m ≡ Some b → a.signal.direction ≡ Output → b.signal.direction ≡ Output → net_name a.signal i ≡ net_name b.signal j → n ≡ m
same_signal signals n m a b i j apart is_a is_b out_a out_b e =
    apart.outputs n m a b is_a is_b out_a out_b
    (same_signal_name a.signal.name b.signal.name i j (a.signal.width.bits == 1) (b.signal.width.bits == 1) (apart.plain n a is_a) (apart.plain m b is_b) e)

pub same_net_bit : (signals : List NamedSignal) (n m : ℕ) (a b : NamedSignal) (i j : ℕ) → AreApart signals → slice_get signals n ≡ Some a → slice_get signals m ≡ Some b → a.signal.direction ≡ Output → b.signal.direction ≡ Output → i < a.signal.width.bits → j < b.signal.width.bits → net_name a.signal i ≡ net_name b.signal j → i ≡ j
same_net_bit signals n m a b i j apart is_a is_b out_a out_b below_i below_j e =
    same_bit a.signal i j below_i
    (subst (λ (z : NamedSignal). j < z.signal.width.bits) one below_j)
    (e ∙ ap (λ (z : NamedSignal). net_name z.signal j) one)
  where
    one : b ≡ a
    one = some-same b a (sym is_b ∙ ap (slice_get signals) (sym (same_signal signals n m a b i j apart is_a is_b out_a out_b e)) ∙ is_a)
