-- What the index of names finds after one more name.
use Rattle.std.proofs.lemmas.List.{take_more, take_all, length-take}
use Rattle.std.proofs.Common.{◌<◌, ◌≤◌, take, get_or, subst, ◌≡◌, ℕ, suc, ◌+◌, Bool, true, false, cond, not, List, [], ◌∷◌, ◌++◌, length, refl, sym, ◌∙◌, ap, Option, None, Some, arith}
use Rattle.std.specs.Prelude.{bytes_eq, Vec}
use Rattle.std.specs.List.{position_from, position_or_len}
use Rattle.std.specs.Option.{is_some, option_or}
use Rattle.std.specs.HashMap as hash
use Rattle.std.specs.HashMap.{HashMap}
use Rattle.std.specs.Map.{lookup, KeepsOthers, IsKeyTest, AreApart}
use Rattle.std.proofs.lemmas.Cmp.{nat_list_eq_equiv}
use Rattle.std.proofs.lemmas.Slice.Eq.{bytes_eq-Decides}
use Rattle.blif_read.specs.Directives.{Name}
use Rattle.blif_read.specs.Nets.{number}
use Rattle.signal_link.specs.declared.numbers.NetNumbers.{NetNumbers}
use Rattle.signal_link.specs.Numbering.{FindsFirst, IsNumbering}

-- ---- the map after one more key

apart : (a b k : Name) → bytes_eq a b ≡ false → bytes_eq a k ≡ true → bytes_eq b k ≡ false
apart a b k n y = nat_list_eq_equiv.symm b k ∙ sym (nat_list_eq_equiv.congr a k b y) ∙ n

other_entries : {K X : Type 0} (eq : K → K → Bool) (test : K → Bool) (old new : List (K × X)) → KeepsOthers eq test old new → (other : K → Bool) → IsKeyTest eq other → AreApart test other → lookup other new ≡ lookup other old
unfolding KeepsOthers
other_entries eq test old new h = h

by_bytes : {W : Type 0} (f g : Name → W) (a : Name) (w : W) (b : Bool) (q : Name) → bytes_eq a q ≡ b → g a ≡ w → (bytes_eq a q ≡ false → g q ≡ f q) → g q ≡ cond b w (f q)
by_bytes f g a w true q e here other = ap g (sym ((bytes_eq-Decides a q).0 e)) ∙ here
by_bytes f g a w false q e here other = other e

finds_after : {A X S : Type 0} (m n : HashMap (Vec ℕ A) X S) (key : Vec ℕ A) (w : Option X) → hash.Updates (λ x y. bytes_eq x.items y.items) m n key w → (q : Name) → hash.get_by (λ k. bytes_eq q k.items) n ≡ cond (bytes_eq key.items q) w (hash.get_by (λ k. bytes_eq q k.items) m)
finds_after m n key w h q =
    by_bytes (λ r. hash.get_by (λ k. bytes_eq r k.items) m) (λ r. hash.get_by (λ k. bytes_eq r k.items) n) key.items w (bytes_eq key.items q) q refl h.1
    (λ e. other_entries _ _ _ _ h.3 _ (λ x y. nat_list_eq_equiv.congr q x.items y.items) (λ k. apart key.items q k.items e))

-- ---- first places

shifted_by : (b : Bool) (i : ℕ) (o p r : Option ℕ) → (b ≡ false → p ≡ option_or o r) → cond b (Some i) p ≡ option_or (cond b (Some i) o) r
shifted_by true i o p r h = refl
shifted_by false i o p r h = h refl

place-push : {K : Type 0} (t : K → Bool) (i n : ℕ) (xs : List K) (y : K) → i + length xs ≡ n → position_from t i (xs ++ y ∷ []) ≡ option_or (position_from t i xs) (cond (t y) (Some n) None)
place-push t i n [] y e = let same : i ≡ n = omega arith in ap (λ k. cond (t y) (Some k) None) same
place-push t i n (x ∷ xs) y e = let more : (i + 1) + length xs ≡ n = omega (arith, e) in shifted_by (t x) i _ _ _ (λ f. place-push t (i + 1) n xs y more)

or_none : (o : Option ℕ) → option_or o None ≡ o
or_none None = refl
or_none (Some n) = refl

or_some : (o r : Option ℕ) → is_some o ≡ true → option_or o r ≡ o
or_some None r e = cc
or_some (Some n) r e = refl

not_some : (o : Option ℕ) → is_some o ≡ false → o ≡ None
not_some None e = refl
not_some (Some n) e = cc

same_name : (name : Name) → bytes_eq name name ≡ true
same_name name = (bytes_eq-Decides name name).1 refl

-- ---- a name that is known already

old_by : (known : List Name) (name q : Name) (b : Bool) → bytes_eq q name ≡ b → is_some (position_from (bytes_eq name) 0 known) ≡ true → position_from (bytes_eq q) 0 known ≡ option_or (position_from (bytes_eq q) 0 known) (cond b (Some (length known)) None)
old_by known name q true e there = sym (or_some _ _ (ap (λ (r : Name). is_some (position_from (bytes_eq r) 0 known)) ((bytes_eq-Decides q name).0 e) ∙ there))
old_by known name q false e there = sym (or_none _)

pub first_old : {A S : Type 0} (m : HashMap (Vec ℕ A) ℕ S) (known : List Name) (name : Name) → FindsFirst m known → is_some (hash.get_by (λ key. bytes_eq name key.items) m) ≡ true → FindsFirst m (known ++ name ∷ [])
first_old m known name h there = record {
  finds = λ q. h.finds q ∙ old_by known name q (bytes_eq q name) refl (sym (ap is_some (h.finds name)) ∙ there)
      ∙ sym (place-push (bytes_eq q) 0 (length known) known name (omega arith));
}

-- ---- a new name

new_by : (known : List Name) (name q : Name) (number : ℕ) (b : Bool) → bytes_eq name q ≡ b → number ≡ length known → position_from (bytes_eq name) 0 known ≡ None → cond b (Some number) (position_from (bytes_eq q) 0 known) ≡ option_or (position_from (bytes_eq q) 0 known) (cond b (Some (length known)) None)
new_by known name q number true e is none = ap Some is ∙ sym (ap (λ o. option_or o (Some (length known))) (ap (λ (r : Name). position_from (bytes_eq r) 0 known) (sym ((bytes_eq-Decides name q).0 e)) ∙ none))
new_by known name q number false e is none = sym (or_none _)

pub first_new : {A S : Type 0} (m n : HashMap (Vec ℕ A) ℕ S) (known : List Name) (name : Name) (key : Vec ℕ A) (number : ℕ) → FindsFirst m known → is_some (hash.get_by (λ key. bytes_eq name key.items) m) ≡ false → key.items ≡ name → number ≡ length known
    → hash.Updates (λ x y. bytes_eq x.items y.items) m n key (Some number) → FindsFirst n (known ++ name ∷ [])
first_new m n known name key number h gone is_key is_number u = record {
  finds = λ q. finds_after m n key (Some number) u q
      ∙ ap (λ (k : Name). cond (bytes_eq k q) (Some number) (hash.get_by (λ key. bytes_eq q key.items) m)) is_key
      ∙ ap (λ o. cond (bytes_eq name q) (Some number) o) (h.finds q)
      ∙ new_by known name q number (bytes_eq name q) refl is_number (sym (h.finds name) ∙ not_some _ gone)
      ∙ ap (λ b. option_or (position_from (bytes_eq q) 0 known) (cond b (Some (length known)) None)) (nat_list_eq_equiv.symm name q)
      ∙ sym (place-push (bytes_eq q) 0 (length known) known name (omega arith));
}

pub first_none : {A S : Type 0} (m : HashMap (Vec ℕ A) ℕ S) → m.entries ≡ [] → FindsFirst m []
first_none m e = record { finds = λ q. ap (lookup (λ key. bytes_eq q key.items)) e }

-- ---- numbers

found_by : (b : Bool) (i v n : ℕ) (o : Option ℕ) → cond b (Some i) o ≡ Some v → (o ≡ Some v → (i + 1) + n ≡ v) → i + cond (not b) (1 + n) 0 ≡ v
found_by true i v n o e h = let same : i ≡ v = cc in omega arith
found_by false i v n o e h = let k = h e in omega (arith, k)

found : {K : Type 0} (t : K → Bool) (i v : ℕ) (xs : List K) → position_from t i xs ≡ Some v → i + position_or_len t xs ≡ v
found t i v [] e = cc
found t i v (x ∷ xs) e = found_by (t x) i v (position_or_len t xs) (position_from t (i + 1) xs) e (λ f. found t (i + 1) v xs f)

missing_by : (b : Bool) (i n m : ℕ) (o : Option ℕ) → cond b (Some i) o ≡ None → (o ≡ None → n ≡ m) → cond (not b) (1 + n) 0 ≡ suc m
missing_by true i n m o e h = cc
missing_by false i n m o e h = let k = h e in omega (arith, k)

missing : {K : Type 0} (t : K → Bool) (i : ℕ) (xs : List K) → position_from t i xs ≡ None → position_or_len t xs ≡ length xs
missing t i [] e = refl
missing t i (x ∷ xs) e = missing_by (t x) i (position_or_len t xs) (length xs) (position_from t (i + 1) xs) e (λ f. missing t (i + 1) xs f)

pub number_found : (n : NetNumbers) (known : List Name) (name : Name) (v : ℕ) → IsNumbering n known → hash.get_by (λ key. bytes_eq name key.items) n.numbers ≡ Some v → v ≡ number known name
unfolding number
number_found n known name v h e = let at = found (bytes_eq name) 0 v known (sym (h.first.finds name) ∙ e) in omega (arith, at)

pub number_missing : (n : NetNumbers) (known : List Name) (name : Name) → IsNumbering n known → hash.get_by (λ key. bytes_eq name key.items) n.numbers ≡ None → n.count ≡ number known name
unfolding number
number_missing n known name h e = h.count ∙ sym (missing (bytes_eq name) 0 known (sym (h.first.finds name) ∙ e))

-- ---- the names of a list, one after the other

pub first_more : {A S : Type 0} (m : HashMap (Vec ℕ A) ℕ S) (nets : List Name) (i : ℕ) (name item : Name) → i < length nets → name ≡ item → item ≡ get_or nets i item → (i ≡ length (take i nets) → FindsFirst m (take i nets ++ name ∷ [])) → FindsFirst m (take (i + 1) nets)
first_more m nets i name item lt e is h =
    let whole : take i nets ++ name ∷ [] ≡ take (i + 1) nets = ap (λ (x : Name). take i nets ++ x ∷ []) (e ∙ is) ∙ sym (take_more nets i item lt) in
    let size : i ≡ length (take i nets) = omega (arith, length-take i nets) in
    subst (λ (ks : List Name). FindsFirst m ks) whole (h size)

pub first_all : {A S : Type 0} (m : HashMap (Vec ℕ A) ℕ S) (nets : List Name) (i : ℕ) → length nets ≤ i → FindsFirst m (take i nets) → FindsFirst m nets
first_all m nets i le h = subst (λ (ks : List Name). FindsFirst m ks) (take_all i nets le) h
