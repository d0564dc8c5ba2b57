-- What the index of names finds after one more name.
use Rattle.std.proofs.Common.{◌≡◌, ℕ, ◌+◌, Bool, true, false, cond, List, [], ◌∷◌, ◌++◌, length, refl, sym, ◌∙◌, ap, Option, None, Some, subst, map, Global, take, get_or, ◌<◌}
use Rattle.std.specs.Prelude.{bytes_eq, Vec}
use Rattle.std.specs.HashMap as hash
use Rattle.std.specs.HashMap.{HashMap}
use Rattle.std.specs.Map.{lookup, KeepsOthers, IsKeyTest, AreApart}
use Rattle.std.proofs.lemmas.Cmp.{nat_list_eq_equiv}
use Rattle.std.proofs.lemmas.Slice.Eq.{bytes_eq-Decides}
use Rattle.std.proofs.lemmas.List.{map-append, take_more}
use Rattle.blif_read.specs.Directives.{Name}
use Rattle.blif_read.specs.Nets.{number}
use Rattle.blif_read.specs.declared.nets.Nets.{Nets}
use Rattle.blif_read.specs.Known.{is_known, known_with, known_with_all, IsIndex, Numbers, NumbersAll}
use Rattle.blif_read.proofs.Names.{found, found-push, known_with-old, known_with-new, stays-old, stays-new, extends_all, stays_longer, known_with_all-append, Extends}

apart : (a b k : Name) → bytes_eq a b ≡ false → bytes_eq a k ≡ true → bytes_eq b k ≡ false
apart a b k n y = nat_list_eq_equiv.symm b k ∙ sym (nat_list_eq_equiv.congr a k b y) ∙ n

other_entries : {K X : Type 0} (eq : K → K → Bool) (test : K → Bool) (old new : List (K × X)) → KeepsOthers eq test old new → (other : K → Bool) → IsKeyTest eq other → AreApart test other → lookup other new ≡ lookup other old
unfolding KeepsOthers
other_entries eq test old new h = h

by_bytes : {W : Type 0} (f g : Name → W) (a : Name) (w : W) (b : Bool) (q : Name) → bytes_eq a q ≡ b → g a ≡ w → (bytes_eq a q ≡ false → g q ≡ f q) → g q ≡ cond b w (f q)
by_bytes f g a w true q e here other = ap g (sym ((bytes_eq-Decides a q).0 e)) ∙ here
by_bytes f g a w false q e here other = other e

-- one more key
finds_after : {A X S : Type 0} (m n : HashMap (Vec ℕ A) X S) (key : Vec ℕ A) (w : Option X) → hash.Updates (λ x y. bytes_eq x.items y.items) m n key w → (q : Name) → hash.get_by (λ k. bytes_eq q k.items) n ≡ cond (bytes_eq key.items q) w (hash.get_by (λ k. bytes_eq q k.items) m)
finds_after m n key w h q =
    by_bytes (λ r. hash.get_by (λ k. bytes_eq r k.items) m) (λ r. hash.get_by (λ k. bytes_eq r k.items) n) key.items w (bytes_eq key.items q) q refl h.1
    (λ e. other_entries _ _ _ _ h.3 _ (λ x y. nat_list_eq_equiv.congr q x.items y.items) (λ k. apart key.items q k.items e))

known_if : (b : Bool) (n v : ℕ) → cond b (Some n) None ≡ Some v → (b ≡ true) × (n ≡ v)
known_if true n v e = (refl, cc)
known_if false n v e = cc

new_if : (b : Bool) (n : ℕ) → cond b (Some n) None ≡ None → b ≡ false
new_if true n e = cc
new_if false n e = refl

pub number_old : (n : Nets) (name : Name) (v : ℕ) → IsIndex n → hash.get_by (λ key. bytes_eq name key.items) n.numbers ≡ Some v → Numbers n n name v
number_old n name v index e =
    let k = known_if _ _ _ (sym (index.finds name) ∙ e) in
    record {
      known = sym (known_with-old name n.known.items k.0);
      stays = λ more. stays-old name n.known.items k.0 more ∙ k.1;
      index = index;
    }

pub number_new : (old new : Nets) (name : Name) → IsIndex old → hash.get_by (λ key. bytes_eq name key.items) old.numbers ≡ None → new.known.items ≡ old.known.items ++ name ∷ []
    → ((q : Name) → hash.get_by (λ key. bytes_eq q key.items) new.numbers ≡ cond (bytes_eq name q) (Some (length old.known.items)) (hash.get_by (λ key. bytes_eq q key.items) old.numbers)) → Numbers old new name (length old.known.items)
number_new old new name index e grown finds =
    let is_new = new_if _ _ (sym (index.finds name) ∙ e) in
    record {
      known = grown ∙ sym (known_with-new name old.known.items is_new);
      stays = λ more. ap (λ ks. number (ks ++ more) name) grown ∙ stays-new name old.known.items is_new more;
      index = record { finds = λ q. finds q ∙ ap (cond (bytes_eq name q) (Some (length old.known.items))) (index.finds q) ∙ found-push old.known.items name q is_new ∙ ap (λ ks. found ks q) (sym grown) };
    }

pub number_new_key : (old new : Nets) (name : Name) (n : ℕ) (key : Vec ℕ Global) → IsIndex old → hash.get_by (λ key. bytes_eq name key.items) old.numbers ≡ None → new.known.items ≡ old.known.items ++ name ∷ [] → n ≡ length old.known.items → key.items ≡ name
    → hash.Updates (λ x y. bytes_eq x.items y.items) old.numbers new.numbers key (Some n) → Numbers old new name n
number_new_key old new name n key index e grown is_n is_key u =
    subst (λ (m : ℕ). Numbers old new name m) (sym is_n)
    (number_new old new name index e grown (λ q. finds_after old.numbers new.numbers key (Some n) u q ∙ ap (λ (k : Name). cond (bytes_eq k q) (Some n) (hash.get_by (λ key. bytes_eq q key.items) old.numbers)) is_key ∙ ap (λ (m : ℕ). cond (bytes_eq name q) (Some m) (hash.get_by (λ key. bytes_eq q key.items) old.numbers)) is_n))

pub index_new : (n : Nets) → n.known.items ≡ [] → n.numbers.entries ≡ [] → IsIndex n
unfolding is_known
index_new n known entries = record { finds = λ q. ap (lookup (λ key. bytes_eq q key.items)) entries ∙ sym (ap (λ ks. found ks q) known) }

-- ---- all names of a list
pub numbers_none : (n : Nets) → IsIndex n → NumbersAll n n [] []
unfolding known_with_all
numbers_none n index = record { known = refl; stays = λ more. refl; index = index }

known_with_all-push : (xs : List Name) (y : Name) (known : List Name) → known_with_all (xs ++ y ∷ []) known ≡ known_with y (known_with_all xs known)
unfolding known_with_all
known_with_all-push xs y known = known_with_all-append xs (y ∷ []) known

extends_by_one : (known : List Name) (name : Name) → Extends known (known_with name known)
unfolding known_with_all
extends_by_one known name = extends_all (name ∷ []) known

pub numbers_more : (first old new : Nets) (names : List Name) (name : Name) (ns : List ℕ) (n : ℕ) → NumbersAll first old names ns → Numbers old new name n → NumbersAll first new (names ++ name ∷ []) (ns ++ n ∷ [])
numbers_more first old new names name ns n h k = record {
  known = k.known ∙ ap (known_with name) h.known ∙ sym (known_with_all-push names name first.known.items);
  stays = λ more. map-append (number (new.known.items ++ more)) names (name ∷ [])
      ∙ ap (λ xs. xs ++ number (new.known.items ++ more) name ∷ []) (stays_longer (λ ks. map (number ks) names) ns old.known.items new.known.items (subst (Extends old.known.items) (sym k.known) (extends_by_one old.known.items name)) h.stays more)
      ∙ ap (λ m. ns ++ m ∷ []) (k.stays more);
  index = k.index;
}

-- the same at one more place of a list
pub numbers_more_at : (first old new : Nets) (names : List Name) (i : ℕ) (name item : Name) (ns ms : List ℕ) (n : ℕ) → i < length names → NumbersAll first old (take i names) ns → Numbers old new name n → name ≡ item → item ≡ get_or names i item → ms ≡ ns ++ n ∷ [] → NumbersAll first new (take (i + 1) names) ms
numbers_more_at first old new names i name item ns ms n lt h k e at is =
    let whole : take i names ++ name ∷ [] ≡ take (i + 1) names = ap (λ x. take i names ++ x ∷ []) (e ∙ at) ∙ sym (take_more names i item lt) in
    subst (λ (xs : List Name). NumbersAll first new xs ms) whole (subst (λ (xs : List ℕ). NumbersAll first new (take i names ++ name ∷ []) xs) (sym is) (numbers_more first old new (take i names) name ns n h k))
