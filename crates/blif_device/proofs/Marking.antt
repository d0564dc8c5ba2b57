-- Marks and the list of marked nets, net by net.
use Rattle.std.proofs.Common.{◌≡◌, ℕ, ◌+◌, ◌-◌, ◌<◌, ◌≤◌, Bool, true, false, not, cond, List, [], ◌∷◌, ◌++◌, length, get_or, set, refl, sym, ◌∙◌, ap, arith, subst, ◌⊎◌, inl, inr, get_or-set_same, get_or-set_other, Contains, zero, suc, length-append}
use Rattle.std.proofs.Math.ListN.{length-set}
use Rattle.std.proofs.lemmas.List.{get_or_append_left, get_or_push, length_push, get_or_past, get_or_default, get_or-append_right}
use Rattle.std.proofs.lemmas.List.Elements.{Contains-append_left, Contains-append_right}
use Rattle.std.proofs.lemmas.List.Sums.{sum_by-set}
use Rattle.std.proofs.lemmas.Bool.{cases_eq, cases_lt}
use Rattle.blif_device.specs.Rings.{IsPath, Depends}
use Rattle.blif_device.specs.Reaching.{is_marked, IsMarked, MarksAll, Reaches, TellsRing}
use Rattle.blif_device.proofs.Paths.{depends_more}

false_true : false ≡ true → ⊥
false_true e = cc

pub marked_below : (marks : List Bool) (x : ℕ) → is_marked marks x ≡ true → x < length marks
marked_below marks x h = at_case (cases_lt x (length marks)) where
  at_case : (x < length marks) ⊎ (length marks ≤ x) → x < length marks
  at_case (inl lt) = lt
  at_case (inr le) = absurd (false_true (sym (get_or_past marks x false le) ∙ h))

-- a net that wasn't
pub marks_new : (marks : List Bool) (found : List ℕ) (net : ℕ) → IsMarked marks found → net < length marks → is_marked marks net ≡ false → MarksAll (net ∷ []) marks (set marks net true) found (found ++ net ∷ [])
marks_new marks found net listed lt new = record {
  size = length-set marks net true;
  listed = record { found_marked = found_marked; marked_found = marked_found };
  given = at;
  stays = stays;
  only = only;
  longer = omega (arith, length_push found net);
  same = λ k h. get_or_append_left found (net ∷ []) 0 k h;
  work = omega (arith, length_push found net, sum_by-set (λ (b : Bool). cond (not b) 1 0) marks net true false lt, ap {B = ℕ} (λ (b : Bool). cond (not b) 1 0) new);
} where
  here : is_marked (set marks net true) net ≡ true
  here = get_or-set_same marks net true false lt

  stays : (x : ℕ) → is_marked marks x ≡ true → is_marked (set marks net true) x ≡ true
  stays x h = at_case (cases_eq x net) where
    at_case : (x ≡ net) ⊎ (x ≡ net → ⊥) → is_marked (set marks net true) x ≡ true
    at_case (inl same) = ap (is_marked (set marks net true)) same ∙ here
    at_case (inr other) = get_or-set_other marks net x true false other ∙ h

  at : (k : ℕ) → k < 1 → is_marked (set marks net true) (get_or (net ∷ []) k 0) ≡ true
  at zero lt = here
  at (suc k) lt = absurd (omega arith)

  only : (x : ℕ) → is_marked (set marks net true) x ≡ true → (is_marked marks x ≡ true) ⊎ Contains (net ∷ []) x
  only x h = at_case (cases_eq x net) where
    at_case : (x ≡ net) ⊎ (x ≡ net → ⊥) → (is_marked marks x ≡ true) ⊎ Contains (net ∷ []) x
    at_case (inl same) = inr (0, omega arith, sym same)
    at_case (inr other) = inl (sym (get_or-set_other marks net x true false other) ∙ h)

  found_marked : (k : ℕ) → k < length (found ++ net ∷ []) → is_marked (set marks net true) (get_or (found ++ net ∷ []) k 0) ≡ true
  found_marked k h = at_case (cases_eq k (length found)) where
    at_case : (k ≡ length found) ⊎ (k ≡ length found → ⊥) → is_marked (set marks net true) (get_or (found ++ net ∷ []) k 0) ≡ true
    at_case (inl same) = ap (is_marked (set marks net true)) (get_or_push found net 0 k (sym same)) ∙ here
    at_case (inr other) =
        let below : k < length found = omega (arith, length_push found net) in
        ap (is_marked (set marks net true)) (get_or_append_left found (net ∷ []) 0 k below) ∙ stays _ (listed.found_marked k below)

  marked_found : (x : ℕ) → is_marked (set marks net true) x ≡ true → (k : ℕ) × (k < length (found ++ net ∷ [])) × (get_or (found ++ net ∷ []) k 0 ≡ x)
  marked_found x h = at_case (cases_eq x net) where
    at_case : (x ≡ net) ⊎ (x ≡ net → ⊥) → (k : ℕ) × (k < length (found ++ net ∷ [])) × (get_or (found ++ net ∷ []) k 0 ≡ x)
    at_case (inl same) = (length found, omega (arith, length_push found net), get_or_push found net 0 (length found) refl ∙ sym same)
    at_case (inr other) =
        let old = listed.marked_found x (sym (get_or-set_other marks net x true false other) ∙ h) in
        (old.0, omega (arith, length_push found net, old.1), get_or_append_left found (net ∷ []) 0 old.0 old.1 ∙ old.2)

-- one list of nets after another
pub marks_both : (xs ys : List ℕ) (a b d : List Bool) (f g h : List ℕ) → MarksAll xs a b f g → MarksAll ys b d g h → MarksAll (xs ++ ys) a d f h
marks_both xs ys a b d f g h m n = record {
  size = n.size ∙ m.size;
  listed = n.listed;
  given = given;
  stays = λ x e. n.stays x (m.stays x e);
  only = λ x e. only x (n.only x e);
  longer = omega (arith, m.longer, n.longer);
  same = λ k lt. n.same k (omega (arith, m.longer, lt)) ∙ m.same k lt;
  work = n.work ∙ m.work;
} where
  given : (k : ℕ) → k < length (xs ++ ys) → is_marked d (get_or (xs ++ ys) k 0) ≡ true
  given k lt = at_case (cases_lt k (length xs)) where
    at_case : (k < length xs) ⊎ (length xs ≤ k) → is_marked d (get_or (xs ++ ys) k 0) ≡ true
    at_case (inl below) = ap (is_marked d) (get_or_append_left xs ys 0 k below) ∙ n.stays _ (m.given k below)
    at_case (inr above) = ap (is_marked d) (get_or-append_right xs ys (length xs) k 0 refl above) ∙ n.given (k - length xs) (omega (arith, length-append xs ys))

  only : (x : ℕ) → (is_marked b x ≡ true) ⊎ Contains ys x → (is_marked a x ≡ true) ⊎ Contains (xs ++ ys) x
  only x (inr c) = inr (Contains-append_right xs ys x c)
  only x (inl e) = first (m.only x e) where
    first : (is_marked a x ≡ true) ⊎ Contains xs x → (is_marked a x ≡ true) ⊎ Contains (xs ++ ys) x
    first (inl o) = inl o
    first (inr c) = inr (Contains-append_left xs ys x c)

-- ---- all that a net depends on
pub reaches_more : (reads : ℕ → List ℕ) (start : ℕ) (a b : List Bool) (f g : List ℕ) (head : ℕ) → Reaches reads start a f head → head < length f → MarksAll (reads (get_or f head 0)) a b f g → Reaches reads start b g (head + 1)
reaches_more reads start a b f g head r lt m = record {
  listed = m.listed;
  depends = λ x h. depends x (m.only x h);
  first = λ k h. m.stays _ (r.first k h);
  next = next;
} where
  depends : (x : ℕ) → (is_marked a x ≡ true) ⊎ Contains (reads (get_or f head 0)) x → Depends reads start x
  depends x (inl e) = r.depends x e
  depends x (inr c) = depends_more reads start (get_or f head 0) x (r.depends _ (r.listed.found_marked head lt)) c

  next : (j k : ℕ) → j < head + 1 → k < length (reads (get_or g j 0)) → is_marked b (get_or (reads (get_or g j 0)) k 0) ≡ true
  next j k jlt klt = at_case (cases_eq j head) where
    same_j : get_or g j 0 ≡ get_or f j 0
    same_j = m.same j (omega arith)

    at_case : (j ≡ head) ⊎ (j ≡ head → ⊥) → is_marked b (get_or (reads (get_or g j 0)) k 0) ≡ true
    at_case (inl same) =
        let is_head : get_or g j 0 ≡ get_or f head 0 = same_j ∙ ap (λ i. get_or f i 0) same in
        ap (λ x. is_marked b (get_or (reads x) k 0)) is_head ∙ m.given k (subst (λ (x : ℕ). k < length (reads x)) is_head klt)
    at_case (inr other) =
        ap (λ x. is_marked b (get_or (reads x) k 0)) same_j ∙ m.stays _ (r.next j k (omega arith) (subst (λ (x : ℕ). k < length (reads x)) same_j klt))

-- what a net depends on is marked when all of the list was looked at
marked_path : (reads : ℕ → List ℕ) (marks : List Bool) → ((x y : ℕ) → is_marked marks x ≡ true → Contains (reads x) y → is_marked marks y ≡ true) → (ms : List ℕ) (a b : ℕ) → is_marked marks a ≡ true → IsPath reads a ms b → is_marked marks b ≡ true
marked_path reads marks closed [] a b h p = closed a b h p
marked_path reads marks closed (m ∷ ms) a b h p = marked_path reads marks closed ms m b (closed a m h p.0) p.1

pub reached_marked : (reads : ℕ → List ℕ) (start : ℕ) (marks : List Bool) (found : List ℕ) (head : ℕ) → Reaches reads start marks found head → length found ≤ head → (x : ℕ) → Depends reads start x → is_marked marks x ≡ true
reached_marked reads start marks found head r all x d = walk d.between d.path where
  at : (y z : ℕ) (c : Contains (reads y) z) → get_or (reads y) c.0 0 ≡ z
  at y z c = get_or_default (reads y) c.0 0 z c.1 ∙ c.2

  closed : (y z : ℕ) → is_marked marks y ≡ true → Contains (reads y) z → is_marked marks z ≡ true
  closed y z h c =
      let place = r.listed.marked_found y h in
      let in_reads : c.0 < length (reads (get_or found place.0 0)) = subst (λ (n : ℕ). c.0 < length (reads n)) (sym place.2) c.1 in
      ap (is_marked marks) (sym (at y z c)) ∙ ap (λ n. is_marked marks (get_or (reads n) c.0 0)) (sym place.2) ∙ r.next place.0 c.0 (omega (arith, place.1)) in_reads

  one : (z : ℕ) → Contains (reads start) z → is_marked marks z ≡ true
  one z c = ap (is_marked marks) (sym (at start z c)) ∙ r.first c.0 c.1

  walk : (ms : List ℕ) → IsPath reads start ms x → is_marked marks x ≡ true
  walk [] p = one x p
  walk (m ∷ ms) p = marked_path reads marks closed ms m x (one m p.0) p.1

pub tells_ring : (reads : ℕ → List ℕ) (start : ℕ) (marks : List Bool) (found : List ℕ) (head : ℕ) → Reaches reads start marks found head → length found ≤ head → (b : Bool) → is_marked marks start ≡ b → TellsRing reads start b
tells_ring reads start marks found head r all true e = r.depends start e
tells_ring reads start marks found head r all false e = λ d. false_true (sym e ∙ reached_marked reads start marks found head r all start d)
