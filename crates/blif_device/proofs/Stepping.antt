-- What a walk keeps, step by step.
use Rattle.std.proofs.Common.{◌≡◌, ◌≢◌, ℕ, ◌+◌, ◌-◌, ◌<◌, ◌≤◌, cond, List, [], ◌∷◌, ◌++◌, length, get_or, set, refl, sym, ◌∙◌, ap, arith, subst, ◌⊎◌, inl, inr, get_or-set_same, get_or-set_other}
use Rattle.std.proofs.Math.ListN.{length-set}
use Rattle.std.proofs.lemmas.List.{get_or_append_left, get_or_push, length_push, get_or_past}
use Rattle.std.proofs.lemmas.List.Sums.{sum_by-set}
use Rattle.std.proofs.lemmas.Bool.{cases_eq, cases_lt}
use Rattle.blif_device.specs.declared.walk.Mark.{Mark}
use Rattle.blif_device.specs.declared.walk.Mark.TheVariants.{New, Open, Done}
use Rattle.blif_device.specs.Rings.{Depends}
use Rattle.blif_device.specs.Walks.{Walks, mark_at, is_new, steps_left}
use Rattle.blif_device.proofs.Paths.{contains_at, depends_one, depends_more}

-- ---- one mark more
mark_same : (marks : List Mark) (net : ℕ) (m : Mark) → net < length marks → mark_at (set marks net m) net ≡ m
mark_same marks net m lt = get_or-set_same marks net m New lt

mark_other : (marks : List Mark) (net x : ℕ) (m : Mark) → x ≢ net → mark_at (set marks net m) x ≡ mark_at marks x
mark_other marks net x m ne = get_or-set_other marks net x m New ne

-- a net with a mark that the other one hasn't is another one
apart : (marks : List Mark) (x y : ℕ) (m n : Mark) → mark_at marks x ≡ m → mark_at marks y ≡ n → (m ≡ n → ⊥) → x ≢ y
apart marks x y m n hx hy ne e = ne (sym hx ∙ ap (mark_at marks) e ∙ hy)

done_open : (k : ℕ) → Done ≡ Open k → ⊥
done_open k e = cc

open_new : (k : ℕ) → Open k ≡ New → ⊥
open_new k e = cc

done_new : Done ≡ New → ⊥
done_new e = cc

open_place : (j k : ℕ) → Open j ≡ Open k → j ≡ k
open_place j k e = cc

-- a net with a mark is below the number of nets
pub marked_below : (marks : List Mark) (x : ℕ) → mark_at marks x ≢ New → x < length marks
marked_below marks x ne = at_case (cases_lt x (length marks)) where
  at_case : (x < length marks) ⊎ (length marks ≤ x) → x < length marks
  at_case (inl lt) = lt
  at_case (inr le) = absurd (ne (get_or_past marks x New le))

-- ---- entering a net
pub enter_walks : (reads : ℕ → List ℕ) (n : ℕ) (marks : List Mark) (left path order : List ℕ) (net : ℕ) → Walks reads n marks left path order → net < n → mark_at marks net ≡ New
    → ((k : ℕ) → k < length path → Depends reads (get_or path k 0) net)
    → Walks reads n (set marks net (Open (length path))) left (path ++ net ∷ []) order
enter_walks reads n marks left path order net w lt new leads = record {
  marks_size = length-set marks net (Open (length path)) ∙ w.marks_size;
  left_size = w.left_size;
  bounded = w.bounded;
  path_open = path_open;
  open_path = open_path;
  linked = linked;
  looked = λ x k below from to. kept _ Done (w.looked x k below from to) done_new;
  done_left = λ x h. w.done_left x (back x Done h (done_open (length path)));
  order_done = λ p h. kept _ Done (w.order_done p h) done_new;
  done_order = λ x h. w.done_order x (back x Done h (done_open (length path)));
  distinct = w.distinct;
  earlier = w.earlier;
} where
  in_marks : net < length marks
  in_marks = omega (arith, w.marks_size)

  kept : (x : ℕ) (m : Mark) → mark_at marks x ≡ m → (m ≡ New → ⊥) → mark_at (set marks net (Open (length path))) x ≡ m
  kept x m h ne = mark_other marks net x (Open (length path)) (apart marks x net m New h new ne) ∙ h

  -- an old mark but the new one is an old one
  back : (x : ℕ) (m : Mark) → mark_at (set marks net (Open (length path))) x ≡ m → (m ≡ Open (length path) → ⊥) → mark_at marks x ≡ m
  back x m h ne = at_case (cases_eq x net) where
    at_case : (x ≡ net) ⊎ (x ≡ net → ⊥) → mark_at marks x ≡ m
    at_case (inl same) = absurd (ne (sym h ∙ ap (mark_at (set marks net (Open (length path)))) same ∙ mark_same marks net (Open (length path)) in_marks))
    at_case (inr other) = sym (mark_other marks net x (Open (length path)) other) ∙ h

  front : (k : ℕ) → k < length path → get_or (path ++ net ∷ []) k 0 ≡ get_or path k 0
  front k h = get_or_append_left path (net ∷ []) 0 k h

  last : get_or (path ++ net ∷ []) (length path) 0 ≡ net
  last = get_or_push path net 0 (length path) refl

  path_open : (k : ℕ) → k < length (path ++ net ∷ []) → mark_at (set marks net (Open (length path))) (get_or (path ++ net ∷ []) k 0) ≡ Open k
  path_open k h = at_case (cases_eq k (length path)) where
    at_case : (k ≡ length path) ⊎ (k ≡ length path → ⊥) → mark_at (set marks net (Open (length path))) (get_or (path ++ net ∷ []) k 0) ≡ Open k
    at_case (inl same) = ap (mark_at (set marks net (Open (length path)))) (ap (λ j. get_or (path ++ net ∷ []) j 0) same ∙ last) ∙ mark_same marks net (Open (length path)) in_marks ∙ ap Open (sym same)
    at_case (inr ne) =
        let below : k < length path = omega (arith, length_push path net) in
        ap (mark_at (set marks net (Open (length path)))) (front k below) ∙ kept _ (Open k) (w.path_open k below) (open_new k)

  open_path : (x k : ℕ) → mark_at (set marks net (Open (length path))) x ≡ Open k → (k < length (path ++ net ∷ [])) × (get_or (path ++ net ∷ []) k 0 ≡ x)
  open_path x k h = at_case (cases_eq x net) where
    at_case : (x ≡ net) ⊎ (x ≡ net → ⊥) → (k < length (path ++ net ∷ [])) × (get_or (path ++ net ∷ []) k 0 ≡ x)
    at_case (inl same) =
        let place : length path ≡ k = open_place (length path) k (sym (mark_same marks net (Open (length path)) in_marks) ∙ ap (mark_at (set marks net (Open (length path)))) (sym same) ∙ h) in
        (omega (arith, length_push path net), ap (λ j. get_or (path ++ net ∷ []) j 0) (sym place) ∙ last ∙ sym same)
    at_case (inr other) =
        let old = w.open_path x k (sym (mark_other marks net x (Open (length path)) other) ∙ h) in
        (omega (arith, length_push path net, old.0), front k old.0 ∙ old.1)

  linked : (i j : ℕ) → i < j → j < length (path ++ net ∷ []) → Depends reads (get_or (path ++ net ∷ []) i 0) (get_or (path ++ net ∷ []) j 0)
  linked i j ij h = at_case (cases_eq j (length path)) where
    D : ℕ → ℕ → Type 0
    D a b = Depends reads a b

    at_case : (j ≡ length path) ⊎ (j ≡ length path → ⊥) → Depends reads (get_or (path ++ net ∷ []) i 0) (get_or (path ++ net ∷ []) j 0)
    at_case (inl same) =
        let below : i < length path = omega arith in
        subst (λ (b : ℕ). Depends reads (get_or (path ++ net ∷ []) i 0) b) (sym (ap (λ m. get_or (path ++ net ∷ []) m 0) same ∙ last)) (subst (λ (a : ℕ). Depends reads a net) (sym (front i below)) (leads i below))
    at_case (inr ne) =
        let jb : j < length path = omega (arith, length_push path net) in
        let ib : i < length path = omega arith in
        subst (λ (b : ℕ). Depends reads (get_or (path ++ net ∷ []) i 0) b) (sym (front j jb)) (subst (λ (a : ℕ). Depends reads a (get_or path j 0)) (sym (front i ib)) (w.linked i j ij jb))

-- ---- leaving a net
pub leave_walks : (reads : ℕ → List ℕ) (n : ℕ) (marks : List Mark) (left path order : List ℕ) (net : ℕ) → Walks reads n marks left (path ++ net ∷ []) order → get_or left net 0 ≡ 0
    → Walks reads n (set marks net Done) left path (order ++ net ∷ [])
leave_walks reads n marks left path order net w none = record {
  marks_size = length-set marks net Done ∙ w.marks_size;
  left_size = w.left_size;
  bounded = w.bounded;
  path_open = path_open;
  open_path = open_path;
  linked = λ i j ij h. subst (λ (b : ℕ). Depends reads (get_or path i 0) b) (front j h) (subst (λ (a : ℕ). Depends reads a (get_or (path ++ net ∷ []) j 0)) (front i (omega arith)) (w.linked i j ij (omega (arith, length_push path net))));
  looked = λ x k below from to. done _ (w.looked x k below from to);
  done_left = done_left;
  order_done = order_done;
  done_order = done_order;
  distinct = distinct;
  earlier = earlier;
} where
  front : (k : ℕ) → k < length path → get_or (path ++ net ∷ []) k 0 ≡ get_or path k 0
  front k h = get_or_append_left path (net ∷ []) 0 k h

  is_open : mark_at marks net ≡ Open (length path)
  is_open = ap (mark_at marks) (sym (get_or_push path net 0 (length path) refl)) ∙ w.path_open (length path) (omega (arith, length_push path net))

  in_marks : net < length marks
  in_marks = marked_below marks net (λ e. open_new (length path) (sym is_open ∙ e))

  in_nets : net < n
  in_nets = omega (arith, w.marks_size, in_marks)

  done : (x : ℕ) → mark_at marks x ≡ Done → mark_at (set marks net Done) x ≡ Done
  done x h = mark_other marks net x Done (apart marks x net Done (Open (length path)) h is_open (done_open (length path))) ∙ h

  path_open : (k : ℕ) → k < length path → mark_at (set marks net Done) (get_or path k 0) ≡ Open k
  path_open k h =
      let old : mark_at marks (get_or path k 0) ≡ Open k = ap (mark_at marks) (sym (front k h)) ∙ w.path_open k (omega (arith, length_push path net)) in
      mark_other marks net (get_or path k 0) Done (apart marks (get_or path k 0) net (Open k) (Open (length path)) old is_open (λ e. absurd (omega (arith, open_place k (length path) e)))) ∙ old

  open_path : (x k : ℕ) → mark_at (set marks net Done) x ≡ Open k → (k < length path) × (get_or path k 0 ≡ x)
  open_path x k h = at_case (cases_eq x net) where
    at_case : (x ≡ net) ⊎ (x ≡ net → ⊥) → (k < length path) × (get_or path k 0 ≡ x)
    at_case (inl same) = absurd (done_open k (sym (mark_same marks net Done in_marks) ∙ ap (mark_at (set marks net Done)) (sym same) ∙ h))
    at_case (inr other) =
        let old = w.open_path x k (sym (mark_other marks net x Done other) ∙ h) in
        let not_last : k ≢ length path = λ e. other (sym old.1 ∙ ap (λ j. get_or (path ++ net ∷ []) j 0) e ∙ get_or_push path net 0 (length path) refl) in
        let below : k < length path = omega (arith, length_push path net, old.0, not_last) in
        (below, sym (front k below) ∙ old.1)

  done_left : (x : ℕ) → mark_at (set marks net Done) x ≡ Done → get_or left x 0 ≡ 0
  done_left x h = at_case (cases_eq x net) where
    at_case : (x ≡ net) ⊎ (x ≡ net → ⊥) → get_or left x 0 ≡ 0
    at_case (inl same) = ap (λ y. get_or left y 0) same ∙ none
    at_case (inr other) = w.done_left x (sym (mark_other marks net x Done other) ∙ h)

  old_order : (p : ℕ) → p < length order → get_or (order ++ net ∷ []) p 0 ≡ get_or order p 0
  old_order p h = get_or_append_left order (net ∷ []) 0 p h

  last_order : get_or (order ++ net ∷ []) (length order) 0 ≡ net
  last_order = get_or_push order net 0 (length order) refl

  order_done : (p : ℕ) → p < length (order ++ net ∷ []) → mark_at (set marks net Done) (get_or (order ++ net ∷ []) p 0) ≡ Done
  order_done p h = at_case (cases_eq p (length order)) where
    at_case : (p ≡ length order) ⊎ (p ≡ length order → ⊥) → mark_at (set marks net Done) (get_or (order ++ net ∷ []) p 0) ≡ Done
    at_case (inl same) = ap (mark_at (set marks net Done)) (ap (λ j. get_or (order ++ net ∷ []) j 0) same ∙ last_order) ∙ mark_same marks net Done in_marks
    at_case (inr ne) =
        let below : p < length order = omega (arith, length_push order net) in
        ap (mark_at (set marks net Done)) (old_order p below) ∙ done _ (w.order_done p below)

  done_order : (x : ℕ) → mark_at (set marks net Done) x ≡ Done → (p : ℕ) × (p < length (order ++ net ∷ [])) × (get_or (order ++ net ∷ []) p 0 ≡ x)
  done_order x h = at_case (cases_eq x net) where
    at_case : (x ≡ net) ⊎ (x ≡ net → ⊥) → (p : ℕ) × (p < length (order ++ net ∷ [])) × (get_or (order ++ net ∷ []) p 0 ≡ x)
    at_case (inl same) = (length order, omega (arith, length_push order net), last_order ∙ sym same)
    at_case (inr other) =
        let old = w.done_order x (sym (mark_other marks net x Done other) ∙ h) in
        (old.0, omega (arith, length_push order net, old.1), old_order old.0 old.1 ∙ old.2)

  distinct : (p q : ℕ) → p < q → q < length (order ++ net ∷ []) → get_or (order ++ net ∷ []) p 0 ≢ get_or (order ++ net ∷ []) q 0
  distinct p q pq h e = at_case (cases_eq q (length order)) where
    at_case : (q ≡ length order) ⊎ (q ≡ length order → ⊥) → ⊥
    at_case (inl same) =
        let below : p < length order = omega arith in
        apart marks (get_or order p 0) net Done (Open (length path)) (w.order_done p below) is_open (done_open (length path)) (sym (old_order p below) ∙ e ∙ ap (λ j. get_or (order ++ net ∷ []) j 0) same ∙ last_order)
    at_case (inr ne) =
        let qb : q < length order = omega (arith, length_push order net) in
        let pb : p < length order = omega arith in
        w.distinct p q pq qb (sym (old_order p pb) ∙ e ∙ old_order q qb)

  earlier : (p k : ℕ) → p < length (order ++ net ∷ []) → k < length (reads (get_or (order ++ net ∷ []) p 0)) → (q : ℕ) × (q < p) × (get_or (order ++ net ∷ []) q 0 ≡ get_or (reads (get_or (order ++ net ∷ []) p 0)) k 0)
  earlier p k h hk = at_case (cases_eq p (length order)) where
    at_case : (p ≡ length order) ⊎ (p ≡ length order → ⊥) → (q : ℕ) × (q < p) × (get_or (order ++ net ∷ []) q 0 ≡ get_or (reads (get_or (order ++ net ∷ []) p 0)) k 0)
    at_case (inl same) =
        let is_net : get_or (order ++ net ∷ []) p 0 ≡ net = ap (λ j. get_or (order ++ net ∷ []) j 0) same ∙ last_order in
        let in_reads : k < length (reads net) = subst (λ (x : ℕ). k < length (reads x)) is_net hk in
        let found = w.done_order (get_or (reads net) k 0) (w.looked net k in_nets (omega (arith, none)) in_reads) in
        (found.0, omega (arith, found.1, same), old_order found.0 found.1 ∙ found.2 ∙ ap (λ x. get_or (reads x) k 0) (sym is_net))
    at_case (inr ne) =
        let below : p < length order = omega (arith, length_push order net) in
        let in_reads : k < length (reads (get_or order p 0)) = subst (λ (x : ℕ). k < length (reads x)) (old_order p below) hk in
        let found = w.earlier p k below in_reads in
        (found.0, found.1, old_order found.0 (omega (arith, found.1, below)) ∙ found.2 ∙ ap (λ x. get_or (reads x) k 0) (sym (old_order p below)))

-- ---- one input less to look at
pub look_walks : (reads : ℕ → List ℕ) (n : ℕ) (marks : List Mark) (left path order : List ℕ) (net m : ℕ) → Walks reads n marks left path order → net < n → get_or left net 0 ≡ m + 1 → mark_at marks net ≢ Done
    → mark_at marks (get_or (reads net) m 0) ≡ Done
    → Walks reads n marks (set left net m) path order
look_walks reads n marks left path order net m w lt left_is not_done is_done = record {
  marks_size = w.marks_size;
  left_size = length-set left net m ∙ w.left_size;
  bounded = bounded;
  path_open = w.path_open;
  open_path = w.open_path;
  linked = w.linked;
  looked = looked;
  done_left = λ x h. get_or-set_other left net x m 0 (λ e. not_done (ap (mark_at marks) (sym e) ∙ h)) ∙ w.done_left x h;
  order_done = w.order_done;
  done_order = w.done_order;
  distinct = w.distinct;
  earlier = w.earlier;
} where
  in_left : net < length left
  in_left = omega (arith, w.left_size)

  bounded : (x : ℕ) → x < n → get_or (set left net m) x 0 ≤ length (reads x)
  bounded x below = at_case (cases_eq x net) where
    at_case : (x ≡ net) ⊎ (x ≡ net → ⊥) → get_or (set left net m) x 0 ≤ length (reads x)
    at_case (inl same) = subst (λ (y : ℕ). get_or (set left net m) y 0 ≤ length (reads y)) (sym same) (omega (arith, get_or-set_same left net m 0 in_left, w.bounded net lt, left_is))
    at_case (inr other) = omega (arith, get_or-set_other left net x m 0 other, w.bounded x below)

  looked : (x k : ℕ) → x < n → get_or (set left net m) x 0 ≤ k → k < length (reads x) → mark_at marks (get_or (reads x) k 0) ≡ Done
  looked x k below from to = at_case (cases_eq x net) (cases_eq k m) where
    at_case : (x ≡ net) ⊎ (x ≡ net → ⊥) → (k ≡ m) ⊎ (k ≡ m → ⊥) → mark_at marks (get_or (reads x) k 0) ≡ Done
    at_case (inl same) (inl here) = ap (λ y. mark_at marks (get_or (reads y) k 0)) same ∙ ap (λ j. mark_at marks (get_or (reads net) j 0)) here ∙ is_done
    at_case (inl same) (inr there) =
        let at_net : get_or (set left net m) x 0 ≡ m = ap (λ y. get_or (set left net m) y 0) same ∙ get_or-set_same left net m 0 in_left in
        let at_x : get_or left x 0 ≡ m + 1 = ap (λ y. get_or left y 0) same ∙ left_is in
        w.looked x k below (omega (arith, at_net, at_x, from, there)) to
    at_case (inr other) h = w.looked x k below (omega (arith, get_or-set_other left net x m 0 other, from)) to

-- ---- a net on the path
pub path_below : (reads : ℕ → List ℕ) (n : ℕ) (marks : List Mark) (left path order : List ℕ) (k net : ℕ) → Walks reads n marks left path order → k < length path → get_or path k 0 ≡ net → net < n
path_below reads n marks left path order k net w lt at =
    let is_open : mark_at marks net ≡ Open k = ap (mark_at marks) (sym at) ∙ w.path_open k lt in
    omega (arith, w.marks_size, marked_below marks net (λ e. open_new k (sym is_open ∙ e)))

pub path_not_done : (reads : ℕ → List ℕ) (n : ℕ) (marks : List Mark) (left path order : List ℕ) (k net : ℕ) → Walks reads n marks left path order → k < length path → get_or path k 0 ≡ net → mark_at marks net ≢ Done
path_not_done reads n marks left path order k net w lt at e = done_open k (sym e ∙ ap (mark_at marks) (sym at) ∙ w.path_open k lt)

pub leads_on : (reads : ℕ → List ℕ) (n : ℕ) (marks : List Mark) (left path order : List ℕ) (net m : ℕ) → Walks reads n marks left path order → 0 < length path → get_or path (length path - 1) 0 ≡ net → m < length (reads net)
    → (k : ℕ) → k < length path → Depends reads (get_or path k 0) (get_or (reads net) m 0)
leads_on reads n marks left path order net m w some last in_reads k lt = at_case (cases_eq k (length path - 1)) where
  at_case : (k ≡ length path - 1) ⊎ (k ≡ length path - 1 → ⊥) → Depends reads (get_or path k 0) (get_or (reads net) m 0)
  at_case (inl same) = subst (λ (a : ℕ). Depends reads a (get_or (reads net) m 0)) (sym (ap (λ j. get_or path j 0) same ∙ last)) (depends_one reads net (get_or (reads net) m 0) (contains_at (reads net) m (get_or (reads net) m 0) in_reads refl))
  at_case (inr ne) =
      let to_net = subst (λ (b : ℕ). Depends reads (get_or path k 0) b) last (w.linked k (length path - 1) (omega arith) (omega arith)) in
      depends_more reads (get_or path k 0) net (get_or (reads net) m 0) to_net (contains_at (reads net) m (get_or (reads net) m 0) in_reads refl)

-- the next input is on the path
pub ring_found : (reads : ℕ → List ℕ) (n : ℕ) (marks : List Mark) (left path order : List ℕ) (net m place : ℕ) → Walks reads n marks left path order → 0 < length path → get_or path (length path - 1) 0 ≡ net → m < length (reads net)
    → mark_at marks (get_or (reads net) m 0) ≡ Open place → Depends reads (get_or (reads net) m 0) (get_or (reads net) m 0)
ring_found reads n marks left path order net m place w some last in_reads is_open =
    let at = w.open_path (get_or (reads net) m 0) place is_open in
    subst (λ (a : ℕ). Depends reads a (get_or (reads net) m 0)) at.1 (leads_on reads n marks left path order net m w some last in_reads place at.0)

-- ---- steps
pub fewer_enter : (marks : List Mark) (left path : List ℕ) (net k : ℕ) → net < length marks → mark_at marks net ≡ New → steps_left (set marks net (Open k)) left (path ++ net ∷ []) < steps_left marks left path
fewer_enter marks left path net k lt new =
    omega (arith, sum_by-set (λ (m : Mark). cond (is_new m) 1 0) marks net (Open k) New lt, ap {B = ℕ} (λ (m : Mark). cond (is_new m) 1 0) new, length_push path net)

pub fewer_leave : (marks : List Mark) (left path : List ℕ) (net k : ℕ) → net < length marks → mark_at marks net ≡ Open k → steps_left (set marks net Done) left path < steps_left marks left (path ++ net ∷ [])
fewer_leave marks left path net k lt is_open =
    omega (arith, sum_by-set (λ (m : Mark). cond (is_new m) 1 0) marks net Done New lt, ap {B = ℕ} (λ (m : Mark). cond (is_new m) 1 0) is_open, length_push path net)

pub fewer_look : (marks : List Mark) (left path : List ℕ) (net m : ℕ) → net < length left → get_or left net 0 ≡ m + 1 → steps_left marks (set left net m) path < steps_left marks left path
fewer_look marks left path net m lt is =
    omega (arith, sum_by-set (λ (x : ℕ). x) left net m 0 lt, is)

-- a net that isn't new stays so
pub seen_more : (marks : List Mark) (net : ℕ) (m : Mark) → net < length marks → (m ≡ New → ⊥) → (x : ℕ) → mark_at marks x ≢ New → mark_at (set marks net m) x ≢ New
seen_more marks net m lt ne x old e = at_case (cases_eq x net) where
  at_case : (x ≡ net) ⊎ (x ≡ net → ⊥) → ⊥
  at_case (inl same) = ne (sym (mark_same marks net m lt) ∙ ap (mark_at (set marks net m)) (sym same) ∙ e)
  at_case (inr other) = old (sym (mark_other marks net x m other) ∙ e)

pub not_new_open : (k : ℕ) → Open k ≡ New → ⊥
not_new_open k e = open_new k e

pub not_new_done : Done ≡ New → ⊥
not_new_done e = done_new e

pub now_open : (marks : List Mark) (net : ℕ) (k : ℕ) → net < length marks → mark_at (set marks net (Open k)) net ≢ New
now_open marks net k lt e = open_new k (sym (mark_same marks net (Open k) lt) ∙ e)

pub open_last : (reads : ℕ → List ℕ) (n : ℕ) (marks : List Mark) (left path order : List ℕ) (net : ℕ) → Walks reads n marks left (path ++ net ∷ []) order → mark_at marks net ≡ Open (length path)
open_last reads n marks left path order net w = ap (mark_at marks) (sym (get_or_push path net 0 (length path) refl)) ∙ w.path_open (length path) (omega (arith, length_push path net))
