-- The first walk, and what one that came back from every net has found.
use Rattle.std.proofs.Common.{◌≡◌, ◌≢◌, ℕ, ◌<◌, ◌≤◌, List, length, get_or, replicate, refl, sym, ◌∙◌, arith, ◌⊎◌, inl, inr}
use Rattle.std.proofs.lemmas.List.{get_or-replicate, length-replicate, get_or_past}
use Rattle.std.proofs.lemmas.Bool.{cases_lt}
use Rattle.blif_device.specs.declared.walk.Mark.{Mark}
use Rattle.blif_device.specs.declared.walk.Mark.TheVariants.{New, Open, Done}
use Rattle.blif_device.specs.Orders.{IsOrder}
use Rattle.blif_device.specs.Walks.{Walks, mark_at}
use Rattle.blif_device.proofs.Stepping.{marked_below}

all_new : (n x : ℕ) → mark_at (replicate n New) x ≡ New
all_new n x = at_case (cases_lt x n) where
  at_case : (x < n) ⊎ (n ≤ x) → mark_at (replicate n New) x ≡ New
  at_case (inl lt) = get_or-replicate n x New New lt
  at_case (inr le) = get_or_past (replicate n New) x New (omega (arith, length-replicate n New))

not_done : (n x : ℕ) → mark_at (replicate n New) x ≡ Done → ⊥
not_done n x e = let h = all_new n x in cc

pub whole_order : (reads : ℕ → List ℕ) (n : ℕ) (marks : List Mark) (left path order : List ℕ) → Walks reads n marks left path order → length path ≡ 0 → ((x : ℕ) → x < n → mark_at marks x ≢ New) → IsOrder reads n order
whole_order reads n marks left path order w back seen = record {
  below = λ p lt. omega (arith, w.marks_size, marked_below marks (get_or order p 0) (λ e. done_new (sym (w.order_done p lt) ∙ e)));
  earlier = w.earlier;
  distinct = w.distinct;
  all = λ net lt. w.done_order net (done net lt (mark_at marks net) refl);
} where
  done_new : Done ≡ New → ⊥
  done_new e = cc

  done : (net : ℕ) → net < n → (m : Mark) → mark_at marks net ≡ m → mark_at marks net ≡ Done
  done net lt New e = absurd (seen net lt e)
  done net lt (Open k) e = absurd (omega (arith, (w.open_path net k e).0, back))
  done net lt Done e = e
