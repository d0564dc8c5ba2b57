-- Where a run has printed too much.
use Rattle.std.proofs.Common.{◌≡◌, ◌≢◌, ℕ, ◌+◌, ◌*◌, ◌<◌, ◌≤◌, nat_lt, Bool, true, false, length, Option, Some, None, is_some, if◌then◌else◌, refl, ap, ◌∙◌, arith}
use Rattle.std.proofs.lemmas.Bool.Decides.{nat_tests}
use Rattle.run_rules.specs.States.{State, End, Fault}
use Rattle.run_rules.specs.Moves.{text_limited, most_text}

abbrev size : {R : Type 0} → State R → ℕ
size s = length s.printed + 64 * length s.applied

abbrev given : {R : Type 0} → State R → Option End → Bool → State R
given s o much = if is_some o then s else (if much then record s { ended = Some (Fault 9 0) } else s)

ltb-above : (a b : ℕ) → a < b → nat_lt a b ≡ true
ltb-above a b h = grind (arith, nat_tests)

ltb-below : (a b : ℕ) → b ≤ a → nat_lt a b ≡ false
ltb-below a b h = grind (arith, nat_tests)

pub text-fault : {R : Type 0} (s : State R) → s.ended ≡ None → most_text < length s.printed + 64 * length s.applied → text_limited s ≡ record s { ended = Some (Fault 9 0) }
text-fault s still much =
    ap (λ o. given s o (nat_lt most_text (size s))) still ∙ ap (given s None) (ltb-above most_text (size s) much)

pub text-same : {R : Type 0} (s : State R) → length s.printed + 64 * length s.applied ≤ most_text → text_limited s ≡ s
text-same {R} s few = ap (given s s.ended) (ltb-below most_text (size s) few) ∙ by s.ended
  where
    by : (o : Option End) → given s o false ≡ s
    by (Some e) = refl
    by None = refl

pub text-ended : {R : Type 0} (s : State R) → s.ended ≢ None → text_limited s ≡ s
text-ended {R} s over = by s.ended over
  where
    by : (o : Option End) → o ≢ None → given s o (nat_lt most_text (size s)) ≡ s
    by (Some e) h = refl
    by None h = absurd (h refl)
