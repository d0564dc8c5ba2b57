-- How far a text is written.
use Rattle.std.proofs.Common.{◌≡◌, ℕ, ◌-◌, ◌<◌, ◌≤◌, List, ◌++◌, length, take, drop, sym, ap, ◌∙◌, Option, arith, append_assoc, length-append, length-drop}
use Rattle.std.proofs.lemmas.List.{take-append-drop, take_all}
use Rattle.std.proofs.Math.Seq.{take-append_seam}
use Rattle.vera_io.specs.Sink.{taken_more, taken_more-append, TookPart}

-- some front of the bytes is taken, and the rest is to be written
pub record Wrote (first now : Option (List ℕ)) (bytes rest : List ℕ) : Type 0 where
  pub front : List ℕ
  pub whole : front ++ rest ≡ bytes
  pub taken : now ≡ taken_more first front

-- n more bytes are taken off the rest
pub Wrote-more : {first now next : Option (List ℕ)} {bytes rest : List ℕ} (n m : ℕ) → Wrote first now bytes rest → next ≡ taken_more now (take n rest) → length rest ≤ m
    → Wrote first next bytes (take (m - n) (drop n rest))
Wrote-more {first} {now} {next} {bytes} {rest} n m w e h =
    let whole_rest : take (m - n) (drop n rest) ≡ drop n rest = take_all (m - n) (drop n rest) (simp length-drop (omega arith)) in
    record {
      front = w.front ++ take n rest;
      whole = rw whole_rest (append_assoc w.front (take n rest) (drop n rest) ∙ ap (λ l. w.front ++ l) (take-append-drop n rest) ∙ w.whole);
      taken = e ∙ ap (λ t. taken_more t (take n rest)) w.taken ∙ taken_more-append first w.front (take n rest);
    }

-- while something is to be written, not all is taken
pub Wrote-part : {first now : Option (List ℕ)} {bytes rest : List ℕ} → Wrote first now bytes rest → 0 < length rest → TookPart first now bytes
Wrote-part {first} {now} {bytes} {rest} w h =
    let shorter : length w.front < length bytes = omega (arith, simp length-append at (ap length w.whole)) in
    let front_is : take (length w.front) bytes ≡ w.front = rw (← w.whole) (take-append_seam w.front rest) in
    (length w.front, shorter, w.taken ∙ ap (taken_more first) (sym front_is))
