-- The numbers of nets are apart where their names are.
use Rattle.std.proofs.Common.{◌≡◌, ℕ, ◌<◌, List, [], length, get_or, bytes_eq, sym, ap, ◌∙◌, subst}
use Rattle.std.proofs.lemmas.List.Sums.{passes_at_first}
use Rattle.std.proofs.lemmas.Slice.Eq.{bytes_eq-Decides}
use Rattle.blif_read.specs.Nets.{number}

-- two names of one number that a net has are one
pub same_number : (names : List (List ℕ)) (x y : List ℕ) → number names x ≡ number names y → number names x < length names → x ≡ y
unfolding number
same_number names x y e below =
    (bytes_eq-Decides x _).0 (passes_at_first (bytes_eq x) names [] below)
    ∙ ap (λ k. get_or names k []) e
    ∙ sym ((bytes_eq-Decides y _).0 (passes_at_first (bytes_eq y) names [] (subst (λ k. k < length names) e below)))
