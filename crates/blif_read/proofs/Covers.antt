-- The words of a `.names`, cut before the last one.
use Rattle.std.proofs.Common.{◌≡◌, List, [], ◌∷◌, ◌++◌, ap, ◌∙◌, arith, length, length-append}
use Rattle.blif_read.specs.declared.directives.Directive.TheVariants.{Names}
use Rattle.blif_read.specs.Directives.{Name, names_directive, cover_from}

not_empty : {A : Type 0} (xs : List A) (x : A) → [] ≡ xs ++ x ∷ [] → ⊥
not_empty {A} xs x e = omega (arith, ap length e, length-append xs (x ∷ []))

abbrev Cut : Type 0
Cut = List Name × Name

cut : List Name → Name → Cut
cut front last = (front, last)

cover_from-push : (net : Name) (more front : List Name) (last : Name) → net ∷ more ≡ front ++ last ∷ [] → cover_from net more ≡ cut front last
unfolding cut
cover_from-push net [] [] last e = let h : net ≡ last = cc in ap (cut []) h
cover_from-push net [] (x ∷ xs) last e = let h : [] ≡ xs ++ last ∷ [] = cc in absurd (not_empty xs last h)
cover_from-push net (next ∷ more) [] last e = cc
cover_from-push net (next ∷ more) (x ∷ xs) last e =
    let h : net ≡ x = cc in
    let t : next ∷ more ≡ xs ++ last ∷ [] = cc in
    let ih = cover_from-push next more xs last t in
    ap (λ (c : Cut). cut (net ∷ c.0) c.1) ih ∙ ap (λ n. cut (n ∷ xs) last) h

pub names_of_last : (words front : List Name) (last : Name) → words ≡ front ++ last ∷ [] → names_directive words ≡ Names front last
unfolding cut
names_of_last [] front last e = absurd (not_empty front last e)
names_of_last (net ∷ more) front last e = ap (λ (c : Cut). Names c.0 c.1) (cover_from-push net more front last e)
