-- Lists of bits from two words.
use Rattle.std.proofs.Common.{◌≡◌, ℕ, ◌^◌, ◌<◌, Bool, true, ◌&&◌, nat_eq, List, length, ap, sym, ◌∙◌, Decides}
use Rattle.std.proofs.lemmas.Bool.{and_parts, and_from, eqb-true, eq-eqb}
use Rattle.four_state.specs.Words.{bits_of, ones_of, unknown_of}
use Rattle.four_state.specs.Fields.{AreWords}
use Rattle.four_state.specs.WordsBack.{length-bits_of, ones_of-bits_of, unknown_of-bits_of}
use Rattle.four_state.specs.declared.bit.Bit.{Bit}

-- two vectors are the same exactly where their widths and words are
pub same_words : (w o u w' o' u' : ℕ) → o < 2 ^ w → u < 2 ^ w → o' < 2 ^ w' → u' < 2 ^ w' → Decides ((nat_eq w w' && nat_eq o o') && nat_eq u u') (bits_of w o u ≡ bits_of w' o' u')
same_words w o u w' o' u' ho hu ho' hu' = (forth, back)
  where
    forth : ((nat_eq w w' && nat_eq o o') && nat_eq u u') ≡ true → bits_of w o u ≡ bits_of w' o' u'
    forth t =
        let p = and_parts (nat_eq w w' && nat_eq o o') (nat_eq u u') t in
        let q = and_parts (nat_eq w w') (nat_eq o o') p.0 in
        let ew = eqb-true w w' q.0 in
        let eo = eqb-true o o' q.1 in
        let eu = eqb-true u u' p.1 in
        cc

    back : bits_of w o u ≡ bits_of w' o' u' → ((nat_eq w w' && nat_eq o o') && nat_eq u u') ≡ true
    back e =
        let ew = sym (length-bits_of w o u) ∙ ap (λ bits. length bits) e ∙ length-bits_of w' o' u' in
        let eo = sym (ones_of-bits_of w o u ho) ∙ ap ones_of e ∙ ones_of-bits_of w' o' u' ho' in
        let eu = sym (unknown_of-bits_of w o u hu) ∙ ap unknown_of e ∙ unknown_of-bits_of w' o' u' hu' in
        and_from _ _ (and_from _ _ (eq-eqb _ _ ew) (eq-eqb _ _ eo)) (eq-eqb _ _ eu)

-- a test of the widths and words of two vectors
pub same_fields : (w o u w' o' u' : ℕ) (r : Bool) (a b : List Bit) → AreWords w o u → AreWords w' o' u' → bits_of w o u ≡ a → bits_of w' o' u' ≡ b → r ≡ ((nat_eq w w' && nat_eq o o') && nat_eq u u') → Decides r (a ≡ b)
same_fields w o u w' o' u' r a b h h' e e' t =
    rw (t, ← e, ← e') (same_words w o u w' o' u' h.ones_fit h.unknown_fit h'.ones_fit h'.unknown_fit)
