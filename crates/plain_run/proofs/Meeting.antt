-- The meet of two vectors, bit by bit.
use Rattle.std.proofs.Common.{◌≡◌, ℕ, zero, suc, ◌+◌, ◌≤◌, List, [], ◌∷◌, ◌++◌, length, take, Some, slice_get, refl, ap, ◌∙◌, arith, sym}
use Rattle.four_state.specs.declared.bit.Bit.{Bit}
use Rattle.run_rules.specs.Drives.{meet, meet_bit}

-- one bit more
pub meet-more : (a b : List Bit) (n : ℕ) (x y : Bit) → slice_get a n ≡ Some x → slice_get b n ≡ Some y → meet (take (suc n) a) (take (suc n) b) ≡ meet (take n a) (take n b) ++ meet_bit x y ∷ []
meet-more [] b n x y e f = absurd cc
meet-more (a ∷ bits) [] n x y e f = absurd cc
meet-more (a ∷ bits) (b ∷ others) zero x y e f =
    let p : a ≡ x = cc in
    let q : b ≡ y = cc in
    ap (λ u. meet_bit u b ∷ []) p ∙ ap (λ u. meet_bit x u ∷ []) q
meet-more (a ∷ bits) (b ∷ others) (suc n) x y e f = ap (λ xs. meet_bit a b ∷ xs) (meet-more bits others n x y e f)

pub meet-one_more : (a b : List Bit) (n : ℕ) (x y : Bit) → slice_get a n ≡ Some x → slice_get b n ≡ Some y → meet (take (n + 1) a) (take (n + 1) b) ≡ meet (take n a) (take n b) ++ meet_bit x y ∷ []
meet-one_more a b n x y e f =
    let next : n + 1 ≡ suc n = omega arith in
    ap (λ m. meet (take m a) (take m b)) next ∙ meet-more a b n x y e f

pub meet-length : (a b : List Bit) → length a ≡ length b → length (meet a b) ≡ length a
meet-length [] others e = refl
meet-length (a ∷ bits) [] e = absurd (omega (arith, e))
meet-length (a ∷ bits) (b ∷ others) e = ap suc (meet-length bits others (omega (arith, e)))

-- the front of a vector has so many bits
front-length : (a : List Bit) (n : ℕ) → n ≤ length a → length (take n a) ≡ n
front-length a zero h = refl
front-length [] (suc n) h = absurd (omega arith)
front-length (a ∷ bits) (suc n) h = ap suc (front-length bits n (omega arith))

pub meet_front-length : (a b : List Bit) (n : ℕ) → length a ≡ length b → n ≤ length a → length (meet (take n a) (take n b)) ≡ n
meet_front-length a b n same h =
    meet-length (take n a) (take n b) (front-length a n h ∙ sym (front-length b n (omega arith))) ∙ front-length a n h

take_whole : (a : List Bit) (n : ℕ) → length a ≤ n → take n a ≡ a
take_whole [] zero h = refl
take_whole [] (suc n) h = refl
take_whole (a ∷ bits) zero h = absurd (omega arith)
take_whole (a ∷ bits) (suc n) h = ap (λ xs. a ∷ xs) (take_whole bits n (omega arith))

pub meet-whole : (a b : List Bit) (n : ℕ) → length a ≡ length b → length a ≤ n → meet (take n a) (take n b) ≡ meet a b
meet-whole a b n same h = ap (λ x. meet x (take n b)) (take_whole a n h) ∙ ap (meet a) (take_whole b n (omega arith))
