-- Values of rows and covers, one item at a time.
use Rattle.std.proofs.Common.{◌≡◌, ℕ, ◌+◌, ◌<◌, ◌≤◌, List, [], ◌∷◌, length, take, get_or, map, sym, ◌∙◌, ap, arith}
use Rattle.std.specs.List.{fold, zip}
use Rattle.std.proofs.lemmas.List.{take_more, take_all, get_or-map, map-append, ext_get_or, length-map}
use Rattle.std.proofs.lemmas.List.Sums.{fold_push}
use Rattle.std.proofs.lemmas.Slice.Zip.{length-zip, get_or-zip}
use Rattle.four_state.specs.Logic.{and_logic}
use Rattle.four_state.specs.declared.bit.Bit3.{Bit3}
use Rattle.four_state.specs.declared.bit.Bit3.TheVariants.{One, X}
use Rattle.blif_read.specs.declared.netlist.Latch.{Latch}
use Rattle.blif_device.specs.Covers.{literal_value, literal_values, all_of, row_value}

-- a fold over what f makes of the items, one item more
pub fold-map_more : {A B C : Type 0} (g : C → B → C) (a : C) (f : A → B) (xs : List A) (i : ℕ) (d : A) → i < length xs → fold g a (map f (take (i + 1) xs)) ≡ g (fold g a (map f (take i xs))) (f (get_or xs i d))
fold-map_more g a f xs i d lt =
    ap (λ ys. fold g a (map f ys)) (take_more xs i d lt)
    ∙ ap (fold g a) (map-append f (take i xs) (get_or xs i d ∷ []))
    ∙ fold_push g a (map f (take i xs)) (f (get_or xs i d))

-- one literal more, and all
pub row_more : (v : ℕ → Bit3) (inputs row : List ℕ) (i : ℕ) → i < length inputs → length row ≡ length inputs → all_of (literal_values v (take (i + 1) (zip inputs row))) ≡ and_logic (all_of (literal_values v (take i (zip inputs row)))) (literal_value (get_or row i 0) (v (get_or inputs i 0)))
row_more v inputs row i lt size =
    let in_row : i < length row = omega arith in
    let in_zip : i < length (zip inputs row) = omega (arith, length-zip inputs row) in
    fold-map_more and_logic One (λ (l : ℕ × ℕ). literal_value l.1 (v l.0)) (zip inputs row) i (0, 0) in_zip
    ∙ ap (λ (l : ℕ × ℕ). and_logic (all_of (literal_values v (take i (zip inputs row)))) (literal_value l.1 (v l.0))) (get_or-zip inputs row i (0, 0) lt in_row)

pub row_all : (v : ℕ → Bit3) (inputs row : List ℕ) (i : ℕ) → length inputs ≤ i → all_of (literal_values v (take i (zip inputs row))) ≡ row_value v inputs row
unfolding row_value
row_all v inputs row i le = ap (λ ls. all_of (literal_values v ls)) (take_all i (zip inputs row) (omega (arith, length-zip inputs row)))

pub latches_all : (v : ℕ → Bit3) (held : List Bit3) (latches : List Latch) → length held ≡ length latches → ((j : ℕ) (d : Latch) → j < length latches → get_or held j X ≡ v (get_or latches j d).input) → held ≡ map (λ l. v l.input) latches
latches_all v held latches size each =
    ext_get_or X held (map (λ l. v l.input) latches) (size ∙ sym (length-map latches (λ l. v l.input))) (λ j lt. at latches j (omega arith) (λ d. each j d (omega arith))) where
      at : (ls : List Latch) (j : ℕ) → j < length ls → ((d : Latch) → get_or held j X ≡ v (get_or ls j d).input) → get_or held j X ≡ get_or (map (λ l. v l.input) ls) j X
      at [] j lt h = absurd (omega arith)
      at (l ∷ ls) j lt h = h l ∙ sym (get_or-map (λ (l : Latch). v l.input) (l ∷ ls) j l X lt)
