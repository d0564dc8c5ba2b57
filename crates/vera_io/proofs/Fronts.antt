-- The front of a file that is read so far.
use Rattle.std.proofs.Common.{◌≡◌, ℕ, ◌+◌, ◌<◌, ◌≤◌, List, ◌++◌, length, take, drop, sym, ap, ◌∙◌, Option, None, Some, IfSome, append-nil, length-take}
use Rattle.std.proofs.lemmas.List.{take_all, take_min}
use Rattle.std.proofs.Math.Seq.{take-add}
use Rattle.vera_io.specs.Shelf.{ReadsFrom, IsFrontOf}

take-length-take : (k : ℕ) (xs : List ℕ) → take k xs ≡ take (length (take k xs)) xs
take-length-take k xs = rw length-take (sym (take_min k xs))

front_more : (file bytes : List ℕ) (n : ℕ) → bytes ≡ take (length bytes) file → bytes ++ take n (drop (length bytes) file) ≡ take (length bytes + n) file
front_more file bytes n e = ap (λ l. l ++ take n (drop (length bytes) file)) e ∙ sym (take-add (length bytes) n file)

-- the piece that was read goes on with the front
pub IsFrontOf-more : (told : Option (List ℕ)) (bytes buf next : List ℕ) (n : ℕ) → IsFrontOf bytes told → IfSome told (λ file. ReadsFrom file (length bytes) n buf) → next ≡ bytes ++ take n buf → IsFrontOf next told
IsFrontOf-more None bytes buf next n front read e = tt
IsFrontOf-more (Some file) bytes buf next n front read e =
    let all : next ≡ take (length bytes + n) file = e ∙ ap (λ l. bytes ++ l) read.bytes ∙ front_more file bytes n front in
    all ∙ take-length-take (length bytes + n) file ∙ ap (λ l. take (length l) file) (sym all)

-- a piece of no bytes stands at the file's end
pub whole_at_end : (told : Option (List ℕ)) (bytes buf next : List ℕ) (n : ℕ) → IsFrontOf bytes told → IfSome told (λ file. ReadsFrom file (length bytes) n buf) → next ≡ bytes ++ take n buf
    → 0 < length buf → n ≡ 0 → IfSome told (λ file. next ≡ file)
whole_at_end None bytes buf next n front read e room none = tt
whole_at_end (Some file) bytes buf next n front read e room none =
    let last : length file ≤ length bytes = (read.none room).0 none in
    e ∙ ap (λ k. bytes ++ take k buf) none ∙ append-nil bytes ∙ front ∙ take_all (length bytes) file last
