-- A file that is found among pairs of a name and a vector.
use Rattle.std.proofs.Common.{◌≡◌, ℕ, List, [], ◌∷◌, refl, Bool, true, false, Option, Some, Vec, cond}
use Rattle.std.specs.Option.{option_map}
use Rattle.std.specs.List.{find}
use Rattle.std.specs.Str.{bytes_eq}
use Rattle.std.specs.declared.alloc.Global.{Global}
use Rattle.vera_io.specs.MemoryShelf.{file_of, contents_of}

found_by : (b : Bool) (pair : List ℕ × Vec ℕ Global) (o : Option (List ℕ × List ℕ)) (p : Option (List ℕ × Vec ℕ Global))
    → option_map (λ file. file.1) o ≡ option_map (λ file. file.1.items) p
    → option_map (λ file. file.1) (cond b (Some (pair.0, pair.1.items)) o) ≡ option_map (λ file. file.1.items) (cond b (Some pair) p)
found_by true pair o p e = refl
found_by false pair o p e = e

-- the file found among the pairs is the one found among the names and bytes
pub file_of_pairs : (files : List (List ℕ × Vec ℕ Global)) (name : List ℕ)
    → file_of (contents_of files) name ≡ option_map (λ file. file.1.items) (find (λ file. bytes_eq file.0 name) files)
file_of_pairs [] name = refl
file_of_pairs (file ∷ files) name = found_by (bytes_eq file.0 name) file _ _ (file_of_pairs files name)
