-- How the names that are known grow, name by name, and the index that finds their numbers.
use Rattle.std.specs.Prelude.{◌≡◌, ℕ, Bool, List, [], ◌∷◌, ◌++◌, map, flat_map, Some, None, if◌then◌else◌, bytes_eq}
use Rattle.std.specs.List.{list_any}
use Rattle.std.specs.HashMap as hash
use Rattle.blif_read.specs.declared.directives.Directive.{Directive}
use Rattle.blif_read.specs.declared.directives.Block.{Block}
use Rattle.blif_read.specs.declared.nets.Nets.{Nets}
use Rattle.blif_read.specs.Directives.{Name}
use Rattle.blif_read.specs.Nets.{names, renamed, number, numbered}

-- whether the name is among those
unfoldable pub is_known : List Name → Name → Bool
is_known known name = list_any (bytes_eq name) known

-- with the name, where it is a new one
unfoldable pub known_with : Name → List Name → List Name
known_with name known = if is_known known name then known else known ++ name ∷ []

-- with each of the names in turn
unfoldable pub known_with_all : List Name → List Name → List Name
known_with_all [] known = known
known_with_all (name ∷ more) known = known_with_all more (known_with name known)

-- the index has the number of each known name, and no other name
pub record IsIndex (n : Nets) : Type 0 where
  pub finds : (name : Name) → hash.get_by (λ key. bytes_eq name key.items) n.numbers ≡ (if is_known n.known.items name then Some (number n.known.items name) else None)

-- a name has got its number, which stays as further names come
pub record Numbers (old new : Nets) (name : Name) (n : ℕ) : Type 0 where
  pub known : new.known.items ≡ known_with name old.known.items
  pub stays : (more : List Name) → number (new.known.items ++ more) name ≡ n
  pub index : IsIndex new

pub record NumbersAll (old new : Nets) (names : List Name) (ns : List ℕ) : Type 0 where
  pub known : new.known.items ≡ known_with_all names old.known.items
  pub stays : (more : List Name) → map (number (new.known.items ++ more)) names ≡ ns
  pub index : IsIndex new

pub record NumbersDirective (old new : Nets) (d : Directive Name) (r : Directive ℕ) : Type 0 where
  pub known : new.known.items ≡ known_with_all (names d) old.known.items
  pub stays : (more : List Name) → renamed (number (new.known.items ++ more)) d ≡ r
  pub index : IsIndex new

pub record NumbersBlocks (new : Nets) (blocks : List (Block Name)) (ns : List (Block ℕ)) : Type 0 where
  pub known : new.known.items ≡ known_with_all (flat_map (λ b. names b.directive) blocks) []
  pub stays : (more : List Name) → map (numbered (new.known.items ++ more)) blocks ≡ ns
  pub index : IsIndex new
