-- Nets that depend on themselves by covers.
use Rattle.std.specs.Prelude.{◌==◌, ℕ, ◌<◌, List, [], ◌∷◌, Contains, filter, flat_map}
use Rattle.blif_read.specs.declared.netlist.NetCover.{NetCover}

-- the nets that a net's cover lists as its inputs
unfoldable pub reads : List NetCover → ℕ → List ℕ
reads covers net = flat_map (λ c. c.inputs) (filter (λ c. c.output == net) covers)

-- from a net to another one: each net of the path reads the next
abbrev pub IsPath : (ℕ → List ℕ) → ℕ → List ℕ → ℕ → Type 0
IsPath reads from [] to = Contains (reads from) to
IsPath reads from (next ∷ more) to = Contains (reads from) next × IsPath reads next more to

-- the first net depends on the second by one or more covers
pub record Depends (reads : ℕ → List ℕ) (from to : ℕ) : Type 0 where
  pub between : List ℕ
  pub path : IsPath reads from between to

-- a net that depends on itself
abbrev pub IsOnRing : List NetCover → ℕ → Type 0
IsOnRing covers net = Depends (reads covers) net net

-- no net before it does
pub record IsFirstOnRing (covers : List NetCover) (net : ℕ) : Type 0 where
  pub on_ring : IsOnRing covers net
  pub first : (other : ℕ) → other < net → IsOnRing covers other → ⊥
