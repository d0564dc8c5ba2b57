-- Paths of nets that read each other.
use Rattle.std.proofs.Common.{◌≡◌, ℕ, ◌<◌, List, [], ◌∷◌, ◌++◌, length, get_or, ◌∙◌, Contains}
use Rattle.std.proofs.lemmas.List.{get_or_default}
use Rattle.blif_device.specs.Rings.{IsPath, Depends}

-- what stands at a place is in the list
pub contains_at : (xs : List ℕ) (k x : ℕ) → k < length xs → get_or xs k 0 ≡ x → Contains xs x
contains_at xs k x lt e = (k, lt, get_or_default xs k x 0 lt ∙ e)

pub path-push : (reads : ℕ → List ℕ) (a : ℕ) (ms : List ℕ) (b c : ℕ) → IsPath reads a ms b → Contains (reads b) c → IsPath reads a (ms ++ b ∷ []) c
path-push reads a [] b c h r = (h, r)
path-push reads a (m ∷ ms) b c h r = (h.0, path-push reads m ms b c h.1 r)

pub path-append : (reads : ℕ → List ℕ) (a : ℕ) (ms : List ℕ) (b : ℕ) (ns : List ℕ) (c : ℕ) → IsPath reads a ms b → IsPath reads b ns c → IsPath reads a (ms ++ b ∷ ns) c
path-append reads a [] b ns c h k = (h, k)
path-append reads a (m ∷ ms) b ns c h k = (h.0, path-append reads m ms b ns c h.1 k)

pub depends_one : (reads : ℕ → List ℕ) (a b : ℕ) → Contains (reads a) b → Depends reads a b
depends_one reads a b r = record { between = []; path = r }

pub depends_more : (reads : ℕ → List ℕ) (a b c : ℕ) → Depends reads a b → Contains (reads b) c → Depends reads a c
depends_more reads a b c d r = record { between = d.between ++ b ∷ []; path = path-push reads a d.between b c d.path r }
