-- The netlist has the nets of the signals that link to it.
use Rattle.std.proofs.Common.{◌≡◌, ℕ, ◌<◌, List, length, All, Some, slice_get, subst}
use Rattle.std.proofs.lemmas.List.Elements.{All-contains}
use Rattle.vera_ast.specs.declared.tree.interfaces.Direction.TheVariants.{Output}
use Rattle.vera_ast.specs.declared.typed.interface.TypedSignalKind.{TypedSignalKind}
use Rattle.vera_ast.specs.declared.typed.interface.TypedSignalKind.TheVariants.{Clock}
use Rattle.vera_ast.specs.declared.typed.interface.TypedSignal.{TypedSignal}
use Rattle.vera_ast.specs.Signals.{NamedSignal}
use Rattle.blif_read.specs.Netlists.{Parts}
use Rattle.blif_read.specs.Valid.{IsValid}
use Rattle.run_rules.specs.Nets.{nets_of}
use Rattle.run_rules.specs.Links.{AllLink, LinksAs, IsDrivable}

pub drivable : (p : Parts) (s : TypedSignal) (kind : TypedSignalKind) → LinksAs p s kind Output → All (IsDrivable p) (nets_of p.nets s)
drivable p s Clock links = links
drivable p s other links = links

pub linked : (p : Parts) (signals : List NamedSignal) (n : ℕ) (s : NamedSignal) → IsValid p → AllLink p signals → slice_get signals n ≡ Some s → s.signal.direction ≡ Output → All (λ net. net < length p.nets) (nets_of p.nets s.signal)
linked p signals n s valid links is output k d below =
    All-contains (λ net. net < length p.nets) p.inputs _ valid.inputs
    (drivable p s.signal s.signal.kind (subst (LinksAs p s.signal s.signal.kind) output (links n s is)) k d below).0
