-- Signals in order: those that link, and the first that doesn't.
use Rattle.std.proofs.Common.{◌≡◌, ℕ, zero, suc, ◌<◌, List, [], ◌∷◌, ◌++◌, length, map, refl, sym, ◌∙◌, ap, subst, append_assoc, append-nil, Option, None, Some, Result, Ok, Err, arith}
use Rattle.std.specs.Prelude.{slice_get}
use Rattle.std.specs.Option.{option_map}
use Rattle.std.proofs.lemmas.List.{map-append, length-map}
use Rattle.std.proofs.lemmas.Option.{slice_get-map}
use Rattle.vera_ast.specs.declared.typed.interface.TypedSignal.{TypedSignal}
use Rattle.vera_ast.specs.Signals.{NamedSignal}
use Rattle.blif_read.specs.Netlists.{Parts}
use Rattle.run_rules.specs.Links.{Links, AllLink, IsFirstUnlinked}
use Rattle.signal_link.specs.declared.linking.SignalNets.{SignalNets}
use Rattle.signal_link.specs.declared.linking.LinkError.{LinkError}
use Rattle.signal_link.specs.declared.linking.LinkError.TheVariants.{Unlinked, NoMemory}
use Rattle.signal_link.specs.Linked.{signal_nets, AreNetsOf, IsLinkError}
use Rattle.signal_link.specs.Linking.{AreLinked, StopsAt, Continues, IsUnlinkedAt}

-- ---- one more signal

one_at : (p : Parts) (s : NamedSignal) → Links p s.signal → (n : ℕ) (t : NamedSignal) → slice_get (s ∷ []) n ≡ Some t → Links p t.signal
one_at p s k zero t e = let same : s ≡ t = cc in subst (λ (x : NamedSignal). Links p x.signal) same k
one_at p s k (suc n) t e = cc

all-push : (p : Parts) (xs : List NamedSignal) (s : NamedSignal) → AllLink p xs → Links p s.signal → (n : ℕ) (t : NamedSignal) → slice_get (xs ++ s ∷ []) n ≡ Some t → Links p t.signal
all-push p [] s h k n t e = one_at p s k n t e
all-push p (x ∷ xs) s h k zero t e = h zero t e
all-push p (x ∷ xs) s h k (suc n) t e = all-push p xs s (λ m u g. h (suc m) u g) k n t e

pub linked-push : (p : Parts) (known : List NamedSignal) (found more : List SignalNets) (s : NamedSignal) (nets : SignalNets) → AreLinked p known found → Links p s.signal → nets ≡ signal_nets p.nets s.signal → more ≡ found ++ nets ∷ [] → AreLinked p (known ++ s ∷ []) more
linked-push p known found more s nets h k e is = record {
  nets = is ∙ ap (λ t. t ++ nets ∷ []) h.nets ∙ ap (λ n. map (λ s. signal_nets p.nets s.signal) known ++ n ∷ []) e ∙ sym (map-append (λ s. signal_nets p.nets s.signal) known (s ∷ []));
  all = all-push p known s h.all k;
}

pub linked_next : (p : Parts) (known : List NamedSignal) (found more : List SignalNets) (s : NamedSignal) (signal : TypedSignal) (nets : SignalNets) → AreLinked p known found → s.signal ≡ signal → Links p signal × (nets ≡ signal_nets p.nets signal) → more ≡ found ++ nets ∷ [] → AreLinked p (known ++ s ∷ []) more
linked_next p known found more s signal nets h e answer is =
    linked-push p known found more s nets h (subst (λ (t : TypedSignal). Links p t) (sym e) answer.0) (answer.1 ∙ ap (signal_nets p.nets) (sym e)) is

pub stops : (p : Parts) (known : List NamedSignal) (found : List SignalNets) (s : NamedSignal) (n : ℕ) → AreLinked p known found → (Links p s.signal → ⊥) → n ≡ length found → StopsAt p (known ++ s ∷ []) n
stops p known found s n h fails is = record {
  before = known;
  at = s;
  after = [];
  is = refl;
  number = is ∙ ap length h.nets ∙ length-map known (λ s. signal_nets p.nets s.signal);
  linked = h.all;
  unlinked = fails;
}

pub stops_by : (p : Parts) (known : List NamedSignal) (found later : List SignalNets) (s : NamedSignal) (n : ℕ) (e : LinkError) → AreLinked p known found → (Links p s.signal → ⊥) → n ≡ length found → IsUnlinkedAt n e → Continues p (known ++ s ∷ []) later (Err e)
stops_by p known found later s n (Unlinked m) h fails is at = stops p known found s m h fails (at ∙ is)
stops_by p known found later s n NoMemory h fails is at = tt

stops_more : (p : Parts) (xs ys : List NamedSignal) (n : ℕ) → StopsAt p xs n → StopsAt p (xs ++ ys) n
stops_more p xs ys n h = record {
  before = h.before;
  at = h.at;
  after = h.after ++ ys;
  is = ap (λ t. t ++ ys) h.is ∙ append_assoc h.before (h.at ∷ h.after) ys;
  number = h.number;
  linked = h.linked;
  unlinked = h.unlinked;
}

-- a refusal stays the same as more signals follow
pub refused_more : (p : Parts) (xs ys : List NamedSignal) (found later : List SignalNets) (e : LinkError) → Continues p xs found (Err e) → Continues p (xs ++ ys) later (Err e)
refused_more p xs ys found later (Unlinked n) h = stops_more p xs ys n h
refused_more p xs ys found later NoMemory h = tt

-- ---- all signals

get_seam : (xs : List NamedSignal) (y : NamedSignal) (ys : List NamedSignal) → slice_get (xs ++ y ∷ ys) (length xs) ≡ Some y
get_seam [] y ys = refl
get_seam (x ∷ xs) y ys = get_seam xs y ys

get_before : (xs ys : List NamedSignal) (m : ℕ) → m < length xs → slice_get (xs ++ ys) m ≡ slice_get xs m
get_before [] ys m lt = absurd (omega arith)
get_before (x ∷ xs) ys zero lt = refl
get_before (x ∷ xs) ys (suc m) lt = get_before xs ys m (omega arith)

pub first_unlinked : (p : Parts) (signals : List NamedSignal) (n : ℕ) (h : StopsAt p signals n) → IsFirstUnlinked p signals n h.at
first_unlinked p signals n h = record {
  is = ap (λ xs. slice_get xs n) h.is ∙ ap (slice_get (h.before ++ h.at ∷ h.after)) h.number ∙ get_seam h.before h.at h.after;
  unlinked = h.unlinked;
  first = λ m t lt e. h.linked m t (sym (get_before h.before (h.at ∷ h.after) m (omega (arith, lt, h.number))) ∙ sym (ap (λ xs. slice_get xs m) h.is) ∙ e);
}

pub link_error : (p : Parts) (signals : List NamedSignal) (found : List SignalNets) (e : LinkError) → Continues p signals found (Err e) → IsLinkError p signals e
link_error p signals found (Unlinked n) h = (h.at, first_unlinked p signals n h)
link_error p signals found NoMemory h = tt

pub are_nets : (p : Parts) (signals : List NamedSignal) (found : List SignalNets) → AreLinked p signals found → AreNetsOf p.nets signals found
are_nets p signals found h = record {
  length = ap length h.nets ∙ length-map signals (λ s. signal_nets p.nets s.signal);
  each = λ n s e. ap (λ xs. slice_get xs n) h.nets ∙ slice_get-map (λ s. signal_nets p.nets s.signal) signals n ∙ ap (option_map (λ s. signal_nets p.nets s.signal)) e;
}
