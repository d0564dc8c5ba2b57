-- Directives over names to directives over numbers, one kind at a time.
use Rattle.std.proofs.Common.{◌≡◌, ℕ, List, [], ◌∷◌, ◌++◌, refl, sym, ◌∙◌, ap, None, Some, subst, map, append-nil}
use Rattle.std.specs.List.{flat_map}
use Rattle.std.proofs.lemmas.List.{map-append}
use Rattle.std.proofs.lemmas.Grind.{flat_map-append}
use Rattle.blif_read.specs.declared.directives.Directive.{Directive}
use Rattle.blif_read.specs.declared.directives.Directive.TheVariants.{Model, Inputs, Outputs, Clock, Names, Latch, BadLatch, End, Unknown}
use Rattle.blif_read.specs.declared.directives.Block.{Block}
use Rattle.blif_read.specs.Directives.{Name}
use Rattle.blif_read.specs.Nets.{number, names, numbered, nets}
use Rattle.blif_read.specs.declared.nets.Nets.{Nets}
use Rattle.blif_read.specs.Known.{known_with, known_with_all, IsIndex, Numbers, NumbersAll, NumbersDirective, NumbersBlocks}
use Rattle.blif_read.proofs.Names.{extends_all, stays_longer, known_with_all-append, known_with_all-nothing, Extends}
use Rattle.blif_read.proofs.Indexed.{numbers_more}

pub model_numbers : (n : Nets) (words : ℕ) → IsIndex n → NumbersDirective n n (Model words) (Model words)
unfolding known_with_all
model_numbers n words index = record { known = refl; stays = λ more. refl; index = index }

pub bad_latch_numbers : (n : Nets) → IsIndex n → NumbersDirective n n BadLatch BadLatch
unfolding known_with_all
bad_latch_numbers n index = record { known = refl; stays = λ more. refl; index = index }

pub end_numbers : (n : Nets) → IsIndex n → NumbersDirective n n End End
unfolding known_with_all
end_numbers n index = record { known = refl; stays = λ more. refl; index = index }

pub unknown_numbers : (n : Nets) → IsIndex n → NumbersDirective n n Unknown Unknown
unfolding known_with_all
unknown_numbers n index = record { known = refl; stays = λ more. refl; index = index }

pub inputs_numbers : (old new : Nets) (xs : List Name) (ns : List ℕ) → NumbersAll old new xs ns → NumbersDirective old new (Inputs xs) (Inputs ns)
inputs_numbers old new xs ns h = record { known = h.known; stays = λ more. ap Inputs (h.stays more); index = h.index }

pub outputs_numbers : (old new : Nets) (xs : List Name) (ns : List ℕ) → NumbersAll old new xs ns → NumbersDirective old new (Outputs xs) (Outputs ns)
outputs_numbers old new xs ns h = record { known = h.known; stays = λ more. ap Outputs (h.stays more); index = h.index }

pub clock_numbers : (old new : Nets) (xs : List Name) (ns : List ℕ) → NumbersAll old new xs ns → NumbersDirective old new (Clock xs) (Clock ns)
clock_numbers old new xs ns h = record { known = h.known; stays = λ more. ap Clock (h.stays more); index = h.index }

-- a number that stays, after one more name
stays_one : (old new : Nets) (name other : Name) (n m : ℕ) → ((more : List Name) → number (old.known.items ++ more) other ≡ m) → Numbers old new name n → (more : List Name) → number (new.known.items ++ more) other ≡ m
unfolding known_with_all
stays_one old new name other n m h k = stays_longer (λ ks. number ks other) m old.known.items new.known.items (subst (Extends old.known.items) (sym k.known) (extends_all (name ∷ []) old.known.items)) h

stays_list : (old new : Nets) (name : Name) (others : List Name) (n : ℕ) (ms : List ℕ) → ((more : List Name) → map (number (old.known.items ++ more)) others ≡ ms) → Numbers old new name n → (more : List Name) → map (number (new.known.items ++ more)) others ≡ ms
unfolding known_with_all
stays_list old new name others n ms h k = stays_longer (λ ks. map (number ks) others) ms old.known.items new.known.items (subst (Extends old.known.items) (sym k.known) (extends_all (name ∷ []) old.known.items)) h

pub names_numbers : (old mid new : Nets) (xs : List Name) (y : Name) (ns : List ℕ) (m : ℕ) → NumbersAll old mid xs ns → Numbers mid new y m → NumbersDirective old new (Names xs y) (Names ns m)
names_numbers old mid new xs y ns m h k = record {
  known = (numbers_more old mid new xs y ns m h k).known;
  stays = λ more. ap (λ (a : List ℕ). Names a (number (new.known.items ++ more) y)) (stays_list mid new y xs m ns h.stays k more) ∙ ap (Names ns) (k.stays more);
  index = k.index;
}

pub latch_numbers : (old a b : Nets) (input output : Name) (i o init : ℕ) → Numbers old a input i → Numbers a b output o → NumbersDirective old b (Latch input output None init) (Latch i o None init)
unfolding known_with_all
latch_numbers old a b input output i o init h k = record {
  known = k.known ∙ ap (known_with output) h.known;
  stays = λ more. ap (λ (x : ℕ). Latch x (number (b.known.items ++ more) output) None init) (stays_one a b output input o i h.stays k more) ∙ ap (λ (x : ℕ). Latch i x None init) (k.stays more);
  index = k.index;
}

pub controlled_numbers : (old a b new : Nets) (input output control : Name) (i o g init : ℕ) → Numbers old a input i → Numbers a b output o → Numbers b new control g → NumbersDirective old new (Latch input output (Some control) init) (Latch i o (Some g) init)
unfolding known_with_all
controlled_numbers old a b new input output control i o g init h k l = record {
  known = l.known ∙ ap (known_with control) (k.known ∙ ap (known_with output) h.known);
  stays = λ more.
      ap (λ (x : ℕ). Latch x (number (new.known.items ++ more) output) (Some (number (new.known.items ++ more) control)) init) (stays_one b new control input g i (stays_one a b output input o i h.stays k) l more)
      ∙ ap (λ (x : ℕ). Latch i x (Some (number (new.known.items ++ more) control)) init) (stays_one b new control output g o k.stays l more)
      ∙ ap (λ (x : ℕ). Latch i o (Some x) init) (l.stays more);
  index = l.index;
}

-- ---- blocks
pub no_blocks : (n : Nets) → n.known.items ≡ [] → IsIndex n → NumbersBlocks n [] []
unfolding known_with_all
no_blocks n e index = record { known = e; stays = λ more. refl; index = index }

pub more_blocks : (old new : Nets) (bs : List (Block Name)) (ns : List (Block ℕ)) (b : Block Name) (d : Directive ℕ) → NumbersBlocks old bs ns → NumbersDirective old new b.directive d → NumbersBlocks new (bs ++ b ∷ []) (ns ++ record { line = b.line; directive = d; rows = b.rows } ∷ [])
unfolding numbered
more_blocks old new bs ns b d h k = record {
  known = k.known ∙ ap (known_with_all (names b.directive)) h.known
      ∙ sym (ap (λ xs. known_with_all xs []) (flat_map-append (λ (c : Block Name). names c.directive) bs (b ∷ []) ∙ ap (λ xs. flat_map (λ (c : Block Name). names c.directive) bs ++ xs) (append-nil (names b.directive))) ∙ known_with_all-append (flat_map (λ (c : Block Name). names c.directive) bs) (names b.directive) []);
  stays = λ more. map-append (numbered (new.known.items ++ more)) bs (b ∷ [])
      ∙ ap (λ xs. xs ++ numbered (new.known.items ++ more) b ∷ []) (stays_longer (λ ks. map (numbered ks) bs) ns old.known.items new.known.items (subst (Extends old.known.items) (sym k.known) (extends_all (names b.directive) old.known.items)) h.stays more)
      ∙ ap (λ (x : Directive ℕ). let n : Block ℕ = record { line = b.line; directive = x; rows = b.rows } in ns ++ n ∷ []) (k.stays more);
  index = k.index;
}

pub all_blocks-known : (n : Nets) (bs : List (Block Name)) (ns : List (Block ℕ)) → NumbersBlocks n bs ns → n.known.items ≡ nets bs
unfolding nets
all_blocks-known n bs ns h = h.known ∙ known_with_all-nothing _

pub all_blocks-numbered : (n : Nets) (bs : List (Block Name)) (ns : List (Block ℕ)) → NumbersBlocks n bs ns → ns ≡ map (numbered (nets bs)) bs
all_blocks-numbered n bs ns h = sym (h.stays []) ∙ ap (λ ks. map (numbered ks) bs) (append-nil n.known.items ∙ all_blocks-known n bs ns h)
