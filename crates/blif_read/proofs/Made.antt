-- A netlist made of the parts is the netlist of its directives.
use Rattle.std.proofs.Common.{◌≡◌, ℕ, List, [], ◌∷◌, ◌++◌, refl, sym, ◌∙◌, ap, Option, None, Some, Ok, Err, map, subst, ◌≤◌, ◌<◌, length, arith}
use Rattle.std.specs.List.{slice_get, flat_map}
use Rattle.std.proofs.lemmas.List.Elements.{All-weaker}
use Rattle.blif_read.specs.declared.lines.Line.{Line}
use Rattle.blif_read.specs.declared.directives.Block.{Block}
use Rattle.blif_read.specs.declared.netlist.NetCover.{NetCover}
use Rattle.blif_read.specs.declared.netlist.Latch.{Latch}
use Rattle.blif_read.specs.declared.refusals.Refusal.{Refusal}
use Rattle.blif_read.specs.Directives.{Name, blocks}
use Rattle.blif_read.specs.Nets.{names, nets, numbered}
use Rattle.blif_read.specs.Sets.{AllBelow}
use Rattle.blif_read.specs.Checking.{NetsBelow}
use Rattle.blif_read.specs.Refusals.{each, inputs, outputs, clock_names, refusals, first_line_refusals, line_refusals, undriven_refusals}
use Rattle.blif_read.specs.Netlists.{Parts, parts, cover_of, latch_of, netlist_of_blocks, netlist_of_lines, unless_refused}
use Rattle.blif_read.specs.Reading.{MakesNetlist}
use Rattle.blif_read.proofs.Kept.{valid, few_nets}
use Rattle.blif_read.proofs.Placed.{accepted, nets_below}
use Rattle.blif_read.proofs.Firsts.{first-append_some, first-append_none}

abbrev of_fields : List Name → List ℕ → List ℕ → Option ℕ → List NetCover → List Latch → Parts
of_fields n i o c v l = record { nets = n; inputs = i; outputs = o; clock = c; covers = v; latches = l }

pub same_parts : (known : List Name) (all : List (Block ℕ)) (n : List Name) (i o : List ℕ) (c : Option ℕ) (v : List NetCover) (l : List Latch)
    → n ≡ known → i ≡ each inputs all → o ≡ each outputs all → c ≡ slice_get (each clock_names all) 0 → v ≡ flat_map (λ b. cover_of b.directive b.rows) all → l ≡ flat_map (λ b. latch_of b.directive) all
    → of_fields n i o c v l ≡ parts known all
unfolding parts
same_parts known all n i o c v l a b d e f g =
    ap (λ x. of_fields x i o c v l) a
    ∙ ap (λ x. of_fields known x o c v l) b
    ∙ ap (λ x. of_fields known (each inputs all) x c v l) d
    ∙ ap (λ x. of_fields known (each inputs all) (each outputs all) x v l) e
    ∙ ap (λ x. of_fields known (each inputs all) (each outputs all) (slice_get (each clock_names all) 0) x l) f
    ∙ ap (λ x. of_fields known (each inputs all) (each outputs all) (slice_get (each clock_names all) 0) (flat_map (λ (b : Block ℕ). cover_of b.directive b.rows) all) x) g

-- ---- no refusal
pub none_is_nothing : (xs : List Refusal) → None ≡ slice_get xs 0 → xs ≡ []
none_is_nothing [] e = refl
none_is_nothing (x ∷ xs) e = cc

below_weaker : (m n : ℕ) (all : List (Block ℕ)) → m ≤ n → NetsBelow m all → NetsBelow n all
below_weaker m n all le h =
    All-weaker (λ (b : Block ℕ). AllBelow m (names b.directive)) (λ (b : Block ℕ). AllBelow n (names b.directive)) (λ b k. All-weaker (λ x. x < m) (λ x. x < n) (λ x lt. omega (arith, lt)) (names b.directive) k) all h

pub makes_netlist : (lines : List Line) → let bs = blocks lines in let all = map (numbered (nets bs)) bs in line_refusals all [] all ≡ [] → undriven_refusals all all ≡ [] → MakesNetlist (nets bs) all
makes_netlist lines e u =
    let a = accepted lines e u in
    let v = valid (nets (blocks lines)) (map (numbered (nets (blocks lines))) (blocks lines)) a in
    record { below = below_weaker _ _ (map (numbered (nets (blocks lines))) (blocks lines)) (few_nets (nets (blocks lines)) (map (numbered (nets (blocks lines))) (blocks lines)) a) a.below; valid = v }

-- ---- the meaning, by the first refusal
pub refused_if : (rs : List Refusal) (p : Parts) (r : Refusal) → slice_get rs 0 ≡ Some r → unless_refused rs p ≡ Err r
refused_if [] p r e = cc
refused_if (x ∷ rs) p r e = cc

pub not_refused : (rs : List Refusal) (p : Parts) → rs ≡ [] → unless_refused rs p ≡ Ok p
not_refused [] p e = refl
not_refused (x ∷ rs) p e = cc

pub refused_undriven : (xs ys : List Refusal) (p : Parts) (r : Refusal) → None ≡ slice_get xs 0 → Some r ≡ slice_get ys 0 → unless_refused (xs ++ ys) p ≡ Err r
refused_undriven xs ys p r e f = refused_if (xs ++ ys) p r (first-append_none xs ys (sym e) ∙ sym f)

pub refused_nothing : (xs ys : List Refusal) (p q : Parts) → None ≡ slice_get xs 0 → None ≡ slice_get ys 0 → q ≡ p → unless_refused (xs ++ ys) p ≡ Ok q
refused_nothing xs ys p q e f same =
    not_refused (xs ++ ys) p (ap (λ zs. zs ++ ys) (none_is_nothing xs e) ∙ none_is_nothing ys f) ∙ ap Ok (sym same)

-- all directives of the lines
abbrev numbered_of : List Line → List (Block ℕ)
numbered_of lines = map (numbered (nets (blocks lines))) (blocks lines)

pub first_line_refused : (lines : List Line) (r : Refusal) → Some r ≡ slice_get (first_line_refusals lines) 0 → netlist_of_lines lines ≡ Err r
unfolding netlist_of_lines netlist_of_blocks refusals
first_line_refused lines r e =
    refused_if _ _ r (first-append_some (first_line_refusals lines ++ line_refusals (numbered_of lines) [] (numbered_of lines)) (undriven_refusals (numbered_of lines) (numbered_of lines)) r (first-append_some (first_line_refusals lines) (line_refusals (numbered_of lines) [] (numbered_of lines)) r (sym e)))

pub first_line_passed : (lines : List Line) → None ≡ slice_get (first_line_refusals lines) 0 → netlist_of_lines lines ≡ unless_refused (line_refusals (numbered_of lines) [] (numbered_of lines) ++ undriven_refusals (numbered_of lines) (numbered_of lines)) (parts (nets (blocks lines)) (numbered_of lines))
unfolding netlist_of_lines netlist_of_blocks refusals
first_line_passed lines e = ap (λ rs. unless_refused ((rs ++ line_refusals (numbered_of lines) [] (numbered_of lines)) ++ undriven_refusals (numbered_of lines) (numbered_of lines)) (parts (nets (blocks lines)) (numbered_of lines))) (none_is_nothing (first_line_refusals lines) e)

-- what the passes have found of the lines
pub record Ready (lines : List Line) (known : List Name) (all : List (Block ℕ)) : Type 0 where
  pub below : NetsBelow (length known) all
  pub makes : line_refusals all [] all ≡ [] → undriven_refusals all all ≡ [] → MakesNetlist known all
  pub means : None ≡ slice_get (first_line_refusals lines) 0 → netlist_of_lines lines ≡ unless_refused (line_refusals all [] all ++ undriven_refusals all all) (parts known all)

ready_lines : (lines : List Line) → Ready lines (nets (blocks lines)) (numbered_of lines)
ready_lines lines = record { below = nets_below (blocks lines); makes = makes_netlist lines; means = first_line_passed lines }

pub ready : (lines : List Line) (bs : List (Block Name)) (known : List Name) (all same : List (Block ℕ)) → bs ≡ blocks lines → known ≡ nets bs → all ≡ map (numbered (nets bs)) bs → same ≡ all → Ready lines known same
ready lines bs known all same e f g h =
    let is_known : known ≡ nets (blocks lines) = f ∙ ap nets e in
    let is_all : same ≡ numbered_of lines = h ∙ g ∙ ap (λ (xs : List (Block Name)). map (numbered (nets xs)) xs) e in
    subst (λ (xs : List Name). Ready lines xs same) (sym is_known) (subst (λ (xs : List (Block ℕ)). Ready lines (nets (blocks lines)) xs) (sym is_all) (ready_lines lines))
