use Rattle.std.proofs.Common.{[], ◌∷◌, ◌++◌}
use Rattle.vera_decls.proofs.ItemParts.{put_first}
use Rattle.vera_decls.proofs.WalkParts.{walks_map}
use Rattle.typing_rules.specs.Declarations.{name_parts}
use Rattle.vera_decls.specs.Walks.{name_part}
use Rattle.vera_names.specs.NameSets.{SameNames}
use Rattle.vera_decls.specs.declared.declarations.counting.Walked.{Walked}
use Rattle.vera_decls.proofs.declarations.only_name.Goals as goal

pub returns : goal.returns
unfolding name_parts
returns c = λ stand same.
    walks_map (λ (w : Walked). w.count) (λ (w : Walked). SameNames (c.args.of.now ∷ stand) w.names) (λ (w : Walked). SameNames (stand ++ c.args.of.now ∷ []) w.names) c.args.count (name_part c.args.line stand c.args.of.now ∷ [])
    c.new_name.result (λ w k. put_first stand c.args.of.now w.names k) (c.new_name.ensures stand same)
