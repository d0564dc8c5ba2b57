use Rattle.std.proofs.Common.{sym}
use Rattle.std.proofs.lemmas.Map.Text.{hash_map_updates_str}
use Rattle.vera_names.proofs.ScopeMaps.{known_name, new_name}
use Rattle.vera_names.proofs.scope.note.Goals as goal

pub returns-then-contains_key : goal.returns-then-contains_key
returns-then-contains_key c = λ names means is h. known_name names _ c.args.name.now means h (sym c.if-contains_key.ensures)

pub returns : goal.returns
returns c = λ names means is h. new_name names _ _ c.args.name.now means c.args.place h (sym c.if-contains_key.ensures) is (λ q. hash_map_updates_str _ c.args.places.now c.insert.new.self _ c.in_ok-insert.ensures.updates q)
