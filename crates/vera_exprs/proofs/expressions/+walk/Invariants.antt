use Rattle.std.proofs.Common.{◌≡◌, drop}
use Rattle.vera_exprs.specs.WalkLists.{all_before, links_walked, exprs_walked, suffixes_walked, arguments_walked}
use Rattle.vera_calls.specs.Wanting.{wants_told, modes_told, wants_from}
use Rattle.vera_exprs.proofs.expressions.+walk.Given as goal

abbrev pub invariant-walk_links-loop-link : goal.invariant-walk_links-loop-link
invariant-walk_links-loop-link l = all_before l.walked.items (links_walked l.sight (drop l.link-index l.links)) ≡ links_walked l.sight l.links

abbrev pub invariant-walk_values-loop-part : goal.invariant-walk_values-loop-part
invariant-walk_values-loop-part l = all_before l.walked.items (exprs_walked l.sight (drop l.part-index l.exprs)) ≡ exprs_walked l.sight l.exprs

abbrev pub invariant-walk_suffixes-loop-at : goal.invariant-walk_suffixes-loop-at
invariant-walk_suffixes-loop-at l = suffixes_walked l.sight l.stand l.line l.head (drop l.at l.suffixes) ≡ suffixes_walked l.sight l.stand l.line l.fn.first l.suffixes

abbrev pub invariant-walk_arguments-loop-place : goal.invariant-walk_arguments-loop-place
invariant-walk_arguments-loop-place l =
    all_before l.given.items (arguments_walked l.sight (modes_told l.wanted) (wants_from (wants_told l.wanted) l.place) (drop l.place l.exprs)) ≡ arguments_walked l.sight (modes_told l.wanted) (wants_told l.wanted) l.exprs
