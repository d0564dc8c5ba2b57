use Rattle.std.proofs.Common.{◌≡◌, ◌∙◌, ap, map}
use Rattle.std.specs.Option.{option_map, option_and_then}
use Rattle.run_words.specs.Progress.{Found, add_all}
use Rattle.run_words.specs.Views.{seen_found, seen_request}
use Rattle.run_words.specs.Words as spec
use Rattle.run_words.proofs.Ranges.{asked_taken}
use Rattle.run_words.proofs.Whole.{asks}
use Rattle.run_words.proofs.reading.read_words.Goals as goal

pub returns-in-Some : goal.returns-in-Some
returns-in-Some c =
    let items = spec.items_of (map (λ word. word.now) c.args.words.now) in
    let asked : option_map seen_request c.request.result ≡ option_and_then spec.request_from items =
    c.request.ensures ∙ asks items (seen_found c.in-Some.found) (c.in-Some.ensures ∙ ap (λ (f : Found). option_and_then (add_all f) items) c.nothing_found.ensures) in
    record { request = asked; taken = asked_taken items c.request.result asked }
