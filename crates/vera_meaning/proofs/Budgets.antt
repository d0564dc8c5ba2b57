-- A slice that ends does the same with a larger budget.
use Rattle.std.proofs.Common.{◌≡◌, ◌≢◌, ℕ, zero, suc, ◌<◌, ◌≤◌, List, [], ◌∷◌, Bool, true, false, refl, sym, ap, ◌∙◌, arith}
use Rattle.store_api.specs.Places.{Contents}
use Rattle.slice_core.specs.Tree.{Tree, Spent, Effect}
use Rattle.slice_core.specs.Slices.{Slice, Notes, Writes, on_from}
use Rattle.vera_meaning.specs.Rests.{Here, Item, Rest}
use Rattle.vera_meaning.specs.Statements.{Exit, After, Inside, Leaves, rest_at, gone_on, is_free, size_of}
use Rattle.vera_meaning.specs.Slices.{slice_of}
use Rattle.vera_meaning.proofs.Fewer.{item-free}
use Rattle.vera_meaning.proofs.Bounds.{slice_of-item, size_of-free}
use Rattle.vera_meaning.proofs.Taken.{slice_of-nothing}
use Rattle.vera_meaning.proofs.Evaluated.{ItemIn, item-in, item-spent}

-- the slice of these items, behind these notes, writes and effects
abbrev slice : Here → List Item → ℕ → Contents → Notes → Writes → List Effect → Slice Rest
slice here items ticks c ns ws es = on_from (slice_of here (record { agenda = items }) ticks) c ns ws es

-- where it isn't spent with the one budget, it is the same with the other
abbrev EndsAlike : Here → List Item → (ticks more : ℕ) → Contents → Notes → Writes → List Effect → Type 0
EndsAlike here items ticks more c ns ws es = (slice here items ticks c ns ws es).outcome ≢ Spent → slice here items more c ns ws es ≡ slice here items ticks c ns ws es

bool-cases : {P : Type 0} (b : Bool) → (b ≡ true → P) → (b ≡ false → P) → P
bool-cases true on off = on refl
bool-cases false on off = off refl

-- what is done behind the first item
abbrev behind : Here → Item → List Item → Exit → ℕ → Tree Rest
behind here i rest exit left = gone_on exit (rest_at i rest exit) (slice_of here (record { agenda = rest_at i rest exit }) left)

alike-nothing : (here : Here) (ticks more : ℕ) (c : Contents) (ns : Notes) (ws : Writes) (es : List Effect) → EndsAlike here [] ticks more c ns ws es
alike-nothing here ticks more c ns ws es ended = ap (λ t. on_from t c ns ws es) (slice_of-nothing here more ∙ sym (slice_of-nothing here ticks))

alike-free : (here : Here) (i : Item) (rest : List Item) (ticks more : ℕ) (c : Contents) (ns : Notes) (ws : Writes) (es : List Effect) → is_free i ≡ true → EndsAlike here (rest_at i rest Inside) ticks more c ns ws es → EndsAlike here (i ∷ rest) ticks more c ns ws es
alike-free here i rest ticks more c ns ws es free inner ended =
    opened more ∙ (inner (λ spent. ended (ap (λ (s : Slice Rest). s.outcome) (opened ticks) ∙ spent)) ∙ sym (opened ticks))
  where
    opened : (n : ℕ) → slice here (i ∷ rest) n c ns ws es ≡ slice here (rest_at i rest Inside) n c ns ws es
    opened n = ap (λ t. on_from t c ns ws es) (slice_of-item here i rest n ∙ item-free here i n (behind here i rest) free)

alike-spent : (here : Here) (i : Item) (rest : List Item) (more : ℕ) (c : Contents) (ns : Notes) (ws : Writes) (es : List Effect) → is_free i ≡ false → EndsAlike here (i ∷ rest) zero more c ns ws es
alike-spent here i rest more c ns ws es timed ended =
    let tree = slice_of-item here i rest zero ∙ item-spent here i (behind here i rest) timed in
    absurd (ended (ap (λ t. (on_from t c ns ws es).outcome) tree))

-- behind an exit
alike-exit : (here : Here) (exit : Exit) (items : List Item) (ticks more : ℕ) (c : Contents) (ns : Notes) (ws : Writes) (es : List Effect) → EndsAlike here items ticks more c ns ws es → (on_from (gone_on exit items (slice_of here (record { agenda = items }) ticks)) c ns ws es).outcome ≢ Spent → on_from (gone_on exit items (slice_of here (record { agenda = items }) more)) c ns ws es ≡ on_from (gone_on exit items (slice_of here (record { agenda = items }) ticks)) c ns ws es
alike-exit here After items ticks more c ns ws es alike ended = alike ended
alike-exit here Inside items ticks more c ns ws es alike ended = alike ended
alike-exit here (Leaves outcome) items ticks more c ns ws es alike ended = refl

alike-timed : (here : Here) (i : Item) (rest : List Item) (ticks more : ℕ) (c : Contents) (ns : Notes) (ws : Writes) (es : List Effect) → is_free i ≡ false → ((items : List Item) (ns' : Notes) (ws' : Writes) (es' : List Effect) → EndsAlike here items ticks more c ns' ws' es') → EndsAlike here (i ∷ rest) (suc ticks) (suc more) c ns ws es
alike-timed here i rest ticks more c ns ws es timed fewer ended =
    taken more
    ∙ (alike-exit here did.exit (rest_at i rest did.exit) ticks more c did.notes did.writes did.effects (fewer (rest_at i rest did.exit) did.notes did.writes did.effects) (λ spent. ended (ap (λ (s : Slice Rest). s.outcome) (taken ticks) ∙ spent))
    ∙ sym (taken ticks))
  where
    did : ItemIn here i c ns ws es
    did = item-in here i c ns ws es timed

    taken : (n : ℕ) → slice here (i ∷ rest) (suc n) c ns ws es ≡ on_from (behind here i rest did.exit n) c did.notes did.writes did.effects
    taken n = ap (λ t. on_from t c ns ws es) (slice_of-item here i rest (suc n)) ∙ did.same n (behind here i rest)

-- without a tick
alike-zero : (here : Here) (n : ℕ) (items : List Item) (more : ℕ) (c : Contents) (ns : Notes) (ws : Writes) (es : List Effect) → size_of items < n → EndsAlike here items zero more c ns ws es
alike-zero here zero items more c ns ws es within = absurd (omega arith)
alike-zero here (suc n) [] more c ns ws es within = alike-nothing here zero more c ns ws es
alike-zero here (suc n) (i ∷ rest) more c ns ws es within = bool-cases (is_free i)
    (λ free. let smaller = size_of-free i rest free in alike-free here i rest zero more c ns ws es free (alike-zero here n (rest_at i rest Inside) more c ns ws es (omega arith)))
    (λ timed. alike-spent here i rest more c ns ws es timed)

-- with one more
alike-suc : (here : Here) (ticks more : ℕ) (c : Contents) → ((items : List Item) (ns' : Notes) (ws' : Writes) (es' : List Effect) → EndsAlike here items ticks more c ns' ws' es') → (n : ℕ) (items : List Item) (ns : Notes) (ws : Writes) (es : List Effect) → size_of items < n → EndsAlike here items (suc ticks) (suc more) c ns ws es
alike-suc here ticks more c fewer zero items ns ws es within = absurd (omega arith)
alike-suc here ticks more c fewer (suc n) [] ns ws es within = alike-nothing here (suc ticks) (suc more) c ns ws es
alike-suc here ticks more c fewer (suc n) (i ∷ rest) ns ws es within = bool-cases (is_free i)
    (λ free. let smaller = size_of-free i rest free in alike-free here i rest (suc ticks) (suc more) c ns ws es free (alike-suc here ticks more c fewer n (rest_at i rest Inside) ns ws es (omega arith)))
    (λ timed. alike-timed here i rest ticks more c ns ws es timed fewer)

alike : (here : Here) (ticks more : ℕ) (c : Contents) → ticks ≤ more → (items : List Item) (ns : Notes) (ws : Writes) (es : List Effect) → EndsAlike here items ticks more c ns ws es
alike here zero more c enough items ns ws es = alike-zero here (suc (size_of items)) items more c ns ws es (omega arith)
alike here (suc ticks) zero c enough items ns ws es = absurd (omega arith)
alike here (suc ticks) (suc more) c enough items ns ws es =
    alike-suc here ticks more c (alike here ticks more c (omega arith)) (suc (size_of items)) items ns ws es (omega arith)

pub ended-alike : (here : Here) (r : Rest) (budget larger : ℕ) (c : Contents) → budget ≤ larger → (on_from (slice_of here r budget) c [] [] []).outcome ≢ Spent → on_from (slice_of here r larger) c [] [] [] ≡ on_from (slice_of here r budget) c [] [] []
ended-alike here r budget larger c enough = alike here budget larger c enough r.agenda [] [] []
