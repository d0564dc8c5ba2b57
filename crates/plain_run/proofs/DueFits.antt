-- The drives that a slice of fitting items leaves due.
use Rattle.std.proofs.Common.{◌≡◌, ℕ, List, [], ◌∷◌, ◌++◌}
use Rattle.std.proofs.lemmas.List.Elements.{All-nil, All-cons, All-head, All-tail}
use Rattle.slice_core.specs.Tree.{Effect, Prints, Drives}
use Rattle.vera_ast.specs.Signals.{NamedSignal}
use Rattle.vera_meaning.specs.Driving.{FitsSignal, EffectsFit}
use Rattle.run_rules.specs.declared.drive.Drive.{Drive}
use Rattle.run_rules.specs.Fits.{AllFit}
use Rattle.plain_run.specs.Logs.{Told, tells_all}
use Rattle.plain_run.specs.Standing.{AllIn}

-- the drives fit their signals, and are due in the cycle
pub record DueFit (signals : List NamedSignal) (cycle : ℕ) (due : List Drive) : Type 0 where
  pub fit : AllFit signals due
  pub due_in : AllIn cycle due

one_more_fits : (signals : List NamedSignal) (due : List Drive) (d : Drive) → AllFit signals due → FitsSignal signals d.signal d.bits → AllFit signals (due ++ d ∷ [])
one_more_fits signals [] d all fits = All-cons (λ (e : Drive). FitsSignal signals e.signal e.bits) d [] fits (All-nil (λ (e : Drive). FitsSignal signals e.signal e.bits))
one_more_fits signals (e ∷ due) d all fits =
    All-cons (λ (x : Drive). FitsSignal signals x.signal x.bits) e (due ++ d ∷ []) (All-head (λ (x : Drive). FitsSignal signals x.signal x.bits) e due all)
    (one_more_fits signals due d (All-tail (λ (x : Drive). FitsSignal signals x.signal x.bits) e due all) fits)

one_more_in : (cycle : ℕ) (due : List Drive) (d : Drive) → AllIn cycle due → d.cycle ≡ cycle → AllIn cycle (due ++ d ∷ [])
one_more_in cycle [] d all is = (is, tt)
one_more_in cycle (e ∷ due) d all is = (all.0, one_more_in cycle due d all.1 is)

pub due_fits : (signals : List NamedSignal) (cycle : ℕ) (t : Told) (es : List Effect) → EffectsFit signals cycle es → DueFit signals cycle t.due → DueFit signals cycle (tells_all t es).due
due_fits signals cycle t [] fit due = due
due_fits signals cycle t (Prints bytes ∷ es) fit due = due_fits signals cycle (record t { printed = t.printed ++ bytes }) es fit.1 due
due_fits signals cycle t (Drives c n bits ∷ es) fit due =
    let d : Drive = record { cycle = c; signal = n; bits = bits } in
    due_fits signals cycle (record t { due = t.due ++ d ∷ [] }) es fit.1
    (record { fit = one_more_fits signals t.due d due.fit fit.0.1; due_in = one_more_in cycle t.due d due.due_in fit.0.0 })

pub nothing_fits : (signals : List NamedSignal) (cycle : ℕ) → DueFit signals cycle []
nothing_fits signals cycle = record { fit = All-nil (λ (e : Drive). FitsSignal signals e.signal e.bits); due_in = tt }
