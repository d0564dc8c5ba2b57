-- The drives of a cycle, one after another.
use Rattle.std.proofs.Common.{◌≡◌, ℕ, zero, suc, ◌+◌, ◌<◌, ◌≤◌, List, [], ◌∷◌, ◌++◌, take, length, Some, Option, All, slice_set, slice_index_or, refl, sym, ap, ◌∙◌, subst, arith}
use Rattle.four_state.specs.declared.bit.Bit3.{Bit3}
use Rattle.vera_meaning.specs.Driving.{FitsSignal}
use Rattle.run_rules.specs.declared.drive.Drive.{Drive}
use Rattle.run_rules.specs.Designs.{Design}
use Rattle.run_rules.specs.Drives.{Driven}
use Rattle.plain_run.specs.declared.outside.LastDrive.{LastDrive}
use Rattle.plain_run.specs.declared.outside.Outside.{Outside}
use Rattle.plain_run.specs.Applying.{CanApply, HasApplied}
use Rattle.plain_run.specs.Outsides.{Applied, SomeApplied, BeginsCycle, last_at}
use Rattle.plain_run.specs.Standing.{AllIn}

-- a signal's last drive is of an earlier cycle still
pub begins_set : (driven : List (Option LastDrive)) (i : ℕ) (x : LastDrive) (cycle : ℕ) → x.cycle < cycle → ((n : ℕ) (l : LastDrive) → last_at driven n ≡ Some l → l.cycle < cycle) → (n : ℕ) (l : LastDrive) → last_at (slice_set driven i (Some x)) n ≡ Some l → l.cycle < cycle
begins_set [] i x cycle h all n l e = all n l e
begins_set (d ∷ driven) zero x cycle h all zero l e = let same : x ≡ l = cc in subst (λ (y : LastDrive). y.cycle < cycle) same h
begins_set (d ∷ driven) zero x cycle h all (suc n) l e = all (suc n) l e
begins_set (d ∷ driven) (suc i) x cycle h all zero l e = all zero l e
begins_set (d ∷ driven) (suc i) x cycle h all (suc n) l e = begins_set driven i x cycle h (λ m k is. all (suc m) k is) n l e

-- no drive of the cycle was applied yet
pub applied_none : (o : Outside) (design : Design) (driven : Driven) (held : List Bit3) (cycle : ℕ) (due : List Drive) → CanApply o design driven held cycle due → Applied o design driven held [] cycle
applied_none o design driven held cycle due can = record {
  stands = can.stands;
  fits = can.fits;
  marked = λ n l is. (λ same. absurd (let h = can.begins n l is in omega (arith, h, same)), λ other. refl);
  others = λ n none. refl;
}

-- the drive at a place is of the cycle
in_at : (cycle : ℕ) (due : List Drive) (i : ℕ) (d : Drive) → AllIn cycle due → i < length due → d ≡ slice_index_or due i d → d.cycle ≡ cycle
in_at cycle [] i d all h e = absurd (omega arith)
in_at cycle (x ∷ due) zero d all h e = ap (λ (y : Drive). y.cycle) e ∙ all.0
in_at cycle (x ∷ due) (suc i) d all h e = in_at cycle due i d all.1 (omega arith) e

fits_at : (due : List Drive) (P : Drive → Type 0) (i : ℕ) (d : Drive) → All P due → i < length due → d ≡ slice_index_or due i d → P d
fits_at due P i d all h e = subst P (sym e) (all i d h)

take_more : (due : List Drive) (i : ℕ) (d : Drive) → i < length due → d ≡ slice_index_or due i d → take (i + 1) due ≡ take i due ++ d ∷ []
take_more due i d h e = let next : i + 1 ≡ suc i = omega arith in ap (λ n. take n due) next ∙ by due i h e
  where
    by : (xs : List Drive) (n : ℕ) → n < length xs → d ≡ slice_index_or xs n d → take (suc n) xs ≡ take n xs ++ d ∷ []
    by [] n h e = absurd (omega arith)
    by (x ∷ xs) zero h e = ap (λ y. y ∷ []) (sym e)
    by (x ∷ xs) (suc n) h e = ap (λ ys. x ∷ ys) (by xs n (omega arith) e)

take_all : (due : List Drive) (i : ℕ) → length due ≤ i → take i due ≡ due
take_all [] zero h = refl
take_all [] (suc i) h = refl
take_all (x ∷ due) zero h = absurd (omega arith)
take_all (x ∷ due) (suc i) h = ap (λ ys. x ∷ ys) (take_all due i (omega arith))

-- how far the drives are applied
pub record AppliedSoFar (before now : Outside) (due : List Drive) (i : ℕ) : Type 0 where
  pub applied : (design : Design) (driven : Driven) (held : List Bit3) (cycle : ℕ) → CanApply before design driven held cycle due → Applied now design driven held (take i due) cycle
  pub begins : (design : Design) (driven : Driven) (held : List Bit3) (cycle : ℕ) → CanApply before design driven held cycle due → BeginsCycle now (cycle + 1)

pub starts : (o : Outside) (due : List Drive) → AppliedSoFar o o due 0
starts o due = record {
  applied = λ design driven held cycle can. applied_none o design driven held cycle due can;
  begins = λ design driven held cycle can n l is. let h = can.begins n l is in omega (arith, h);
}

pub may_apply : (before now : Outside) (due : List Drive) (i : ℕ) (d : Drive) (design : Design) (driven : Driven) (held : List Bit3) (cycle : ℕ) → CanApply before design driven held cycle due → AppliedSoFar before now due i → i < length due → d ≡ slice_index_or due i d → SomeApplied now d
may_apply before now due i d design driven held cycle can so h e = record {
  design = design;
  former = driven;
  held = held;
  done = take i due;
  applied = subst (Applied now design driven held (take i due)) (sym (in_at cycle due i d can.due_in h e)) (so.applied design driven held cycle can);
  fits = fits_at due (λ (x : Drive). FitsSignal design.signals x.signal x.bits) i d can.due_fit h e;
}

pub goes_on : (before now later : Outside) (due : List Drive) (i : ℕ) (d : Drive)
    → ((design : Design) (former : Driven) (held : List Bit3) (done : List Drive) → FitsSignal design.signals d.signal d.bits → Applied now design former held done d.cycle → Applied later design former held (done ++ d ∷ []) d.cycle)
    → ((cycle : ℕ) → d.cycle < cycle → BeginsCycle now cycle → BeginsCycle later cycle)
    → AppliedSoFar before now due i → i < length due → d ≡ slice_index_or due i d → AppliedSoFar before later due (i + 1)
goes_on before now later due i d step begun so h e = record {
  applied = λ design driven held cycle can.
      let is = in_at cycle due i d can.due_in h e in
      subst (λ ds. Applied later design driven held ds cycle) (sym (take_more due i d h e))
      (subst (Applied later design driven held (take i due ++ d ∷ [])) is
      (step design driven held (take i due) (fits_at due (λ (x : Drive). FitsSignal design.signals x.signal x.bits) i d can.due_fit h e)
      (subst (Applied now design driven held (take i due)) (sym is) (so.applied design driven held cycle can))));
  begins = λ design driven held cycle can.
      let is = in_at cycle due i d can.due_in h e in
      begun (cycle + 1) (omega (arith, is)) (so.begins design driven held cycle can);
}

pub all_applied : (before now : Outside) (due : List Drive) (i : ℕ) → AppliedSoFar before now due i → length due ≤ i → (design : Design) (driven : Driven) (held : List Bit3) (cycle : ℕ) → CanApply before design driven held cycle due → HasApplied now design driven held cycle due
all_applied before now due i so h design driven held cycle can =
    let a = subst (λ ds. Applied now design driven held ds cycle) (take_all due i h) (so.applied design driven held cycle can) in
    record { stands = a.stands; fits = a.fits; begins = so.begins design driven held cycle can }
