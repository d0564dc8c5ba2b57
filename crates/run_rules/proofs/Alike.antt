-- Two ways to settle one netlist give one run.
use Rattle.std.proofs.Common.{◌≡◌, ℕ, zero, suc, ◌<◌, ◌==◌, ◌+◌, nat_lt, Bool, true, false, List, [], ◌∷◌, map, length, Option, Some, None, is_some, if◌then◌else◌, refl, sym, ap, ◌∙◌, arith}
use Rattle.std.proofs.lemmas.Bool.Decides.{nat_tests}
use Rattle.four_state.specs.declared.bit.Bit3.{Bit3}
use Rattle.four_state.specs.declared.bit.Bit3.TheVariants.{X}
use Rattle.blif_read.specs.Netlists.{Parts}
use Rattle.blif_device.specs.Edges.{held_after}
use Rattle.blif_device.specs.Settled.{HasOneSettled}
use Rattle.blif_device.specs.Valuations.{Valuation}
use Rattle.slice_core.specs.Starts.{Meaning}
use Rattle.slice_core.specs.Slices.{on}
use Rattle.vera_ast.specs.Signals.{NamedSignal}
use Rattle.run_rules.specs.Designs.{Settle, Settles, Design, settled_nets}
use Rattle.run_rules.specs.Nets.{driven_nets, sampled}
use Rattle.run_rules.specs.States.{State, Entry, Limits, End, Finished, Limit}
use Rattle.run_rules.specs.Moves.{move, moved, edge, turn, drives_applied, counted_down, next_cycle, limited, after, is_empty}
use Rattle.run_rules.specs.Runs.{run, IsFinal}
use Rattle.run_rules.proofs.Kept.{move-cases, edge-cases, limited-cases, after-untouched}

length-each : {A B : Type 0} (f : A → B) (xs : List A) → length (map f xs) ≡ length xs
length-each f [] = refl
length-each f (x ∷ xs) = ap suc (length-each f xs)

ltb-sound : (a b : ℕ) → nat_lt a b ≡ true → a < b
ltb-sound a b h = grind (arith, nat_tests)

abbrev with_settle : Parts → List NamedSignal → Settle → Design
with_settle netlist signals settle = record { netlist = netlist; settle = settle; signals = signals }

module _ (netlist : Parts) (signals : List NamedSignal) (one : HasOneSettled netlist) where
  -- as many latches hold something as there are
  abbrev Holds : {R : Type 0} → State R → Type 0
  Holds s = length s.held ≡ length netlist.latches

  settled-alike : (f g : Settle) → Settles netlist f → Settles netlist g → (driven : Valuation) (held : List Bit3) → length held ≡ length netlist.latches → settled_nets (with_settle netlist signals f) driven held ≡ settled_nets (with_settle netlist signals g) driven held
  settled-alike f g fs gs driven held fits = λ i net. at net (nat_lt net (length netlist.nets)) refl i
    where
      v : Valuation
      v = (one.one driven held fits).0

      at : (net : ℕ) (b : Bool) → nat_lt net (length netlist.nets) ≡ b → (if b then f driven held net else X) ≡ (if b then g driven held net else X)
      at net true is =
          let only = (one.one driven held fits).1.only in
          let below = ltb-sound net (length netlist.nets) is in
          only (f driven held) (fs driven held fits) net below ∙ sym (only (g driven held) (gs driven held fits) net below)
      at net false is = refl

  next-alike : {R : Type 0} (f g : Settle) → Settles netlist f → Settles netlist g → (s : State R) → Holds s → next_cycle (with_settle netlist signals f) s ≡ next_cycle (with_settle netlist signals g) s
  next-alike f g fs gs s fits =
      ap (λ value. counted_down (record s { contents = sampled netlist.nets signals value s.contents; held = held_after netlist value; cycle = s.cycle + 1; turns = 0 }))
      (settled-alike f g fs gs (driven_nets netlist.nets signals s.driven) s.held fits)

  edge-alike : {R : Type 0} (f g : Settle) (limits : Limits) → Settles netlist f → Settles netlist g → (s : State R) → Holds s → edge (with_settle netlist signals f) limits s ≡ edge (with_settle netlist signals g) limits s
  edge-alike {R} f g limits fs gs s fits =
      ap (λ (x : State R). if is_empty s.live then record (drives_applied s) { ended = Some Finished } else (if s.cycle == limits.cycles then record (drives_applied s) { ended = Some Limit } else limited limits x)) (next-alike f g fs gs (drives_applied s) fits)

  move-alike : {R : Type 0} (meaning : Meaning R) (f g : Settle) (limits : Limits) → Settles netlist f → Settles netlist g → (s : State R) → Holds s → move meaning (with_settle netlist signals f) limits s ≡ move meaning (with_settle netlist signals g) limits s
  move-alike {R} meaning f g limits fs gs s fits = by s.ended
    where
      by_ready : (ready : List (Entry R)) → moved meaning (with_settle netlist signals f) limits s ready ≡ moved meaning (with_settle netlist signals g) limits s ready
      by_ready [] = edge-alike f g limits fs gs s fits
      by_ready (e ∷ es) = refl

      by : (o : Option End) → (if is_some o then s else moved meaning (with_settle netlist signals f) limits s s.ready) ≡ (if is_some o then s else moved meaning (with_settle netlist signals g) limits s s.ready)
      by (Some e) = refl
      by None = by_ready s.ready

  limited-holds : {R : Type 0} (limits : Limits) (s : State R) → Holds s → Holds (limited limits s)
  limited-holds {R} limits s fits = limited-cases (λ (t : State R). Holds t) limits s (λ room. fits) fits fits

  turn-holds : {R : Type 0} (meaning : Meaning R) (limits : Limits) (s : State R) (e : Entry R) (es : List (Entry R)) → Holds s → Holds (turn meaning limits s e es)
  turn-holds {R} meaning limits s e es fits =
      let slice = on (meaning (record { rest = e.rest; thread = e.thread; cycle = s.cycle; budget = limits.budget })) s.contents in
      let begun : State R = record s { ready = es; turns = s.turns + 1 } in
      limited-holds limits (after begun e.thread slice) (ap length (after-untouched begun e.thread slice).held ∙ fits)

  move-holds : {R : Type 0} (meaning : Meaning R) (settle : Settle) (limits : Limits) (s : State R) → Holds s → Holds (move meaning (with_settle netlist signals settle) limits s)
  move-holds {R} meaning settle limits s fits = move-cases (λ (t : State R). Holds t) meaning (with_settle netlist signals settle) limits s
      (λ e over. fits)
      (λ still none. edge-cases (λ (t : State R). Holds t) (with_settle netlist signals settle) limits s fits fits (λ more. limited-holds limits (next_cycle (with_settle netlist signals settle) (drives_applied s)) (length-each _ netlist.latches)))
      (λ still e es first. turn-holds meaning limits s e es fits)

  module _ {R : Type 0} (meaning : Meaning R) (limits : Limits) (rest : R) where
    run-holds : (settle : Settle) (n : ℕ) → Holds (run meaning (with_settle netlist signals settle) limits rest n)
    unfolding run
    run-holds settle zero = length-each _ netlist.latches
    run-holds settle (suc n) = move-holds meaning settle limits (run meaning (with_settle netlist signals settle) limits rest n) (run-holds settle n)

    run-alike : (f g : Settle) → Settles netlist f → Settles netlist g → (n : ℕ) → run meaning (with_settle netlist signals f) limits rest n ≡ run meaning (with_settle netlist signals g) limits rest n
    unfolding run
    run-alike f g fs gs zero = refl
    run-alike f g fs gs (suc n) =
        move-alike meaning f g limits fs gs (run meaning (with_settle netlist signals f) limits rest n) (run-holds f n)
        ∙ ap (move meaning (with_settle netlist signals g) limits) (run-alike f g fs gs n)

    pub final-alike : (f g : Settle) → Settles netlist f → Settles netlist g → (e : End) (s : State R) → IsFinal meaning (with_settle netlist signals f) limits rest e s → IsFinal meaning (with_settle netlist signals g) limits rest e s
    final-alike f g fs gs e s is = record {
      moves = is.moves;
      is = sym (run-alike f g fs gs is.moves) ∙ is.is;
      over = is.over;
      first = λ n h. ap (λ (t : State R). t.ended) (sym (run-alike f g fs gs n)) ∙ is.first n h;
    }
