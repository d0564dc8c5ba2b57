use Rattle.std.proofs.Common.{◌≡◌, ◌+◌, suc, arith, refl, sym, eq-eqb, get_or, false}
use Rattle.std.specs.Prelude.{◌==◌}
use Rattle.std.proofs.lemmas.Bool.{ne_eqb}
use Rattle.vera_lex.proofs.Gaps.{comment_ends, comment_goes_on, space_passes, comment_begins, two_there, not_pair}
use Rattle.vera_lex.proofs.directives.gap_length.Goals as goal

pub gap-preserved-then-second-eq47 : goal.gap-preserved-then-second-eq47
gap-preserved-then-second-eq47 c =
    let bs = c.args.bytes.now in
    let at = c.gap.at in
    let b = c.byte_at-second.result in
    let one : at + 1 ≡ suc at = omega arith in
    let two : at + 2 ≡ suc (suc at) = omega arith in
    let first = eq-eqb (get_or bs at 0) 42 c.if-first-eq42.true in
    let second = eq-eqb b 47 c.if-second-eq47.true in
    let some : (b == 0) ≡ false = rw c.if-second-eq47.true refl in
    let read = rw c.if-inside.true at c.gap.invariant.read in
    record {
      read = comment_ends bs at (get_or bs at 0) b _ (at + 1) (at + 2) one two c.gap-test.true refl c.byte_at-second.ensures first second read;
      within = two_there bs at (get_or bs at 0) b 0 (at + 1) (at + 2) one two c.gap-test.true refl c.byte_at-second.ensures some;
    }

pub gap-preserved-else-first-eq10 : goal.gap-preserved-else-first-eq10
gap-preserved-else-first-eq10 c =
    let bs = c.args.bytes.now in
    let at = c.gap.at in
    let b = c.byte_at-second.result in
    let one : at + 1 ≡ suc at = omega arith in
    let two : at + 2 ≡ suc (suc at) = omega arith in
    let pair = not_pair (get_or bs at 0) b c.else-first-eq42.either in
    let line = ne_eqb (get_or bs at 0) 10 c.if-first-eq10.false in
    let read = rw c.if-inside.true at c.gap.invariant.read in
    let lt = c.gap-test.true in
    record {
      read = rw c.if-inside.true (comment_goes_on bs at (get_or bs at 0) b _ (at + 1) (at + 2) one two c.gap-test.true refl c.byte_at-second.ensures pair line read);
      within = omega arith;
    }

pub gap-preserved-then-is_space : goal.gap-preserved-then-is_space
gap-preserved-then-is_space c =
    let bs = c.args.bytes.now in
    let at = c.gap.at in
    let b = c.byte_at-second.result in
    let one : at + 1 ≡ suc at = omega arith in
    let two : at + 2 ≡ suc (suc at) = omega arith in
    let space = sym c.is_space.ensures in
    let read = rw c.if-inside.false at c.gap.invariant.read in
    let lt = c.gap-test.true in
    record {
      read = rw c.if-inside.false (space_passes bs at (get_or bs at 0) b _ (at + 1) (at + 2) one two c.gap-test.true refl c.byte_at-second.ensures (rw c.if-is_space.true at space) read);
      within = omega arith;
    }

pub gap-preserved : goal.gap-preserved
gap-preserved c =
    let bs = c.args.bytes.now in
    let at = c.gap.at in
    let b = c.byte_at-second.result in
    let one : at + 1 ≡ suc at = omega arith in
    let two : at + 2 ≡ suc (suc at) = omega arith in
    let space = sym c.is_space.ensures in
    let first = eq-eqb (get_or bs at 0) 47 c.if-first-eq47.true in
    let second = eq-eqb b 42 c.if-second-eq42.true in
    let some : (b == 0) ≡ false = rw c.if-second-eq42.true refl in
    let read = rw c.if-inside.false at c.gap.invariant.read in
    record {
      read = comment_begins bs at (get_or bs at 0) b _ (at + 1) (at + 2) one two c.gap-test.true refl c.byte_at-second.ensures (rw c.if-is_space.false at space) first second read;
      within = two_there bs at (get_or bs at 0) b 0 (at + 1) (at + 2) one two c.gap-test.true refl c.byte_at-second.ensures some;
    }
