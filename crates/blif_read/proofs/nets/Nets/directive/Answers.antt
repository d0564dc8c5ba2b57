use Rattle.blif_read.proofs.Numbered.{names_numbers, latch_numbers, controlled_numbers}
use Rattle.blif_read.proofs.nets.Nets.directive.Goals as goal

pub returns-in-Names : goal.returns-in-Names
returns-in-Names c =
    let h = rw c.as_slice-in-Names.ensures at c.in_ok-inputs-in-Names.ensures in
    let k = rw c.as_slice-in-Names-2.ensures at c.in_ok-output-in-Names.ensures in
    rw c.in-Names.is (names_numbers _ _ _ _ _ _ _ h k)

pub returns-in-Some : goal.returns-in-Some
returns-in-Some c =
    let h = rw c.as_slice-in-Latch.ensures at c.in_ok-input-in-Latch.ensures in
    let k = rw c.as_slice-in-Latch-2.ensures at c.in_ok-output-in-Latch.ensures in
    let l = rw c.as_slice-in-Some.ensures at c.in_ok-control-in-Some.ensures in
    rw (c.in-Latch.is, c.in-Some.is) (controlled_numbers _ _ _ _ _ _ _ _ _ _ _ h k l)

pub returns-in-Latch : goal.returns-in-Latch
returns-in-Latch c =
    let h = rw c.as_slice-in-Latch.ensures at c.in_ok-input-in-Latch.ensures in
    let k = rw c.as_slice-in-Latch-2.ensures at c.in_ok-output-in-Latch.ensures in
    rw (c.in-Latch.is, c.in-None.is) (latch_numbers _ _ _ _ _ _ _ _ h k)
