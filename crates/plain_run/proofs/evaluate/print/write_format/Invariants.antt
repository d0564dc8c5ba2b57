use Rattle.std.proofs.Common.{◌≡◌, ◌≤◌, length, ◌++◌, map, drop}
use Rattle.vera_meaning.specs.Formats.{formatted}
use Rattle.plain_run.specs.Printing.{argument_of}
use Rattle.plain_run.proofs.evaluate.print.write_format.Given as goal

-- what is printed so far, and what the parts that are left print
abbrev pub invariant-loop-part : goal.invariant-loop-part
invariant-loop-part l = record {
  within : l.taken ≤ length l.values;
  printed : l.printed.items ++ formatted (drop l.part-index l.format) (map argument_of (drop l.taken l.values)) ≡ l.initial.printed.items ++ formatted l.format (map argument_of l.values);
}
