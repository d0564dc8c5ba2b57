-- The first lines of ranges and signals.
use Rattle.std.proofs.Common.{◌≡◌}
use Rattle.std.specs.Option.{option_or}
use Rattle.vera_ast.specs.declared.tree.declarations.Range.{Range}
use Rattle.vera_ast.specs.declared.tree.interfaces.Signal.{Signal}
use Rattle.not_built.proofs.Firsts.{first_append}
use Rattle.not_built.specs.Lines.{first}
use Rattle.not_built.specs.Expressions.{expr_lines}
use Rattle.not_built.specs.Interfaces.{range_lines, optional_lines, kind_lines, signal_lines}

pub range_first : (r : Range) → first (range_lines r) ≡ option_or (first (expr_lines r.high)) (first (expr_lines r.low))
unfolding range_lines
range_first r = first_append (expr_lines r.high) (expr_lines r.low)

pub signal_first : (s : Signal) → first (signal_lines s) ≡ option_or (first (optional_lines s.range)) (first (kind_lines s.kind))
unfolding signal_lines
signal_first s = first_append (optional_lines s.range) (kind_lines s.kind)
