-- Values of signals, as the code reads them.
use Rattle.std.proofs.Common.{◌≡◌, ℕ, true, false}
use Rattle.std.specs.Prelude.{Ok, Err}
use Rattle.vera_ast.specs.declared.tree.interfaces.Direction.{Direction}
use Rattle.vera_ast.specs.declared.typed.expr.TypedExpr.TheVariants as e
use Rattle.vera_ast.specs.declared.typed.names.TypedSignalName.{TypedSignalName}
use Rattle.vera_ast.specs.declared.typed.types.ValueType.TheVariants as t
use Rattle.vera_names.proofs.Answering.{refused_by, passed_by}
use Rattle.typing_rules.specs.Heads.{typed, cut_of, cut_type, signal_type, is_output, value_of}
use Rattle.typing_rules.specs.declared.head.Cut.{Cut}
use Rattle.typing_rules.specs.declared.head.Head.TheVariants as h

pub sample_wrong : (line : ℕ) (s : TypedSignalName) (d : Direction) → is_output d ≡ true → value_of line (h.Signal s d) ≡ Err (record { code = 37; line = line })
unfolding value_of
sample_wrong line s d e = refused_by line 37 (is_output d) _ e

pub sample_right : (line : ℕ) (s : TypedSignalName) (d : Direction) → is_output d ≡ false → value_of line (h.Signal s d) ≡ Ok (typed (e.Sample s) (signal_type s))
unfolding value_of
sample_right line s d e = passed_by line 37 (is_output d) _ e

pub sample_part_wrong : (line : ℕ) (s : TypedSignalName) (d : Direction) (c : Cut) → is_output d ≡ true → value_of line (h.SignalPart s d c) ≡ Err (record { code = 37; line = line })
unfolding value_of
sample_part_wrong line s d c e = refused_by line 37 (is_output d) _ e

pub sample_part_right : (line : ℕ) (s : TypedSignalName) (d : Direction) (c : Cut) → is_output d ≡ false → value_of line (h.SignalPart s d c) ≡ Ok (typed (cut_of (e.Sample s) c) (t.Vector (cut_type c)))
unfolding value_of
sample_part_right line s d c e = passed_by line 37 (is_output d) _ e
