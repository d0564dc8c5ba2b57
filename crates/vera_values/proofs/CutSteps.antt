-- Bits of what stands before them, step by step.
use Rattle.std.proofs.Common.{◌≡◌, ◌≢◌, ℕ, true, false, ap, refl}
use Rattle.std.specs.Prelude.{not, Ok, Err}
use Rattle.vera_ast.specs.declared.refusal.FrontError.{FrontError}
use Rattle.vera_ast.specs.declared.tree.interfaces.Direction.{Direction}
use Rattle.vera_ast.specs.declared.typed.expr.TypedExpr.TheVariants as e
use Rattle.vera_ast.specs.declared.typed.expr.TypedExpr.{TypedExpr}
use Rattle.vera_ast.specs.declared.typed.names.TypedSignalName.{TypedSignalName}
use Rattle.vera_ast.specs.declared.typed.place.TypedArray.{TypedArray}
use Rattle.vera_ast.specs.declared.typed.types.ArrayLength.{ArrayLength}
use Rattle.vera_ast.specs.declared.typed.types.ValueType.{ValueType}
use Rattle.vera_ast.specs.declared.typed.types.ValueType.TheVariants as t
use Rattle.vera_names.proofs.Answering.{ok_then, passed_on, refused_by, passed_by}
use Rattle.typing_rules.specs.Answers.{Answers}
use Rattle.typing_rules.specs.Checked.{Checked}
use Rattle.typing_rules.specs.Heads.{typed, cut_of, cut_type}
use Rattle.typing_rules.specs.Posts.{value_cut, cut_head, reads_output, value_in, indexed, index}
use Rattle.vera_values.specs.Steps.{cut_behind}
use Rattle.typing_rules.specs.Types.{is_vector}
use Rattle.typing_rules.specs.declared.head.Cut.{Cut}
use Rattle.typing_rules.specs.declared.head.Cut.TheVariants as cut
use Rattle.typing_rules.specs.declared.head.Head.{Head}
use Rattle.typing_rules.specs.declared.head.Head.TheVariants as h
use Rattle.typing_rules.specs.declared.head.Stand.{Stand}
use Rattle.typing_rules.specs.declared.head.Typed.{Typed}

pub cut_wrong : (line : ℕ) (x : Typed) (c : Cut) → is_vector x.of ≡ false → value_cut line x c ≡ Err (record { code = 32; line = line })
cut_wrong line x c e = refused_by line 32 _ _ (ap not e)

pub cut_right : (line : ℕ) (x : Typed) (c : Cut) → is_vector x.of ≡ true → value_cut line x c ≡ Ok (h.Value (typed (cut_of x.expr c) (t.Vector (cut_type c))))
cut_right line x c e = passed_by line 32 _ _ (ap not e)

pub part_wrong : (s : Stand) (line : ℕ) (signal : TypedSignalName) (d : Direction) (c : Cut) → reads_output s d ≡ true → value_in s line (h.SignalPart signal d c) ≡ Err (record { code = 37; line = line })
part_wrong s line signal d c e = refused_by line 37 (reads_output s d) _ e

pub part_right : (s : Stand) (line : ℕ) (signal : TypedSignalName) (d : Direction) (c : Cut) → reads_output s d ≡ false → value_in s line (h.SignalPart signal d c) ≡ Ok (typed (cut_of (e.Sample signal) c) (t.Vector (cut_type c)))
part_right s line signal d c e = passed_by line 37 (reads_output s d) _ e

pub behind_wrong : (line : ℕ) (m : Checked Typed) (c : Cut) (x : FrontError) → Answers m (Err x) → Answers (cut_behind line m c) (Err x)
behind_wrong line m c x a = passed_on m (λ v. value_cut line v c) x a

pub behind_right : (line : ℕ) (m : Checked Typed) (c : Cut) (x : Typed) → m ≡ Ok x → cut_behind line m c ≡ value_cut line x c
behind_right line m c x e = ok_then m x (λ v. value_cut line v c) e

pub indexed_other : (s : Stand) (line : ℕ) (head : Head) (i : TypedExpr) → ((a : TypedArray) (length : ArrayLength) (of : ValueType) → head ≢ h.Array a length of) → indexed s line head i ≡ cut_head s line head (cut.Bit i)
indexed_other s line (h.Array a length of) i other = absurd (other a length of refl)
indexed_other s line head i other = refl

pub index_wrong : (s : Stand) (line : ℕ) (head : Head) (i : Typed) → is_vector i.of ≡ false → index s line head i ≡ Err (record { code = 32; line = line })
unfolding index
index_wrong s line head i e = refused_by line 32 _ _ (ap not e)

pub index_right : (s : Stand) (line : ℕ) (head : Head) (i : Typed) → is_vector i.of ≡ true → index s line head i ≡ indexed s line head i.expr
unfolding index
index_right s line head i e = passed_by line 32 _ _ (ap not e)
