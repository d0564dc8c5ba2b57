-- The types that declarations name, step by step, as the code takes them.
use Rattle.std.proofs.Common.{◌≡◌, ℕ, ◌<◌, suc, Bool, true, false, [], ◌∷◌, Some, None, refl, sym, ap, subst, ◌∙◌}
use Rattle.std.specs.Prelude.{◌==◌, not, nat_le, Result, Ok, Err}
use Rattle.std.proofs.lemmas.Bool.{lt-leb}
use Rattle.vera_ast.specs.Types.{one_bit}
use Rattle.vera_ast.specs.declared.refusal.FrontError.{FrontError}
use Rattle.vera_ast.specs.declared.refusal.FrontError.TheVariants.{Refused}
use Rattle.vera_ast.specs.declared.tree.declarations.Bracket.TheVariants as bracket
use Rattle.vera_ast.specs.declared.tree.expressions.Expr.{Expr}
use Rattle.vera_ast.specs.declared.tree.declarations.Range.{Range}
use Rattle.vera_ast.specs.declared.typed.types.ValueType.{ValueType}
use Rattle.vera_ast.specs.declared.typed.types.ValueType.TheVariants as t
use Rattle.vera_ast.specs.declared.typed.types.VectorType.TheVariants as vector
use Rattle.vera_ast.specs.declared.typed.types.Width.{Width}
use Rattle.vera_names.proofs.Answering.{ok_then, passed_on, answered_is, refused_by, passed_by, known_some, known_none, refused_as}
use Rattle.typing_rules.specs.Answers.{answered, Answers}
use Rattle.typing_rules.specs.Checked.{Checked, ◌>>=◌, ◌>>◌, keeps, known, refuse}
use Rattle.typing_rules.specs.Constants.{constant}
use Rattle.typing_rules.specs.DataTypes.{range, bits, type_named, named_type, elements}
use Rattle.typing_rules.specs.Scopes.{Scopes, Name, meaning_of}
use Rattle.typing_rules.specs.declared.names.Meaning.{Meaning}
use Rattle.typing_rules.specs.Types.{sized, width_from}

pub range_no_high : (scopes : Scopes) (r : Range) (e : FrontError) → Answers (constant scopes r.high) (Err e) → Answers (range scopes r) (Err e)
unfolding range
range_no_high scopes r e h = passed_on (constant scopes r.high) _ e h

range_behind : (scopes : Scopes) (r : Range) (high : ℕ) → constant scopes r.high ≡ Ok high
    → range scopes r ≡ (constant scopes r.low >>= (λ low. keeps r.line ((32, not (low == 0)) ∷ []) >> known 39 r.line (width_from (suc high))))
unfolding range
range_behind scopes r high e = ok_then (constant scopes r.high) high _ e

pub range_no_low : (scopes : Scopes) (r : Range) (high : ℕ) (e : FrontError) → constant scopes r.high ≡ Ok high → Answers (constant scopes r.low) (Err e) → Answers (range scopes r) (Err e)
range_no_low scopes r high e h k = subst (λ (c : Checked Width). Answers c (Err e)) (sym (range_behind scopes r high h)) (passed_on (constant scopes r.low) _ e k)

pub range_above : (scopes : Scopes) (r : Range) (high low : ℕ) → constant scopes r.high ≡ Ok high → constant scopes r.low ≡ Ok low → (low == 0) ≡ false
    → range scopes r ≡ Err (record { code = 32; line = r.line })
range_above scopes r high low e f low_is = range_behind scopes r high e ∙ ok_then (constant scopes r.low) low _ f ∙ refused_by r.line 32 (not (low == 0)) _ (ap not low_is)

range_known : (scopes : Scopes) (r : Range) (high low : ℕ) → constant scopes r.high ≡ Ok high → constant scopes r.low ≡ Ok low → (low == 0) ≡ true
    → range scopes r ≡ known 39 r.line (width_from (suc high))
range_known scopes r high low e f low_is = range_behind scopes r high e ∙ ok_then (constant scopes r.low) low _ f ∙ passed_by r.line 32 (not (low == 0)) _ (ap not low_is)

pub range_wide : (scopes : Scopes) (r : Range) (high low : ℕ) → constant scopes r.high ≡ Ok high → constant scopes r.low ≡ Ok low → (low == 0) ≡ true → None ≡ width_from (suc high)
    → range scopes r ≡ Err (record { code = 39; line = r.line })
unfolding known refuse
range_wide scopes r high low e f low_is none = range_known scopes r high low e f low_is ∙ ap (known 39 r.line) (sym none)

pub range_right : (scopes : Scopes) (r : Range) (high low : ℕ) (w : Width) → constant scopes r.high ≡ Ok high → constant scopes r.low ≡ Ok low → (low == 0) ≡ true → Some w ≡ width_from (suc high)
    → range scopes r ≡ Ok w
unfolding known
range_right scopes r high low w e f low_is some = range_known scopes r high low e f low_is ∙ ap (known 39 r.line) (sym some)

pub bits_no_range : (scopes : Scopes) (r : Range) (e : FrontError) → Answers (range scopes r) (Err e) → Answers (bits scopes (Some r)) (Err e)
unfolding bits
bits_no_range scopes r e h = passed_on (range scopes r) _ e h

pub bits_right : (scopes : Scopes) (r : Range) (w : Width) → range scopes r ≡ Ok w → bits scopes (Some r) ≡ Ok (t.Vector (vector.Bits w))
unfolding bits
bits_right scopes r w e = ok_then (range scopes r) w _ e

pub bits_one : (scopes : Scopes) → bits scopes None ≡ Ok (t.Vector one_bit)
unfolding bits
bits_one scopes = refl

pub named_found : (scopes : Scopes) (line : ℕ) (name : Name) (m : Meaning) (r : Result ValueType FrontError) → meaning_of scopes name ≡ Some m → r ≡ answered (type_named line m) → Answers (named_type scopes line name) r
named_found scopes line name m r e h =
    subst (λ (c : Checked ValueType). Answers c r) (sym (known_some 30 line (meaning_of scopes name) m (type_named line) e)) (answered_is (type_named line m) r h)

pub named_unknown : (scopes : Scopes) (line : ℕ) (name : Name) (e : FrontError) → meaning_of scopes name ≡ None → e ≡ Refused (record { code = 30; line = line }) → Answers (named_type scopes line name) (Err e)
named_unknown scopes line name e none is = refused_as (named_type scopes line name) e (record { code = 30; line = line }) is (known_none 30 line (meaning_of scopes name) (type_named line) none)

pub elements_wrong : (scopes : Scopes) (line : ℕ) (x : Expr) (e : FrontError) → Answers (constant scopes x) (Err e) → Answers (elements scopes line (bracket.Fixed x)) (Err e)
elements_wrong scopes line x e h = passed_on (constant scopes x) _ e h

pub elements_right : (scopes : Scopes) (line : ℕ) (x : Expr) (n : ℕ) → constant scopes x ≡ Ok n → elements scopes line (bracket.Fixed x) ≡ Ok (Some n)
elements_right scopes line x n e = ok_then (constant scopes x) n _ e

not_sized : (m : ℕ) (b : Bool) (e : nat_le m 127 ≡ b) → b ≡ false → sized m b e ≡ None
not_sized m true e f = absurd cc
not_sized m false e f = refl

pub too_many : (m : ℕ) → 127 < m → width_from (suc m) ≡ None
unfolding width_from
too_many m lt = not_sized m (nat_le m 127) _ (lt-leb m 127 lt)
