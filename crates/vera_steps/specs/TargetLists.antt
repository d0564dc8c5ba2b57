-- The target of a drive or of a term: the whole signal that its left side names.
use Rattle.std.specs.Prelude.{not, [], ◌∷◌, Option, Some, None, Ok}
use Rattle.vera_ast.specs.declared.tree.expressions.Expr.TheVariants as x
use Rattle.vera_ast.specs.declared.tree.expressions.Postfix.{Postfix}
use Rattle.vera_ast.specs.declared.tree.statements.Drive.{Drive}
use Rattle.vera_ast.specs.declared.tree.statements.Term.{Term}
use Rattle.vera_ast.specs.declared.typed.stmt.TypedStmt.{TypedStmt}
use Rattle.vera_ast.specs.declared.typed.stmt.TypedTerm.{TypedTerm}
use Rattle.typing_rules.specs.Checked.{Checked, ◌>>=◌, ◌>>◌, refuse, keeps, wrong_type, wrong_signal}
use Rattle.typing_rules.specs.Drives.{drive}
use Rattle.typing_rules.specs.Expressions.{walk}
use Rattle.typing_rules.specs.Heads.{is_output}
use Rattle.typing_rules.specs.Types.{is_vector}
use Rattle.typing_rules.specs.declared.context.Context.{Context}
use Rattle.typing_rules.specs.declared.head.Head.TheVariants as h
use Rattle.typing_rules.specs.declared.head.Head.{Head}
use Rattle.typing_rules.specs.declared.head.Stand.TheVariants as stand
use Rattle.typing_rules.specs.declared.head.Typed.{Typed}
use Rattle.vera_steps.specs.declared.targets.Target.{Target}

-- the whole signal that a head is
abbrev pub target_of : Head → Option Target
target_of (h.Signal s d) = Some (record { signal = s; direction = d })
target_of _ = None

-- that of a `post` that is taken as a place
unfoldable pub walk_target : Context → Postfix → Checked (Option Target)
walk_target c p = walk c stand.Place (x.Postfix p) >>= (λ head. Ok (target_of head))

-- a drive, once its parts were walked
abbrev pub driven : Context → Drive → Option Typed → Option Target → Typed → Checked TypedStmt
driven c d time (Some t) v = drive c d.line time t.signal t.direction d.operator v
driven c d time None v = refuse wrong_type d.line

-- a term, once its parts were walked
abbrev pub expected : Term → Option Target → Typed → Checked TypedTerm
expected t (Some s) v = do
  keeps t.line ((wrong_type, not (is_vector v.of)) ∷ (wrong_signal, is_output s.direction) ∷ [])
  Ok (record { line = t.line; signal = s.signal; operator = t.operator; value = v.expr })
expected t None v = refuse wrong_type t.line
