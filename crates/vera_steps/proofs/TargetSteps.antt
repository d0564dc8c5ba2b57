-- Drives and terms: their steps, by the signal that the left side names.
use Rattle.std.proofs.Common.{◌≡◌, Option, refl}
use Rattle.std.specs.Prelude.{Result, Ok, Err}
use Rattle.vera_ast.specs.declared.refusal.FrontError.{FrontError}
use Rattle.vera_ast.specs.declared.tree.expressions.Expr.TheVariants as x
use Rattle.vera_ast.specs.declared.tree.statements.Drive.{Drive}
use Rattle.vera_ast.specs.declared.tree.statements.Term.{Term}
use Rattle.vera_ast.specs.declared.typed.stmt.TypedStmt.{TypedStmt}
use Rattle.vera_ast.specs.declared.typed.stmt.TypedTerm.{TypedTerm}
use Rattle.typing_rules.specs.Answers.{Answers}
use Rattle.typing_rules.specs.Checked.{Checked, ◌>>=◌, perhaps}
use Rattle.typing_rules.specs.Drives as drives
use Rattle.typing_rules.specs.Expressions.{walk, expr}
use Rattle.typing_rules.specs.Waits as waits
use Rattle.typing_rules.specs.declared.context.Context.{Context}
use Rattle.typing_rules.specs.declared.head.Head.TheVariants as h
use Rattle.typing_rules.specs.declared.head.Head.{Head}
use Rattle.typing_rules.specs.declared.head.Stand.TheVariants as stand
use Rattle.typing_rules.specs.declared.head.Typed.{Typed}
use Rattle.vera_names.proofs.Answering.{passed_on, go_on, along, follow}
use Rattle.vera_steps.specs.TargetLists.{target_of, walk_target, driven, expected}
use Rattle.vera_steps.specs.declared.targets.Target.{Target}

-- two parts one after the other, by the signal that the first one names
by_target : {A B C : Type 0} (p : Checked A) (f : A → C) (q : Checked Typed) (g : A → Typed → Checked B) (k : C → Typed → Checked B)
    → ((a : A) (v : Typed) → g a v ≡ k (f a) v) → (p >>= (λ a. q >>= (λ v. g a v))) ≡ (p >>= (λ a. Ok (f a)) >>= (λ t. q >>= (λ v. k t v)))
unfolding ◌>>=◌
by_target (Ok a) f q g k same = follow q (λ v. g a v) (λ v. k (f a) v) (same a)
by_target (Err r) f q g k same = refl

-- ---- drives

driven_is : (c : Context) (d : Drive) (time : Option Typed) (head : Head) (v : Typed) → drives.driven c d time head v ≡ driven c d time (target_of head) v
driven_is c d time (h.Signal s direction) v = refl
driven_is c d time (h.Number n) v = refl
driven_is c d time (h.Str s) v = refl
driven_is c d time (h.Value y) v = refl
driven_is c d time (h.Whole w) v = refl
driven_is c d time (h.Part w k) v = refl
driven_is c d time (h.Array a l of) v = refl
driven_is c d time (h.SignalPart s direction k) v = refl
driven_is c d time (h.Length y) v = refl
driven_is c d time (h.Waits call) v = refl
driven_is c d time (h.Task call) v = refl
driven_is c d time (h.BuiltIn b ys ps) v = refl
driven_is c d time (h.Prints ps ys) v = refl
driven_is c d time (h.PrintsInto p ps ys) v = refl
driven_is c d time (h.Named means) v = refl
driven_is c d time (h.Word b) v = refl
driven_is c d time (h.Mode m) v = refl
driven_is c d time h.New v = refl

-- a drive, by its target
drive_behind : (c : Context) (d : Drive) (time : Option Typed) → (walk c stand.Place (x.Postfix d.signal) >>= (λ head. expr c d.value >>= (λ v. drives.driven c d time head v)))
    ≡ (walk_target c d.signal >>= (λ t. expr c d.value >>= (λ v. driven c d time t v)))
unfolding walk_target
drive_behind c d time = by_target (walk c stand.Place (x.Postfix d.signal)) target_of (expr c d.value) (λ head v. drives.driven c d time head v) (λ t v. driven c d time t v) (driven_is c d time)

drive_stmt_is : (c : Context) (d : Drive) → drives.drive_stmt c d ≡ (perhaps (drives.delay c) d.delay >>= (λ time. walk_target c d.signal >>= (λ t. expr c d.value >>= (λ v. driven c d time t v))))
unfolding drives.drive_stmt
drive_stmt_is c d = follow (perhaps (drives.delay c) d.delay) _ _ (drive_behind c d)

pub drive_delay_stops : (c : Context) (d : Drive) (e : FrontError) → Answers (perhaps (drives.delay c) d.delay) (Err e) → Answers (drives.drive_stmt c d) (Err e)
drive_delay_stops c d e h = along _ _ (Err e) (drive_stmt_is c d) (passed_on _ _ e h)

pub drive_target_stops : (c : Context) (d : Drive) (time : Option Typed) (e : FrontError) → perhaps (drives.delay c) d.delay ≡ Ok time → Answers (walk_target c d.signal) (Err e) → Answers (drives.drive_stmt c d) (Err e)
drive_target_stops c d time e is h = along _ _ (Err e) (drive_stmt_is c d) (go_on _ time _ (Err e) is (passed_on _ _ e h))

pub drive_value_stops : (c : Context) (d : Drive) (time : Option Typed) (t : Option Target) (e : FrontError) → perhaps (drives.delay c) d.delay ≡ Ok time → walk_target c d.signal ≡ Ok t → Answers (expr c d.value) (Err e) → Answers (drives.drive_stmt c d) (Err e)
drive_value_stops c d time t e is at h = along _ _ (Err e) (drive_stmt_is c d) (go_on _ time _ (Err e) is (go_on _ t _ (Err e) at (passed_on _ _ e h)))

pub drive_goes : (c : Context) (d : Drive) (time : Option Typed) (t : Option Target) (v : Typed) (r : Result TypedStmt FrontError)
    → perhaps (drives.delay c) d.delay ≡ Ok time → walk_target c d.signal ≡ Ok t → expr c d.value ≡ Ok v → Answers (driven c d time t v) r → Answers (drives.drive_stmt c d) r
drive_goes c d time t v r is at reads h = along _ _ r (drive_stmt_is c d) (go_on _ time _ r is (go_on _ t _ r at (go_on _ v _ r reads h)))

-- ---- terms

expected_is : (t : Term) (head : Head) (v : Typed) → waits.expected t head v ≡ expected t (target_of head) v
expected_is t (h.Signal s direction) v = refl
expected_is t (h.Number n) v = refl
expected_is t (h.Str s) v = refl
expected_is t (h.Value y) v = refl
expected_is t (h.Whole w) v = refl
expected_is t (h.Part w k) v = refl
expected_is t (h.Array a l of) v = refl
expected_is t (h.SignalPart s direction k) v = refl
expected_is t (h.Length y) v = refl
expected_is t (h.Waits call) v = refl
expected_is t (h.Task call) v = refl
expected_is t (h.BuiltIn b ys ps) v = refl
expected_is t (h.Prints ps ys) v = refl
expected_is t (h.PrintsInto p ps ys) v = refl
expected_is t (h.Named means) v = refl
expected_is t (h.Word b) v = refl
expected_is t (h.Mode m) v = refl
expected_is t h.New v = refl

term_is : (c : Context) (t : Term) → waits.term c t ≡ (walk_target c t.signal >>= (λ s. expr c t.value >>= (λ v. expected t s v)))
unfolding waits.term walk_target
term_is c t = by_target (walk c stand.Place (x.Postfix t.signal)) target_of (expr c t.value) (λ head v. waits.expected t head v) (λ s v. expected t s v) (expected_is t)

pub term_target_stops : (c : Context) (t : Term) (e : FrontError) → Answers (walk_target c t.signal) (Err e) → Answers (waits.term c t) (Err e)
term_target_stops c t e h = along _ _ (Err e) (term_is c t) (passed_on _ _ e h)

pub term_value_stops : (c : Context) (t : Term) (s : Option Target) (e : FrontError) → walk_target c t.signal ≡ Ok s → Answers (expr c t.value) (Err e) → Answers (waits.term c t) (Err e)
term_value_stops c t s e at h = along _ _ (Err e) (term_is c t) (go_on _ s _ (Err e) at (passed_on _ _ e h))

pub term_goes : (c : Context) (t : Term) (s : Option Target) (v : Typed) (r : Result TypedTerm FrontError) → walk_target c t.signal ≡ Ok s → expr c t.value ≡ Ok v → Answers (expected t s v) r → Answers (waits.term c t) r
term_goes c t s v r at reads h = along _ _ r (term_is c t) (go_on _ s _ r at (go_on _ v _ r reads h))
