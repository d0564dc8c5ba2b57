-- What the code answers, one step of the walk after the other.
use Rattle.std.proofs.Common.{◌≡◌, ℕ, Bool, true, false, [], ◌∷◌, Option, Some, None, refl, sym, ap, subst}
use Rattle.std.specs.Prelude.{Result, Ok, Err}
use Rattle.vera_ast.specs.declared.refusal.FrontError.{FrontError}
use Rattle.vera_ast.specs.declared.refusal.FrontError.TheVariants.{Refused, NoMemory}
use Rattle.vera_ast.specs.declared.refusal.Refusal.{Refusal}
use Rattle.typing_rules.specs.Answers.{answered, Answers}
use Rattle.typing_rules.specs.Checked.{Checked, ◌>>=◌, ◌>>◌, keeps, refuse, known}

-- ---- the next step, behind one that gave something or refused

pub ok_then : {A B : Type 0} (m : Checked A) (a : A) (f : A → Checked B) → m ≡ Ok a → (m >>= f) ≡ f a
unfolding ◌>>=◌
ok_then (Ok b) a f e = let is : b ≡ a = cc in ap f is
ok_then (Err r) a f e = absurd cc

pub err_then : {A B : Type 0} (m : Checked A) (r : Refusal) (f : A → Checked B) → m ≡ Err r → (m >>= f) ≡ Err r
unfolding ◌>>=◌
err_then (Ok b) r f e = absurd cc
err_then (Err q) r f e = let is : q ≡ r = cc in ap (λ (x : Refusal). Err x) is

-- a refusal, or want of memory, is passed on
pub passed_on : {A B : Type 0} (m : Checked A) (f : A → Checked B) (e : FrontError) → Answers m (Err e) → Answers (m >>= f) (Err e)
passed_on m f (Refused r) h = err_then m r f h
passed_on m f NoMemory h = tt

-- ---- what is answered where memory isn't asked for

pub answered_ok : {A : Type 0} (m : Checked A) (a : A) → answered m ≡ Ok a → m ≡ Ok a
answered_ok {A = A} (Ok b) a e = let is : b ≡ a = cc in ap (λ (x : A). Ok x) is
answered_ok (Err r) a e = absurd cc

pub answered_err : {A : Type 0} (m : Checked A) (e : FrontError) → answered m ≡ Err e → Answers m (Err e)
answered_err (Ok b) e h = absurd cc
answered_err (Err r) (Refused q) h = let is : r ≡ q = cc in ap (λ (x : Refusal). Err x) is
answered_err (Err r) NoMemory h = tt

pub answered_is : {A : Type 0} (m : Checked A) (r : Result A FrontError) → r ≡ answered m → Answers m r
answered_is m (Ok a) e = answered_ok m a (sym e)
answered_is m (Err x) e = answered_err m x (sym e)

-- a refusal that the code makes
pub refused_as : {A : Type 0} (m : Checked A) (e : FrontError) (r : Refusal) → e ≡ Refused r → m ≡ Err r → Answers m (Err e)
refused_as m e r is h = subst (λ (x : FrontError). Answers m (Err x)) (sym is) h

-- ---- one rule

pub refused_by : {B : Type 0} (line code : ℕ) (b : Bool) (q : Checked B) → b ≡ true → (keeps line ((code, b) ∷ []) >> q) ≡ Err (record { code = code; line = line })
unfolding keeps refuse ◌>>=◌
refused_by line code true q e = refl
refused_by line code false q e = absurd cc

pub passed_by : {B : Type 0} (line code : ℕ) (b : Bool) (q : Checked B) → b ≡ false → (keeps line ((code, b) ∷ []) >> q) ≡ q
unfolding keeps refuse ◌>>=◌
passed_by line code true q e = absurd cc
passed_by line code false q e = refl

-- ---- a value that may be missing

pub known_some : {A B : Type 0} (code line : ℕ) (o : Option A) (a : A) (f : A → Checked B) → o ≡ Some a → (known code line o >>= f) ≡ f a
unfolding known ◌>>=◌
known_some code line (Some b) a f e = let is : b ≡ a = cc in ap f is
known_some code line None a f e = absurd cc

pub known_none : {A B : Type 0} (code line : ℕ) (o : Option A) (f : A → Checked B) → o ≡ None → (known code line o >>= f) ≡ Err (record { code = code; line = line })
unfolding known refuse ◌>>=◌
known_none code line (Some b) f e = absurd cc
known_none code line None f e = refl

-- ---- one step that gave something, and what is answered behind it

pub along : {A : Type 0} (d e : Checked A) (r : Result A FrontError) → d ≡ e → Answers e r → Answers d r
along {A = A} d e r is h = subst (λ (m : Checked A). Answers m r) (sym is) h

pub go_on : {A B : Type 0} (m : Checked A) (a : A) (f : A → Checked B) (r : Result B FrontError) → m ≡ Ok a → Answers (f a) r → Answers (m >>= f) r
go_on m a f r e h = along (m >>= f) (f a) r (ok_then m a f e) h

-- ---- what follows a step

-- what follows, written otherwise
pub follow : {A B : Type 0} (p : Checked A) (f g : A → Checked B) → ((a : A) → f a ≡ g a) → (p >>= f) ≡ (p >>= g)
unfolding ◌>>=◌
follow (Ok a) f g same = same a
follow (Err r) f g same = refl

-- steps within steps
pub within : {A B C : Type 0} (p : Checked A) (f : A → Checked B) (g : B → Checked C) → (p >>= f >>= g) ≡ (p >>= (λ a. f a >>= g))
unfolding ◌>>=◌
within (Ok a) f g = refl
within (Err r) f g = refl

-- ---- a part of what a part gives

pub part_refused : {A B C : Type 0} (p : Checked A) (f : A → B) (g : B → C) (r : Refusal) → Err r ≡ (p >>= (λ a. Ok (f a))) → (p >>= (λ a. Ok (g (f a)))) ≡ Err r
unfolding ◌>>=◌
part_refused (Ok a) f g r e = absurd cc
part_refused (Err q) f g r e = cc
