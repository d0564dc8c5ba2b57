-- Reading from left to right, with one token ahead, and two where a block begins. Each combinator stands for the one of the same name in
-- Languages; `<|>` is `either`, which is told the codes with which the first begins. A reader writes each production again, open over the readers
-- of those that nest, and ties these by recursion on the levels of depth that are left:
--     expr zero = too_deep code first_expr
--     expr (suc n) = compare (expr n) (unary n)
-- The whole is `whole (items limit)`. Code ensures `Reads (production .. rest) result new_rest` of each of its functions. What code passes to a loop
-- has a name of its own here, and the code's own loops are `many` and `firsts`.
use Rattle.std.specs.Prelude.{◌≡◌, ◌≢◌, ℕ, zero, suc, ◌==◌, ◌||◌, ◌&&◌, not, Bool, if◌then◌else◌, List, [], ◌∷◌, ◌++◌, length, Option, Some, None, Result, Ok, Err}
use Rattle.grammar_laws.specs.declared.fault.Fault.{Fault}
use Rattle.grammar_laws.specs.declared.fault.Fault.TheVariants.{NoMemory, Stop}
use Rattle.grammar_laws.specs.declared.fault.Why.{Why}
use Rattle.grammar_laws.specs.declared.fault.Why.TheVariants.{Syntax, Depth}
use Rattle.grammar_laws.specs.Words.{begins, behind}

-- a value and what is left, or why and where it stops
abbrev pub Outcome : Type 0 → Type 0 → Type 0
Outcome T A = Result (A × List T) Fault

abbrev pub Parser : Type 0 → Type 0 → Type 0
Parser T A = List T → Outcome T A

unfoldable pub and_then : {T A B : Type 0} → Outcome T A → (A → Parser T B) → Outcome T B
and_then (Ok p) f = f p.0 p.1
and_then (Err e) f = Err e

infixl 10 ◌>>=◌
abbrev pub ◌>>=◌ : {T A B : Type 0} → Parser T A → (A → Parser T B) → Parser T B
p >>= f = λ ts. and_then (p ts) f

infixl 10 ◌>>◌
abbrev pub ◌>>◌ : {T A B : Type 0} → Parser T A → Parser T B → Parser T B
p >> q = p >>= (λ _. q)

abbrev pub pure : {T A : Type 0} → A → Parser T A
pure a = λ ts. Ok (a, ts)

infixr 11 ◌<$>◌
abbrev pub ◌<$>◌ : {T A B : Type 0} → (A → B) → Parser T A → Parser T B
f <$> p = p >>= (λ x. pure (f x))

-- stops here
abbrev pub stop : {T A : Type 0} → Why → Parser T A
stop why = λ ts. Err (Stop why (length ts))

unfoldable pub word : {T : Type 0} → (T → ℕ) → ℕ → Parser T T
word code c [] = Err (Stop Syntax 0)
word code c (t ∷ ts) = if code t == c then Ok (t, ts) else Err (Stop Syntax (length (t ∷ ts)))

-- the first where its tokens come, and else the second
unfoldable pub either : {T A : Type 0} → (T → ℕ) → List ℕ → Parser T A → Parser T A → Parser T A
either code codes p q = λ ts. if begins code codes ts then p ts else q ts

-- items for as long as one of these codes comes, so many at most
unfoldable pub many_from : {T A : Type 0} → (T → ℕ) → List ℕ → Parser T A → ℕ → Parser T (List A)
many_from code codes p zero ts = Ok ([], ts)
many_from code codes p (suc n) ts = either code codes (do a ← p; more ← many_from code codes p n; pure (a ∷ more)) (pure []) ts

abbrev pub many : {T A : Type 0} → (T → ℕ) → List ℕ → Parser T A → Parser T (List A)
many code codes p = λ ts. many_from code codes p (length ts) ts

abbrev pub maybe : {T A : Type 0} → (T → ℕ) → List ℕ → Parser T A → Parser T (Option A)
maybe code codes p = either code codes (Some <$> p) (pure None)

-- where no more depth is left
abbrev pub too_deep : {T A : Type 0} → (T → ℕ) → List ℕ → Parser T A
too_deep code codes = either code codes (stop Depth) (stop Syntax)

-- why reading stops there
unfoldable pub fault_at : {T : Type 0} → (T → ℕ) → List ℕ → List T → Fault
fault_at code codes ts = if begins code codes ts then Stop Depth (length ts) else Stop Syntax (length ts)

-- the end of the tokens
unfoldable pub finished : {T : Type 0} → Parser T (Unit {0})
finished [] = Ok (tt, [])
finished (t ∷ ts) = Err (Stop Syntax (length (t ∷ ts)))

-- all tokens
unfoldable pub whole : {T A : Type 0} → Parser T A → Parser T A
whole p = do
  a ← p
  finished
  pure a

-- ---- two kinds of items, one after the other, where both may begin with a name

-- Whether an item of the first kind comes: one of its own tokens, or two names.
abbrev pub first_kind : {T : Type 0} → (T → ℕ) → List ℕ → ℕ → List T → Bool
first_kind code own name ts = begins code own ts || (begins code (name ∷ []) ts && begins code (name ∷ []) (behind ts))

-- items of the first kind for as long as one comes, so many at most
unfoldable pub firsts_from : {T A : Type 0} → (T → ℕ) → List ℕ → ℕ → Parser T A → ℕ → Parser T (List A)
firsts_from code own name p zero ts = Ok ([], ts)
firsts_from code own name p (suc n) ts = if first_kind code own name ts then and_then (p ts) (λ a s. and_then (firsts_from code own name p n s) (λ more r. Ok (a ∷ more, r))) else Ok ([], ts)

abbrev pub firsts : {T A : Type 0} → (T → ℕ) → List ℕ → ℕ → Parser T A → Parser T (List A)
firsts code own name p = λ ts. firsts_from code own name p (length ts) ts

-- Whether a name comes that begins an item of neither kind: what follows it isn't one of these.
abbrev pub stray : {T : Type 0} → (T → ℕ) → ℕ → List ℕ → List T → Bool
stray code name after ts = begins code (name ∷ []) ts && not (begins code after (behind ts))

-- Items of the second kind, where none of the first kind comes. The token after a stray name is the one at which tokens stop.
unfoldable pub past_stray : {T A : Type 0} → (T → ℕ) → ℕ → List ℕ → Parser T A → Parser T A
past_stray code name after p = λ ts. if stray code name after ts then Err (Stop Syntax (length (behind ts))) else p ts

abbrev pub many_then : {T A B : Type 0} → (T → ℕ) → (own : List ℕ) → (name : ℕ) → (after second : List ℕ) → Parser T A → Parser T B → Parser T (List A × List B)
many_then code own name after second p q = do
  as1 ← firsts code own name p
  bs ← past_stray code name after (many code second q)
  pure (as1, bs)

-- with what was read before
unfoldable pub grown : {T A : Type 0} → List A → Outcome T (List A) → Outcome T (List A)
grown found o = and_then o (λ more s. Ok (found ++ more, s))

-- what a function that reads ensures: the outcome, unless memory fails
abbrev pub Reads : {T A : Type 0} → Outcome T A → Result A Fault → List T → Type 0
Reads outcome (Ok a) rest = outcome ≡ Ok (a, rest)
Reads outcome (Err e) rest = e ≢ NoMemory → outcome ≡ Err e
