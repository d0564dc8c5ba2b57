-- What is said of a list of tokens. A grammar is here what its files are: IsFile w a says that the tokens of w, each with its depth, are a file
-- with the value a; for a grammar by height it is `Derived file`. With the law of a whole file at each limit, proofs/Whole gives for any grammar
--     whole_ok      what is read is a file with that value:        whole (p limit) ts ≡ Ok (a, rest) → Parses (Derived file) limit ts a
--     whole_only    and each file within the limit is read:        Parses (Derived file) limit ts a → whole (p limit) ts ≡ Ok (a, [])
--     whole_syntax  else the syntax place is told:                 whole (p limit) ts ≡ Err (Stop Syntax left) → IsSyntaxPlace (Derived file) limit ts left
--     whole_deep    or the first token that is too deep before it: whole (p limit) ts ≡ Err (Stop Depth left) → IsTooDeep (Derived file) limit ts left
--     one_value     tokens have one value at most, at any depth
-- and proofs/Reached that the two refusals exclude each other, and that IsTooDeep speaks of the least depth.
use Rattle.std.specs.Prelude.{◌≡◌, ℕ, suc, ◌<◌, List, [], ◌∷◌, ◌++◌, length}
use Rattle.grammar_laws.specs.Words.{Cell, bare, Within}
use Rattle.grammar_laws.specs.Languages.{Lang}

-- derived at some height
pub record Derived {T A : Type 0} (file : ℕ → Lang T A) (w : List (Cell T)) (a : A) : Type 0 where
  pub height : ℕ
  pub derived : file height 0 w [] a

module _ {T A : Type 0} (IsFile : List (Cell T) → A → Type 0) where
  -- the tokens are a file with this value, none of them deeper than the limit
  pub record Parses (limit : ℕ) (ts : List T) (a : A) : Type 0 where
    pub word : List (Cell T)
    pub tokens : ts ≡ bare word
    pub within : Within limit word
    pub is_file : IsFile word a

  -- some file begins with these tokens
  pub record Begins (front : List T) : Type 0 where
    pub word : List (Cell T)
    pub more : List T
    pub tokens : bare word ≡ front ++ more
    pub value : A
    pub is_file : IsFile word value

  -- no file begins with the tokens before this place and the next one; at the end the tokens are no file
  abbrev pub EndsAt : List T → List T → Type 0
  EndsAt front [] = (w : List (Cell T)) (a : A) → IsFile w a → bare w ≡ front → ⊥
  EndsAt front (t ∷ ts) = Begins (front ++ t ∷ []) → ⊥

  -- some file begins with these tokens, at these depths
  pub record BeginsSo (w : List (Cell T)) : Type 0 where
    pub more : List (Cell T)
    pub value : A
    pub is_file : IsFile (w ++ more) value

  -- The syntax place, by the number of tokens that are left there. Some file begins with the tokens before it and has none of these deeper than
  -- the limit, so none of them has to be.
  pub record IsSyntaxPlace (limit : ℕ) (ts : List T) (left : ℕ) : Type 0 where
    pub word : List (Cell T)
    pub rest : List T
    pub tokens : ts ≡ bare word ++ rest
    pub is_left : left ≡ length rest
    pub within : Within limit word
    pub begins : BeginsSo word
    pub stuck : EndsAt (bare word) rest

  -- in this file the token at this place is deeper than the limit, and none before it
  pub record FirstDeep (limit : ℕ) (front : List T) (token : T) (w : List (Cell T)) : Type 0 where
    pub before : List (Cell T)
    pub depth : ℕ
    pub behind : List (Cell T)
    pub parts : w ≡ before ++ (token, depth) ∷ behind
    pub same : bare before ≡ front
    pub shallow : Within limit before
    pub deep : limit < depth

  -- The first token that is too deep, by the number of tokens that are left there. A token's depth in tokens that are no file is the least that
  -- it has in a file that begins with all of them up to the syntax place. So a token is too deep where some file begins with it and what
  -- stands before it, and perhaps with what follows it (`ahead`), and each file that begins so has it deeper than the limit.
  -- It is the first: none of these files has an earlier one deeper.
  pub record IsTooDeep (limit : ℕ) (ts : List T) (left : ℕ) : Type 0 where
    pub front : List T
    pub token : T
    pub ahead : List T
    pub rest : List T
    pub tokens : ts ≡ front ++ token ∷ (ahead ++ rest)
    pub is_left : left ≡ suc (length (ahead ++ rest))
    pub begins : Begins (front ++ token ∷ ahead)
    pub deep : (w : List (Cell T)) (a : A) (more : List T) → IsFile w a → bare w ≡ (front ++ token ∷ ahead) ++ more → FirstDeep limit front token w

  -- how far tokens go: those before the syntax place, or all where there is none
  abbrev pub NoFurther : List T → List T → Type 0
  NoFurther front [] = Unit {0}
  NoFurther front (t ∷ rest) = Begins (front ++ t ∷ []) → ⊥

  pub record Reach (ts front : List T) : Type 0 where
    pub rest : List T
    pub tokens : ts ≡ front ++ rest
    pub begins : Begins front
    pub stuck : NoFurther front rest

  -- The token with so many left stands before the syntax place, each file that begins with the tokens up to there has it deeper than the limit, and none has an earlier one deeper:
  -- so the least of its depths is above the limit, and it is the first of which this holds.
  pub record LeastIsDeep (limit : ℕ) (ts reach : List T) (left : ℕ) : Type 0 where
    pub front : List T
    pub token : T
    pub between : List T
    pub rest : List T
    pub inside : reach ≡ front ++ token ∷ between
    pub tokens : ts ≡ reach ++ rest
    pub is_left : left ≡ suc (length (between ++ rest))
    pub deep : (w : List (Cell T)) (a : A) (more : List T) → IsFile w a → bare w ≡ reach ++ more → FirstDeep limit front token w
