-- The whole text, piece by piece.
use Rattle.std.proofs.Common.{◌≡◌, ℕ, suc, ◌+◌, ◌<◌, ◌≤◌, List, [], ◌∷◌, length, take, drop, Result, Ok, Err, false, refl, sym, ap, subst, ◌∙◌, arith}
use Rattle.std.specs.Prelude.{◌==◌}
use Rattle.std.proofs.lemmas.Bool.Decides.{nat_tests}
use Rattle.std.proofs.lemmas.List.{length-drop}
use Rattle.vera_ast.specs.declared.token.Token.{Token}
use Rattle.vera_ast.specs.declared.refusal.Refusal.{Refusal}
use Rattle.vera_ast.specs.declared.refusal.FrontError.{FrontError}
use Rattle.vera_ast.specs.declared.refusal.FrontError.TheVariants.{Refused, NoMemory}
use Rattle.vera_lex.specs.Tokens.{Piece, State, at_start, placed, behind, refusal, FromPlace, Behind, Lexed, IsLexed}
use Rattle.vera_lex.specs.Reading.{front}
use Rattle.vera_lex.specs.Seen.{Shows, Steps, IsNext, next, next_of, AfterPiece, IsAnswer}
use Rattle.vera_lex.specs.declared.lexer.Lexer.{Lexer}
use Rattle.vera_lex.proofs.Fronts.{front_stands}

-- what is left of the text leads to the answer on the whole
pub record SoFar (bytes : List ℕ) (l : Lexer) (rest : List ℕ) : Type 0 where
  pub state : State
  pub shows : Shows l state
  pub leads : (pieces : ℕ) (r : Result (List Token) Refusal) → Lexed pieces state rest r → IsLexed bytes r
  pub lines : l.line + length rest ≤ length bytes + 1
  pub within : length rest ≤ length bytes

pub begin : (bytes : List ℕ) (l : Lexer) → l.line ≡ 1 → Shows l at_start → SoFar bytes l bytes
begin bytes l one h = record { state = at_start; shows = h; leads = λ pieces r d. (pieces, d); lines = omega arith; within = omega arith }

-- a step of the definition
one_piece : (s : State) (b : ℕ) (bs : List ℕ) (pieces : ℕ) (r : Result (List Token) Refusal) → FromPlace (Lexed pieces) s (b ∷ bs) (front (b ∷ bs)) r → Lexed (suc pieces) s (b ∷ bs) r
one_piece s b bs pieces r f = (front (b ∷ bs), front_stands b bs, f)

module _ (s : State) (text : List ℕ) (pieces : ℕ) (r : Result (List Token) Refusal) where
  goes_on : (o : Result (Piece × ℕ) ℕ) (t : State) (n : ℕ) → next_of s text o ≡ Ok (t, n) → Lexed pieces t (drop n text) r → FromPlace (Lexed pieces) s text o r
  goes_on (Err code) t n e d = absurd cc
  goes_on (Ok p) t n e d = go (placed s p.0) e
    where
      go : (o : Result State ℕ) → AfterPiece s text p.1 o ≡ Ok (t, n) → Behind (Lexed pieces) s text p.1 o r
      go (Err code) e = absurd cc
      go (Ok u) e =
          let pair : (behind (take p.1 text) u, p.1) ≡ (t, n) = cc in
          let state = ap (λ (x : State × ℕ). x.0) pair in
          let count = ap (λ (x : State × ℕ). x.1) pair in
          subst (λ (v : State). Lexed pieces v (drop p.1 text) r) (sym state) (subst (λ (m : ℕ). Lexed pieces t (drop m text) r) (sym count) d)

stops : (s : State) (text : List ℕ) (pieces code : ℕ) (o : Result (Piece × ℕ) ℕ) → next_of s text o ≡ Err code → FromPlace (Lexed pieces) s text o (Err (refusal code s.line))
stops s text pieces code (Err c) e = let same : c ≡ code = cc in rw same refl
stops s text pieces code (Ok p) e = go (placed s p.0) e
  where
    go : (o : Result State ℕ) → AfterPiece s text p.1 o ≡ Err code → Behind (Lexed pieces) s text p.1 o (Err (refusal code s.line))
    go (Err c) e = let same : c ≡ code = cc in rw same refl
    go (Ok u) e = absurd cc

pub further : (bytes : List ℕ) (old new : Lexer) (rest : List ℕ) (n : ℕ) → SoFar bytes old rest → Steps old rest new (Ok n) → 0 < n → n ≤ length rest → new.line ≤ old.line + n → SoFar bytes new (drop n rest)
further bytes old new rest n so step some within line = go (next so.state rest) refl (step so.state so.shows)
  where
    go : (o : Result (State × ℕ) ℕ) → next so.state rest ≡ o → IsNext so.state.line new o (Ok n) → SoFar bytes new (drop n rest)
    go (Err code) e i = absurd i
    go (Ok t) e i =
        let d = length-drop n rest in
        let lines = so.lines in
        let all = so.within in
        record {
          state = t.0;
          shows = i.0;
          leads = λ pieces r l. so.leads (suc pieces) r (led rest within pieces r (e ∙ ap (λ (m : ℕ). Ok (t.0, m)) i.1) l);
          lines = omega arith;
          within = omega arith;
        }
      where
        led : (rest : List ℕ) → n ≤ length rest → (pieces : ℕ) (r : Result (List Token) Refusal) → next so.state rest ≡ Ok (t.0, n) → Lexed pieces t.0 (drop n rest) r → Lexed (suc pieces) so.state rest r
        led [] le pieces r e l = absurd (omega arith)
        led (b ∷ bs) le pieces r e l = one_piece so.state b bs pieces r (goes_on so.state (b ∷ bs) pieces r (front (b ∷ bs)) t.0 n e l)

pub fails : (bytes : List ℕ) (old new : Lexer) (rest : List ℕ) (err : FrontError) → 0 < length rest → SoFar bytes old rest → Steps old rest new (Err err) → IsAnswer bytes (Err err)
fails bytes old new rest NoMemory some so step = tt
fails bytes old new rest (Refused f) some so step = go (next so.state rest) refl (step so.state so.shows)
  where
    led : (rest : List ℕ) → 0 < length rest → (code : ℕ) → next so.state rest ≡ Err code → Lexed 1 so.state rest (Err (refusal code so.state.line))
    led [] lt code e = absurd (omega arith)
    led (b ∷ bs) lt code e = one_piece so.state b bs 0 (Err (refusal code so.state.line)) (stops so.state (b ∷ bs) 0 code (front (b ∷ bs)) e)

    go : (o : Result (State × ℕ) ℕ) → next so.state rest ≡ o → IsNext so.state.line new o (Err (Refused f)) → IsLexed bytes (Err f)
    go (Ok t) e i = absurd i
    go (Err code) e i = so.leads 1 (Err f) (rw i (led rest some code e))

pub whole : (bytes : List ℕ) (l : Lexer) (rest : List ℕ) → length rest ≡ 0 → SoFar bytes l rest → IsLexed bytes (Ok l.tokens.items)
whole bytes l [] none so = rw so.shows.tokens (so.leads 0 (Ok so.state.tokens) refl)
whole bytes l (b ∷ rest) none so = absurd (omega arith)

pub not_empty : (n : ℕ) → (n == 0) ≡ false → 0 < n
not_empty n e = grind (arith, nat_tests)
