-- What the lexer holds, call by call.
use Rattle.std.proofs.Common.{◌≡◌, ℕ, Bool, true, false, List, [], ◌∷◌, take, Option, Some, None, Result, Ok, Err, refl, sym, ap, subst, ◌∙◌}
use Rattle.std.specs.Prelude.{if◌then◌else◌, ◌==◌, ◌&&◌, is_none, option_map}
use Rattle.four_state.specs.declared.bit.Bit.{Bit}
use Rattle.vera_ast.specs.declared.token.TokenKind.{TokenKind}
use Rattle.vera_ast.specs.declared.token.TokenKind.TheVariants.{Word, Number, Str, Punct}
use Rattle.vera_ast.specs.declared.refusal.FrontError.{FrontError}
use Rattle.vera_lex.specs.Tokens.{Piece, token, State, replaced, gap, directive, placed, with_kinds_at, unless, too_many, with_kinds, behind}
use Rattle.vera_lex.specs.Directives.{include, define}
use Rattle.vera_lex.specs.Reading.{front}
use Rattle.vera_lex.specs.Seen.{Shows, Becomes, Takes, Adds, IsMeaning, GoesBehind, Steps, IsNext, AfterPiece, next_of, seen_definition, ended}
use Rattle.vera_lex.specs.declared.lexer.Lexer.{Lexer}
use Rattle.vera_lex.specs.declared.lexer.Definition.{Definition}
use Rattle.vera_ast.specs.declared.refusal.FrontError.TheVariants.{Refused, NoMemory}
use Rattle.std.specs.HashMap.{get_by}
use Rattle.std.specs.Str.{bytes_eq}
use Rattle.std.proofs.lemmas.Bool.{ne_eqb}

module _ (old new : Lexer) (r : Result (Unit {0}) FrontError) where
  pub taken_word : (w : List ℕ) (kinds : List TokenKind) → IsMeaning old w kinds → Adds old kinds new r → Takes old (token (Word w)) new r
  taken_word w kinds m a = λ s h. subst (λ (ks : List TokenKind). Becomes s.line new (unless (too_many s.defining s.tokens ks) (with_kinds ks s)) r) (sym (m s h)) (a s h)

  pub taken_number : (bits : List Bit) (is_decimal : Bool) (kinds : List TokenKind) → kinds ≡ Number bits is_decimal ∷ [] → Adds old kinds new r → Takes old (token (Number bits is_decimal)) new r
  taken_number bits is_decimal kinds e a = λ s h. subst (λ (ks : List TokenKind). Becomes s.line new (unless (too_many s.defining s.tokens ks) (with_kinds ks s)) r) e (a s h)

  pub taken_string : (w : List ℕ) (kinds : List TokenKind) → kinds ≡ Str w ∷ [] → Adds old kinds new r → Takes old (token (Str w)) new r
  taken_string w kinds e a = λ s h. subst (λ (ks : List TokenKind). Becomes s.line new (unless (too_many s.defining s.tokens ks) (with_kinds ks s)) r) e (a s h)

  pub taken_sign : (n : ℕ) (kinds : List TokenKind) → kinds ≡ Punct n ∷ [] → Adds old kinds new r → Takes old (token (Punct n)) new r
  taken_sign n kinds e a = λ s h. subst (λ (ks : List TokenKind). Becomes s.line new (unless (too_many s.defining s.tokens ks) (with_kinds ks s)) r) e (a s h)

-- ---- lines and definitions

pub state_of : Lexer → State
state_of l = record {
  tokens = l.tokens.items;
  meaning = λ q. option_map (λ ks. ks.items) (get_by (λ k. bytes_eq q k.now) l.names);
  defining = seen_definition l.defining;
  line = l.line;
  is_fresh = l.is_fresh;
}

shows_itself : (l : Lexer) → Shows l (state_of l)
unfolding state_of
shows_itself l = record { tokens = refl; meaning = λ q. refl; defining = refl; line = refl; is_fresh = refl }

with_line : (d : Option (List ℕ × List TokenKind)) (kinds : List TokenKind) (s : State) → (with_kinds_at d kinds s).line ≡ s.line
with_line None kinds s = refl
with_line (Some d) kinds s = refl

unless_line : (o : Option ℕ) (s t u : State) → u.line ≡ s.line → unless o u ≡ Ok t → t.line ≡ s.line
unless_line None s t u same e = let is : u ≡ t = cc in rw (← is) same
unless_line (Some code) s t u same e = absurd cc

if_line : (b : Bool) (s t u : State) → u.line ≡ s.line → if◌then◌else◌ {A = Result State ℕ} b (Ok u) (Err 4) ≡ Ok t → t.line ≡ s.line
if_line true s t u same e = let is : u ≡ t = cc in rw (← is) same
if_line false s t u same e = absurd cc

placed_line : (s t : State) (p : Piece) → placed s p ≡ Ok t → t.line ≡ s.line
placed_line s t gap e = let is : s ≡ t = cc in ap (λ (u : State). u.line) (sym is)
placed_line s t (directive include) e = if_line s.is_fresh s t s refl e
placed_line s t (directive (define name)) e = if_line (s.is_fresh && is_none (s.meaning name)) s t _ refl e
placed_line s t (token kind) e = unless_line (too_many s.defining s.tokens (replaced s.meaning kind)) s t _ (with_line s.defining (replaced s.meaning kind) s) e

pub takes_line : (old new : Lexer) (p : Piece) → Takes old p new (Ok tt) → new.line ≡ old.line
unfolding state_of
takes_line old new p h = go (placed (state_of old) p) refl (h (state_of old) (shows_itself old))
  where
    go : (o : Result State ℕ) → placed (state_of old) p ≡ o → Becomes old.line new o (Ok tt) → new.line ≡ old.line
    go (Ok t) e b = b.line ∙ placed_line (state_of old) t p e
    go (Err code) e b = absurd b

pub not_refused : (line : ℕ) (new : Lexer) (s t : State) (e : FrontError) → Becomes line new (Ok s) (Err e) → Becomes line new (Ok t) (Err e)
not_refused line new s t (Refused r) b = absurd b
not_refused line new s t NoMemory b = tt

-- a definition whose line is over
pub definition_ends : (old new : Lexer) (lines : ℕ) (d : Definition) → (lines ≡ 0 → ⊥) → old.defining ≡ Some d → new.tokens ≡ old.tokens → new.line ≡ old.line → new.is_fresh ≡ old.is_fresh → new.defining ≡ None
    → ((q : List ℕ) → get_by (λ k. bytes_eq q k.now) new.names ≡ (if bytes_eq d.name.now q then Some d.kinds else get_by (λ k. bytes_eq q k.now) old.names))
    → (s : State) → Shows old s → Shows new (ended lines s)
definition_ends old new lines d some e tokens line fresh none names s h =
    let off : (lines == 0) ≡ false = ne_eqb lines 0 some in
    let defining : Some (d.name.now, d.kinds.items) ≡ s.defining = rw e at h.defining in
    record {
      tokens = ap (λ v. v.items) tokens ∙ h.tokens;
      meaning = λ q. rw (off, ← defining) (by (bytes_eq d.name.now q) q (names q));
      defining = rw (off, none) refl;
      line = line ∙ h.line;
      is_fresh = fresh ∙ h.is_fresh;
    }
  where
    by : (b : Bool) (q : List ℕ) → get_by (λ k. bytes_eq q k.now) new.names ≡ (if b then Some d.kinds else get_by (λ k. bytes_eq q k.now) old.names)
        → option_map (λ ks. ks.items) (get_by (λ k. bytes_eq q k.now) new.names) ≡ (if b then Some d.kinds.items else s.meaning q)
    by true q n = rw n refl
    by false q n = rw n (h.meaning q)

-- ---- a step

pub stepped : (old mid new : Lexer) (text : List ℕ) (p : Piece) (n : ℕ) → Ok (p, n) ≡ front text → Takes old p mid (Ok tt) → GoesBehind mid (take n text) new (Ok tt) → Steps old text new (Ok n)
stepped old mid new text p n e takes goes = λ s h. rw (← e) (go s (placed s p) (takes s h))
  where
    go : (s : State) (o : Result State ℕ) → Becomes s.line mid o (Ok tt) → IsNext s.line new (AfterPiece s text n o) (Ok n)
    go s (Ok t) b = (goes t b, refl)
    go s (Err code) b = absurd b

pub piece_fails : (old mid : Lexer) (text : List ℕ) (p : Piece) (n : ℕ) (err : FrontError) → Ok (p, n) ≡ front text → Takes old p mid (Err err) → Steps old text mid (Err err)
piece_fails old mid text p n err e takes = λ s h. subst (λ (o : Result (Piece × ℕ) ℕ). IsNext s.line mid (next_of s text o) (Err err)) e (go s (placed s p) err (takes s h))
  where
    go : (s : State) (o : Result State ℕ) (err : FrontError) → Becomes s.line mid o (Err err) → IsNext s.line mid (AfterPiece s text n o) (Err err)
    go s (Ok t) (Refused r) b = absurd b
    go s (Err code) (Refused r) b = b
    go s (Ok t) NoMemory b = tt
    go s (Err code) NoMemory b = tt

pub end_fails : (old mid new : Lexer) (text : List ℕ) (p : Piece) (n : ℕ) (err : FrontError) → Ok (p, n) ≡ front text → Takes old p mid (Ok tt) → GoesBehind mid (take n text) new (Err err) → Steps old text new (Err err)
end_fails old mid new text p n err e takes goes = λ s h. subst (λ (o : Result (Piece × ℕ) ℕ). IsNext s.line new (next_of s text o) (Err err)) e (go s (placed s p) err (takes s h) (λ t b. goes t b))
  where
    go : (s : State) (o : Result State ℕ) (err : FrontError) → Becomes s.line mid o (Ok tt) → ((t : State) → Shows mid t → Becomes t.line new (Ok (behind (take n text) t)) (Err err)) → IsNext s.line new (AfterPiece s text n o) (Err err)
    go s (Ok t) (Refused r) b goes = absurd (goes t b)
    go s (Ok t) NoMemory b goes = tt
    go s (Err code) err b goes = absurd b
