-- The words of a lexed text are plain: so are those of each state on the way.
use Rattle.std.proofs.Common.{◌≡◌, ℕ, zero, suc, Bool, true, false, List, [], ◌∷◌, take, drop, map, Option, Some, None, Result, Ok, Err, refl, subst}
use Rattle.std.specs.Prelude.{◌==◌, ◌&&◌, not, is_none, if◌then◌else◌, unwrap_or}
use Rattle.std.proofs.lemmas.Bool.{eqb-true}
use Rattle.vera_ast.specs.Signals.{is_plain}
use Rattle.vera_ast.specs.declared.refusal.Refusal.{Refusal}
use Rattle.vera_ast.specs.declared.token.Token.{Token}
use Rattle.vera_ast.specs.declared.token.TokenKind.{TokenKind}
use Rattle.vera_ast.specs.declared.token.TokenKind.TheVariants.{Word, Number, Str, Punct}
use Rattle.vera_lex.specs.Bytes.{opens_word, in_word, all, led}
use Rattle.vera_lex.specs.Directives as dir
use Rattle.vera_lex.specs.Directives.{Directive, include, define}
use Rattle.vera_lex.specs.Forms.{Form, blank, comment, word, decimal, based, string, sign, has}
use Rattle.vera_lex.specs.Refusals.{fault}
use Rattle.vera_lex.specs.Tokens.{Piece, gap, directive, token, piece_at, directive_piece, StandsUnless, State, at_start, newlines, defined, behind, replaced, on_line, with_kinds_at, with_kinds, too_many, unless, placed, Behind, FromPlace, Lexed, IsLexed}
use Rattle.source_names.specs.Words.{HasPlainWords}
use Rattle.source_names.proofs.PlainLists.{Each, each_joined, each_mapped, PlainKind, PlainToken, has_plain}

-- ---- bytes

both : (a b : Bool) → (a && b) ≡ true → (a ≡ true) × (b ≡ true)
both true b e = (refl, e)
both false b e = absurd cc

-- a byte of a word is no bracket
no_bracket : (b : ℕ) → in_word b ≡ true → not (b == 91) ≡ true
no_bracket b e = by (b == 91) refl
  where
    by : (t : Bool) → (b == 91) ≡ t → not t ≡ true
    by false same = refl
    by true same = let at : in_word 91 ≡ true = subst (λ (b : ℕ). in_word b ≡ true) (eqb-true b 91 same) e in let off : false ≡ true = at in absurd cc

opens_plain : (b : ℕ) → opens_word b ≡ true → in_word b ≡ true
opens_plain b e = rw e refl

plain_bytes : (bs : List ℕ) → all in_word bs ≡ true → is_plain bs ≡ true
plain_bytes [] e = refl
plain_bytes (b ∷ bs) e = let h = both (in_word b) (all in_word bs) e in rw (no_bracket b h.0) (plain_bytes bs h.1)

plain_word : (w : List ℕ) → led opens_word in_word w ≡ true → is_plain w ≡ true
plain_word [] e = absurd cc
plain_word (b ∷ bs) e = let h = both (opens_word b) (all in_word bs) e in rw (no_bracket b (opens_plain b h.0)) (plain_bytes bs h.1)

-- ---- states

abbrev PlainMeaning : Option (List TokenKind) → Type 0
PlainMeaning None = Unit {0}
PlainMeaning (Some kinds) = Each PlainKind kinds

abbrev PlainDefinition : Option (List ℕ × List TokenKind) → Type 0
PlainDefinition None = Unit {0}
PlainDefinition (Some d) = Each PlainKind d.1

record PlainState (s : State) : Type 0 where
  tokens : Each PlainToken s.tokens
  meaning : (name : List ℕ) → PlainMeaning (s.meaning name)
  defining : PlainDefinition s.defining

abbrev PlainResult : Result State ℕ → Type 0
PlainResult (Ok s) = PlainState s
PlainResult (Err code) = Unit {0}

plain_start : PlainState at_start
plain_start = record { tokens = tt; meaning = λ name. tt; defining = tt }

-- ---- the end of a piece

chosen : (t : Bool) (a b : Option (List TokenKind)) → PlainMeaning a → PlainMeaning b → PlainMeaning (if t then a else b)
chosen true a b h k = h
chosen false a b h k = k

plain_defined : (d : Option (List ℕ × List TokenKind)) (meaning : List ℕ → Option (List TokenKind)) → PlainDefinition d → ((name : List ℕ) → PlainMeaning (meaning name)) → (name : List ℕ) → PlainMeaning (defined d meaning name)
plain_defined None meaning h k name = k name
plain_defined (Some d) meaning h k name = chosen _ (Some d.1) (meaning name) h (k name)

plain_behind : (w : List ℕ) (s : State) → PlainState s → PlainState (behind w s)
plain_behind w s h = record { tokens = h.tokens; meaning = known (newlines w == 0); defining = open_definition (newlines w == 0) }
  where
    known : (t : Bool) (name : List ℕ) → PlainMeaning ((if t then s.meaning else defined s.defining s.meaning) name)
    known true name = h.meaning name
    known false name = plain_defined s.defining s.meaning h.defining h.meaning name

    open_definition : (t : Bool) → PlainDefinition (if t then s.defining else None)
    open_definition true = h.defining
    open_definition false = tt

-- ---- a piece

abbrev PlainPiece : Piece → Type 0
PlainPiece gap = Unit {0}
PlainPiece (directive d) = Unit {0}
PlainPiece (token kind) = PlainKind kind

plain_piece : (form : Form) (text : List ℕ) (n : ℕ) → has form (take n text) ≡ true → PlainPiece (piece_at form text n)
plain_piece blank text n e = tt
plain_piece comment text n e = tt
plain_piece word text n e = plain_word (take n text) e
plain_piece decimal text n e = tt
plain_piece based text n e = tt
plain_piece string text n e = tt
plain_piece sign text n e = tt

plain_replaced : (meaning : List ℕ → Option (List TokenKind)) (kind : TokenKind) → ((name : List ℕ) → PlainMeaning (meaning name)) → PlainKind kind → Each PlainKind (replaced meaning kind)
plain_replaced meaning (Word w) h k = by (meaning w) (h w)
  where
    by : (o : Option (List TokenKind)) → PlainMeaning o → Each PlainKind (unwrap_or o (Word w ∷ []))
    by None m = (k, tt)
    by (Some kinds) m = m
plain_replaced meaning (Number value is_decimal) h k = (tt, tt)
plain_replaced meaning (Str text) h k = (tt, tt)
plain_replaced meaning (Punct n) h k = (tt, tt)

plain_added : (d : Option (List ℕ × List TokenKind)) (kinds : List TokenKind) (s : State) → PlainDefinition d → Each PlainKind kinds → PlainState s → PlainState (with_kinds_at d kinds s)
plain_added None kinds s d k h = record {
  tokens = each_joined PlainToken s.tokens (map (on_line s.line) kinds) h.tokens (each_mapped PlainKind PlainToken (on_line s.line) (λ kind p. p) kinds k);
  meaning = h.meaning;
  defining = tt;
}
plain_added (Some own) kinds s d k h = record { tokens = h.tokens; meaning = h.meaning; defining = each_joined PlainKind own.1 kinds d k }

plain_unless : (o : Option ℕ) (s : State) → PlainState s → PlainResult (unless o s)
plain_unless None s h = h
plain_unless (Some code) s h = tt

plain_if : (t : Bool) (s : State) → PlainState s → PlainResult (if t then Ok s else Err 4)
plain_if true s h = h
plain_if false s h = tt

plain_placed : (s : State) (p : Piece) → PlainState s → PlainPiece p → PlainResult (placed s p)
plain_placed s gap h k = h
plain_placed s (directive include) h k = plain_if s.is_fresh s h
plain_placed s (directive (define name)) h k = plain_if (s.is_fresh && is_none (s.meaning name)) _ (record { tokens = h.tokens; meaning = h.meaning; defining = tt })
plain_placed s (token kind) h k =
    let kinds = replaced s.meaning kind in
    plain_unless (too_many s.defining s.tokens kinds) (with_kinds kinds s) (plain_added s.defining kinds s h.defining (plain_replaced s.meaning kind h.meaning k) h)

-- ---- the whole text

module _ (rest : State → List ℕ → Result (List Token) Refusal → Type 0) (tokens : List Token) (next : (s : State) (text : List ℕ) → PlainState s → rest s text (Ok tokens) → Each PlainToken tokens) where
  from_state : (s : State) (text : List ℕ) (n : ℕ) (o : Result State ℕ) → PlainResult o → Behind rest s text n o (Ok tokens) → Each PlainToken tokens
  from_state s text n (Ok t) h r = next (behind (take n text) t) (drop n text) (plain_behind (take n text) t h) r
  from_state s text n (Err code) h r = absurd cc

  from_piece : (s : State) (text : List ℕ) (p : Piece × ℕ) → PlainState s → PlainPiece p.0 → FromPlace rest s text (Ok p) (Ok tokens) → Each PlainToken tokens
  from_piece s text p h k r = from_state s text p.1 (placed s p.0) (plain_placed s p.0 h k) r

  from_directive : (s : State) (text : List ℕ) (d : Option (Directive × ℕ)) → PlainState s → FromPlace rest s text (directive_piece d) (Ok tokens) → Each PlainToken tokens
  from_directive s text None h r = absurd cc
  from_directive s text (Some d) h r = from_piece s text (directive d.0, d.1) h tt r

  from_place : (f : Option ℕ) (opens : Bool) (s : State) (text : List ℕ) (o : Result (Piece × ℕ) ℕ) → PlainState s → StandsUnless f opens text o → FromPlace rest s text o (Ok tokens) → Each PlainToken tokens
  from_place (Some code) opens s text o h e r =
      let none : FromPlace rest s text (Err code) (Ok tokens) = subst (λ (o : Result (Piece × ℕ) ℕ). FromPlace rest s text o (Ok tokens)) e r in
      absurd cc
  from_place None true s text o h e r = from_directive s text (dir.directive text) h (subst (λ (o : Result (Piece × ℕ) ℕ). FromPlace rest s text o (Ok tokens)) e r)
  from_place None false s text o h (form, n, piece, e) r =
      from_piece s text (piece_at form text n, n) h (plain_piece form text n piece.formed) (subst (λ (o : Result (Piece × ℕ) ℕ). FromPlace rest s text o (Ok tokens)) e r)

from_text : (pieces : ℕ) (s : State) (text : List ℕ) (tokens : List Token) → PlainState s → Lexed pieces s text (Ok tokens) → Each PlainToken tokens
from_text zero s [] tokens h r = let same : s.tokens ≡ tokens = cc in subst (Each PlainToken) same h.tokens
from_text (suc pieces) s [] tokens h r = let same : s.tokens ≡ tokens = cc in subst (Each PlainToken) same h.tokens
from_text zero s (b ∷ bs) tokens h r = absurd r
from_text (suc pieces) s (b ∷ bs) tokens h r =
    from_place (Lexed pieces) tokens (λ s text h r. from_text pieces s text tokens h r) (fault (b ∷ bs)) (dir.opens_directive (b ∷ bs)) s (b ∷ bs) r.0 h r.1 r.2

pub plain_words : (bytes : List ℕ) (tokens : List Token) → IsLexed bytes (Ok tokens) → HasPlainWords tokens
plain_words bytes tokens r = has_plain tokens (from_text r.0 at_start bytes tokens plain_start r.1)
