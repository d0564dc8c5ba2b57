-- The laws of interfaces.
use Rattle.std.proofs.Common.{ℕ, ◌≤◌, true, false, [], ◌∷◌, refl}
use Rattle.grammar_laws.specs.Languages.{Lang}
use Rattle.grammar_laws.specs.Readers.{Parser}
use Rattle.vera_ast.specs.declared.codes.TheConstants as code
use Rattle.vera_ast.specs.declared.token.Token.{Token}
use Rattle.vera_ast.specs.declared.tree.declarations.Range.{Range}
use Rattle.parse_cursor.specs.Tokens.{kind_of}
use Rattle.vera_parse.specs.Interfaces as g
use Rattle.vera_parse.specs.InterfaceReading as r
use Rattle.grammar_laws.proofs.Law.{Heights, Law}
use Rattle.grammar_laws.proofs.Leaf as leaf
use Rattle.grammar_laws.proofs.Bind.{bind}
use Rattle.grammar_laws.proofs.Choice.{choose}
use Rattle.grammar_laws.proofs.Many.{many}
use Rattle.parse_cursor.proofs.TokenLaws as token
use Rattle.parse_cursor.proofs.ListLaws as list

module _ {Tall : Heights} {limit : ℕ} (d : ℕ) (fits : (h : ℕ) → Tall.tall h → d ≤ limit) where
  skew : Law kind_of Tall limit d false true (code.HASH ∷ []) [] [] r.skew (λ h. g.skew d)
  unfolding r.skew g.skew
  skew = bind _ _ d (token.word d fits code.HASH refl) (λ t. bind _ _ d (list.flag d fits code.MINUS refl) (λ is_negative. bind _ _ d (token.number d fits) (λ amount. leaf.pure _ d) refl refl) refl refl) refl refl

  signal_time : Law kind_of Tall limit d false true (code.PHOLD ∷ code.PSAMPLE ∷ code.NHOLD ∷ code.NSAMPLE ∷ []) [] [] r.signal_time (λ h. g.signal_time d)
  unfolding r.signal_time g.signal_time
  signal_time = token.sign d fits _ _ refl refl

  clock_kind : Law kind_of Tall limit d false true (code.CLOCK ∷ []) [] [] r.clock_kind (λ h. g.clock_kind d)
  unfolding r.clock_kind g.clock_kind
  clock_kind = bind _ _ d (token.word d fits code.CLOCK refl) (λ line. leaf.pure _ d) refl refl

  timed_kind : Law kind_of Tall limit d false true (code.PHOLD ∷ code.PSAMPLE ∷ code.NHOLD ∷ code.NSAMPLE ∷ []) (code.HASH ∷ []) [] r.timed_kind (λ h. g.timed_kind d)
  unfolding r.timed_kind g.timed_kind
  timed_kind =
      bind _ _ d signal_time (λ time. bind _ _ d
      (choose (code.HASH ∷ []) _ _ d (bind _ _ d skew (λ x. leaf.pure _ d) refl refl) (leaf.pure _ d) refl refl refl)
      (λ skew. leaf.pure _ d) refl refl) refl refl

  kind : Law kind_of Tall limit d false true (code.CLOCK ∷ code.PHOLD ∷ code.PSAMPLE ∷ code.NHOLD ∷ code.NSAMPLE ∷ []) (code.HASH ∷ []) [] r.kind (λ h. g.kind d)
  unfolding r.kind g.kind
  kind = choose (code.CLOCK ∷ []) _ _ d clock_kind timed_kind refl refl refl

  direction : Law kind_of Tall limit d false true (code.INPUT ∷ code.OUTPUT ∷ []) [] [] r.direction (λ h. g.direction d)
  unfolding r.direction g.direction
  direction = token.sign d fits _ _ refl refl

  module _ (range : Parser Token Range) (ranges : ℕ → Lang Token Range) (R : Law kind_of Tall limit d false true (code.LEFT_BRACKET ∷ []) [] [] range (λ h. ranges h d)) where
    signal : Law kind_of Tall limit d false true (code.INPUT ∷ code.OUTPUT ∷ []) [] [] (r.signal range) (λ h. g.signal (ranges h) d)
    unfolding r.signal g.signal
    signal =
        bind _ _ d direction (λ way. bind _ _ d
        (choose (code.LEFT_BRACKET ∷ []) _ _ d (bind _ _ d R (λ x. leaf.pure _ d) refl refl) (leaf.pure _ d) refl refl refl)
        (λ range. bind _ _ d (list.title d fits) (λ name. bind _ _ d kind (λ kind. bind _ _ d (token.word d fits code.SEMICOLON refl) (λ t. leaf.pure _ d)
        refl refl) refl refl) refl refl) refl refl) refl refl

    pub iface : Law kind_of Tall limit d false true (code.INTERFACE ∷ []) [] [] (r.iface range) (λ h. g.iface (ranges h) d)
    unfolding r.iface g.iface
    iface =
        bind _ _ d (token.word d fits code.INTERFACE refl) (λ line. bind _ _ d (list.title d fits) (λ name. bind _ _ d (token.word d fits code.LEFT_BRACE refl) (λ t.
        bind _ _ d (many (code.INPUT ∷ code.OUTPUT ∷ []) _ d signal refl refl refl refl) (λ signals. bind _ _ d (token.word d fits code.RIGHT_BRACE refl) (λ t1. leaf.pure _ d)
        refl refl) refl refl) refl refl) refl refl) refl refl
