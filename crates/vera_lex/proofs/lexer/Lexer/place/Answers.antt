use Rattle.std.proofs.Common.{◌≡◌, ℕ, List, [], ◌∷◌, false, sym, subst}
use Rattle.vera_ast.specs.declared.token.TokenKind.TheVariants.{Str}
use Rattle.vera_lex.specs.Tokens.{string_bytes}
use Rattle.vera_lex.specs.declared.piece.Piece.{Piece}
use Rattle.vera_lex.specs.Seen.{Takes, seen}
use Rattle.vera_lex.proofs.States.{taken_word, taken_number, taken_string, taken_sign}
use Rattle.vera_lex.proofs.lexer.Lexer.place.Goals as goal

pub returns-in-Include : goal.returns-in-Include
returns-in-Include c = subst (λ (p : Piece). Takes c.args.self.now (seen p) c.args.self.now c.include.result) (sym c.in-Include.is) c.include.ensures

pub returns-in-Define : goal.returns-in-Define
returns-in-Define c = subst (λ (p : Piece). Takes c.args.self.now (seen p) c.define.new.self c.define.result) (sym c.in-Define.is) c.define.ensures

pub returns-in_ok-kinds-in-Word : goal.returns-in_ok-kinds-in-Word
returns-in_ok-kinds-in-Word c =
    subst (λ (p : Piece). Takes c.args.self.now (seen p) c.add.new.self c.add.result) (sym c.in-Word.is)
    (taken_word c.args.self.now c.add.new.self c.add.result c.in-Word.word.now c.in_ok-kinds-in-Word.kinds.items c.in_ok-kinds-in-Word.ensures c.add.ensures)

pub returns-in_ok-single-in-Number : goal.returns-in_ok-single-in-Number
returns-in_ok-single-in-Number c =
    subst (λ (p : Piece). Takes c.args.self.now (seen p) c.add-in-Number.new.self c.add-in-Number.result) (sym c.in-Number.is)
    (taken_number c.args.self.now c.add-in-Number.new.self c.add-in-Number.result _ _ _ c.in_ok-single-in-Number.ensures c.add-in-Number.ensures)

pub returns-in_ok-single-in-Str : goal.returns-in_ok-single-in-Str
returns-in_ok-single-in-Str c =
    subst (λ (p : Piece). Takes c.args.self.now (seen p) c.add-in-Str.new.self c.add-in-Str.result) (sym c.in-Str.is)
    (taken_string c.args.self.now c.add-in-Str.new.self c.add-in-Str.result (string_bytes false c.in-Str.inner.now) c.in_ok-single-in-Str.field-0.items
    (subst (λ (w : List ℕ). c.in_ok-single-in-Str.field-0.items ≡ Str w ∷ []) c.in_ok-string_text-in-Str.ensures c.in_ok-single-in-Str.ensures) c.add-in-Str.ensures)

pub returns-in_ok-single-in-Sign : goal.returns-in_ok-single-in-Sign
returns-in_ok-single-in-Sign c =
    subst (λ (p : Piece). Takes c.args.self.now (seen p) c.add-in-Sign.new.self c.add-in-Sign.result) (sym c.in-Sign.is)
    (taken_sign c.args.self.now c.add-in-Sign.new.self c.add-in-Sign.result _ _ c.in_ok-single-in-Sign.ensures c.add-in-Sign.ensures)
