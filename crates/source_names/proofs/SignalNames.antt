-- What a language gives from tokens whose words are plain, and so the names of signals.
use Rattle.std.proofs.Common.{◌≡◌, ℕ, true, List, [], ◌∷◌, ◌++◌, refl, sym, ap, subst, ◌∙◌, inl, inr}
use Rattle.grammar_laws.specs.Languages as languages
use Rattle.grammar_laws.specs.Languages.{Lang, pure, sequence, choice, many}
use Rattle.grammar_laws.specs.Words.{Cell, bare}
use Rattle.typing_laws.specs.Trees.{HasPlainSignals}
use Rattle.typing_rules.specs.FileNames as source
use Rattle.vera_ast.specs.Codes.{code_of}
use Rattle.vera_ast.specs.Signals.{is_plain}
use Rattle.vera_ast.specs.declared.codes.TheConstants as code
use Rattle.vera_ast.specs.declared.token.Token.{Token}
use Rattle.vera_ast.specs.declared.token.TokenKind.{TokenKind}
use Rattle.vera_ast.specs.declared.token.TokenKind.TheVariants.{Word, Number, Str, Punct}
use Rattle.vera_ast.specs.declared.tree.coverage.CoverageGroup.{CoverageGroup}
use Rattle.vera_ast.specs.declared.tree.declarations.DataType.{DataType}
use Rattle.vera_ast.specs.declared.tree.declarations.Decl.{Decl}
use Rattle.vera_ast.specs.declared.tree.declarations.Range.{Range}
use Rattle.vera_ast.specs.declared.tree.interfaces.Interface.{Interface}
use Rattle.vera_ast.specs.declared.tree.interfaces.Signal.{Signal}
use Rattle.vera_ast.specs.declared.tree.items.Item.{Item}
use Rattle.vera_ast.specs.declared.tree.items.Item.TheVariants as item
use Rattle.vera_ast.specs.declared.tree.items.Parameter.{Parameter}
use Rattle.vera_ast.specs.declared.tree.items.Tree.{Tree}
use Rattle.vera_ast.specs.declared.tree.statements.Block.{Block}
use Rattle.parse_cursor.specs.declared.trees.Name.{Name}
use Rattle.vera_parse.specs.Answer.{Parses}
use Rattle.parse_stmts.specs.Declarations.{range}
use Rattle.parse_exprs.specs.Expressions.{expr}
use Rattle.vera_parse.specs.Grammar.{file}
use Rattle.vera_parse.specs.Interfaces as interfaces
use Rattle.vera_parse.specs.Items as items
use Rattle.parse_cursor.specs.Lists as lists
use Rattle.parse_cursor.specs.Tokens as tokens
use Rattle.source_names.specs.Words.{HasPlainWords}
use Rattle.source_names.proofs.PlainLists.{Each, each_joined, each_at, each_plain, PlainKind, PlainToken}

-- ---- what a language gives

abbrev PlainCells : List (Cell Token) → Type 0
PlainCells w = Each PlainToken (bare w)

front_plain : (u v : List (Cell Token)) → PlainCells (u ++ v) → PlainCells u
front_plain [] v h = tt
front_plain (c ∷ u) v h = (h.0, front_plain u v h.1)

back_plain : (u v : List (Cell Token)) → PlainCells (u ++ v) → PlainCells v
back_plain [] v h = h
back_plain (c ∷ u) v h = back_plain u v h.1

-- each value that the language gives from plain words is such
abbrev Gives : {A : Type 0} → Lang Token A → (A → Type 0) → Type 0
Gives {A} l P = (d : ℕ) (w : List (Cell Token)) (rest : List Token) (a : A) → PlainCells w → l d w rest a → P a

abbrev Any : {A : Type 0} → A → Type 0
Any a = Unit {0}

any : {A : Type 0} (l : Lang Token A) → Gives l Any
any l d w rest a plain h = tt

gives_pure : {A : Type 0} (P : A → Type 0) (a : A) → P a → Gives (pure a) P
unfolding pure
gives_pure P a p d w rest b plain h = subst P h.1 p

gives_bind : {A B : Type 0} (P : A → Type 0) (Q : B → Type 0) (l : Lang Token A) (f : A → Lang Token B) → Gives l P → ((a : A) → P a → Gives (f a) Q) → Gives (sequence l f) Q
unfolding sequence
gives_bind P Q l f g k d w rest b plain (a, u, v, e, x, y) =
    let parts : PlainCells (u ++ v) = subst PlainCells e plain in
    k a (g d u (bare v ++ rest) a (front_plain u v parts) x) d v rest b (back_plain u v parts) y

-- what doesn't matter, and then what does
gives_after : {A B : Type 0} (Q : B → Type 0) (l : Lang Token A) (f : A → Lang Token B) → ((a : A) → Gives (f a) Q) → Gives (sequence l f) Q
gives_after Q l f k = gives_bind Any Q l f (any l) (λ a p. k a)

gives_choice : {A : Type 0} (P : A → Type 0) (l m : Lang Token A) → Gives l P → Gives m P → Gives (choice l m) P
unfolding choice
gives_choice P l m g k d w rest a plain (inl h) = g d w rest a plain h
gives_choice P l m g k d w rest a plain (inr h) = k d w rest a plain h

gives_many : {A : Type 0} (P : A → Type 0) (l : Lang Token A) → Gives l P → Gives (many l) (Each P)
unfolding many
gives_many P l g d w rest [] plain h = tt
gives_many P l g d w rest (a ∷ more) plain (u, v, e, x, y) =
    let parts : PlainCells (u ++ v) = subst PlainCells e plain in
    (g d u (bare v ++ rest) a (front_plain u v parts) x, gives_many P l g d v rest more (back_plain u v parts) y)

-- ---- names

abbrev PlainText : List ℕ → Type 0
PlainText text = is_plain text ≡ true

abbrev PlainName : Name → Type 0
PlainName n = PlainText n.text

no_string : (kind : TokenKind) (text : List ℕ) → code_of kind ≡ code.NAME → kind ≡ Str text → ⊥
no_string kind text e same = let off : code.STRING_LITERAL ≡ code.NAME = sym (ap code_of same) ∙ e in absurd cc

name_text : (kind : TokenKind) → PlainKind kind → ((text : List ℕ) → kind ≡ Str text → ⊥) → PlainText (tokens.text_of kind)
name_text (Word text) h off = h
name_text (Number value is_decimal) h off = refl
name_text (Str text) h off = absurd (off text refl)
name_text (Punct n) h off = refl

name_token : Gives (languages.word tokens.kind_of code.NAME) (λ t. PlainName (tokens.name_at t))
unfolding languages.word
name_token d w rest t plain (e, c) = let own : PlainCells ((t, d) ∷ []) = subst PlainCells e plain in name_text t.kind own.0 (λ text same. no_string t.kind text c same)

name : Gives tokens.name PlainName
unfolding tokens.name
name = gives_bind (λ t. PlainName (tokens.name_at t)) PlainName _ _ name_token λ t p. gives_pure PlainName (tokens.name_at t) p

title : Gives lists.title PlainText
unfolding lists.title
title = gives_bind PlainName PlainText _ _ name λ n p. gives_pure PlainText n.text p

-- ---- signals

abbrev PlainSignal : Signal → Type 0
PlainSignal s = PlainText s.name

signal : (bounds : Lang Token Range) → Gives (interfaces.signal bounds) PlainSignal
unfolding interfaces.signal
signal bounds =
    gives_after PlainSignal _ _ λ way. gives_after PlainSignal _ _ λ found.
    gives_bind PlainText PlainSignal _ _ title λ name p.
    gives_after PlainSignal _ _ λ kind. gives_after PlainSignal _ _ λ line. gives_pure PlainSignal _ p

abbrev PlainInterface : Interface → Type 0
PlainInterface i = Each PlainSignal i.signals

iface : (bounds : Lang Token Range) → Gives (interfaces.iface bounds) PlainInterface
unfolding interfaces.iface
iface bounds =
    gives_after PlainInterface _ _ λ line. gives_after PlainInterface _ _ λ name. gives_after PlainInterface _ _ λ brace.
    gives_bind (Each PlainSignal) PlainInterface _ _ (gives_many PlainSignal (interfaces.signal bounds) (signal bounds)) λ signals p.
    gives_after PlainInterface _ _ λ brace. gives_pure PlainInterface _ p

-- ---- items

abbrev PlainItem : Item → Type 0
PlainItem i = Each PlainSignal (source.signals_of i)

-- an item of a kind that has no signals
silent : {A : Type 0} (l : Lang Token A) (f : A → Item) → ((a : A) → source.signals_of (f a) ≡ []) → Gives (sequence l (λ a. pure (f a))) PlainItem
silent l f none = gives_after PlainItem l _ λ a. gives_pure PlainItem (f a) (subst (Each PlainSignal) (sym (none a)) tt)

plain_items : (all : List Item) → Each PlainItem all → Each PlainSignal (source.signals_in all)
unfolding source.signals_in
plain_items [] h = tt
plain_items (i ∷ all) h = each_joined PlainSignal (source.signals_of i) (source.signals_in all) h.0 (plain_items all h.1)

abbrev PlainTree : Tree → Type 0
PlainTree tree = Each PlainSignal (source.signals_in tree.items)

module _ (iface : Lang Token Interface) (group : Lang Token CoverageGroup) (data_type : Lang Token DataType) (params : Lang Token (List Parameter)) (decl : Lang Token Decl) (block : Lang Token Block) (plain_iface : Gives iface PlainInterface) where
  any_item : Gives (items.any_item iface group data_type params decl block) PlainItem
  unfolding items.any_item
  any_item =
      gives_choice PlainItem _ _ (silent _ item.Enumeration (λ x. refl)) (
      gives_choice PlainItem _ _ (silent _ item.Class (λ x. refl)) (
      gives_choice PlainItem _ _ (gives_bind PlainInterface PlainItem iface _ plain_iface (λ i p. gives_pure PlainItem (item.Interface i) p)) (
      gives_choice PlainItem _ _ (silent _ item.Group (λ x. refl)) (
      gives_choice PlainItem _ _ (silent _ item.Task (λ x. refl)) (
      gives_choice PlainItem _ _ (silent _ item.Function (λ x. refl)) (silent _ item.Program (λ x. refl)))))))

  whole : Gives (items.items iface group data_type params decl block) PlainTree
  unfolding items.items
  whole = gives_bind (Each PlainItem) PlainTree _ _ (gives_many PlainItem _ any_item) λ all p. gives_pure PlainTree (record { items = all }) (plain_items all p)

whole_file : (h : ℕ) → Gives (file h) PlainTree
unfolding file
whole_file h = whole _ _ _ _ _ _ (iface (range (expr h)))

pub plain_signals : (ts : List Token) (tree : Tree) → HasPlainWords ts → Parses ts tree → HasPlainSignals tree
plain_signals ts tree h p =
    let words : PlainCells p.word = subst (Each PlainToken) p.tokens (each_plain ts h) in
    let all : PlainTree tree = whole_file p.is_file.height 0 p.word [] tree words p.is_file.derived in
    record { plain = λ n s e. each_at PlainSignal (source.signals_in tree.items) n s all e }
