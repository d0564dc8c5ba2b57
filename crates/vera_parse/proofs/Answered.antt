-- Of the answers to tokens one holds at most.
use Rattle.std.proofs.Common.{◌≡◌, ◌∙◌, ℕ, List, [], Ok, refl, sym, ap, inl, inr}
use Rattle.grammar_laws.specs.Readers as readers
use Rattle.grammar_laws.specs.Words.{Cell, bare}
use Rattle.vera_ast.specs.declared.refusal.FrontError.TheVariants as error
use Rattle.vera_ast.specs.declared.refusal.Refusal.{Refusal}
use Rattle.vera_ast.specs.declared.token.Token.{Token}
use Rattle.vera_ast.specs.declared.tree.items.Tree.{Tree}
use Rattle.vera_parse.specs.Answer.{IsFile, Parses, IsRefusal, line_at, limit}
use Rattle.vera_parse.specs.ItemReading as items
use Rattle.vera_parse.specs.Reading as r
use Rattle.vera_parse.proofs.Top.{file_ok, one_tree, one_refusal}
use Rattle.vera_parse.proofs.Unique.{one_place, one_depth, no_place, not_deep}

pub same_tree : (ts : List Token) (one two : List (Cell Token)) (a b : Tree) → IsFile one a → IsFile two b → bare one ≡ ts → bare two ≡ ts → a ≡ b
same_tree ts one two a b x y e f = one_tree one two a b x y (e ∙ sym f)

pub tree_alone : (ts : List Token) (a b : Tree) → Parses ts a → Parses ts b → a ≡ b
tree_alone ts a b x y = same_tree ts x.word y.word a b x.is_file y.is_file (sym x.tokens) (sym y.tokens)

pub apart : (ts : List Token) (tree : Tree) (r : Refusal) → Parses ts tree → IsRefusal ts (error.Refused r) → ⊥
apart ts tree r x (inl y) = no_place Token Tree IsFile limit ts tree y.1.0 x y.1.1
apart ts tree r x (inr y) = not_deep Token Tree IsFile limit ts tree y.1.0 x y.1.1

same_refusal : (r s : Refusal) → r.code ≡ s.code → r.line ≡ s.line → r ≡ s
same_refusal r s e f =
    let by_code : ℕ → Refusal = λ c. record { code = c; line = r.line } in
    let by_line : ℕ → Refusal = λ l. record { code = s.code; line = l } in
    ap by_code e ∙ ap by_line f

at_place : (ts : List Token) (r s : Refusal) (a b c : ℕ) → r.code ≡ c → s.code ≡ c → a ≡ b → r.line ≡ line_at ts a → s.line ≡ line_at ts b → r ≡ s
at_place ts r s a b c e f same la lb = same_refusal r s (e ∙ sym f) (la ∙ ap (line_at ts) same ∙ sym lb)

pub refusal_alone : (ts : List Token) (r s : Refusal) → IsRefusal ts (error.Refused r) → IsRefusal ts (error.Refused s) → r ≡ s
refusal_alone ts r s (inl x) (inl y) = at_place ts r s x.1.0 y.1.0 10 x.0 y.0 (one_place Token Tree IsFile limit ts x.1.0 y.1.0 x.1.1 y.1.1) x.1.2 y.1.2
refusal_alone ts r s (inr x) (inr y) = at_place ts r s x.1.0 y.1.0 11 x.0 y.0 (one_depth Token Tree IsFile limit ts x.1.0 y.1.0 x.1.1 y.1.1) x.1.2 y.1.2
refusal_alone ts r s (inl x) (inr y) = absurd (one_refusal limit ts x.1.0 y.1.0 x.1.1 y.1.1)
refusal_alone ts r s (inr x) (inl y) = absurd (one_refusal limit ts y.1.0 x.1.0 y.1.1 x.1.1)

nothing_read : r.file limit [] ≡ Ok (record { items = [] }, [])
unfolding r.file r.file_items items.items readers.whole readers.finished readers.and_then readers.either readers.many_from
nothing_read = refl

pub nothing : Parses [] (record { items = [] })
nothing = file_ok limit [] (record { items = [] }) [] nothing_read
