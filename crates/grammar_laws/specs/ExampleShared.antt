-- The shape of Shared with single tokens as its parts.
use Rattle.std.specs.Prelude.{ℕ, Option, Some, None}
use Rattle.grammar_laws.specs.Languages.{Lang, ◌<$>◌}
use Rattle.grammar_laws.specs.Shared as shared
use Rattle.grammar_laws.specs.ExampleGrammar.{Token, Tree, Leaf, Fork, nil, word}

abbrev leaf : ℕ → Lang Token Tree
leaf c = (λ t. Leaf t.value) <$> word c

abbrev two : ℕ → Tree → ℕ → Lang Token Tree
two c x k = (λ t. Fork k x (Leaf t.value)) <$> word c

abbrev option : Option Tree → Tree
option None = nil
option (Some t) = t

abbrev window : Tree → Tree → Option Tree → Tree
window k d e = Fork 20 k (Fork 0 d (option e))

-- 0 a postfix expression at the start, 5 one elsewhere, 13 a step, 11 the end, 14 a drive, 16 `@`, 15 another delay's sign, 7 `(`, 2 an edge, 1 a delay, 12 `,`, 3 `soft`, 17 a term
abbrev pub published : Lang Token Tree
published = shared.published Token Tree Tree Tree Tree Tree Tree Tree Tree (leaf 0) (leaf 5) (λ x. two 13 x 1) (λ s. two 11 s 2) (λ x. two 11 x 3) (λ x. two 14 x 4) (λ k d x. two 14 (Fork 0 k (Fork 0 d x)) 5)
    (leaf 16) (leaf 15) (leaf 7) (λ k t. two 2 (Fork 0 k t) 6) (leaf 1) (λ t. two 8 t 7) (leaf 12) window (leaf 3) (λ x. two 17 x 8) (λ w s m. two 11 (Fork 0 (option w) (Fork 0 (option s) m)) 9)

abbrev pub as_read : Lang Token Tree
as_read = shared.as_read Token Tree Tree Tree Tree Tree Tree Tree Tree (leaf 0) (leaf 5) (λ x. two 13 x 1) (λ s. two 11 s 2) (λ x. two 11 x 3) (λ x. two 14 x 4) (λ k d x. two 14 (Fork 0 k (Fork 0 d x)) 5)
    (leaf 16) (leaf 15) (leaf 7) (λ k t. two 2 (Fork 0 k t) 6) (leaf 1) (λ t. two 8 t 7) (leaf 12) window (leaf 3) (λ x. two 17 x 8) (λ w s m. two 11 (Fork 0 (option w) (Fork 0 (option s) m)) 9)
