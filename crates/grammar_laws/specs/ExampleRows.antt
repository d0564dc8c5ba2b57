-- Some tokens of the small grammar.
use Rattle.std.specs.Prelude.{ℕ}
use Rattle.grammar_laws.specs.ExampleGrammar.{Token, Tree, Leaf, Fork, nil}

abbrev pub name : Token
name = record { kind = 0; value = 7 }

abbrev pub other : Token
other = record { kind = 0; value = 8 }

abbrev pub opening : Token
opening = record { kind = 5; value = 0 }

abbrev pub closing : Token
closing = record { kind = 6; value = 0 }

-- `)`, which follows no name at the start of a statement
abbrev pub paren : Token
paren = record { kind = 8; value = 0 }

abbrev pub semicolon : Token
semicolon = record { kind = 11; value = 0 }

abbrev pub assign : Token
assign = record { kind = 13; value = 0 }

-- the block of one declaration
abbrev pub block_of_one : Tree
block_of_one = Fork 3 (Fork 0 (Fork 7 (Leaf 8) nil) nil) nil

-- a number of each token, as its line
abbrev pub value : Token → ℕ
value t = t.value
