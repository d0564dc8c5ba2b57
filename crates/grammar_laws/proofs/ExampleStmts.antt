-- The productions of the small grammar's statements.
use Rattle.std.proofs.Common.{ℕ, ◌≤◌, Bool, true, false, [], ◌∷◌, refl}
use Rattle.grammar_laws.specs.Languages.{Lang, choice}
use Rattle.grammar_laws.specs.Readers.{Parser}
use Rattle.grammar_laws.specs.ExampleGrammar as g
use Rattle.grammar_laws.specs.ExampleGrammar.{Token, code, Tree}
use Rattle.grammar_laws.specs.ExampleReading as r
use Rattle.grammar_laws.specs.ExampleReading.{first_post, first_expr, first_stmt, after_name}
use Rattle.grammar_laws.proofs.Law.{Heights, Law}
use Rattle.grammar_laws.proofs.Leaf as leaf
use Rattle.grammar_laws.proofs.Bind.{bind}
use Rattle.grammar_laws.proofs.Choice.{choose}
use Rattle.grammar_laws.proofs.Nearest.{nearest}
use Rattle.grammar_laws.proofs.ManyThen.{many_then}
use Rattle.grammar_laws.proofs.Settle.{grow, restate}
use Rattle.grammar_laws.proofs.Regroup.{share_to, share_back}
use Rattle.grammar_laws.proofs.TwoKinds.{Second, OpensWith}
use Rattle.grammar_laws.proofs.Seconds.{Next, next_second, next_none, next_word, next_choice, next_bind, next_grow, Alone, word_alone, choice_alone_right, bind_opens_next, bind_opens_with, choice_opens_left, choice_opens_right, opens_both}
use Rattle.grammar_laws.proofs.ExampleExprs.{clash_post, clash_expr, a_token}

module _ (Tall : Heights) (limit d : ℕ) (fits : (h : ℕ) → Tall.tall h → d ≤ limit) (oe os : Bool) (pe pp ps : Parser Token Tree) (le lp ls : ℕ → Lang Token Tree)
    (E : Law code Tall limit d false oe first_expr clash_expr [] pe (λ h. le h d)) (O : Law code Tall limit d false true first_post clash_post [] pp (λ h. lp h d))
    (S : Law code Tall limit d false os first_stmt [] (4 ∷ []) ps (λ h. ls h d))
    (second_stmt : (h : ℕ) → Second code 0 after_name (ls h d)) (opens_stmt : (h : ℕ) → Tall.tall h → OpensWith code 0 after_name (λ k. Unit {0}) (ls h d)) where
  word : (c : ℕ) → Law code Tall limit d false true (c ∷ []) [] [] (r.word c) (λ h. g.word c d)
  word c = leaf.word c d (a_token c) refl fits

  -- ---- declarations

  a_type : Law code Tall limit d false true (2 ∷ 0 ∷ []) [] [] (r.either (2 ∷ []) (r.word 2) (r.word 0)) (λ h. choice (g.word 2) (g.word 0) d)
  a_type = choose (2 ∷ []) _ _ d (word 2) (word 0) refl refl refl

  declared : (t : Token) → Law code Tall limit d false true (0 ∷ []) [] [] (r.declared pe pp ps t) (λ h. g.declared (le h) (lp h) (ls h) t d)
  unfolding r.declared g.declared
  declared t =
      bind _ _ d (word 0) (λ name. bind _ _ d
      (choose (13 ∷ []) _ _ d (bind _ _ d (bind _ _ d (word 13) (λ u. E) refl refl) (λ x. leaf.pure _ d) refl refl) (leaf.pure _ d) refl refl refl)
      (λ value. bind _ _ d (word 11) (λ u. leaf.pure _ d) refl refl) refl refl) refl refl

  decl : Law code Tall limit d false true (2 ∷ 0 ∷ []) [] [] (r.decl pe pp ps) (λ h. g.decl (le h) (lp h) (ls h) d)
  unfolding r.decl g.decl
  decl = bind _ _ d a_type declared refl refl

  second_decl : (h : ℕ) → Second code 0 (0 ∷ []) (g.decl (le h) (lp h) (ls h) d)
  unfolding g.decl
  second_decl h = next_second code 0 (0 ∷ []) _
      (next_bind code 0 d true false [] (2 ∷ 0 ∷ []) [] (0 ∷ []) [] _ _ d (a_type.shape h) (λ t. (declared t).shape h)
      (next_choice code 0 false true [] [] _ _ d (next_none code 0 d false (2 ∷ []) [] _ ((word 2).shape h) refl) (next_word code 0 0 d)))

  opens_decl : (h : ℕ) → Tall.tall h → OpensWith code 0 (0 ∷ []) (λ k. k ≤ limit) (g.decl (le h) (lp h) (ls h) d)
  unfolding g.decl
  opens_decl h tall =
      bind_opens_next code 0 d false (2 ∷ 0 ∷ []) [] (0 ∷ []) (λ k. k ≤ limit) _ _ d (a_type.shape h)
      (choice_alone_right code 0 (λ k. k ≤ limit) _ _ d (word_alone code 0 d (λ k. k ≤ limit) (fits h tall)))
      (λ t. (declared t).opens h (Tall.is_some h tall) refl) refl

  -- ---- statements

  pub block : Law code Tall limit d false true (5 ∷ []) [] [] (r.block pe pp ps) (λ h. g.block (le h) (lp h) (ls h) d)
  unfolding r.block g.block
  block =
      bind _ _ d (word 5) (λ t. bind _ _ d
      (many_then (2 ∷ []) 0 after_name first_stmt (λ h. g.decl (le h) (lp h) (ls h)) ls d decl S refl refl refl refl refl refl refl refl refl refl second_decl second_stmt opens_decl opens_stmt)
      (λ both. bind _ _ d (word 6) (λ u. leaf.pure _ d) refl refl) refl refl) refl refl

  if_stmt : Law code Tall limit d false true (3 ∷ []) [] (4 ∷ []) (r.if_stmt pe pp ps) (λ h. g.if_stmt (le h) (lp h) (ls h) d)
  unfolding r.if_stmt g.if_stmt
  if_stmt = grow [] (4 ∷ []) refl refl (
      bind _ _ d (word 3) (λ t. bind _ _ d (word 7) (λ t1. bind _ _ d E (λ x. bind _ _ d (word 8) (λ t2.
      bind _ _ d S (λ then_part. bind _ _ d (nearest (4 ∷ []) _ d (bind _ _ d (word 4) (λ t3. S) refl refl) refl refl) (λ else_part. leaf.pure _ d) refl refl)
      refl refl) refl refl) refl refl) refl refl) refl refl)

  empty : Law code Tall limit d false true (11 ∷ []) [] [] (r.empty pe pp ps) (λ h. g.empty (le h) (lp h) (ls h) d)
  unfolding r.empty g.empty
  empty = bind _ _ d (word 11) (λ t. leaf.pure _ d) refl refl

  assigned : (x : Tree) → Law code Tall limit d false true (13 ∷ []) [] [] (r.assigned pe pp ps x) (λ h. g.assigned (le h) (lp h) (ls h) x d)
  unfolding r.assigned g.assigned
  assigned x = bind _ _ d (word 13) (λ t. bind _ _ d E (λ y. bind _ _ d (word 11) (λ t1. leaf.pure _ d) refl refl) refl refl) refl refl

  called : (x : Tree) → Law code Tall limit d false true (11 ∷ []) [] [] (r.called pe pp ps x) (λ h. g.called (le h) (lp h) (ls h) x d)
  unfolding r.called g.called
  called x = bind _ _ d (word 11) (λ t. leaf.pure _ d) refl refl

  post_stmt : Law code Tall limit d false true first_post [] [] (r.post_stmt pe pp ps) (λ h. choice (g.assign (le h) (lp h) (ls h)) (g.call (le h) (lp h) (ls h)) d)
  unfolding r.post_stmt g.assign g.call
  post_stmt = restate (λ h w r a x. share_to (lp h) _ _ d w r a x) (λ h w r a x. share_back (lp h) _ _ d w r a x) (
      bind _ _ d O (λ x. choose (13 ∷ []) _ _ d (assigned x) (called x) refl refl refl) refl refl)

  pub body : Law code Tall limit d false true first_stmt [] (4 ∷ []) (r.body pe pp ps) (λ h. g.body (le h) (lp h) (ls h) d)
  unfolding r.body g.body
  body = grow [] (4 ∷ []) refl refl (
      choose (5 ∷ []) _ _ d block (choose (11 ∷ []) _ _ d empty (choose (3 ∷ []) _ _ d if_stmt post_stmt
      refl refl refl) refl refl refl) refl refl refl)

  -- ---- a name at the start of a statement

  pub second_body : ((h : ℕ) → Next code 0 true (9 ∷ 7 ∷ []) (lp h d)) → (h : ℕ) → Second code 0 after_name (g.body (le h) (lp h) (ls h) d)
  unfolding g.body g.assign g.call
  second_body next h = next_second code 0 after_name _ (next_grow code 0 false (13 ∷ 9 ∷ 7 ∷ 11 ∷ 9 ∷ 7 ∷ []) after_name _ refl (
      next_choice code 0 false false [] _ _ _ d (next_none code 0 d false (5 ∷ []) [] _ (block.shape h) refl)
      (next_choice code 0 false false [] _ _ _ d (next_none code 0 d false (11 ∷ []) [] _ (empty.shape h) refl)
      (next_choice code 0 false false [] _ _ _ d (next_none code 0 d false (3 ∷ []) (4 ∷ []) _ (if_stmt.shape h) refl)
      (next_choice code 0 false false (13 ∷ 9 ∷ 7 ∷ []) (11 ∷ 9 ∷ 7 ∷ []) _ _ d
      (next_bind code 0 d true false (9 ∷ 7 ∷ []) first_post [] (13 ∷ []) [] _ _ d (O.shape h) (λ x. (assigned x).shape h) (next h))
      (next_bind code 0 d true false (9 ∷ 7 ∷ []) first_post [] (11 ∷ []) [] _ _ d (O.shape h) (λ x. (called x).shape h) (next h)))))))

  pub opens_body : (h : ℕ) → Tall.some h → Alone code 0 (λ k. Unit {0}) (lp h d) → OpensWith code 0 (9 ∷ 7 ∷ []) (λ k. Unit {0}) (lp h d) → OpensWith code 0 after_name (λ k. Unit {0}) (g.body (le h) (lp h) (ls h) d)
  unfolding g.body g.assign g.call
  opens_body h some alone opens =
      choice_opens_right code 0 after_name _ _ _ d (choice_opens_right code 0 after_name _ _ _ d (choice_opens_right code 0 after_name _ _ _ d
      (opens_both code 0 (9 ∷ 7 ∷ []) (13 ∷ 11 ∷ []) _ _
      (choice_opens_left code 0 (9 ∷ 7 ∷ []) _ _ _ d (bind_opens_with code 0 d false false first_post [] (13 ∷ []) [] (9 ∷ 7 ∷ []) _ _ _ d (O.shape h) (λ x. (assigned x).shape h) (λ x. (assigned x).least h some) refl opens))
      (opens_both code 0 (13 ∷ []) (11 ∷ []) _ _
      (choice_opens_left code 0 (13 ∷ []) _ _ _ d (bind_opens_next code 0 d false first_post [] (13 ∷ []) _ _ _ d (O.shape h) alone (λ x. (assigned x).opens h some refl) refl))
      (choice_opens_right code 0 (11 ∷ []) _ _ _ d (bind_opens_next code 0 d false first_post [] (11 ∷ []) _ _ _ d (O.shape h) alone (λ x. (called x).opens h some refl) refl))))))
