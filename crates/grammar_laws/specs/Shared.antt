-- Productions that share what they begin with: those of a statement that begins with a postfix expression or with a delay, as a grammar has
-- them (`published`), and as they are read with one token ahead (`as_read`). The parts are any languages; proofs/Shared shows that both are one language.
use Rattle.std.specs.Prelude.{Option, Some, None}
use Rattle.grammar_laws.specs.Languages.{Lang, sequence, choice, pure, maybe}

module _ (T X S K D W M P R : Type 0)
    (post free : Lang T X) (step_tail : X → Lang T S) (after_step : S → Lang T R) (call_tail drive_plain : X → Lang T R) (drive_at : K → D → X → Lang T R)
    (at others : Lang T K) (paren : Lang T P) (edge_tail : K → P → Lang T R) (simple : Lang T D) (paren_delay : P → Lang T D) (comma_delay : Lang T D) (window_of : K → D → Option D → W)
    (soft : Lang T P) (term_tail : X → Lang T M) (expect_rest : Option W → Option P → M → Lang T R) where
  -- a postfix expression at the start of a statement is `post`, and elsewhere `free`
  abbrev pub post_of : Option W → Option P → Lang T X
  post_of (Some w) s = free
  post_of None (Some s) = free
  post_of None None = post

  -- as the grammar has them

  unfoldable pub step : Lang T S
  step = sequence post step_tail

  unfoldable pub step_stmt : Lang T R
  step_stmt = sequence step after_step

  unfoldable pub call_stmt : Lang T R
  call_stmt = sequence post call_tail

  -- at "(" "posedge" ..
  unfoldable pub edge_stmt : Lang T R
  edge_stmt = sequence at (λ k. sequence paren (edge_tail k))

  -- number | name | "(" expr ")"
  unfoldable pub delay : Lang T D
  delay = choice simple (sequence paren paren_delay)

  -- at delay free .. | post ..
  unfoldable pub drive_stmt : Lang T R
  drive_stmt = choice (sequence at (λ k. sequence delay (λ d. sequence free (drive_at k d)))) (sequence post drive_plain)

  -- ( at | others ) delay [ "," delay ]
  unfoldable pub window : Lang T W
  window = sequence (choice at others) (λ k. sequence delay (λ d. sequence (maybe comma_delay) (λ e. pure (window_of k d e))))

  unfoldable pub term : Option W → Option P → Lang T M
  term w s = sequence (post_of w s) term_tail

  -- [ window ] [ "soft" ] term ..
  unfoldable pub expect_stmt : Lang T R
  expect_stmt = sequence (maybe window) (λ w. sequence (maybe soft) (λ s. sequence (term w s) (expect_rest w s)))

  unfoldable pub published : Lang T R
  published = choice step_stmt (choice call_stmt (choice edge_stmt (choice drive_stmt expect_stmt)))

  -- as they are read

  unfoldable pub begun_by_post : X → Lang T R
  begun_by_post x = choice (sequence (step_tail x) after_step) (choice (call_tail x) (choice (drive_plain x) (sequence (term_tail x) (expect_rest None None))))

  unfoldable pub soft_term : Option W → Lang T R
  soft_term w = sequence soft (λ s. sequence (post_of w (Some s)) (λ x. sequence (term_tail x) (expect_rest w (Some s))))

  unfoldable pub plain_term : Option W → Lang T R
  plain_term w = sequence (post_of w None) (λ x. sequence (term_tail x) (expect_rest w None))

  -- what follows a whole window
  unfoldable pub any_term : W → Lang T R
  any_term w = choice (soft_term (Some w)) (plain_term (Some w))

  -- what follows a delay
  unfoldable pub timed : K → D → Lang T R
  timed k d = choice (sequence free (λ x. choice (drive_at k d x) (sequence (term_tail x) (expect_rest (Some (window_of k d None)) None))))
      (choice (soft_term (Some (window_of k d None))) (sequence comma_delay (λ e. any_term (window_of k d (Some e)))))

  unfoldable pub begun_by_at : K → Lang T R
  begun_by_at k = choice (sequence simple (timed k)) (sequence paren (λ t. choice (edge_tail k t) (sequence (paren_delay t) (timed k))))

  unfoldable pub windowed : K → D → Lang T R
  windowed k d = choice (any_term (window_of k d None)) (sequence comma_delay (λ e. any_term (window_of k d (Some e))))

  unfoldable pub begun_by_others : K → Lang T R
  begun_by_others k = sequence delay (windowed k)

  unfoldable pub as_read : Lang T R
  as_read = choice (sequence post begun_by_post) (choice (soft_term None) (choice (sequence at begun_by_at) (sequence others begun_by_others)))
