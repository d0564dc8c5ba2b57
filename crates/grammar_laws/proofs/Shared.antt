-- Productions that share what they begin with, brought into the form that is read with one token ahead: those of a statement that begins
-- with a postfix expression or with a delay. The parts are any languages; a grammar gives its own.
use Rattle.std.proofs.Common.{Option, Some, None}
use Rattle.grammar_laws.specs.Shared as s
use Rattle.grammar_laws.specs.Languages.{Lang, sequence, choice, maybe}
use Rattle.grammar_laws.proofs.Regroup.{Into, assoc_to, assoc_back, maybe_to, maybe_back, spread_to, spread_back, inside, share_to, then_into, into_left, into_right, both_into, pure_to, pure_back, same_into}

module _ (T X S K D W M P R : Type 0)
    (post free : Lang T X) (step_tail : X → Lang T S) (after_step : S → Lang T R) (call_tail drive_plain : X → Lang T R) (drive_at : K → D → X → Lang T R)
    (at others : Lang T K) (paren : Lang T P) (edge_tail : K → P → Lang T R) (simple : Lang T D) (paren_delay : P → Lang T D) (comma_delay : Lang T D) (window_of : K → D → Option D → W)
    (soft : Lang T P) (term_tail : X → Lang T M) (expect_rest : Option W → Option P → M → Lang T R) where
  abbrev post_of : Option W → Option P → Lang T X
  post_of = s.post_of T X S K D W M P R post free step_tail after_step call_tail drive_plain drive_at at others paren edge_tail simple paren_delay comma_delay window_of soft term_tail expect_rest

  abbrev step : Lang T S
  step = s.step T X S K D W M P R post free step_tail after_step call_tail drive_plain drive_at at others paren edge_tail simple paren_delay comma_delay window_of soft term_tail expect_rest

  abbrev step_stmt : Lang T R
  step_stmt = s.step_stmt T X S K D W M P R post free step_tail after_step call_tail drive_plain drive_at at others paren edge_tail simple paren_delay comma_delay window_of soft term_tail expect_rest

  abbrev call_stmt : Lang T R
  call_stmt = s.call_stmt T X S K D W M P R post free step_tail after_step call_tail drive_plain drive_at at others paren edge_tail simple paren_delay comma_delay window_of soft term_tail expect_rest

  abbrev edge_stmt : Lang T R
  edge_stmt = s.edge_stmt T X S K D W M P R post free step_tail after_step call_tail drive_plain drive_at at others paren edge_tail simple paren_delay comma_delay window_of soft term_tail expect_rest

  abbrev delay : Lang T D
  delay = s.delay T X S K D W M P R post free step_tail after_step call_tail drive_plain drive_at at others paren edge_tail simple paren_delay comma_delay window_of soft term_tail expect_rest

  abbrev drive_stmt : Lang T R
  drive_stmt = s.drive_stmt T X S K D W M P R post free step_tail after_step call_tail drive_plain drive_at at others paren edge_tail simple paren_delay comma_delay window_of soft term_tail expect_rest

  abbrev window : Lang T W
  window = s.window T X S K D W M P R post free step_tail after_step call_tail drive_plain drive_at at others paren edge_tail simple paren_delay comma_delay window_of soft term_tail expect_rest

  abbrev term : Option W → Option P → Lang T M
  term = s.term T X S K D W M P R post free step_tail after_step call_tail drive_plain drive_at at others paren edge_tail simple paren_delay comma_delay window_of soft term_tail expect_rest

  abbrev expect_stmt : Lang T R
  expect_stmt = s.expect_stmt T X S K D W M P R post free step_tail after_step call_tail drive_plain drive_at at others paren edge_tail simple paren_delay comma_delay window_of soft term_tail expect_rest

  abbrev published : Lang T R
  published = s.published T X S K D W M P R post free step_tail after_step call_tail drive_plain drive_at at others paren edge_tail simple paren_delay comma_delay window_of soft term_tail expect_rest

  abbrev begun_by_post : X → Lang T R
  begun_by_post = s.begun_by_post T X S K D W M P R post free step_tail after_step call_tail drive_plain drive_at at others paren edge_tail simple paren_delay comma_delay window_of soft term_tail expect_rest

  abbrev soft_term : Option W → Lang T R
  soft_term = s.soft_term T X S K D W M P R post free step_tail after_step call_tail drive_plain drive_at at others paren edge_tail simple paren_delay comma_delay window_of soft term_tail expect_rest

  abbrev plain_term : Option W → Lang T R
  plain_term = s.plain_term T X S K D W M P R post free step_tail after_step call_tail drive_plain drive_at at others paren edge_tail simple paren_delay comma_delay window_of soft term_tail expect_rest

  abbrev any_term : W → Lang T R
  any_term = s.any_term T X S K D W M P R post free step_tail after_step call_tail drive_plain drive_at at others paren edge_tail simple paren_delay comma_delay window_of soft term_tail expect_rest

  abbrev timed : K → D → Lang T R
  timed = s.timed T X S K D W M P R post free step_tail after_step call_tail drive_plain drive_at at others paren edge_tail simple paren_delay comma_delay window_of soft term_tail expect_rest

  abbrev begun_by_at : K → Lang T R
  begun_by_at = s.begun_by_at T X S K D W M P R post free step_tail after_step call_tail drive_plain drive_at at others paren edge_tail simple paren_delay comma_delay window_of soft term_tail expect_rest

  abbrev windowed : K → D → Lang T R
  windowed = s.windowed T X S K D W M P R post free step_tail after_step call_tail drive_plain drive_at at others paren edge_tail simple paren_delay comma_delay window_of soft term_tail expect_rest

  abbrev begun_by_others : K → Lang T R
  begun_by_others = s.begun_by_others T X S K D W M P R post free step_tail after_step call_tail drive_plain drive_at at others paren edge_tail simple paren_delay comma_delay window_of soft term_tail expect_rest

  abbrev as_read : Lang T R
  as_read = s.as_read T X S K D W M P R post free step_tail after_step call_tail drive_plain drive_at at others paren edge_tail simple paren_delay comma_delay window_of soft term_tail expect_rest

  -- ---- a term after a window or none

  abbrev terms : Option W → Lang T R
  terms w = sequence (maybe soft) (λ s. sequence (term w s) (expect_rest w s))

  terms_to : (w : Option W) → Into (terms w) (choice (soft_term w) (plain_term w))
  unfolding s.soft_term s.plain_term s.term
  terms_to w = then_into _ _ _ (maybe_to soft _) (both_into _ _ _
      (into_left _ _ _ (inside soft _ _ (λ s. assoc_to (post_of w (Some s)) term_tail (expect_rest w (Some s)))))
      (into_right _ _ _ (assoc_to (post_of w None) term_tail (expect_rest w None))))

  soft_from : (w : Option W) → Into (soft_term w) (terms w)
  unfolding s.soft_term s.term
  soft_from w = then_into _ _ _ (inside soft _ _ (λ s. assoc_back (post_of w (Some s)) term_tail (expect_rest w (Some s)))) (then_into _ _ _ (into_left _ _ _ (same_into _)) (maybe_back soft (λ s. sequence (term w s) (expect_rest w s))))

  plain_from : (w : Option W) → Into (plain_term w) (terms w)
  unfolding s.plain_term s.term
  plain_from w = then_into _ _ _ (assoc_back (post_of w None) term_tail (expect_rest w None)) (then_into _ _ _ (into_right _ _ _ (same_into _)) (maybe_back soft (λ s. sequence (term w s) (expect_rest w s))))

  any_to : (w : W) → Into (terms (Some w)) (any_term w)
  unfolding s.any_term
  any_to w = terms_to (Some w)

  any_from : (w : W) → Into (any_term w) (terms (Some w))
  unfolding s.any_term
  any_from w = both_into _ _ _ (soft_from (Some w)) (plain_from (Some w))

  -- ---- a window and its terms

  abbrev after_delay : K → D → Lang T R
  after_delay k d = sequence (maybe comma_delay) (λ e. terms (Some (window_of k d e)))

  abbrev after_at : K → Lang T R
  after_at k = sequence delay (after_delay k)

  windows_to : Into (sequence window (λ w. terms (Some w))) (choice (sequence at after_at) (sequence others after_at))
  unfolding s.window
  windows_to = then_into _ _ _ (assoc_to (choice at others) _ _) (then_into _ _ _ (inside (choice at others) _ after_at (λ k. then_into _ _ _ (assoc_to delay _ _) (inside delay _ (after_delay k) (λ d.
      then_into _ _ _ (assoc_to (maybe comma_delay) _ _) (inside (maybe comma_delay) _ _ (λ e. pure_to (window_of k d e) (λ w. terms (Some w)))))))) (spread_to at others after_at))

  windows_from : Into (choice (sequence at after_at) (sequence others after_at)) (sequence window (λ w. terms (Some w)))
  unfolding s.window
  windows_from = then_into _ _ _ (spread_back at others after_at) (then_into _ _ _ (inside (choice at others) after_at _ (λ k. then_into _ _ _ (inside delay (after_delay k) _ (λ d.
      then_into _ _ _ (inside (maybe comma_delay) _ _ (λ e. pure_back (window_of k d e) (λ w. terms (Some w)))) (assoc_back (maybe comma_delay) _ _))) (assoc_back delay _ _))) (assoc_back (choice at others) _ _))

  commas_to : (k : K) (d : D) → Into (after_delay k d) (windowed k d)
  unfolding s.windowed
  commas_to k d = then_into _ _ _ (maybe_to comma_delay _) (both_into _ _ _
      (into_right _ _ _ (inside comma_delay _ _ (λ e. any_to (window_of k d (Some e)))))
      (into_left _ _ _ (any_to (window_of k d None))))

  commas_from : (k : K) (d : D) → Into (windowed k d) (after_delay k d)
  unfolding s.windowed
  commas_from k d = then_into _ (choice (sequence comma_delay (λ e. terms (Some (window_of k d (Some e))))) (terms (Some (window_of k d None)))) _ (both_into _ _ _
      (into_right _ _ _ (any_from (window_of k d None)))
      (into_left _ _ _ (inside comma_delay _ _ (λ e. any_from (window_of k d (Some e)))))) (maybe_back comma_delay (λ e. terms (Some (window_of k d e))))

  windowed_timed : (k : K) (d : D) → Into (windowed k d) (timed k d)
  unfolding s.windowed s.timed s.any_term s.plain_term
  windowed_timed k d = both_into _ _ _
      (both_into _ _ _ (into_right _ _ _ (into_left _ _ _ (same_into _))) (into_left _ _ _ (inside free _ _ (λ x. into_right _ _ _ (same_into _)))))
      (into_right _ _ _ (into_right _ _ _ (same_into _)))

  drive_timed : (k : K) (d : D) → Into (sequence free (drive_at k d)) (timed k d)
  unfolding s.timed
  drive_timed k d = into_left _ _ _ (inside free _ _ (λ x. into_left _ _ _ (same_into _)))

  timed_from : (k : K) (d : D) → Into (timed k d) (choice (sequence free (drive_at k d)) (windowed k d))
  unfolding s.windowed s.timed s.any_term s.plain_term
  timed_from k d = both_into _ _ _
      (then_into _ _ _ (share_to free _ _) (both_into _ _ _ (into_left _ _ _ (same_into _)) (into_right _ _ _ (into_left _ _ _ (into_right _ _ _ (same_into _))))))
      (both_into _ _ _ (into_right _ _ _ (into_left _ _ _ (into_left _ _ _ (same_into _)))) (into_right _ _ _ (into_right _ _ _ (same_into _))))

  -- ---- what begins with a delay

  delayed_to : (k : K) (f : D → Lang T R) → ((d : D) → Into (f d) (timed k d)) → Into (sequence delay f) (begun_by_at k)
  unfolding s.delay s.begun_by_at
  delayed_to k f into = then_into _ _ _ (spread_to simple (sequence paren paren_delay) f) (both_into _ _ _
      (into_left _ _ _ (inside simple _ _ into))
      (into_right _ _ _ (then_into _ _ _ (assoc_to paren paren_delay f) (inside paren _ _ (λ t. into_right _ _ _ (inside (paren_delay t) _ _ into))))))

  at_from : (k : K) → Into (begun_by_at k) (choice (sequence paren (edge_tail k)) (sequence delay (timed k)))
  unfolding s.delay s.begun_by_at
  at_from k = both_into _ _ _
      (into_right _ _ _ (then_into _ _ _ (into_left _ _ _ (same_into _)) (spread_back simple (sequence paren paren_delay) (timed k))))
      (then_into _ _ _ (share_to paren _ _) (both_into _ _ _ (into_left _ _ _ (same_into _))
      (into_right _ _ _ (then_into _ _ _ (assoc_back paren paren_delay (timed k)) (then_into _ _ _ (into_right _ _ _ (same_into _)) (spread_back simple (sequence paren paren_delay) (timed k)))))))

  -- ---- all of them

  pub to_read : Into published as_read
  unfolding s.published s.as_read s.step_stmt s.step s.call_stmt s.edge_stmt s.drive_stmt s.expect_stmt s.begun_by_post s.begun_by_at s.begun_by_others s.plain_term
  to_read = both_into _ _ _
      (into_left _ _ _ (then_into _ _ _ (assoc_to post step_tail after_step) (inside post _ _ (λ x. into_left _ _ _ (same_into _)))))
      (both_into _ _ _
      (into_left _ _ _ (inside post _ _ (λ x. into_right _ _ _ (into_left _ _ _ (same_into _)))))
      (both_into _ _ _
      (into_right _ _ _ (into_right _ _ _ (into_left _ _ _ (inside at _ _ (λ k. into_right _ _ _ (inside paren _ _ (λ t. into_left _ _ _ (same_into _))))))))
      (both_into _ _ _
      (both_into _ _ _
      (into_right _ _ _ (into_right _ _ _ (into_left _ _ _ (inside at _ _ (λ k. delayed_to k _ (drive_timed k))))))
      (into_left _ _ _ (inside post _ _ (λ x. into_right _ _ _ (into_right _ _ _ (into_left _ _ _ (same_into _)))))))
      (then_into _ _ _ (maybe_to window terms) (both_into _ _ _
      (then_into _ _ _ windows_to (both_into _ _ _
      (into_right _ _ _ (into_right _ _ _ (into_left _ _ _ (inside at _ _ (λ k. delayed_to k _ (λ d. then_into _ _ _ (commas_to k d) (windowed_timed k d)))))))
      (into_right _ _ _ (into_right _ _ _ (into_right _ _ _ (inside others _ _ (λ k. inside delay _ _ (commas_to k))))))))
      (then_into _ _ _ (terms_to None) (both_into _ _ _
      (into_right _ _ _ (into_left _ _ _ (same_into _)))
      (into_left _ _ _ (inside post _ _ (λ x. into_right _ _ _ (into_right _ _ _ (into_right _ _ _ (same_into _))))))))))))
      )

  plain_back : Into (sequence post (λ x. sequence (term_tail x) (expect_rest None None))) (terms None)
  unfolding s.plain_term
  plain_back = plain_from None

  no_window : Into (terms None) expect_stmt
  unfolding s.expect_stmt
  no_window = then_into _ _ _ (into_right _ _ _ (same_into _)) (maybe_back window terms)

  with_window : Into (choice (sequence at after_at) (sequence others after_at)) expect_stmt
  unfolding s.expect_stmt
  with_window = then_into _ _ _ windows_from (then_into _ _ _ (into_left _ _ _ (same_into _)) (maybe_back window terms))

  pub from_read : Into as_read published
  unfolding s.published s.as_read s.step_stmt s.step s.call_stmt s.edge_stmt s.drive_stmt s.begun_by_post s.begun_by_others
  from_read = both_into _ _ _
      (then_into _ _ _ (share_to post _ _) (both_into _ _ _
      (into_left _ _ _ (assoc_back post step_tail after_step))
      (then_into _ _ _ (share_to post _ _) (both_into _ _ _
      (into_right _ _ _ (into_left _ _ _ (same_into _)))
      (then_into _ _ _ (share_to post _ _) (both_into _ _ _
      (into_right _ _ _ (into_right _ _ _ (into_right _ _ _ (into_left _ _ _ (into_right _ _ _ (same_into _))))))
      (into_right _ _ _ (into_right _ _ _ (into_right _ _ _ (into_right _ _ _ (then_into _ _ _ plain_back no_window))))))))))
      )
      (both_into _ _ _
      (into_right _ _ _ (into_right _ _ _ (into_right _ _ _ (into_right _ _ _ (then_into _ _ _ (soft_from None) no_window)))))
      (both_into _ _ _
      (then_into _ _ _ (inside at _ _ at_from) (then_into _ _ _ (share_to at _ _) (both_into _ _ _
      (into_right _ _ _ (into_right _ _ _ (into_left _ _ _ (same_into _))))
      (then_into _ _ _ (inside at _ _ (λ k. then_into _ _ _ (inside delay _ _ (timed_from k)) (share_to delay _ _))) (then_into _ _ _ (share_to at _ _) (both_into _ _ _
      (into_right _ _ _ (into_right _ _ _ (into_right _ _ _ (into_left _ _ _ (into_left _ _ _ (same_into _))))))
      (into_right _ _ _ (into_right _ _ _ (into_right _ _ _ (into_right _ _ _ (then_into _ _ _ (inside at _ after_at (λ k. inside delay _ _ (commas_from k))) (then_into _ _ _ (into_left _ _ _ (same_into _)) with_window)))))))))))
      )
      (into_right _ _ _ (into_right _ _ _ (into_right _ _ _ (into_right _ _ _ (then_into _ _ _ (inside others _ after_at (λ k. inside delay _ _ (commas_from k))) (then_into _ _ _ (into_right _ _ _ (same_into _)) with_window))))))
      ))
