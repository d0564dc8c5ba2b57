-- The refusals of a directive's own line, the first of them.
use Rattle.std.proofs.Common.{◌≡◌, ℕ, Bool, true, false, cond, List, ◌++◌, refl, sym, ◌∙◌, ap, None, Some}
use Rattle.blif_read.specs.declared.directives.Block.{Block}
use Rattle.blif_read.specs.declared.refusals.Refusal.{Refusal}
use Rattle.blif_read.specs.Refusals.{refusal_if, directive_refusals, is_driven_again, is_unknown, is_bad_latch, is_second_clock, is_past_last_net}
use Rattle.blif_read.specs.Checking.{first, refusal_at}

-- what the tests say of the numbers 2, 6, 7, 8 and 9
chain : Bool → Bool → Bool → Bool → Bool → ℕ → List Refusal
chain a b c d e line = refusal_if a 2 line ++ refusal_if b 6 line ++ refusal_if c 7 line ++ refusal_if d 8 line ++ refusal_if e 9 line

chain_is : (all before : List (Block ℕ)) (b : Block ℕ) → directive_refusals all before b ≡ chain (is_driven_again before b.directive) (is_unknown before b.directive) (is_bad_latch all b.directive) (is_second_clock before b.directive) (is_past_last_net b.directive) b.line
unfolding directive_refusals chain
chain_is all before b = refl

pub number_2 : (all before : List (Block ℕ)) (blk : Block ℕ) (a : Bool) → a ≡ is_driven_again before blk.directive → a ≡ true → Some (refusal_at blk.line 2) ≡ first (directive_refusals all before blk)
unfolding chain
number_2 all before blk a p e =
    let whole : chain true (is_unknown before blk.directive) (is_bad_latch all blk.directive) (is_second_clock before blk.directive) (is_past_last_net blk.directive) blk.line ≡ directive_refusals all before blk = sym (chain_is all before blk ∙ cc) in
    ap (λ xs. first xs) whole

pub number_6 : (all before : List (Block ℕ)) (blk : Block ℕ) (a b : Bool) → a ≡ is_driven_again before blk.directive → a ≡ false → b ≡ is_unknown before blk.directive → b ≡ true → Some (refusal_at blk.line 6) ≡ first (directive_refusals all before blk)
unfolding chain
number_6 all before blk a b p e q f =
    let whole : chain false true (is_bad_latch all blk.directive) (is_second_clock before blk.directive) (is_past_last_net blk.directive) blk.line ≡ directive_refusals all before blk = sym (chain_is all before blk ∙ cc) in
    ap (λ xs. first xs) whole

pub number_7 : (all before : List (Block ℕ)) (blk : Block ℕ) (a b c : Bool) → a ≡ is_driven_again before blk.directive → a ≡ false → b ≡ is_unknown before blk.directive → b ≡ false → c ≡ is_bad_latch all blk.directive → c ≡ true → Some (refusal_at blk.line 7) ≡ first (directive_refusals all before blk)
unfolding chain
number_7 all before blk a b c p e q f r g =
    let whole : chain false false true (is_second_clock before blk.directive) (is_past_last_net blk.directive) blk.line ≡ directive_refusals all before blk = sym (chain_is all before blk ∙ cc) in
    ap (λ xs. first xs) whole

pub number_8 : (all before : List (Block ℕ)) (blk : Block ℕ) (a b c d : Bool) → a ≡ is_driven_again before blk.directive → a ≡ false → b ≡ is_unknown before blk.directive → b ≡ false → c ≡ is_bad_latch all blk.directive → c ≡ false → d ≡ is_second_clock before blk.directive → d ≡ true → Some (refusal_at blk.line 8) ≡ first (directive_refusals all before blk)
unfolding chain
number_8 all before blk a b c d p e q f r g s h =
    let whole : chain false false false true (is_past_last_net blk.directive) blk.line ≡ directive_refusals all before blk = sym (chain_is all before blk ∙ cc) in
    ap (λ xs. first xs) whole

pub number_9_or_none : (all before : List (Block ℕ)) (blk : Block ℕ) (a b c d e : Bool) → a ≡ is_driven_again before blk.directive → a ≡ false → b ≡ is_unknown before blk.directive → b ≡ false → c ≡ is_bad_latch all blk.directive → c ≡ false → d ≡ is_second_clock before blk.directive → d ≡ false → e ≡ is_past_last_net blk.directive → cond e (Some (refusal_at blk.line 9)) None ≡ first (directive_refusals all before blk)
unfolding chain
number_9_or_none all before blk a b c d e p i q f r g s h t =
    let whole : chain false false false false e blk.line ≡ directive_refusals all before blk = sym (chain_is all before blk ∙ cc) in
    last e ∙ ap (λ xs. first xs) whole where
      last : (x : Bool) → cond x (Some (refusal_at blk.line 9)) None ≡ first (chain false false false false x blk.line)
      last true = refl
      last false = refl
