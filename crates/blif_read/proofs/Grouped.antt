-- Lines up to `.end`, and how blocks grow by one line.
use Rattle.std.proofs.Common.{◌≡◌, ℕ, zero, suc, ◌+◌, ◌≤◌, Bool, true, false, cond, not, ltb, List, [], ◌∷◌, ◌++◌, length, take, get_or, set, refl, sym, ◌∙◌, ap, arith, None, Some, ◌⊎◌, inl, inr}
use Rattle.std.specs.List.{position, position_or_len}
use Rattle.std.proofs.lemmas.List.{take_all}
use Rattle.std.proofs.lemmas.Bool.Decides.{nat_tests}
use Rattle.blif_read.specs.declared.lines.Line.{Line}
use Rattle.blif_read.specs.declared.directives.Row.{Row}
use Rattle.blif_read.specs.declared.directives.Block.{Block}
use Rattle.blif_read.specs.Directives.{Name, up_to_end, is_end, is_row, blocks, row, leading_rows, directive}
use Rattle.blif_read.specs.Grouping.{with_row}

-- ---- the lines up to `.end`
end_by : (b : Bool) (x : Line) (xs : List Line) → up_to_end xs ≡ take (position_or_len is_end xs + 1) xs → cond b (x ∷ []) (x ∷ up_to_end xs) ≡ take (cond (not b) (1 + position_or_len is_end xs) 0 + 1) (x ∷ xs)
end_by true x xs h = refl
end_by false x xs h =
    let e : suc (position_or_len is_end xs + 1) ≡ 1 + position_or_len is_end xs + 1 = omega arith in
    ap (λ t. x ∷ t) h ∙ ap (λ n. take n (x ∷ xs)) e

up_to_end-take : (xs : List Line) → up_to_end xs ≡ take (position_or_len is_end xs + 1) xs
unfolding up_to_end
up_to_end-take [] = refl
up_to_end-take (x ∷ xs) = end_by (is_end x) x xs (up_to_end-take xs)

found_by : (b : Bool) (n i : ℕ) → cond b (Some n) None ≡ Some i → n ≡ i
found_by true n i e = cc
found_by false n i e = cc

none_by : (n m : ℕ) → cond (ltb n m) (Some n) None ≡ None → m ≤ n
none_by n m e = grind (arith, nat_tests)

pub up_to_end-found : (xs : List Line) (i : ℕ) → position is_end xs ≡ Some i → take (i + 1) xs ≡ up_to_end xs
up_to_end-found xs i e =
    let same = found_by (ltb (position_or_len is_end xs) (length xs)) (position_or_len is_end xs) i e in
    sym (up_to_end-take xs ∙ ap (λ n. take (n + 1) xs) same)

pub up_to_end-none : (xs : List Line) → position is_end xs ≡ None → xs ≡ up_to_end xs
up_to_end-none xs e =
    let le = none_by (position_or_len is_end xs) (length xs) e in
    sym (up_to_end-take xs ∙ take_all (position_or_len is_end xs + 1) xs (omega (arith, le)))

-- ---- one more row
pub with_row-at : (xs : List (Block Name)) (r : Row) (b : Block Name) (i : ℕ) → i + 1 ≡ length xs → b ≡ get_or xs i b → set xs i (record b { rows = b.rows ++ r ∷ [] }) ≡ with_row r xs
with_row-at [] r b i h e = absurd (omega arith)
with_row-at (x ∷ []) r b zero h e = ap (λ (c : Block Name). record c { rows = c.rows ++ r ∷ [] } ∷ []) e
with_row-at (x ∷ []) r b (suc i) h e = absurd (omega arith)
with_row-at (x ∷ y ∷ more) r b zero h e = absurd (omega arith)
with_row-at (x ∷ y ∷ more) r b (suc i) h e = let t : i + 1 ≡ length (y ∷ more) = omega arith in ap (λ bs. x ∷ bs) (with_row-at (y ∷ more) r b i t e)

-- the block that begins with this line
unfoldable pub block_of : Line → List Row → Block Name
block_of line rows = record { line = line.number; directive = directive line.first line.rest; rows = rows }

pub blocks-cons : (x : Line) (xs : List Line) → blocks (x ∷ xs) ≡ cond (is_row x) (blocks xs) (block_of x (leading_rows xs) ∷ blocks xs)
unfolding blocks block_of
blocks-cons x xs = refl

leading_rows-cons : (x : Line) (xs : List Line) → leading_rows (x ∷ xs) ≡ cond (is_row x) (row x ∷ leading_rows xs) []
unfolding leading_rows
leading_rows-cons x xs = refl

-- a row goes to the rows that the lines begin with where these are all rows, and else changes nothing there
record AllRows (xs : List Line) (l : Line) : Type 0 where
  none : blocks xs ≡ []
  longer : leading_rows (xs ++ l ∷ []) ≡ leading_rows xs ++ row l ∷ []

record SomeBlock (xs : List Line) (l : Line) : Type 0 where
  first : Block Name
  more : List (Block Name)
  some : blocks xs ≡ first ∷ more
  same : leading_rows (xs ++ l ∷ []) ≡ leading_rows xs

no_rows_then : (l : Line) → is_row l ≡ true → leading_rows (l ∷ []) ≡ row l ∷ []
unfolding leading_rows
no_rows_then l e = ap (λ b. cond b (row l ∷ []) []) e

rows_or_block_by : (x : Line) (xs : List Line) (l : Line) (b : Bool) → is_row x ≡ b → AllRows xs l ⊎ SomeBlock xs l → AllRows (x ∷ xs) l ⊎ SomeBlock (x ∷ xs) l
rows_or_block_by x xs l true e (inl h) = inl (record {
  none = blocks-cons x xs ∙ ap (λ b. cond b (blocks xs) (block_of x (leading_rows xs) ∷ blocks xs)) e ∙ h.none;
  longer = leading_rows-cons x (xs ++ l ∷ []) ∙ ap (λ b. cond b (row x ∷ leading_rows (xs ++ l ∷ [])) []) e ∙ ap (λ rs. row x ∷ rs) h.longer ∙ sym (ap (λ rs. rs ++ row l ∷ []) (leading_rows-cons x xs ∙ ap (λ b. cond b (row x ∷ leading_rows xs) []) e));
})
rows_or_block_by x xs l true e (inr h) = inr (record {
  first = h.first;
  more = h.more;
  some = blocks-cons x xs ∙ ap (λ b. cond b (blocks xs) (block_of x (leading_rows xs) ∷ blocks xs)) e ∙ h.some;
  same = leading_rows-cons x (xs ++ l ∷ []) ∙ ap (λ b. cond b (row x ∷ leading_rows (xs ++ l ∷ [])) []) e ∙ ap (λ rs. row x ∷ rs) h.same ∙ sym (leading_rows-cons x xs ∙ ap (λ b. cond b (row x ∷ leading_rows xs) []) e);
})
rows_or_block_by x xs l false e h = inr (record {
  first = block_of x (leading_rows xs);
  more = blocks xs;
  some = blocks-cons x xs ∙ ap (λ b. cond b (blocks xs) (block_of x (leading_rows xs) ∷ blocks xs)) e;
  same = leading_rows-cons x (xs ++ l ∷ []) ∙ ap (λ b. cond b (row x ∷ leading_rows (xs ++ l ∷ [])) []) e ∙ sym (leading_rows-cons x xs ∙ ap (λ b. cond b (row x ∷ leading_rows xs) []) e);
})

rows_or_block : (xs : List Line) (l : Line) → is_row l ≡ true → AllRows xs l ⊎ SomeBlock xs l
unfolding leading_rows blocks
rows_or_block [] l e = inl (record { none = refl; longer = no_rows_then l e })
rows_or_block (x ∷ xs) l e = rows_or_block_by x xs l (is_row x) refl (rows_or_block xs l e)

row_more_by : (x : Line) (xs : List Line) (l : Line) → AllRows xs l ⊎ SomeBlock xs l → block_of x (leading_rows (xs ++ l ∷ [])) ∷ with_row (row l) (blocks xs) ≡ with_row (row l) (block_of x (leading_rows xs) ∷ blocks xs)
unfolding block_of
row_more_by x xs l (inl h) = ap (λ rs. block_of x rs ∷ with_row (row l) (blocks xs)) h.longer ∙ ap (λ bs. block_of x (leading_rows xs ++ row l ∷ []) ∷ with_row (row l) bs) h.none ∙ sym (ap (λ bs. with_row (row l) (block_of x (leading_rows xs) ∷ bs)) h.none)
row_more_by x xs l (inr h) = ap (λ rs. block_of x rs ∷ with_row (row l) (blocks xs)) h.same ∙ ap (λ bs. block_of x (leading_rows xs) ∷ with_row (row l) bs) h.some ∙ sym (ap (λ bs. with_row (row l) (block_of x (leading_rows xs) ∷ bs)) h.some)

row_by : (b : Bool) (x : Line) (xs : List Line) (l : Line) → is_row l ≡ true → blocks (xs ++ l ∷ []) ≡ with_row (row l) (blocks xs) → cond b (blocks (xs ++ l ∷ [])) (block_of x (leading_rows (xs ++ l ∷ [])) ∷ blocks (xs ++ l ∷ [])) ≡ with_row (row l) (cond b (blocks xs) (block_of x (leading_rows xs) ∷ blocks xs))
row_by true x xs l e h = h
row_by false x xs l e h = ap (λ bs. block_of x (leading_rows (xs ++ l ∷ [])) ∷ bs) h ∙ row_more_by x xs l (rows_or_block xs l e)

pub no_block : blocks [] ≡ []
unfolding blocks
no_block = refl

-- a row more
pub blocks-push_row : (xs : List Line) (l : Line) → is_row l ≡ true → blocks (xs ++ l ∷ []) ≡ with_row (row l) (blocks xs)
blocks-push_row [] l e = blocks-cons l [] ∙ ap (λ b. cond b (blocks []) (block_of l (leading_rows []) ∷ blocks [])) e ∙ no_block ∙ sym (ap (with_row (row l)) no_block)
blocks-push_row (x ∷ xs) l e = blocks-cons x (xs ++ l ∷ []) ∙ row_by (is_row x) x xs l e (blocks-push_row xs l e) ∙ sym (ap (with_row (row l)) (blocks-cons x xs))

leading_same_by : (b : Bool) (x : Line) (xs : List Line) (l : Line) → leading_rows (xs ++ l ∷ []) ≡ leading_rows xs → cond b (row x ∷ leading_rows (xs ++ l ∷ [])) [] ≡ cond b (row x ∷ leading_rows xs) []
leading_same_by true x xs l h = ap (λ rs. row x ∷ rs) h
leading_same_by false x xs l h = refl

leading_same : (xs : List Line) (l : Line) → is_row l ≡ false → leading_rows (xs ++ l ∷ []) ≡ leading_rows xs
leading_same [] l e = leading_rows-cons l [] ∙ ap (λ b. cond b (row l ∷ leading_rows []) []) e ∙ unfold leading_rows in refl
leading_same (x ∷ xs) l e = leading_rows-cons x (xs ++ l ∷ []) ∙ leading_same_by (is_row x) x xs l (leading_same xs l e) ∙ sym (leading_rows-cons x xs)

directive_by : (b : Bool) (x : Line) (xs : List Line) (l : Line) → is_row l ≡ false → blocks (xs ++ l ∷ []) ≡ blocks xs ++ block_of l [] ∷ [] → cond b (blocks (xs ++ l ∷ [])) (block_of x (leading_rows (xs ++ l ∷ [])) ∷ blocks (xs ++ l ∷ [])) ≡ cond b (blocks xs) (block_of x (leading_rows xs) ∷ blocks xs) ++ block_of l [] ∷ []
directive_by true x xs l e h = h
directive_by false x xs l e h = ap (λ bs. block_of x (leading_rows (xs ++ l ∷ [])) ∷ bs) h ∙ ap (λ rs. block_of x rs ∷ (blocks xs ++ block_of l [] ∷ [])) (leading_same xs l e)

first_directive : (l : Line) → is_row l ≡ false → blocks (l ∷ []) ≡ block_of l [] ∷ []
unfolding blocks leading_rows block_of
first_directive l e = ap (λ b. cond b [] (block_of l [] ∷ [])) e

-- a directive more
pub blocks-push_directive : (xs : List Line) (l : Line) → is_row l ≡ false → blocks (xs ++ l ∷ []) ≡ blocks xs ++ block_of l [] ∷ []
blocks-push_directive [] l e = first_directive l e ∙ sym (ap (λ bs. bs ++ block_of l [] ∷ []) no_block)
blocks-push_directive (x ∷ xs) l e = blocks-cons x (xs ++ l ∷ []) ∙ directive_by (is_row x) x xs l e (blocks-push_directive xs l e) ∙ sym (ap (λ bs. bs ++ block_of l [] ∷ []) (blocks-cons x xs))

pub block_of-is : (l : Line) (rows : List Row) → block_of l rows ≡ record { line = l.number; directive = directive l.first l.rest; rows = rows }
unfolding block_of
block_of-is l rows = refl
