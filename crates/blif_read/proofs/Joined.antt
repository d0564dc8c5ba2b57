-- How joined lines grow by one line.
use Rattle.std.proofs.Common.{◌≡◌, ℕ, ◌+◌, Bool, true, false, cond, List, [], ◌∷◌, ◌++◌, refl, sym, ◌∙◌, ap, append_assoc, append-nil, map, Bor, Option, None, Some}
use Rattle.std.proofs.lemmas.List.{map-append}
use Rattle.std.proofs.lemmas.Simd.{map-map}
use Rattle.std.specs.List.{filter_map, cons_option, slice_split}
use Rattle.std.specs.Option.{option_to_list, unwrap_or}
use Rattle.blif_read.specs.declared.lines.Line.{Line}
use Rattle.blif_read.specs.declared.lines.Joiner.{Joiner}
use Rattle.blif_read.specs.Joining.{gathered, IsTidy, Joins}
use Rattle.blif_read.specs.Lines.{joined, joined_to, line_of, words, Numbered, is_continued, without_last, cleaned, net_lines, is_newline}

-- a longer front
pub joined_to-joined_to : (m n : ℕ) (a b : List ℕ) (xs : List Numbered) → joined_to m a (joined_to n b xs) ≡ joined_to m (a ++ b) xs
unfolding joined_to
joined_to-joined_to m n a b [] = refl
joined_to-joined_to m n a b (x ∷ xs) = ap (λ t. (m, t) ∷ xs) (sym (append_assoc a b x.1))

-- no words, no line
no_line : (n : ℕ) → line_of (n, []) ≡ None
unfolding line_of words
no_line n = refl

nothing_before : (n : ℕ) (b : Bool) (front line : List ℕ) (xs ys : List Numbered) → joined_to n [] (cond b (joined_to n front xs) ((n, line) ∷ ys)) ≡ cond b (joined_to n front xs) ((n, line) ∷ ys)
unfolding joined_to
nothing_before n true front line xs ys = joined_to-joined_to n n [] front xs
nothing_before n false front line xs ys = refl

pub filter_map-joined_to_nothing : (n : ℕ) (rest : List (List ℕ)) → filter_map line_of (joined_to n [] (joined n rest)) ≡ filter_map line_of (joined n rest)
unfolding joined
filter_map-joined_to_nothing n [] = unfold joined_to in ap (λ o. cons_option o []) (no_line n)
filter_map-joined_to_nothing n (line ∷ rest) = ap (filter_map line_of) (nothing_before n (is_continued line) (without_last line) line (joined (n + 1) rest) (joined (n + 1) rest))

-- a line that the next one belongs to
pub joined_to-continued : (m n : ℕ) (text line : List ℕ) (rest : List (List ℕ)) → is_continued line ≡ true → joined_to m text (joined n (line ∷ rest)) ≡ joined_to m (text ++ without_last line) (joined (n + 1) rest)
unfolding joined
joined_to-continued m n text line rest e = ap (λ b. joined_to m text (cond b (joined_to n (without_last line) (joined (n + 1) rest)) ((n, line) ∷ joined (n + 1) rest))) e ∙ joined_to-joined_to m n text (without_last line) (joined (n + 1) rest)

-- a line that the next one doesn't belong to
joined_to-ended : (m n : ℕ) (text line : List ℕ) (rest : List (List ℕ)) → is_continued line ≡ false → joined_to m text (joined n (line ∷ rest)) ≡ (m, text ++ line) ∷ joined (n + 1) rest
unfolding joined joined_to
joined_to-ended m n text line rest e = ap (λ b. joined_to m text (cond b (joined_to n (without_last line) (joined (n + 1) rest)) ((n, line) ∷ joined (n + 1) rest))) e

cons_option-as_list : {A : Type 0} (o : Option A) (xs : List A) → option_to_list o ++ xs ≡ cons_option o xs
cons_option-as_list None xs = refl
cons_option-as_list (Some x) xs = refl

pub ended : (front : List Line) (m n : ℕ) (text line : List ℕ) (rest : List (List ℕ)) → is_continued line ≡ false → (front ++ option_to_list (line_of (m, text ++ line))) ++ filter_map line_of (joined_to (n + 1) [] (joined (n + 1) rest)) ≡ front ++ filter_map line_of (joined_to m text (joined n (line ∷ rest)))
ended front m n text line rest e =
    append_assoc front _ _ ∙ ap (λ xs. front ++ xs) (ap (λ xs. option_to_list (line_of (m, text ++ line)) ++ xs) (filter_map-joined_to_nothing (n + 1) rest) ∙ cons_option-as_list (line_of (m, text ++ line)) (filter_map line_of (joined (n + 1) rest)) ∙ sym (ap (filter_map line_of) (joined_to-ended m n text line rest e)))

-- what the parts of a state give
abbrev gathers : List Line → List ℕ → Option ℕ → ℕ → List (List ℕ) → List Line
gathers lines text begun n rest = lines ++ filter_map line_of (joined_to (unwrap_or begun (n + 1)) text (joined (n + 1) rest))

gathered-gathers : (j : Joiner) (lines : List Line) (text : List ℕ) (begun : Option ℕ) (n : ℕ) (rest : List (List ℕ)) → j.lines.items ≡ lines → j.text.items ≡ text → j.begun ≡ begun → j.number ≡ n → gathered j rest ≡ gathers lines text begun n rest
unfolding gathered
gathered-gathers j lines text begun n rest a b d e = rw (← a, ← b, ← d, ← e) refl

pub joins_continued : (old new : Joiner) (line : List ℕ) (first : ℕ) → first ≡ unwrap_or old.begun (old.number + 1) → is_continued line ≡ true → new.lines.items ≡ old.lines.items → new.text.items ≡ old.text.items ++ without_last line → new.begun ≡ Some first → new.number ≡ old.number + 1 → Joins old new line
joins_continued old new line first f e a b d n = record {
  all = λ rest. gathered-gathers new old.lines.items (old.text.items ++ without_last line) (Some first) (old.number + 1) rest a b d n ∙ ap (λ xs. old.lines.items ++ filter_map line_of xs) (sym (joined_to-continued first (old.number + 1) old.text.items line rest e) ∙ ap (λ m. joined_to m old.text.items (joined (old.number + 1) (line ∷ rest))) f) ∙ sym (gathered-gathers old _ _ _ _ (line ∷ rest) refl refl refl refl);
  tidy = λ h. cc;
  number = n;
}

pub joins_ended : (old new : Joiner) (line : List ℕ) (first : ℕ) → first ≡ unwrap_or old.begun (old.number + 1) → is_continued line ≡ false → new.lines.items ≡ old.lines.items ++ option_to_list (line_of (first, old.text.items ++ line)) → new.text.items ≡ [] → new.begun ≡ None → new.number ≡ old.number + 1 → Joins old new line
joins_ended old new line first f e a b d n = record {
  all = λ rest. gathered-gathers new (old.lines.items ++ option_to_list (line_of (first, old.text.items ++ line))) [] None (old.number + 1) rest a b d n ∙ ended old.lines.items first (old.number + 1) old.text.items line rest e ∙ ap (λ m. old.lines.items ++ filter_map line_of (joined_to m old.text.items (joined (old.number + 1) (line ∷ rest)))) f ∙ sym (gathered-gathers old _ _ _ _ (line ∷ rest) refl refl refl refl);
  tidy = λ h. b;
  number = n;
}

-- at the end
pub gathered-end_begun : (j : Joiner) (first : ℕ) → j.begun ≡ Some first → gathered j [] ≡ j.lines.items ++ option_to_list (line_of (first, j.text.items))
unfolding joined joined_to
gathered-end_begun j first e = gathered-gathers j _ _ (Some first) _ [] refl refl e refl ∙ ap (λ xs. j.lines.items ++ xs) (sym (cons_option-as_list (line_of (first, j.text.items)) []) ∙ append-nil _)

pub gathered-end : (j : Joiner) → j.begun ≡ None → IsTidy j → gathered j [] ≡ j.lines.items
unfolding joined joined_to
gathered-end j e tidy = gathered-gathers j j.lines.items [] None _ [] refl (tidy e) e refl ∙ ap (λ o. j.lines.items ++ cons_option o []) (no_line _) ∙ append-nil _

pub gathered-new : (j : Joiner) (rest : List (List ℕ)) → j.lines.items ≡ [] → j.text.items ≡ [] → j.begun ≡ None → j.number ≡ 0 → gathered j rest ≡ filter_map line_of (joined 1 rest)
gathered-new j rest a b d e = gathered-gathers j [] [] None 0 rest a b d e ∙ filter_map-joined_to_nothing 1 rest

-- what the lines so far are cleaned to
abbrev pub shown : List (Bor (List ℕ)) → List (List ℕ)
shown xs = map (λ (w : Bor (List ℕ)). cleaned w.now) xs

pub gathered-more : (old new : Joiner) (line : List ℕ) (xs : List (Bor (List ℕ))) (x : Bor (List ℕ)) → Joins old new line → line ≡ cleaned x.now → ((rest : List (List ℕ)) → gathered old rest ≡ filter_map line_of (joined 1 (shown xs ++ rest))) → (rest : List (List ℕ)) → gathered new rest ≡ filter_map line_of (joined 1 (shown (xs ++ x ∷ []) ++ rest))
gathered-more old new line xs x j e h rest =
    j.all rest ∙ h (line ∷ rest) ∙ ap (λ ls. filter_map line_of (joined 1 ls)) (ap (λ l. shown xs ++ (l ∷ rest)) e ∙ sym (append_assoc (shown xs) (cleaned x.now ∷ []) rest) ∙ ap (λ ls. ls ++ rest) (sym (map-append (λ (w : Bor (List ℕ)). cleaned w.now) xs (x ∷ []))))

-- all lines seen
pub gathered-all : (j : Joiner) (bytes : List ℕ) (xs : List (Bor (List ℕ))) → ((rest : List (List ℕ)) → gathered j rest ≡ filter_map line_of (joined 1 (shown xs ++ rest))) → map (λ (w : Bor (List ℕ)). w.now) xs ≡ slice_split is_newline bytes → gathered j [] ≡ net_lines bytes
unfolding net_lines
gathered-all j bytes xs h e = h [] ∙ ap (λ ls. filter_map line_of (joined 1 ls)) (append-nil (shown xs) ∙ sym (map-map cleaned (λ (w : Bor (List ℕ)). w.now) xs) ∙ ap (map cleaned) e)
