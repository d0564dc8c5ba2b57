-- The walk over lists of parts, step by step, as the code takes it.
use Rattle.std.proofs.Common.{◌≡◌, ℕ, ◌+◌, ◌<◌, ◌≤◌, Bool, List, [], ◌∷◌, ◌++◌, length, get_or, drop, refl, sym, ap, subst, ◌∙◌, append_assoc}
use Rattle.std.specs.Prelude.{Result, Ok, Err}
use Rattle.std.proofs.lemmas.List.{at_drop_more, at_drop_all, append-nil}
use Rattle.vera_ast.specs.declared.refusal.FrontError.{FrontError}
use Rattle.vera_ast.specs.declared.refusal.FrontError.TheVariants.{Refused, NoMemory}
use Rattle.vera_ast.specs.declared.tree.expressions.Expr.{Expr}
use Rattle.vera_ast.specs.declared.tree.expressions.Link.{Link as TreeLink}
use Rattle.vera_ast.specs.declared.tree.expressions.Suffix.{Suffix}
use Rattle.vera_names.proofs.Answering.{ok_then, err_then, passed_on, along, go_on}
use Rattle.typing_rules.specs.Answers.{Answers}
use Rattle.typing_rules.specs.Calls.{call, wanted, modes_taken}
use Rattle.typing_rules.specs.Checked.{Checked, ◌>>=◌}
use Rattle.typing_rules.specs.Expressions.{walk_suffix, expr}
use Rattle.typing_rules.specs.Productions.{Link}
use Rattle.typing_rules.specs.Signatures.{Wants, next_want, after_next}
use Rattle.vera_exprs.specs.WalkLists.{before, all_before, links_walked, exprs_walked, stand_of, suffixes_walked, argument_at, argument_walked, arguments_walked, call_form}
use Rattle.typing_rules.specs.declared.context.Context.{Context}
use Rattle.typing_rules.specs.declared.head.Argument.{Argument}
use Rattle.typing_rules.specs.declared.head.Head.{Head}
use Rattle.typing_rules.specs.declared.head.Stand.{Stand}
use Rattle.typing_rules.specs.declared.head.Typed.{Typed}
use Rattle.typing_rules.specs.declared.words.Mode.{Mode}
use Rattle.typing_rules.specs.declared.words.Want.{Want}

-- ---- one more result, behind those that are done

result_more : {B : Type 0} (done : List B) (b : B) (rest : Checked (List B)) → all_before done (before b rest) ≡ all_before (done ++ b ∷ []) rest
result_more {B = B} done b (Ok all) = ap (λ (xs : List B). Ok xs) (sym (append_assoc done (b ∷ []) all))
result_more done b (Err r) = refl

step_more : {A B : Type 0} (done : List B) (m : Checked A) (a : A) (make : A → B) (rest : Checked (List B)) → m ≡ Ok a
    → all_before done (m >>= (λ x. before (make x) rest)) ≡ all_before (done ++ make a ∷ []) rest
step_more done m a make rest e = ap (all_before done) (ok_then m a (λ x. before (make x) rest) e) ∙ result_more done (make a) rest

step_refused : {A B : Type 0} (done : List B) (m : Checked A) (f : A → Checked (List B)) (x : FrontError) → Answers m (Err x) → Answers (all_before done (m >>= f)) (Err x)
step_refused done m f (Refused r) a = ap (all_before done) (err_then m r f a)
step_refused done m f NoMemory a = tt

all_done : {B : Type 0} (done : List B) → all_before done (Ok []) ≡ Ok done
all_done {B = B} done = ap (λ (xs : List B). Ok xs) (append-nil done)

-- ---- links

links_next : (c : Context) (ls : List TreeLink) (i : ℕ) (l : TreeLink) → i < length ls → l ≡ get_or ls i l
    → links_walked c (drop i ls) ≡ (expr c l.operand >>= (λ operand. before (l.operator, operand) (links_walked c (drop (i + 1) ls))))
unfolding links_walked
links_next c ls i l lt at =
    at_drop_more (λ (rest : List TreeLink). links_walked c rest) ls i l lt
    ∙ ap (λ (x : TreeLink). expr c x.operand >>= (λ operand. before (x.operator, operand) (links_walked c (drop (i + 1) ls)))) (sym at)

pub links_more : (c : Context) (ls : List TreeLink) (i : ℕ) (l : TreeLink) (done : List Link) (value : Typed) (whole : Checked (List Link)) → i < length ls → l ≡ get_or ls i l → all_before done (links_walked c (drop i ls)) ≡ whole
    → expr c l.operand ≡ Ok value → all_before (done ++ (l.operator, value) ∷ []) (links_walked c (drop (i + 1) ls)) ≡ whole
links_more c ls i l done value whole lt at h e =
    sym (step_more done (expr c l.operand) value (λ operand. (l.operator, operand)) (links_walked c (drop (i + 1) ls)) e) ∙ ap (all_before done) (sym (links_next c ls i l lt at)) ∙ h

pub links_refused : (c : Context) (ls : List TreeLink) (i : ℕ) (l : TreeLink) (done : List Link) (x : FrontError) (whole : Checked (List Link)) → i < length ls → l ≡ get_or ls i l → all_before done (links_walked c (drop i ls)) ≡ whole
    → Answers (expr c l.operand) (Err x) → Answers whole (Err x)
links_refused c ls i l done x whole lt at h a =
    along whole _ (Err x) (sym h ∙ ap (all_before done) (links_next c ls i l lt at)) (step_refused done (expr c l.operand) _ x a)

pub links_done : (c : Context) (ls : List TreeLink) (n : ℕ) (done : List Link) (whole : Checked (List Link)) → length ls ≤ n → all_before done (links_walked c (drop n ls)) ≡ whole → whole ≡ Ok done
unfolding links_walked
links_done c ls n done whole le h = sym h ∙ ap (all_before done) (at_drop_all (λ (rest : List TreeLink). links_walked c rest) ls n le) ∙ all_done done

-- ---- values

exprs_next : (c : Context) (xs : List Expr) (i : ℕ) (x : Expr) → i < length xs → x ≡ get_or xs i x → exprs_walked c (drop i xs) ≡ (expr c x >>= (λ first. before first (exprs_walked c (drop (i + 1) xs))))
unfolding exprs_walked
exprs_next c xs i x lt at =
    at_drop_more (λ (rest : List Expr). exprs_walked c rest) xs i x lt
    ∙ ap (λ (y : Expr). expr c y >>= (λ first. before first (exprs_walked c (drop (i + 1) xs)))) (sym at)

pub exprs_more : (c : Context) (xs : List Expr) (i : ℕ) (x : Expr) (done : List Typed) (value : Typed) (whole : Checked (List Typed)) → i < length xs → x ≡ get_or xs i x → all_before done (exprs_walked c (drop i xs)) ≡ whole
    → expr c x ≡ Ok value → all_before (done ++ value ∷ []) (exprs_walked c (drop (i + 1) xs)) ≡ whole
exprs_more c xs i x done value whole lt at h e =
    sym (step_more done (expr c x) value (λ first. first) (exprs_walked c (drop (i + 1) xs)) e) ∙ ap (all_before done) (sym (exprs_next c xs i x lt at)) ∙ h

pub exprs_refused : (c : Context) (xs : List Expr) (i : ℕ) (x : Expr) (done : List Typed) (error : FrontError) (whole : Checked (List Typed)) → i < length xs → x ≡ get_or xs i x → all_before done (exprs_walked c (drop i xs)) ≡ whole
    → Answers (expr c x) (Err error) → Answers whole (Err error)
exprs_refused c xs i x done error whole lt at h a =
    along whole _ (Err error) (sym h ∙ ap (all_before done) (exprs_next c xs i x lt at)) (step_refused done (expr c x) _ error a)

pub exprs_done : (c : Context) (xs : List Expr) (n : ℕ) (done : List Typed) (whole : Checked (List Typed)) → length xs ≤ n → all_before done (exprs_walked c (drop n xs)) ≡ whole → whole ≡ Ok done
unfolding exprs_walked
exprs_done c xs n done whole le h = sym h ∙ ap (all_before done) (at_drop_all (λ (rest : List Expr). exprs_walked c rest) xs n le) ∙ all_done done

-- ---- arguments

arguments_next : (c : Context) (takes : Mode → Bool) (wants : Wants) (xs : List Expr) (i : ℕ) (x : Expr) → i < length xs → x ≡ get_or xs i x
    → arguments_walked c takes wants (drop i xs) ≡ (argument_walked c takes wants x >>= (λ first. before first (arguments_walked c takes (after_next wants) (drop (i + 1) xs))))
unfolding arguments_walked
arguments_next c takes wants xs i x lt at =
    at_drop_more (λ (rest : List Expr). arguments_walked c takes wants rest) xs i x lt
    ∙ ap (λ (y : Expr). argument_walked c takes wants y >>= (λ first. before first (arguments_walked c takes (after_next wants) (drop (i + 1) xs)))) (sym at)

pub arguments_more : (c : Context) (takes : Mode → Bool) (wants after : Wants) (xs : List Expr) (i : ℕ) (x : Expr) (done : List Argument) (given : Argument) (whole : Checked (List Argument)) → i < length xs → x ≡ get_or xs i x
    → after_next wants ≡ after → all_before done (arguments_walked c takes wants (drop i xs)) ≡ whole → argument_walked c takes wants x ≡ Ok given
    → all_before (done ++ given ∷ []) (arguments_walked c takes after (drop (i + 1) xs)) ≡ whole
arguments_more c takes wants after xs i x done given whole lt at is h e =
    ap (λ (w : Wants). all_before (done ++ given ∷ []) (arguments_walked c takes w (drop (i + 1) xs))) (sym is)
    ∙ sym (step_more done (argument_walked c takes wants x) given (λ first. first) (arguments_walked c takes (after_next wants) (drop (i + 1) xs)) e)
    ∙ ap (all_before done) (sym (arguments_next c takes wants xs i x lt at)) ∙ h

pub arguments_refused : (c : Context) (takes : Mode → Bool) (wants : Wants) (xs : List Expr) (i : ℕ) (x : Expr) (done : List Argument) (error : FrontError) (whole : Checked (List Argument)) → i < length xs → x ≡ get_or xs i x
    → all_before done (arguments_walked c takes wants (drop i xs)) ≡ whole → Answers (argument_walked c takes wants x) (Err error) → Answers whole (Err error)
arguments_refused c takes wants xs i x done error whole lt at h a =
    along whole _ (Err error) (sym h ∙ ap (all_before done) (arguments_next c takes wants xs i x lt at)) (step_refused done (argument_walked c takes wants x) _ error a)

pub arguments_done : (c : Context) (takes : Mode → Bool) (wants : Wants) (xs : List Expr) (n : ℕ) (done : List Argument) (whole : Checked (List Argument)) → length xs ≤ n
    → all_before done (arguments_walked c takes wants (drop n xs)) ≡ whole → whole ≡ Ok done
unfolding arguments_walked
arguments_done c takes wants xs n done whole le h = sym h ∙ ap (all_before done) (at_drop_all (λ (rest : List Expr). arguments_walked c takes wants rest) xs n le) ∙ all_done done

-- ---- suffixes

pub suffixes_next : (c : Context) (s : Stand) (line : ℕ) (head : Head) (xs : List Suffix) (i : ℕ) (x : Suffix) → i < length xs → x ≡ get_or xs i x
    → suffixes_walked c s line head (drop i xs) ≡ (walk_suffix c (stand_of s (drop (i + 1) xs)) line head x >>= (λ next. suffixes_walked c s line next (drop (i + 1) xs)))
unfolding suffixes_walked
suffixes_next c s line head xs i x lt at =
    at_drop_more (λ (rest : List Suffix). suffixes_walked c s line head rest) xs i x lt
    ∙ ap (λ (y : Suffix). walk_suffix c (stand_of s (drop (i + 1) xs)) line head y >>= (λ next. suffixes_walked c s line next (drop (i + 1) xs))) (sym at)

pub suffixes_done : (c : Context) (s : Stand) (line : ℕ) (head : Head) (xs : List Suffix) (n : ℕ) (whole : Checked Head) → length xs ≤ n → suffixes_walked c s line head (drop n xs) ≡ whole → whole ≡ Ok head
unfolding suffixes_walked
suffixes_done c s line head xs n whole le h = sym h ∙ at_drop_all (λ (rest : List Suffix). suffixes_walked c s line head rest) xs n le

pub suffixes_refused : (c : Context) (s : Stand) (line : ℕ) (head : Head) (xs : List Suffix) (i : ℕ) (x : Suffix) (error : FrontError) (whole : Checked Head) → i < length xs → x ≡ get_or xs i x
    → suffixes_walked c s line head (drop i xs) ≡ whole → Answers (walk_suffix c (stand_of s (drop (i + 1) xs)) line head x) (Err error) → Answers whole (Err error)
suffixes_refused c s line head xs i x error whole lt at h a =
    along whole _ (Err error) (sym h ∙ suffixes_next c s line head xs i x lt at) (passed_on (walk_suffix c (stand_of s (drop (i + 1) xs)) line head x) _ error a)

pub suffixes_more : (c : Context) (s : Stand) (line : ℕ) (head next : Head) (xs : List Suffix) (i : ℕ) (x : Suffix) (whole : Checked Head) → i < length xs → x ≡ get_or xs i x
    → suffixes_walked c s line head (drop i xs) ≡ whole → walk_suffix c (stand_of s (drop (i + 1) xs)) line head x ≡ Ok next → suffixes_walked c s line next (drop (i + 1) xs) ≡ whole
suffixes_more c s line head next xs i x whole lt at h e =
    sym (ok_then (walk_suffix c (stand_of s (drop (i + 1) xs)) line head x) next (λ n. suffixes_walked c s line n (drop (i + 1) xs)) e) ∙ sym (suffixes_next c s line head xs i x lt at) ∙ h

-- where the part before a suffix stands, as the code found it
pub suffixes_on : (c : Context) (s before : Stand) (line : ℕ) (head next : Head) (xs : List Suffix) (i : ℕ) (x : Suffix) (whole : Checked Head) → i < length xs → x ≡ get_or xs i x
    → before ≡ stand_of s (drop (i + 1) xs) → suffixes_walked c s line head (drop i xs) ≡ whole → walk_suffix c before line head x ≡ Ok next → suffixes_walked c s line next (drop (i + 1) xs) ≡ whole
suffixes_on c s before line head next xs i x whole lt at is h e =
    suffixes_more c s line head next xs i x whole lt at h (ap (λ (q : Stand). walk_suffix c q line head x) (sym is) ∙ e)

pub suffixes_stop : (c : Context) (s before : Stand) (line : ℕ) (head : Head) (xs : List Suffix) (i : ℕ) (x : Suffix) (error : FrontError) (whole : Checked Head) → i < length xs → x ≡ get_or xs i x
    → before ≡ stand_of s (drop (i + 1) xs) → suffixes_walked c s line head (drop i xs) ≡ whole → Answers (walk_suffix c before line head x) (Err error) → Answers whole (Err error)
suffixes_stop c s before line head xs i x error whole lt at is h a =
    suffixes_refused c s line head xs i x error whole lt at h (subst (λ (q : Stand). Answers (walk_suffix c q line head x) (Err error)) is a)

-- ---- arguments, by what the code found to be wanted

pub arguments_on : (c : Context) (takes : Mode → Bool) (wants after : Wants) (want : Want) (xs : List Expr) (i : ℕ) (x : Expr) (done : List Argument) (given : Argument) (whole : Checked (List Argument)) → i < length xs → x ≡ get_or xs i x
    → want ≡ next_want wants → after_next wants ≡ after → all_before done (arguments_walked c takes wants (drop i xs)) ≡ whole → argument_at c takes want x ≡ Ok given
    → all_before (done ++ given ∷ []) (arguments_walked c takes after (drop (i + 1) xs)) ≡ whole
arguments_on c takes wants after want xs i x done given whole lt at same is h e =
    arguments_more c takes wants after xs i x done given whole lt at is h (ap (λ (w : Want). argument_at c takes w x) (sym same) ∙ e)

call_by : (c : Context) (s : Stand) (line : ℕ) (head : Head) (xs : List Expr) (takes : Mode → Bool) (wants : Wants) → takes ≡ modes_taken head → wants ≡ wanted c.outline head
    → call_form c s line head xs ≡ (arguments_walked c takes wants xs >>= (λ all. call c.outline c.body s line head all))
unfolding call_form
call_by c s line head xs takes wants modes are =
    ap (λ (t : Mode → Bool). arguments_walked c t (wanted c.outline head) xs >>= (λ all. call c.outline c.body s line head all)) (sym modes)
    ∙ ap (λ (w : Wants). arguments_walked c takes w xs >>= (λ all. call c.outline c.body s line head all)) (sym are)

pub call_stops : (c : Context) (s : Stand) (line : ℕ) (head : Head) (xs : List Expr) (takes : Mode → Bool) (wants : Wants) (error : FrontError) → takes ≡ modes_taken head → wants ≡ wanted c.outline head
    → Answers (arguments_walked c takes wants xs) (Err error) → Answers (call_form c s line head xs) (Err error)
call_stops c s line head xs takes wants error modes are a =
    along (call_form c s line head xs) _ (Err error) (call_by c s line head xs takes wants modes are) (passed_on (arguments_walked c takes wants xs) _ error a)

pub call_goes : (c : Context) (s : Stand) (line : ℕ) (head : Head) (xs : List Expr) (takes : Mode → Bool) (wants : Wants) (all : List Argument) (r : Result Head FrontError) → takes ≡ modes_taken head → wants ≡ wanted c.outline head
    → arguments_walked c takes wants xs ≡ Ok all → Answers (call c.outline c.body s line head all) r → Answers (call_form c s line head xs) r
call_goes c s line head xs takes wants all r modes are e a =
    along (call_form c s line head xs) _ r (call_by c s line head xs takes wants modes are) (go_on (arguments_walked c takes wants xs) all _ r e a)
