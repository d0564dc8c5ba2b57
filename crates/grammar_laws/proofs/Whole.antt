-- All tokens of a list: what is answered, for any parser and language between which the law holds at each limit.
use Rattle.std.proofs.Common.{◌≡◌, ◌≢◌, ℕ, suc, ◌+◌, ◌<◌, ◌≤◌, Bool, true, false, List, [], ◌∷◌, ◌++◌, length, Ok, Err, refl, sym, ap, subst, ◌∙◌, append_assoc, arith, inl, inr}
use Rattle.std.proofs.lemmas.List.{length-append, append-nil}
use Rattle.grammar_laws.specs.declared.fault.Fault.{Fault}
use Rattle.grammar_laws.specs.declared.fault.Fault.TheVariants.{NoMemory, Stop}
use Rattle.grammar_laws.specs.declared.fault.Why.{Why}
use Rattle.grammar_laws.specs.declared.fault.Why.TheVariants.{Syntax, Depth}
use Rattle.grammar_laws.specs.Words.{bare, Cell, Within}
use Rattle.grammar_laws.specs.Languages.{Lang}
use Rattle.grammar_laws.specs.Readers.{Outcome, Parser, finished, whole}
use Rattle.grammar_laws.specs.Answers.{Derived, Parses, Begins, EndsAt, IsSyntaxPlace, FirstDeep, IsTooDeep}
use Rattle.grammar_laws.proofs.Sets.{bare-append, Alike, Agree, Alike-agree}
use Rattle.grammar_laws.proofs.Law.{Completes, Halts, Viable, Heights, Law, bind_ok, bind_err, then_ok}
use Rattle.grammar_laws.proofs.Leaf.{ok_parts, ok_same, not_both, stop_parts}

-- ---- lists

split_same : {T : Type 0} (a b c d : List T) → a ++ b ≡ c ++ d → length b ≡ length d → (a ≡ c) × (b ≡ d)
split_same [] b [] d e len = (refl, e)
split_same [] b (x ∷ c) d e len = let l : length b ≡ suc (length c + length d) = ap length e ∙ length-append (x ∷ c) d ∙ omega arith in absurd (omega arith)
split_same (x ∷ a) b [] d e len = let l : suc (length a + length b) ≡ length d = omega arith ∙ sym (length-append (x ∷ a) b) ∙ ap length e in absurd (omega arith)
split_same (x ∷ a) b (y ∷ c) d e len =
    let head : x ≡ y = cc in
    let tail : a ++ b ≡ c ++ d = cc in
    let both = split_same a b c d tail len in
    (rw (head, both.0) refl, both.1)

length_bare : {T : Type 0} (w : List (Cell T)) → length (bare w) ≡ length w
length_bare [] = refl
length_bare (c ∷ w) = ap suc (length_bare w)

-- what is no deeper than the limit doesn't dive
shallow_part : {T : Type 0} (limit : ℕ) (front : List (Cell T)) (c : Cell T) (back : List (Cell T)) → Within limit (front ++ c ∷ back) → c.1 ≤ limit
shallow_part limit [] c back h = h.0
shallow_part limit (k ∷ front) c back h = shallow_part limit front c back h.1

shallow_completes : {T A : Type 0} {Tall : ℕ → Type 0} (limit : ℕ) (w : List (Cell T)) (a : A) (o : Outcome T A) → Within limit w → Completes Tall limit w [] a o → o ≡ Ok (a, [])
shallow_completes limit w a o h (inl e) = e.0
shallow_completes limit w a o h (inr dives) =
    let below : dives.deep.1 ≤ limit = shallow_part limit dives.front dives.deep dives.back (subst (Within limit) dives.parts h) in
    let over : limit < dives.deep.1 = dives.over in
    absurd (omega arith)

-- a word at a greater limit
within_more : {T : Type 0} (m n : ℕ) (w : List (Cell T)) → m ≤ n → Within m w → Within n w
within_more m n [] le h = tt
within_more m n (c ∷ w) le h = let at : c.1 ≤ m = h.0 in (omega arith, within_more m n w le h.1)

-- each word has a greatest depth
greatest : {T : Type 0} (w : List (Cell T)) → (m : ℕ) × Within m w
greatest [] = (0, tt)
greatest (c ∷ w) = let rest = greatest w in (c.1 + rest.0, (omega arith, within_more rest.0 (c.1 + rest.0) w (omega arith) rest.1))

finished_ok : {T : Type 0} (ts : List T) (u : Unit {0}) (rest : List T) → finished ts ≡ Ok (u, rest) → (ts ≡ []) × (rest ≡ [])
unfolding finished
finished_ok [] u rest e = (refl, sym (ok_same tt u [] rest e).1)
finished_ok (t ∷ ts) u rest e = absurd cc

finished_err : {T : Type 0} (ts : List T) (why : Why) (n : ℕ) → finished ts ≡ Err (Stop why n) → (t : T) × (rest : List T) × (ts ≡ t ∷ rest) × (Syntax ≡ why) × (suc (length rest) ≡ n)
unfolding finished
finished_err [] why n e = absurd cc
finished_err {T} (t ∷ ts) why n e = let p = stop_parts {T = T} {A = Unit {0}} Syntax why (suc (length ts)) n (Err (Stop Syntax (length (t ∷ ts)))) refl e in (t, ts, refl, p.0, p.1)

-- what code that reads ensures, where its fault is this stop
pub stop_is : {T A : Type 0} (o : Outcome T A) (f : Fault) (w why : Why) (n : ℕ) → (f ≢ NoMemory → o ≡ Err f) → f ≡ Stop w n → w ≡ why → o ≡ Err (Stop why n)
stop_is o f w why n e same is_why =
    e (λ x. let both : ◌≡◌ {A = Fault} (Stop w n) NoMemory = sym same ∙ x in absurd cc) ∙ ap (λ (f : Fault). Err f) (same ∙ ap (λ (w : Why). Stop w n) is_why)

-- ---- the whole

module _ (T A : Type 0) (code : T → ℕ) (Tall : ℕ → Heights) (n o : Bool) (first clash goes_on : List ℕ) (p : ℕ → Parser T A) (file : ℕ → Lang T A)
    (law : (limit : ℕ) → Law code (Tall limit) limit 0 n o first clash goes_on (p limit) (λ h. file h 0)) (tall : (limit : ℕ) → (h : ℕ) × (Tall limit).tall h) where
  abbrev IsFile : List (Cell T) → A → Type 0
  IsFile = Derived file

  -- reading a whole file, whatever its depth
  completes : (limit : ℕ) (w : List (Cell T)) (a : A) → IsFile w a → Completes (Tall limit).tall limit w [] a (p limit (bare w ++ []))
  completes limit w a x = (law limit).complete x.height w [] a x.derived refl

  reads_file : (limit : ℕ) (w : List (Cell T)) (a : A) → IsFile w a → Within limit w → p limit (bare w) ≡ Ok (a, [])
  reads_file limit w a x h = ap (p limit) (sym (append-nil (bare w))) ∙ shallow_completes limit w a (p limit (bare w ++ [])) h (completes limit w a x)

  -- a file within the limit is read
  pub whole_only : (limit : ℕ) (ts : List T) (a : A) → Parses IsFile limit ts a → whole (p limit) ts ≡ Ok (a, [])
  unfolding whole finished
  whole_only limit ts a x =
      ap (λ (ts : List T). whole (p limit) ts) x.tokens ∙ then_ok (p limit (bare x.word)) _ a [] (reads_file limit x.word a x.is_file x.within) ∙ then_ok (finished []) _ tt [] refl

  -- what is read is a file
  pub whole_ok : (limit : ℕ) (ts : List T) (a : A) (rest : List T) → whole (p limit) ts ≡ Ok (a, rest) → Parses IsFile limit ts a
  unfolding whole
  whole_ok limit ts a rest e =
      let x = bind_ok (p limit ts) _ (a, rest) e in
      let y = bind_ok (finished x.0.1) _ (a, rest) x.2 in
      let none = finished_ok x.0.1 y.0.0 y.0.1 y.1 in
      let same = ok_same x.0.0 a y.0.1 rest y.2 in
      let h = tall limit in
      let took = (law limit).sound h.0 h.1 ts a [] (x.1 ∙ ap (λ (t : A). Ok (t, x.0.1)) same.0 ∙ ap (λ (r : List T). Ok (a, r)) none.0) in
      record { word = took.word; tokens = took.whole ∙ append-nil (bare took.word); within = took.within; is_file = record { height = h.0; derived = took.derived } }

  -- tokens have one value at most
  pub one_value : (w1 w2 : List (Cell T)) (a b : A) → IsFile w1 a → IsFile w2 b → bare w1 ≡ bare w2 → a ≡ b
  one_value w1 w2 a b x y same =
      let m1 = greatest w1 in
      let m2 = greatest w2 in
      let m : ℕ = m1.0 + m2.0 in
      let e1 = reads_file m w1 a x (within_more m1.0 m w1 (omega arith) m1.1) in
      let e2 = ap (p m) same ∙ reads_file m w2 b y (within_more m2.0 m w2 (omega arith) m2.1) in
      (ok_parts a b [] [] (p m (bare w1)) e1 e2).0

  pub same_value : (limit : ℕ) (ts : List T) (found a : A) (rest : List T) → whole (p limit) ts ≡ Ok (found, rest) → Parses IsFile limit ts a → found ≡ a
  same_value limit ts found a rest e x = (ok_parts found a rest [] (whole (p limit) ts) e (whole_only limit ts a x)).0

  pub no_value : (limit : ℕ) (ts : List T) (a : A) (why : Why) (k : ℕ) → whole (p limit) ts ≡ Err (Stop why k) → Parses IsFile limit ts a → ⊥
  no_value limit ts a why k e x = not_both ⊥ (a, []) (Stop why k) (whole (p limit) ts) (whole_only limit ts a x) e

  -- ---- the syntax place

  -- a file doesn't go on where reading stops
  no_file : (limit : ℕ) (front : List T) (t : T) (rest : List T) (o : List T → Outcome T A)
      → ((s : List T) → Alike (t ∷ rest) s → p limit (front ++ s) ≡ o s) → ((s : List T) (a : A) → Alike (t ∷ rest) s → o s ≡ Ok (a, []) → ⊥) → ((s : List T) (k : ℕ) → Alike (t ∷ rest) s → o s ≡ Err (Stop Depth k) → ⊥)
      → Begins IsFile (front ++ t ∷ []) → ⊥
  no_file limit front t rest o again not_ok not_deep x =
      let s : List T = t ∷ x.more in
      let read : p limit (bare x.word ++ []) ≡ o s = ap (p limit) (append-nil (bare x.word) ∙ x.tokens ∙ append_assoc front (t ∷ []) x.more) ∙ again s refl in
      elim (completes limit x.word x.value x.is_file) [
        | inl ok ↦ not_ok s x.value refl (sym read ∙ ok.0)
        | inr dives ↦ not_deep s (suc (length (bare dives.back ++ []))) refl (sym read ∙ dives.is_stop)
      ]

  stuck_at : (limit : ℕ) (ts front rest : List T) (k : ℕ) → p limit ts ≡ Err (Stop Syntax k) → ts ≡ front ++ rest
      → ((s : List T) → Alike rest s → p limit (front ++ s) ≡ Err (Stop Syntax (length s))) → EndsAt IsFile front rest
  stuck_at limit ts front [] k e parts again = λ w a x same.
      let read : bare w ++ [] ≡ ts = append-nil (bare w) ∙ same ∙ sym (parts ∙ append-nil front) in
      let outcome : p limit (bare w ++ []) ≡ Err (Stop Syntax k) = ap (p limit) read ∙ e in
      elim (completes limit w a x) [
        | inl ok ↦ not_both ⊥ (a, []) (Stop Syntax k) (p limit (bare w ++ [])) ok.0 outcome
        | inr dives ↦ let q = stop_parts Syntax Depth k (suc (length (bare dives.back ++ []))) (p limit (bare w ++ [])) outcome dives.is_stop in let off = q.0 in absurd cc
      ]
  stuck_at limit ts front (t ∷ rest) k e parts again =
      no_file limit front t rest (λ s. Err (Stop Syntax (length s))) again
      (λ s a like ok. absurd cc)
      (λ s j like deep. let q = stop_parts Syntax Depth (length s) j (Err (Stop Syntax (length s))) refl deep in let off = q.0 in absurd cc)

  syntax_at : (limit : ℕ) (ts : List T) (k : ℕ) → p limit ts ≡ Err (Stop Syntax k) → IsSyntaxPlace IsFile limit ts k
  syntax_at limit ts k e =
      let t = tall limit in
      let stops = (law limit).stops t.0 t.1 ts Syntax k e in
      let h = stops.halts in
      let v = stops.viable in
      let one : stops.two ≡ false = v.goes in
      let both = split_same h.front h.rest (bare v.word) v.rest (sym h.whole ∙ v.whole) (sym h.left ∙ v.left) in
      let again : (s : List T) → Alike h.rest s → p limit (h.front ++ s) ≡ Err (Stop Syntax (length s)) = λ s like. h.again s (subst (λ (b : Bool). Agree b h.rest s) (sym one) (Alike-agree h.rest s like)) in
      let stuck : EndsAt IsFile h.front h.rest = stuck_at limit ts h.front h.rest k e h.whole again in
      record {
        word = v.word;
        rest = h.rest;
        tokens = h.whole ∙ ap (λ (f : List T). f ++ h.rest) both.0;
        is_left = h.left;
        within = v.within;
        begins = record { more = v.more; value = v.value; is_file = record { height = t.0; derived = v.derived } };
        stuck = subst (λ (f : List T). EndsAt IsFile f h.rest) both.0 stuck;
      }

  -- a whole file, and then a token
  after_file : (limit : ℕ) (ts : List T) (a : A) (t : T) (rest : List T) (k : ℕ) → p limit ts ≡ Ok (a, t ∷ rest) → suc (length rest) ≡ k → IsSyntaxPlace IsFile limit ts k
  after_file limit ts a t rest k e left =
      let h = tall limit in
      let took = (law limit).sound h.0 h.1 ts a (t ∷ rest) e in
      let ends = (law limit).ends ts a (t ∷ rest) e in
      let both = split_same ends.front (t ∷ rest) (bare took.word) (t ∷ rest) (sym ends.whole ∙ took.whole) refl in
      let again : (s : List T) → Alike (t ∷ rest) s → p limit (bare took.word ++ s) ≡ Ok (a, s) = λ s like. ap (λ (f : List T). p limit (f ++ s)) (sym both.0) ∙ ends.again s like in
      let alone = ((law limit).shape h.0).keeps took.word (t ∷ rest) [] a took.derived (inr refl) in
      record {
        word = took.word;
        rest = t ∷ rest;
        tokens = took.whole;
        is_left = sym left;
        within = took.within;
        begins = record { more = []; value = a; is_file = subst (λ (w : List (Cell T)). IsFile w a) (sym (append-nil took.word)) (record { height = h.0; derived = alone }) };
        stuck = no_file limit (bare took.word) t rest (λ s. Ok (a, s)) again (λ s other like ok. not_nil t rest s a other like ok) (λ s j like deep. absurd cc);
      }
    where
      not_nil : (t : T) (rest s : List T) (a other : A) → Alike (t ∷ rest) s → ◌≡◌ {A = Outcome T A} (Ok (a, s)) (Ok (other, [])) → ⊥
      not_nil t rest [] a other like ok = absurd like
      not_nil t rest (x ∷ s) a other like ok = let q = ok_same a other (x ∷ s) [] ok in let off = q.1 in absurd cc

  -- where reading stops as by syntax is the syntax place
  pub whole_syntax : (limit : ℕ) (ts : List T) (k : ℕ) → whole (p limit) ts ≡ Err (Stop Syntax k) → IsSyntaxPlace IsFile limit ts k
  unfolding whole
  whole_syntax limit ts k e = elim (bind_err (p limit ts) _ (Stop Syntax k) e) [
    | inl x ↦ syntax_at limit ts k x
    | inr x ↦ elim (bind_err (finished x.0.1) _ (Stop Syntax k) x.2) [
      | inl y ↦
          let f = finished_err x.0.1 Syntax k y in
          after_file limit ts x.0.0 f.0 f.1 k (x.1 ∙ ap (λ (r : List T). Ok (x.0.0, r)) f.2) f.4
      | inr y ↦ not_both (IsSyntaxPlace IsFile limit ts k) (x.0.0, y.0.1) (Stop Syntax k) (Ok (x.0.0, y.0.1)) refl y.2
    ]
  ]

  -- ---- too deep

  -- the tokens on which a stop rests
  abbrev Shown : (two : Bool) (rest s : List T) → Type 0
  Shown two rest s = (t : T) × (ahead : List T) × (r : List T) × (more : List T) × (rest ≡ t ∷ (ahead ++ r)) × (s ≡ t ∷ (ahead ++ more)) × ((x : List T) → Agree two rest (t ∷ (ahead ++ x)))

  shown : (two : Bool) (rest s : List T) → Agree two rest s → Shown two rest s
  shown two [] s h = absurd h
  shown two (x ∷ r) [] h = absurd h
  shown false (x ∷ r) (y ∷ s) h = (x, [], r, s, refl, ap (λ (t : T). t ∷ s) (sym h), λ more. refl)
  shown true (x ∷ []) (y ∷ s) h = absurd h.1
  shown true (x ∷ k ∷ r) (y ∷ []) h = absurd h.1
  shown true (x ∷ k ∷ r) (y ∷ j ∷ s) h = (x, k ∷ [], r, s, refl, rw (h.0, h.1) refl, λ more. (refl, refl))

  deep_later : (limit : ℕ) (front : List T) (t : T) (ahead more : List T) → p limit (front ++ t ∷ (ahead ++ more)) ≡ Err (Stop Depth (length (t ∷ (ahead ++ more))))
      → (w : List (Cell T)) (a : A) → IsFile w a → bare w ≡ (front ++ t ∷ ahead) ++ more → FirstDeep IsFile limit front t w
  deep_later limit front t ahead more stop w a x same =
      let s : List T = t ∷ (ahead ++ more) in
      let read : bare w ≡ front ++ s = same ∙ append_assoc front (t ∷ ahead) more in
      let outcome : p limit (bare w ++ []) ≡ Err (Stop Depth (length s)) = ap (p limit) (append-nil (bare w) ∙ read) ∙ stop in
      elim (completes limit w a x) [
        | inl ok ↦ not_both (FirstDeep IsFile limit front t w) (a, []) (Stop Depth (length s)) (p limit (bare w ++ [])) ok.0 outcome
        | inr dives ↦
            let q = stop_parts Depth Depth (length s) (suc (length (bare dives.back ++ []))) (p limit (bare w ++ [])) outcome dives.is_stop in
            let len : length (bare (dives.deep ∷ dives.back)) ≡ length s = ap (λ (r : List T). suc (length r)) (sym (append-nil (bare dives.back))) ∙ sym q.1 in
            let cut : bare dives.front ++ bare (dives.deep ∷ dives.back) ≡ front ++ s = sym (bare-append dives.front (dives.deep ∷ dives.back)) ∙ ap bare (sym dives.parts) ∙ read in
            let both = split_same (bare dives.front) (bare (dives.deep ∷ dives.back)) front s cut len in
            let head : dives.deep.0 ≡ t = let e : dives.deep.0 ∷ bare dives.back ≡ t ∷ (ahead ++ more) = both.1 in cc in
            record {
              before = dives.front;
              depth = dives.deep.1;
              behind = dives.back;
              parts = dives.parts ∙ ap (λ (u : T). dives.front ++ (u, dives.deep.1) ∷ dives.back) head;
              same = both.0;
              shallow = let h = tall limit in dives.shallow h.0 h.1;
              deep = dives.over;
            }
      ]

  deep_at_stop : (limit : ℕ) (ts : List T) (k : ℕ) (two : Bool) → Halts (p limit) ts Depth k two → Viable limit (file (tall limit).0 0) ts Depth k two → IsTooDeep IsFile limit ts k
  deep_at_stop limit ts k two h v =
      let both = split_same h.front h.rest (bare v.word) v.rest (sym h.whole ∙ v.whole) (sym h.left ∙ v.left) in
      let goes : Agree two h.rest (bare v.more) = subst (λ (r : List T). Agree two r (bare v.more)) (sym both.1) v.goes in
      let x = shown two h.rest (bare v.more) goes in
      let t = x.0 in
      let ahead = x.1 in
      record {
        front = h.front;
        token = t;
        ahead = ahead;
        rest = x.2;
        tokens = h.whole ∙ ap (λ (r : List T). h.front ++ r) x.4;
        is_left = h.left ∙ ap length x.4;
        begins = record {
          word = v.word ++ v.more;
          more = x.3;
          tokens = bare-append v.word v.more ∙ ap (λ (r : List T). bare v.word ++ r) x.5 ∙ ap (λ (f : List T). f ++ t ∷ (ahead ++ x.3)) (sym both.0) ∙ sym (append_assoc h.front (t ∷ ahead) x.3);
          value = v.value;
          is_file = record { height = (tall limit).0; derived = v.derived };
        };
        deep = λ w a more y same. deep_later limit h.front t ahead more (h.again (t ∷ (ahead ++ more)) (x.6 more)) w a y same;
      }

  -- where reading stops as by depth is the first token that is too deep
  pub whole_deep : (limit : ℕ) (ts : List T) (k : ℕ) → whole (p limit) ts ≡ Err (Stop Depth k) → IsTooDeep IsFile limit ts k
  unfolding whole
  whole_deep limit ts k e = elim (bind_err (p limit ts) _ (Stop Depth k) e) [
    | inl x ↦
        let t = tall limit in
        let stops = (law limit).stops t.0 t.1 ts Depth k x in
        deep_at_stop limit ts k stops.two stops.halts stops.viable
    | inr x ↦ elim (bind_err (finished x.0.1) _ (Stop Depth k) x.2) [
      | inl y ↦ let f = finished_err x.0.1 Depth k y in let off = f.3 in absurd cc
      | inr y ↦ not_both (IsTooDeep IsFile limit ts k) (x.0.0, y.0.1) (Stop Depth k) (Ok (x.0.0, y.0.1)) refl y.2
    ]
  ]
