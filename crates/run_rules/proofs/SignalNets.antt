-- The nets of one signal.
use Rattle.std.proofs.Common.{◌≡◌, ◌≢◌, ◌⊎◌, inl, inr, ℕ, zero, suc, ◌<◌, ◌==◌, true, false, List, [], ◌∷◌, ◌++◌, length, length-append, All, Some, slice_get, refl, sym, ap, ◌∙◌, subst, arith}
use Rattle.std.proofs.lemmas.Bool.Decides.{eqb_tells}
use Rattle.std.proofs.lemmas.List.Elements.{All-nil, All-cons, All-head, All-tail, All-append}
use Rattle.vera_ast.specs.declared.typed.interface.TypedSignal.{TypedSignal}
use Rattle.blif_read.specs.Nets.{number}
use Rattle.run_rules.specs.Nets.{net_name, lowest_nets}
use Rattle.run_rules.proofs.NetNames.{same_bit}
use Rattle.run_rules.proofs.NetNumbers.{same_number}
use Rattle.run_rules.proofs.PutBits.{Lacks, HasOnce}

-- ---- parts of a list

All-front : (P : ℕ → Type 0) (xs ys : List ℕ) → All P (xs ++ ys) → All P xs
All-front P [] ys all = All-nil P
All-front P (x ∷ xs) ys all = All-cons P x xs (All-head P x (xs ++ ys) all) (All-front P xs ys (All-tail P x (xs ++ ys) all))

All-last : (P : ℕ → Type 0) (xs : List ℕ) (y : ℕ) → All P (xs ++ y ∷ []) → P y
All-last P [] y all = All-head P y [] all
All-last P (x ∷ xs) y all = All-last P xs y (All-tail P x (xs ++ y ∷ []) all)

-- ---- the nets of a signal

pub many : (names : List (List ℕ)) (s : TypedSignal) (n : ℕ) → length (lowest_nets names s n) ≡ n
many names s zero = refl
many names s (suc n) =
    let before : length (lowest_nets names s n) ≡ n = many names s n in
    length-append (lowest_nets names s n) (number names (net_name s n) ∷ []) ∙ omega (arith, before)

pub all_nets : (P : ℕ → Type 0) (names : List (List ℕ)) (s : TypedSignal) (n : ℕ) → ((i : ℕ) → i < n → P (number names (net_name s i))) → All P (lowest_nets names s n)
all_nets P names s zero h = All-nil P
all_nets P names s (suc n) h =
    All-append P (lowest_nets names s n) (number names (net_name s n) ∷ [])
    (all_nets P names s n (λ i below. h i (omega arith)))
    (All-cons P (number names (net_name s n)) [] (h n (omega arith)) (All-nil P))

-- what all nets keep, the net of each bit does
pub net_at : (P : ℕ → Type 0) (names : List (List ℕ)) (s : TypedSignal) (n : ℕ) → All P (lowest_nets names s n) → (i : ℕ) → i < n → P (number names (net_name s i))
net_at P names s zero all i below = absurd (omega arith)
net_at P names s (suc n) all i below = by (eqb_tells i n) (λ less. net_at P names s n (All-front P (lowest_nets names s n) (number names (net_name s n) ∷ []) all) i less)
  where
    by : (((i == n) ≡ true) × (i ≡ n)) ⊎ (((i == n) ≡ false) × (i ≢ n)) → (i < n → P (number names (net_name s i))) → P (number names (net_name s i))
    by (inl is) earlier = subst (λ (z : ℕ). P (number names (net_name s z))) (sym is.1) (All-last P (lowest_nets names s n) (number names (net_name s n)) all)
    by (inr not) earlier = let differs = not.1 in earlier (omega (arith, differs, below))

-- k is none of the nets, or that of a bit
pub bit_of : (k : ℕ) (names : List (List ℕ)) (s : TypedSignal) (n : ℕ) → Lacks k (lowest_nets names s n) ⊎ ((i : ℕ) × (i < n) × (number names (net_name s i) ≡ k))
bit_of k names s zero = inl (All-nil (λ j. j ≢ k))
bit_of k names s (suc n) = by (eqb_tells last k) (bit_of k names s n)
  where
    last : ℕ
    last = number names (net_name s n)

    by : (((last == k) ≡ true) × (last ≡ k)) ⊎ (((last == k) ≡ false) × (last ≢ k)) → Lacks k (lowest_nets names s n) ⊎ ((i : ℕ) × (i < n) × (number names (net_name s i) ≡ k)) → Lacks k (lowest_nets names s (suc n)) ⊎ ((i : ℕ) × (i < suc n) × (number names (net_name s i) ≡ k))
    by (inl is) before = inr (n, omega arith, is.1)
    by (inr not) (inl lacks) = inl (All-append (λ j. j ≢ k) (lowest_nets names s n) (last ∷ []) lacks (All-cons (λ j. j ≢ k) last [] not.1 (All-nil (λ j. j ≢ k))))
    by (inr not) (inr found) = inr (found.0, (let below = found.1 in omega (arith, below)), found.2)

once_more : (k : ℕ) (ks : List ℕ) (j : ℕ) → HasOnce k ks → (j ≡ k → Lacks k ks) → HasOnce k (ks ++ j ∷ [])
once_more k [] j once new = (λ is. All-nil (λ i. i ≢ k), tt)
once_more k (i ∷ is) j once new = (
  λ first. All-append (λ l. l ≢ k) is (j ∷ []) (once.0 first) (All-cons (λ l. l ≢ k) j [] (λ last. All-head (λ l. l ≢ k) i is (new last) first) (All-nil (λ l. l ≢ k))),
  once_more k is j once.1 (λ last. All-tail (λ l. l ≢ k) i is (new last)),
)

-- a number that a net has is that of one bit of the signal at most
pub once_lowest : (k : ℕ) (names : List (List ℕ)) (s : TypedSignal) (n : ℕ) → (n < suc s.width.bits) → ((i : ℕ) → i < n → number names (net_name s i) ≡ k → k < length names) → HasOnce k (lowest_nets names s n)
once_lowest k names s zero within inside = tt
once_lowest k names s (suc n) within inside =
    once_more k (lowest_nets names s n) (number names (net_name s n))
    (once_lowest k names s n (omega arith) (λ i below. inside i (omega arith)))
    (λ last. all_nets (λ j. j ≢ k) names s n (λ i below is.
    let one : i ≡ n = same_bit s i n (omega arith) (omega arith) (same_number names _ _ (is ∙ sym last) (subst (λ (z : ℕ). z < length names) (sym is) (inside n (omega arith) last))) in
    omega (arith, one, below)))

-- ---- places

get-front : (xs ys : List ℕ) (i : ℕ) → i < length xs → slice_get (xs ++ ys) i ≡ slice_get xs i
get-front [] ys i below = absurd (omega arith)
get-front (x ∷ xs) ys zero below = refl
get-front (x ∷ xs) ys (suc i) below = get-front xs ys i (omega arith)

get-last : (xs : List ℕ) (y : ℕ) → slice_get (xs ++ y ∷ []) (length xs) ≡ Some y
get-last [] y = refl
get-last (x ∷ xs) y = get-last xs y

-- the net at a bit's place is that of the bit
pub place_of : (names : List (List ℕ)) (s : TypedSignal) (n i : ℕ) → i < n → slice_get (lowest_nets names s n) i ≡ Some (number names (net_name s i))
place_of names s zero i below = absurd (omega arith)
place_of names s (suc n) i below = by (eqb_tells i n) (many names s n) (λ less. place_of names s n i less)
  where
    by : (((i == n) ≡ true) × (i ≡ n)) ⊎ (((i == n) ≡ false) × (i ≢ n)) → length (lowest_nets names s n) ≡ n → (i < n → slice_get (lowest_nets names s n) i ≡ Some (number names (net_name s i))) → slice_get (lowest_nets names s (suc n)) i ≡ Some (number names (net_name s i))
    by (inl is) long earlier =
        ap (slice_get (lowest_nets names s (suc n))) (is.1 ∙ sym long)
        ∙ get-last (lowest_nets names s n) (number names (net_name s n))
        ∙ ap (λ z. Some (number names (net_name s z))) (sym is.1)
    by (inr not) long earlier =
        let differs = not.1 in
        get-front (lowest_nets names s n) (number names (net_name s n) ∷ []) i (omega (arith, long, differs, below)) ∙ earlier (omega (arith, differs, below))
