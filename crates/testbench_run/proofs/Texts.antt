-- The pieces of a report.
use Rattle.std.proofs.Common.{◌≡◌, ℕ, zero, suc, ◌+◌, ◌-◌, ◌<◌, ◌==◌, not, List, [], ◌∷◌, ◌++◌, length, map, take, get_or, refl, sym, ap, ◌∙◌, append_assoc, append-nil, Some, if◌then◌else◌, arith}
use Rattle.std.specs.Prelude.{codes, decimal, slice_get}
use Rattle.std.proofs.lemmas.Fmt.{decimal_digit}
use Rattle.std.proofs.lemmas.List.{length-map, map_more}
use Rattle.four_state.specs.Texts.{binary_text}
use Rattle.vera_ast.specs.Signals.{NamedSignal}
use Rattle.run_rules.specs.declared.drive.Drive.{Drive}
use Rattle.run_rules.specs.declared.end.End.{End}
use Rattle.run_rules.specs.Reports.{report_text, text_section, list_section, lines, end_line, newline, drive_line, signal_name, ends_within_line}
use Rattle.testbench_run.specs.DriveLines.{named, named_drive_line, named_drive_lines}

last_at : (xs : List ℕ) (i b : ℕ) → i + 1 ≡ length xs → Some b ≡ slice_get xs i → not (b == 10) ≡ ends_within_line xs
last_at [] i b l e = absurd cc
last_at (x ∷ []) zero b l e = let same : b ≡ x = cc in ap (λ n. not (n == 10)) same
last_at (x ∷ []) (suc i) b l e = absurd cc
last_at (x ∷ y ∷ xs) zero b l e = absurd (omega arith)
last_at (x ∷ y ∷ xs) (suc i) b l e = last_at (y ∷ xs) i b (omega arith) e

pub ends_within_line-last : (xs : List ℕ) (b : ℕ) → Some b ≡ slice_get xs (length xs - 1) → not (b == 10) ≡ ends_within_line xs
ends_within_line-last [] b e = absurd cc
ends_within_line-last (x ∷ xs) b e = last_at (x ∷ xs) (length (x ∷ xs) - 1) b (omega arith) e

-- ---- the lines of drives

lines-append : (xs ys : List (List ℕ)) → lines (xs ++ ys) ≡ lines xs ++ lines ys
lines-append [] ys = refl
lines-append (x ∷ xs) ys = ap (λ t. (x ++ newline) ++ t) (lines-append xs ys) ∙ sym (append_assoc (x ++ newline) (lines xs) (lines ys))

lines_more : (f : Drive → List ℕ) (ds : List Drive) (i : ℕ) (d : Drive) → i < length ds → lines (map f (take (i + 1) ds)) ≡ lines (map f (take i ds)) ++ (f (get_or ds i d) ++ newline)
lines_more f ds i d lt =
    ap lines (map_more f ds i d lt)
    ∙ lines-append (map f (take i ds)) (f (get_or ds i d) ∷ [])
    ∙ ap (λ t. lines (map f (take i ds)) ++ t) (append-nil (f (get_or ds i d) ++ newline))

-- one more drive's line behind those of the drives before it
pub drive_pushed : (f : Drive → List ℕ) (ds : List Drive) (i : ℕ) (d : Drive) (start before after : List ℕ) → i < length ds → d ≡ get_or ds i d → before ≡ start ++ lines (map f (take i ds)) → after ≡ before ++ (f d ++ newline) → after ≡ start ++ lines (map f (take (i + 1) ds))
drive_pushed f ds i d start before after lt is e k =
    k ∙ ap (λ x. before ++ (f x ++ newline)) is ∙ ap (λ t. t ++ (f (get_or ds i d) ++ newline)) e
    ∙ append_assoc start (lines (map f (take i ds))) (f (get_or ds i d) ++ newline)
    ∙ ap (λ t. start ++ t) (sym (lines_more f ds i d lt))

abbrev label : NamedSignal → List ℕ
label s = signal_name (Some s)

-- a number's name, among the names of the signals
named_is : (signals : List NamedSignal) (n : ℕ) → named (map label signals) n ≡ signal_name (slice_get signals n)
named_is [] n = refl
named_is (s ∷ signals) zero = refl
named_is (s ∷ signals) (suc n) = named_is signals n

drive_line_is : (signals : List NamedSignal) (d : Drive) → named_drive_line (map label signals) d ≡ drive_line signals d
drive_line_is signals d = ap (λ name. decimal d.cycle ++ codes " " ++ name ++ codes " = " ++ binary_text d.bits) (named_is signals d.signal)

drive_lines_are : (signals : List NamedSignal) (ds : List Drive) → named_drive_lines (map label signals) ds ≡ lines (map (drive_line signals) ds)
drive_lines_are signals [] = refl
drive_lines_are signals (d ∷ ds) = ap (λ l. l ++ newline ++ named_drive_lines (map label signals) ds) (drive_line_is signals d) ∙ ap (λ t. drive_line signals d ++ newline ++ t) (drive_lines_are signals ds)

-- ---- the sections

-- the section of the drives, as it is pushed piece by piece
drive_section : (signals : List NamedSignal) (drives : List Drive) (names t4 t5 t6 t7 t8 : List ℕ) → t5 ≡ t4 ++ codes "drives " → t6 ≡ t5 ++ decimal (length drives) → t7 ≡ t6 ++ newline → t8 ≡ t7 ++ names → names ≡ lines (map (drive_line signals) drives) → t8 ≡ t4 ++ list_section (codes "drives") (map (drive_line signals) drives)
drive_section signals drives names t4 t5 t6 t7 t8 e5 e6 e7 e8 is =
    let n = decimal (length drives) in
    let a6 : t6 ≡ t4 ++ (codes "drives " ++ n) = e6 ∙ ap (λ t. t ++ n) e5 ∙ append_assoc t4 (codes "drives ") n in
    let a7 : t7 ≡ t4 ++ (codes "drives " ++ n ++ newline) = e7 ∙ ap (λ t. t ++ newline) a6 ∙ append_assoc t4 (codes "drives " ++ n) newline in
    let ls = lines (map (drive_line signals) drives) in
    let a8 : t8 ≡ t4 ++ (codes "drives " ++ n ++ newline ++ ls) = e8 ∙ ap (λ x. t7 ++ x) is ∙ ap (λ t. t ++ ls) a7 ∙ append_assoc t4 (codes "drives " ++ n ++ newline) ls in
    a8 ∙ ap (λ k. t4 ++ (codes "drives " ++ decimal k ++ newline ++ ls)) (sym (length-map drives (drive_line signals)))

-- the sections of no verdict and no coverage
empty_lists : codes "verdicts 0\ncoverage 0\n" ≡ list_section (codes "verdicts") [] ++ list_section (codes "coverage") []
empty_lists =
    ap (λ n. (codes "verdicts" ++ codes " " ++ n ++ newline ++ lines []) ++ (codes "coverage" ++ codes " " ++ n ++ newline ++ lines [])) (sym (decimal_digit 0 (omega arith)))

pub report_is : (names : List (List ℕ)) (printed : List ℕ) (drives : List Drive) (end : End) (cycle : ℕ) (t0 t1 t2 t3 t4 t5 t6 t7 t8 t9 t10 : List ℕ) → t0 ≡ codes "text " → t1 ≡ t0 ++ decimal (length printed) → t2 ≡ t1 ++ newline → t3 ≡ t2 ++ printed → t4 ≡ t3 ++ (if ends_within_line printed then newline else []) → t5 ≡ t4 ++ codes "drives " → t6 ≡ t5 ++ decimal (length drives) → t7 ≡ t6 ++ newline → t8 ≡ t7 ++ named_drive_lines names drives → t9 ≡ t8 ++ codes "verdicts 0\ncoverage 0\n" → t10 ≡ t9 ++ end_line end cycle → (signals : List NamedSignal) → names ≡ map (λ s. signal_name (Some s)) signals → t10 ≡ report_text signals printed drives end cycle
unfolding report_text
report_is names printed drives end cycle t0 t1 t2 t3 t4 t5 t6 t7 t8 t9 t10 e0 e1 e2 e3 e4 e5 e6 e7 e8 e9 e10 signals are =
    let text : t4 ≡ text_section printed = cc in
    let d = list_section (codes "drives") (map (drive_line signals) drives) in
    let v = list_section (codes "verdicts") [] in
    let c = list_section (codes "coverage") [] in
    let driven : t8 ≡ t4 ++ d = drive_section signals drives (named_drive_lines names drives) t4 t5 t6 t7 t8 e5 e6 e7 e8 (ap (λ ns. named_drive_lines ns drives) are ∙ drive_lines_are signals drives) in
    let lists : t9 ≡ ((t4 ++ d) ++ v) ++ c = e9 ∙ ap (λ t. t8 ++ t) empty_lists ∙ ap (λ t. t ++ (v ++ c)) driven ∙ sym (append_assoc (t4 ++ d) v c) in
    e10 ∙ ap (λ xs. xs ++ end_line end cycle) lists ∙ ap (λ xs. (((xs ++ d) ++ v) ++ c) ++ end_line end cycle) text
