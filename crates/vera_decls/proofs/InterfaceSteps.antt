-- Interfaces, step by step, as the code takes them.
use Rattle.std.proofs.Common.{◌≡◌, ℕ, suc, ◌+◌, ◌<◌, ◌≤◌, Bool, true, false, cond, List, [], ◌∷◌, ◌++◌, length, get_or, drop, filter, Option, Some, None, refl, sym, ap, ◌∙◌, arith}
use Rattle.std.specs.Prelude.{not, Ok, Err}
use Rattle.std.proofs.lemmas.List.{drop_all}
use Rattle.vera_ast.specs.declared.refusal.FrontError.{FrontError}
use Rattle.vera_ast.specs.declared.refusal.FrontError.TheVariants.{Refused, NoMemory}
use Rattle.vera_ast.specs.declared.tree.interfaces.Interface.{Interface}
use Rattle.vera_ast.specs.declared.tree.interfaces.Signal.{Signal}
use Rattle.vera_ast.specs.declared.typed.interface.TypedSignal.{TypedSignal}
use Rattle.vera_ast.specs.declared.typed.types.Width.{Width}
use Rattle.vera_names.proofs.Answering.{ok_then, err_then, passed_on, refused_by, passed_by}
use Rattle.vera_names.proofs.Items.{items_from, one_more, behind_all}
use Rattle.typing_rules.specs.Answers.{Answers}
use Rattle.typing_rules.specs.Checked.{Checked, ◌>>=◌, each}
use Rattle.typing_rules.specs.Interfaces.{signal_width, kind_of, is_wrong_form, typed_signal, is_clock_kind, is_good_clock, is_one_clock, typed_interface, known_signals}
use Rattle.typing_rules.specs.Scopes.{Scopes}
use Rattle.vera_names.specs.Lists.{behind}
use Rattle.typing_rules.specs.declared.names.KnownSignal.{KnownSignal}

-- ---- the one clock

abbrev pub one_so_far : Option Bool → List TypedSignal → Bool
one_so_far None clocks = is_one_clock clocks
one_so_far (Some good) [] = good
one_so_far (Some good) (c ∷ clocks) = false

abbrev pub clocks_in : List TypedSignal → List TypedSignal
clocks_in signals = filter (λ s. is_clock_kind s.kind) signals

first_clock : (c : TypedSignal) (clocks : List TypedSignal) → is_one_clock (c ∷ clocks) ≡ one_so_far (Some (is_good_clock c)) clocks
first_clock c [] = refl
first_clock c (d ∷ clocks) = refl

without_test : (b : Bool) (s : TypedSignal) (more : List TypedSignal) (found : Option Bool) → b ≡ false → one_so_far found (cond b (s ∷ more) more) ≡ one_so_far found more
without_test true s more found e = absurd cc
without_test false s more found e = refl

pub no_clock : (all : List TypedSignal) (i : ℕ) (s : TypedSignal) (found : Option Bool) (whole : Bool) → i < length all → s ≡ get_or all i s → one_so_far found (clocks_in (drop i all)) ≡ whole → is_clock_kind s.kind ≡ false
    → one_so_far found (clocks_in (drop (i + 1) all)) ≡ whole
no_clock all i s found whole lt at h none =
    sym (without_test (is_clock_kind s.kind) s (clocks_in (drop (i + 1) all)) found none)
    ∙ ap (λ (left : List TypedSignal). one_so_far found (clocks_in left)) (sym (items_from all i s lt at))
    ∙ h

-- ---- the signals as their uses see them

abbrev pub known_of : Signal → ℕ → Width → KnownSignal
known_of s n width = record { name = s.name; is = record { number = n; width = width }; direction = s.direction; kind = kind_of s.kind.form }

pub known_next : (scopes : Scopes) (all : List Signal) (i number next : ℕ) (s : Signal) (done new : List KnownSignal) (width : Width) (whole : Checked (List KnownSignal)) → i < length all → s ≡ get_or all i s
    → behind done (known_signals scopes number (drop i all)) ≡ whole → signal_width scopes s.range ≡ Ok width → next ≡ number + 1 → new ≡ done ++ known_of s number width ∷ []
    → behind new (known_signals scopes next (drop (i + 1) all)) ≡ whole
unfolding known_signals
known_next scopes all i number next s done new width whole lt at h e n is =
    let one : next ≡ suc number = omega arith in
    ap (λ (known : List KnownSignal). behind known (known_signals scopes next (drop (i + 1) all))) is
    ∙ ap (λ (m : ℕ). behind (done ++ known_of s number width ∷ []) (known_signals scopes m (drop (i + 1) all))) one
    ∙ sym (one_more done (known_of s number width) (known_signals scopes (suc number) (drop (i + 1) all)))
    ∙ ap (behind done) (sym (ok_then (signal_width scopes s.range) width (λ width. known_signals scopes (suc number) (drop (i + 1) all) >>= (λ others. Ok (known_of s number width ∷ others))) e))
    ∙ ap (λ (left : List Signal). behind done (known_signals scopes number left)) (sym (items_from all i s lt at))
    ∙ h

known_wrong : (scopes : Scopes) (number : ℕ) (s : Signal) (more : List Signal) (done : List KnownSignal) (whole : Checked (List KnownSignal)) (e : FrontError) → behind done (known_signals scopes number (s ∷ more)) ≡ whole
    → Answers (signal_width scopes s.range) (Err e) → Answers whole (Err e)
unfolding known_signals
known_wrong scopes number s more done whole (Refused r) h e =
    sym h ∙ ap (behind done) (err_then (signal_width scopes s.range) r (λ width. known_signals scopes (suc number) more >>= (λ others. Ok (known_of s number width ∷ others))) e)
known_wrong scopes number s more done whole NoMemory h e = tt

pub known_stops : (scopes : Scopes) (all : List Signal) (i number : ℕ) (s : Signal) (done : List KnownSignal) (whole : Checked (List KnownSignal)) (e : FrontError) → i < length all → s ≡ get_or all i s
    → behind done (known_signals scopes number (drop i all)) ≡ whole → Answers (signal_width scopes s.range) (Err e) → Answers whole (Err e)
known_stops scopes all i number s done whole e lt at h k =
    known_wrong scopes number s (drop (i + 1) all) done whole e (ap (λ (left : List Signal). behind done (known_signals scopes number left)) (sym (items_from all i s lt at)) ∙ h) k

pub known_ends : (scopes : Scopes) (all : List Signal) (i number : ℕ) (done : List KnownSignal) (whole : Checked (List KnownSignal)) → length all ≤ i → behind done (known_signals scopes number (drop i all)) ≡ whole → whole ≡ Ok done
unfolding known_signals
known_ends scopes all i number done whole end h = sym h ∙ ap (λ (left : List Signal). behind done (known_signals scopes number left)) (drop_all i all end) ∙ behind_all done

-- ---- one signal, and the whole

pub signal_no_width : (scopes : Scopes) (s : Signal) (e : FrontError) → Answers (signal_width scopes s.range) (Err e) → Answers (typed_signal scopes s) (Err e)
unfolding typed_signal
signal_no_width scopes s e h = passed_on (signal_width scopes s.range) _ e h

pub signal_wrong : (scopes : Scopes) (s : Signal) (width : Width) → signal_width scopes s.range ≡ Ok width → is_wrong_form s.direction s.kind.form ≡ true → typed_signal scopes s ≡ Err (record { code = 37; line = s.line })
unfolding typed_signal
signal_wrong scopes s width e wrong = ok_then (signal_width scopes s.range) width _ e ∙ refused_by s.line 37 (is_wrong_form s.direction s.kind.form) _ wrong

pub signal_right : (scopes : Scopes) (s : Signal) (width : Width) → signal_width scopes s.range ≡ Ok width → is_wrong_form s.direction s.kind.form ≡ false
    → typed_signal scopes s ≡ Ok (record { line = s.line; direction = s.direction; width = width; name = s.name; kind = kind_of s.kind.form })
unfolding typed_signal
signal_right scopes s width e right = ok_then (signal_width scopes s.range) width _ e ∙ passed_by s.line 37 (is_wrong_form s.direction s.kind.form) _ right

pub interface_no_signals : (scopes : Scopes) (x : Interface) (e : FrontError) → Answers (each (typed_signal scopes) x.signals) (Err e) → Answers (typed_interface scopes x) (Err e)
unfolding typed_interface
interface_no_signals scopes x e h = passed_on (each (typed_signal scopes) x.signals) _ e h

pub interface_wrong : (scopes : Scopes) (x : Interface) (signals : List TypedSignal) → each (typed_signal scopes) x.signals ≡ Ok signals → is_one_clock (clocks_in signals) ≡ false → typed_interface scopes x ≡ Err (record { code = 37; line = x.line })
unfolding typed_interface
interface_wrong scopes x signals e wrong = ok_then (each (typed_signal scopes) x.signals) signals _ e ∙ refused_by x.line 37 (not (is_one_clock (clocks_in signals))) _ (ap not wrong)

pub interface_right : (scopes : Scopes) (x : Interface) (signals : List TypedSignal) → each (typed_signal scopes) x.signals ≡ Ok signals → is_one_clock (clocks_in signals) ≡ true
    → typed_interface scopes x ≡ Ok (record { line = x.line; name = x.name; signals = signals })
unfolding typed_interface
interface_right scopes x signals e right = ok_then (each (typed_signal scopes) x.signals) signals _ e ∙ passed_by x.line 37 (not (is_one_clock (clocks_in signals))) _ (ap not right)
