use Rattle.std.proofs.Common.{◌≤◌, arith, refl, inl, inr}
use Rattle.std.proofs.lemmas.Bool.{and_left, and_right, lt-leb}
use Rattle.four_state.proofs.Literals.{some_plain, no_width, of_places, of_decimal, last_base}
use Rattle.four_state.proofs.vec4.Vec4.from_digits.Goals as goal

pub returns-then-width-eq0 : goal.returns-then-width-eq0
returns-then-width-eq0 c =
    no_width c.args.width c.args.base c.args.digits.now
    (elim c.then-width-eq0.either [
      | inl none ↦ and_left _ _ (lt-leb 1 c.args.width (omega arith))
      | inr wide ↦ and_right _ _ (lt-leb c.args.width 128 wide.1)
    ])

pub by_places-requires-clause-digit : goal.by_places-requires-clause-digit
by_places-requires-clause-digit c = some_plain _ c.requires.digit

pub by_places-requires-in-8-clause-digit : goal.by_places-requires-in-8-clause-digit
by_places-requires-in-8-clause-digit c = some_plain _ c.requires.digit

pub by_places-requires-in-16-clause-digit : goal.by_places-requires-in-16-clause-digit
by_places-requires-in-16-clause-digit c = some_plain _ c.requires.digit

pub returns-in-2 : goal.returns-in-2
returns-in-2 c =
    let low : 1 ≤ c.args.width = omega arith in
    rw c.in-2.is (of_places c.args.width 2 c.args.digits.now low c.if-width-gt128.false _ 1 refl refl c.by_places.ensures)

pub returns-in-8 : goal.returns-in-8
returns-in-8 c =
    let low : 1 ≤ c.args.width = omega arith in
    rw c.in-8.is (of_places c.args.width 8 c.args.digits.now low c.if-width-gt128.false _ 3 refl refl c.by_places-in-8.ensures)

pub returns-in-16 : goal.returns-in-16
returns-in-16 c =
    let low : 1 ≤ c.args.width = omega arith in
    rw c.in-16.is (of_places c.args.width 16 c.args.digits.now low c.if-width-gt128.false _ 4 refl refl c.by_places-in-16.ensures)

pub returns-in_default : goal.returns-in_default
returns-in_default c =
    let low : 1 ≤ c.args.width = omega arith in
    let ten = last_base c.args.base c.requires.base (λ h. omega arith) (λ h. omega arith) (λ h. omega arith) in
    of_decimal c.args.width c.args.base c.args.digits.now low c.if-width-gt128.false _ ten c.decimal.ensures
