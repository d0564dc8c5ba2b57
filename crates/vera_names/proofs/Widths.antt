-- The width of so many bits.
use Rattle.std.proofs.Common.{◌≡◌, ℕ, zero, suc, ◌≤◌, Bool, true, false, Some, ap, subst, arith}
use Rattle.std.specs.Prelude.{nat_le}
use Rattle.std.proofs.Math.Bridge.{le_prop}
use Rattle.std.proofs.lemmas.Bool.{le-leb}
use Rattle.vera_ast.specs.declared.typed.types.Width.{Width}
use Rattle.typing_rules.specs.Types.{sized, width_from}

-- widths are the same where they have as many bits
width_is : (b c : ℕ) → b ≡ c → (p : 1 ≤ b) (q : b ≤ 128) (r : 1 ≤ c) (t : c ≤ 128) → ◌≡◌ {A = Width} (record { bits = b; not_empty = p; within = q }) (record { bits = c; not_empty = r; within = t })
width_is b c e = subst (λ (c : ℕ). (p : 1 ≤ b) (q : b ≤ 128) (r : 1 ≤ c) (t : c ≤ 128) → ◌≡◌ {A = Width} (record { bits = b; not_empty = p; within = q }) (record { bits = c; not_empty = r; within = t })) e
    (λ p q r t. λ i. record { bits = b; not_empty = le_prop p r i; within = le_prop q t i })

sized_some : (m : ℕ) (b : Bool) (e : nat_le m 127 ≡ b) (w : Width) → suc m ≡ w.bits → sized m b e ≡ Some w
sized_some m true e w is = ap (λ (w : Width). Some w) (width_is (suc m) w.bits is _ _ w.not_empty w.within)
sized_some m false e w is =
    let le : m ≤ 127 = let most : w.bits ≤ 128 = w.within in omega arith in
    let yes : nat_le m 127 ≡ true = le-leb m 127 le in
    absurd cc

pub width_of_bits : (n : ℕ) (w : Width) → n ≡ w.bits → width_from n ≡ Some w
unfolding width_from
width_of_bits zero w is = let least : 1 ≤ w.bits = w.not_empty in absurd (omega arith)
width_of_bits (suc m) w is = sized_some m (nat_le m 127) _ w is
