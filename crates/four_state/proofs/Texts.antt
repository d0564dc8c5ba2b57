-- The cases of the texts.
use Rattle.std.proofs.Common.{◌≡◌, Bool, true, false, List, codes, decimal}
use Rattle.std.specs.Fmt.{signed_decimal}
use Rattle.four_state.specs.Bits.{all_known}
use Rattle.four_state.specs.Numbers.{number_of, signed_number_of}
use Rattle.four_state.specs.Texts.{decimal_text}
use Rattle.four_state.specs.declared.bit.Bit.{Bit}

pub decimal_unknown : (signed : Bool) (bits : List Bit) → all_known bits ≡ false → decimal_text signed bits ≡ codes "x"
unfolding decimal_text
decimal_unknown signed bits h = rw h

pub decimal_signed : (bits : List Bit) → all_known bits ≡ true → decimal_text true bits ≡ signed_decimal (signed_number_of bits)
unfolding decimal_text
decimal_signed bits h = rw h

pub decimal_unsigned : (bits : List Bit) → all_known bits ≡ true → decimal_text false bits ≡ decimal (number_of bits)
unfolding decimal_text
decimal_unsigned bits h = rw h
