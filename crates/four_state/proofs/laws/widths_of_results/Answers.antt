use Rattle.four_state.proofs.Numbers.{length-vector_of}
use Rattle.four_state.proofs.Widths.{length-all_x, length-vector_of_integer, length-extended, length-sum_of, length-difference_of, length-product_of, length-negated_of, length-quotient_of, length-remainder_of, length-each_pair, length-not_of, length-shifted_left, length-shifted_right, length-selected}
use Rattle.four_state.proofs.laws.widths_of_results.Goals as goal

pub returns-clause-all_x : goal.returns-clause-all_x
returns-clause-all_x c = length-all_x

pub returns-clause-vector : goal.returns-clause-vector
returns-clause-vector c = length-vector_of

pub returns-clause-integer_vector : goal.returns-clause-integer_vector
returns-clause-integer_vector c = length-vector_of_integer

pub returns-clause-extended : goal.returns-clause-extended
returns-clause-extended c = length-extended

pub returns-clause-sum : goal.returns-clause-sum
returns-clause-sum c = length-sum_of

pub returns-clause-difference : goal.returns-clause-difference
returns-clause-difference c = length-difference_of

pub returns-clause-product : goal.returns-clause-product
returns-clause-product c = length-product_of

pub returns-clause-negated : goal.returns-clause-negated
returns-clause-negated c = length-negated_of

pub returns-clause-quotient : goal.returns-clause-quotient
returns-clause-quotient c = length-quotient_of

pub returns-clause-remainder : goal.returns-clause-remainder
returns-clause-remainder c = length-remainder_of

pub returns-clause-each_pair : goal.returns-clause-each_pair
returns-clause-each_pair c = length-each_pair

pub returns-clause-not : goal.returns-clause-not
returns-clause-not c = length-not_of

pub returns-clause-shifted_left : goal.returns-clause-shifted_left
returns-clause-shifted_left c = length-shifted_left

pub returns-clause-shifted_right : goal.returns-clause-shifted_right
returns-clause-shifted_right c = length-shifted_right

pub returns-clause-selected : goal.returns-clause-selected
returns-clause-selected c = length-selected
