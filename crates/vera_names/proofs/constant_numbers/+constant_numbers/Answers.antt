use Rattle.vera_names.proofs.NumberViews.{parentheses_gives}
use Rattle.vera_names.proofs.constant_numbers.+constant_numbers.Goals as goal

pub number_of_form-returns-in-Parentheses : goal.number_of_form-returns-in-Parentheses
number_of_form-returns-in-Parentheses t c = parentheses_gives _ _ _ _ _ c.in-Parentheses.is c.get.ensures c.number_in.ensures
