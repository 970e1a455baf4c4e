use Rattle.mc_value.proofs.Results.{binary_within, unary_within, shift_within}
use Rattle.mc_value.proofs.laws.results_are_in_range.Goals as goal

pub returns : goal.returns
returns c = (binary_within, unary_within, shift_within)
