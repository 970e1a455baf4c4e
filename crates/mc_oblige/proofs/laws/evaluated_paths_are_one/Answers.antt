use Rattle.mc_oblige.specs.Shown.{HasEvent}
use Rattle.mc_oblige.proofs.Ascending.{one_list_of_paths}
use Rattle.mc_oblige.proofs.laws.evaluated_paths_are_one.Goals as goal

pub returns : goal.returns
returns c = λ m x es fs h g. one_list_of_paths (HasEvent m x) m es fs h g
