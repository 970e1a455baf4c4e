use Rattle.mc_functions.specs.Standing.{function_of}
use Rattle.mc_functions.proofs.Standing.{stands, stands_once}
use Rattle.mc_functions.proofs.laws.stands_in_one.Goals as goal

pub returns : goal.returns
returns c = λ names at some. (stands names at some, λ k other. stands_once names k (function_of names at) at other (stands names at some))
