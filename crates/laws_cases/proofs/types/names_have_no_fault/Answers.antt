use Rattle.mc_tree.specs.Tree as tree
use Rattle.laws_cases.proofs.types.names_have_no_fault.Goals as goal

pub returns : goal.returns
returns c name s v typed = c.values_have_no_fault.ensures (tree.Named name) s v tt typed
