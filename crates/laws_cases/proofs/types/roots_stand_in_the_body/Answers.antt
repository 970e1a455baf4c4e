use Rattle.std.proofs.Common.{[], ◌∷◌}
use Rattle.mc_tree.specs.Tree as tree
use Rattle.laws_cases.proofs.types.roots_stand_in_the_body.Goals as goal

pub returns : goal.returns
returns c spans words d body at p f each typed root =
    (c.decisions_stand_in_the_source.ensures spans (tree.Defined words d body at ∷ []) p f (each, tt) typed root).0
