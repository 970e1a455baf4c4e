use Rattle.mc_masking.proofs.reach.influence.Goals as goal

pub returns : goal.returns
returns c = λ k v path.
    let masks = rw c.requires.numbering at c.influence.ensures in
    masks v path k
