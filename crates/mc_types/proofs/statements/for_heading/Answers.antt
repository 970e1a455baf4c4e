use Rattle.mc_types.proofs.statements.for_heading.Goals as goal

pub returns-in-Ok-clause-parts : goal.returns-in-Ok-clause-parts
returns-in-Ok-clause-parts c =
    rw c.enter-outer.ensures.entered at c.in-Ok.ensures
