use Rattle.reread_law_probes.proofs.laws.stood.places_are_apart.Goals as goal

pub returns : goal.returns
returns c d tokens unit p m follow tree typed =
    c.programs_stand_apart.ensures unit p m typed (c.stands_are_apart.ensures d tokens unit follow tree)
