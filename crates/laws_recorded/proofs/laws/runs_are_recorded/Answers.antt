use Rattle.laws_recorded.proofs.laws.runs_are_recorded.Goals as goal

pub returns : goal.returns
returns c skipped p m tree plans x ready recorded =
    record { sound = ready.sound; map = ready.is_tree.is_map; bits = c.bits_stand.ensures p m tree plans skipped x ready recorded }
